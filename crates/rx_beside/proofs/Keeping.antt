-- A made fiber that took its children over, or is the same text, stands for the node that its alternate stands for.
use Rattle.std.proofs.Common.{◌≡◌, ℕ, true, false, refl, sym, ap, ◌∙◌, subst, is_some, Option, Some, None}
use Rattle.std.specs.Prelude.{option_and_then}
use Rattle.rx_elem.specs.Trees.{Mark, node, forest, of_host, shows_fallback, is_hidden}
use Rattle.rx_elem.specs.Trees as trees
use Rattle.rx_node.specs.Fixed.{is_fixed_mark}
use Rattle.rx_lists.specs.Shapes.{Shape, none, fiber, first}
use Rattle.rx_links.specs.Drafts.{Draft, taken, made, Trees, entry, Makes, Fits, old_of, old_kids, grafted}
use Rattle.rx_links.specs.Places.{Around, top, below, after, placed}
use Rattle.rx_links.specs.Readers.{value_of, IsLinked, made_kids_of, made_value_of}
use Rattle.rx_links.proofs.Placed.{is-at}
use Rattle.rx_fiber.specs.Fibers.{Fiber, begun}
use Rattle.rx_fiber.specs.OldLists.{hides_in}
use Rattle.rx_read.specs.Lists.{list_of}
use Rattle.rx_read.specs.Places.{mark_in, places_in, first_node}
use Rattle.rx_read.proofs.Links.{Linked}
use Rattle.rx_beside.specs.Alike.{IsLike, TakesAlike, AllTakeAlike}
use Rattle.rx_beside.proofs.Standing.{beside_at, old_held, begun_node, old_node, new_node}

-- what holds of each made fiber holds of those of a list among them
alike_placed : (c : Shape Fiber) (k : Around Fiber) (d : Draft Fiber) → AllTakeAlike c (placed k d) → AllTakeAlike c d
alike_placed c top d h = h
alike_placed c (below id v o rs k) d h = let q = alike_placed c k (made id v o d rs) h in q.1.0
alike_placed c (after id v o ks k) d h = let q = alike_placed c k (made id v o ks d) h in q.1.1

-- a fiber that took children over is like the current one
taken_alike : (c : Shape Fiber) (v : Fiber) (o : Option ℕ) (kids : Draft Fiber) (s : Shape Fiber) → TakesAlike c v o kids → kids ≡ taken s → is_some (first s) ≡ true
    → hides_in v.stage ≡ false → (x : Fiber) × (option_and_then (value_of c) o ≡ Some x) × IsLike x v
taken_alike c v o kids none h e some shown = cc
taken_alike c v o kids (fiber id w ks rs) h e some shown = let q = subst (TakesAlike c v o) e h in q shown

like_is : (c : Shape Fiber) (o : Option ℕ) (j : ℕ) (u v : Fiber) → o ≡ Some j → Some u ≡ value_of c j → (x : Fiber) × (option_and_then (value_of c) o ≡ Some x) × IsLike x v → IsLike u v
like_is c o j u v e value (x, is, like) =
    let q : Some x ≡ Some u = sym is ∙ ap (option_and_then (value_of c)) e ∙ sym value in
    let z : x ≡ u = cc in subst (λ w. IsLike w v) z like

module _ (t : Trees Fiber) (fits : Fits t) (linked : IsLinked t.current) (alike : AllTakeAlike t.current t.draft) (p : ℕ) (makes : Makes t.draft p) (j : ℕ) (old : old_of t.draft p ≡ Some j)
    (took : made_kids_of t.draft p ≡ taken (old_kids t p)) (some : is_some (entry (made_kids_of t.draft p)) ≡ true)
    (u v : Fiber) (had_value : Some u ≡ value_of t.current j) (value : Some v ≡ made_value_of t.draft p) (n m : Mark) (had_stage : u.stage ≡ begun n) (stage : v.stage ≡ begun m)
    (fixed : is_fixed_mark n ≡ true) (shown : is_hidden m ≡ false) where
  kept_like : IsLike u v
  kept_like =
      let b = beside_at t fits linked p makes in
      let at = is-at t fits b.at.around p b.at.value b.at.old b.at.kids b.at.rest b.at.here in
      let same : v ≡ b.at.value = (let q : Some v ≡ Some b.at.value = value ∙ b.value in cc) in
      let all = alike_placed t.current b.at.around (made p b.at.value b.at.old b.at.kids b.at.rest) (subst (AllTakeAlike t.current) b.at.here alike) in
      let here = subst (λ w. TakesAlike t.current w b.at.old b.at.kids) (sym same) all.0 in
      like_is t.current b.at.old j u v (sym at.old ∙ old) had_value
      (taken_alike t.current v b.at.old b.at.kids (old_kids t p) here (sym b.kids ∙ took) (ap (λ d. is_some (entry d)) (sym took) ∙ some) (ap hides_in stage ∙ shown))

  -- Both stand for one node.
  pub kept_node : shows_fallback m ≡ false → first_node (list_of t (Some p)) ≡ first_node (list_of t (Some j))
  kept_node shows =
      let like = kept_like in
      let q : Some m ≡ Some n = sym (ap mark_in stage) ∙ like.mark n (ap mark_in had_stage) fixed in
      let same : m ≡ n = cc in
      new_node t p (beside_at t fits linked p makes) v value m stage shows
      ∙ ap (λ d. Some (node v.element m (forest (places_in 0 (grafted d))) trees.none)) took
      ∙ (λ i. Some (node (like.element i) (same i) (forest (places_in 0 (old_kids t p))) trees.none))
      ∙ sym (old_node t linked p j old (old_held t fits linked p makes j old) u had_value n had_stage (ap shows_fallback (sym same) ∙ shows))

-- the node of a text or a host without children
bare_node : (t : Trees Fiber) (i : ℕ) (v : Fiber) (c s : Option ℕ) → Linked t i v c s → c ≡ None → (n : Option ℕ) → v.stage ≡ begun (of_host n)
    → first_node (list_of t (Some i)) ≡ Some (node v.element (of_host n) trees.none trees.none)
bare_node t i v c s l bare n e =
    ap first_node l.list
    ∙ begun_node v (of_host n) i (list_of t c) (list_of t s) e refl
    ∙ ap (λ o. Some (node v.element (of_host n) (forest (places_in 0 (list_of t o))) trees.none)) bare

-- Two of the same number without children, of the same element, stand for one node.
pub bare_same : (t : Trees Fiber) (i j : ℕ) (u v : Fiber) (b c r s : Option ℕ) → Linked t j u b r → Linked t i v c s → b ≡ None → c ≡ None
    → (n : Option ℕ) → u.stage ≡ begun (of_host n) → v.stage ≡ begun (of_host n) → v.element ≡ u.element
    → first_node (list_of t (Some i)) ≡ first_node (list_of t (Some j))
bare_same t i j u v b c r s k l old new n had has same =
    bare_node t i v c s l new n has ∙ ap (λ e. Some (node e (of_host n) trees.none trees.none)) same ∙ sym (bare_node t j u b r k old n had)
