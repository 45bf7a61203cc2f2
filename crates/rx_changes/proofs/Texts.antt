-- Lists of texts that stay where they are tell nothing.
use Rattle.std.proofs.Common.{◌≡◌, ℕ, Bool, true, false, not, ◌&&◌, List, [], ◌∷◌, Option, Some, length, refl, ap, sym, subst, ◌∙◌, append-nil, flat_map, map, if◌then◌else◌, arith}
use Rattle.rx_elem.specs.Elements.{Element, null, text, host, comp, list, boundary, catcher, provider}
use Rattle.rx_elem.specs.Trees.{Forest, Mark, Node, child, children_if, children_of, element_of, elements_in, fallback_if, fallback_of, is_hidden, is_host, mark_of, node, none, of_boundary, of_catcher, of_host, of_instance, places, plain, vacant}
use Rattle.rx_elem.specs.Compare.{Above, Change, above_children, above_fallback, change_of, compare, compare_in, gone_from, pasts}
use Rattle.rx_elem.specs.Spots.{Around}
use Rattle.rx_effect.specs.EffectLog.{Phase, destroyed_by_hiding, destroyed_in, own_created, own_destroyed}
use Rattle.rx_effect.specs.declared.log.LogLine.{LogLine}
use Rattle.rx_node.specs.Texts.{are_texts, is_bare, is_text, is_text_element}
use Rattle.rx_compare.specs.InPlace.{AreInPlace, IsInPlace, stayed}
use Rattle.rx_compare.proofs.InPlace.{no_nodes_gone, pasts_in_place}
use Rattle.rx_changes.specs.Below.{HasTextsInPlace, IsLeaf, with_below}
use Rattle.rx_changes.specs.Found.{Found, hiding, logged, no_effects, with_changes, with_effects, with_list, with_node}
use Rattle.rx_changes.specs.Owned.{HasNoEffects}
use Rattle.rx_changes.proofs.Bare.{leaf-below, no-own-created, no-own-destroyed, without-destroyed, without-effects}
use Rattle.rx_changes.proofs.Sums.{list-sum, none-sum}
use Rattle.rx_changes.proofs.Walking.{node-parts}

both : (a b : Bool) → a && b ≡ true → (a ≡ true) × (b ≡ true)
both true b h = (refl, h)
both false b h = absurd (cc h)

the_text : (e : Element) → is_text_element e ≡ true → (s : List ℕ) × (e ≡ text s)
the_text null h = absurd (cc h)
the_text (text s) h = (s, refl)
the_text (host n k attrs es) h = absurd (cc h)
the_text (comp n k ps es) h = absurd (cc h)
the_text (list m es) h = absurd (cc h)
the_text (boundary k e es) h = absurd (cc h)
the_text (catcher k e es) h = absurd (cc h)
the_text (provider c k v es) h = absurd (cc h)

the_host : (m : Mark) → is_host m ≡ true → (n : Option ℕ) × (m ≡ of_host n)
the_host (of_instance i) h = absurd (cc h)
the_host (of_host n) h = (n, refl)
the_host (of_boundary b) h = absurd (cc h)
the_host (of_catcher c) h = absurd (cc h)
the_host plain h = absurd (cc h)

nothing_in : (ns : Forest) → is_bare ns ≡ true → ns ≡ none
nothing_in none h = refl
nothing_in (vacant ns) h = absurd (cc h)
nothing_in (child n ns) h = absurd (cc h)

abbrev text_node : List ℕ → Option ℕ → Node
text_node s n = node (text s) (of_host n) none none

-- the node of a text is one
the_node : (x : Node) → is_text x ≡ true → (s : List ℕ) × ((n : Option ℕ) × (x ≡ text_node s n))
the_node (node e m ns fs) h =
    let first = both (is_text_element e) (is_host m && (is_bare ns && is_bare fs)) h in
    let second = both (is_host m) (is_bare ns && is_bare fs) first.1 in
    let third = both (is_bare ns) (is_bare fs) second.1 in
    let s = the_text e first.0 in
    let n = the_host m second.0 in
    (s.0, (n.0, λ i. node (s.1 i) (n.1 i) (nothing_in ns third.0 i) (nothing_in fs third.1 i)))

module _ (logs : Bool) (around : Around) (v : Bool) where
  abbrev above : Above
  above = record { around = around; was_visible = v; displaced = false }

  -- a text beside itself tells nothing
  one_text : (s t : List ℕ) (i j : Option ℕ) (f : Found)
      → f ≡ with_node logs (compare above (record { old = Some (text_node s i); moved = false }) (text_node t j)) f
  one_text s t i j f =
      let c : Change = change_of above (record { old = Some (text_node s i); moved = false }) (text_node t j) in
      let leaf : IsLeaf c = record { old = refl; behind = refl; new = refl; beside = refl } in
      let bare : HasNoEffects c = record { old = refl; new = refl } in
      let told : f ≡ with_changes (c ∷ []) f =
      λ k. record {
        layout = f.layout;
        passive = f.passive;
        placed = sym (append-nil f.placed) k;
        caught = sym (append-nil f.caught) k;
        hidden = f.hidden;
      } in
      node-parts logs c f f f f told (leaf-below logs c f leaf)
      (without-effects logs (λ q. own_destroyed q c) (λ q. own_created q c) f (no-own-destroyed c bare) (no-own-created c bare))

  one : (o n : Node) (f : Found) → is_text o ≡ true → is_text n ≡ true → f ≡ with_node logs (compare above (record { old = Some o; moved = false }) n) f
  one o n f h g =
      let x = the_node o h in
      let y = the_node n g in
      one_text x.0 y.0 x.1.0 y.1.0 f ∙ (λ i. with_node logs (compare above (record { old = Some (sym x.1.1 i); moved = false }) (sym y.1.1 i)) f)

  -- nor do the texts of a list
  texts : (os ns : Forest) (f : Found) → are_texts os ≡ true → are_texts ns ≡ true → length (places os) ≡ length (places ns)
      → f ≡ with_list logs (compare_in above (stayed os) ns) f
  texts none none f h g e = sym (none-sum logs f)
  texts none (vacant ns) f h g e = absurd (cc g)
  texts none (child n ns) f h g e = absurd (omega (arith, e))
  texts (vacant os) ns f h g e = absurd (cc h)
  texts (child o os) none f h g e = absurd (omega (arith, e))
  texts (child o os) (vacant ns) f h g e = absurd (cc g)
  texts (child o os) (child n ns) f h g e =
      let old = both (is_text o) (are_texts os) h in
      let new = both (is_text n) (are_texts ns) g in
      let x = compare above (record { old = Some o; moved = false }) n in
      let rest = compare_in above (stayed os) ns in
      texts os ns f old.1 new.1 (omega (arith, e)) ∙ ap (with_list logs rest) (one o n f old.0 new.0) ∙ list-sum logs x rest f

-- texts stand in place
in_place : (os ns : Forest) → are_texts os ≡ true → are_texts ns ≡ true → length (places os) ≡ length (places ns) → AreInPlace os ns
in_place none none h g e = tt
in_place none (vacant ns) h g e = absurd (cc g)
in_place none (child n ns) h g e = absurd (omega (arith, e))
in_place (vacant os) ns h g e = absurd (cc h)
in_place (child o os) none h g e = absurd (omega (arith, e))
in_place (child o os) (vacant ns) h g e = absurd (cc g)
in_place (child o os) (child n ns) h g e =
    let old = both (is_text o) (are_texts os) h in
    let new = both (is_text n) (are_texts ns) g in
    let x = the_node o old.0 in
    let y = the_node n new.0 in (
      subst (λ a. IsInPlace (element_of a) (element_of n)) (sym x.1.1) (subst (λ b. IsInPlace (text x.0) (element_of b)) (sym y.1.1) (record { key = refl; kind = refl })),
      in_place os ns old.1 new.1 (omega (arith, e)),
    )

-- below a node that has texts alone, as its past does, nothing is found
pub texts-below : (logs : Bool) (c : Change) (f : Found) → HasTextsInPlace c → f ≡ with_below logs c f
texts-below logs c f has =
    let shows = logs && not (is_hidden (mark_of c.new)) in
    let a = above_children c in
    let same = in_place (children_if c.old) (children_of c.new) has.old has.new has.same in
    let first : Phase → List LogLine = λ q. flat_map (destroyed_in q) (gone_from a.was_visible (children_if c.old) (children_of c.new)) in
    let second : Phase → List LogLine = λ q. flat_map (destroyed_in q) (gone_from c.was_visible (fallback_if c.old) (fallback_of c.new)) in
    let inner = compare_in a (pasts (children_if c.old) (elements_in (children_of c.new))) (children_of c.new) in
    let outer = compare_in (above_fallback c) (pasts (fallback_if c.old) (elements_in (fallback_of c.new))) (fallback_of c.new) in
    let gone : f ≡ with_effects (logged logs first) no_effects f =
    without-destroyed logs first f (λ q. ap (λ ns. flat_map (destroyed_in q) (map (λ n. record { node = n; was_visible = a.was_visible }) ns)) (no_nodes_gone (children_if c.old) (children_of c.new) same)) in
    let behind : f ≡ with_effects (logged logs second) no_effects f =
    without-destroyed logs second f (λ q. λ i. flat_map (destroyed_in q) (gone_from c.was_visible (has.behind i) (has.beside i))) in
    let kids : f ≡ with_list shows inner f =
    texts shows a.around a.was_visible (children_if c.old) (children_of c.new) f has.old has.new has.same
    ∙ (λ i. with_list shows
    (compare_in (record { around = a.around; was_visible = a.was_visible; displaced = sym has.still i })
    (sym (pasts_in_place (children_if c.old) (children_of c.new) same) i) (children_of c.new)) f) in
    let hides : f ≡ with_effects (logged logs (hiding c)) no_effects f =
    without-destroyed logs (hiding c) f (λ q. ap (λ b. if b then destroyed_by_hiding q c.was_visible c.old else []) has.shown) in
    let others : f ≡ with_list logs outer f =
    sym (none-sum logs f)
    ∙ (λ i. with_list logs (compare_in (above_fallback c) (pasts (fallback_if c.old) (elements_in (sym has.beside i))) (sym has.beside i)) f) in
    others
    ∙ ap (with_list logs outer)
    (hides
    ∙ ap (with_effects (logged logs (hiding c)) no_effects)
    (kids ∙ ap (with_list shows inner) (behind ∙ ap (with_effects (logged logs second) no_effects) gone)))
