-- How a list of fibers is read, one after the other.
use Rattle.std.proofs.Common.{◌≡◌, ℕ, suc, ◌+◌, ◌-◌, ◌<◌, ◌≤◌, Bool, true, false, not, ◌&&◌, cond, List, [], ◌∷◌, ◌++◌, length, refl, sym, ap, ◌∙◌, subst, arith, Option, Some, None}
use Rattle.std.proofs.lemmas.List.{append_assoc, append-nil, length-append}
use Rattle.rx_elem.specs.Elements.{Element}
use Rattle.rx_elem.specs.Trees.{Mark, Node, node, Forest, forest, shows_fallback}
use Rattle.rx_lists.specs.Shapes.{Shape, none, fiber, size}
use Rattle.rx_links.specs.Drafts.{Trees}
use Rattle.rx_fiber.specs.Fibers.{Fiber, begun}
use Rattle.rx_fiber.specs.FiberView.{stage_seen}
use Rattle.rx_fiber.specs.declared.stage.Stage as declared
use Rattle.rx_fiber.specs.declared.stage.Stage.TheVariants as variants
use Rattle.rx_node.specs.declared.mark.Mark as code
use Rattle.rx_fiber.specs.OldLists.{is_fallback, filled, falls_in, begins_fallback, first_kids, primary_list, fallback_list}
use Rattle.rx_read.specs.Lists.{list_of}
use Rattle.rx_read.specs.Places.{mark_in, primary_from, fallback_from, node_if, own_places, places_in, fallback_behind, first_places, first_node}
use Rattle.rx_read.proofs.Links.{Linked}

-- The lists of a node

module _ (t : Trees Fiber) (i : ℕ) (v : Fiber) (c s : Option ℕ) (l : Linked t i v c s) where
  pub shown_children : falls_in v.stage ≡ false → list_of t c ≡ primary_list (list_of t (Some i))
  shown_children h = let e = l.list in rw (e, h) refl

  pub shown_fallback : falls_in v.stage ≡ false → none ≡ fallback_list (list_of t (Some i))
  shown_fallback h = let e = l.list in rw (e, h) refl

  pub alone_children : falls_in v.stage ≡ true → begins_fallback (list_of t s) ≡ false → none ≡ primary_list (list_of t (Some i))
  alone_children h b = let e = l.list in rw (e, h, b) refl

  pub alone_fallback : falls_in v.stage ≡ true → begins_fallback (list_of t s) ≡ false → list_of t c ≡ fallback_list (list_of t (Some i))
  alone_fallback h b = let e = l.list in rw (e, h, b) refl

  pub kept_children : falls_in v.stage ≡ true → begins_fallback (list_of t s) ≡ true → list_of t c ≡ primary_list (list_of t (Some i))
  kept_children h b = let e = l.list in rw (e, h, b) refl

  pub kept_fallback : falls_in v.stage ≡ true → begins_fallback (list_of t s) ≡ true → first_kids (list_of t s) ≡ fallback_list (list_of t (Some i))
  kept_fallback h b = let e = l.list in rw (e, h, b) refl

  pub begins_is : begins_fallback (list_of t (Some i)) ≡ is_fallback v.stage
  begins_is = let e = l.list in rw e refl

  pub first_kids_are : list_of t c ≡ first_kids (list_of t (Some i))
  first_kids_are = let e = l.list in rw e refl

-- a node's lists are smaller than the list from its fiber on
if_smaller : (b : Bool) (s : Shape Fiber) (n : ℕ) → size s < n → 0 < n → size (cond b none s) < n
if_smaller true s n h z = z
if_smaller false s n h z = h

kids_smaller : (s : Shape Fiber) → size (first_kids s) ≤ size s
kids_smaller none = omega arith
kids_smaller (fiber id v ks rs) = omega arith

pub primary_smaller : (t : Trees Fiber) (i : ℕ) (v : Fiber) (c s : Option ℕ) → Linked t i v c s → size (primary_list (list_of t (Some i))) < size (list_of t (Some i))
primary_smaller t i v c s l = let e = l.list in rw e (if_smaller (falls_in v.stage && not (begins_fallback (list_of t s))) (list_of t c) _ (omega arith) (omega arith))

fallback_less : (b d : Bool) (ks rs : Shape Fiber) → size (cond b (cond d (first_kids rs) ks) none) < suc (size ks + size rs)
fallback_less true true ks rs = omega (arith, kids_smaller rs)
fallback_less true false ks rs = omega arith
fallback_less false d ks rs = omega arith

pub fallback_smaller : (t : Trees Fiber) (i : ℕ) (v : Fiber) (c s : Option ℕ) → Linked t i v c s → size (fallback_list (list_of t (Some i))) < size (list_of t (Some i))
fallback_smaller t i v c s l = let e = l.list in rw e (fallback_less (falls_in v.stage) (begins_fallback (list_of t s)) (list_of t c) (list_of t s))

pub rest_smaller : (t : Trees Fiber) (i : ℕ) (v : Fiber) (c s : Option ℕ) → Linked t i v c s → size (list_of t s) < size (list_of t (Some i))
rest_smaller t i v c s l = let e = l.list in rw e (omega arith)

-- One fiber is read

pub not_begun : (s : declared.Stage) → ((m : code.Mark) → s ≡ variants.Begun m → ⊥) → mark_in (stage_seen s) ≡ None
not_begun (variants.Waiting c) h = refl
not_begun (variants.Begun m) h = absurd (h m refl)
not_begun (variants.Trying c) h = refl
not_begun variants.Guarding h = refl
not_begun (variants.Fallback a) h = refl

-- a fiber that stands for no node has none
pub none_read : (t : Trees Fiber) (i : ℕ) (v : Fiber) (c s : Option ℕ) → Linked t i v c s → mark_in v.stage ≡ None → None ≡ first_node (list_of t (Some i))
none_read t i v c s l m = let e = l.list in rw (e, m) refl

behind_is : (s : Shape Fiber) (hidden : Bool) (ks : Shape Fiber)
    → (primary_from hidden (forest (places_in 0 ks)) (fallback_behind s) ≡ forest (places_in 0 (cond (hidden && not (begins_fallback s)) none ks)))
    × (fallback_from hidden (forest (places_in 0 ks)) (fallback_behind s) ≡ forest (places_in 0 (cond hidden (cond (begins_fallback s) (first_kids s) ks) none)))
behind_is none true ks = (refl, refl)
behind_is s false ks = (refl, refl)
behind_is (fiber jd w ws rest) true ks = by_stage (is_fallback w.stage)
  where
    by_stage : (b : Bool)
        → (primary_from true (forest (places_in 0 ks)) (cond b (Some (forest (places_in 0 ws))) None) ≡ forest (places_in 0 (cond (true && not b) none ks)))
        × (fallback_from true (forest (places_in 0 ks)) (cond b (Some (forest (places_in 0 ws))) None) ≡ forest (places_in 0 (cond true (cond b ws ks) none)))
    by_stage true = (refl, refl)
    by_stage false = (refl, refl)

-- the node of a fiber with a mark, by its lists
node_is : (v : Fiber) (m : Mark) (id : ℕ) (ks rs : Shape Fiber) → v.stage ≡ begun m
    → first_node (fiber id v ks rs)
    ≡ Some (node v.element m (forest (places_in 0 (primary_list (fiber id v ks rs)))) (forest (places_in 0 (fallback_list (fiber id v ks rs)))))
node_is v m id ks rs e =
    let b = behind_is rs (shows_fallback m) ks in
    let h : falls_in v.stage ≡ shows_fallback m = ap falls_in e in
    let k : mark_in v.stage ≡ Some m = ap mark_in e in
    rw (k, h, b.0, b.1) refl

pub node_parts : (n : Node) (e f : Element) (m k : Mark) (ns fs : Forest) → n ≡ node e m ns fs → e ≡ f → m ≡ k → n ≡ node f k ns fs
node_parts n e f m k ns fs is p q = is ∙ (λ j. node (p j) (q j) ns fs)

-- the node of a fiber is that of its lists
pub node_read : (t : Trees Fiber) (i : ℕ) (v : Fiber) (c s : Option ℕ) → Linked t i v c s → (m : Mark) → v.stage ≡ begun m
    → (n : Node) (children fallbacks : List (Option Node))
    → children ≡ places_in 0 (primary_list (list_of t (Some i))) → fallbacks ≡ places_in 0 (fallback_list (list_of t (Some i)))
    → n ≡ node v.element m (forest children) (forest fallbacks)
    → Some n ≡ first_node (list_of t (Some i))
node_read t i v c s l m e n children fallbacks a b is =
    let q = l.list in
    ap Some is
    ∙ (λ j. Some (node v.element m (forest (a j)) (forest (b j))))
    ∙ rw q (sym (node_is v m i (list_of t c) (list_of t s) e))

-- the node of one that does stands at its place
places_some : (o : Option Mark) (n : ℕ) (v : Fiber) (kids : Forest) (behind : Option Forest) (x : Node) → node_if o v kids behind ≡ Some x
    → own_places o n v kids behind ≡ filled (v.place - n) None ++ Some x ∷ []
places_some None n v kids behind x e = cc
places_some (Some m) n v kids behind x e = ap (λ o. filled (v.place - n) None ++ o ∷ []) e

-- the node of a fiber goes behind the places before its own
pub node_added : (t : Trees Fiber) (i : ℕ) (v : Fiber) (c s : Option ℕ) → Linked t i v c s → (xs ys zs : List (Option Node)) (x : Node)
    → Some x ≡ first_node (list_of t (Some i)) → ys ≡ xs ++ filled (v.place - length xs) None → zs ≡ ys ++ Some x ∷ []
    → zs ≡ xs ++ first_places (length xs) (list_of t (Some i))
node_added t i v c s l xs ys zs x e filled_up pushed =
    let q = l.list in
    let p : first_places (length xs) (list_of t (Some i)) ≡ filled (v.place - length xs) None ++ Some x ∷ [] =
    rw q (places_some (mark_in v.stage) (length xs) v (forest (places_in 0 (list_of t c))) (fallback_behind (list_of t s)) x (sym (e ∙ ap first_node q))) in
    pushed
    ∙ (ap (λ l. l ++ Some x ∷ []) filled_up
    ∙ (append_assoc xs (filled (v.place - length xs) None) (Some x ∷ []) ∙ ap (λ l. xs ++ l) (sym p)))

-- The fibers of a list are read

pub list_step : (t : Trees Fiber) (o : Option ℕ) (i : ℕ) (v : Fiber) (c s : Option ℕ) → Linked t i v c s → (xs ys all : List (Option Node)) → o ≡ Some i
    → xs ++ places_in (length xs) (list_of t o) ≡ all → ys ≡ xs ++ first_places (length xs) (list_of t (Some i))
    → ys ++ places_in (length ys) (list_of t s) ≡ all
list_step t o i v c s l xs ys all is before e =
    let q = l.list in
    step (list_of t c) (list_of t s) (subst (λ d. xs ++ places_in (length xs) d ≡ all) (ap (list_of t) is ∙ q) before)
    (subst (λ d. ys ≡ xs ++ first_places (length xs) d) q e)
  where
    step : (ks rs : Shape Fiber) → xs ++ places_in (length xs) (fiber i v ks rs) ≡ all → ys ≡ xs ++ first_places (length xs) (fiber i v ks rs)
        → ys ++ places_in (length ys) rs ≡ all
    step ks rs before e =
        let own = first_places (length xs) (fiber i v ks rs) in
        let longer : length ys ≡ length xs + length own = ap length e ∙ length-append xs own in
        ap (λ n. ys ++ places_in n rs) longer
        ∙ (ap (λ l. l ++ places_in (length xs + length own) rs) e
        ∙ (append_assoc xs own (places_in (length xs + length own) rs) ∙ before))

pub list_end : (t : Trees Fiber) (xs all : List (Option Node)) (o : Option ℕ) → o ≡ None → xs ++ places_in (length xs) (list_of t o) ≡ all → xs ≡ all
list_end t xs all o e h = sym (append-nil xs) ∙ subst (λ q. xs ++ places_in (length xs) (list_of t q) ≡ all) e h
