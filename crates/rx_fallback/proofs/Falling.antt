-- A boundary's fallback opens, alone or beside what the boundary keeps.
use Rattle.std.specs.Prelude.{◌≡◌, ℕ, ℤ, Bool, true, false, List, [], ◌∷◌, Option, Some, None, IfSome, is_some, slice_get}
use Rattle.std.proofs.Common.{refl, sym, ap, ◌∙◌, subst}
use Rattle.rx_base.specs.Awaits.{Awaits}
use Rattle.rx_ctx.specs.Contexts.{Stack, moved_in, moves_by, values_at}
use Rattle.rx_elem.specs.Elements.{Element}
use Rattle.rx_elem.specs.Elements as elements
use Rattle.rx_elem.specs.Trees.{Node, children_if, fallback_if, of_boundary}
use Rattle.rx_elem.specs.Compare.{old_nodes}
use Rattle.rx_susp.specs.declared.boundary.BoundaryState.TheVariants.{Hidden}
use Rattle.rx_lists.specs.Shapes.{Shape, none, first, Holds, IsTop}
use Rattle.rx_links.specs.Drafts.{Draft, taken, made, Trees, Makes, entry, old_of, kids_under, IsMadeList, IsUnused, old_kids, Fits, taking, valued, inserted}
use Rattle.rx_links.specs.Places.{after, placed, IsAt}
use Rattle.rx_links.specs.Readers.{list_from, old_list, IsLinked, made_value_of, made_value_in, made_kids_of, made_kids_in}
use Rattle.rx_meaning.specs.Fresh.{Part, part}
use Rattle.rx_meaning.specs.Cursor.{Cursor, Frame, Open, falling, open_part}
use Rattle.rx_meaning.specs.Touched.{children_with_old}
use Rattle.rx_fiber.specs.Fibers.{Fiber, as_matched, begun, fallback, is_cloned, origin_of}
use Rattle.rx_fiber.specs.FiberView.{changed}
use Rattle.rx_fiber.specs.declared.stage.StageChange.TheVariants as change
use Rattle.rx_fiber.specs.OldLists.{primary_list, fallback_list, matched}
use Rattle.rx_fiber.specs.Reading.{has_node}
use Rattle.rx_fiber.specs.Stood.{gave, given_in, given_more, one_more, StandsBut}
use Rattle.rx_fiber.specs.Surround.{given_along, moved_along, moves_along, AreNext, IsAround, IsOfNode, IsOldBehind, StandsIf, fallback_in, is_boundary, open_element}
use Rattle.rx_fiber.specs.Standing.{IsStack, opened, StandsAt}
use Rattle.rx_fiber.specs.Unwound.{IsLeftAt}
use Rattle.rx_fiber.proofs.Coming.{come_at}
use Rattle.rx_fiber.proofs.Matching.{matched_old}
use Rattle.rx_fiber.proofs.OldLists.{primary_is, fallback_is, kept_is, has_node_is, old_of_node}
use Rattle.rx_fiber.proofs.Opening.{falls_alone, falls_beside}
use Rattle.rx_fiber.proofs.Stacking.{unchanged}
use Rattle.rx_fiber.proofs.Stood.{fallback_stands}
use Rattle.rx_fiber.specs.declared.stage.Origin.{Origin}
use Rattle.rx_children.specs.Children.{AreMade, HasMadeFrom}
use Rattle.rx_children.specs.Nodes.{IsBareAt, IsBareBeside, HasList}
use Rattle.rx_fallback.specs.Opening.{IsLeft, left, KeepsNode, HasOpenedAs, opened_at, fallback_behind, HasKept, HasFallback, hidden_over, kept_below}
use Rattle.rx_children.specs.Origins.{KnowsClone}
use Rattle.rx_fiber.specs.declared.subtree.Subtree.{Subtree}
use Rattle.rx_fallback.specs.declared.opening.Opened.{Opened}
use Rattle.rx_children.proofs.Making.{KnowsPlaces, made_list}
use Rattle.rx_children.proofs.Matched.{matched_at}
use Rattle.rx_fallback.proofs.Beside.{alone_tops, beside_tops, sibling_top}
use Rattle.rx_fallback.proofs.FreeFallback.{old_behind, fallback_free}
use Rattle.rx_children.proofs.Nexts.{nexts, leads}
use Rattle.rx_children.proofs.Waiting.{all_wait}
use Rattle.rx_children.proofs.Taking.{took_so}

pub boundary_gives : (e : Element) → is_boundary e ≡ true → given_in e ≡ None
boundary_gives elements.null h = refl
boundary_gives (elements.text t) h = refl
boundary_gives (elements.host n k attrs es) h = refl
boundary_gives (elements.comp c k ps es) h = refl
boundary_gives (elements.list marked es) h = refl
boundary_gives (elements.boundary k f es) h = refl
boundary_gives (elements.catcher k f es) h = cc
boundary_gives (elements.provider c k x es) h = cc

-- a node that opens its list comes to the first fiber of it, or to its end
pub has_opened : (t : Trees Fiber) (st : Stack) (ms : List ℕ) (q levels : ℕ) (fs : List Frame) (x : Open) (list : Part) (d : Draft Fiber) → IsMadeList d
    → StandsAt t st (Some (come_at d q)) (open_part levels fs x list) → AreNext t.current ms (given_more (open_element x) (given_along fs)) 0 (children_with_old list) d
    → HasOpenedAs t st (open_part levels fs x list) (opened_at (entry d) q)
has_opened t st ms q levels fs x list (taken s) is at more =
    subst (λ f. HasOpenedAs t st (open_part levels fs x list) (opened_at f q)) (sym (ap first is))
    (at, leads t.current ms (given_more (open_element x) (given_along fs)) 0 levels fs x list.contexts [] (children_with_old list) (taken s) more)
has_opened t st ms q levels fs x list (made id v o ks rs) is at more =
    (at, leads t.current ms (given_more (open_element x) (given_along fs)) 0 levels fs x list.contexts [] (children_with_old list) (made id v o ks rs) more)

module _ (t : Trees Fiber) (st : Stack) (p : ℕ) (a : Awaits) (c : Cursor) (l : IsLeftAt t st p (taken none) a c) (linked : IsLinked t.current) where
  abbrev its_list : Part
  its_list = part (values_at st) (fallback_in l.value.element ∷ []) (fallback_if l.node)

  abbrev its_olds : List (Option ℕ)
  its_olds = matched (fallback_list (list_from t.current l.old)) (fallback_in l.value.element ∷ [])

  abbrev its_given : List (ℕ × ℤ)
  its_given = given_more l.value.element (given_along l.frames)

  abbrev its_moved : List ℕ
  its_moved = moved_along t.current l.around

  -- the fibers that are made for the fallback's list begin next
  abbrev pub BeginsNext : Draft Fiber → Type 0
  BeginsNext d = AreNext t.current its_moved its_given 0 (children_with_old its_list) d

  -- the old fibers of the fallback stand where its new ones will, but for contexts that have moved, if that of the boundary stands where it does
  olds_stand : StandsIf t.current its_moved (given_along l.frames) l.old → (i j : ℕ) → slice_get its_olds i ≡ Some (Some j) → StandsBut t.current its_moved its_given (Some j)
  olds_stand stands i j is =
      let (place, there, here) = matched_at (fallback_list (list_from t.current l.old)) (fallback_in l.value.element ∷ []) i j is in
      subst (λ g. StandsBut t.current its_moved (one_more g (given_along l.frames)) (Some j)) (sym (boundary_gives l.value.element l.boundary))
      (fallback_stands t.current its_moved (given_along l.frames) l.value.element l.old place j stands here)

  -- so do those that are matched with the old ones
  pub matched_next : (visible : Bool) (generation : ℕ) → (visible ≡ true → StandsIf t.current its_moved (given_along l.frames) l.old) → (es : List Element) (os : List (Option ℕ)) → es ≡ fallback_in l.value.element ∷ [] → os ≡ its_olds → (d : Draft Fiber) → AreMade t.current (as_matched visible generation) 0 es os d → BeginsNext d
  matched_next visible generation stands es os es_are os_are d are =
      let here : AreMade t.current (as_matched visible generation) 0 (fallback_in l.value.element ∷ []) its_olds d =
      subst (λ x. AreMade t.current (as_matched visible generation) 0 x its_olds d) es_are (subst (λ x. AreMade t.current (as_matched visible generation) 0 es x d) os_are are) in
      nexts t.current its_moved its_given 0 (fallback_in l.value.element ∷ []) its_olds (old_nodes (fallback_if l.node) (fallback_in l.value.element ∷ [])) d
      (all_wait t.current its_moved its_given (as_matched visible generation) 0 (fallback_in l.value.element ∷ []) its_olds d (λ so. absurd (let q : ⊥ = cc in q)) (λ so. olds_stand (stands so)) here)
      (matched_old t.current linked (fallback_if l.node) (fallback_list (list_from t.current l.old)) (fallback_is t.current linked l.old l.node l.was) (fallback_in l.value.element ∷ []))

  -- a fiber with the element of the boundary moves no context
  quiet : (new : Trees Fiber) (w : Fiber) (r : Option ℕ) → new.current ≡ t.current → w.element ≡ l.value.element
      → moves_along t.current l.around ≡ moves_by (given_in w.element) (gave new.current r) (moves_along new.current l.around)
  quiet new w r same element =
      ap (λ k. moves_along k l.around) (sym same)
      ∙ ap (λ g. moves_by g (gave new.current r) (moves_along new.current l.around)) (sym (ap given_in element ∙ boundary_gives l.value.element l.boundary))

  -- which contexts have moved below one
  abbrev moved_under : Trees Fiber → Fiber → Option ℕ → List ℕ
  moved_under new w r = moved_in (moves_by (given_in w.element) (gave new.current r) (moves_along new.current l.around))

  kids_next : (new : Trees Fiber) (w : Fiber) (r : Option ℕ) (d : Draft Fiber) → new.current ≡ t.current → w.element ≡ l.value.element → BeginsNext d → AreNext new.current (moved_under new w r) its_given 0 (children_with_old its_list) d
  kids_next new w r d same element begins =
      subst (λ (ms : List (ℕ × Bool)). AreNext new.current (moved_in ms) its_given 0 (children_with_old its_list) d) (quiet new w r same element)
      (subst (λ k. AreNext k its_moved its_given 0 (children_with_old its_list) d) (sym same) begins)

  surrounds_new : (new : Trees Fiber) → new.current ≡ t.current → IsAround new.current l.around l.value.place l.rest l.frames
  surrounds_new new same = subst (λ k. IsAround k l.around l.value.place l.rest l.frames) (sym same) l.surrounds

  -- it was made for the fiber of a node
  own_new : (new : Trees Fiber) → new.current ≡ t.current → IsOfNode new.current l.old
  own_new new same = subst (λ k. IsOfNode k l.old) (sym same) (old_of_node t.current l.old l.node l.was)

  stack_new : IsStack st ((falling l.value.element l.node a, values_at st) ∷ opened l.frames)
  stack_new = unchanged st (falling l.value.element l.node a) (opened l.frames) (boundary_gives l.value.element l.boundary) l.stack

  opens_so : (new : Trees Fiber) (f : Opened) → HasOpenedAs new st (open_part l.levels l.frames (falling l.value.element l.node a) its_list) f → HasOpenedAs new st c f
  opens_so new f h = subst (λ x. HasOpenedAs new st x f) (sym l.opens) h

  -- a boundary that keeps nothing has its fallback as its children
  pub left_alone : (origin : Origin) (new : Trees Fiber) (es : List Element) (os : List (Option ℕ)) (link : Option ℕ) → HasList origin t new p (begun (of_boundary (Hidden a))) es os link
      → ((d : Draft Fiber) → AreMade t.current origin 0 es os d → BeginsNext d) → has_node (children_if l.node) ≡ false → HasOpenedAs new st c (opened_at link p)
  left_alone origin new es os link done begins gone =
      let w : Fiber = record l.value { stage = begun (of_boundary (Hidden a)) } in
      let next = kids_next new w l.old done.kids done.current refl (begins done.kids done.are) in
      subst (λ x. HasOpenedAs new st c (opened_at x p)) (sym done.first_is)
      (opens_so new (opened_at (entry done.kids) p)
      (has_opened new st (moved_under new w l.old) p l.levels l.frames (falling l.value.element l.node a) its_list done.kids (made_list 0 es os done.kids done.are)
      (falls_alone new st l.around p l.levels w l.old done.kids l.rest l.frames l.value.element l.node a its_list
      (done.stands l.around l.value l.old l.rest l.here) refl refl gone (own_new new done.current) next (surrounds_new new done.current) stack_new (l.moves ∙ quiet new w l.old done.current refl))
      next))

  -- one that keeps something has it in a fiber of its own
  pub left_beside : (origin : Origin) (u w new : Trees Fiber) (r : Option ℕ) (q : ℕ) (es : List Element) (os : List (Option ℕ)) (link : Option ℕ) → HasKept t u p a → u.current ≡ t.current
      → (put : HasFallback u w p r a q) → (done : HasMadeFrom origin 0 w new q es os) → ((d : Draft Fiber) → AreMade t.current origin 0 es os d → BeginsNext d) → link ≡ entry done.kids
      → has_node (children_if l.node) ≡ true → r ≡ fallback_behind (list_from t.current l.old) → HasOpenedAs new st c (opened_at link q)
  left_beside origin u w new r q es os link kept same put done begins link_is some behind =
      let current : new.current ≡ t.current = done.current ∙ (put.current ∙ same) in
      let are : AreMade t.current origin 0 es os done.kids = subst (λ k. AreMade k origin 0 es os done.kids) (put.current ∙ same) done.are in
      let v : Fiber = hidden_over a (kept_below t p) l.value in
      let keeps : Shape Fiber = kids_under t.current l.old in
      let (element, there) = put.stands l.around v l.old (taken keeps) l.rest (kept l.around l.value l.old l.rest l.here) in
      let next = kids_next new put.value r done.kids current element (begins done.kids are) in
      subst (λ x. HasOpenedAs new st c (opened_at x q)) (sym link_is)
      (opens_so new (opened_at (entry done.kids) q)
      (has_opened new st (moved_under new put.value r) q l.levels l.frames (falling l.value.element l.node a) its_list done.kids (made_list 0 es os done.kids are)
      (falls_beside new st l.around p q l.levels v put.value l.old r keeps done.kids l.rest l.frames l.value.element l.node a its_list
      (done.stands (after p v l.old (taken keeps) l.around) put.value r l.rest there)
      (record {
        of = record { at = refl; element = refl; stage = refl };
        element = element;
        stage = put.stage;
        keeps = some;
        are = kept_is t.current linked l.old l.node l.was some;
      })
      (own_new new current) (subst (λ k. IsOldBehind k l.old r) (sym current) (old_behind t.current l.old r behind))
      next (surrounds_new new current) stack_new (l.moves ∙ quiet new put.value r current element))
      next))

  -- it keeps something if its old primary list has a fiber
  pub keeps_by : (link : Option ℕ) → list_from t.current link ≡ primary_list (list_from t.current l.old) → has_node (children_if l.node) ≡ is_some (first (list_from t.current link))
  keeps_by link e =
      let h = primary_is t.current linked l.old l.node l.was in
      has_node_is 0 (children_if l.node) (primary_list (list_from t.current l.old)) h.are ∙ ap (λ s. is_some (first s)) (sym e)

  pub here_bare : IsBareAt t p
  here_bare = record { around = l.around; value = l.value; old = l.old; rest = l.rest; here = l.here }

pub left_bare : (t : Trees Fiber) (p : ℕ) (a : Awaits) → IsLeft t p a → IsBareAt t p
left_bare t p a (left l) = record { around = l.around; value = l.value; old = l.old; rest = l.rest; here = l.here }

-- a boundary that tries its children is no clone
pub left_clone : (t : Trees Fiber) (p : ℕ) (a : Awaits) → IsLeft t p a → KnowsPlaces t → KnowsClone t p
left_clone t p a (left l) knows v here clone =
    let f : made_value_of t.draft p ≡ Some l.value = ap made_value_in (knows l.around p l.value l.old (taken none) l.rest l.here).list in
    let same : v ≡ l.value = cc in
    let not : is_cloned v.stage ≡ false = ap is_cloned (ap (λ u. u.stage) same ∙ l.stage) in
    absurd (let q : true ≡ false = sym clone ∙ not in let r : ⊥ = cc in r)

-- the fiber that it was made for
module _ (t : Trees Fiber) (st : Stack) (p : ℕ) (a : Awaits) (c : Cursor) (l : IsLeftAt t st p (taken none) a c) (knows : KnowsPlaces t) where
  left_at : IsAt t l.around p l.value l.old (taken none) l.rest
  left_at = knows l.around p l.value l.old (taken none) l.rest l.here

  pub left_old : (o : Option ℕ) → o ≡ old_of t.draft p → o ≡ l.old
  left_old o e = e ∙ left_at.old

  pub left_element : (v : Fiber) → Some v ≡ made_value_of t.draft p → v.element ≡ l.value.element
  left_element v e =
      let f : made_value_of t.draft p ≡ Some l.value = ap made_value_in left_at.list in
      let same : v ≡ l.value = cc in
      ap (λ u. u.element) same

  -- what is known of its place is what the boundary has kept
  pub left_origin : (v : Fiber) → Some v ≡ made_value_of t.draft p → origin_of v.stage ≡ l.origin
  left_origin v e =
      let f : made_value_of t.draft p ≡ Some l.value = ap made_value_in left_at.list in
      let same : v ≡ l.value = cc in
      ap (λ u. origin_of u.stage) same ∙ ap origin_of l.stage

-- a boundary that keeps nothing has room for its fallback's list
pub room_alone : (t : Trees Fiber) (p : ℕ) (a : Awaits) (o first : Option ℕ) → IsLeft t p a → KeepsNode t p a false → KnowsPlaces t → IsLinked t.current → o ≡ old_of t.draft p
    → list_from t.current first ≡ fallback_list (list_from t.current o) → IsBareBeside t p first
room_alone t p a o first (left {st = st} {c = c} l) gone knows linked e list = record {
  around = l.around;
  value = l.value;
  old = l.old;
  rest = l.rest;
  here = l.here;
  tops = λ j h.
      alone_tops t.current linked l.old l.node j l.was (gone st c l)
      (subst (λ q. IsTop (fallback_list (list_from t.current q)) j) (left_old t st p a c l knows o e) (subst (λ s. IsTop s j) list h));
}

-- what is taken over and hidden
module _ (t u : Trees Fiber) (p : ℕ) (knows : KnowsPlaces t) (took : u ≡ record t { draft = taking p (old_kids t p) t.draft }) where
  pub kept_so : (new : Trees Fiber) (a : Awaits) (under : Subtree) → under ≡ kept_below t p → KnowsPlaces u → new ≡ record u { draft = valued p (changed (change.Hide a under)) u.draft }
      → HasKept t new p a
  kept_so new a under is knows_u hid k v o rs e =
      subst (λ x. new.draft ≡ placed k (made p (hidden_over a x v) o (taken (kids_under t.current o)) rs)) is
      (ap (λ x. x.draft) hid ∙ (knows_u k p v o (taken (kids_under t.current o)) rs (took_so t u p knows took k v o rs e)).value (changed (change.Hide a under)))

-- the fallback's fiber stands right behind
pub put_so : (t new : Trees Fiber) (p id : ℕ) (w : Fiber) (old : Option ℕ) (a : Awaits) (v : Fiber) → KnowsPlaces t → new ≡ record t { draft = inserted p id w old t.draft }
    → w.stage ≡ fallback a → Some v ≡ made_value_of t.draft p → w.element ≡ v.element → HasFallback t new p old a id
put_so t new p id w old a v knows is stage value element = record {
  value = w;
  stage = stage;
  stands = λ k u o ks rs e.
      let at = knows k p u o ks rs e in
      let f : made_value_of t.draft p ≡ Some u = ap made_value_in at.list in
      let same : v ≡ u = cc in
      (element ∙ ap (λ x. x.element) same, ap (λ x. x.draft) is ∙ at.rest (λ rs. made id w old (taken none) rs));
  current = ap (λ x. x.current) is;
}

-- a boundary that keeps something: what is asked when its fallback's fiber is put
module _ (t u : Trees Fiber) (p : ℕ) (a : Awaits) (o : Option ℕ) (is_left : IsLeft t p a) (knows : KnowsPlaces t) (same_old : o ≡ old_of t.draft p) (kept : HasKept t u p a)
    (same : u.current ≡ t.current) where
  pub kept_made : KnowsPlaces u → Makes u.draft p
  kept_made knows_u = elim is_left [
    | left l ↦
        (knows_u l.around p (hidden_over a (kept_below t p) l.value) l.old (taken (kids_under t.current l.old)) l.rest (kept l.around l.value l.old l.rest l.here)).makes
  ]

  pub held_old : IfSome o (Holds u.current)
  held_old = elim is_left [
    | left l ↦
        subst (λ q. IfSome q (Holds u.current)) (sym (left_old t _ p a _ l knows o same_old))
        (subst (λ k. IfSome l.old (Holds k)) (sym same) (left_at t _ p a _ l knows).old_held)
  ]

  pub kept_sibling : (r : Option ℕ) → KnowsPlaces u → Fits u → IsLinked u.current → r ≡ fallback_behind (list_from t.current o) → IfSome r (IsTop (old_list u p))
  kept_sibling r knows_u fits linked e = elim is_left [
    | left l ↦
        sibling_top u fits linked knows_u l.around p (hidden_over a (kept_below t p) l.value) l.old r (taken (kids_under t.current l.old)) l.rest
        (kept l.around l.value l.old l.rest l.here) (e ∙ (ap (λ k. fallback_behind (list_from k o)) (sym same) ∙ ap (λ q. fallback_behind (list_from u.current q)) (left_old t _ p a _ l knows o same_old)))
  ]

  -- no fiber is made for the old fallback's yet
  pub kept_free : (r : Option ℕ) → KnowsPlaces u → Fits u → IsLinked u.current → r ≡ fallback_behind (list_from t.current o) → IfSome r (IsUnused u.draft)
  kept_free r knows_u fits linked e = elim is_left [
    | left l ↦
        fallback_free u fits linked knows_u l.around p l.value.place (hidden_over a (kept_below t p) l.value) l.old r (kids_under t.current l.old) l.rest l.frames
        (kept l.around l.value l.old l.rest l.here) (subst (λ k. IsAround k l.around l.value.place l.rest l.frames) (sym same) l.surrounds)
        (subst (λ k. IsOfNode k l.old) (sym same) (old_of_node t.current l.old l.node l.was))
        (e ∙ (ap (λ k. fallback_behind (list_from k o)) (sym same) ∙ ap (λ q. fallback_behind (list_from u.current q)) (left_old t _ p a _ l knows o same_old)))
  ]

  -- the fallback's fiber has room for its list
  pub room_beside : (w : Trees Fiber) (r first : Option ℕ) (q : ℕ) → KeepsNode t p a true → IsLinked t.current → r ≡ fallback_behind (list_from t.current o) → HasFallback u w p r a q
      → list_from t.current first ≡ fallback_list (list_from t.current o) → IsBareBeside w q first
  room_beside w r first q keeps linked e put list = elim is_left [
    | left l ↦ (
        let current : w.current ≡ t.current = put.current ∙ same in
        let behind : r ≡ fallback_behind (list_from t.current l.old) =
        e ∙ ap (λ x. fallback_behind (list_from t.current x)) (left_old t _ p a _ l knows o same_old) in
        let v : Fiber = hidden_over a (kept_below t p) l.value in
        record {
          around = after p v l.old (taken (kids_under t.current l.old)) l.around;
          value = put.value;
          old = r;
          rest = l.rest;
          here = (put.stands l.around v l.old (taken (kids_under t.current l.old)) l.rest (kept l.around l.value l.old l.rest l.here)).1;
          tops = λ j h.
              subst (λ k. IsTop (kids_under k r) j) (sym current)
              (beside_tops t.current linked l.old r l.node j l.was (keeps _ _ l) behind
              (subst (λ x. IsTop (fallback_list (list_from t.current x)) j) (left_old t _ p a _ l knows o same_old)
              (subst (λ s. IsTop s j) list (subst (λ k. IsTop (list_from k first) j) current h))));
        })
  ]

-- a list that was made for a fiber that had none
module _ (origin : Origin) (t new : Trees Fiber) (p : ℕ) (first : Option ℕ) (es : List Element) (os : List (Option ℕ)) (beside : IsBareBeside t p first) (done : HasMadeFrom origin 0 t new p es os)
    (knows : KnowsPlaces new) where
  new_at : IsAt new beside.around p beside.value beside.old done.kids beside.rest
  new_at = knows beside.around p beside.value beside.old done.kids beside.rest (done.stands beside.around beside.value beside.old beside.rest beside.here)

  pub new_made : Makes new.draft p
  new_made = new_at.makes

  pub new_link : (link : Option ℕ) → link ≡ entry (made_kids_of new.draft p) → link ≡ entry done.kids
  new_link link e = e ∙ ap entry (ap made_kids_in new_at.list)

pub left_held : (t : Trees Fiber) (p : ℕ) (a : Awaits) (o : Option ℕ) → IsLeft t p a → KnowsPlaces t → o ≡ old_of t.draft p → IfSome o (Holds t.current)
left_held t p a o (left {st = st} {c = c} l) knows e = subst (λ q. IfSome q (Holds t.current)) (sym (left_old t st p a c l knows o e)) (left_at t st p a c l knows).old_held

-- a boundary keeps something if its old primary list has a fiber
pub keeps_none : (t : Trees Fiber) (p : ℕ) (a : Awaits) (o link : Option ℕ) → IsLinked t.current → KnowsPlaces t → o ≡ old_of t.draft p
    → list_from t.current link ≡ primary_list (list_from t.current o) → link ≡ None → KeepsNode t p a false
keeps_none t p a o link linked knows e list is st c l =
    keeps_by t st p a c l linked link (list ∙ ap (λ q. primary_list (list_from t.current q)) (left_old t st p a c l knows o e))
    ∙ ap (λ q. is_some (first (list_from t.current q))) is

pub keeps_some : (t : Trees Fiber) (p : ℕ) (a : Awaits) (o link : Option ℕ) (i : ℕ) → IsLinked t.current → KnowsPlaces t → o ≡ old_of t.draft p
    → list_from t.current link ≡ primary_list (list_from t.current o) → link ≡ Some i → IfSome link (Holds t.current) → KeepsNode t p a true
keeps_some t p a o link i linked knows e list is held st c l =
    let (v, _, here) = linked.list i (subst (λ q. IfSome q (Holds t.current)) is held) in
    keeps_by t st p a c l linked link (list ∙ ap (λ q. primary_list (list_from t.current q)) (left_old t st p a c l knows o e))
    ∙ (ap (λ q. is_some (first (list_from t.current q))) is ∙ ap (λ s. is_some (first s)) here)
