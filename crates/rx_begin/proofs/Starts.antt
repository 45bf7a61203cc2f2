-- What a node leaves that is begun over its children.
use Rattle.std.specs.Prelude.{◌≡◌, ℕ, ℤ, suc, Bool, true, false, List, [], ◌∷◌, Option, Some}
use Rattle.std.proofs.Common.{refl, sym, ap, ◌∙◌, subst}
use Rattle.rx_ctx.specs.Contexts.{Stack, moved_at, moved_in, moves_by, values_at}
use Rattle.rx_elem.specs.Elements.{Element}
use Rattle.rx_elem.specs.Trees.{Node, Mark, none, is_hidden, children_if, fallback_if}
use Rattle.rx_elem.specs.Compare.{old_nodes}
use Rattle.rx_lists.specs.Shapes as shapes
use Rattle.rx_links.specs.Places.{Around, below, placed}
use Rattle.rx_links.specs.Drafts.{Draft, taken, made, Trees, old_of}
use Rattle.rx_links.specs.Readers.{list_from, IsLinked}
use Rattle.rx_meaning.specs.Fresh.{Sight, Contexts, Part, part, one_list, two_lists, guarded, waiting, throwing, shape_of}
use Rattle.rx_meaning.specs.Cursor.{Open, around, trying, guarding, Frame, at_place, open_part, unit}
use Rattle.rx_meaning.specs.Cursor as cursor
use Rattle.rx_meaning.specs.Touched.{children_with_old}
use Rattle.rx_fiber.specs.Fibers.{Fiber, begun}
use Rattle.rx_fiber.specs.Fibers as stage
use Rattle.rx_fiber.specs.OldLists.{primary_list, matched}
use Rattle.rx_fiber.specs.Reading.{IsOld}
use Rattle.rx_fiber.specs.Stood.{gave, given_in, given_more}
use Rattle.rx_fiber.specs.Surround.{open_element, given_along, moved_along, moves_along, AreNext, IsAround, IsOfNode, StandsIf, fallback_in, is_boundary, is_catcher}
use Rattle.rx_fiber.specs.Standing.{IsStack, opened, StandsAt, begins}
use Rattle.rx_fiber.specs.Unwound.{IsWithin}
use Rattle.rx_fiber.proofs.Coming.{come_at}
use Rattle.rx_fiber.proofs.OldLists.{primary_is, old_of_node}
use Rattle.rx_fiber.proofs.Matching.{AreOld, matched_old}
use Rattle.rx_fiber.proofs.Opening.{guards_children, opens_one, tries_children}
use Rattle.rx_fiber.proofs.Unwinding.{place_within}
use Rattle.rx_fiber.specs.declared.stage.Origin.{Origin}
use Rattle.rx_children.specs.Nodes.{begun_over, HasOpened}
use Rattle.rx_begin.specs.Beginning.{HasBegun, HasLists}
use Rattle.rx_children.specs.declared.node.Begun.{Begun}
use Rattle.rx_children.specs.declared.node.Begun.TheVariants.{Suspended, Thrown}
use Rattle.rx_children.proofs.Making.{KnowsPlaces}
use Rattle.rx_children.proofs.Nexts.{Leads, leads}

module _ (s : Sight) (t : Trees Fiber) (st : Stack) (new : Trees Fiber) (st' : Stack) (p n : ℕ) (fs : List Frame) (cs : Contexts) (e : Element) (old : Option Node) where
  pub unit_begins : unit s (at_place (suc n) fs cs e old) ≡ cursor.begin n fs e old (shape_of s cs e old)
  unfolding unit
  unit_begins = refl

  has_begun : (answer : Begun) (d : Draft Fiber) → answer ≡ begun_over d → StandsAt new st' (Some (come_at d p)) (unit s (at_place (suc n) fs cs e old))
      → Leads (begun_over d) (unit s (at_place (suc n) fs cs e old)) → HasLists (shape_of s cs e old) → HasBegun s t st new st' p n fs cs e old answer
  has_begun answer (taken l) is at form lists = subst (λ a. HasBegun s t st new st' p n fs cs e old a) (sym is) (at, form, lists)
  has_begun answer (made id v o ks rs) is at form lists = subst (λ a. HasBegun s t st new st' p n fs cs e old a) (sym is) (at, form, lists)

  -- a node comes to its list
  comes_to : (ms : List ℕ) (answer : Begun) (x : Open) (list : Part) (d : Draft Fiber) → answer ≡ begun_over d → cursor.begin n fs e old (shape_of s cs e old) ≡ open_part n fs x list
      → StandsAt new st' (Some (come_at d p)) (open_part n fs x list) → AreNext new.current ms (given_more (open_element x) (given_along fs)) 0 (children_with_old list) d → HasLists (shape_of s cs e old)
      → HasBegun s t st new st' p n fs cs e old answer
  comes_to ms answer x list d is same at kids lists =
      let u : unit s (at_place (suc n) fs cs e old) ≡ open_part n fs x list = unit_begins ∙ same in
      has_begun answer d is (subst (λ c. StandsAt new st' (Some (come_at d p)) c) (sym u) at)
      (subst (λ c. Leads (begun_over d) c) (sym u) (leads new.current ms (given_more (open_element x) (given_along fs)) 0 n fs x list.contexts [] (children_with_old list) d kids))
      lists

  module _ (linked : IsLinked t.current) (knows : KnowsPlaces t) where
    -- the old fibers of its children are those of their old nodes
    pub olds_of : (o : Option ℕ) (es : List Element) → IsOld t.current o old → AreOld t.current (matched (primary_list (list_from t.current o)) es) (old_nodes (children_if old) es)
    olds_of o es was = matched_old t.current linked (children_if old) (primary_list (list_from t.current o)) (primary_is t.current linked o old was) es

    -- which providers around its children give other values than their old nodes
    abbrev moves_below : List (ℕ × Bool)
    moves_below = moves_by (given_in e) (gave t.current (old_of t.draft p)) st.moves

    -- the same by the fibers
    moves_here : (k : Around Fiber) (v w : Fiber) (o : Option ℕ) (rs : Draft Fiber) → t.draft ≡ placed k (made p v o (taken shapes.none) rs) → new.current ≡ t.current → w.element ≡ e → st.moves ≡ moves_along t.current k
        → moves_below ≡ moves_along new.current (below p w o rs k)
    moves_here k v w o rs here same element moves =
        ap (moves_by (given_in e) (gave t.current (old_of t.draft p))) moves
        ∙ (ap (λ q. moves_by (given_in e) (gave t.current q) (moves_along t.current k)) (knows k p v o (taken shapes.none) rs here).old
        ∙ (ap (λ y. moves_by (given_in y) (gave t.current o) (moves_along t.current k)) (sym element)
        ∙ ap (λ c. moves_along c (below p w o rs k)) (sym same)))

    -- a node with one list
    pub begun_one : (origin : Origin) (answer : Begun) (m : Mark) (list : Part) (es : List Element) (os : List (Option ℕ)) → (done : HasOpened origin t new p (begun m) es os answer) → AreNext t.current (moved_in moves_below) (given_more e (given_along fs)) 0 (children_with_old list) done.kids
        → StandsAt t st (Some p) (at_place (suc n) fs cs e old) → shape_of s cs e old ≡ one_list m list → is_hidden m ≡ false
        → (values_at st ≡ cs → IsStack st (opened fs) → IsStack st' ((around e m, list.contexts) ∷ opened fs)) → st'.moves ≡ moves_below → HasBegun s t st new st' p n fs cs e old answer
    begun_one origin answer m list es os done beside (begins {v = v} {o = o} {rs = rs} {k = k} here is was surrounds values stack moves) shape shown stacks moved =
        let w : Fiber = record v { stage = begun m } in
        let along = moves_here k v w o rs here done.current is.element moves in
        let kids = subst (λ (ms : List (ℕ × Bool)). AreNext new.current (moved_in ms) (given_more e (given_along fs)) 0 (children_with_old list) done.kids) along
        (subst (λ c. AreNext c (moved_in moves_below) (given_more e (given_along fs)) 0 (children_with_old list) done.kids) (sym done.current) beside) in
        let surrounds' : IsAround new.current k v.place rs fs =
        subst (λ c. IsAround c k v.place rs fs) (sym done.current) (subst (λ place. IsAround t.current k place rs fs) (sym is.at) surrounds) in
        comes_to (moved_along new.current (below p w o rs k)) answer (around e m) list done.kids done.answer_is (ap (cursor.begin n fs e old) shape)
        (opens_one new st' k p n w o done.kids rs fs e m list (done.stands k v o rs here) is.element refl shown
        (subst (λ c. IsOfNode c o) (sym done.current) (old_of_node t.current o old was)) kids surrounds' (stacks values stack) (moved ∙ along))
        kids (subst (λ x. HasLists x) (sym shape) tt)

    -- an error boundary that tries its children
    pub begun_guarding : (origin : Origin) (answer : Begun) (es given : List Element) (os : List (Option ℕ)) → (done : HasOpened origin t new p stage.guarding given os answer)
        → AreNext t.current (moved_in moves_below) (given_more e (given_along fs)) 0 (children_with_old (part cs es (children_if old))) done.kids → StandsAt t st (Some p) (at_place (suc n) fs cs e old) → is_catcher e ≡ true
        → shape_of s cs e old ≡ guarded (part cs es (children_if old)) (part cs (fallback_in e ∷ []) none)
        → (values_at st ≡ cs → IsStack st (opened fs) → IsStack st' ((guarding e (part cs (fallback_in e ∷ []) none), cs) ∷ opened fs)) → st'.moves ≡ moves_below
        → HasBegun s t st new st' p n fs cs e old answer
    begun_guarding origin answer es given os done beside (begins {v = v} {o = o} {rs = rs} {k = k} here is was surrounds values stack moves) catcher shape stacks moved =
        let list : Part = part cs es (children_if old) in
        let w : Fiber = record v { stage = stage.guarding } in
        let along = moves_here k v w o rs here done.current is.element moves in
        let kids = subst (λ (ms : List (ℕ × Bool)). AreNext new.current (moved_in ms) (given_more e (given_along fs)) 0 (children_with_old list) done.kids) along
        (subst (λ c. AreNext c (moved_in moves_below) (given_more e (given_along fs)) 0 (children_with_old list) done.kids) (sym done.current) beside) in
        let surrounds' : IsAround new.current k v.place rs fs =
        subst (λ c. IsAround c k v.place rs fs) (sym done.current) (subst (λ place. IsAround t.current k place rs fs) (sym is.at) surrounds) in
        comes_to (moved_along new.current (below p w o rs k)) answer (guarding e (part cs (fallback_in e ∷ []) none)) list done.kids done.answer_is (ap (cursor.begin n fs e old) shape)
        (guards_children new st' k p n w o done.kids rs fs e old cs es (done.stands k v o rs here) is.element refl catcher
        (subst (λ c. IsOfNode c o) (sym done.current) (old_of_node t.current o old was)) kids surrounds' (stacks values stack) (moved ∙ along))
        kids (subst (λ x. HasLists x) (sym shape) tt)

    -- a boundary
    pub begun_trying : (origin own : Origin) (answer : Begun) (es given : List Element) (os : List (Option ℕ)) → (done : HasOpened origin t new p (stage.trying own) given os answer)
        → AreNext t.current (moved_in moves_below) (given_more e (given_along fs)) 0 (children_with_old (part cs es (children_if old))) done.kids → StandsAt t st (Some p) (at_place (suc n) fs cs e old) → is_boundary e ≡ true → (own.visible ≡ true → StandsIf t.current (moved_at st) (given_along fs) (old_of t.draft p))
        → shape_of s cs e old ≡ two_lists (part cs es (children_if old)) (part cs (fallback_in e ∷ []) (fallback_if old))
        → (values_at st ≡ cs → IsStack st (opened fs) → IsStack st' ((trying e old (part cs (fallback_in e ∷ []) (fallback_if old)), cs) ∷ opened fs)) → st'.moves ≡ moves_below
        → HasBegun s t st new st' p n fs cs e old answer
    begun_trying origin own answer es given os done beside (begins {v = v} {o = o} {rs = rs} {k = k} here is was surrounds values stack moves) boundary shows shape stacks moved =
        let list : Part = part cs es (children_if old) in
        let w : Fiber = record v { stage = stage.trying own } in
        let along = moves_here k v w o rs here done.current is.element moves in
        let kids = subst (λ (ms : List (ℕ × Bool)). AreNext new.current (moved_in ms) (given_more e (given_along fs)) 0 (children_with_old list) done.kids) along
        (subst (λ c. AreNext c (moved_in moves_below) (given_more e (given_along fs)) 0 (children_with_old list) done.kids) (sym done.current) beside) in
        let surrounds' : IsAround new.current k v.place rs fs =
        subst (λ c. IsAround c k v.place rs fs) (sym done.current) (subst (λ place. IsAround t.current k place rs fs) (sym is.at) surrounds) in
        let was' : IsOld new.current o old = subst (λ c. IsOld c o old) (sym done.current) was in
        let stands : own.visible ≡ true → StandsIf new.current (moved_along new.current k) (given_along fs) o =
        λ so. subst (λ c. StandsIf c (moved_along c k) (given_along fs) o) (sym done.current)
        (subst (λ (ms : List (ℕ × Bool)). StandsIf t.current (moved_in ms) (given_along fs) o) moves
        (subst (λ q. StandsIf t.current (moved_at st) (given_along fs) q) (knows k p v o (taken shapes.none) rs here).old (shows so)))
        in
        comes_to (moved_along new.current (below p w o rs k)) answer (trying e old (part cs (fallback_in e ∷ []) (fallback_if old))) list done.kids done.answer_is (ap (cursor.begin n fs e old) shape)
        (tries_children new st' k p n w o done.kids rs fs e old cs es own (done.stands k v o rs here) is.element refl boundary was' stands kids surrounds' (stacks values stack) (moved ∙ along))
        kids (subst (λ x. HasLists x) (sym shape) tt)

  -- a body that waits
  pub begun_waiting : (r v : ℕ) → StandsAt t st (Some p) (at_place (suc n) fs cs e old) → shape_of s cs e old ≡ waiting r v → new ≡ t → st' ≡ st
      → HasBegun s t st new st' p n fs cs e old (Suspended r)
  begun_waiting r v at shape same_trees same_stack = (
    (v, shape),
    unit_begins ∙ ap (cursor.begin n fs e old) shape,
    same_trees,
    same_stack,
    subst (λ x. IsWithin x st' p fs) (sym same_trees) (subst (λ x. IsWithin t x p fs) (sym same_stack) (place_within t st p (suc n) fs cs e old at)),
  )

  -- a body that throws
  pub begun_throwing : (x : ℤ) → StandsAt t st (Some p) (at_place (suc n) fs cs e old) → shape_of s cs e old ≡ throwing x → new ≡ t → st' ≡ st
      → HasBegun s t st new st' p n fs cs e old (Thrown x)
  begun_throwing x at shape same_trees same_stack = (
    shape,
    unit_begins ∙ ap (cursor.begin n fs e old) shape,
    same_trees,
    same_stack,
    subst (λ y. IsWithin y st' p fs) (sym same_trees) (subst (λ y. IsWithin t y p fs) (sym same_stack) (place_within t st p (suc n) fs cs e old at)),
  )
