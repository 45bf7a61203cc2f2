-- What the beginning of a place pays, by the parts of a unit.
use Rattle.std.specs.Prelude.{◌≡◌, ℕ, ℤ, suc, Bool, true, false, List, ◌∷◌, Option, Some, None, if◌then◌else◌}
use Rattle.std.proofs.Common.{refl, sym, ap, ◌∙◌, subst}
use Rattle.rx_base.specs.Awaits.{Awaits}
use Rattle.rx_ctx.specs.Contexts.{Stack, moved_in, moves_by, none_moved, values_at}
use Rattle.rx_elem.specs.Elements.{Element}
use Rattle.rx_elem.specs.Trees.{Node, mark_of}
use Rattle.rx_elem.proofs.Deciding.{and_passes}
use Rattle.rx_hooks.specs.declared.hook.Hook.{Hook}
use Rattle.rx_lists.specs.Shapes as shapes
use Rattle.rx_links.specs.Drafts.{Draft, taken, made, Fits, Trees, entry, kids_under, old_of, valued}
use Rattle.rx_links.specs.Places.{Around, below, placed}
use Rattle.rx_links.specs.Readers.{made_value_in, made_value_of}
use Rattle.rx_links.proofs.Placed.{is-at}
use Rattle.rx_meaning.specs.Cursor.{Frame, at_place}
use Rattle.rx_meaning.specs.Fresh.{Contexts, Sight}
use Rattle.rx_fiber.specs.FiberView.{changed}
use Rattle.rx_fiber.specs.declared.stage.StageChange.TheVariants as change
use Rattle.rx_fiber.specs.declared.stage.Origin.{Origin}
use Rattle.rx_fiber.specs.Fibers.{Fiber, as_cloned, as_matched, origin_of}
use Rattle.rx_fiber.specs.Reading.{IsOld}
use Rattle.rx_fiber.specs.Standing.{StandsAt, begins}
use Rattle.rx_fiber.specs.Stood.{gave, given_in}
use Rattle.rx_fiber.specs.Surround.{moved_along, moves_along}
use Rattle.rx_fiber.specs.Unwound.{IsWithin, is_trying}
use Rattle.rx_complete.specs.Ends.{Outer, nearest, nearest_catch, next_after}
use Rattle.rx_complete.specs.declared.completing.Next.{Next}
use Rattle.rx_complete.specs.declared.completing.Next.TheVariants.{Sibling, Parent, Done}
use Rattle.rx_causes.specs.declared.scene.Scene.{Scene}
use Rattle.rx_causes.specs.Marks.{mark_at}
use Rattle.rx_causes.specs.Scenes.{IsSceneOf}
use Rattle.rx_causes.proofs.Marks.{mark_is}
use Rattle.rx_begin.specs.Beginning.{is_opened}
use Rattle.rx_children.specs.Nodes.{HasTaken, begun_over}
use Rattle.rx_fallback.specs.Opening.{HasCaughtKids, HasFallbackKids, IsCatchLeft, IsLeft, alone, beside, left, opened_at}
use Rattle.rx_fallback.specs.Opening as fallbacks
use Rattle.rx_fallback.proofs.Falling.{boundary_gives}
use Rattle.rx_fiber.proofs.Unwinding.{catcher_gives}
use Rattle.rx_children.specs.Children.{AllWait}
use Rattle.rx_children.specs.declared.node.Begun.{Begun}
use Rattle.rx_children.specs.declared.node.Begun.TheVariants.{Child, Leaf}
use Rattle.rx_fallback.specs.declared.opening.Opened.{Opened}
use Rattle.cost_laws.specs.Evaluated.{Flag, once_caught, stood}
use Rattle.cost_laws.specs.Left.{Flags, begun_flags, flag, outer, thrown_past, unit_flags, unwound}
use Rattle.begin_laws.specs.Flagged.{KeepsTold, FlagsAfter, FlagsAtEnd, FlagsAtPlace, FlagsHere, FlagsOpened, HasThrown, HasUnwound, IsFlagged}
use Rattle.begin_laws.proofs.Going.{completes, flagged_moved, opens, opens_beside, passes}
use Rattle.begin_laws.proofs.Once.{same_around}
use Rattle.begin_laws.proofs.Unwinding.{throws_out, unwinds}
use Rattle.begin_laws.specs.Telling.{OpensKids, TellsBody, TellsTries}
use Rattle.begin_laws.proofs.Costing.{counts, may, opens_so, wait_bare, wait_told}
use Rattle.rx_render.specs.declared.at.At.{At}
use Rattle.rx_render.specs.declared.at.At.TheVariants.{Begins, Completes}
use Rattle.rx_render.specs.Advancing.{at_after, at_opened}
use Rattle.rx_render.specs.Costing.{HasFlags, Paid, UnitPays}
use Rattle.rx_render.specs.Costing as paying
use Rattle.rx_render.proofs.Gathering.{SaysKids}
use Rattle.rx_render.proofs.Advancing.{AreFew, PaysOpened, PaysThrowing, PaysWaiting}

-- Where flags go

-- after a node
pub after_flags : (t : Trees Fiber) (us : Flags) (r : Next) → FlagsAfter t us r → HasFlags t (at_after r) us
after_flags t us (Sibling id) h = h
after_flags t us (Parent id) h = h
after_flags t us Done h = tt

-- at what is opened
opened_flags : (t : Trees Fiber) (q : ℕ) (us : Flags) (first : Option ℕ) → FlagsOpened t q us first → HasFlags t (at_opened (opened_at first q)) us
opened_flags t q us None h = h
opened_flags t q us (Some id) h = h

-- the element of a fiber gives no context a value
abbrev pub GivesNone : Trees Fiber → ℕ → Type 0
GivesNone t q = (k : Around Fiber) (v : Fiber) (o : Option ℕ) (rs : Draft Fiber) → t.draft ≡ placed k (made q v o (taken shapes.none) rs) → given_in v.element ≡ None

-- that of a boundary at which a wait has stopped does not
left_quiet : (t : Trees Fiber) (q : ℕ) (awaits : Awaits) → Fits t → IsLeft t q awaits → GivesNone t q
left_quiet t q awaits fits (left l) k v o rs there =
    let a = (is-at t fits k q v o (taken shapes.none) rs there).list in
    let b = (is-at t fits l.around q l.value l.old (taken shapes.none) l.rest l.here).list in
    let both : Some (made q v o (taken shapes.none) rs) ≡ Some (made q l.value l.old (taken shapes.none) l.rest) = sym a ∙ b in
    let same : v ≡ l.value = cc in
    ap (λ u. given_in u.element) same ∙ boundary_gives l.value.element l.boundary

-- nor that of an error boundary at which a throw has stopped
caught_quiet : (t : Trees Fiber) (q : ℕ) → Fits t → IsCatchLeft t q → GivesNone t q
caught_quiet t q fits (fallbacks.stopped l) k v o rs there =
    let a = (is-at t fits k q v o (taken shapes.none) rs there).list in
    let b = (is-at t fits l.around q l.value l.old (taken shapes.none) l.rest l.here).list in
    let both : Some (made q v o (taken shapes.none) rs) ≡ Some (made q l.value l.old (taken shapes.none) l.rest) = sym a ∙ b in
    let same : v ≡ l.value = cc in
    ap (λ u. given_in u.element) same ∙ catcher_gives l.value.element l.catcher

-- a fallback opens below a boundary
module _ (origin : Origin) (t new : Trees Fiber) (q : ℕ) (us : Flags) (u : Flag) (here : FlagsHere t q (taken shapes.none) us) (visible : origin.visible ≡ u.visible)
    (fits : Fits t) (quiet : GivesNone t q) (moved : u.moved ≡ (flag us).moved) where
  -- what tries no children keeps nothing
  keeps_none : (v : Fiber) → is_trying v.stage ≡ false → KeepsTold (flag us) v
  keeps_none v none tries = absurd (let q : false ≡ true = sym none ∙ tries in let r : ⊥ = cc in r)

  -- its element gives nothing, so no more contexts have moved in its fallback
  moved_there : (k : Around Fiber) (v : Fiber) (o : Option ℕ) (rs : Draft Fiber) → t.draft ≡ placed k (made q v o (taken shapes.none) rs) → (i : ℕ) (w : Fiber) (r : Option ℕ) → w.element ≡ v.element
      → u.moved ≡ moved_along t.current (below i w r rs k)
  moved_there k v o rs there i w r element =
      moved
      ∙ (flagged_moved t.current here.around here.rest us here.flagged
      ∙ (ap (moved_along t.current) (same_around t fits q here.around here.value here.old (taken shapes.none) here.rest here.here k v o (taken shapes.none) rs there)
      ∙ ap (λ g. moved_in (moves_by g (gave t.current r) (moves_along t.current k))) (sym (ap given_in element ∙ quiet k v o rs there))))

  pub fallback_flags : (f : Opened) → new.current ≡ t.current → HasFallbackKids origin t new q f → HasFlags new (at_opened f) (u ∷ us)
  fallback_flags f current (alone kids value still same all new_if stands is) =
      subst (λ x. HasFlags new (at_opened x) (u ∷ us)) (sym is)
      (opened_flags new q (u ∷ us) (entry kids) (opens t new q us u kids value here (λ k v o rs h. (stands k v o rs h, keeps_none (value v) (still v), moved_there k v o rs h q (value v) o (same v))) current (wait_bare origin kids all) (wait_told origin u visible kids all)))
  fallback_flags f current (beside kids value kept id w old still hidden too all new_if stands over is) =
      subst (λ x. HasFlags new (at_opened x) (u ∷ us)) (sym is)
      (opened_flags new id (u ∷ us) (entry kids) (opens_beside t new q id us u kids value w old kept here
      (λ k v o rs h. let (element, there) = stands k v o rs h in (there, moved_there k v o rs h id w old element)) current (keeps_none w too) (wait_bare origin kids all) (wait_told origin u visible kids all)))

-- an untouched boundary opens its fallback over clones of what is visible
pub again_flags : (t tried new : Trees Fiber) (id : ℕ) (c : Origin) (f : Opened) → Fits t → tried ≡ record t { draft = valued id (changed (change.Try c)) t.draft } → HasFallbackKids (as_cloned true) tried new id f
    → Fits tried → (awaits : Awaits) → IsLeft tried id awaits → new.current ≡ tried.current → (us : Flags) → FlagsAtPlace t id us → stood (flag us) ≡ true → HasFlags new (at_opened f) (flag us ∷ us)
again_flags t tried new id c f fits is kids fits_tried awaits stopped current us h so =
    let at = is-at t fits h.flags.around id h.flags.value h.flags.old (taken shapes.none) h.flags.rest h.flags.here in
    let here : FlagsHere tried id (taken shapes.none) us = record {
      around = h.flags.around;
      value = changed (change.Try c) h.flags.value;
      old = h.flags.old;
      rest = h.flags.rest;
      here = ap (λ x. x.draft) is ∙ at.value (changed (change.Try c));
      flagged = subst (λ k. IsFlagged k h.flags.around h.flags.rest us) (sym (ap (λ x. x.current) is)) h.flags.flagged;
    } in
    let shown : (flag us).visible ≡ true = (and_passes (flag us).visible (none_moved (flag us).moved) so).0 in
    fallback_flags (as_cloned true) tried new id us (flag us) here (sym shown) fits_tried (left_quiet tried id awaits fits_tried stopped) refl f current kids

-- a node that is completed
pub end_flags : (t new : Trees Fiber) (id : ℕ) (r : Next) (m : Fiber → Fiber) → Fits t → new ≡ record t { draft = valued id m t.draft } → r ≡ next_after t.draft id → (us : Flags) → FlagsAtEnd t id us
    → HasFlags new (at_after r) (outer us)
end_flags t new id r m fits is next us h =
    subst (λ x. HasFlags new (at_after x) (outer us)) (sym next)
    (after_flags new (outer us) (next_after t.draft id) (completes t new id us m fits h (ap (λ x. x.draft) is) (ap (λ x. x.current) is)))

-- old children that are taken over
pub passed_flags : (t new : Trees Fiber) (id : ℕ) (r : Next) → Fits t → Fits new → new.current ≡ t.current → HasTaken t new id → r ≡ next_after new.draft id → (us : Flags) (x : Node) → FlagsAtPlace t id us
    → IsOld t.current (old_of t.draft id) (Some x) → HasFlags new (at_after r) us
passed_flags t new id r fits fits_new current takes next us x h was =
    let at = is-at t fits h.flags.around id h.flags.value h.flags.old (taken shapes.none) h.flags.rest h.flags.here in
    let marked : mark_at t.current h.flags.old ≡ Some (mark_of x) = ap (mark_at t.current) (sym at.old) ∙ mark_is t.current (old_of t.draft id) (Some x) was in
    let there : FlagsHere new id (taken (kids_under t.current h.flags.old)) us = record {
      around = h.flags.around;
      value = _;
      old = h.flags.old;
      rest = h.flags.rest;
      here = takes h.flags.around h.flags.value h.flags.old h.flags.rest (mark_of x) h.flags.here marked;
      flagged = subst (λ k. IsFlagged k h.flags.around h.flags.rest us) (sym current) h.flags.flagged;
    } in
    subst (λ y. HasFlags new (at_after y) us) (sym next)
    (after_flags new us (next_after new.draft id) (passes new id (taken (kids_under t.current h.flags.old)) us fits_new there))

-- what opens the fallback of a boundary says of its fibers: their old ones are visible exactly if the boundary's is
abbrev pub SaysFallback : Trees Fiber → Trees Fiber → ℕ → Opened → Type 0
SaysFallback t new q f = (v : Fiber) → Some v ≡ made_value_of t.draft q → (generation : ℕ) × HasFallbackKids (as_matched (origin_of v.stage).visible generation) t new q f

-- out of a place that waits, to the fallback of the nearest boundary
module _ (t : Trees Fiber) (fits : Fits t) (st : Stack) (p : ℕ) (fs : List Frame) (us : Flags) (h : FlagsHere t p (taken shapes.none) us) (within : IsWithin t st p fs) where
  pub unwound_flags : (dropped new : Trees Fiber) (q : ℕ) (f : Opened) → Fits dropped → dropped.current ≡ t.current
      → ((u : Outer) × (nearest h.around ≡ Some u) × (u.id ≡ q) × (dropped.draft ≡ placed u.around (made q u.value u.old (taken shapes.none) u.rest)))
      → (awaits : Awaits) → IsLeft dropped q awaits → new.current ≡ dropped.current → SaysFallback dropped new q f → HasFlags new (at_opened f) (unwound fs us)
  unwound_flags dropped new q f fits_dropped current found awaits stopped same_current says =
      let (u, near, id, here) = found in
      let here_too : dropped.draft ≡ placed u.around (made u.id u.value u.old (taken shapes.none) u.rest) = here ∙ ap (λ i. placed u.around (made i u.value u.old (taken shapes.none) u.rest)) (sym id) in
      let w : HasUnwound dropped u.id u.value fs us = unwinds t dropped st p (taken shapes.none) fs us fits h within u near here_too current in
      let at = is-at dropped fits_dropped u.around q u.value u.old (taken shapes.none) u.rest here in
      let flags : FlagsHere dropped q (taken shapes.none) (outer (unwound fs us)) = subst (λ i. FlagsHere dropped i (taken shapes.none) (outer (unwound fs us))) id w.flags in
      let (generation, kids) = says u.value (sym (ap made_value_in at.list)) in
      subst (HasFlags new (at_opened f)) (sym w.some)
      (fallback_flags (as_matched (origin_of u.value.stage).visible generation) dropped new q (outer (unwound fs us)) (flag (outer (unwound fs us))) flags w.kept fits_dropped (left_quiet dropped q awaits fits_dropped stopped) refl f same_current kids)

  -- out of one that throws, to the fallback of the nearest error boundary
  pub thrown_flags : (dropped new : Trees Fiber) (q : ℕ) (f : Opened) → Fits dropped → dropped.current ≡ t.current
      → ((u : Outer) × (nearest_catch h.around ≡ Some u) × (u.id ≡ q) × (dropped.draft ≡ placed u.around (made q u.value u.old (taken shapes.none) u.rest)))
      → IsCatchLeft dropped q → new.current ≡ dropped.current → HasCaughtKids dropped new q f → HasFlags new (at_opened f) (thrown_past fs us)
  thrown_flags dropped new q f fits_dropped current found caught same_current kids =
      let (u, near, id, here) = found in
      let here_too : dropped.draft ≡ placed u.around (made u.id u.value u.old (taken shapes.none) u.rest) = here ∙ ap (λ i. placed u.around (made i u.value u.old (taken shapes.none) u.rest)) (sym id) in
      let w : HasThrown dropped u.id fs us = throws_out t dropped st p (taken shapes.none) fs us fits h within u near here_too current in
      let flags : FlagsHere dropped q (taken shapes.none) (outer (thrown_past fs us)) = subst (λ i. FlagsHere dropped i (taken shapes.none) (outer (thrown_past fs us))) id w.flags in
      subst (HasFlags new (at_opened f)) (sym w.some)
      (fallback_flags (as_matched false 1) dropped new q (outer (thrown_past fs us)) (once_caught (flag (outer (thrown_past fs us)))) flags refl fits_dropped (caught_quiet dropped q fits_dropped caught) refl f same_current
      (alone kids.kids kids.value kids.stage kids.element kids.all (λ e. kids.new) kids.stands kids.answer_is))

-- What is paid

begun_first : (origin : Origin) (d : Draft Fiber) (i : ℕ) → Child i ≡ begun_over d → entry d ≡ Some i
begun_first origin (taken s) i e = absurd (let q : ⊥ = cc in q)
begun_first origin (made id v o ks rs) i e = let q : i ≡ id = cc in ap Some (sym q)

begun_none : (origin : Origin) (d : Draft Fiber) → AllWait origin d → Leaf ≡ begun_over d → entry d ≡ None
begun_none origin (taken s) all e = ap shapes.first all
begun_none origin (made id v o ks rs) all e = absurd (let q : ⊥ = cc in q)

module _ (s : Sight) (scene : Scene) (sees : IsSceneOf scene s) (kept : ℕ → Option (List Hook)) (t : Trees Fiber) (st : Stack) (id : ℕ) (evaluated : Bool) (fits : Fits t)
    (body : TellsBody scene kept t (values_at st) id evaluated) (few : AreFew s t st id (if evaluated then 1 else 0)) where
  values_there : (n : ℕ) (fs : List Frame) (cs : Contexts) (e : Element) (old : Option Node) → StandsAt t st (Some id) (at_place (suc n) fs cs e old) → values_at st ≡ cs
  values_there n fs cs e old (begins here is was surrounds values stack moves) = values

  body_at : (n : ℕ) (fs : List Frame) (cs : Contexts) (e : Element) (old : Option Node) → StandsAt t st (Some id) (at_place (suc n) fs cs e old) → TellsBody scene kept t cs id evaluated
  body_at n fs cs e old h = subst (λ l. TellsBody scene kept t l id evaluated) (values_there n fs cs e old h) body

  -- the value of the fiber
  value_there : (n : ℕ) (fs : List Frame) (cs : Contexts) (e : Element) (old : Option Node) → StandsAt t st (Some id) (at_place (suc n) fs cs e old) → (v : Fiber) × (Some v ≡ made_value_of t.draft id)
  value_there n fs cs e old (begins {v = v} {o = o} {rs = rs} {k = k} here is was surrounds values stack moves) =
      (v, sym (ap made_value_in (is-at t fits k id v o (taken shapes.none) rs here).list))

  module _ (tries : TellsTries scene kept t st id) where
    opened_paid : (new : Trees Fiber) (b : Begun) → new.current ≡ t.current → is_opened b ≡ true → SaysKids t new id b → (first : Option ℕ) → ((origin : Origin) (d : Draft Fiber) → AllWait origin d → b ≡ begun_over d → entry d ≡ first)
        → (at : At) → ((us : Flags) → FlagsOpened new id us first → HasFlags new at us) → PaysOpened s kept t st new id (if evaluated then 1 else 0) at
    opened_paid new b current opens_it says first is at as_flags n fs cs e old us h tells lists flags =
        let goes = may s scene kept t st id n fs cs e old us sees fits h tells flags tries in
        let (v, there) = value_there n fs cs e old h in
        let (origin, steadiness, (kids, over)) = says v there opens_it in
        let opened : OpensKids t new id = record { value = v; is = there; origin = origin; steadiness = steadiness; kids = kids; current = current } in
        record {
          flags = unit_flags s us (at_place (suc n) fs cs e old);
          are = as_flags (unit_flags s us (at_place (suc n) fs cs e old))
              (subst (FlagsOpened new id (unit_flags s us (at_place (suc n) fs cs e old))) (is origin kids.kids kids.all over)
              (opens_so s t new st id n fs cs e old us fits h flags lists opened));
          pays = paying.by_unit goes (counts s scene kept t st id n fs cs e old evaluated sees fits h tells (body_at n fs cs e old h) (few n fs cs e old h));
        }

    pub child_paid : (new : Trees Fiber) (b : Begun) (child : ℕ) → new.current ≡ t.current → b ≡ Child child → SaysKids t new id b → PaysOpened s kept t st new id (if evaluated then 1 else 0) (Begins child)
    child_paid new b child current is says =
        opened_paid new b current (ap is_opened is) says (Some child) (λ origin d all over. begun_first origin d child (sym is ∙ over)) (Begins child) (λ us h. h)

    pub leaf_paid : (new : Trees Fiber) (b : Begun) → new.current ≡ t.current → b ≡ Leaf → SaysKids t new id b → PaysOpened s kept t st new id (if evaluated then 1 else 0) (Completes id)
    leaf_paid new b current is says = opened_paid new b current (ap is_opened is) says None (λ origin d all over. begun_none origin d all (sym is ∙ over)) (Completes id) (λ us h. h)

    pub waits_paid : (new : Trees Fiber) (st' : Stack) (r : ℕ) (last : Trees Fiber) (at : At) → new ≡ t
        → ((fs : List Frame) (us : Flags) → FlagsHere new id (taken shapes.none) us → IsWithin new st' id fs → HasFlags last at (unwound fs us))
        → PaysWaiting s kept t st new st' id (if evaluated then 1 else 0) r last at
    waits_paid new st' r last at same out n fs cs e old us h tells shape within flags =
        let goes = may s scene kept t st id n fs cs e old us sees fits h tells flags tries in
        record {
          flags = unit_flags s us (at_place (suc n) fs cs e old);
          are = subst (HasFlags last at) (sym (ap (begun_flags fs us e old) shape.1)) (out fs us (subst (λ x. FlagsHere x id (taken shapes.none) us) (sym same) flags.flags) within);
          pays = paying.by_unit goes (counts s scene kept t st id n fs cs e old evaluated sees fits h tells (body_at n fs cs e old h) (few n fs cs e old h));
        }

    pub throws_paid : (new : Trees Fiber) (st' : Stack) (x : ℤ) (last : Trees Fiber) (at : At) → new ≡ t
        → ((fs : List Frame) (us : Flags) → FlagsHere new id (taken shapes.none) us → IsWithin new st' id fs → HasFlags last at (thrown_past fs us))
        → PaysThrowing s kept t st new st' id (if evaluated then 1 else 0) x last at
    throws_paid new st' x last at same out n fs cs e old us h tells shape within flags =
        let goes = may s scene kept t st id n fs cs e old us sees fits h tells flags tries in
        record {
          flags = unit_flags s us (at_place (suc n) fs cs e old);
          are = subst (HasFlags last at) (sym (ap (begun_flags fs us e old) shape)) (out fs us (subst (λ x. FlagsHere x id (taken shapes.none) us) (sym same) flags.flags) within);
          pays = paying.by_unit goes (counts s scene kept t st id n fs cs e old evaluated sees fits h tells (body_at n fs cs e old h) (few n fs cs e old h));
        }
