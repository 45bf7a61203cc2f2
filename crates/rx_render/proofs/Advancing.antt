-- Where a unit of each kind comes to.
use Rattle.std.specs.Prelude.{◌≡◌, ℕ, ℤ, zero, suc, ◌+◌, ◌≤◌, Bool, true, false, ◌&&◌, List, [], ◌∷◌, filter, nat_eq, Option, Some, None, Result, Ok, Err, IfOk, OnOk, OnErr, refl}
use Rattle.std.specs.List.{range_with_len}
use Rattle.std.proofs.Common.{sym, ap, ◌∙◌, subst, arith, add-one}
use Rattle.rx_base.specs.Awaits.{Awaits, one, nothing, awaits_where}
use Rattle.rx_ctx.specs.Contexts.{Stack}
use Rattle.rx_susp.specs.declared.boundary.BoundaryState.TheVariants.{Hidden}
use Rattle.rx_elem.specs.Elements.{Element}
use Rattle.rx_elem.specs.Elements as elements
use Rattle.rx_elem.specs.Trees.{Node, node, Forest, of_boundary, fallback_if, Instance, children_of, instance_in}
use Rattle.rx_elem.specs.Trees as trees
use Rattle.rx_hooks.specs.declared.hook.Hook.{Hook}
use Rattle.rx_lists.specs.Shapes as shapes
use Rattle.rx_elem.proofs.Equality.{same_element-self}
use Rattle.rx_links.specs.Drafts.{Fits, Trees, Makes, taken, old_of, valued}
use Rattle.rx_links.specs.Readers.{IsLinked, made_value_in, made_value_of}
use Rattle.rx_links.proofs.Placed.{is-at}
use Rattle.rx_meaning.specs.Fresh.{Sight, Contexts, part, shape_of, throwing, waiting}
use Rattle.rx_meaning.specs.Cursor.{Open, falling, Frame, Cursor, at_place, at_end, ended, open_part, arrive, unit, unwind, unwind_throw}
use Rattle.rx_meaning.specs.Counts.{each_body, next_counts}
use Rattle.rx_fiber.specs.Fibers.{Fiber, waiting as waits_with}
use Rattle.rx_fiber.specs.Passed.{IsPassed}
use Rattle.rx_fiber.specs.Reading.{IsOld}
use Rattle.rx_fiber.specs.FiberView.{changed}
use Rattle.rx_fiber.specs.declared.stage.Origin.{Origin}
use Rattle.rx_fiber.specs.declared.stage.StageChange.TheVariants as change
use Rattle.rx_fiber.specs.Standing.{StandsAt, begins as begins_place, is_stood}
use Rattle.rx_fiber.specs.Surround.{fallback_in, given_along}
use Rattle.rx_fiber.specs.Unwound.{IsCaughtAt, IsWithin, IsLeftAt}
use Rattle.rx_complete.specs.Ends.{IsOpenBelow, lies, fiber_in, LeadsTo, to_sibling, to_parent, to_none}
use Rattle.rx_complete.specs.declared.completing.Next.{Next}
use Rattle.rx_complete.proofs.Completed.{KnowsPlaces}
use Rattle.rx_causes.specs.declared.scene.Scene.{Scene}
use Rattle.rx_causes.specs.Scenes.{IsSceneOf, KeepsHooks, GivesHooks, TellsNews}
use Rattle.rx_causes.specs.Hidden.{KeepsHooksIf, GivesHooksIf, ForEach, ForEachIn}
use Rattle.rx_children.specs.Again.{HasOldFallback}
use Rattle.rx_meaning.specs.Touched.{may_throw_anew, sees_refresh}
use Rattle.rx_begin.specs.Beginning.{IsAtPlace, stands, HasLists, IsHiddenAgain, IsTakenOver, BeginsPlace}
use Rattle.rx_children.specs.Units.{IsPlace, IsEnd}
use Rattle.rx_ways.specs.Ways.{is_way, CoversIf}
use Rattle.rx_fallback.specs.Opening.{HasOpenedAs, IsCatchLeft, IsLeft, left}
use Rattle.rx_fallback.specs.Opening as fallbacks
use Rattle.rx_children.specs.declared.node.Begun.TheVariants.{Child, Leaf, Suspended}
use Rattle.rx_children.specs.declared.node.Begun.TheVariants as answers
use Rattle.rx_fallback.specs.declared.opening.Opened.{Opened}
use Rattle.rx_fallback.specs.declared.opening.Opened.TheVariants.{First, Empty}
use Rattle.commit_laws.specs.Each as marks
use Rattle.rx_meaning.specs.Again.{AreUnresolved}
use Rattle.rx_causes.specs.Idle.{Rests}
use Rattle.rx_causes.specs.Marks.{EachBut}
use Rattle.cost_laws.specs.Evaluated.{stood}
use Rattle.begin_laws.proofs.Going.{told_stood}
use Rattle.cost_laws.specs.Causes.{waits_still}
use Rattle.cost_laws.specs.Left.{Flags, flag, outer}
use Rattle.cost_laws.specs.Undue.{IsUndue}
use Rattle.cost_laws.specs.Untouched.{is_element_of, is_untouched}
use Rattle.begin_laws.specs.Flagged.{FlagsAtEnd, FlagsAtPlace}
use Rattle.begin_laws.specs.Telling.{TellsIf}
use Rattle.rx_render.specs.Costing.{CausesAt, HasFlags, Paid, UnitPays}
use Rattle.rx_render.specs.Costing as paying
use Rattle.rx_render.specs.declared.at.At.{At}
use Rattle.rx_render.specs.declared.at.At.TheVariants.{Begins, Completes}
use Rattle.rx_render.specs.Rendering.{ComesTo, to_place, to_end, to_tree}
use Rattle.rx_render.specs.Advancing.{at_after, at_opened, Goes, by_unit, past_attempt, past_subtree, CanBegin, Advances}

-- A wait for a number that is no resource's

none_are : (r a n : ℕ) → a + n ≤ r → filter (nat_eq r) (range_with_len a n) ≡ []
none_are r a zero h = refl
none_are r a (suc n) h =
    let e : nat_eq r a ≡ false = grind (arith, h) in
    rw (e, add-one) (none_are r (suc a) n (omega (arith, h)))

-- it is a wait for nothing
pub one_beyond : (r : ℕ) → 64 ≤ r → nothing ≡ one r
unfolding awaits_where
one_beyond r h = sym (none_are r 0 64 (omega (arith, h)))

-- Where a fiber is

pub place_comes : (t : Trees Fiber) (st : Stack) (id : ℕ) (c : Cursor) → StandsAt t st (Some id) c → IsPlace c → ComesTo t st (Begins id) c
place_comes t st id (at_place levels fs cs e old) h p = to_place h
place_comes t st id (at_end levels fs o done) h p = absurd p
place_comes t st id (ended x) h p = absurd p

pub end_comes : (t : Trees Fiber) (st : Stack) (id : ℕ) (c : Cursor) → StandsAt t st (Some id) c → IsEnd c → ComesTo t st (Completes id) c
end_comes t st id (at_place levels fs cs e old) h p = absurd p
end_comes t st id (at_end levels fs o done) h p = to_end h
end_comes t st id (ended x) h p = absurd p

-- After a node that is completed

pub leads_comes : (t : Trees Fiber) (st : Stack) (r : Next) (c : Cursor) → LeadsTo r c → StandsAt t st (fiber_in r) c → ComesTo t st (at_after r) c
leads_comes t st _ _ to_sibling h = to_place h
leads_comes t st _ _ to_parent h = to_end h
leads_comes t st _ _ to_none h = to_tree h

-- After a fallback that is opened

pub opened_comes : (t : Trees Fiber) (st : Stack) (o : Opened) (c : Cursor) → HasOpenedAs t st c o → ComesTo t st (at_opened o) c
opened_comes t st (First id) c h = place_comes t st id c h.0 h.1
opened_comes t st (Empty id) c h = end_comes t st id c h.0 h.1

-- the wait has stopped at the boundary
pub stopped : (t new : Trees Fiber) (st st' : Stack) (p q : ℕ) (a b : Awaits) → IsOpenBelow t st p
    → ((levels : ℕ) (fs : List Frame) → IsWithin t st p fs → IsLeftAt new st' q (taken shapes.none) b (unwind levels fs a)) → IsLeft new q b
stopped t new st st' p q a b (lies {fs = fs} w) f = left (f 0 fs w)

-- a thrown value has stopped at the error boundary
pub caught : (t new : Trees Fiber) (st st' : Stack) (p q : ℕ) (x : ℤ) → IsOpenBelow t st p
    → ((levels : ℕ) (fs : List Frame) → IsWithin t st p fs → IsCaughtAt new st' q (taken shapes.none) x (unwind_throw levels fs x)) → IsCatchLeft new q
caught t new st st' p q x (lies {fs = fs} w) f = fallbacks.stopped (f 0 fs w)

-- After a place that begins

-- what a unit pays that begins the place of a fiber, and opens it over a list
abbrev pub PaysOpened : Sight → (kept : ℕ → Option (List Hook)) → Trees Fiber → Stack → Trees Fiber → (id bodies : ℕ) → At → Type 0
PaysOpened s kept t st new id bodies at =
    (n : ℕ) (fs : List Frame) (cs : Contexts) (e : Element) (old : Option Node) (us : Flags) → StandsAt t st (Some id) (at_place (suc n) fs cs e old) → TellsIf s kept old → HasLists (shape_of s cs e old) → FlagsAtPlace t id us → Paid s t.current bodies us (at_place (suc n) fs cs e old) (unit s (at_place (suc n) fs cs e old)) new at

-- what it pays if a body waits, and the fallback of a boundary opens
abbrev pub PaysWaiting : Sight → (kept : ℕ → Option (List Hook)) → Trees Fiber → Stack → Trees Fiber → Stack → (id bodies r : ℕ) → Trees Fiber → At → Type 0
PaysWaiting s kept t st new st' id bodies r last at =
    (n : ℕ) (fs : List Frame) (cs : Contexts) (e : Element) (old : Option Node) (us : Flags) → StandsAt t st (Some id) (at_place (suc n) fs cs e old) → TellsIf s kept old → ((v : ℕ) × (shape_of s cs e old ≡ waiting r v))
    → IsWithin new st' id fs → FlagsAtPlace t id us → Paid s t.current bodies us (at_place (suc n) fs cs e old) (unit s (at_place (suc n) fs cs e old)) last at

-- what it pays if a body throws, and the fallback of an error boundary opens
abbrev pub PaysThrowing : Sight → (kept : ℕ → Option (List Hook)) → Trees Fiber → Stack → Trees Fiber → Stack → (id bodies : ℕ) → ℤ → Trees Fiber → At → Type 0
PaysThrowing s kept t st new st' id bodies x last at =
    (n : ℕ) (fs : List Frame) (cs : Contexts) (e : Element) (old : Option Node) (us : Flags) → StandsAt t st (Some id) (at_place (suc n) fs cs e old) → TellsIf s kept old → shape_of s cs e old ≡ throwing x
    → IsWithin new st' id fs → FlagsAtPlace t id us → Paid s t.current bodies us (at_place (suc n) fs cs e old) (unit s (at_place (suc n) fs cs e old)) last at

-- there is no news in what the old node of a fiber keeps
abbrev pub HasNoNewsThere : Sight → (kept : ℕ → Option (List Hook)) → Trees Fiber → ℕ → Type 0
HasNoNewsThere s kept t id = (x : Node) → IsOld t.current (old_of t.draft id) (Some x) → ForEachIn (λ i. TellsNews kept s.lanes s.cut i false) (children_of x)

-- the tree of the old node of a fiber rests, but for what stands on no way
abbrev pub RestsThere : Sight → (way : ℕ → Bool) → (kept : ℕ → Option (List Hook)) → Trees Fiber → ℕ → Type 0
RestsThere s way kept t id = (x : Node) → IsOld t.current (old_of t.draft id) (Some x) → EachBut way (Rests kept s.lanes s.cut) x

-- a hidden boundary waits still if no resource has another version, nothing may throw anew, it awaits nothing with a value, and it keeps nothing with news
waits_there : (s : Sight) (kept : ℕ → Option (List Hook)) (t : Trees Fiber) (id : ℕ) (old : Option Node) (e : Element) (a : Awaits) (ns fs : Forest) → old ≡ Some (node e (of_boundary (Hidden a)) ns fs)
    → IsOld t.current (old_of t.draft id) old → TellsIf s kept old → sees_refresh s ≡ false → may_throw_anew s ≡ false → AreUnresolved s a → HasNoNewsThere s kept t id → waits_still s old ≡ true
waits_there s kept t id old e a ns fs was old_is tells refresh calm unresolved none =
    let there : TellsIf s kept (Some (node e (of_boundary (Hidden a)) ns fs)) = subst (TellsIf s kept) was tells in
    ap (waits_still s) was ∙ there.waits a refl refresh calm unresolved (none (node e (of_boundary (Hidden a)) ns fs) (subst (IsOld t.current (old_of t.draft id)) was old_is))

-- if its fiber tells that it stands as it did, and it has its element, it is untouched
all_three : (a b c : Bool) → a ≡ true → b ≡ true → c ≡ true → (a && (b && c)) ≡ true
all_three a b c f g h = rw (f, g, h) refl

untouched_there : (s : Sight) (shown : Bool) (e : Element) (old : Option Node) (a : Awaits) (ns fs : Forest) → old ≡ Some (node e (of_boundary (Hidden a)) ns fs) → shown ≡ true → waits_still s old ≡ true
    → is_untouched s shown e old ≡ true
untouched_there s shown e old a ns fs was so still =
    all_three shown (is_element_of e old) (waits_still s old) so (ap (is_element_of e) was ∙ same_element-self e) still

-- what its fiber tells is told of its list
told_there : (t : Trees Fiber) (st : Stack) (id n : ℕ) (us : Flags) (fs : List Frame) (cs : Contexts) (e : Element) (old : Option Node) → Fits t → FlagsAtPlace t id us
    → StandsAt t st (Some id) (at_place (suc n) fs cs e old) → ((v : Fiber) → Some v ≡ made_value_of t.draft id → is_stood st v.stage ≡ true) → stood (flag us) ≡ true
told_there t st id n us fs cs e old fits h (begins_place {v = v} {o = o} {rs = rs} {k = k} here is was surrounds values stack moves) told =
    sym (told_stood t st id us fits h k v o rs here moves) ∙ told v (sym (ap made_value_in (is-at t fits k id v o (taken shapes.none) rs here).list))

-- a unit that begins the place of a fiber evaluates at most so many bodies
abbrev pub AreFew : Sight → Trees Fiber → Stack → (id bodies : ℕ) → Type 0
AreFew s t st id bodies =
    (n : ℕ) (fs : List Frame) (cs : Contexts) (e : Element) (old : Option Node) → StandsAt t st (Some id) (at_place (suc n) fs cs e old) → bodies ≤ next_counts each_body s (at_place (suc n) fs cs e old)

module _ (s : Sight) (way : ℕ → Bool) (kept : ℕ → Option (List Hook)) (t : Trees Fiber) (st : Stack) (new : Trees Fiber) (st' : Stack) (id bodies : ℕ) (few : AreFew s t st id bodies) where
  pub child_advances : (child : ℕ) → BeginsPlace s way kept t st new st' id (Child child) → PaysOpened s kept t st new id bodies (Begins child) → Advances s way kept t st (Begins id) bodies new st' (Begins child)
  child_advances child begins pays _ (to_place {levels = zero} h) level gives = absurd (omega (arith, level))
  child_advances child begins pays _ (to_place {levels = suc n} {fs = fs} {cs = cs} {e = e} {old = old} h) level gives =
      let b = begins n fs cs e old h gives.0 gives.1 gives.2 in
      record {
        next = unit s (at_place (suc n) fs cs e old);
        goes = by_unit (few n fs cs e old h);
        comes = place_comes new st' child _ b.0 b.1;
        paid = λ us causes are. pays n fs cs e old us h causes.0 b.2 are;
      }

  pub leaf_advances : BeginsPlace s way kept t st new st' id Leaf → PaysOpened s kept t st new id bodies (Completes id) → Advances s way kept t st (Begins id) bodies new st' (Completes id)
  leaf_advances begins pays _ (to_place {levels = zero} h) level gives = absurd (omega (arith, level))
  leaf_advances begins pays _ (to_place {levels = suc n} {fs = fs} {cs = cs} {e = e} {old = old} h) level gives =
      let b = begins n fs cs e old h gives.0 gives.1 gives.2 in
      record {
        next = unit s (at_place (suc n) fs cs e old);
        goes = by_unit (few n fs cs e old h);
        comes = end_comes new st' id _ b.0 b.1;
        paid = λ us causes are. pays n fs cs e old us h causes.0 b.2 are;
      }

  pub waits_advances : (r : ℕ) (last : Trees Fiber) (st'' : Stack) (a : At) → BeginsPlace s way kept t st new st' id (Suspended r)
      → ((levels : ℕ) (fs : List Frame) → IsWithin new st' id fs → ComesTo last st'' a (unwind levels fs (one r))) → PaysWaiting s kept t st new st' id bodies r last a
      → Advances s way kept t st (Begins id) bodies last st'' a
  waits_advances r last st'' a begins comes pays _ (to_place {levels = zero} h) level gives = absurd (omega (arith, level))
  waits_advances r last st'' a begins comes pays _ (to_place {levels = suc n} {fs = fs} {cs = cs} {e = e} {old = old} h) level gives =
      let b = begins n fs cs e old h gives.0 gives.1 gives.2 in
      record {
        next = unit s (at_place (suc n) fs cs e old);
        goes = by_unit (few n fs cs e old h);
        comes = subst (ComesTo last st'' a) (sym b.1) (comes (suc n) fs b.4);
        paid = λ us causes are. pays n fs cs e old us h causes.0 b.0 b.4 are;
      }

  pub throws_advances : (x : ℤ) (last : Trees Fiber) (st'' : Stack) (a : At) → BeginsPlace s way kept t st new st' id (answers.Thrown x)
      → ((levels : ℕ) (fs : List Frame) → IsWithin new st' id fs → ComesTo last st'' a (unwind_throw levels fs x)) → PaysThrowing s kept t st new st' id bodies x last a
      → Advances s way kept t st (Begins id) bodies last st'' a
  throws_advances x last st'' a begins comes pays _ (to_place {levels = zero} h) level gives = absurd (omega (arith, level))
  throws_advances x last st'' a begins comes pays _ (to_place {levels = suc n} {fs = fs} {cs = cs} {e = e} {old = old} h) level gives =
      let b = begins n fs cs e old h gives.0 gives.1 gives.2 in
      record {
        next = unit s (at_place (suc n) fs cs e old);
        goes = by_unit (few n fs cs e old h);
        comes = subst (ComesTo last st'' a) (sym b.1) (comes (suc n) fs b.4);
        paid = λ us causes are. pays n fs cs e old us h causes.0 b.0 b.4 are;
      }

-- a boundary evaluates none
boundary_none : (s : Sight) (bodies n : ℕ) (fs : List Frame) (cs : Contexts) (e : Element) (old : Option Node) (key : elements.Key) (f : Element) (es : elements.Elements) → e ≡ elements.boundary key f es
    → bodies ≤ next_counts each_body s (at_place (suc n) fs cs e old) → bodies ≡ 0
boundary_none s bodies n fs cs e old key f es is few =
    let h : bodies ≤ 0 = subst (λ x. bodies ≤ next_counts each_body s (at_place (suc n) fs cs x old)) is few in omega (arith, h)

-- if a hidden boundary waits still, past its attempt
module _ (s : Sight) (t : Trees Fiber) (st : Stack) (new : Trees Fiber) (st' : Stack) (p n : ℕ) (fs : List Frame) (cs : Contexts) (e : Element) (old : Option Node) (a : Awaits) (linked : IsLinked t.current)
    (h : IsHiddenAgain s t st new st' p n fs cs e old a) where
  hidden_old : IsOld t.current (old_of t.draft p) (Some (node (elements.boundary h.key h.fallback h.given) (of_boundary (Hidden a)) h.kept h.shown))
  hidden_old = subst (IsOld t.current (old_of t.draft p)) (h.was ∙ ap (λ x. Some (node x (of_boundary (Hidden a)) h.kept h.shown)) h.boundary) h.old_is

  hidden_goes : (bodies : ℕ) → bodies ≡ 0 → Goes s t.current bodies (at_place (suc n) fs cs e old) (open_part n fs (falling e old a) (part cs (fallback_in e ∷ []) (fallback_if old)))
  hidden_goes bodies none = rw (h.was, h.boundary) (past_attempt none linked h.stood hidden_old h.versions h.calm h.unresolved h.agree)

-- what it pays there, by the flags that its fallback opens with
module _ (s : Sight) (t : Trees Fiber) (st : Stack) (new last : Trees Fiber) (st' : Stack) (p n : ℕ) (fs : List Frame) (cs : Contexts) (e : Element) (old : Option Node) (a : Awaits) (us : Flags) (next : At) (linked : IsLinked t.current)
    (h : IsHiddenAgain s t st new st' p n fs cs e old a) where
  hidden_pays : (bodies : ℕ) → bodies ≡ 0 → is_untouched s (stood (flag us)) e old ≡ true
      → UnitPays s t.current bodies us (at_place (suc n) fs cs e old) (flag us ∷ us) (open_part n fs (falling e old a) (part cs (fallback_in e ∷ []) (fallback_if old)))
  hidden_pays bodies none out =
      let so : is_untouched s (stood (flag us)) (elements.boundary h.key h.fallback h.given) (Some (node (elements.boundary h.key h.fallback h.given) (of_boundary (Hidden a)) h.kept h.shown)) ≡ true =
      subst (λ x. is_untouched s (stood (flag us)) x (Some (node x (of_boundary (Hidden a)) h.kept h.shown)) ≡ true) h.boundary (subst (λ o. is_untouched s (stood (flag us)) e o ≡ true) h.was out)
      in
      rw (h.was, h.boundary) (paying.past_attempt none linked h.stood (hidden_old s t st new st' p n fs cs e old a linked h) h.versions h.calm h.unresolved h.agree so)

  hidden_paid : (bodies : ℕ) → bodies ≡ 0 → is_untouched s (stood (flag us)) e old ≡ true → HasFlags last next (flag us ∷ us)
      → Paid s t.current bodies us (at_place (suc n) fs cs e old) (open_part n fs (falling e old a) (part cs (fallback_in e ∷ []) (fallback_if old))) last next
  hidden_paid bodies none out flags = record { flags = flag us ∷ us; are = flags; pays = hidden_pays bodies none out }

module _ (s : Sight) (way : ℕ → Bool) (kept : ℕ → Option (List Hook)) (t : Trees Fiber) (st : Stack) (new : Trees Fiber) (st' : Stack) (id bodies : ℕ) where
  pub hidden_advances : (a : Awaits) (last : Trees Fiber) (next : At) → AreFew s t st id bodies → Fits t → IsLinked t.current → BeginsPlace s way kept t st new st' id (answers.Hidden a)
      → ((c : Cursor) → (l : IsLeftAt new st' id (taken shapes.none) a c) → HasOldFallback new.current (given_along l.frames) l.old l.node l.value.element → ComesTo last st' next c)
      → HasNoNewsThere s kept t id → ((us : Flags) → FlagsAtPlace t id us → stood (flag us) ≡ true → HasFlags last next (flag us ∷ us)) → Advances s way kept t st (Begins id) bodies last st' next
  hidden_advances a last next few fits linked begins comes none_new opened _ (to_place {levels = zero} h) level gives = absurd (omega (arith, level))
  hidden_advances a last next few fits linked begins comes none_new opened _ (to_place {levels = suc n} {fs = fs} {cs = cs} {e = e} {old = old} h) level gives =
      let b = begins n fs cs e old h gives.0 gives.1 gives.2 in
      let none = boundary_none s bodies n fs cs e old b.key b.fallback b.given b.boundary (few n fs cs e old h) in
      record {
        next = _;
        goes = hidden_goes s t st new st' id n fs cs e old a linked b bodies none;
        comes = comes _ b.left b.again;
        paid = λ us causes are.
            let still = waits_there s kept t id old e a b.kept b.shown b.was b.old_is causes.0 b.versions b.calm b.unresolved none_new in
            let so = told_there t st id n us fs cs e old fits are h b.told in
            let out = untouched_there s (stood (flag us)) e old a b.kept b.shown b.was so still in
            hidden_paid s t st new last st' id n fs cs e old a us next linked b bodies none out (opened us are so);
      }

-- past a subtree that is taken over
module _ (s : Sight) (t new : Trees Fiber) (st' : Stack) (p n : ℕ) (fs : List Frame) (cs : Contexts) (e : Element) (old : Option Node) (linked : IsLinked t.current)
    (h : IsTakenOver s t new st' p fs cs e old) where
  taken_goes : (bodies : ℕ) → bodies ≡ 0 → Goes s t.current bodies (at_place (suc n) fs cs e old) (arrive (suc n) fs (Some h.node))
  taken_goes bodies none =
      subst (λ o. Goes s t.current bodies (at_place (suc n) fs cs e o) (arrive (suc n) fs (Some h.node))) (sym h.was)
      (past_subtree none linked h.reads (subst (IsOld t.current (old_of t.draft p)) h.was h.old_is) h.same h.idle)

  -- nothing is due in it
  taken_undue : (way : ℕ → Bool) (kept : ℕ → Option (List Hook)) → RestsThere s way kept t p → CausesAt s way kept (at_place (suc n) fs cs e old) → marks.ForEach (IsUndue s) h.node
  taken_undue way kept rested causes =
      let there : TellsIf s kept (Some h.node) = subst (TellsIf s kept) h.was causes.0 in
      let covered : CoversIf way (IsUndue s) (Some h.node) = subst (CoversIf way (IsUndue s)) h.was causes.1 in
      there.undue way (rested h.node (subst (IsOld t.current (old_of t.draft p)) h.was h.old_is)) covered

  taken_pays : (way : ℕ → Bool) (kept : ℕ → Option (List Hook)) (us : Flags) (bodies : ℕ) → bodies ≡ 0 → RestsThere s way kept t p → CausesAt s way kept (at_place (suc n) fs cs e old)
      → UnitPays s t.current bodies us (at_place (suc n) fs cs e old) us (arrive (suc n) fs (Some h.node))
  taken_pays way kept us bodies none rested causes =
      subst (λ o. UnitPays s t.current bodies us (at_place (suc n) fs cs e o) us (arrive (suc n) fs (Some h.node))) (sym h.was)
      (paying.past_subtree none linked h.reads (subst (IsOld t.current (old_of t.draft p)) h.was h.old_is) h.same h.idle (taken_undue way kept rested causes))

module _ (s : Sight) (way : ℕ → Bool) (kept : ℕ → Option (List Hook)) (t : Trees Fiber) (st : Stack) (new : Trees Fiber) (st' : Stack) (id bodies : ℕ) where
  pub taken_advances : (r : Next) → bodies ≡ 0 → IsLinked t.current → BeginsPlace s way kept t st new st' id answers.Taken → RestsThere s way kept t id
      → ((us : Flags) (x : Node) → FlagsAtPlace t id us → IsOld t.current (old_of t.draft id) (Some x) → HasFlags new (at_after r) us)
      → ((levels : ℕ) (fs : List Frame) (x : Node) → IsPassed new st' id fs x → StandsAt new st' (fiber_in r) (arrive levels fs (Some x)))
      → ((levels : ℕ) (fs : List Frame) (x : Node) → IsPassed new st' id fs x → LeadsTo r (arrive levels fs (Some x)))
      → Advances s way kept t st (Begins id) bodies new st' (at_after r)
  taken_advances r none linked begins rested passed there leads _ (to_place {levels = zero} h) level gives = absurd (omega (arith, level))
  taken_advances r none linked begins rested passed there leads _ (to_place {levels = suc n} {fs = fs} {cs = cs} {e = e} {old = old} h) level gives =
      let b = begins n fs cs e old h gives.0 gives.1 gives.2 in
      record {
        next = arrive (suc n) fs (Some b.node);
        goes = taken_goes s t new st' id n fs cs e old linked b bodies none;
        comes = leads_comes new st' r (arrive (suc n) fs (Some b.node)) (leads (suc n) fs b.node b.passed) (there (suc n) fs b.node b.passed);
        paid = λ us causes are.
            record {
              flags = us;
              are = passed us b.node are (subst (IsOld t.current (old_of t.draft id)) b.was b.old_is);
              pays = taken_pays s t new st' id n fs cs e old linked b way kept us bodies none rested causes;
            };
      }

-- hooks that give values are kept
keeps_given : (s : Sight) (kept : ℕ → Option (List Hook)) (old : Option Instance) → GivesHooks s kept old → KeepsHooks kept old
keeps_given s kept None gives n e = absurd (let f : ⊥ = cc in f)
keeps_given s kept (Some i) gives n e = let g = gives i n refl e in rw g.kept_is refl

mutual
  keeps_node : (s : Sight) (kept : ℕ → Option (List Hook)) (x : Node) → ForEach (GivesHooks s kept) x → ForEach (KeepsHooks kept) x
  keeps_node s kept (node e m ns fs) h = (keeps_given s kept (instance_in m) h.0, keeps_list s kept ns h.1, keeps_list s kept fs h.2)

  keeps_list : (s : Sight) (kept : ℕ → Option (List Hook)) (ns : Forest) → ForEachIn (GivesHooks s kept) ns → ForEachIn (KeepsHooks kept) ns
  keeps_list s kept trees.none h = tt
  keeps_list s kept (trees.vacant ns) h = keeps_list s kept ns h
  keeps_list s kept (trees.child x ns) h = (keeps_node s kept x h.0, keeps_list s kept ns h.1)

keeps_if : (s : Sight) (kept : ℕ → Option (List Hook)) (old : Option Node) → GivesHooksIf s kept old → KeepsHooksIf kept old
keeps_if s kept None h = tt
keeps_if s kept (Some x) h = keeps_node s kept x h

-- a place of which the next unit begins can be begun
pub can_begin : (scene : Scene) (kept : ℕ → Option (List Hook)) (t : Trees Fiber) (st : Stack) (id : ℕ) → CanBegin scene kept t st id → IsAtPlace scene.checked.now kept t st id
can_begin scene kept t st id can = stands can.stands can.there can.drawn (keeps_if can.sight kept can.old can.gives)

-- if a body waits, its fiber lies below open nodes
pub waits_below : (scene : Scene) (kept : ℕ → Option (List Hook)) (t : Trees Fiber) (st : Stack) (new : Trees Fiber) (st' : Stack) (id r : ℕ) → CanBegin scene kept t st id
    → ((s : Sight) → IsSceneOf scene s → BeginsPlace s (is_way scene.ways.now) kept t st new st' id (Suspended r)) → IsOpenBelow new st' id
waits_below scene kept t st new st' id r can begins =
    let b = begins can.sight can.sees can.levels can.frames can.contexts_are can.element can.old can.stands can.gives can.settled can.covers in lies b.4

-- and so does it if one throws
pub throws_below : (scene : Scene) (kept : ℕ → Option (List Hook)) (t : Trees Fiber) (st : Stack) (new : Trees Fiber) (st' : Stack) (id : ℕ) (x : ℤ) → CanBegin scene kept t st id
    → ((s : Sight) → IsSceneOf scene s → BeginsPlace s (is_way scene.ways.now) kept t st new st' id (answers.Thrown x)) → IsOpenBelow new st' id
throws_below scene kept t st new st' id x can begins =
    let b = begins can.sight can.sees can.levels can.frames can.contexts_are can.element can.old can.stands can.gives can.settled can.covers in lies b.4

-- if a hidden boundary waits still, its fallback can be opened
pub hidden_left : (scene : Scene) (kept : ℕ → Option (List Hook)) (t : Trees Fiber) (st : Stack) (new : Trees Fiber) (st' : Stack) (id : ℕ) (a : Awaits) → CanBegin scene kept t st id
    → ((s : Sight) → IsSceneOf scene s → BeginsPlace s (is_way scene.ways.now) kept t st new st' id (answers.Hidden a)) → IsLeft new id a
hidden_left scene kept t st new st' id a can begins =
    let b = begins can.sight can.sees can.levels can.frames can.contexts_are can.element can.old can.stands can.gives can.settled can.covers in left b.left

-- a boundary that is tried keeps what its fiber waited with
pub hidden_tried : (scene : Scene) (kept : ℕ → Option (List Hook)) (t : Trees Fiber) (st : Stack) (new : Trees Fiber) (id : ℕ) → Fits t → CanBegin scene kept t st id
    → ((v : Fiber) (c : Origin) → Some v ≡ made_value_of t.draft id → v.stage ≡ waits_with c → new ≡ record t { draft = valued id (changed (change.Try c)) t.draft })
    → (c : Origin) × (new ≡ record t { draft = valued id (changed (change.Try c)) t.draft })
hidden_tried scene kept t st new id fits can tells = go can.stands
  where
    go : StandsAt t st (Some id) (at_place (suc can.levels) can.frames can.contexts_are can.element can.old) → (c : Origin) × (new ≡ record t { draft = valued id (changed (change.Try c)) t.draft })
    go (begins_place {v = v} {o = o} {rs = rs} {k = k} here is was surrounds values stack moves) =
        (is.origin, tells v is.origin (sym (ap made_value_in (is-at t fits k id v o (taken shapes.none) rs here).list)) is.stage)

-- if a subtree is taken over, its fiber can be passed
pub taken_made : (scene : Scene) (kept : ℕ → Option (List Hook)) (t : Trees Fiber) (st : Stack) (new : Trees Fiber) (st' : Stack) (id : ℕ) → CanBegin scene kept t st id → KnowsPlaces new
    → ((s : Sight) → IsSceneOf scene s → BeginsPlace s (is_way scene.ways.now) kept t st new st' id answers.Taken) → Makes new.draft id
taken_made scene kept t st new st' id can knows begins =
    let b = begins can.sight can.sees can.levels can.frames can.contexts_are can.element can.old can.stands can.gives can.settled can.covers in
    let q = b.passed in
    (knows q.around id q.value q.old (taken q.kids) q.rest q.here).makes

-- a node is completed
pub end_advances : (s : Sight) (way : ℕ → Bool) (kept : ℕ → Option (List Hook)) (t : Trees Fiber) (st : Stack) (new : Trees Fiber) (st' : Stack) (id : ℕ) (a : At)
    → ((levels : ℕ) (fs : List Frame) (o : Open) (done : List (Option Node)) → StandsAt t st (Some id) (at_end levels fs o done) → ComesTo new st' a (unit s (at_end levels fs o done)))
    → ((us : Flags) → FlagsAtEnd t id us → HasFlags new a (outer us)) → Advances s way kept t st (Completes id) 0 new st' a
end_advances s way kept t st new st' id a f go _ (to_end {levels = levels} {fs = fs} {o = o} {done = done} h) level gives = record {
  next = unit s (at_end levels fs o done);
  goes = by_unit (omega arith);
  comes = f levels fs o done h;
  paid = λ us causes are. record { flags = outer us; are = go us are; pays = paying.by_unit tt refl };
}

-- Results

pub if_ok : {A E : Type 0} {P Q : A → Type 0} (r : Result A E) → ((a : A) → P a → Q a) → IfOk r P → IfOk r Q
if_ok (Ok a) f h = f a h
if_ok (Err e) f h = tt

pub on_ok : {A E : Type 0} {P : Type 0} (r : Result A E) → P → OnOk r P
on_ok (Ok a) h = h
on_ok (Err e) h = tt

pub on_err : {A E : Type 0} {P : Type 0} (r : Result A E) → P → OnErr r P
on_err (Ok a) h = tt
on_err (Err e) h = h
