-- A unit keeps a render in progress.
use Rattle.std.specs.Prelude.{◌≡◌, ℕ, zero, suc, ◌+◌, ◌-◌, ◌<◌, ◌≤◌, Bool, true, false, List, [], ℤ, Option, Some, None, length, refl, ◌^◌}
use Rattle.std.proofs.Common.{sym, ap, ◌∙◌, subst, arith, add-one}
use Rattle.rx_ast.specs.Syntax.{Program, contexts}
use Rattle.rx_check.specs.Checks.{unknowns}
use Rattle.rx_loop.specs.Ends.{MatchUnit}
use Rattle.rx_loop.specs.declared.work.Unit as work
use Rattle.rx_ctx.specs.Contexts.{Stack, values_at}
use Rattle.rx_rules.proofs.Limits.{limits_nodes}
use Rattle.rx_elem.specs.Elements.{Element}
use Rattle.rx_elem.specs.Trees.{Instance, Node, node, Forest, none, vacant, child, instance_in}
use Rattle.rx_hooks.specs.declared.hook.Hook.{Hook}
use Rattle.rx_lists.specs.Shapes as shapes
use Rattle.rx_links.specs.Drafts.{grafted, taken, Trees}
use Rattle.rx_meaning.specs.Fresh.{Sight, Contexts, default_contexts, shape_of, throwing}
use Rattle.rx_meaning.specs.Cursor.{Open, Frame, Cursor, at_place, at_end, ended, is_null, unit, HasLevel}
use Rattle.rx_meaning.specs.Cursor as cursors
use Rattle.rx_meaning.specs.Settled.{DoneBefore, IfReadsHold, IfSettled, known_by, version_done}
use Rattle.rx_model.specs.State.{State, Progress}
use Rattle.rx_model.specs.Committing.{sight_of}
use Rattle.rx_model.specs.HooksOf.{KeepsAllHooks}
use Rattle.rx_model.specs.Laws.{IsBounded}
use Rattle.rx_model.specs.Turns.{unit_bound}
use Rattle.rx_fiber.specs.Fibers.{Fiber}
use Rattle.rx_fiber.specs.Reading.{IsTreeOf}
use Rattle.rx_fiber.specs.Standing.{StandsAt, begins}
use Rattle.rx_fiber.specs.Subtrees.{IsGathered}
use Rattle.rx_fiber.specs.Surround.{given_along}
use Rattle.rx_fiber.specs.Unwound.{is_guarded}
use Rattle.rx_complete.specs.Ends.{ends}
use Rattle.rx_hook_store.specs.Store.{Kept, kept_hooks}
use Rattle.rx_hook_store.specs.Gives.{GivesValues}
use Rattle.rx_hook_store.proofs.Stores.{each-keeps, keeps-give}
use Rattle.commit_laws.specs.Idle.{IsIdleMark}
use Rattle.commit_laws.specs.WaitsAgain.{IfWaitsAgain}
use Rattle.rx_ways.specs.Ways.{CoversIf, is_way}
use Rattle.render_laws.specs.InProgress.{InProgress}
use Rattle.render_laws.specs.OldNodes.{CursorHas}
use Rattle.render_laws.proofs.GoingLaws.{unit_holds}
use Rattle.render_laws.proofs.LevelLaw.{fit_has_level}
use Rattle.draw_laws.specs.Drawn.{IsDrawn}
use Rattle.draw_laws.specs.Cursors.{CursorDrawn}
use Rattle.rx_causes.specs.declared.scene.Scene.{Scene}
use Rattle.rx_causes.specs.Scenes.{IsSceneOf, GivesHooks}
use Rattle.rx_causes.specs.Hidden.{ForEach, ForEachIn}
use Rattle.rx_render.specs.declared.at.At.{At}
use Rattle.rx_render.specs.declared.at.At.TheVariants.{Begins, Completes, Over}
use Rattle.begin_laws.specs.Mounting.{IfMounted, HasInstances, HasInstancesIn}
use Rattle.rx_render.specs.Mounting.{GoesWith}
use Rattle.rx_render.specs.GivenContexts.{CursorGiven}
use Rattle.rx_render.specs.Rendering.{Rendering, IfLeft, units_left, left_of, ComesTo, to_place, to_end, to_tree, to_wait}
use Rattle.rx_render.specs.Renders.{Sees, GivesAll, HasCome, HasCosts, Renders, IsUnderWay, IsRendering}
use Rattle.rx_beside.specs.Alike.{AllTakeAlike}
use Rattle.rx_render.specs.Gathers.{IsGathering}
use Rattle.rx_render.specs.Turning.{Proceeds, UnitBreaksOff, GivesUp}
use Rattle.rx_render.specs.LastUnit.{unit_before, is_over}
use Rattle.cost_laws.specs.Left.{Costs}
use Rattle.cost_laws.specs.Undue.{IsUndue}
use Rattle.begin_laws.proofs.Hooks.{hooks_tell}
use Rattle.rx_render.specs.Costing.{CausesAt}
use Rattle.rx_render.specs.Advancing.{IsReadyAt, GivesAt, Advances}
use Rattle.rx_render.proofs.SameVersions.{versions_same}
use Rattle.rx_render.proofs.Contexts.{as_many, one_each}
use Rattle.rx_render.proofs.Reaching.{DrawsOn, Reaches, pays, reaches}
use Rattle.rx_render.proofs.Ending.{come_bounded, no_throw}
use Rattle.rx_render.proofs.Guarded.{ends_thrown, thrown_on}

-- the element of a place is drawn
abbrev pub DrawsPlace : Type 0
DrawsPlace = (p : Program) (n : ℕ) (fs : List Frame) (cs : Contexts) (e : Element) (o : Option Node) → CursorDrawn p (at_place n fs cs e o) → IsDrawn p e

-- If a unit is left

pub is_left : (at : At) (bound units : ℕ) → 0 < units_left at bound units → {A : Type 0} → IfLeft at A → A
is_left (Begins id) bound units h a = a
is_left (Completes id) bound units h a = a
is_left Over bound units h a = absurd (omega (arith, h))

left_busy : (t : Trees Fiber) (st : Stack) (at : At) (c : Cursor) (bound units : ℕ) → ComesTo t st at c → 0 < units_left at bound units → cursors.is_over c ≡ false
left_busy t st _ _ bound units (to_place h) l = refl
left_busy t st _ _ bound units (to_end h) l = refl
left_busy t st _ _ bound units (to_tree h) l = absurd (omega (arith, l))
left_busy t st _ _ bound units to_wait l = absurd (omega (arith, l))

-- The hooks of old instances

pub gives_instance : (s : Sight) (tree : Option Node) (kept : ℕ → Option (List Hook)) → GivesAll s tree kept → (i : Option Instance) → IfMounted tree i → GivesHooks s kept i
gives_instance s tree kept gives o h i n is number =
    let w = h i n is number in
    subst (λ k. GivesValues s kept k i.initials) w.is_numbered (subst (λ xs. GivesValues s kept w.instance.number xs) w.is_initially (gives w.place w.instance w.there))

mutual
  gives_node : (s : Sight) (tree : Option Node) (kept : ℕ → Option (List Hook)) → GivesAll s tree kept → (x : Node) → HasInstances tree x → ForEach (GivesHooks s kept) x
  gives_node s tree kept gives (node e m ns fs) h = (gives_instance s tree kept gives (instance_in m) h.0, gives_list s tree kept gives ns h.1, gives_list s tree kept gives fs h.2)

  gives_list : (s : Sight) (tree : Option Node) (kept : ℕ → Option (List Hook)) → GivesAll s tree kept → (ns : Forest) → HasInstancesIn tree ns → ForEachIn (GivesHooks s kept) ns
  gives_list s tree kept gives none h = tt
  gives_list s tree kept gives (vacant ns) h = gives_list s tree kept gives ns h
  gives_list s tree kept gives (child x ns) h = (gives_node s tree kept gives x h.0, gives_list s tree kept gives ns h.1)

gives_at : (s : Sight) (way : ℕ → Bool) (tree : Option Node) (kept : ℕ → Option (List Hook)) → GivesAll s tree kept → IfSettled s.program (known_by s) tree → CoversIf way (IsIdleMark s) tree → (c : Cursor)
    → CursorHas (HasInstances tree) c → CursorHas (GoesWith tree) c → GivesAt s way kept c
gives_at s way tree kept gives settled covers (at_place n fs cs e None) h r = (tt, tt, tt)
gives_at s way tree kept gives settled covers (at_place n fs cs e (Some x)) h r = (gives_node s tree kept gives x h.0, r.0.settles s.program (known_by s) settled, r.0.covered way s covers)
gives_at s way tree kept gives settled covers (at_end n fs o d) h r = tt
gives_at s way tree kept gives settled covers (ended x) h r = tt

-- A unit

renders_sees : (p : Program) (st : State) (g : Progress) (v : Rendering) → Renders p st g v → Sees v (sight_of p st g)
renders_sees p st g v r = record { program = sym r.program; resources = r.resources; declared = r.declared; lanes = sym r.lanes; cut = sym r.cut; throws = r.throws }

renders_give : (p : Program) (st : State) (g : Progress) (v : Rendering) → Renders p st g v → GivesAll (sight_of p st g) st.tree (kept_hooks v.hooks)
renders_give p st g v r k m at = keeps-give p st g (kept_hooks v.hooks) m.number m.initials r.done (each-keeps p st (kept_hooks v.hooks) r.keeps k m at)

-- if a render is in progress one is under way
pub renders_under_way : (st : State) (g : Progress) (v : Rendering) → Renders v.program st g v → IsUnderWay v
renders_under_way st g v r =
    record { sight = sight_of v.program st g; tree = st.tree; sees = renders_sees v.program st g v r; gives = renders_give v.program st g v r; current = r.current; done = r.done; settled = r.settled; waits = r.waits; reads = r.reads; covers = r.covers; come = r.come }

-- what a unit makes of a rendering
pub record Stepped (old new : Rendering) (evaluated : ℕ) : Type 0 where
  pub program : new.program ≡ old.program
  pub current : new.trees.current ≡ old.trees.current
  pub lanes : new.lanes ≡ old.lanes
  pub cut : new.cut ≡ old.cut
  pub seen : new.seen ≡ old.seen
  pub throws : new.throws ≡ old.throws
  pub resources : new.resources ≡ old.resources
  pub ways : new.ways ≡ old.ways
  pub units : new.units ≡ suc old.units
  pub bodies : new.bodies ≡ old.bodies + evaluated
  pub keeps : (st : State) → DoneBefore old.cut st.journal.updates → KeepsAllHooks old.program st (kept_hooks old.hooks) → KeepsAllHooks old.program st (kept_hooks new.hooks)
  pub still : (s : Sight) (k : ℕ) (initials : List ℤ) → Sees old s → GivesValues s (kept_hooks old.hooks) k initials → GivesValues s (kept_hooks new.hooks) k initials
  pub advances : (s : Sight) → Sees old s → Advances s (is_way old.ways) (kept_hooks old.hooks) old.trees old.contexts old.at evaluated new.trees new.contexts new.at

module _ (old new : Rendering) (evaluated : ℕ) (step : Stepped old new evaluated) (draws : DrawsOn) (known : unknowns old.program ≡ []) (left : 0 < left_of old) where
  step_comes : (s : Sight) (tree : Option Node) → Sees old s → GivesAll s tree (kept_hooks old.hooks) → IsTreeOf tree old.trees.current → IfSettled s.program (known_by s) tree
      → IfWaitsAgain s (default_contexts s.program) tree → DoneBefore s.cut s.journal.updates → IfReadsHold (version_done s.journal.updates) (default_contexts s.program) tree → CoversIf (is_way old.ways) (IsIdleMark s) tree → HasCome s tree old → HasCome s tree new
  step_comes s tree sees gives current settled waits done reads covers come =
      let c = come.cursor in
      let busy : cursors.is_over c ≡ false = left_busy old.trees old.contexts old.at c (unit_bound old.program) old.units come.comes left in
      let level : HasLevel c = fit_has_level s.program c come.goes.fits come.goes.stands in
      let next = step.advances s sees c come.comes level (gives_at s (is_way old.ways) tree (kept_hooks old.hooks) gives settled covers c come.olds come.rests) in
      let h = reaches s tree old.trees.current current settled waits reads (versions_same s done sees.declared) draws (subst (λ q. unknowns q ≡ []) (sym sees.program) known) old.units old.bodies evaluated c next.next next.goes
      (record { goes = come.goes; drawn = come.drawn; given = come.given; olds = come.olds; rests = come.rests; reached = come.reached }) busy in
      record {
        cursor = next.next;
        comes = next.comes;
        goes = rw (step.units, step.bodies) h.goes;
        drawn = h.drawn;
        given = h.given;
        olds = h.olds;
        rests = h.rests;
        reached = h.reached;
      }

  -- the hooks tell the causes at the place where it stands
  causes_at : (p : Program) (st : State) (g : Progress) (c : Cursor) → KeepsAllHooks p st (kept_hooks old.hooks) → CursorHas (HasInstances st.tree) c → CursorHas (GoesWith st.tree) c
      → CoversIf (is_way old.ways) (IsUndue (sight_of p st g)) st.tree → CausesAt (sight_of p st g) (is_way old.ways) (kept_hooks old.hooks) c
  causes_at p st g (at_place n fs cs e None) keeps olds rests undue = (tt, tt)
  causes_at p st g (at_place n fs cs e (Some x)) keeps olds rests undue = (hooks_tell p st g (kept_hooks old.hooks) x keeps olds.0, rests.0.undue (is_way old.ways) (sight_of p st g) undue)
  causes_at p st g (at_end n fs o d) keeps olds rests undue = tt
  causes_at p st g (ended x) keeps olds rests undue = tt

  -- what the unit costs is paid
  step_costs : (p : Program) (st : State) (g : Progress) → (sees : Sees old (sight_of p st g)) → KeepsAllHooks p st (kept_hooks old.hooks) → (gives : GivesAll (sight_of p st g) st.tree (kept_hooks old.hooks))
      → (current : IsTreeOf st.tree old.trees.current) → (settled : IfSettled p (known_by (sight_of p st g)) st.tree) → (waits : IfWaitsAgain (sight_of p st g) (default_contexts p) st.tree)
      → (done : DoneBefore g.cut st.journal.updates) → (reads : IfReadsHold (version_done st.journal.updates) (default_contexts p) st.tree) → (covers : CoversIf (is_way old.ways) (IsIdleMark (sight_of p st g)) st.tree) → (come : HasCome (sight_of p st g) st.tree old)
      → HasCosts (sight_of p st g) st.tree old come.cursor
      → HasCosts (sight_of p st g) st.tree new (step_comes (sight_of p st g) st.tree sees gives current settled waits done reads covers come).cursor
  unfolding step_comes
  step_costs p st g sees keeps gives current settled waits done reads covers come costs =
      let s = sight_of p st g in
      let c = come.cursor in
      let level : HasLevel c = fit_has_level s.program c come.goes.fits come.goes.stands in
      let next = step.advances s sees c come.comes level (gives_at s (is_way old.ways) st.tree (kept_hooks old.hooks) gives settled covers c come.olds come.rests) in
      let paid = next.paid costs.flags (causes_at p st g c keeps come.olds come.rests costs.undue) costs.are in
      let at : Reaches s st.tree old.units old.bodies c = record { goes = come.goes; drawn = come.drawn; given = come.given; olds = come.olds; rests = come.rests; reached = come.reached } in
      let checked : unknowns s.program ≡ [] = subst (λ q. unknowns q ≡ []) (sym sees.program) known in
      record {
        flags = paid.flags;
        are = paid.are;
        counted = subst (λ b. Costs s st.tree b paid.flags next.next) (sym step.bodies) (pays s st.tree old.trees.current current settled waits reads (versions_same s done sees.declared) draws checked old.units old.bodies evaluated c next.next costs.flags paid.flags paid.pays at costs.counted);
        undue = subst (λ w. CoversIf (is_way w) (IsUndue s) st.tree) (sym step.ways) costs.undue;
      }

  step_sees : (s : Sight) → Sees old s → Sees new s
  step_sees s sees =
      record {
        program = sees.program ∙ sym step.program;
        resources = step.resources ∙ sees.resources;
        declared = sees.declared;
        lanes = sees.lanes ∙ sym step.lanes;
        cut = sees.cut ∙ sym step.cut;
        throws = step.throws ∙ sees.throws;
      }

  step_keeps : (p : Program) → old.program ≡ p → (st : State) (g : Progress) → Renders p st g old → KeepsAllHooks p st (kept_hooks new.hooks)
  step_keeps p same st g r =
      let done : DoneBefore old.cut st.journal.updates = subst (λ k. DoneBefore k st.journal.updates) (sym r.cut) r.done in
      subst (λ q. KeepsAllHooks q st (kept_hooks new.hooks)) same (step.keeps st done (subst (λ q. KeepsAllHooks q st (kept_hooks old.hooks)) (sym same) r.keeps))

  step_renders : (p : Program) → old.program ≡ p → (st : State) (g : Progress) → Renders p st g old → Renders p st g new
  step_renders p same st g r =
      record {
        program = step.program ∙ r.program;
        resources = step.resources ∙ r.resources;
        declared = r.declared;
        lanes = step.lanes ∙ r.lanes;
        cut = step.cut ∙ r.cut;
        seen = step.seen ∙ r.seen;
        throws = step.throws ∙ r.throws;
        current = subst (IsTreeOf st.tree) (sym step.current) r.current;
        keeps = step_keeps p same st g r;
        done = r.done;
        past = r.past;
        settled = r.settled;
        rooted = r.rooted;
        waits = r.waits;
        reads = r.reads;
        covers = subst (λ w. CoversIf (is_way w) (IsIdleMark (sight_of p st g)) st.tree) (sym step.ways) r.covers;
        come = step_comes (sight_of p st g) st.tree (renders_sees p st g old r) (renders_give p st g old r) r.current r.settled r.waits r.done r.reads r.covers r.come;
        costs = step_costs p st g (renders_sees p st g old r) r.keeps (renders_give p st g old r) r.current r.settled r.waits r.done r.reads r.covers r.come r.costs;
      }

  pub step_goes_on : Proceeds old new
  step_goes_on =
      record {
        program = step.program;
        current = step.current;
        seen = step.seen;
        lanes = step.lanes;
        cut = step.cut;
        resources = step.resources;
        keeps = λ st done h. subst (λ p. KeepsAllHooks p st (kept_hooks new.hooks)) (sym step.program) (step.keeps st done h);
        renders = λ st g r. subst (λ p. Renders p st g new) (sym step.program) (step_renders old.program refl st g r);
      }

  pub step_way : IsUnderWay old → IsUnderWay new
  step_way way =
      record {
        sight = way.sight;
        tree = way.tree;
        sees = step_sees way.sight way.sees;
        gives = λ k m at. step.still way.sight m.number m.initials way.sees (way.gives k m at);
        current = subst (IsTreeOf way.tree) (sym step.current) way.current;
        done = way.done;
        settled = way.settled;
        waits = way.waits;
        reads = way.reads;
        covers = subst (λ w. CoversIf (is_way w) (IsIdleMark way.sight) way.tree) (sym step.ways) way.covers;
        come = step_comes way.sight way.tree way.sees way.gives way.current way.settled way.waits way.done way.reads way.covers way.come;
      }

if_left : (at : At) {A : Type 0} → A → IfLeft at A
if_left (Begins id) a = a
if_left (Completes id) a = a
if_left Over a = tt

-- what is done is gathered along a unit
abbrev pub GathersOn : (old new : Rendering) → Type 0
GathersOn old new = IsGathered old.trees.current → IsGathering old.trees old.at → IsGathering new.trees new.at

-- a rendering that a render is in progress of is one
pub step_rendering : (old new : Rendering) (evaluated : ℕ) → Stepped old new evaluated → DrawsOn → GathersOn old new → IsRendering old → 0 < left_of old → IsRendering new
step_rendering old new evaluated step draws gathers is left =
    record {
      known = subst (λ p. unknowns p ≡ []) (sym step.program) is.known;
      bounded = subst IsBounded (sym step.program) is.bounded;
      under_way = if_left new.at (step_way old new evaluated step draws is.known left (is_left old.at (unit_bound old.program) old.units left is.under_way));
      gathered = subst IsGathered (sym step.current) is.gathered;
      gathering = gathers is.gathered is.gathering;
    }

-- What a unit needs

-- what throws lies below an error boundary that tries its children, since no render ends in a throw
throws_below : (s : Sight) (tree : Option Node) → IsBounded s.program → (units bodies n : ℕ) (fs : List Frame) (cs : Contexts) (e : Element) (old : Option Node) → InProgress s tree units bodies (at_place (suc n) fs cs e old)
    → (x : ℤ) → shape_of s cs e old ≡ throwing x → is_guarded fs ≡ true
throws_below s tree bounded units bodies n fs cs e old goes x shape = go (is_guarded fs) refl
  where
    go : (b : Bool) → is_guarded fs ≡ b → b ≡ true
    go true h = refl
    go false h =
        absurd
        (no_throw s.program bounded s tree refl (suc units) (bodies + 0) x
        (subst (InProgress s tree (suc units) (bodies + 0)) (thrown_on s n fs cs e old x shape ∙ ends_thrown (suc n) fs x h)
        (unit_holds s tree units bodies (at_place (suc n) fs cs e old) goes refl 0 (omega arith))))

ready_as : (s : Sight) (tree : Option Node) (v : Rendering) → IsBounded s.program → Sees v s → GivesAll s tree (kept_hooks v.hooks) → IfSettled s.program (known_by s) tree → CoversIf (is_way v.ways) (IsIdleMark s) tree → DrawsPlace → (scene : Scene)
    → IsSceneOf scene s → scene.checked.now ≡ s.program → scene.ways.now ≡ v.ways → IsGathered v.trees.current
    → (at : At) (c : Cursor) → ComesTo v.trees v.contexts at c → InProgress s tree v.units v.bodies c → CursorDrawn s.program c → CursorGiven (default_contexts s.program) c
    → CursorHas (HasInstances tree) c → CursorHas (GoesWith tree) c → cursors.is_over c ≡ false → IsReadyAt scene (kept_hooks v.hooks) v.trees v.contexts at
ready_as s tree v bounded see gives settled covers draws scene sees same ways gathered _ _ (to_place {levels = zero} {fs = fs} {cs = cs} {e = e} {old = old} h) goes drawn given olds rests busy =
    absurd (let l : HasLevel (at_place zero fs cs e old) = fit_has_level s.program (at_place zero fs cs e old) goes.fits goes.stands in omega (arith, l))
ready_as s tree v bounded see gives settled covers draws scene sees same ways gathered _ _ (to_place {id = id} {levels = suc n} {fs = fs} {cs = cs} {e = e} {old = old} h) goes drawn given olds rests busy =
    record {
      sight = s;
      sees = sees;
      levels = n;
      frames = fs;
      contexts_are = cs;
      element = e;
      old = old;
      stands = h;
      there = goes.stands;
      drawn = subst (λ q. IsDrawn q e) (sym same) (draws s.program (suc n) fs cs e old drawn);
      gives = (gives_at s (is_way v.ways) tree (kept_hooks v.hooks) gives settled covers (at_place (suc n) fs cs e old) olds rests).0;
      settled = (gives_at s (is_way v.ways) tree (kept_hooks v.hooks) gives settled covers (at_place (suc n) fs cs e old) olds rests).1;
      covers = subst (λ w. CoversIf (is_way w) (IsIdleMark s) old) (sym ways) (gives_at s (is_way v.ways) tree (kept_hooks v.hooks) gives settled covers (at_place (suc n) fs cs e old) olds rests).2;
      caught = throws_below s tree bounded v.units v.bodies n fs cs e old goes;
      each = values_are h ∙ (ap length given.0 ∙ (as_many (default_contexts s.program) (given_along fs) ∙ (one_each s.program ∙ ap (λ q. length (contexts q)) (sym same))));
      gathered = gathered;
    }
  where
    values_are : StandsAt v.trees v.contexts (Some id) (at_place (suc n) fs cs e old) → length (values_at v.contexts) ≡ length cs
    values_are (begins here waits was around values stack moves) = ap length values
ready_as s tree v bounded see gives settled covers draws scene sees same ways gathered _ _ (to_end h) goes drawn given olds rests busy = ends h
ready_as s tree v bounded see gives settled covers draws scene sees same ways gathered _ _ (to_tree h) goes drawn given olds rests busy = absurd (let f : ⊥ = cc in f)
ready_as s tree v bounded see gives settled covers draws scene sees same ways gathered _ _ to_wait goes drawn given olds rests busy = absurd (let f : ⊥ = cc in f)

module _ (v : Rendering) (is : IsRendering v) (left : 0 < left_of v) where
  abbrev pub way : IsUnderWay v
  way = is_left v.at (unit_bound v.program) v.units left is.under_way

  pub unit_ready : DrawsPlace → (scene : Scene) → ((s : Sight) → Sees v s → IsSceneOf scene s) → scene.checked.now ≡ v.program → scene.ways.now ≡ v.ways → IsReadyAt scene (kept_hooks v.hooks) v.trees v.contexts v.at
  unit_ready draws scene sees same ways =
      let come = way.come in
      ready_as way.sight way.tree v (subst IsBounded (sym way.sees.program) is.bounded) way.sees way.gives way.settled way.covers draws scene (sees way.sight way.sees) (same ∙ sym way.sees.program) ways is.gathered v.at come.cursor come.comes come.goes come.drawn come.given come.olds come.rests
      (left_busy v.trees v.contexts v.at come.cursor (unit_bound v.program) v.units come.comes left)

  pub unit_below : v.units < unit_bound v.program
  unit_below =
      subst (λ p. v.units < unit_bound p) way.sees.program
      (is_left v.at (unit_bound v.program) v.units left (come_bounded way.sight way.tree v (subst IsBounded (sym way.sees.program) is.bounded) way.come))

  pub bodies_below : v.bodies ≤ v.units
  bodies_below = let h = way.come.goes.fewer in omega (arith, h)

-- What a unit leaves, from the value that was opened

units_of : (at : At) (bound units : ℕ) → 0 < units_left at bound units → units_left at bound units ≡ bound - units
units_of (Begins id) bound units h = refl
units_of (Completes id) bound units h = refl
units_of Over bound units h = absurd (omega (arith, h))

units_most : (at : At) (bound units : ℕ) → units_left at bound units ≤ bound - units
units_most (Begins id) bound units = omega arith
units_most (Completes id) bound units = omega arith
units_most Over bound units = omega arith

units_last : (at : At) (bound units : ℕ) → IfLeft at (units < bound) → MatchUnit (unit_before at) (units_left at bound units ≡ 0) (0 < units_left at bound units)
units_last (Begins id) bound units h = omega (arith, h)
units_last (Completes id) bound units h = omega (arith, h)
units_last Over bound units h = refl

-- what a unit makes, by what it leaves
pub stepped : (inside : Rendering) (t : Trees Fiber) (hooks : Kept) (st : Stack) (next : At) (evaluated : ℕ) {count : ℕ} → evaluated ≡ count → t.current ≡ inside.trees.current
    → ((st : State) → DoneBefore inside.cut st.journal.updates → KeepsAllHooks inside.program st (kept_hooks inside.hooks) → KeepsAllHooks inside.program st (kept_hooks hooks))
    → ((s : Sight) (k : ℕ) (initials : List ℤ) → Sees inside s → GivesValues s (kept_hooks inside.hooks) k initials → GivesValues s (kept_hooks hooks) k initials)
    → ((s : Sight) → Sees inside s → Advances s (is_way inside.ways) (kept_hooks inside.hooks) inside.trees inside.contexts inside.at count t st next)
    → Stepped inside (record inside { trees = t; hooks = hooks; contexts = st; at = next; units = inside.units + 1; bodies = inside.bodies + evaluated }) evaluated
stepped inside t hooks st next evaluated same current keeps still advances =
    record {
      program = refl;
      current = current;
      lanes = refl;
      cut = refl;
      seen = refl;
      throws = refl;
      resources = refl;
      ways = refl;
      units = add-one inside.units;
      bodies = refl;
      keeps = keeps;
      still = still;
      advances = λ s sees. subst (λ n. Advances s (is_way inside.ways) (kept_hooks inside.hooks) inside.trees inside.contexts inside.at n t st next) (sym same) (advances s sees);
    }

-- a fact that follows if a unit is left
then_left : (at : At) {A : Type 0} (B : Type 0) → IfLeft at A → (A → IfLeft at B) → IfLeft at B
then_left (Begins id) B a f = f a
then_left (Completes id) B a f = f a
then_left Over B a f = tt

-- if a unit is left of a rendering, fewer were taken than its render may take
rendering_bounded : (v : Rendering) → IsRendering v → IfLeft v.at (v.units < unit_bound v.program)
rendering_bounded v is =
    then_left v.at (v.units < unit_bound v.program) is.under_way
    (λ way. subst (λ p. IfLeft v.at (v.units < unit_bound p)) way.sees.program (come_bounded way.sight way.tree v (subst IsBounded (sym way.sees.program) is.bounded) way.come))

-- no more units are left of a rendering than its render may take
pub left_within : (v : Rendering) → left_of v ≤ unit_bound v.program
left_within v = omega (arith, units_most v.at (unit_bound v.program) v.units)

-- few units are left of a rendering
pub few_left : (v : Rendering) → IsRendering v → left_of v < 2 ^ 64
few_left v is = let a = is.bounded.small in let b = units_most v.at (unit_bound v.program) v.units in omega (arith, a, b, limits_nodes v.program)

pub over_at : (at : At) → is_over at ≡ true → at ≡ Over
over_at (Begins id) e = absurd (let f : ⊥ = cc in f)
over_at (Completes id) e = absurd (let f : ⊥ = cc in f)
over_at Over e = refl

some_units : (at : At) (bound units : ℕ) → units < bound → is_over at ≡ false → 0 < units_left at bound units
some_units (Begins id) bound units h e = omega (arith, h)
some_units (Completes id) bound units h e = omega (arith, h)
some_units Over bound units h e = absurd (let f : ⊥ = cc in f)

if_busy : (at : At) {A : Type 0} → IfLeft at A → is_over at ≡ false → A
if_busy (Begins id) a e = a
if_busy (Completes id) a e = a
if_busy Over a e = absurd (let f : ⊥ = cc in f)

-- units are left if it is not over
pub some_left : (v : Rendering) → IsRendering v → is_over v.at ≡ false → 0 < left_of v
some_left v is e =
    let way = if_busy v.at is.under_way e in
    some_units v.at (unit_bound v.program) v.units
    (subst (λ p. v.units < unit_bound p) way.sees.program (if_busy v.at (come_bounded way.sight way.tree v (subst IsBounded (sym way.sees.program) is.bounded) way.come) e)) e

-- a rendering that is over is one, if its trees are gathered
pub ended_rendering : (old new : Rendering) → IsRendering old → new.program ≡ old.program → new.at ≡ Over → IsGathered new.trees.current → IsGathered (grafted new.trees.draft) → AllTakeAlike new.trees.current new.trees.draft
    → IsRendering new
ended_rendering old new is same over current draft alike =
    record {
      known = subst (λ p. unknowns p ≡ []) (sym same) is.known;
      bounded = subst IsBounded (sym same) is.bounded;
      under_way = subst (λ a. IfLeft a (IsUnderWay new)) (sym over) tt;
      gathered = current;
      gathering = subst (IsGathering new.trees) (sym over) (draft, alike);
    }

-- and one of which the current tree stayed
pub over_rendering : (old new : Rendering) → IsRendering old → new.program ≡ old.program → new.at ≡ Over → new.trees.current ≡ old.trees.current → IsGathered (grafted new.trees.draft) → AllTakeAlike new.trees.current new.trees.draft
    → IsRendering new
over_rendering old new is same over current draft alike = ended_rendering old new is same over (subst IsGathered (sym current) is.gathered) draft alike

-- one of which the draft was dropped
pub dropped_rendering : (old new : Rendering) → IsRendering old → new.program ≡ old.program → new.at ≡ Over → new.trees ≡ record old.trees { draft = taken shapes.none } → IsRendering new
dropped_rendering old new is same over trees =
    over_rendering old new is same over (ap (λ t. t.current) trees) (subst (λ t. IsGathered (grafted t.draft)) (sym trees) tt) (subst (λ (t : Trees Fiber). AllTakeAlike t.current t.draft) (sym trees) tt)

-- what is there when no unit is left is gathered
pub over_gathered : (v : Rendering) → IsRendering v → v.at ≡ Over → IsGathered (grafted v.trees.draft)
over_gathered v is over = (subst (IsGathering v.trees) over is.gathering).0

module _ (value inside : Rendering) (same : inside ≡ value) (is : IsRendering inside) (left : 0 < left_of value) where
  abbrev pub inside_left : 0 < left_of inside
  inside_left = subst (λ v. 0 < left_of v) (sym same) left

  pub inside_ready : DrawsPlace → (scene : Scene) → ((s : Sight) → Sees inside s → IsSceneOf scene s) → scene.checked.now ≡ inside.program → scene.ways.now ≡ inside.ways
      → IsReadyAt scene (kept_hooks inside.hooks) inside.trees inside.contexts inside.at
  inside_ready = unit_ready inside is inside_left

  pub units_fit : inside.units + 1 < 2 ^ 64
  units_fit = let a = unit_below inside is inside_left in let b = is.bounded.small in omega (arith, a, b, limits_nodes inside.program)

  pub bodies_fit : (evaluated : ℕ) → evaluated ≤ 1 → inside.bodies + evaluated < 2 ^ 64
  bodies_fit evaluated e =
      let a = unit_below inside is inside_left in let b = is.bounded.small in let c = bodies_below inside is inside_left in omega (arith, a, b, c, e, limits_nodes inside.program)

  -- what broke off
  pub breaks : (new : Rendering) → new.program ≡ inside.program → new.trees.current ≡ inside.trees.current → new.seen ≡ inside.seen → new.at ≡ Over
      → ((st : State) → DoneBefore inside.cut st.journal.updates → KeepsAllHooks inside.program st (kept_hooks inside.hooks) → KeepsAllHooks inside.program st (kept_hooks new.hooks))
      → UnitBreaksOff value new
  breaks new program current seen over keeps =
      subst (λ v. UnitBreaksOff v new) same
      (record { program = program; current = current; seen = seen; keeps = λ st done h. subst (λ p. KeepsAllHooks p st (kept_hooks new.hooks)) (sym program) (keeps st done h); over = over })

  module _ (new : Rendering) (evaluated : ℕ) (step : Stepped inside new evaluated) (draws : DrawsOn) (gathers : GathersOn inside new) where
    pub steps_on : Proceeds value new
    steps_on = subst (λ v. Proceeds v new) same (step_goes_on inside new evaluated step draws is.known inside_left)

    pub steps_to : IsRendering new
    steps_to = step_rendering inside new evaluated step draws gathers is inside_left

    abbrev left_is : left_of value ≡ unit_bound inside.program - inside.units
    left_is = subst (λ v. left_of v ≡ unit_bound inside.program - inside.units) same (units_of inside.at (unit_bound inside.program) inside.units inside_left)

    abbrev new_left : left_of new ≡ units_left new.at (unit_bound inside.program) (suc inside.units)
    new_left = ap (λ p. units_left new.at (unit_bound p) new.units) step.program ∙ ap (units_left new.at (unit_bound inside.program)) step.units

    pub falls : left_of new < left_of value
    falls =
        let a = unit_below inside is inside_left in
        let b = units_most new.at (unit_bound inside.program) (suc inside.units) in
        omega (arith, left_is, new_left, a, b)

    pub last : (u : work.Unit) → u ≡ unit_before new.at → MatchUnit u (left_of new ≡ 0) (0 < left_of new)
    last u e = rw e (units_last new.at (unit_bound new.program) new.units (rendering_bounded new steps_to))

    pub ticks : (before after : ℕ) → after ≡ before + evaluated → after + value.bodies ≡ before + new.bodies
    ticks before after f = let c : value.bodies ≡ inside.bodies = ap (λ v. v.bodies) (sym same) in omega (arith, f, c, step.bodies)

-- what broke off and is discarded is given up
pub given_up : (x m n : Rendering) → UnitBreaksOff x m → n ≡ record m { trees = record m.trees { draft = taken shapes.none }; at = Over } → GivesUp x n
given_up x m n b e = subst (GivesUp x) (sym e) (record { program = b.program; current = b.current; seen = b.seen; keeps = b.keeps; idle = record { over = refl; empty = refl } })
