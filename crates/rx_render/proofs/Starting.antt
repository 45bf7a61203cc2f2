-- A render that starts is in progress.
use Rattle.std.specs.Prelude.{◌≡◌, ℕ, ℤ, Bool, List, [], Option, Some, None, IfSome, is_some, true, refl}
use Rattle.std.proofs.Common.{sym, ap, ◌∙◌, subst, arith}
use Rattle.rx_base.specs.declared.cut.Cut.{Cut}
use Rattle.rx_lane.specs.Lanes.{Lanes}
use Rattle.rx_ast.specs.Syntax.{Program}
use Rattle.rx_ctx.specs.Contexts as contexts
use Rattle.rx_ctx.specs.Contexts.{Stack}
use Rattle.rx_check.specs.Checks.{is_rooted, unknowns}
use Rattle.rx_elem.specs.Elements.{Element}
use Rattle.rx_elem.specs.Trees.{Node, element_of}
use Rattle.rx_lists.specs.Shapes.{Shape, first}
use Rattle.rx_lists.specs.Shapes as shapes
use Rattle.rx_links.specs.Drafts.{Trees, taken, made}
use Rattle.rx_meaning.specs.Fresh.{Sight, default_contexts, root_element}
use Rattle.rx_meaning.specs.Cursor.{start}
use Rattle.rx_meaning.specs.Settled.{DoneBefore, HasOwnNumbers}
use Rattle.rx_meaning.specs.Touched.{may_throw_anew}
use Rattle.rx_model.specs.State.{Progress, State}
use Rattle.rx_model.specs.Committing.{sight_of, starting}
use Rattle.rx_model.specs.HooksOf.{KeepsAllHooks}
use Rattle.rx_model.specs.Laws.{IsBounded}
use Rattle.rx_fiber.specs.Fibers.{Fiber, is_visible, waiting, nothing}
use Rattle.rx_fiber.specs.Subtrees.{IsGathered}
use Rattle.rx_fiber.specs.declared.stage.Origin.{Origin}
use Rattle.rx_fiber.specs.Reading.{IsTreeOf, IsOld, of, next}
use Rattle.rx_fiber.specs.Reading as reading
use Rattle.rx_fiber.specs.Stood.{at_root}
use Rattle.rx_fiber.specs.Surround.{IsElementOf, IsWaiting, StandsIf}
use Rattle.rx_fiber.proofs.Starting.{starts, root_old}
use Rattle.rx_children.proofs.OldNodes.{node_element}
use Rattle.rx_hook_store.specs.Store.{kept_hooks}
use Rattle.rx_hook_store.proofs.Stores.{each-keeps, keeps-give}
use Rattle.commit_laws.specs.Idle.{IsIdleMark}
use Rattle.commit_laws.specs.HiddenWaits.{IfNumbered}
use Rattle.rx_ways.specs.Ways.{CoversIf, Ways, is_way}
use Rattle.render_laws.proofs.GoingLaws.{start_holds}
use Rattle.room_laws.specs.Reached as steps
use Rattle.draw_laws.specs.Cursors.{CursorDrawn}
use Rattle.rx_links.specs.Places.{top}
use Rattle.cost_laws.specs.Left.{Costs}
use Rattle.cost_laws.specs.Undue.{IsUndue}
use Rattle.cost_laws.proofs.CostLaws.{start_costs}
use Rattle.begin_laws.specs.Flagged.{FlagsAtPlace}
use Rattle.begin_laws.specs.Flagged as flagged
use Rattle.rx_render.specs.Costing.{HasFlags}
use Rattle.rx_render.specs.declared.at.At.TheVariants.{Begins, Over}
use Rattle.rx_beside.specs.Alike.{AllTakeAlike}
use Rattle.rx_render.specs.Gathers.{IsGathering}
use Rattle.rx_render.specs.Rendering.{Rendering, IfLeft, ComesTo, to_place}
use Rattle.rx_resources.specs.Seen.{Resources}
use Rattle.rx_render.specs.Renders.{GivesAll, Renders, IsStartOf, CanStart, IsUnderWay, IsRendering}
use Rattle.rx_render.proofs.Contexts.{start_given}
use Rattle.rx_render.proofs.Instances.{start_instances, start_rests}
use Rattle.rx_render.proofs.Going.{renders_under_way}

-- what a cursor at its start is drawn by
abbrev pub DrawsStart : Type 0
DrawsStart = (s : Sight) (old : Option Node) → is_rooted s.program ≡ true → CursorDrawn s.program (start s old)

-- the root's fiber is a clone of that of a tree with the root's element
root_same : (c : Shape Fiber) (o : Option ℕ) (old : Option Node) (e : Element) → IsOld c o old → IfSome old (λ x. element_of x ≡ e) → is_some o ≡ true → IsElementOf c o e
root_same c _ _ e reading.new rooted there = cc
root_same c _ _ e (of {j = j} {n = n} {x = x} {s = s} here leads (next {rest = rest} is a)) rooted there = node_element c j n x s rest is here ∙ ap Some rooted

-- it stands at the root, if it is there
root_stands_if : (c : Shape Fiber) (o : Option ℕ) → first c ≡ o → StandsIf c [] [] o
root_stands_if c None e = tt
root_stands_if c (Some i) e = record { given = []; stood = at_root e; same = λ d f. refl }

root_waits : (p : Program) (c : Shape Fiber) (old : Option Node) (v : Fiber) (origin : Origin) → IsTreeOf old c → IfSome old (λ x. element_of x ≡ root_element p) → v.place ≡ 0
    → v.element ≡ root_element p → v.stage ≡ waiting origin → (origin.cloned ≡ true → is_some (first c) ≡ true) → origin.generation ≡ 0 → IsWaiting c [] [] (first c) v 0 (root_element p)
root_waits p c old v origin tree rooted place element stage clones generation = record {
  at = place;
  element = element;
  origin = origin;
  stage = stage;
  same = λ so. root_same c (first c) old (root_element p) (root_old c old tree) rooted (clones so);
  stands = λ so. root_stands_if c (first c) refl;
  first = λ so. generation;
}

comes_to_start : (s : Sight) (old : Option Node) (t : Trees Fiber) (id : ℕ) (v : Fiber)
    → IsTreeOf old t.current → IsWaiting t.current [] [] (first t.current) v 0 (root_element s.program) → t.draft ≡ made id v (first t.current) (taken shapes.none) (taken shapes.none)
    → ComesTo t (contexts.opening (default_contexts s.program)) (Begins id) (start s old)
unfolding start
comes_to_start s old t id v tree waits here = to_place (starts s old t id v tree waits here)

-- nothing is above the root's list, and what its fiber was made for is visible, with an element that is always the same
root_flags : (t : Trees Fiber) (id : ℕ) (v : Fiber) (origin : Origin) → v.stage ≡ waiting origin → origin.visible ≡ true
    → t.draft ≡ made id v (first t.current) (taken shapes.none) (taken shapes.none) → FlagsAtPlace t id []
root_flags t id v origin stage visible here = record {
  flags = record { around = top; value = v; old = first t.current; rest = taken shapes.none; here = here; flagged = flagged.at_root refl refl tt };
  told = ap is_visible stage ∙ visible;
}

-- a rendering whose root waits for its first unit
pub record StandsAtRoot (lanes : Lanes) (cut : Cut) (resources : Resources) (old new : Rendering) : Type 0 where
  pub program : new.program ≡ old.program
  pub current : new.trees.current ≡ old.trees.current
  pub hooks : new.hooks ≡ old.hooks
  pub lanes_are : new.lanes ≡ lanes
  pub cut_is : new.cut ≡ cut
  pub resources_are : new.resources ≡ resources
  pub seen : new.seen ≡ old.seen
  pub throws : (s : Sight) → s.program ≡ old.program → s.seen ≡ old.seen → s.cut ≡ cut → new.throws ≡ may_throw_anew s
  pub covers : (s : Sight) (tree : Option Node) (next : ℕ) → s.lanes ≡ lanes → s.cut ≡ cut → GivesAll s tree (kept_hooks old.hooks) → IsTreeOf tree old.trees.current → IfNumbered tree → HasOwnNumbers next tree
      → CoversIf (is_way new.ways) (IsIdleMark s) tree
  pub undue : (p : Program) (st : State) (g : Progress) (next : ℕ) → g.lanes ≡ lanes → g.cut ≡ cut → KeepsAllHooks p st (kept_hooks old.hooks) → IsTreeOf st.tree old.trees.current → IfNumbered st.tree → HasOwnNumbers next st.tree
      → CoversIf (is_way new.ways) (IsUndue (sight_of p st g)) st.tree
  pub units : new.units ≡ 0
  pub bodies : new.bodies ≡ 0
  pub id : ℕ
  pub value : Fiber
  pub origin : Origin
  pub place : value.place ≡ 0
  pub element : value.element ≡ root_element old.program
  pub stage : value.stage ≡ waiting origin
  pub clones : origin.cloned ≡ is_some (first new.trees.current)
  pub visible : origin.visible ≡ true
  pub generation : origin.generation ≡ 0
  pub here : new.trees.draft ≡ made id value (first new.trees.current) (taken shapes.none) (taken shapes.none)
  pub at : new.at ≡ Begins id
  pub contexts_are : new.contexts ≡ contexts.opening (default_contexts old.program)

-- hooks give it the values of the instances of the committed tree
start_gives : (lanes : Lanes) (cut : Cut) (resources : Resources) (old : Rendering) (st : State) → IsStartOf st lanes cut resources old
    → GivesAll (sight_of old.program st (starting st lanes)) st.tree (kept_hooks old.hooks)
start_gives lanes cut resources old st is k m at =
    keeps-give old.program st (starting st lanes) (kept_hooks old.hooks) m.number m.initials (subst (λ c. DoneBefore c st.journal.updates) is.cut_is is.done) (each-keeps old.program st (kept_hooks old.hooks) is.keeps k m at)

pub start_renders : (lanes : Lanes) (cut : Cut) (resources : Resources) (old new : Rendering) → StandsAtRoot lanes cut resources old new → DrawsStart → IsBounded old.program
    → (st : State) → IsStartOf st lanes cut resources old → Renders old.program st (starting st lanes) new
start_renders lanes cut resources old new r draws bounded st is =
    let s = sight_of old.program st (starting st lanes) in
    let tree : IsTreeOf st.tree new.trees.current = subst (IsTreeOf st.tree) (sym r.current) is.current in
    record {
      program = r.program;
      resources = r.resources_are ∙ is.resources_are;
      declared = is.declared;
      lanes = r.lanes_are;
      cut = r.cut_is ∙ is.cut_is;
      seen = r.seen ∙ is.seen;
      throws = r.throws s refl (sym is.seen) (sym is.cut_is);
      current = tree;
      keeps = subst (λ k. KeepsAllHooks old.program st (kept_hooks k)) (sym r.hooks) is.keeps;
      done = rw (← is.cut_is) is.done;
      past = record { updates = omega arith; resolutions = omega arith };
      settled = is.settled;
      rooted = is.rooted;
      waits = is.waits;
      reads = is.reads;
      covers = r.covers s st.tree is.apart.0 refl (sym is.cut_is) (start_gives lanes cut resources old st is) is.current is.numbered is.apart.1;
      come = record {
        cursor = start s st.tree;
        comes = rw (r.at, r.contexts_are) (comes_to_start s st.tree new.trees r.id r.value tree (root_waits old.program new.trees.current st.tree r.value r.origin tree is.rooted r.place r.element r.stage (λ so. sym r.clones ∙ so) r.generation) r.here);
        goes = rw (r.units, r.bodies) (start_holds s st.tree bounded.shallow);
        drawn = draws s st.tree bounded.rooted;
        given = start_given s st.tree;
        olds = start_instances s st.tree;
        rests = start_rests s st.tree;
        reached = steps.starts s refl;
      };
      costs = record {
        flags = [];
        are = subst (λ a. HasFlags new.trees a []) (sym r.at) (root_flags new.trees r.id r.value r.origin r.stage r.visible r.here);
        counted = subst (λ b. Costs s st.tree b [] (start s st.tree)) (sym r.bodies) (start_costs s st.tree);
        undue = r.undue old.program st (starting st lanes) is.apart.0 refl (sym is.cut_is) is.keeps is.current is.numbered is.apart.1;
      };
    }

-- what a start leaves, by what it makes
module _ (lanes : Lanes) (cut : Cut) (resources : Resources) (old inside : Rendering) (t : Trees Fiber) (id : ℕ) (st : Stack) (ways : Ways) (throws : Bool) where
  abbrev pub started : Rendering
  started = record inside { trees = t; contexts = st; resources = resources; lanes = lanes; cut = cut; ways = ways; at = Begins id; units = 0; bodies = 0; throws = throws }

  pub root_stands : inside ≡ record old { trees = record old.trees { draft = taken shapes.none }; at = Over } → (v : Fiber) (root : Element) (given defaults : List ℤ)
      → t ≡ record inside.trees { draft = made id v (first inside.trees.current) (taken shapes.none) (taken shapes.none) }
      → (origin : Origin) → origin.cloned ≡ is_some (first inside.trees.current) → origin.visible ≡ true → origin.generation ≡ 0 → v ≡ record { place = 0; element = root; stage = waiting origin; subtree = nothing } → root ≡ root_element inside.program
      → st ≡ contexts.opening given → given ≡ defaults → defaults ≡ default_contexts inside.program
      → ((s : Sight) (tree : Option Node) (next : ℕ) → s.lanes ≡ lanes → s.cut ≡ cut → GivesAll s tree (kept_hooks inside.hooks) → IsTreeOf tree inside.trees.current → IfNumbered tree → HasOwnNumbers next tree
      → CoversIf (is_way ways) (IsIdleMark s) tree)
      → ((p : Program) (st : State) (g : Progress) (next : ℕ) → g.lanes ≡ lanes → g.cut ≡ cut → KeepsAllHooks p st (kept_hooks inside.hooks) → IsTreeOf st.tree inside.trees.current → IfNumbered st.tree → HasOwnNumbers next st.tree
      → CoversIf (is_way ways) (IsUndue (sight_of p st g)) st.tree)
      → ((s : Sight) → s.program ≡ inside.program → s.seen ≡ inside.seen → s.cut ≡ cut → throws ≡ may_throw_anew s)
      → StandsAtRoot lanes cut resources old started
  root_stands was v root given defaults grown origin cloned_is visible_is generation_is value element stack same all covers undue anew =
      let program : inside.program ≡ old.program = ap (λ r. r.program) was in
      let kept : t.current ≡ inside.trees.current = ap (λ u. u.current) grown in
      record {
        program = program;
        current = kept ∙ ap (λ r. r.trees.current) was;
        hooks = ap (λ r. r.hooks) was;
        lanes_are = refl;
        cut_is = refl;
        resources_are = refl;
        seen = ap (λ r. r.seen) was;
        throws = λ s known last at. anew s (known ∙ sym program) (last ∙ sym (ap (λ r. r.seen) was)) at;
        covers = λ s tree next with at gives is. covers s tree next with at (subst (λ (r : Rendering). GivesAll s tree (kept_hooks r.hooks)) (sym was) gives) (subst (λ (r : Rendering). IsTreeOf tree r.trees.current) (sym was) is);
        undue = λ p st g next with at keeps is. undue p st g next with at (subst (λ (r : Rendering). KeepsAllHooks p st (kept_hooks r.hooks)) (sym was) keeps) (subst (λ (r : Rendering). IsTreeOf st.tree r.trees.current) (sym was) is);
        units = refl;
        bodies = refl;
        id = id;
        value = v;
        origin = origin;
        place = ap (λ u. u.place) value;
        element = ap (λ u. u.element) value ∙ (element ∙ ap root_element program);
        stage = ap (λ u. u.stage) value;
        clones = cloned_is ∙ ap (λ c. is_some (first c)) (sym kept);
        visible = visible_is;
        generation = generation_is;
        here = ap (λ u. u.draft) grown ∙ ap (λ c. made id v (first c) (taken shapes.none) (taken shapes.none)) (sym kept);
        at = refl;
        contexts_are = stack ∙ ap contexts.opening (same ∙ (all ∙ ap default_contexts program));
      }

-- a rendering that has started is one
pub start_rendering : (lanes : Lanes) (cut : Cut) (resources : Resources) (old new : Rendering) (id : ℕ) → StandsAtRoot lanes cut resources old new → DrawsStart
    → unknowns new.program ≡ [] → IsBounded new.program → IsGathered new.trees.current → CanStart lanes cut resources old → IsRendering new
start_rendering lanes cut resources old new id r draws known bounded current can =
    record {
      known = known;
      bounded = bounded;
      under_way = subst (λ a. IfLeft a (IsUnderWay new)) (sym r.at)
          (renders_under_way can.state (starting can.state lanes) new
          (subst (λ p. Renders p can.state (starting can.state lanes) new) (sym r.program)
          (start_renders lanes cut resources old new r draws (subst IsBounded r.program bounded) can.state can.is)));
      gathered = current;
      gathering = subst (IsGathering new.trees) (sym r.at) (
        record { around = top; value = r.value; old = first new.trees.current; rest = taken shapes.none; here = r.here; gathered = tt; follow = refl },
        subst (AllTakeAlike new.trees.current) (sym r.here) (tt, (tt, tt)),
      );
    }
