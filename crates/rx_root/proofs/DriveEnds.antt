-- How the units of a turn end: the render is finished, or its slice is used up.
use Rattle.std.proofs.Common.{◌≡◌, ℕ, ◌+◌, ◌-◌, ◌<◌, ◌≤◌, Bool, true, false, [], refl, sym, ap, ◌∙◌, subst, arith, Option, Some, None}
use Rattle.std.specs.Prelude.{IfSome, IfOk, OnOk, Result, Ok, Err, is_some, unwrap_or}
use Rattle.rx_ast.specs.Syntax.{Program}
use Rattle.rx_sched.specs.Schedule.{Schedule}
use Rattle.rx_loop.specs.declared.turn.Driven.{Driven}
use Rattle.rx_loop.specs.declared.turn.Driven.TheVariants.{Finished, Yielded}
use Rattle.rx_loop.specs.Ends.{MatchDriven}
use Rattle.rx_model.specs.State.{State, Progress}
use Rattle.rx_model.specs.Committing.{sight_of}
use Rattle.rx_model.specs.Turns.{unit_bound, gone_on}
use Rattle.rx_model.specs.Laws.{IsBounded, IsReached}
use Rattle.run_laws.proofs.RenderBounds.{units_below}
use Rattle.rx_fiber.specs.Reading.{IsTreeOf}
use Rattle.rx_render.specs.declared.at.At.{At}
use Rattle.rx_render.specs.declared.at.At.TheVariants.{Begins, Completes, Over}
use Rattle.rx_render.specs.Rendering.{Rendering, IfLeft, units_left, left_of}
use Rattle.rx_render.specs.Renders.{Renders}
use Rattle.rx_render.specs.Turning.{Proceeds}
use Rattle.rx_render.proofs.Later.{renders_as, renders_same}
use Rattle.cost_laws.proofs.ComingCounts.{places_counted}
use Rattle.rx_render.proofs.Ending.{renders_end, renders_bounded}
use Rattle.rx_root.specs.Rooted.{Rooted}
use Rattle.rx_root.specs.Stands.{StandsWith, Stands}
use Rattle.rx_root.specs.Turning.{HasFinished, HasYielded}
use Rattle.rx_root.proofs.TurnStands.{moved_stands}

-- a render in progress still is
on_renders : (p : Program) (s : State) (g : Progress) (x y : Rendering) → x.program ≡ p → Proceeds x y → Renders p s g x → Renders p s g y
on_renders p s g x y same e h =
    subst (λ (q : Program). Renders q s g y) (e.program ∙ same) (e.renders s g (subst (λ (q : Program). Renders q s g x) (sym same) h))

-- a render has never taken more units than the bound
pub within_bound : (p : Program) → IsBounded p → (s : State) (g : Progress) (w : Rendering) → Renders p s g w → w.units ≤ unit_bound p
within_bound p bounded s g w h =
    let sight = sight_of p s g in
    omega (arith, h.come.goes.units_bound, units_below (sight_of p s g) bounded.apart bounded.small s.tree)

-- some unit is left if fewer were taken than the bound
pub left_before : (at : At) (bound units : ℕ) → IfLeft at (units < bound) → (IfLeft at ⊥ → ⊥) → 0 < units_left at bound units
left_before (Begins id) bound units few some = omega (arith, few)
left_before (Completes id) bound units few some = omega (arith, few)
left_before Over bound units few some = absurd (some tt)

over_after : (at : At) (bound units : ℕ) → IfLeft at (units < bound) → units_left at bound units ≡ 0 → at ≡ Over
over_after (Begins id) bound units few none = absurd (omega (arith, few, none))
over_after (Completes id) bound units few none = absurd (omega (arith, few, none))
over_after Over bound units few none = refl

left_after : (at : At) (bound units : ℕ) → IfLeft at (units < bound) → 0 < units_left at bound units → (IfLeft at ⊥ → ⊥) × (units < bound)
left_after (Begins id) bound units few some = (λ none. none, few)
left_after (Completes id) bound units few some = (λ none. none, few)
left_after Over bound units few some = absurd (omega (arith, some))

-- in a slice, no more units were used than it has
in_slice : (slice : Option ℕ) (before used after : ℕ) → (is_some slice ≡ true → used ≤ unwrap_or slice 1) → after ≡ before + used → IfSome slice (λ n. after ≤ before + n)
in_slice None before used after within e = tt
in_slice (Some n) before used after within e = omega (arith, within refl, e)

slice_is : (slice : Option ℕ) (used : ℕ) → is_some slice ≡ true → used ≡ unwrap_or slice 1 → slice ≡ Some used
slice_is None used is e = absurd (let f : false ≡ true = is in cc)
slice_is (Some n) used is e = ap (λ (k : ℕ). Some k) (sym e)

-- what the units of a turn leave, and how many bodies were evaluated
pub record HasGone (p : Program) (s : State) (g : Progress) (v : Rooted) (w : Rendering) (used steps counted : ℕ) : Type 0 where
  pub stands : StandsWith p s (Some g) v
  pub onward : Proceeds v.rendering w
  pub units : w.units ≡ v.rendering.units + used
  pub some : 0 < used
  pub each : w.bodies ≤ v.rendering.bodies + used
  pub ticks : counted + v.rendering.bodies ≡ steps + w.bodies
  pub rises : steps ≤ counted

module _ (p : Program) (bounded : IsBounded p) (s : State) (g : Progress) (slice : Option ℕ) (v : Rooted) (w : Rendering) (used steps counted : ℕ) (h : HasGone p s g v w used steps counted) where
  still : Renders p s g w
  still = on_renders p s g v.rendering w h.stands.program h.onward h.stands.progress.renders

  units_are : w.units ≡ g.units + used
  units_are = h.units ∙ ap (λ (n : ℕ). n + used) h.stands.progress.units

  bodies_rise : g.bodies ≤ w.bodies
  bodies_rise = omega (arith, h.ticks, h.rises, h.stands.progress.bodies)

  bodies_few : w.bodies ≤ g.bodies + used
  bodies_few = omega (arith, h.each, h.stands.progress.bodies)

  counted_are : counted ≡ steps + (w.bodies - g.bodies)
  counted_are = omega (arith, h.ticks, h.rises, h.stands.progress.bodies)

  -- the render is finished
  pub finished_as : left_of w ≡ 0 → (is_some slice ≡ true → used ≤ unwrap_or slice 1) → HasFinished p s g slice (record v { rendering = w }) steps counted
  finished_as none within =
      let program : w.program ≡ p = h.onward.program ∙ h.stands.program in
      let over : w.at ≡ Over = over_after w.at (unit_bound p) w.units (renders_bounded p bounded s g w still) (subst (λ (q : Program). units_left w.at (unit_bound q) w.units ≡ 0) program none) in
      let end = renders_end p bounded s g w still over in
      record {
        tree = end.0;
        finishes = record {
          counts = record { units = w.units; bodies = w.bodies };
          more_units = omega (arith, units_are, h.some);
          in_bound = within_bound p bounded s g w still;
          in_slice = in_slice slice g.units used w.units within units_are;
          bodies_kept = bodies_rise;
          fewer_bodies = end.3;
          one_a_unit = omega (arith, units_are, bodies_few);
          tree = end.0;
          rendered = end.2;
          stretch_is = refl;
        };
        stands = record {
          reached = h.stands.reached;
          program = program;
          current = subst (IsTreeOf s.tree) (sym h.onward.current) h.stands.current;
          seen = h.onward.seen ∙ h.stands.seen;
          numbered = (h.stands.numbered.0, subst (IsTreeOf h.stands.numbered.0) (sym h.onward.current) h.stands.numbered.1, h.stands.numbered.2);
          keeps = still.keeps;
          below = h.stands.below;
          shows = h.stands.shows;
          schedule = h.stands.schedule;
          commits = h.stands.commits;
          updates = h.stands.updates;
          resolutions = h.stands.resolutions;
          resources = h.stands.resources;
          now = h.stands.now;
          event = h.stands.event;
          numbers = h.stands.numbers;
          declared = h.stands.declared;
          progress = record {
            renders = still;
            over = over;
            there = end.1;
            gives = end.2;
            lanes_are_set = h.stands.progress.lanes_are_set;
            later = h.stands.progress.later;
          };
        };
        bodies = counted_are;
        evaluated = omega (arith, bodies_rise, end.4);
        are = end.5;
      }

  -- what the slice leaves is a render of the machine
  yielded_stands : (IfLeft w.at ⊥ → ⊥) → IsReached p (record s { progress = Some (gone_on g used (w.bodies - g.bodies)) })
      → Stands p (record s { progress = Some (gone_on g used (w.bodies - g.bodies)) }) (record v { rendering = w })
  yielded_stands some reached =
      let on : Progress = gone_on g used (w.bodies - g.bodies) in
      let t : State = record s { progress = Some on } in
      subst (λ (sch : Schedule). Stands p t (record v { rendering = w; schedule = sch })) (sym h.stands.schedule)
      (moved_stands p s _ v s.schedule (Some on) w h.stands reached h.onward.program h.onward.current h.onward.seen still.keeps
      (record {
        renders = renders_same p s t on w refl refl refl refl (renders_as p s g on w refl refl still);
        units = units_are;
        bodies = omega (arith, bodies_rise);
        left = some;
        lanes_are_set = h.stands.progress.lanes_are_set;
        later = h.stands.progress.later;
      }))

  -- the slice is used up
  pub yielded_as : 0 < left_of w → is_some slice ≡ true → used ≡ unwrap_or slice 1 → HasYielded p s g slice (record v { rendering = w }) steps counted
  yielded_as some is used_up =
      let program : w.program ≡ p = h.onward.program ∙ h.stands.program in
      let ends = left_after w.at (unit_bound p) w.units (renders_bounded p bounded s g w still) (subst (λ (q : Program). 0 < units_left w.at (unit_bound q) w.units) program some) in
      record {
        stretch = record { lines = []; bodies = w.bodies - g.bodies; after = record s { progress = Some (gone_on g used (w.bodies - g.bodies)) } };
        yields = record {
          budget = used;
          bodies = w.bodies - g.bodies;
          sliced = slice_is slice used is used_up;
          in_bound = omega (arith, units_are, ends.1);
          one_a_unit = omega (arith, bodies_few);
          stretch_is = refl;
        };
        stands = yielded_stands ends.0;
        silently = refl;
        bodies = counted_are;
        few = omega (arith, bodies_rise, still.costs.counted, places_counted (sight_of p s g) s.tree);
      }

-- some unit is left of a render in progress
pub some_left : (p : Program) (s : State) (g : Progress) (v : Rooted) → IsBounded v.rendering.program → StandsWith p s (Some g) v → 0 < left_of v.rendering
some_left p s g v bounded h =
    let w = v.rendering in
    let few = renders_bounded p (subst IsBounded h.program bounded) s g w h.progress.renders in
    let left : 0 < units_left w.at (unit_bound p) w.units = left_before w.at (unit_bound p) w.units few h.progress.left in
    subst (λ (q : Program). 0 < units_left w.at (unit_bound q) w.units) (sym h.program) left

-- what the driver promises of the units of a turn, by how it ended
abbrev Ends : Rendering → Rendering → (budget : ℕ) → (sliced : Bool) → Driven → Type 0
Ends x y budget sliced d =
    MatchDriven d (λ used. (left_of y ≡ 0) × (used ≤ left_of x) × (sliced ≡ true → used ≤ budget))
    (λ used. (0 < left_of y) × (used + left_of y ≤ left_of x) × (sliced ≡ true) × (used ≡ budget))

-- the same of both ends
abbrev Both : Driven → (ℕ → Type 0) → Type 0
Both d A = MatchDriven d A A

-- so a turn ends in one of two ways
pub driven_as : {E : Type 0} (r : Result Driven E) (before v : Rooted) (w : Rendering) (slice : Option ℕ) (budget : ℕ) (sliced : Bool) (steps counted : ℕ) → v ≡ before
    → IsBounded v.rendering.program
    → budget ≡ unwrap_or slice 1 → sliced ≡ is_some slice → IfOk r (Ends v.rendering w budget sliced) → IfOk r (λ d. Both d (λ used. w.units ≡ v.rendering.units + used))
    → IfOk r (λ d. Both d (λ used. 0 < used)) → IfOk r (λ d. Both d (λ used. w.bodies ≤ v.rendering.bodies + used))
    → OnOk r (counted + v.rendering.bodies ≡ steps + w.bodies) → OnOk r (Proceeds v.rendering w) → steps ≤ counted
    → IfOk r (λ d. MatchDriven d
    (λ used. (p : Program) (s : State) (g : Progress) → StandsWith p s (Some g) before → HasFinished p s g slice (record v { rendering = w }) steps counted)
    (λ used. (p : Program) (s : State) (g : Progress) → StandsWith p s (Some g) before → HasYielded p s g slice (record v { rendering = w }) steps counted))
driven_as (Ok (Finished n)) before v w slice budget sliced steps counted same bounded is_budget is_sliced ends units some each ticks onward rises =
    λ p s g i.
    let h = subst (λ (x : Rooted). StandsWith p s (Some g) x) (sym same) i in
    finished_as p (subst IsBounded h.program bounded) s g slice v w n steps counted
    (record { stands = h; onward = onward; units = units; some = some; each = each; ticks = ticks; rises = rises }) ends.0
    (λ is. subst (λ (b : ℕ). n ≤ b) is_budget (ends.2 (is_sliced ∙ is)))
driven_as (Ok (Yielded n)) before v w slice budget sliced steps counted same bounded is_budget is_sliced ends units some each ticks onward rises =
    λ p s g i.
    let h = subst (λ (x : Rooted). StandsWith p s (Some g) x) (sym same) i in
    yielded_as p (subst IsBounded h.program bounded) s g slice v w n steps counted
    (record { stands = h; onward = onward; units = units; some = some; each = each; ticks = ticks; rises = rises }) ends.0
    (sym is_sliced ∙ ends.2) (ends.3 ∙ is_budget)
driven_as (Err e) before v w slice budget sliced steps counted same bounded is_budget is_sliced ends units some each ticks onward rises = tt
