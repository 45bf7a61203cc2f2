-- What a turn may do is done by some turn, after the right number of bodies; and so is what a run does.
use Rattle.std.proofs.Common.{◌≡◌, ◌⊎◌, inl, inr, ℕ, ◌+◌, ◌-◌, ◌<◌, ◌≤◌, min, Bool, true, false, List, [], ◌++◌, Option, Some, None, append-nil, refl, sym, ap, subst, ◌∙◌, arith}
use Rattle.std.specs.Prelude.{IfSome, nat_le, option_map}
use Rattle.std.proofs.lemmas.Bool.Decides.{nat_tests}
use Rattle.rx_ast.specs.Syntax.{Program}
use Rattle.rx_lane.specs.Lanes.{Lanes}
use Rattle.rx_sched.specs.declared.choice.Choice.{Choice}
use Rattle.rx_sched.specs.declared.choice.Choice.TheVariants as choice
use Rattle.rx_meaning.specs.Outcome.{outcome}
use Rattle.rx_lines.specs.Lines.{Line}
use Rattle.rx_model.specs.State.{Progress, State}
use Rattle.rx_model.specs.Stretch.{Stretch, followed_by, silent}
use Rattle.rx_model.specs.Committing.{ended, passive_run, starting}
use Rattle.rx_model.specs.Turns.{AnyRender, Continues, GoesOn, Turn, TurnBy, choice_of, gone_on, unit_bound}
use Rattle.choice_laws.specs.Choosing.{Fit, FinishesAs, FitInUnits, FreeTurnsAreTaken, Render, YieldsAs, render_by, with_bodies}
use Rattle.choice_laws.proofs.Bodies.{GoesAs, bodied, choice_with, same_end, slice_with}

-- Turns

-- a finish that may be is one, if the right bodies were evaluated before
finish_taken : (p : Program) (first : List Line) (s : State) (y : Option Progress) (g : Progress) (b : ℕ) (budget : Option ℕ) (lines : List Line) (t : State)
    → (f : FinishesAs p (record { first = first; state = s; progress = g }) budget lines t) → b ≤ f.counts.bodies → f.counts.bodies ≤ b ⊎ (b ≡ g.units)
    → (r : Stretch) × GoesOn AnyRender p (record s { progress = y }) (record g { bodies = b }) budget r × (first ++ r.lines ≡ lines) × (r.after ≡ t)
finish_taken p first s y g b budget lines t f kept close =
    let end = same_end s y g b f.counts (outcome g.lanes s.tree f.tree) in (
      ended (record s { progress = y }) (record g { bodies = b }) f.counts f.tree,
      (
        inl (record {
          counts = f.counts;
          more_units = f.fit.more_units;
          in_bound = f.fit.in_bound;
          in_slice = subst (λ (x : Option ℕ). IfSome x (λ n. f.counts.units ≤ g.units + n)) (sym (slice_with s y g b budget)) f.fit.in_slice;
          bodies_kept = kept;
          fewer_bodies = f.fit.fewer_bodies;
          one_a_unit = few close;
          tree = f.tree;
          rendered = f.rendered;
          stretch_is = refl;
        }),
        tt,
      ),
      ap (λ (ls : List Line). first ++ ls) end.lines ∙ sym f.lines_are,
      end.after ∙ sym f.after_is,
    )
  where
    few : f.counts.bodies ≤ b ⊎ (b ≡ g.units) → f.counts.bodies - b ≤ f.counts.units - g.units
    few (inl h) = omega (arith, h)
    few (inr h) = omega (arith, h, f.fit.fewer_bodies, f.fit.more_units)

-- so is a slice that is used up
yield_taken : (p : Program) (first : List Line) (s : State) (y : Option Progress) (g : Progress) (b : ℕ) (budget : Option ℕ) (lines : List Line) (t : State)
    → (w : YieldsAs p (record { first = first; state = s; progress = g }) budget lines t) → b ≤ w.after.0 → w.after.0 ≤ b + w.units
    → (r : Stretch) × GoesOn AnyRender p (record s { progress = y }) (record g { bodies = b }) budget r × (first ++ r.lines ≡ lines) × (r.after ≡ t)
yield_taken p first s y g b budget lines t w kept close =
    let more : ℕ = w.after.0 - b in
    let all : b + more ≡ w.after.0 = omega arith in (
      record { lines = []; bodies = more; after = record s { progress = Some (gone_on (record g { bodies = b }) w.units more) } },
      (
        inr (record { budget = w.units; bodies = more; sliced = slice_with s y g b budget ∙ w.sliced; in_bound = w.in_bound; one_a_unit = omega arith; stretch_is = refl }),
        tt,
      ),
      append-nil first ∙ sym w.lines_are,
      (λ i. record s { progress = Some (record { lanes = g.lanes; cut = g.cut; units = g.units + w.units; bodies = all i }) }) ∙ sym w.after.2,
    )

min_close : (c u : ℕ) → (c ≤ min c u) ⊎ (min c u ≡ u)
min_close c u = go (nat_le c u) refl
  where
    go : (b : Bool) → nat_le c u ≡ b → (c ≤ min c u) ⊎ (min c u ≡ u)
    go true e = inl (let le : c ≤ u = grind (arith, nat_tests) in omega (arith, le))
    go false e = inr (let lt : u < c = grind (arith, nat_tests) in omega (arith, lt))

-- a turn from a state with some bodies, which writes these lines and leads to this state
abbrev Takes : Program → State → (budget : Option ℕ) → List Line → State → Type 0
Takes p s budget lines t = (b : ℕ) × FitInUnits b s × (r : Stretch) × Turn AnyRender p (with_bodies b s) budget r × (r.lines ≡ lines) × (r.after ≡ t)

turn_of : (p : Program) (s : State) (b : ℕ) (c : Choice) (budget : Option ℕ) (r : Stretch) → choice_of s ≡ c → TurnBy AnyRender p (with_bodies b s) c budget r → Turn AnyRender p (with_bodies b s) budget r
turn_of p s b c budget r e t = subst (λ (x : Choice). TurnBy AnyRender p (with_bodies b s) x budget r) (sym (choice_with b s ∙ e)) t

some_is : (x y : Render) → Some x ≡ Some y → x ≡ y
some_is x y e = cc

keep_taken : (p : Program) (s : State) (g : Progress) (budget : Option ℕ) (lines : List Line) (t : State) → choice_of s ≡ choice.Keep → s.progress ≡ Some g
    → GoesAs p (record { first = []; state = s; progress = g }) budget lines t → Takes p s budget lines t
keep_taken p s g budget lines t e k goes = by_end goes
  where
    taken : (b : ℕ) → b ≤ g.units → (r : Stretch) × GoesOn AnyRender p (record s { progress = bodied b s.progress }) (record g { bodies = b }) budget r × (r.lines ≡ lines) × (r.after ≡ t) → Takes p s budget lines t
    taken b fits x = (
      b,
      subst (λ (z : Option Progress). IfSome z (λ h. b ≤ h.units)) (sym k) fits,
      x.0,
      turn_of p s b choice.Keep budget x.0 e (subst (λ (z : Option Progress). Continues AnyRender p (with_bodies b s) z budget x.0) (sym (ap (bodied b) k)) x.1),
      x.2,
      x.3,
    )

    by_end : GoesAs p (record { first = []; state = s; progress = g }) budget lines t → Takes p s budget lines t
    by_end (inl f) =
        let b : ℕ = min f.counts.bodies g.units in
        taken b (omega arith) (finish_taken p [] s (bodied b s.progress) g b budget lines t f (omega arith) (min_close f.counts.bodies g.units))
    by_end (inr w) =
        let b : ℕ = min w.after.0 g.units in
        let most : w.after.0 ≤ g.units + w.units = w.after.1 in
        taken b (omega arith) (yield_taken p [] s (bodied b s.progress) g b budget lines t w (omega arith) (omega (arith, most)))

start_taken : (p : Program) (s : State) (lanes : Lanes) (budget : Option ℕ) (lines : List Line) (t : State) → choice_of s ≡ choice.Start lanes
    → GoesAs p (record { first = (passive_run s).lines; state = (passive_run s).after; progress = starting s lanes }) budget lines t → Takes p s budget lines t
start_taken p s lanes budget lines t e goes = by_end goes
  where
    y : Option Progress
    y = bodied 0 s.progress

    none_fit : (x : Option Progress) → IfSome x (λ g. 0 ≤ g.units)
    none_fit None = tt
    none_fit (Some g) = omega arith

    taken : (r : Stretch) × GoesOn AnyRender p (record (passive_run s).after { progress = y }) (record (starting s lanes) { bodies = 0 }) budget r × ((passive_run s).lines ++ r.lines ≡ lines) × (r.after ≡ t) → Takes p s budget lines t
    taken x = (
      0,
      none_fit s.progress,
      followed_by (passive_run (with_bodies 0 s)) x.0,
      turn_of p s 0 (choice.Start lanes) budget _ e (record { rest = x.0; begins = x.1; stretch_is = refl }),
      x.2,
      x.3,
    )

    by_end : GoesAs p (record { first = (passive_run s).lines; state = (passive_run s).after; progress = starting s lanes }) budget lines t → Takes p s budget lines t
    by_end (inl f) =
        taken (finish_taken p (passive_run s).lines (passive_run s).after y (starting s lanes) 0 budget lines t f (omega arith) (inr refl))
    by_end (inr w) =
        let most : w.after.0 ≤ 0 + w.units = w.after.1 in
        taken (yield_taken p (passive_run s).lines (passive_run s).after y (starting s lanes) 0 budget lines t w (omega arith) most)

pub free_turns_are_taken : (p : Program) → FreeTurnsAreTaken p
free_turns_are_taken p s t budget lines (inl rests) = (
  rests.2.0,
  rests.2.1,
  silent (with_bodies rests.2.0 s),
  turn_of p s rests.2.0 choice.None budget (silent (with_bodies rests.2.0 s)) rests.0 refl,
  sym rests.1,
  sym rests.2.2,
)
free_turns_are_taken p s t budget lines (inr renders) = by_choice (choice_of s) refl renders.1
  where
    by_choice : (c : Choice) → choice_of s ≡ c → render_by s c ≡ Some renders.0 → Takes p s budget lines t
    by_choice choice.None e k = absurd (cc k)
    by_choice choice.Keep e k = go s.progress refl k
      where
        go : (x : Option Progress) → s.progress ≡ x → option_map (λ (g : Progress). record { first = []; state = s; progress = g }) x ≡ Some renders.0 → Takes p s budget lines t
        go None f h = absurd (cc h)
        go (Some g) f h =
            let is : renders.0 ≡ record { first = []; state = s; progress = g } = sym (some_is _ _ h) in
            keep_taken p s g budget lines t e f (subst (λ (x : Render). GoesAs p x budget lines t) is renders.2)
    by_choice (choice.Start lanes) e k =
        start_taken p s lanes budget lines t e (subst (λ (x : Render). GoesAs p x budget lines t) (sym (some_is _ _ k)) renders.2)

-- Counts that fit

pub one_unit_fits : (p : Program) (g : Progress) (slice : Option ℕ) → g.units < unit_bound p → IfSome slice (λ n. unit_bound p ≤ g.units + n) → Fit p g slice (record { units = g.units + 1; bodies = 0 })
one_unit_fits p g slice left whole =
    record { more_units = omega arith; in_bound = omega (arith, left); in_slice = within slice whole; fewer_bodies = omega arith }
  where
    within : (s : Option ℕ) → IfSome s (λ n. unit_bound p ≤ g.units + n) → IfSome s (λ n. g.units + 1 ≤ g.units + n)
    within None h = tt
    within (Some n) h = omega (arith, h, left)
