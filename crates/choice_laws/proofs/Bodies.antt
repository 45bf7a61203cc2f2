-- What a turn does, whatever bodies its render has evaluated.
use Rattle.std.proofs.Common.{◌≡◌, ◌⊎◌, inl, inr, ℕ, ◌+◌, ◌<◌, ◌≤◌, Bool, true, false, cond, List, [], ◌++◌, Option, Some, None, append-nil, refl, sym, ap, subst, ◌∙◌, arith}
use Rattle.std.specs.Prelude.{IfSome, option_map}
use Rattle.rx_ast.specs.Syntax.{Program}
use Rattle.rx_lane.specs.declared.lane.Lane.TheVariants as lane
use Rattle.rx_lane.specs.Lanes.{has}
use Rattle.rx_elem.specs.Numbers.{numbered}
use Rattle.rx_sched.specs.declared.choice.Choice.{Choice}
use Rattle.rx_sched.specs.declared.choice.Choice.TheVariants as choice
use Rattle.rx_sched.specs.Schedule.{next}
use Rattle.rx_meaning.specs.Outcome.{Outcome, commit, defer, outcome}
use Rattle.rx_lines.specs.Lines.{Counts, Line}
use Rattle.rx_model.specs.State.{Progress, State, end_line}
use Rattle.rx_model.specs.Stretch.{Stretch, silent}
use Rattle.rx_model.specs.Committing.{committed_state, ended_by, passive_run, starting}
use Rattle.rx_model.specs.Turns.{AnyRender, Continues, GoesOn, Turn, TurnBy, choice_of, gone_on, slice_of, unit_bound}
use Rattle.rx_model.specs.Kept.{CanGoOn}
use Rattle.choice_laws.specs.Choosing.{FinishesAs, FitInUnits, IsAmong, MayTurn, Render, TurnsAreFree, YieldsAs, render_by, with_bodies}

-- States but for bodies

-- a render in progress with so many bodies
abbrev pub bodied : ℕ → Option Progress → Option Progress
bodied b x = option_map (λ (g : Progress). record g { bodies = b }) x

-- how many bodies the render in progress has evaluated, if there is one
abbrev pub own : Option Progress → ℕ
own None = 0
own (Some g) = g.bodies

own_bodied : (x : Option Progress) → x ≡ bodied (own x) x
own_bodied None = refl
own_bodied (Some g) = refl

-- a state is itself with the bodies of its render
pub with_own : (s : State) → s ≡ with_bodies (own s.progress) s
with_own s = λ i. record s { progress = own_bodied s.progress i }

-- a state without a render is the same with any bodies
pub with_none : (b : ℕ) (s : State) → s.progress ≡ None → with_bodies b s ≡ s
with_none b s e = λ i. record s { progress = none s.progress e i }
  where
    none : (x : Option Progress) → x ≡ None → bodied b x ≡ x
    none None e = refl
    none (Some g) e = absurd (cc e)

-- bodies are no more than units
abbrev pub Few : Option Progress → Type 0
Few x = IfSome x (λ g. g.bodies ≤ g.units)

own_fits : (s : State) → Few s.progress → FitInUnits (own s.progress) s
own_fits s few = go s.progress few
  where
    go : (x : Option Progress) → Few x → IfSome x (λ g. own x ≤ g.units)
    go None f = tt
    go (Some g) f = f

pub among_itself : (p : Program) (s : State) → CanGoOn p s → IsAmong s s
among_itself p s can = (own s.progress, own_fits s (go s.progress can.due), with_own s)
  where
    go : (x : Option Progress) → IfSome x (λ g. (g.bodies ≤ g.units) × (g.units < unit_bound p)) → Few x
    go None f = tt
    go (Some g) f = f.0

few_with : (b : ℕ) (x : Option Progress) → IfSome x (λ g. b ≤ g.units) → Few (bodied b x)
few_with b None h = tt
few_with b (Some g) h = h

-- they choose the same
pub choice_with : (b : ℕ) (s : State) → choice_of (with_bodies b s) ≡ choice_of s
choice_with b s = ap (next s.schedule) (go s.progress)
  where
    go : (x : Option Progress) → option_map (λ g. g.lanes) (bodied b x) ≡ option_map (λ g. g.lanes) x
    go None = refl
    go (Some g) = refl

pub choice_same : (s t : State) → IsAmong s t → choice_of t ≡ choice_of s
choice_same s t (b, fits, is) = ap choice_of is ∙ choice_with b s

-- and close a report alike
pub end_same : (s t : State) → IsAmong s t → end_line t ≡ end_line s
end_same s t (b, fits, is) = ap end_line is

-- and cut renders alike
pub slice_with : (s : State) (y : Option Progress) (g : Progress) (b : ℕ) (budget : Option ℕ) → slice_of (record s { progress = y }) (record g { bodies = b }) budget ≡ slice_of s g budget
slice_with s y g b None = refl
slice_with s y g b (Some n) = refl

-- Ends

-- no render is in progress at the end of one
ended_none : (s : State) (g : Progress) (counts : Counts) (o : Outcome) → (ended_by s g counts o).after.progress ≡ None
ended_none s g counts (commit new) = go (has g.lanes lane.Sync)
  where
    st : State
    st = committed_state s g (numbered s.numbers new)

    go : (b : Bool) → (cond b (passive_run st) (silent st)).after.progress ≡ None
    go true = refl
    go false = refl
ended_none s g counts (defer waits) = refl

-- the end of a render doesn't hang on what bodies it had evaluated
pub record SameEnd (r q : Stretch) : Type 0 where
  pub lines : r.lines ≡ q.lines
  pub after : r.after ≡ q.after

pub same_end : (s : State) (y : Option Progress) (g : Progress) (b : ℕ) (counts : Counts) (o : Outcome) → SameEnd (ended_by (record s { progress = y }) (record g { bodies = b }) counts o) (ended_by s g counts o)
same_end s y g b counts (commit new) = record { lines = refl; after = refl }
same_end s y g b counts (defer waits) = record { lines = refl; after = refl }

-- Each turn is one of what may be

-- what a render does in its turn, with other bodies afterwards
abbrev pub GoesAs : Program → Render → (budget : Option ℕ) → List Line → State → Type 0
GoesAs p x budget lines t = FinishesAs p x budget lines t ⊎ YieldsAs p x budget lines t

goes_as : (p : Program) (first : List Line) (s : State) (y : Option Progress) (g : Progress) (b : ℕ) (budget : Option ℕ) (r : Stretch) → GoesOn AnyRender p (record s { progress = y }) (record g { bodies = b }) budget r
    → (c : ℕ) → FitInUnits c r.after → GoesAs p (record { first = first; state = s; progress = g }) budget (first ++ r.lines) (with_bodies c r.after)
goes_as p first s y g b budget r (inl f, _) c fits =
    let t : State = record s { progress = y } in
    let h : Progress = record g { bodies = b } in
    let end = same_end s y g b f.counts (outcome g.lanes s.tree f.tree) in
    let none : r.after.progress ≡ None = ap (λ (x : Stretch). x.after.progress) f.stretch_is ∙ ended_none t h f.counts (outcome g.lanes s.tree f.tree) in
    inl (record {
      counts = f.counts;
      fit = record {
        more_units = f.more_units;
        in_bound = f.in_bound;
        in_slice = subst (λ (x : Option ℕ). IfSome x (λ n. f.counts.units ≤ g.units + n)) (slice_with s y g b budget) f.in_slice;
        fewer_bodies = f.fewer_bodies;
      };
      tree = f.tree;
      rendered = f.rendered;
      lines_are = ap (λ (ls : List Line). first ++ ls) (ap (λ (x : Stretch). x.lines) f.stretch_is ∙ end.lines);
      after_is = with_none c r.after none ∙ ap (λ (x : Stretch). x.after) f.stretch_is ∙ end.after;
    })
goes_as p first s y g b budget r (inr w, _) c fits =
    let after : r.after ≡ record s { progress = Some (gone_on (record g { bodies = b }) w.budget w.bodies) } = ap (λ (x : Stretch). x.after) w.stretch_is in
    inr (record {
      units = w.budget;
      sliced = sym (slice_with s y g b budget) ∙ w.sliced;
      in_bound = w.in_bound;
      lines_are = ap (λ (ls : List Line). first ++ ls) (ap (λ (x : Stretch). x.lines) w.stretch_is) ∙ append-nil first;
      after = (c, subst (FitInUnits c) after fits, ap (with_bodies c) after);
    })

-- what a turn may do, with the render that is chosen
from_choice : (p : Program) (s : State) (c : Choice) (x : Render) (budget : Option ℕ) (lines : List Line) (t : State) → choice_of s ≡ c → render_by s c ≡ Some x → GoesAs p x budget lines t → MayTurn p s budget lines t
from_choice p s c x budget lines t e k h = inr (x, ap (render_by s) e ∙ k, h)

by_choice : (p : Program) (s : State) (b : ℕ) (c : Choice) (budget : Option ℕ) (r : Stretch) → choice_of s ≡ c → TurnBy AnyRender p (with_bodies b s) c budget r
    → (d : ℕ) → FitInUnits d r.after → MayTurn p s budget r.lines (with_bodies d r.after)
by_choice p s b choice.None budget r e t d fits =
    let after : r.after ≡ with_bodies b s = ap (λ (x : Stretch). x.after) t in
    let twice = ap (with_bodies d) after in
    inl (e, ap (λ (x : Stretch). x.lines) t, (d, fits_of s.progress (subst (FitInUnits d) after fits), twice ∙ (λ i. record s { progress = again s.progress i })))
  where
    fits_of : (x : Option Progress) → IfSome (bodied b x) (λ g. d ≤ g.units) → IfSome x (λ g. d ≤ g.units)
    fits_of None h = tt
    fits_of (Some g) h = h

    again : (x : Option Progress) → bodied d (bodied b x) ≡ bodied d x
    again None = refl
    again (Some g) = refl
by_choice p s b choice.Keep budget r e t d fits = go s.progress refl t
  where
    go : (x : Option Progress) → s.progress ≡ x → Continues AnyRender p (with_bodies b s) (bodied b x) budget r → MayTurn p s budget r.lines (with_bodies d r.after)
    go None k on = absurd on
    go (Some g) k on =
        let x : Render = record { first = []; state = s; progress = g } in
        from_choice p s choice.Keep x budget r.lines (with_bodies d r.after) e (ap (option_map (λ (h : Progress). record { first = []; state = s; progress = h })) k)
        (goes_as p [] s (bodied b s.progress) g b budget r on d fits)
by_choice p s b (choice.Start lanes) budget r e t d fits =
    let x : Render = record { first = (passive_run s).lines; state = (passive_run s).after; progress = starting s lanes } in
    from_choice p s (choice.Start lanes) x budget r.lines (with_bodies d r.after) e refl
    (subst (λ (q : Stretch). FitInUnits d q.after → GoesAs p x budget q.lines (with_bodies d q.after)) (sym t.stretch_is)
    (λ fit. goes_as p (passive_run s).lines (passive_run s).after (bodied b s.progress) (starting s lanes) 0 budget t.rest t.begins d fit) fits)

-- each turn is one of what may be, with whatever bodies afterwards
pub turn_with : (p : Program) (s : State) (b : ℕ) (budget : Option ℕ) (r : Stretch) → Turn AnyRender p (with_bodies b s) budget r → (d : ℕ) → FitInUnits d r.after → MayTurn p s budget r.lines (with_bodies d r.after)
turn_with p s b budget r t = by_choice p s b (choice_of s) budget r refl (subst (λ (c : Choice). TurnBy AnyRender p (with_bodies b s) c budget r) (choice_with b s) t)

-- Bodies stay no more than units

few_going : (p : Program) (s : State) (g : Progress) (budget : Option ℕ) (r : Stretch) → g.bodies ≤ g.units → GoesOn AnyRender p s g budget r → Few r.after.progress
few_going p s g budget r few (inl f, _) =
    subst Few (sym (ap (λ (x : Stretch). x.after.progress) f.stretch_is ∙ ended_none s g f.counts (outcome g.lanes s.tree f.tree))) tt
few_going p s g budget r few (inr w, _) = subst Few (sym (ap (λ (x : Stretch). x.after.progress) w.stretch_is)) (omega (arith, few, w.one_a_unit))

few_turn : (p : Program) (s : State) (c : Choice) (budget : Option ℕ) (r : Stretch) → TurnBy AnyRender p s c budget r → Few s.progress → Few r.after.progress
few_turn p s choice.None budget r t few = subst Few (sym (ap (λ (x : Stretch). x.after.progress) t)) few
few_turn p s choice.Keep budget r t few = go s.progress few t
  where
    go : (x : Option Progress) → Few x → Continues AnyRender p s x budget r → Few r.after.progress
    go None f on = absurd on
    go (Some g) f on = few_going p s g budget r f on
few_turn p s (choice.Start lanes) budget r t few =
    subst Few (sym (ap (λ (x : Stretch). x.after.progress) t.stretch_is)) (few_going p (passive_run s).after (starting s lanes) budget t.rest (omega arith) t.begins)

pub turns_are_free : (p : Program) → TurnsAreFree p
turns_are_free p s t (b, fits, is) budget r turn =
    let here : Turn AnyRender p (with_bodies b s) budget r = subst (λ (x : State). Turn AnyRender p x budget r) is turn in
    let few = few_turn p (with_bodies b s) (choice_of (with_bodies b s)) budget r here (few_with b s.progress fits) in
    subst (MayTurn p s budget r.lines) (sym (with_own r.after)) (turn_with p s b budget r here (own r.after.progress) (own_fits r.after few))
