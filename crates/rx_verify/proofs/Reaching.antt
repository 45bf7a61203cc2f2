-- Which render goes on in a turn, and what states it leads to.
use Rattle.std.proofs.Common.{◌≡◌, inl, ℕ, ◌≤◌, Bool, true, false, cond, [], refl, sym, ap, ◌∙◌, subst, arith, Option, Some}
use Rattle.std.specs.Prelude.{option_map}
use Rattle.rx_lane.specs.declared.lane.Lane.TheVariants as lane
use Rattle.rx_lane.specs.Lanes.{Lanes, has}
use Rattle.rx_ast.specs.Syntax.{Program}
use Rattle.rx_check.specs.Runnable.{IsRunnable}
use Rattle.rx_sched.specs.Events.{no_event}
use Rattle.rx_sched.specs.declared.choice.Choice.{Choice}
use Rattle.rx_sched.specs.declared.choice.Choice.TheVariants as choice
use Rattle.rx_elem.specs.Trees.{Node}
use Rattle.rx_elem.specs.Numbers.{numbered}
use Rattle.rx_meaning.specs.Fresh.{fresh, made}
use Rattle.rx_meaning.specs.Outcome.{Outcome, commit, defer, outcome}
use Rattle.rx_lines.specs.Lines.{Counts}
use Rattle.rx_model.specs.State.{Progress, State}
use Rattle.rx_model.specs.Stretch.{followed_by, silent}
use Rattle.rx_model.specs.Committing.{committed_state, ended, ended_by, passive_run, sight_of, starting}
use Rattle.rx_model.specs.Turns.{AnyRender, Continues, TurnBy, choice_of, slice_of}
use Rattle.rx_model.specs.Laws.{IsBounded, IsReached}
use Rattle.rx_kept.proofs.TurnReached.{reached_turn}
use Rattle.choice_laws.specs.Choosing.{Fit, Render, render_by}
use Rattle.rx_verify.specs.Knowing.{Laws}
use Rattle.rx_verify.specs.Turning.{LeadsOn}
use Rattle.rx_verify.proofs.Telling.{ended-same}

-- a program that was checked can be run
pub runnable_bounded : (p : Program) → IsRunnable p → IsBounded p
runnable_bounded p h = record { rooted = h.rooted; ready = h.ready; caught = h.caught; shallow = h.shallow; small = h.small; apart = h.keys_apart; declared = h.reads_declared }

-- Which render goes on

-- the render of a turn that keeps one
abbrev pub kept : State → Progress → Render
kept s g = record { first = []; state = s; progress = g }

-- the render of a turn that starts one
abbrev pub started : State → Lanes → Render
started s lanes = record { first = (passive_run s).lines; state = (passive_run s).after; progress = starting s lanes }

pub kept-is : (s : State) (g : Progress) → choice_of s ≡ choice.Keep → s.progress ≡ Some g → render_by s (choice_of s) ≡ Some (kept s g)
kept-is s g e f = ap (render_by s) e ∙ ap (option_map (λ (k : Progress). kept s k)) f

pub started-is : (s : State) (lanes : Lanes) → choice_of s ≡ choice.Start lanes → render_by s (choice_of s) ≡ Some (started s lanes)
started-is s lanes e = ap (render_by s) e

pub keep_leads : (p : Program) → Laws p → (s : State) (g : Progress) (budget : Option ℕ) → IsReached p s → s.event ≡ no_event → choice_of s ≡ choice.Keep → s.progress ≡ Some g → LeadsOn p s g budget
keep_leads p laws s g budget reached none e f r h =
    reached_turn AnyRender p s budget r reached none
    (subst (λ (c : Choice). TurnBy AnyRender p s c budget r) (sym e) (subst (λ (x : Option Progress). Continues AnyRender p s x budget r) (sym f) h))

pub start_leads : (p : Program) → Laws p → (s : State) (lanes : Lanes) (budget : Option ℕ) → IsReached p s → s.event ≡ no_event → choice_of s ≡ choice.Start lanes
    → LeadsOn p (passive_run s).after (starting s lanes) budget
start_leads p laws s lanes budget reached none e r h =
    reached_turn AnyRender p s budget (followed_by (passive_run s) r) reached none
    (subst (λ (c : Choice). TurnBy AnyRender p s c budget (followed_by (passive_run s) r)) (sym e) (record { rest = r; begins = h; stretch_is = refl }))

-- The end of a render

-- it is reached, whatever counts it has that fit
pub end_reached : (p : Program) (s : State) (g : Progress) (budget : Option ℕ) (c : Counts) (tree : Node) → g.bodies ≤ g.units → LeadsOn p s g budget → Fit p g (slice_of s g budget) c
    → fresh (sight_of p s g) s.tree ≡ made tree → IsReached p (ended s g c tree).after
end_reached p s g budget c tree few leads fit gives =
    let d : Counts = record { units = c.units; bodies = g.bodies } in
    subst (IsReached p) (ended-same s g d c tree)
    (leads (ended s g d tree) (
      inl (record {
        counts = d;
        more_units = fit.more_units;
        in_bound = fit.in_bound;
        in_slice = fit.in_slice;
        bodies_kept = omega arith;
        fewer_bodies = omega (arith, few, fit.more_units);
        one_a_unit = omega arith;
        tree = tree;
        rendered = gives;
        stretch_is = refl;
      }),
      tt,
    ))

-- no event goes on behind it, if none did before
sync_event : (b : Bool) (s : State) → (cond b (passive_run s) (silent s)).after.event ≡ s.event
sync_event true s = refl
sync_event false s = refl

event_by : (s : State) (g : Progress) (counts : Counts) (o : Outcome) → (ended_by s g counts o).after.event ≡ s.event
event_by s g counts (commit new) = sync_event (has g.lanes lane.Sync) (committed_state s g (numbered s.numbers new))
event_by s g counts (defer waits) = refl

pub ended_event : (s : State) (g : Progress) (counts : Counts) (tree : Node) → (ended s g counts tree).after.event ≡ s.event
ended_event s g counts tree = event_by s g counts (outcome g.lanes s.tree tree)
