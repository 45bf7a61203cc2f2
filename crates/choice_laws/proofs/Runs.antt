-- A run can be changed so that its render in progress has evaluated any number of bodies that fits.
use Rattle.std.proofs.Common.{◌≡◌, ℕ, zero, suc, ◌≤◌, Bool, true, false, List, [], ◌∷◌, ◌++◌, ℤ, pos, Option, Some, None, refl, sym, ap, subst, ◌∙◌}
use Rattle.std.specs.Prelude.{IfSome}
use Rattle.rx_base.specs.Values.{Name}
use Rattle.rx_ast.specs.Syntax.{Program}
use Rattle.rx_rules.specs.Names.{resource_number}
use Rattle.rx_lane.specs.declared.lane.Lane.TheVariants as lane
use Rattle.rx_lane.specs.Lanes.{has}
use Rattle.rx_step.specs.Steps.{word_of}
use Rattle.rx_step.specs.declared.step.Dispatch.{Dispatch}
use Rattle.rx_step.specs.declared.step.Dispatch.TheVariants as dispatch
use Rattle.rx_step.specs.declared.step.LaneWord.{LaneWord}
use Rattle.rx_step.specs.declared.step.LaneWord.TheVariants as word
use Rattle.rx_step.specs.declared.step.Step.{Step}
use Rattle.rx_step.specs.declared.step.Step.TheVariants as step
use Rattle.rx_elem.specs.Spots.{Mounted}
use Rattle.rx_queue.specs.Journal.{Target, resource}
use Rattle.rx_queue.specs.declared.update.Op.{Op}
use Rattle.rx_queue.specs.declared.update.Op.TheVariants as op
use Rattle.rx_model.specs.State.{Progress, State, instance_found, opening}
use Rattle.rx_model.specs.Stretch.{Stretch, followed_by, silent}
use Rattle.rx_model.specs.Accepting.{between_events, dispatched, dispatched_for, dispatched_to, enqueued, last_value, op_of, resolved, resolved_as, sent_to, target_of, unset_by, within}
use Rattle.rx_model.specs.Turns.{AnyRender, Turn}
use Rattle.rx_model.specs.Machine.{FlushSync, Flushes, IsAtRest, RunTo, StepTo}
use Rattle.choice_laws.specs.Choosing.{BodiesAreFree, BodiesAreFreeFromStart, FitInUnits, IsAmong, StepsAreAlike, renders, with_bodies}
use Rattle.choice_laws.proofs.Bodies.{choice_with, turn_with, with_own}
use Rattle.choice_laws.proofs.Taken.{free_turns_are_taken}
use Rattle.choice_laws.proofs.Waits.{gives_both, sent_more, unset_more}

-- Steps that don't render

-- a stretch and one beside it, from a state and from the same with other bodies: the render in progress is left alone, the lines are the same, and so are the states but for bodies
record Beside (b : ℕ) (s : State) (r q : Stretch) : Type 0 where
  pub left_alone : r.after.progress ≡ s.progress
  pub lines : q.lines ≡ r.lines
  pub after : q.after ≡ with_bodies b r.after

sent_with : (b : ℕ) (s : State) (w : LaneWord) (t : Target) (o : Op) → dispatched_for (with_bodies b s) w t o ≡ with_bodies b (dispatched_for s w t o)
sent_with b s word.Sync t o = refl
sent_with b s word.Input t o = refl
sent_with b s word.Default t o = refl
sent_with b s word.Transition t o = refl

unset_with : (b : ℕ) (d : Dispatch) (t : Target) (s : State) → unset_by d t (with_bodies b s) ≡ with_bodies b (unset_by d t s)
unset_with b (dispatch.Set w path name x) t s = refl
unset_with b (dispatch.Call w path name f x) t s = refl
unset_with b (dispatch.Send w path name x) t s = refl
unset_with b (dispatch.Start w path name) t s = sent_with b s word.Transition t (op.Set (pos 0))
unset_with b (dispatch.Refresh w name) t s = refl

module _ (p : Program) (b : ℕ) where
  dispatched_beside : (s : State) (d : Dispatch) (x : Option Mounted) → Beside b s (dispatched_to p s d x) (dispatched_to p (with_bodies b s) d x)
  dispatched_beside s d None = record { left_alone = refl; lines = refl; after = refl }
  dispatched_beside s d (Some m) =
      let t = target_of p d m in
      let o = op_of p m.component d in
      let first = dispatched_for s (word_of d) t o in
      record {
        left_alone = (gives_both s first (sent_to p s d m) (sent_more s (word_of d) t o) (unset_more d t first)).same;
        lines = refl;
        after = ap (unset_by d t) (sent_with b s (word_of d) t o) ∙ unset_with b d t first;
      }

  enqueued_beside : (s : State) (d : Dispatch) → Beside b s (enqueued p s d) (enqueued p (with_bodies b s) d)
  enqueued_beside s (dispatch.Set w path name x) = dispatched_beside s (dispatch.Set w path name x) (instance_found p s.tree path)
  enqueued_beside s (dispatch.Call w path name f x) = dispatched_beside s (dispatch.Call w path name f x) (instance_found p s.tree path)
  enqueued_beside s (dispatch.Send w path name x) = dispatched_beside s (dispatch.Send w path name x) (instance_found p s.tree path)
  enqueued_beside s (dispatch.Start w path name) = dispatched_beside s (dispatch.Start w path name) (instance_found p s.tree path)
  enqueued_beside s (dispatch.Refresh w name) =
      let t = resource (resource_number p name) in
      record { left_alone = (sent_more s w t op.Refresh).same; lines = refl; after = sent_with b s w t op.Refresh }

  resolved_beside : (s : State) (name : Name) (v : ℤ) (x : Option ℤ) → Beside b s (resolved_as p s name v x) (resolved_as p (with_bodies b s) name v x)
  resolved_beside s name v None = record { left_alone = refl; lines = refl; after = refl }
  resolved_beside s name v (Some y) = record { left_alone = refl; lines = refl; after = refl }

-- two stretches beside each other are the same but for bodies
both_beside : (b : ℕ) (s u : State) (r q one other : Stretch) → FitInUnits b s → r ≡ one → q ≡ other → u.progress ≡ s.progress → Beside b u one other → (q.lines ≡ r.lines) × IsAmong r.after q.after
both_beside b s u r q one other fits e f same beside =
    let left : r.after.progress ≡ s.progress = ap (λ (x : Stretch). x.after.progress) e ∙ beside.left_alone ∙ same in (
      ap (λ (x : Stretch). x.lines) f ∙ beside.lines ∙ sym (ap (λ (x : Stretch). x.lines) e),
      (
        b,
        subst (λ (x : Option Progress). IfSome x (λ g. b ≤ g.units)) (sym left) fits,
        ap (λ (x : Stretch). x.after) f ∙ beside.after ∙ sym (ap (λ (x : Stretch). with_bodies b x.after) e),
      ),
    )

step_alike : (p : Program) (b : ℕ) (s : State) → FitInUnits b s → (x : Step) → renders x ≡ false → (r q : Stretch) → StepTo AnyRender p s x r → StepTo AnyRender p (with_bodies b s) x q
    → (q.lines ≡ r.lines) × IsAmong r.after q.after
step_alike p b s fits (step.Dispatch d) idle r q t k =
    both_beside b s (within d s) r q (dispatched p s d) (dispatched p (with_bodies b s) d) fits t k refl (enqueued_beside p b (within d s) d)
step_alike p b s fits (step.Resolve name v) idle r q t k =
    both_beside b s (between_events s) r q (resolved p (between_events s) name v) (resolved p (between_events (with_bodies b s)) name v) fits t k refl
    (resolved_beside p b (between_events s) name v (last_value (between_events s) (resource_number p name)))
step_alike p b s fits (step.Tick n) idle r q t k = both_beside b s s r q _ _ fits t k refl (record { left_alone = refl; lines = refl; after = refl })
step_alike p b s fits (step.Work n) idle r q t k = absurd (cc idle)
step_alike p b s fits step.Flush idle r q t k = absurd (cc idle)
step_alike p b s fits step.FlushSync idle r q t k = absurd (cc idle)
step_alike p b s fits step.Passive idle r q t k = both_beside b s s r q _ _ fits t k refl (record { left_alone = refl; lines = refl; after = refl })
step_alike p b s fits step.Event idle r q t k = both_beside b s s r q _ _ fits t k refl (record { left_alone = refl; lines = refl; after = refl })
step_alike p b s fits step.State idle r q t k = both_beside b s s r q _ _ fits t k refl (record { left_alone = refl; lines = refl; after = refl })
step_alike p b s fits step.Tree idle r q t k = both_beside b s s r q _ _ fits t k refl (record { left_alone = refl; lines = refl; after = refl })

pub steps_are_alike : (p : Program) → StepsAreAlike p
steps_are_alike p s t (b, fits, is) x idle r q one other = step_alike p b s fits x idle r q one (subst (λ (u : State). StepTo AnyRender p u x q) is other)

-- Runs from the same state but for bodies

-- some stretch of this kind from a state with some bodies has the same lines, and ends with so many bodies
abbrev HasSibling : (State → Stretch → Type 0) → State → Stretch → ℕ → Type 0
HasSibling Is s r b = (a : ℕ) × FitInUnits a s × (q : Stretch) × Is (with_bodies a s) q × (q.lines ≡ r.lines) × (q.after ≡ with_bodies b r.after)

from_beside : (Is : State → Stretch → Type 0) (s t : State) (r one other : Stretch) (b : ℕ) → r ≡ one → Beside b t one other → t.progress ≡ s.progress → Is (with_bodies b s) other → FitInUnits b r.after → HasSibling Is s r b
from_beside Is s t r one other b e beside same is fits = (
  b,
  subst (λ (x : Option Progress). IfSome x (λ g. b ≤ g.units)) (ap (λ (x : Stretch). x.after.progress) e ∙ beside.left_alone ∙ same) fits,
  other,
  is,
  beside.lines ∙ sym (ap (λ (x : Stretch). x.lines) e),
  beside.after ∙ sym (ap (λ (x : Stretch). with_bodies b x.after) e),
)

module _ (p : Program) where
  turn_sibling : (s : State) (budget : Option ℕ) (r : Stretch) → Turn AnyRender p s budget r → (b : ℕ) → FitInUnits b r.after → HasSibling (λ x q. Turn AnyRender p x budget q) s r b
  turn_sibling s budget r t b fits =
      let own = subst (λ (x : State). Turn AnyRender p x budget r) (with_own s) t in
      free_turns_are_taken p s (with_bodies b r.after) budget r.lines (turn_with p s _ budget r own b fits)

  -- siblings of two stretches that follow each other
  join : (First Rest Both : State → Stretch → Type 0) (s : State) (r first rest : Stretch) (b : ℕ) → r ≡ followed_by first rest
      → ((a c : ℕ) (x y : Stretch) → First (with_bodies a s) x → x.after ≡ with_bodies c first.after → Rest x.after y → Both (with_bodies a s) (followed_by x y))
      → ((c : ℕ) → FitInUnits c first.after → HasSibling First s first c)
      → HasSibling Rest first.after rest b
      → HasSibling Both s r b
  join First Rest Both s r first rest b e joins before later =
      let x = before later.0 later.1 in (
        x.0,
        x.1,
        followed_by x.2 later.2,
        joins x.0 later.0 x.2 later.2 x.3 x.5 (subst (λ (t : State). Rest t later.2) (sym x.5) later.3),
        (λ i. x.4 i ++ later.4 i) ∙ sym (ap (λ (q : Stretch). q.lines) e),
        later.5 ∙ sym (ap (λ (q : Stretch). with_bodies b q.after) e),
      )

  flushes_sibling : (n : ℕ) (s : State) (r : Stretch) → Flushes AnyRender IsAtRest n p s r → (b : ℕ) → FitInUnits b r.after → HasSibling (λ x q. Flushes AnyRender IsAtRest n p x q) s r b
  flushes_sibling zero s r t b fits =
      from_beside (λ x q. Flushes AnyRender IsAtRest 0 p x q) s s r (silent s) (silent (with_bodies b s)) b t.1 (record { left_alone = refl; lines = refl; after = refl }) refl
      (choice_with b s ∙ t.0, refl) fits
  flushes_sibling (suc n) s r t b fits =
      join (λ x q. Turn AnyRender p x None q) (λ x q. Flushes AnyRender IsAtRest n p x q) (λ x q. Flushes AnyRender IsAtRest (suc n) p x q) s r t.1 t.2 b t.5
      (λ a c x y one is more. ((λ no. t.0 (sym (choice_with a s) ∙ no)), x, y, one, more, refl))
      (λ c fit. turn_sibling s None t.1 t.3 c fit)
      (flushes_sibling n t.1.after t.2 t.4 b (subst (λ (q : Stretch). FitInUnits b q.after) t.5 fits))

  sync_sibling : (d : Bool) (s : State) (r : Stretch) → FlushSync AnyRender d p s r → (b : ℕ) → FitInUnits b r.after → HasSibling (λ x q. FlushSync AnyRender d p x q) s r b
  sync_sibling true s r t b fits = turn_sibling s None r t b fits
  sync_sibling false s r t b fits =
      from_beside (λ x q. FlushSync AnyRender false p x q) s s r (silent s) (silent (with_bodies b s)) b t (record { left_alone = refl; lines = refl; after = refl }) refl refl fits

  step_sibling : (s : State) (x : Step) (r : Stretch) → StepTo AnyRender p s x r → (b : ℕ) → FitInUnits b r.after → HasSibling (λ t q. StepTo AnyRender p t x q) s r b
  step_sibling s (step.Dispatch d) r t b fits =
      from_beside (λ u q. StepTo AnyRender p u (step.Dispatch d) q) s (within d s) r (dispatched p s d) (dispatched p (with_bodies b s) d) b t (enqueued_beside p b (within d s) d) refl refl fits
  step_sibling s (step.Resolve name v) r t b fits =
      from_beside (λ u q. StepTo AnyRender p u (step.Resolve name v) q) s (between_events s) r (resolved p (between_events s) name v) (resolved p (between_events (with_bodies b s)) name v) b t
      (resolved_beside p b (between_events s) name v (last_value (between_events s) (resource_number p name))) refl refl fits
  step_sibling s (step.Tick n) r t b fits =
      from_beside (λ u q. StepTo AnyRender p u (step.Tick n) q) s s r _ _ b t (record { left_alone = refl; lines = refl; after = refl }) refl refl fits
  step_sibling s (step.Work n) r t b fits = turn_sibling (between_events s) (Some n) r t b fits
  step_sibling s step.Flush r t b fits =
      let x = flushes_sibling t.0 (between_events s) r t.2 b fits in (x.0, x.1, x.2, (t.0, t.1, x.3), x.4, x.5)
  step_sibling s step.FlushSync r t b fits = sync_sibling (has s.schedule.pending lane.Sync) (between_events s) r t b fits
  step_sibling s step.Passive r t b fits =
      from_beside (λ u q. StepTo AnyRender p u step.Passive q) s s r _ _ b t (record { left_alone = refl; lines = refl; after = refl }) refl refl fits
  step_sibling s step.Event r t b fits =
      from_beside (λ u q. StepTo AnyRender p u step.Event q) s s r _ _ b t (record { left_alone = refl; lines = refl; after = refl }) refl refl fits
  step_sibling s step.State r t b fits =
      from_beside (λ u q. StepTo AnyRender p u step.State q) s s r _ _ b t (record { left_alone = refl; lines = refl; after = refl }) refl refl fits
  step_sibling s step.Tree r t b fits =
      from_beside (λ u q. StepTo AnyRender p u step.Tree q) s s r _ _ b t (record { left_alone = refl; lines = refl; after = refl }) refl refl fits

  run_sibling : (s : State) (steps : List Step) (r : Stretch) → RunTo AnyRender p s steps r → (b : ℕ) → FitInUnits b r.after → HasSibling (λ t q. RunTo AnyRender p t steps q) s r b
  run_sibling s [] r t b fits =
      from_beside (λ u q. RunTo AnyRender p u [] q) s s r (silent s) (silent (with_bodies b s)) b t (record { left_alone = refl; lines = refl; after = refl }) refl refl fits
  run_sibling s (x ∷ xs) r t b fits =
      join (λ u q. StepTo AnyRender p u x q) (λ u q. RunTo AnyRender p u xs q) (λ u q. RunTo AnyRender p u (x ∷ xs) q) s r t.0 t.1 b t.4
      (λ a c y z one is more. (y, z, one, more, refl))
      (λ c fit. step_sibling s x t.0 t.2 c fit)
      (run_sibling t.0.after xs t.1 t.3 b (subst (λ (q : Stretch). FitInUnits b q.after) t.4 fits))

-- bodies are free at the end of a run
pub bodies_are_free : (p : Program) → BodiesAreFree p
bodies_are_free p s steps r t b fits = run_sibling p s steps r t b fits

-- at the start there is no render
pub bodies_are_free_from_start : (p : Program) → BodiesAreFreeFromStart p
bodies_are_free_from_start p steps r t b fits = let x = run_sibling p opening steps r t b fits in (x.2, x.3, x.4, x.5)
