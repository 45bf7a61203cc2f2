-- The plain machine, from step to step.
use Rattle.std.proofs.Common.{◌≡◌, ℕ, suc, ◌+◌, ◌-◌, ◌≤◌, Bool, true, false, List, [], ◌∷◌, ◌++◌, Some, None, length, take, length-append, append-nil, refl, sym, ap, ◌∙◌, subst, arith}
use Rattle.std.specs.Prelude.{◌≢◌}
use Rattle.std.proofs.lemmas.List.{take_all}
use Rattle.rx_lane.specs.declared.lane.Lane.TheVariants as lane
use Rattle.rx_lane.specs.Lanes.{has}
use Rattle.rx_ast.specs.Syntax.{Program}
use Rattle.rx_step.specs.declared.step.Step.{Step}
use Rattle.rx_step.specs.declared.step.Step.TheVariants as step
use Rattle.rx_sched.specs.declared.choice.Choice.TheVariants as choice
use Rattle.rx_lines.specs.Lines.{Written, report_bytes}
use Rattle.rx_given.specs.declared.passing.Place.{Place}
use Rattle.rx_given.specs.Lines.{ends_in}
use Rattle.rx_model.specs.Accepting.{between_events}
use Rattle.rx_model.specs.State.{State, end_line, opening}
use Rattle.rx_model.specs.Turns.{choice_of}
use Rattle.choice_laws.specs.Telling.{bytes_from_here, counted}
use Rattle.rx_writing.specs.Written.{with_lines}
use Rattle.rx_plain.specs.Doing.{HasDone}
use Rattle.rx_plain.specs.Plained.{Plained}
use Rattle.rx_plain.specs.Stands.{StandsFor}
use Rattle.rx_verify.specs.declared.verdict.Verdict.{Verdict}
use Rattle.rx_verify.specs.declared.verdict.Verdict.TheVariants.{Yes, No}
use Rattle.rx_verify.specs.Verdicts.{IsVerdict, no, yes}
use Rattle.rx_verify.specs.Following.{IsFollowed, IsPlace, Leads, Left, all_of, flushes, over, takes, turns}
use Rattle.rx_verify.specs.Knowing.{Laws}
use Rattle.rx_verify.specs.Steps.{IsSilent, step_as}
use Rattle.rx_verify.specs.Turning.{Follows, FollowsBetween, Judges, StandsBetween}
use Rattle.rx_verify.proofs.Moving.{begins-flush, ends-differs, ends-early, ends-well, flush-ends, flush-goes-on, flush-spent, silent-differs, silent-follows, syncs, syncs-not, works}
use Rattle.rx_verify.proofs.Passing.{Passes, ends-few, log-bytes}
use Rattle.rx_verify.proofs.Fronts.{lines-front}
use Rattle.rx_verify.proofs.Telling.{among-none, leads-run, only-one, run-leads}

-- what is followed between two events is followed
pub judges-follows : (p : Program) (steps : List Step) (bytes : List ℕ) (then : Place) (left : Left) (w : Plained) (agrees : Bool) → Judges p steps bytes then (FollowsBetween p steps bytes then left w) agrees
    → Judges p steps bytes then (Follows p steps bytes then left w) agrees
judges-follows p steps bytes then left w true f = record { state = f.at.state; stands = f.at.stands; followed = f.followed }
judges-follows p steps bytes then left w false h = h

-- an event ended
abbrev pub Ended : Plained → Plained → Type 0
Ended v w = (p : Program) (s : State) → StandsFor p s v → StandsFor p (between_events s) w

abbrev pub ended-between : (p : Program) (s : State) (v w : Plained) → Ended v w → StandsFor p s v → StandsBetween p w
ended-between p s v w ends h = record { state = between_events s; stands = ends p s h; between = refl }

pub work-follows : (p : Program) (steps : List Step) (bytes : List ℕ) (place : Place) (n : ℕ) (left : Left) (v w : Plained) → Ended v w → Follows p steps bytes place (takes (step.Work n) left) v
    → FollowsBetween p steps bytes place (turns (Some n) left) w
work-follows p steps bytes place n left v w ends f = record { at = ended-between p f.state v w ends f.stands; followed = works p steps bytes place n left f.state f.followed }

pub flush-follows : (p : Program) (steps : List Step) (bytes : List ℕ) (place : Place) (left : Left) (v w : Plained) → Ended v w → Follows p steps bytes place (takes step.Flush left) v
    → FollowsBetween p steps bytes place (flushes 24 left) w
flush-follows p steps bytes place left v w ends f = record { at = ended-between p f.state v w ends f.stands; followed = begins-flush p steps bytes place left f.state f.followed }

pub sync-follows : (p : Program) (steps : List Step) (bytes : List ℕ) (place : Place) (left : Left) (v w : Plained) → Ended v w → has v.schedule.pending lane.Sync ≡ true
    → Follows p steps bytes place (takes step.FlushSync left) v → FollowsBetween p steps bytes place (turns None left) w
sync-follows p steps bytes place left v w ends due f =
    record {
      at = ended-between p f.state v w ends f.stands;
      followed = syncs p steps bytes place left f.state (sym (ap (λ sch. has sch.pending lane.Sync) f.stands.schedule) ∙ due) f.followed;
    }

pub sync-passes : (p : Program) (steps : List Step) (bytes : List ℕ) (place : Place) (left : Left) (v w : Plained) → Ended v w → has v.schedule.pending lane.Sync ≡ false
    → Follows p steps bytes place (takes step.FlushSync left) v → Follows p steps bytes place left w
sync-passes p steps bytes place left v w ends due f =
    record {
      state = between_events f.state;
      stands = ends p f.state f.stands;
      followed = syncs-not p steps bytes place left f.state (sym (ap (λ sch. has sch.pending lane.Sync) f.stands.schedule) ∙ due) f.followed;
    }

-- Steps that render nothing

pub silent-judges : (p : Program) → Laws p → (steps : List Step) (bytes : List ℕ) (place then : Place) (x : Step) (left : Left) (v w : Plained) (empty new : Written) (written : List ℕ) (agrees : Bool)
    → ((s : State) → StandsFor p s v → IsSilent x → HasDone p (step_as p s x) w empty new) → empty ≡ record { options = counted; bytes = [] } → written ≡ new.bytes
    → IsPlace bytes place → Passes bytes place then written agrees → IsSilent x → Follows p steps bytes place (takes x left) v → Judges p steps bytes then (Follows p steps bytes then left w) agrees
silent-judges p laws steps bytes place then x left v w empty new written agrees does none is at passes quiet f =
    by_answer agrees (subst (λ xs. Passes bytes place then xs agrees) (is ∙ log-bytes empty new (step_as p f.state x).lines none (does f.state f.stands quiet).written) passes)
  where
    by_answer : (b : Bool) → Passes bytes place then (report_bytes counted (step_as p f.state x).lines) b → Judges p steps bytes then (Follows p steps bytes then left w) b
    by_answer true h =
        record {
          state = (step_as p f.state x).after;
          stands = (does f.state f.stands quiet).stands;
          followed = silent-follows p laws steps bytes place then x left f.state quiet f.followed h.passed h.later;
        }
    by_answer false h = silent-differs p laws steps bytes place then.lines x left f.state quiet f.followed at h.lines h.other

-- Turns of a flush

pub flush-turn-follows : (p : Program) → Laws p → (steps : List Step) (bytes : List ℕ) (place : Place) (n m : ℕ) (left : Left) (v : Plained) → n ≡ suc m → (f : FollowsBetween p steps bytes place (flushes n left) v)
    → choice_of f.at.state ≢ choice.None → FollowsBetween p steps bytes place (turns None (flushes m left)) v
flush-turn-follows p laws steps bytes place n m left v e f some =
    record { at = f.at; followed = flush-goes-on p laws steps bytes place m left f.at.state some (subst (λ k. IsFollowed p steps bytes place (flushes k left) f.at.state) e f.followed) }

pub flush-end-follows : (p : Program) → Laws p → (steps : List Step) (bytes : List ℕ) (place : Place) (n : ℕ) (left : Left) (v : Plained) (f : FollowsBetween p steps bytes place (flushes n left) v)
    → choice_of f.at.state ≡ choice.None → FollowsBetween p steps bytes place left v
flush-end-follows p laws steps bytes place n left v f none = record { at = f.at; followed = flush-ends p laws steps bytes place n left f.at.state none f.followed }

pub flush-spent-follows : (p : Program) → Laws p → (steps : List Step) (bytes : List ℕ) (place : Place) (n : ℕ) (left : Left) (v : Plained) → n ≡ 0 → FollowsBetween p steps bytes place (flushes n left) v → FollowsBetween p steps bytes place left v
flush-spent-follows p laws steps bytes place n left v e f =
    let zero_left = subst (λ k. IsFollowed p steps bytes place (flushes k left) f.at.state) e f.followed in
    flush-end-follows p laws steps bytes place 0 left v (record { at = f.at; followed = zero_left }) (flush-spent p laws left f.at.state zero_left.goes)

-- The start of a report

take-none : (xs : List ℕ) → take 0 xs ≡ []
take-none [] = refl
take-none (x ∷ xs) = refl

abbrev pub start : Place
start = record { bytes = 0; lines = 0 }

pub start-place : (bytes : List ℕ) → IsPlace bytes start
start-place bytes = record { inside = omega arith; lines = sym (ap ends_in (take-none bytes)) }

nothing-passed : (bytes more : List ℕ) → take 0 bytes ++ more ≡ more
nothing-passed bytes more = ap (λ xs. xs ++ more) (take-none bytes)

pub start-followed : (p : Program) → Laws p → (steps : List Step) (bytes : List ℕ) → IsFollowed p steps bytes start (all_of steps) opening
start-followed p laws steps bytes =
    record {
      comes =
          λ w.
          let runs = leads-run p steps opening w.stretch (subst (λ u. Leads p (all_of steps) u w.stretch) (only-one opening w.from refl w.among) w.leads) in (
            w.stretch.bodies,
            record {
              lines = w.stretch.lines ++ end_line w.stretch.after ∷ [];
              run = record { whole = w.stretch; runs = runs; lines_are = refl; bodies_are = refl };
              bytes_are = nothing-passed bytes (bytes_from_here w.stretch);
            },
          );
      only =
          λ other reported agrees.
          let r = reported.1 in (
            record { from = opening; among = among-none opening refl; stretch = r.run.whole; leads = run-leads p steps opening r.run.whole r.run.runs },
            r.bytes_are ∙ ap (report_bytes counted) r.run.lines_are ∙ sym (nothing-passed bytes (bytes_from_here r.run.whole)),
          );
      goes =
          let r = laws.progresses laws.bounded opening ([], refl) steps in
          record { from = opening; among = among-none opening refl; stretch = r.0; leads = run-leads p steps opening r.0 r.1 };
    }

-- The end of a report

pub end-judges : (p : Program) → Laws p → (steps : List Step) (bytes : List ℕ) (place then : Place) (v : Plained) (empty new : Written) (written : List ℕ)
    → ((s : State) → StandsFor p s v → new ≡ with_lines empty (end_line s ∷ [])) → empty ≡ record { options = counted; bytes = [] } → written ≡ new.bytes → IsPlace bytes place
    → Passes bytes place then written false → Follows p steps bytes place over v → IsVerdict p steps bytes (No (then.lines + 1))
end-judges p laws steps bytes place then v empty new written writes none is at passes f =
    let h = subst (λ xs. Passes bytes place then xs false) (is ∙ log-bytes empty new (end_line f.state ∷ []) none (writes f.state f.stands)) passes in
    ends-differs p laws steps bytes place then.lines f.state f.followed at h.lines h.other

pub end-passes : (p : Program) → Laws p → (steps : List Step) (bytes : List ℕ) (place then : Place) (v : Plained) (empty new : Written) (written : List ℕ)
    → ((s : State) → StandsFor p s v → new ≡ with_lines empty (end_line s ∷ [])) → empty ≡ record { options = counted; bytes = [] } → written ≡ new.bytes
    → Passes bytes place then written true → Follows p steps bytes place over v → then.bytes ≡ length bytes → IsVerdict p steps bytes Yes
end-passes p laws steps bytes place then v empty new written writes none is passes f all =
    let h = subst (λ xs. Passes bytes place then xs true) (is ∙ log-bytes empty new (end_line f.state ∷ []) none (writes f.state f.stands)) passes in
    yes (ends-well p laws steps bytes place f.state f.followed (sym (take_all then.bytes bytes (omega (arith, all))) ∙ h.passed))

pub end-early : (p : Program) → Laws p → (steps : List Step) (bytes : List ℕ) (place then : Place) (v : Plained) (empty new : Written) (written : List ℕ)
    → ((s : State) → StandsFor p s v → new ≡ with_lines empty (end_line s ∷ [])) → empty ≡ record { options = counted; bytes = [] } → written ≡ new.bytes
    → Passes bytes place then written true → Follows p steps bytes place over v → (then.bytes ≡ length bytes → ⊥) → IsVerdict p steps bytes (No (then.lines + 1))
end-early p laws steps bytes place then v empty new written writes none is passes f more =
    let h = subst (λ xs. Passes bytes place then xs true) (is ∙ log-bytes empty new (end_line f.state ∷ []) none (writes f.state f.stands)) passes in
    ends-early p laws steps bytes place then f.state f.followed h.there h.passed h.later more

-- a report without lines more
pub with-none : (r : Written) → r ≡ with_lines r []
unfolding report_bytes
with-none r = ap (λ xs. record r { bytes = xs }) (sym (append-nil r.bytes))

-- what a step is, said otherwise

pub work-is : (p : Program) (steps : List Step) (bytes : List ℕ) (place : Place) (x : Step) (n : ℕ) (left : Left) (v w : Plained) → x ≡ step.Work n → Ended v w → Follows p steps bytes place (takes x left) v
    → FollowsBetween p steps bytes place (turns (Some n) left) w
work-is p steps bytes place x n left v w is ends f = work-follows p steps bytes place n left v w ends (subst (λ y. Follows p steps bytes place (takes y left) v) is f)

pub flush-is : (p : Program) (steps : List Step) (bytes : List ℕ) (place : Place) (x : Step) (left : Left) (v w : Plained) → x ≡ step.Flush → Ended v w → Follows p steps bytes place (takes x left) v
    → FollowsBetween p steps bytes place (flushes 24 left) w
flush-is p steps bytes place x left v w is ends f = flush-follows p steps bytes place left v w ends (subst (λ y. Follows p steps bytes place (takes y left) v) is f)

-- By what is answered

pub judges-false : (p : Program) (steps : List Step) (bytes : List ℕ) (then : Place) (Next : Type 0) (b : Bool) → b ≡ false → Judges p steps bytes then Next b → IsVerdict p steps bytes (No (then.lines + 1))
judges-false p steps bytes then Next true e h = cc
judges-false p steps bytes then Next false e h = h

pub judges-true : (p : Program) (steps : List Step) (bytes : List ℕ) (then : Place) (Next : Type 0) (b : Bool) → b ≡ true → Judges p steps bytes then Next b → Next
judges-true p steps bytes then Next true e h = h
judges-true p steps bytes then Next false e h = cc

-- a line that is named is no further than the report is long
few-of : (p : Program) (steps : List Step) (bytes : List ℕ) (v : Verdict) → IsVerdict p steps bytes v → (m : ℕ) → v ≡ No m → m ≤ length bytes + 1
few-of p steps bytes Yes (yes h) m e = cc
few-of p steps bytes (No n) (no k front is begins never not) m e =
    let same : k + 1 ≡ m = cc in
    let f = lines-front k bytes front is in
    omega (arith, same, f.ends, ends-few front, ap length f.whole, length-append front f.rest)

pub verdict-few : (p : Program) (steps : List Step) (bytes : List ℕ) (n : ℕ) → IsVerdict p steps bytes (No (n + 1)) → n ≤ length bytes
verdict-few p steps bytes n h = let few = few-of p steps bytes (No (n + 1)) h (n + 1) refl in omega (arith, few)
