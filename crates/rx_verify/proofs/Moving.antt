-- What is left, from one moment to the next.
use Rattle.std.proofs.Common.{◌≡◌, ℕ, zero, suc, ◌+◌, ◌≤◌, true, false, List, [], ◌∷◌, ◌++◌, Some, None, length, take, drop, append-nil, append_assoc, refl, sym, ap, ◌∙◌, subst, arith, inl, inr}
use Rattle.std.specs.Prelude.{◌≢◌}
use Rattle.std.proofs.lemmas.List.{length-take-le}
use Rattle.rx_lane.specs.declared.lane.Lane.TheVariants as lane
use Rattle.rx_lane.specs.Lanes.{has}
use Rattle.rx_ast.specs.Syntax.{Program}
use Rattle.rx_step.specs.declared.step.Step.{Step}
use Rattle.rx_step.specs.declared.step.Step.TheVariants as step
use Rattle.rx_sched.specs.declared.choice.Choice.TheVariants as choice
use Rattle.rx_lines.specs.Lines.{report_bytes}
use Rattle.rx_given.specs.declared.passing.Place.{Place}
use Rattle.rx_given.specs.Lines.{ends_in, shared}
use Rattle.rx_model.specs.Accepting.{between_events}
use Rattle.rx_model.specs.Machine.{Flushes, FlushSync, IsAtRest, RunTo, StepTo}
use Rattle.rx_model.specs.State.{State, end_line}
use Rattle.rx_model.specs.Stretch.{Stretch, followed_by, silent}
use Rattle.rx_model.specs.Turns.{AnyRender, choice_of}
use Rattle.choice_laws.specs.Choosing.{IsAmong, renders, with_bodies}
use Rattle.choice_laws.specs.Telling.{bytes_from_here, counted}
use Rattle.rx_verify.specs.declared.verdict.Verdict.TheVariants.{No}
use Rattle.rx_verify.specs.Verdicts.{IsReported, IsVerdict}
use Rattle.rx_verify.specs.Following.{Agrees, IsFollowed, IsPlace, Leads, Left, Way, flushes, over, takes, turns}
use Rattle.rx_verify.specs.Knowing.{Laws}
use Rattle.rx_verify.specs.Steps.{IsSilent, step_as}
use Rattle.rx_verify.proofs.Fronts.{ends-append, lines-front}
use Rattle.rx_verify.proofs.Following.{bytes-append, bytes-followed, bytes-none, agrees-fewer, differs_on, follow_on, judged_here}

-- The same is left, said otherwise

-- a way is another one, which writes the same
abbrev IsWay : Program → Left → State → (written : List ℕ) → Type 0
IsWay p left s written = (w : Way p left s) × (written ≡ bytes_from_here w.stretch)

said_otherwise : (p : Program) (steps : List Step) (bytes : List ℕ) (place : Place) (left next : Left) (s t : State) → ((w : Way p next t) → IsWay p left s (bytes_from_here w.stretch))
    → ((v : Way p left s) → IsWay p next t (bytes_from_here v.stretch)) → IsFollowed p steps bytes place left s → IsFollowed p steps bytes place next t
said_otherwise p steps bytes place left next s t back forth f =
    follow_on p steps bytes place place left next s t [] f (sym (append-nil (take place.bytes bytes))) (omega arith) (λ w. let r = back w in (r.0, sym r.1)) (λ v agrees. forth v) (forth f.goes).0

-- Steps that render

-- states that are the same but for bodies are so between two events
between-among : (s t : State) → IsAmong s t → IsAmong (between_events s) (between_events t)
between-among s t (b, fits, is) = (b, fits, ap between_events is)

-- a state that is the same but for bodies, before an event ends
pub record Before (s t : State) : Type 0 where
  pub from : State
  pub among : IsAmong s from
  pub is : between_events from ≡ t

before : (s t : State) → IsAmong (between_events s) t → Before s t
before s t (b, fits, is) = record { from = with_bodies b s; among = (b, fits, refl); is = sym is }

pub works : (p : Program) (steps : List Step) (bytes : List ℕ) (place : Place) (n : ℕ) (left : Left) (s : State) → IsFollowed p steps bytes place (takes (step.Work n) left) s
    → IsFollowed p steps bytes place (turns (Some n) left) (between_events s)
works p steps bytes place n left s =
    said_otherwise p steps bytes place (takes (step.Work n) left) (turns (Some n) left) s (between_events s)
    (λ w.
    let b = before s w.from w.among in
    (record { from = b.from; among = b.among; stretch = w.stretch; leads = subst (λ u. Leads p (turns (Some n) left) u w.stretch) (sym b.is) w.leads }, refl))
    (λ v. (record { from = between_events v.from; among = between-among s v.from v.among; stretch = v.stretch; leads = v.leads }, refl))

pub begins-flush : (p : Program) (steps : List Step) (bytes : List ℕ) (place : Place) (left : Left) (s : State) → IsFollowed p steps bytes place (takes step.Flush left) s
    → IsFollowed p steps bytes place (flushes 24 left) (between_events s)
begins-flush p steps bytes place left s =
    said_otherwise p steps bytes place (takes step.Flush left) (flushes 24 left) s (between_events s)
    (λ w.
    let b = before s w.from w.among in
    (record { from = b.from; among = b.among; stretch = w.stretch; leads = subst (λ u. Leads p (flushes 24 left) u w.stretch) (sym b.is) w.leads }, refl))
    (λ v. (record { from = between_events v.from; among = between-among s v.from v.among; stretch = v.stretch; leads = v.leads }, refl))

pending-same : (s t : State) → IsAmong s t → has t.schedule.pending lane.Sync ≡ has s.schedule.pending lane.Sync
pending-same s t (b, fits, is) = ap (λ (u : State). has u.schedule.pending lane.Sync) is

pub syncs : (p : Program) (steps : List Step) (bytes : List ℕ) (place : Place) (left : Left) (s : State) → has s.schedule.pending lane.Sync ≡ true
    → IsFollowed p steps bytes place (takes step.FlushSync left) s → IsFollowed p steps bytes place (turns None left) (between_events s)
syncs p steps bytes place left s due =
    said_otherwise p steps bytes place (takes step.FlushSync left) (turns None left) s (between_events s)
    (λ w.
    let b = before s w.from w.among in
    let l = subst (λ u. Leads p (turns None left) u w.stretch) (sym b.is) w.leads in (
      record {
        from = b.from;
        among = b.among;
        stretch = w.stretch;
        leads = (l.0, l.1, subst (λ x. FlushSync AnyRender x p (between_events b.from) l.0) (sym (pending-same s b.from b.among ∙ due)) l.2, l.3, l.4);
      },
      refl,
    ))
    (λ v.
    let l = v.leads in (
      record {
        from = between_events v.from;
        among = between-among s v.from v.among;
        stretch = v.stretch;
        leads = (l.0, l.1, subst (λ x. FlushSync AnyRender x p (between_events v.from) l.0) (pending-same s v.from v.among ∙ due) l.2, l.3, l.4);
      },
      refl,
    ))

-- nothing, and then what is left
after-silence : (p : Program) (left : Left) (s : State) (first rest r : Stretch) → first ≡ silent s → Leads p left first.after rest → r ≡ followed_by first rest
    → (Leads p left s rest) × (bytes_from_here r ≡ bytes_from_here rest)
after-silence p left s first rest r e leads is = (
  subst (λ (x : Stretch). Leads p left x.after rest) e leads,
  ap bytes_from_here is ∙ bytes-followed first rest ∙ ap (λ (x : Stretch). report_bytes counted x.lines ++ bytes_from_here rest) e ∙ ap (λ xs. xs ++ bytes_from_here rest) bytes-none,
)

silent-followed : (s : State) (r : Stretch) → bytes_from_here (followed_by (silent s) r) ≡ bytes_from_here r
silent-followed s r = bytes-followed (silent s) r ∙ ap (λ xs. xs ++ bytes_from_here r) bytes-none

pub syncs-not : (p : Program) (steps : List Step) (bytes : List ℕ) (place : Place) (left : Left) (s : State) → has s.schedule.pending lane.Sync ≡ false
    → IsFollowed p steps bytes place (takes step.FlushSync left) s → IsFollowed p steps bytes place left (between_events s)
syncs-not p steps bytes place left s due =
    said_otherwise p steps bytes place (takes step.FlushSync left) left s (between_events s)
    (λ w.
    let b = before s w.from w.among in (
      record {
        from = b.from;
        among = b.among;
        stretch = followed_by (silent w.from) w.stretch;
        leads = (silent w.from, w.stretch, subst (λ x. FlushSync AnyRender x p (between_events b.from) (silent w.from)) (sym (pending-same s b.from b.among ∙ due)) (ap silent (sym b.is)), w.leads, refl);
      },
      sym (silent-followed w.from w.stretch),
    ))
    (λ v.
    let l = v.leads in
    let quiet : l.0 ≡ silent (between_events v.from) = subst (λ x. FlushSync AnyRender x p (between_events v.from) l.0) (pending-same s v.from v.among ∙ due) l.2 in
    let r = after-silence p left (between_events v.from) l.0 l.1 v.stretch quiet l.3 l.4 in
    (record { from = between_events v.from; among = between-among s v.from v.among; stretch = l.1; leads = r.0 }, r.1))

-- Turns of a flush

-- three stretches write the same, however they are joined
joined-same : (a b c : Stretch) → bytes_from_here (followed_by (followed_by a b) c) ≡ bytes_from_here (followed_by a (followed_by b c))
joined-same a b c =
    bytes-followed (followed_by a b) c ∙ ap (λ xs. xs ++ bytes_from_here c) (bytes-append a.lines b.lines) ∙ append_assoc (report_bytes counted a.lines) (report_bytes counted b.lines) (bytes_from_here c)
    ∙ ap (λ xs. report_bytes counted a.lines ++ xs) (sym (bytes-followed b c)) ∙ sym (bytes-followed a (followed_by b c))

flush-turn : (p : Program) (n : ℕ) (left : Left) (s : State) (v : Way p (flushes (suc n) left) s) → choice_of v.from ≢ choice.None → IsWay p (turns None (flushes n left)) s (bytes_from_here v.stretch)
flush-turn p n left s v some = by_count v.leads.2.0 v.leads.2.1 v.leads.2.2
  where
    by_count : (m : ℕ) → m ≤ suc n → Flushes AnyRender IsAtRest m p v.from v.leads.0 → IsWay p (turns None (flushes n left)) s (bytes_from_here v.stretch)
    by_count zero h rest = absurd (some rest.0)
    by_count (suc m) h f =
        let a = f.1 in
        let b = f.2 in
        let c = v.leads.1 in
        let leads = subst (λ (x : Stretch). Leads p left x.after c) f.5 v.leads.3 in (
          record {
            from = v.from;
            among = v.among;
            stretch = followed_by a (followed_by b c);
            leads = (a, followed_by b c, f.3, (b, c, (m, omega (arith, h), f.4), leads, refl), refl);
          },
          ap bytes_from_here (v.leads.4 ∙ ap (λ x. followed_by x c) f.5) ∙ joined-same a b c,
        )

turn-flush : (p : Program) (n : ℕ) (left : Left) (s : State) (w : Way p (turns None (flushes n left)) s) → choice_of w.from ≢ choice.None → IsWay p (flushes (suc n) left) s (bytes_from_here w.stretch)
turn-flush p n left s w some =
    let a = w.leads.0 in
    let l = w.leads.3 in
    let b = l.0 in
    let c = l.1 in (
      record {
        from = w.from;
        among = w.among;
        stretch = followed_by (followed_by a b) c;
        leads = (followed_by a b, c, (suc l.2.0, omega (arith, l.2.1), (some, a, b, w.leads.2, l.2.2, refl)), l.3, refl);
      },
      ap bytes_from_here (w.leads.4 ∙ ap (λ x. followed_by a x) l.4) ∙ sym (joined-same a b c),
    )

pub flush-goes-on : (p : Program) → Laws p → (steps : List Step) (bytes : List ℕ) (place : Place) (n : ℕ) (left : Left) (s : State) → choice_of s ≢ choice.None
    → IsFollowed p steps bytes place (flushes (suc n) left) s → IsFollowed p steps bytes place (turns None (flushes n left)) s
flush-goes-on p laws steps bytes place n left s some =
    said_otherwise p steps bytes place (flushes (suc n) left) (turns None (flushes n left)) s s
    (λ w. turn-flush p n left s w (λ e. some (sym (laws.choice s w.from w.among) ∙ e)))
    (λ v. flush-turn p n left s v (λ e. some (sym (laws.choice s v.from v.among) ∙ e)))

flush-over : (p : Program) (n : ℕ) (left : Left) (s : State) (v : Way p (flushes n left) s) → choice_of v.from ≡ choice.None → IsWay p left s (bytes_from_here v.stretch)
flush-over p n left s v none = by_count v.leads.2.0 v.leads.2.2
  where
    by_count : (m : ℕ) → Flushes AnyRender IsAtRest m p v.from v.leads.0 → IsWay p left s (bytes_from_here v.stretch)
    by_count zero rest =
        let r = after-silence p left v.from v.leads.0 v.leads.1 v.stretch rest.1 v.leads.3 v.leads.4 in
        (record { from = v.from; among = v.among; stretch = v.leads.1; leads = r.0 }, r.1)
    by_count (suc m) f = absurd (f.0 none)

over-flush : (p : Program) (n : ℕ) (left : Left) (s : State) (w : Way p left s) → choice_of w.from ≡ choice.None → IsWay p (flushes n left) s (bytes_from_here w.stretch)
over-flush p n left s w none = (
  record {
    from = w.from;
    among = w.among;
    stretch = followed_by (silent w.from) w.stretch;
    leads = (silent w.from, w.stretch, (0, omega arith, (none, refl)), w.leads, refl);
  },
  sym (silent-followed w.from w.stretch),
)

pub flush-ends : (p : Program) → Laws p → (steps : List Step) (bytes : List ℕ) (place : Place) (n : ℕ) (left : Left) (s : State) → choice_of s ≡ choice.None
    → IsFollowed p steps bytes place (flushes n left) s → IsFollowed p steps bytes place left s
flush-ends p laws steps bytes place n left s none =
    said_otherwise p steps bytes place (flushes n left) left s s
    (λ w. over-flush p n left s w (laws.choice s w.from w.among ∙ none))
    (λ v. flush-over p n left s v (laws.choice s v.from v.among ∙ none))

-- a flush without turns is over
pub flush-spent : (p : Program) → Laws p → (left : Left) (s : State) → Way p (flushes 0 left) s → choice_of s ≡ choice.None
flush-spent p laws left s v = sym (laws.choice s v.from v.among) ∙ by_count v.leads.2.0 v.leads.2.1 v.leads.2.2
  where
    by_count : (m : ℕ) → m ≤ 0 → Flushes AnyRender IsAtRest m p v.from v.leads.0 → choice_of v.from ≡ choice.None
    by_count zero h rest = rest.0
    by_count (suc m) h f = absurd (omega (arith, h))

-- Steps that render nothing

pub silent-is : (p : Program) (s : State) (x : Step) → IsSilent x → StepTo AnyRender p s x (step_as p s x)
silent-is p s (step.Dispatch d) h = refl
silent-is p s (step.Resolve name z) h = refl
silent-is p s (step.Tick n) h = refl
silent-is p s (step.Work n) h = absurd h
silent-is p s step.Flush h = absurd h
silent-is p s step.FlushSync h = absurd h
silent-is p s step.Passive h = refl
silent-is p s step.Event h = refl
silent-is p s step.State h = refl
silent-is p s step.Tree h = refl

silent-renders : (x : Step) → IsSilent x → renders x ≡ false
silent-renders (step.Dispatch d) h = refl
silent-renders (step.Resolve name z) h = refl
silent-renders (step.Tick n) h = refl
silent-renders (step.Work n) h = absurd h
silent-renders step.Flush h = absurd h
silent-renders step.FlushSync h = absurd h
silent-renders step.Passive h = refl
silent-renders step.Event h = refl
silent-renders step.State h = refl
silent-renders step.Tree h = refl

-- what a step that renders nothing writes, on each way
silent-writes : (p : Program) → Laws p → (x : Step) (left : Left) (s : State) → IsSilent x → (v : Way p (takes x left) s)
    → (w : Way p left (step_as p s x).after) × (bytes_from_here v.stretch ≡ report_bytes counted (step_as p s x).lines ++ bytes_from_here w.stretch)
silent-writes p laws x left s quiet v =
    let l = v.leads in
    let same = laws.alike s v.from v.among x (silent-renders x quiet) (step_as p s x) l.0 (silent-is p s x quiet) l.2 in (
      record { from = l.0.after; among = same.1; stretch = l.1; leads = l.3 },
      ap bytes_from_here l.4 ∙ bytes-followed l.0 l.1 ∙ ap (λ ls. report_bytes counted ls ++ bytes_from_here l.1) same.0,
    )

-- and each way on is one from before it
silent-before : (p : Program) → Laws p → (x : Step) (left : Left) (s : State) → IsSilent x → (w : Way p left (step_as p s x).after)
    → (v : Way p (takes x left) s) × (bytes_from_here v.stretch ≡ report_bytes counted (step_as p s x).lines ++ bytes_from_here w.stretch)
silent-before p laws x left s quiet w =
    let r = step_as p s x in
    let run = followed_by r (silent r.after) in
    let runs : RunTo AnyRender p s (x ∷ []) run = (r, silent r.after, silent-is p s x quiet, refl, refl) in
    let q = laws.bodies s (x ∷ []) run runs w.among.0 w.among.1 in
    let first = q.3.0 in
    let whole : q.2 ≡ followed_by first (silent first.after) = q.3.4 ∙ ap (λ y. followed_by first y) q.3.3 in
    let after : first.after ≡ w.from = sym (ap (λ (y : Stretch). y.after) whole) ∙ q.5 ∙ sym w.among.2 in
    let lines : first.lines ≡ r.lines = sym (append-nil first.lines) ∙ sym (ap (λ (y : Stretch). y.lines) whole) ∙ q.4 ∙ append-nil r.lines in (
      record {
        from = with_bodies q.0 s;
        among = (q.0, q.1, refl);
        stretch = followed_by first w.stretch;
        leads = (first, w.stretch, q.3.2, subst (λ u. Leads p left u w.stretch) (sym after) w.leads, refl);
      },
      bytes-followed first w.stretch ∙ ap (λ ls. report_bytes counted ls ++ bytes_from_here w.stretch) lines,
    )

pub silent-follows : (p : Program) → Laws p → (steps : List Step) (bytes : List ℕ) (place then : Place) (x : Step) (left : Left) (s : State) → IsSilent x → IsFollowed p steps bytes place (takes x left) s
    → take then.bytes bytes ≡ take place.bytes bytes ++ report_bytes counted (step_as p s x).lines → place.lines ≤ then.lines → IsFollowed p steps bytes then left (step_as p s x).after
silent-follows p laws steps bytes place then x left s quiet f passed later =
    follow_on p steps bytes place then (takes x left) left s (step_as p s x).after (report_bytes counted (step_as p s x).lines) f passed later
    (silent-before p laws x left s quiet) (λ v agrees. silent-writes p laws x left s quiet v) (silent-writes p laws x left s quiet f.goes).0

pub silent-differs : (p : Program) → Laws p → (steps : List Step) (bytes : List ℕ) (place : Place) (n : ℕ) (x : Step) (left : Left) (s : State) → IsSilent x → IsFollowed p steps bytes place (takes x left) s → IsPlace bytes place
    → n ≡ place.lines + ends_in (take (shared (drop place.bytes bytes) (report_bytes counted (step_as p s x).lines)) (report_bytes counted (step_as p s x).lines))
    → ((more : List ℕ) → drop place.bytes bytes ≡ report_bytes counted (step_as p s x).lines ++ more → ⊥) → IsVerdict p steps bytes (No (n + 1))
silent-differs p laws steps bytes place n x left s quiet f at lines other =
    let some = silent-writes p laws x left s quiet f.goes in
    differs_on p steps bytes place n (takes x left) s (report_bytes counted (step_as p s x).lines) f at lines other (f.goes, bytes_from_here some.0.stretch, some.1)
    (λ v agrees. let r = silent-writes p laws x left s quiet v in (bytes_from_here r.0.stretch, r.1))

-- The end of a report

-- what is left is the last line
last-writes : (p : Program) → Laws p → (s : State) (v : Way p over s) → bytes_from_here v.stretch ≡ report_bytes counted (end_line s ∷ [])
last-writes p laws s v = ap bytes_from_here v.leads ∙ ap (λ l. report_bytes counted (l ∷ [])) (laws.end s v.from v.among)

pub ends-well : (p : Program) → Laws p → (steps : List Step) (bytes : List ℕ) (place : Place) (s : State) → IsFollowed p steps bytes place over s
    → bytes ≡ take place.bytes bytes ++ report_bytes counted (end_line s ∷ []) → IsReported p steps bytes
ends-well p laws steps bytes place s f is =
    subst (IsReported p steps) (ap (λ xs. take place.bytes bytes ++ xs) (last-writes p laws s f.goes) ∙ sym is) (f.comes f.goes)

pub ends-differs : (p : Program) → Laws p → (steps : List Step) (bytes : List ℕ) (place : Place) (n : ℕ) (s : State) → IsFollowed p steps bytes place over s → IsPlace bytes place
    → n ≡ place.lines + ends_in (take (shared (drop place.bytes bytes) (report_bytes counted (end_line s ∷ []))) (report_bytes counted (end_line s ∷ [])))
    → ((more : List ℕ) → drop place.bytes bytes ≡ report_bytes counted (end_line s ∷ []) ++ more → ⊥) → IsVerdict p steps bytes (No (n + 1))
ends-differs p laws steps bytes place n s f at lines other =
    let written = report_bytes counted (end_line s ∷ []) in
    differs_on p steps bytes place n over s written f at lines other (f.goes, [], last-writes p laws s f.goes ∙ sym (append-nil written)) (λ v agrees. ([], last-writes p laws s v ∙ sym (append-nil written)))

-- more stands behind the last line
pub ends-early : (p : Program) → Laws p → (steps : List Step) (bytes : List ℕ) (place then : Place) (s : State) → IsFollowed p steps bytes place over s → IsPlace bytes then
    → take then.bytes bytes ≡ take place.bytes bytes ++ report_bytes counted (end_line s ∷ []) → place.lines ≤ then.lines → (then.bytes ≡ length bytes → ⊥) → IsVerdict p steps bytes (No (then.lines + 1))
ends-early p laws steps bytes place then s f at passed later more =
    judged_here p steps bytes then at [] (subst (IsReported p steps) (sym (append-nil (take then.bytes bytes) ∙ passed) ∙ refl) (subst (IsReported p steps) (ap (λ xs. take place.bytes bytes ++ xs) (last-writes p laws s f.goes)) (f.comes f.goes)))
    never
  where
    whole : (other : List ℕ) → IsReported p steps other → Agrees bytes then.lines other → other ≡ take then.bytes bytes
    whole other reported agrees =
        let v = f.only other reported (agrees-fewer bytes place.lines then.lines other later agrees) in
        v.1 ∙ ap (λ xs. take place.bytes bytes ++ xs) (last-writes p laws s v.0) ∙ sym passed

    never : (other : List ℕ) → IsReported p steps other → Agrees bytes then.lines other → ⊥
    never other reported (inl e) =
        more (omega (arith, ap length (sym (whole other reported (inl e)) ∙ e), length-take-le then.bytes bytes at.inside))
    never other reported (inr a) =
        let is = whole other reported (inr a) in
        let g = lines-front (then.lines + 1) bytes a.0 a.1 in
        omega (arith, at.lines, ap ends_in (sym is ∙ a.3), ends-append a.0 a.2, g.ends)
