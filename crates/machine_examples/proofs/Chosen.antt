-- The run of a script that takes one unit more wherever it finishes a render, and yields wherever it may, as a function.
use Rattle.std.proofs.Common.{◌≡◌, ◌⊎◌, inl, inr, ℕ, zero, suc, ◌+◌, ◌≤◌, Bool, true, false, cond, List, [], ◌∷◌, ◌++◌, refl, sym, ◌∙◌, subst, arith, Option, Some, None}
use Rattle.std.specs.Prelude.{◌&&◌, if◌then◌else◌, IfSome, nat_lt, nat_le, option_map, option_and_then}
use Rattle.std.proofs.lemmas.Bool.Decides.{nat_tests}
use Rattle.rx_base.specs.Values.{Text}
use Rattle.rx_lane.specs.declared.lane.Lane.TheVariants as lane
use Rattle.rx_lane.specs.Lanes.{has}
use Rattle.rx_ast.specs.Syntax.{Program}
use Rattle.rx_step.specs.declared.step.Step.{Step}
use Rattle.rx_step.specs.declared.step.Step.TheVariants as step
use Rattle.rx_sched.specs.declared.choice.Choice.{Choice}
use Rattle.rx_sched.specs.declared.choice.Choice.TheVariants as choice
use Rattle.rx_sched.specs.Deadlines.{later}
use Rattle.rx_meaning.specs.Fresh.{Place, empty, made, waits, throws, fresh}
use Rattle.rx_forest.specs.Hosts.{hosts}
use Rattle.rx_lines.specs.Lines.{Counts, Options, tree_lines, report_bytes}
use Rattle.rx_model.specs.State.{State, Progress, opening, state_lines, end_line}
use Rattle.rx_model.specs.Stretch.{Stretch, writes, silent, followed_by}
use Rattle.rx_model.specs.Accepting.{dispatched, resolved, between_events}
use Rattle.rx_model.specs.Committing.{passive_run, starting, sight_of, ended}
use Rattle.rx_model.specs.Turns.{AnyRender, unit_bound, slice_of, Finishes, Yields, gone_on, Continues, TurnBy, choice_of}
use Rattle.rx_model.specs.Machine.{IsAtRest, Flushes, FlushSync, StepTo, RunTo}
use Rattle.machine_examples.specs.Writes.{Writes}

-- ---- what is chosen

abbrev one_more : Progress → Counts
one_more g = record { units = g.units + 1; bodies = g.bodies }

abbrev finished_in : State → Progress → Place → Option Stretch
finished_in s g empty = None
finished_in s g (waits a) = None
finished_in s g (throws x) = None
finished_in s g (made tree) = Some (ended s g (one_more g) tree)

abbrev in_bounds : Program → Progress → Bool
in_bounds p g = nat_le g.bodies g.units && nat_lt g.units (unit_bound p)

abbrev finished : Program → State → Progress → Option Stretch
finished p s g = if in_bounds p g then finished_in s g (fresh (sight_of p s g) s.tree) else None

abbrev yielded : State → Progress → ℕ → Stretch
yielded s g n = record { lines = []; bodies = 0; after = record s { progress = Some (gone_on g n 0) } }

abbrev going : Program → State → Progress → (slice : Option ℕ) → Option Stretch
going p s g None = finished p s g
going p s g (Some zero) = None
going p s g (Some (suc n)) = if nat_lt (g.units + suc n) (unit_bound p) then Some (yielded s g (suc n)) else finished p s g

abbrev continued : Program → State → Option Progress → (budget : Option ℕ) → Option Stretch
continued p s None budget = None
continued p s (Some g) budget = going p s g (slice_of s g budget)

abbrev turn_by : Program → State → Choice → (budget : Option ℕ) → Option Stretch
turn_by p s choice.None budget = Some (silent s)
turn_by p s choice.Keep budget = continued p s s.progress budget
turn_by p s (choice.Start lanes) budget =
    let t = (passive_run s).after in option_map (followed_by (passive_run s)) (going p t (starting s lanes) (slice_of t (starting s lanes) budget))

abbrev turn : Program → State → (budget : Option ℕ) → Option Stretch
turn p s budget = turn_by p s (choice_of s) budget

-- a stretch and what follows from the state after it
abbrev and_on : (State → Option Stretch) → Stretch → Option Stretch
and_on next first = option_map (followed_by first) (next first.after)

abbrev flushed_by : (State → Option Stretch) → Program → State → Choice → Option Stretch
flushed_by next p s choice.None = Some (silent s)
flushed_by next p s choice.Keep = option_and_then (and_on next) (turn_by p s choice.Keep None)
flushed_by next p s (choice.Start lanes) = option_and_then (and_on next) (turn_by p s (choice.Start lanes) None)

abbrev flushed : ℕ → Program → State → Option Stretch
flushed zero p s = flushed_by (λ t. None) p s (choice_of s)
flushed (suc n) p s = flushed_by (flushed n p) p s (choice_of s)

abbrev flushed_sync : (sync_pending : Bool) → Program → State → Option Stretch
flushed_sync true p s = turn p s None
flushed_sync false p s = Some (silent s)

abbrev stepped : Program → State → Step → Option Stretch
stepped p s (step.Dispatch d) = Some (dispatched p s d)
stepped p s (step.Resolve name x) = Some (resolved p (between_events s) name x)
stepped p s (step.Tick n) = Some (silent (record (between_events s) { now = later s.now n }))
stepped p s (step.Work n) = turn p (between_events s) (Some n)
stepped p s step.Flush = flushed 24 p (between_events s)
stepped p s step.FlushSync = flushed_sync (has s.schedule.pending lane.Sync) p (between_events s)
stepped p s step.Passive = Some (passive_run (between_events s))
stepped p s step.Event = Some (silent (between_events s))
stepped p s step.State = Some (writes (state_lines p s) (between_events s))
stepped p s step.Tree = Some (writes (tree_lines (hosts s.tree)) (between_events s))

abbrev pub chosen_run : Program → State → List Step → Option Stretch
chosen_run p s [] = Some (silent s)
chosen_run p s (x ∷ xs) = option_and_then (and_on (λ t. chosen_run p t xs)) (stepped p s x)

-- ---- it is a run

some_inj : {A : Type 0} (x y : A) → Some x ≡ Some y → x ≡ y
some_inj x y h = cc

finished-tells : (p : Program) (s : State) (g : Progress) (slice : Option ℕ) (r : Stretch) → IfSome slice (λ n. g.units + 1 ≤ g.units + n) → finished p s g ≡ Some r
    → Finishes p s g slice r
finished-tells p s g slice r fits h = pick (in_bounds p g) refl h
  where
    place : (x : Place) → fresh (sight_of p s g) s.tree ≡ x → in_bounds p g ≡ true → finished_in s g x ≡ Some r → Finishes p s g slice r
    place empty e b h = absurd (cc h)
    place (waits a) e b h = absurd (cc h)
    place (throws x) e b h = absurd (cc h)
    place (made tree) e b h =
        record {
          counts = one_more g;
          more_units = omega arith;
          in_bound = grind (arith, nat_tests, b);
          in_slice = fits;
          bodies_kept = omega arith;
          fewer_bodies = grind (arith, nat_tests, b);
          one_a_unit = omega arith;
          tree = tree;
          rendered = e;
          stretch_is = sym (some_inj _ _ h);
        }

    pick : (b : Bool) → in_bounds p g ≡ b → cond b (finished_in s g (fresh (sight_of p s g) s.tree)) None ≡ Some r → Finishes p s g slice r
    pick false e h = absurd (cc h)
    pick true e h = place (fresh (sight_of p s g) s.tree) refl e h

going-tells : (p : Program) (s : State) (g : Progress) (slice : Option ℕ) (r : Stretch) → going p s g slice ≡ Some r → Finishes p s g slice r ⊎ Yields p s g slice r
going-tells p s g None r h = inl (finished-tells p s g None r tt h)
going-tells p s g (Some zero) r h = absurd (cc h)
going-tells p s g (Some (suc n)) r h = pick (nat_lt (g.units + suc n) (unit_bound p)) refl h
  where
    pick : (b : Bool) → nat_lt (g.units + suc n) (unit_bound p) ≡ b → cond b (Some (yielded s g (suc n))) (finished p s g) ≡ Some r
        → Finishes p s g (Some (suc n)) r ⊎ Yields p s g (Some (suc n)) r
    pick true e h =
        inr (record {
          budget = suc n;
          bodies = 0;
          sliced = refl;
          in_bound = grind (arith, nat_tests, e);
          one_a_unit = omega arith;
          stretch_is = sym (some_inj _ _ h);
        })
    pick false e h = inl (finished-tells p s g (Some (suc n)) r (omega arith) h)

continued-tells : (p : Program) (s : State) (o : Option Progress) (budget : Option ℕ) (r : Stretch) → continued p s o budget ≡ Some r → Continues AnyRender p s o budget r
continued-tells p s None budget r h = absurd (cc h)
continued-tells p s (Some g) budget r h = (going-tells p s g (slice_of s g budget) r h, tt)

-- what maps to a stretch came from one
mapped-tells : (f : Stretch → Stretch) (o : Option Stretch) (r : Stretch) → option_map f o ≡ Some r → (q : Stretch) × (o ≡ Some q) × (r ≡ f q)
mapped-tells f None r h = absurd (cc h)
mapped-tells f (Some q) r h = (q, refl, sym (some_inj _ _ h))

joined-tells : (next : State → Option Stretch) (o : Option Stretch) (r : Stretch) → option_and_then (and_on next) o ≡ Some r
    → (first rest : Stretch) × (o ≡ Some first) × (next first.after ≡ Some rest) × (r ≡ followed_by first rest)
joined-tells next None r h = absurd (cc h)
joined-tells next (Some first) r h = let m = mapped-tells (followed_by first) (next first.after) r h in (first, m.0, refl, m.1, m.2)

turn-tells : (p : Program) (s : State) (c : Choice) (budget : Option ℕ) (r : Stretch) → turn_by p s c budget ≡ Some r → TurnBy AnyRender p s c budget r
turn-tells p s choice.None budget r h = sym (some_inj _ _ h)
turn-tells p s choice.Keep budget r h = continued-tells p s s.progress budget r h
turn-tells p s (choice.Start lanes) budget r h =
    let t : State = (passive_run s).after in
    let g : Progress = starting s lanes in
    let m = mapped-tells (followed_by (passive_run s)) (going p t g (slice_of t g budget)) r h in
    record { rest = m.0; begins = (going-tells p t g (slice_of t g budget) m.0 m.1, tt); stretch_is = m.2 }

abbrev FlushOf : ℕ → Program → State → Stretch → Type 0
FlushOf n p s r = (k : ℕ) × (k ≤ n) × Flushes AnyRender IsAtRest k p s r

-- one render and the flush behind it
more : (n : ℕ) (p : Program) (s : State) (next : State → Option Stretch) (c : Choice) (r : Stretch) → choice_of s ≡ c → (c ≡ choice.None → ⊥)
    → ((t : State) (q : Stretch) → next t ≡ Some q → FlushOf n p t q) → option_and_then (and_on next) (turn_by p s c None) ≡ Some r → FlushOf (suc n) p s r
more n p s next c r e some rest h =
    let j = joined-tells next (turn_by p s c None) r h in
    let f = rest j.0.after j.1 j.3 in
    let first : TurnBy AnyRender p s (choice_of s) None j.0 = subst (λ (x : Choice). TurnBy AnyRender p s x None j.0) (sym e) (turn-tells p s c None j.0 j.2) in (
      suc f.0,
      omega (arith, f.1),
      (λ none. some (sym e ∙ none), j.0, j.1, first, f.2, j.4),
    )

no-more : (p : Program) (s : State) (c : Choice) (r : Stretch) → (turn : Option Stretch) → option_and_then (and_on (λ t. None)) turn ≡ Some r → ⊥
no-more p s c r None h = absurd (cc h)
no-more p s c r (Some first) h = absurd (cc h)

flush-tells : (n : ℕ) (p : Program) (s : State) (r : Stretch) → flushed n p s ≡ Some r → FlushOf n p s r
flush-tells zero p s r h = by (choice_of s) refl h
  where
    by : (c : Choice) → choice_of s ≡ c → flushed_by (λ t. None) p s c ≡ Some r → FlushOf zero p s r
    by choice.None e h = (0, omega arith, (e, sym (some_inj _ _ h)))
    by choice.Keep e h = absurd (no-more p s choice.Keep r (turn_by p s choice.Keep None) h)
    by (choice.Start lanes) e h = absurd (no-more p s (choice.Start lanes) r (turn_by p s (choice.Start lanes) None) h)
flush-tells (suc n) p s r h = by (flush-tells n p) (choice_of s) refl h
  where
    by : ((t : State) (q : Stretch) → flushed n p t ≡ Some q → FlushOf n p t q) → (c : Choice) → choice_of s ≡ c → flushed_by (flushed n p) p s c ≡ Some r → FlushOf (suc n) p s r
    by rest choice.None e h = (0, omega arith, (e, sym (some_inj _ _ h)))
    by rest choice.Keep e h = more n p s (flushed n p) choice.Keep r e (λ x. cc) rest h
    by rest (choice.Start lanes) e h = more n p s (flushed n p) (choice.Start lanes) r e (λ x. cc) rest h

sync-tells : (pending : Bool) (p : Program) (s : State) (r : Stretch) → flushed_sync pending p s ≡ Some r → FlushSync AnyRender pending p s r
sync-tells true p s r h = turn-tells p s (choice_of s) None r h
sync-tells false p s r h = sym (some_inj _ _ h)

step-tells : (p : Program) (s : State) (x : Step) (r : Stretch) → stepped p s x ≡ Some r → StepTo AnyRender p s x r
step-tells p s (step.Dispatch d) r h = sym (some_inj _ _ h)
step-tells p s (step.Resolve name x) r h = sym (some_inj _ _ h)
step-tells p s (step.Tick n) r h = sym (some_inj _ _ h)
step-tells p s (step.Work n) r h = turn-tells p (between_events s) (choice_of (between_events s)) (Some n) r h
step-tells p s step.Flush r h = flush-tells 24 p (between_events s) r h
step-tells p s step.FlushSync r h = sync-tells (has s.schedule.pending lane.Sync) p (between_events s) r h
step-tells p s step.Passive r h = sym (some_inj _ _ h)
step-tells p s step.Event r h = sym (some_inj _ _ h)
step-tells p s step.State r h = sym (some_inj _ _ h)
step-tells p s step.Tree r h = sym (some_inj _ _ h)

pub run-tells : (p : Program) (s : State) (steps : List Step) (r : Stretch) → chosen_run p s steps ≡ Some r → RunTo AnyRender p s steps r
run-tells p s [] r h = sym (some_inj _ _ h)
run-tells p s (x ∷ xs) r h = go (λ t q. run-tells p t xs q)
  where
    go : ((t : State) (q : Stretch) → chosen_run p t xs ≡ Some q → RunTo AnyRender p t xs q) → RunTo AnyRender p s (x ∷ xs) r
    go rest =
        let j = joined-tells (λ t. chosen_run p t xs) (stepped p s x) r h in
        (j.0, j.1, step-tells p s x j.0 j.2, rest j.0.after j.1 j.3, j.4)

-- ---- and what it writes

abbrev options_of : Bool → Options
options_of ops = record { counts = false; ops = ops }

abbrev bytes_of : (ops : Bool) → Option Stretch → Option Text
bytes_of ops o = option_map (λ r. report_bytes (options_of ops) (r.lines ++ end_line r.after ∷ [])) o

told : (p : Program) (steps : List Step) (ops : Bool) (bytes : Text) (o : Option Stretch) → chosen_run p opening steps ≡ o → bytes_of ops o ≡ Some bytes → Writes p steps ops bytes
told p steps ops bytes None e h = absurd (cc h)
told p steps ops bytes (Some r) e h = (
  r.bodies,
  record {
    lines = r.lines ++ end_line r.after ∷ [];
    run = record { whole = r; runs = run-tells p opening steps r e; lines_are = refl; bodies_are = refl };
    bytes_are = sym (some_inj _ _ h);
  },
)

-- the machine may write what the chosen run writes
pub written : (p : Program) (steps : List Step) (ops : Bool) (bytes : Text) → bytes_of ops (chosen_run p opening steps) ≡ Some bytes → Writes p steps ops bytes
written p steps ops bytes h = told p steps ops bytes (chosen_run p opening steps) refl h
