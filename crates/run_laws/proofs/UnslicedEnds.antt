-- Two runs of a script without sliced work end alike.
use Rattle.std.proofs.Common.{◌≡◌, inl, inr, ℕ, ◌+◌, map, zero, suc, Bool, true, false, List, [], ◌∷◌, ◌++◌, refl, sym, ap, subst, append_assoc, Option, Some, None, ◌∙◌}
use Rattle.rx_lane.specs.declared.lane.Lane.TheVariants as lane
use Rattle.rx_lane.specs.Lanes.{Lanes, has}
use Rattle.rx_ast.specs.Syntax.{Program}
use Rattle.rx_step.specs.declared.step.Step.{Step}
use Rattle.rx_step.specs.declared.step.Step.TheVariants as step
use Rattle.rx_elem.specs.Trees.{Node}
use Rattle.rx_elem.specs.Numbers.{Numbers, numbered}
use Rattle.rx_sched.specs.declared.choice.Choice.{Choice}
use Rattle.rx_sched.specs.declared.choice.Choice.TheVariants as choice
use Rattle.rx_meaning.specs.Fresh.{made}
use Rattle.rx_meaning.specs.Outcome.{Outcome, commit, defer, outcome, newly_caught}
use Rattle.rx_effect.specs.EffectLog.{layout_log}
use Rattle.rx_elem.specs.Compare.{compare_trees}
use Rattle.rx_forest.specs.HostOps.{host_ops}
use Rattle.rx_lines.specs.Lines.{Counts, Line, Options, committed, operated, logged, deferred, line_bytes, line_text, report_bytes, caught}
use Rattle.rx_model.specs.State.{State, Progress}
use Rattle.rx_model.specs.Stretch.{Stretch, silent, followed_by}
use Rattle.rx_model.specs.Accepting.{between_events}
use Rattle.rx_model.specs.Committing.{passive_run, passive_if_sync, commit_lines, bodies_since, committed_as, committed_state, starting, ended, ended_by}
use Rattle.rx_model.specs.Turns.{OfRender, AnyRender, Continues, Finishes, GoesOn, TurnBy, choice_of}
use Rattle.rx_model.specs.Machine.{Flushes, FlushSync, IsAtRest, RunTo, StepTo}
use Rattle.rx_model.proofs.AskingLess.{any-run}
use Rattle.run_laws.specs.Unsliced.{AreUnsliced, EndAlike, UnslicedLaw, is_work}

-- Stretches that end alike

bytes-append : (o : Options) (xs ys : List Line) → report_bytes o (xs ++ ys) ≡ report_bytes o xs ++ report_bytes o ys
unfolding report_bytes
bytes-append o [] ys = refl
bytes-append o (x ∷ xs) ys =
    ap (λ (t : List ℕ). line_bytes o x ++ t) (bytes-append o xs ys) ∙ sym (append_assoc (line_bytes o x) (report_bytes o xs) (report_bytes o ys))

alike-self : (r : Stretch) → EndAlike r r
alike-self r = record { after = refl; bytes = λ o e. refl }

-- a stretch that is one of two that end alike ends as the other does
alike-both : (r q a b : Stretch) → r ≡ a → q ≡ b → EndAlike a b → EndAlike r q
alike-both r q a b e f h = subst (λ (x : Stretch). EndAlike x q) (sym e) (subst (λ (x : Stretch). EndAlike a x) (sym f) h)

alike-same : (r q a : Stretch) → r ≡ a → q ≡ a → EndAlike r q
alike-same r q a e f = alike-both r q a a e f (alike-self a)

alike-followed : (a b c d : Stretch) → EndAlike a b → EndAlike c d → EndAlike (followed_by a c) (followed_by b d)
alike-followed a b c d h k =
    record {
      after = k.after;
      bytes = λ o e. bytes-append o a.lines c.lines ∙ ((λ i. h.bytes o e i ++ k.bytes o e i) ∙ sym (bytes-append o b.lines d.lines));
    }

-- Renders

bytes-of : (o : Options) (x y : Line) (xs : List Line) → line_bytes o x ≡ line_bytes o y → report_bytes o (x ∷ xs) ≡ report_bytes o (y ∷ xs)
unfolding report_bytes
bytes-of o x y xs e = ap (λ (t : List ℕ). t ++ report_bytes o xs) e

-- if counts aren't shown, neither a commit nor a deferral hangs on them
plain-commit : (o : Options) → o.counts ≡ false → (k : ℕ) (lanes : Lanes) (c d : Counts) (tree : Node) → line_bytes o (committed k lanes c tree) ≡ line_bytes o (committed k lanes d tree)
plain-commit o e k lanes c d tree =
    subst (λ (b : Bool). line_text b (committed k lanes c tree) ++ 10 ∷ [] ≡ line_text b (committed k lanes d tree) ++ 10 ∷ []) (sym e) refl

plain-deferral : (o : Options) → o.counts ≡ false → (lanes : Lanes) (c d : Counts) → line_bytes o (deferred lanes c) ≡ line_bytes o (deferred lanes d)
plain-deferral o e lanes c d =
    subst (λ (b : Bool). line_text b (deferred lanes c) ++ 10 ∷ [] ≡ line_text b (deferred lanes d) ++ 10 ∷ []) (sym e) refl

outcome-alike : (s : State) (g : Progress) (c d : Counts) (o : Outcome) → EndAlike (ended_by s g c o) (ended_by s g d o)
outcome-alike s g c d (commit new) = go (numbered s.numbers new)
  where
    first : Counts → Numbers × Node → Stretch
    first x fixed = record { lines = commit_lines s g x fixed.1; bodies = bodies_since g x; after = committed_state s g fixed }

    first-alike : (fixed : Numbers × Node) → EndAlike (first c fixed) (first d fixed)
    first-alike fixed =
        record {
          after = refl;
          bytes = λ o e. bytes-of o (committed (s.commits + 1) g.lanes c fixed.1) (committed (s.commits + 1) g.lanes d fixed.1)
              (map operated (host_ops s.tree fixed.1) ++ (map caught (newly_caught s.tree fixed.1) ++ map logged (layout_log (compare_trees s.tree fixed.1))))
              (plain-commit o e (s.commits + 1) g.lanes c d fixed.1);
        }

    go : (fixed : Numbers × Node) → EndAlike (committed_as s g c fixed) (committed_as s g d fixed)
    go fixed =
        let rest = passive_if_sync g.lanes (committed_state s g fixed) in
        alike-followed (first c fixed) (first d fixed) rest rest (first-alike fixed) (alike-self rest)
outcome-alike s g c d (defer waits) =
    record { after = refl; bytes = λ o e. bytes-of o (deferred g.lanes c) (deferred g.lanes d) [] (plain-deferral o e g.lanes c d) }

-- two finished renders end alike, as the tree is one
finishes-alike : (p : Program) (s : State) (g : Progress) (r q : Stretch) → Finishes p s g None r → Finishes p s g None q → EndAlike r q
finishes-alike p s g r q f h =
    let both : made f.tree ≡ made h.tree = sym f.rendered ∙ h.rendered in
    let one : f.tree ≡ h.tree = cc in
    alike-both r q (ended s g f.counts f.tree) (ended s g h.counts f.tree) f.stretch_is
    (subst (λ (t : Node). q ≡ ended s g h.counts t) (sym one) h.stretch_is) (outcome-alike s g f.counts h.counts (outcome g.lanes s.tree f.tree))

-- a turn that isn't sliced can only finish
going-alike : (p : Program) (s : State) (g : Progress) (r q : Stretch) → GoesOn AnyRender p s g None r → GoesOn AnyRender p s g None q → EndAlike r q
going-alike p s g r q (inl f, a) (inl h, b) = finishes-alike p s g r q f h
going-alike p s g r q (inl f, a) (inr y, b) = let e = y.sliced in cc
going-alike p s g r q (inr y, a) other = let e = y.sliced in cc

continues-alike : (p : Program) (s : State) (x : Option Progress) (r q : Stretch) → Continues AnyRender p s x None r → Continues AnyRender p s x None q → EndAlike r q
continues-alike p s None r q a b = absurd a
continues-alike p s (Some g) r q a b = going-alike p s g r q a b

turn-by-alike : (p : Program) (s : State) (c : Choice) (r q : Stretch) → TurnBy AnyRender p s c None r → TurnBy AnyRender p s c None q → EndAlike r q
turn-by-alike p s choice.None r q a b = alike-same r q (silent s) a b
turn-by-alike p s choice.Keep r q a b = continues-alike p s s.progress r q a b
turn-by-alike p s (choice.Start lanes) r q a b =
    alike-both r q (followed_by (passive_run s) a.rest) (followed_by (passive_run s) b.rest) a.stretch_is b.stretch_is
    (alike-followed (passive_run s) (passive_run s) a.rest b.rest (alike-self (passive_run s)) (going-alike p (passive_run s).after (starting s lanes) a.rest b.rest a.begins b.begins))

-- two flushes take as many turns, as each goes on while something is left to render
flushes-alike : (n m : ℕ) (p : Program) (s : State) (r q : Stretch) → Flushes AnyRender IsAtRest n p s r → Flushes AnyRender IsAtRest m p s q → EndAlike r q
flushes-alike zero zero p s r q a b = alike-same r q (silent s) a.1 b.1
flushes-alike zero (suc m) p s r q a b = absurd (b.0 a.0)
flushes-alike (suc n) zero p s r q a b = absurd (a.0 b.0)
flushes-alike (suc n) (suc m) p s r q a b =
    let first = turn-by-alike p s (choice_of s) a.1 b.1 a.3 b.3 in
    alike-both r q (followed_by a.1 a.2) (followed_by b.1 b.2) a.5 b.5
    (alike-followed a.1 b.1 a.2 b.2 first
    (flushes-alike n m p a.1.after a.2 b.2 a.4 (subst (λ (t : State). Flushes AnyRender IsAtRest m p t b.2) (sym first.after) b.4)))

sync-alike : (b : Bool) (p : Program) (s : State) (r q : Stretch) → FlushSync AnyRender b p s r → FlushSync AnyRender b p s q → EndAlike r q
sync-alike true p s r q a b = turn-by-alike p s (choice_of s) r q a b
sync-alike false p s r q a b = alike-same r q (silent s) a b

step-alike : (p : Program) (s : State) (x : Step) → is_work x ≡ false → (r q : Stretch) → StepTo AnyRender p s x r → StepTo AnyRender p s x q → EndAlike r q
step-alike p s (step.Dispatch d) idle r q a b = alike-same r q _ a b
step-alike p s (step.Resolve name x) idle r q a b = alike-same r q _ a b
step-alike p s (step.Tick n) idle r q a b = alike-same r q _ a b
step-alike p s (step.Work n) idle r q a b = cc
step-alike p s step.Flush idle r q a b = flushes-alike a.0 b.0 p (between_events s) r q a.2 b.2
step-alike p s step.FlushSync idle r q a b = sync-alike (has s.schedule.pending lane.Sync) p (between_events s) r q a b
step-alike p s step.Passive idle r q a b = alike-same r q _ a b
step-alike p s step.Event idle r q a b = alike-same r q _ a b
step-alike p s step.State idle r q a b = alike-same r q _ a b
step-alike p s step.Tree idle r q a b = alike-same r q _ a b

runs-alike : (p : Program) (s : State) (steps : List Step) → AreUnsliced steps → (r q : Stretch) → RunTo AnyRender p s steps r → RunTo AnyRender p s steps q → EndAlike r q
runs-alike p s [] un r q a b = alike-same r q (silent s) a b
runs-alike p s (x ∷ xs) un r q a b =
    let first = step-alike p s x un.0 a.0 b.0 a.2 b.2 in
    alike-both r q (followed_by a.0 a.1) (followed_by b.0 b.1) a.4 b.4
    (alike-followed a.0 b.0 a.1 b.1 first
    (runs-alike p a.0.after xs un.1 a.1 b.1 a.3 (subst (λ (t : State). RunTo AnyRender p t xs b.1) (sym first.after) b.3)))

-- whatever is asked of the renders of the one and of the other
pub unsliced_ends : (First Second : OfRender) (p : Program) → UnslicedLaw First Second p
unsliced_ends First Second p s steps un r q a b =
    runs-alike p s steps un r q (any-run First p s steps r a) (any-run Second p s steps q b)
