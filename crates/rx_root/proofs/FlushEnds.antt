-- A flush ends: the turns that it takes come to the states of one that ends.
use Rattle.rx_sched.specs.Events.{no_event}
use Rattle.std.proofs.Common.{◌≡◌, ◌≢◌, inl, inr, ℕ, zero, suc, [], ◌∷◌, refl, sym, ap, ◌∙◌, subst, arith, Option, Some, None}
use Rattle.rx_ast.specs.Syntax.{Program}
use Rattle.rx_step.specs.declared.step.Step.TheVariants as step
use Rattle.rx_sched.specs.declared.choice.Choice.{Choice}
use Rattle.rx_sched.specs.declared.choice.Choice.TheVariants as choice
use Rattle.rx_elem.specs.Trees.{Node}
use Rattle.rx_meaning.specs.Fresh.{made}
use Rattle.rx_meaning.specs.Outcome.{Outcome, commit, defer, outcome}
use Rattle.rx_lines.specs.Lines.{Counts}
use Rattle.rx_model.specs.State.{State, Progress}
use Rattle.rx_model.specs.Stretch.{Stretch}
use Rattle.rx_model.specs.Committing.{passive_run, starting, ended, ended_by}
use Rattle.rx_model.specs.Turns.{AnyRender, OfRender, Finishes, GoesOn, Continues, TurnBy, Turn, choice_of}
use Rattle.rx_model.specs.Machine.{Flushes, IsAtRest, flush_limit}
use Rattle.rx_model.specs.Laws.{IsBounded, IsReached}
use Rattle.rx_model.proofs.AskingLess.{any-turn}
use Rattle.rx_model.proofs.NeverWaits.{app_never_waits}
use Rattle.rx_model.proofs.Reached.{progresses}
use Rattle.rx_root.specs.Turning.{CanFlush}
use Rattle.rx_kept.proofs.TurnReached.{same_between}

-- the state after a render does not depend on its counts
counts_apart : (s : State) (g : Progress) (a b : Counts) (o : Outcome) → (ended_by s g a o).after ≡ (ended_by s g b o).after
counts_apart s g a b (commit new) = refl
counts_apart s g a b (defer waits) = refl

finishes_alike : (p : Program) (s : State) (g : Progress) (r q : Stretch) → Finishes p s g None r → Finishes p s g None q → r.after ≡ q.after
finishes_alike p s g r q f h =
    let trees : made f.tree ≡ made h.tree = sym f.rendered ∙ h.rendered in
    let tree : f.tree ≡ h.tree = cc in
    ap (λ (x : Stretch). x.after) f.stretch_is
    ∙ counts_apart s g f.counts h.counts (outcome g.lanes s.tree f.tree)
    ∙ ap (λ (x : Node). (ended s g h.counts x).after) tree
    ∙ sym (ap (λ (x : Stretch). x.after) h.stretch_is)

goes_alike : (p : Program) (s : State) (g : Progress) (r q : Stretch) → GoesOn AnyRender p s g None r → GoesOn AnyRender p s g None q → r.after ≡ q.after
goes_alike p s g r q (inl f, asked) (inl h, same) = finishes_alike p s g r q f h
goes_alike p s g r q (inl f, asked) (inr y, same) = absurd (let e : None ≡ Some y.budget = y.sliced in cc)
goes_alike p s g r q (inr y, asked) h = absurd (let e : None ≡ Some y.budget = y.sliced in cc)

continues_alike : (p : Program) (s : State) (x : Option Progress) (r q : Stretch) → Continues AnyRender p s x None r → Continues AnyRender p s x None q → r.after ≡ q.after
continues_alike p s None r q h i = absurd h
continues_alike p s (Some g) r q h i = goes_alike p s g r q h i

turns_alike : (p : Program) (s : State) (c : Choice) (r q : Stretch) → TurnBy AnyRender p s c None r → TurnBy AnyRender p s c None q → r.after ≡ q.after
turns_alike p s choice.None r q h i = ap (λ (x : Stretch). x.after) (h ∙ sym i)
turns_alike p s choice.Keep r q h i = continues_alike p s s.progress r q h i
turns_alike p s (choice.Start lanes) r q h i =
    ap (λ (x : Stretch). x.after) h.stretch_is
    ∙ goes_alike p (passive_run s).after (starting s lanes) h.rest i.rest h.begins i.begins
    ∙ sym (ap (λ (x : Stretch). x.after) i.stretch_is)

-- from a state between two events that a run comes to, a flush ends within the limit
pub can_flush : (p : Program) → IsBounded p → (s : State) → IsReached p s → s.event ≡ no_event → CanFlush flush_limit p s
can_flush p bounded s reached none =
    let run = progresses p (app_never_waits p) bounded s reached (step.Flush ∷ []) in
    subst (λ (u : State). CanFlush flush_limit p u) (sym (same_between s none)) (run.1.0, run.1.2)

-- if no render is left to finish, nothing is to be rendered
pub flush_over : (p : Program) (s : State) → CanFlush 0 p s → choice_of s ≡ choice.None
flush_over p s (r, (zero, few, h)) = h.0
flush_over p s (r, (suc n, few, h)) = absurd (omega (arith, few))

-- a turn leaves one render fewer to finish
pub flush_on : (A : OfRender) (limit : ℕ) (p : Program) (s : State) (first : Stretch) → CanFlush (suc limit) p s → choice_of s ≢ choice.None → Turn A p s None first → CanFlush limit p first.after
flush_on A limit p s first (r, (zero, few, h)) some turn = absurd (some h.0)
flush_on A limit p s first (r, (suc n, few, h)) some turn =
    (h.2, (n, omega (arith, few), subst (λ (u : State). Flushes AnyRender IsAtRest n p u h.2) (turns_alike p s (choice_of s) h.1 first h.3 (any-turn A p s None first turn)) h.4))
