-- The hooks of a finished tree are settled.
use Rattle.std.specs.Prelude.{◌≡◌, ℕ, false, Some, None, Result, OnOk, OnErr, slice_get}
use Rattle.std.proofs.Common.{sym, subst}
use Rattle.std.proofs.lemmas.Result.{on_ok_weaker, on_err_weaker}
use Rattle.rx_ast.specs.Syntax.{Program}
use Rattle.rx_elem.specs.Numbers.{numbered}
use Rattle.rx_elem.specs.Trees.{Node}
use Rattle.rx_elem.specs.Spots.{Mounted, mounted}
use Rattle.rx_meaning.specs.Settled.{DoneBefore}
use Rattle.rx_model.specs.State.{State, Progress}
use Rattle.rx_model.specs.Committing.{committed_state}
use Rattle.rx_model.specs.HooksOf.{KeepsAllHooks}
use Rattle.rx_hook_store.specs.Store.{Kept, kept_hooks}
use Rattle.rx_settle.specs.Passes.{has_instance}
use Rattle.rx_pruned.specs.Besides.{IsBeside}
use Rattle.rx_pruned.specs.declared.beside.Beside.{Beside}
use Rattle.end_laws.specs.Trimmed.{trimmed, trimmed_if}
use Rattle.rx_render.specs.Rendering.{Rendering}
use Rattle.rx_render.specs.Renders.{Renders, with_hooks}
use Rattle.rx_render.specs.Settling.{IsAtHand, IsToSettle}
use Rattle.rx_render.proofs.Sending.{with_kept}

-- hooks stand for the state after the commit at hand
abbrev pub StandSettled : (first : ℕ) → Beside → Rendering → Kept → Type 0
StandSettled first b v hooks =
    (s : State) (g : Progress) (x : Node) → IsAtHand s g x first b v → KeepsAllHooks v.program (committed_state s g (numbered s.numbers x)) (kept_hooks hooks)

-- and nothing is kept of an instance that is gone
abbrev pub LeaveOutGone : (first : ℕ) → Beside → Rendering → Kept → Type 0
LeaveOutGone first b v hooks =
    (s : State) (g : Progress) (x : Node) (k : ℕ) (m : Mounted) → IsAtHand s g x first b v → slice_get (mounted (trimmed_if s.tree)) k ≡ Some m
    → has_instance (mounted (Some (trimmed (numbered s.numbers x).1))) m.number ≡ false → kept_hooks hooks m.number ≡ None

-- hooks stand for whatever they stood for, if what is done lies before the cut
abbrev pub StandOn : Rendering → Kept → Type 0
StandOn v hooks = (s : State) → DoneBefore v.cut s.journal.updates → KeepsAllHooks v.program s (kept_hooks v.hooks) → KeepsAllHooks v.program s (kept_hooks hooks)

stands_on : (v : Rendering) (hooks : Kept) → StandOn v hooks → (p : Program) (s : State) (g : Progress) → Renders p s g v → Renders p s g (with_hooks v hooks)
stands_on v hooks on p s g r =
    with_kept v hooks p s g
    (subst (λ q. KeepsAllHooks q s (kept_hooks hooks)) r.program
    (on s (subst (λ c. DoneBefore c s.journal.updates) (sym r.cut) r.done) (subst (λ q. KeepsAllHooks q s (kept_hooks v.hooks)) (sym r.program) r.keeps)))
    r

-- From the value that was opened

module _ (first : ℕ) (b : Beside) (value inside : Rendering) (same : inside ≡ value) where
  pub can_settle : ((s : State) × (g : Progress) × (x : Node) × IsAtHand s g x first b value)
      → (s : State) × (g : Progress) × (x : Node) × (IsToSettle inside.program inside.trees (kept_hooks inside.hooks) first inside.lanes inside.cut s g x
      × IsBeside (trimmed_if s.tree) (trimmed (numbered s.numbers x).1) b)
  can_settle (s, g, x, h) = let i = subst (λ (v : Rendering). IsAtHand s g x first b v) (sym same) h in (s, g, x, (i.to_settle, i.beside))

  module _ {T E : Type 0} (result : Result T E) (hooks : Kept) where
    pub then_settled : OnOk result ((s : State) (g : Progress) (x : Node) → IsToSettle inside.program inside.trees (kept_hooks inside.hooks) first inside.lanes inside.cut s g x
        → IsBeside (trimmed_if s.tree) (trimmed (numbered s.numbers x).1) b → KeepsAllHooks inside.program (committed_state s g (numbered s.numbers x)) (kept_hooks hooks))
        → OnOk result (StandSettled first b value hooks)
    then_settled h = subst (λ (v : Rendering). OnOk result (StandSettled first b v hooks)) same (on_ok_weaker result (λ told s g x i. told s g x i.to_settle i.beside) h)

    pub then_gone : OnOk result ((s : State) (g : Progress) (x : Node) (k : ℕ) (m : Mounted) → IsToSettle inside.program inside.trees (kept_hooks inside.hooks) first inside.lanes inside.cut s g x
        → IsBeside (trimmed_if s.tree) (trimmed (numbered s.numbers x).1) b → slice_get (mounted (trimmed_if s.tree)) k ≡ Some m
        → has_instance (mounted (Some (trimmed (numbered s.numbers x).1))) m.number ≡ false → kept_hooks hooks m.number ≡ None)
        → OnOk result (LeaveOutGone first b value hooks)
    then_gone h = subst (λ (v : Rendering). OnOk result (LeaveOutGone first b v hooks)) same (on_ok_weaker result (λ told s g x k m i. told s g x k m i.to_settle i.beside) h)

    pub then_stand_on : OnErr result (StandOn inside hooks) → OnErr result (StandOn value hooks)
    then_stand_on h = subst (λ v. OnErr result (StandOn v hooks)) same h

    pub then_renders_on : OnErr result (StandOn inside hooks) → OnErr result ((p : Program) (s : State) (g : Progress) → Renders p s g value → Renders p s g (with_hooks inside hooks))
    then_renders_on h =
        subst (λ v. OnErr result ((p : Program) (s : State) (g : Progress) → Renders p s g v → Renders p s g (with_hooks inside hooks))) same (on_err_weaker result (stands_on inside hooks) h)
