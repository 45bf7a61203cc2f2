-- The premises of the law of Sync are met.
use Rattle.std.specs.Prelude.{ℕ, List, [], ◌∷◌, IsTrue, codes, pos}
use Rattle.rx_ast.specs.Syntax.{Program}
use Rattle.rx_step.specs.declared.step.Step.{Step}
use Rattle.rx_step.specs.declared.step.Step.TheVariants as step
use Rattle.rx_step.specs.declared.step.Dispatch.TheVariants as dispatch
use Rattle.rx_step.specs.declared.step.LaneWord.TheVariants as word
use Rattle.rx_lines.specs.Lines.{Line}
use Rattle.rx_model.specs.State.{is_quiet}
use Rattle.rx_model.specs.Turns.{AnyRender}
use Rattle.rx_model.specs.Machine.{Run}
use Rattle.rx_model.specs.Laws.{IsBounded}
use Rattle.replay_laws.specs.Attributes.{AttributesApart}
use Rattle.sync_laws.specs.Sync.{IsSteady, all_in_sync}
use Rattle.machine_examples.specs.Programs.{appending}
use Rattle.machine_examples.specs.Queues.{rebased_script}

-- a program and a script with a run, and with a run in Sync, that are steady and end quiet
pub record MeetsPremises (p : Program) (steps : List Step) : Type 0 where
  pub bounded : IsBounded p
  pub apart : AttributesApart p
  pub lines : List Line
  pub others : List Line
  pub bodies : ℕ
  pub more : ℕ
  pub run : Run AnyRender p steps lines bodies
  pub run_in_sync : Run AnyRender p (all_in_sync steps) others more
  pub steady : IsSteady steps lines
  pub steady_in_sync : IsSteady (all_in_sync steps) others
  pub quiet : IsTrue (is_quiet run.whole.after)
  pub quiet_in_sync : IsTrue (is_quiet run_in_sync.whole.after)

-- the script of the example "later updates are applied again on top of a skipped one" meets the premises of the law of Sync
abbrev pub SyncPremises : Type 0
SyncPremises = MeetsPremises appending rebased_script

-- a script whose every dispatch is in Sync already
abbrev pub all_sync_script : List Step
all_sync_script =
    step.Flush
    ∷ step.Dispatch (dispatch.Call word.Sync ((codes "App", 0) ∷ []) (codes "s") (codes "app") (pos 1))
    ∷ step.Dispatch (dispatch.Call word.Sync ((codes "App", 0) ∷ []) (codes "s") (codes "app") (pos 2))
    ∷ step.Flush
    ∷ step.State
    ∷ []

-- it meets them too: two updates of one commit have a commit each in the other run
abbrev pub AllSyncPremises : Type 0
AllSyncPremises = MeetsPremises appending all_sync_script
