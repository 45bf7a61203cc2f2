-- Steps that render nothing.
use Rattle.rx_ast.specs.Syntax.{Program}
use Rattle.rx_forest.specs.Hosts.{hosts}
use Rattle.rx_lines.specs.Lines.{tree_lines}
use Rattle.rx_model.specs.Accepting.{between_events, dispatched, resolved}
use Rattle.rx_model.specs.Committing.{passive_run}
use Rattle.rx_model.specs.State.{State, state_lines}
use Rattle.rx_model.specs.Stretch.{Stretch, silent, writes}
use Rattle.rx_sched.specs.Deadlines.{later}
use Rattle.rx_step.specs.declared.step.Step.{Step}
use Rattle.rx_step.specs.declared.step.Step.TheVariants as step

-- a step renders nothing
abbrev pub IsSilent : Step → Type 0
IsSilent (step.Dispatch d) = Unit {0}
IsSilent (step.Resolve name x) = Unit {0}
IsSilent (step.Tick n) = Unit {0}
IsSilent (step.Work n) = ⊥
IsSilent step.Flush = ⊥
IsSilent step.FlushSync = ⊥
IsSilent step.Passive = Unit {0}
IsSilent step.Event = Unit {0}
IsSilent step.State = Unit {0}
IsSilent step.Tree = Unit {0}

-- the stretch of a step that renders nothing
abbrev pub step_as : Program → State → Step → Stretch
step_as p s (step.Dispatch d) = dispatched p s d
step_as p s (step.Resolve name x) = resolved p (between_events s) name x
step_as p s (step.Tick n) = silent (record (between_events s) { now = later s.now n })
step_as p s (step.Work n) = silent (between_events s)
step_as p s step.Flush = silent (between_events s)
step_as p s step.FlushSync = silent (between_events s)
step_as p s step.Passive = passive_run (between_events s)
step_as p s step.Event = silent (between_events s)
step_as p s step.State = writes (state_lines p s) (between_events s)
step_as p s step.Tree = writes (tree_lines (hosts s.tree)) (between_events s)
