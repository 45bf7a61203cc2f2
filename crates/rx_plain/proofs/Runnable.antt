-- A program that was checked can be run.
use Rattle.rx_ast.specs.Syntax.{Program}
use Rattle.rx_check.specs.Runnable.{IsRunnable}
use Rattle.rx_model.specs.Laws.{IsBounded}

pub runnable_bounded : (p : Program) → IsRunnable p → IsBounded p
runnable_bounded p h = record { rooted = h.rooted; ready = h.ready; caught = h.caught; shallow = h.shallow; small = h.small; apart = h.keys_apart; declared = h.reads_declared }
