use Rattle.std.proofs.Common.{map, take}
use Rattle.rx_queue.specs.History.{Answers}
use Rattle.rx_hooks.specs.Hooks.{HooksStandFor, mounted}
use Rattle.rx_hooks.proofs.hooks.Hooks.mount.Given as goal

abbrev pub invariant-mounting : goal.invariant-mounting
invariant-mounting l = (answers : Answers) → HooksStandFor answers l.hooks.items (map mounted (take l.initial-index l.initials))
