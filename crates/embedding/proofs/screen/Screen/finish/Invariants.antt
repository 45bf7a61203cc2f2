use Rattle.rx_root.specs.Stands.{StandsForSome}
use Rattle.embedding.proofs.screen.Screen.finish.Given as goal

abbrev pub invariant-loop-turn : goal.invariant-loop-turn
invariant-loop-turn g l = StandsForSome l.self.root
