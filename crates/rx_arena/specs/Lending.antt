-- What becomes of an arena whose caller writes a value.
use Rattle.std.specs.Prelude.{ℕ}
use Rattle.std.specs.Borrow.{Lends, Fml, RattleType, MutBor}
use Rattle.slab.specs.Slab.{Slab}
use Rattle.rx_arena.specs.declared.arena.Node.{Node}
use Rattle.rx_arena.specs.Nodes.{value_written}
use Rattle.rx_arena.specs.contracts.arena.Arena.{the_row}

-- once the borrow ends, the node of the id has the value that was written last, and nothing else changed
abbrev pub lends_value : (F : RattleType) → MutBor (Slab (Node F.Denot)) → ℕ → MutBor F.Denot → Fml
lends_value F s id r = Lends (the_row F) F s r (value_written s.now id)
