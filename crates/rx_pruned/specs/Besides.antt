-- A finished tree beside the committed one, as the code holds it.
use Rattle.std.specs.Prelude.{Option}
use Rattle.rx_elem.specs.Trees.{Node}
use Rattle.rx_pruned.specs.declared.beside.Beside.{Beside}
use Rattle.rx_pruned.specs.Pruned.{ArePruned}

-- it is what is left of this committed tree and this finished one
abbrev pub IsBeside : Option Node → Node → Beside → Type 0
IsBeside old new b = ArePruned old new b.pruned_old b.pruned_new
