use Rattle.std.proofs.Common.{◌≡◌, ◌∙◌, List, [], ◌∷◌, Option, Some, None, length, nat_eq, refl}
use Rattle.std.proofs.Math.Dec.{eqb-suc-zero}
use Rattle.rx_elem.specs.Trees.{Node, forest}
use Rattle.rx_node.specs.Texts.{is_bare}
use Rattle.rx_node.proofs.node.is_bare.Goals as goal

bare : (ns : List (Option Node)) → nat_eq (length ns) 0 ≡ is_bare (forest ns)
bare [] = refl
bare (None ∷ ns) = eqb-suc-zero (length ns)
bare (Some n ∷ ns) = eqb-suc-zero (length ns)

pub returns : goal.returns
returns c = c.is_empty.ensures ∙ bare c.args.nodes.now
