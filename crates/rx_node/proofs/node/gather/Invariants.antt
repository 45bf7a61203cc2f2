use Rattle.std.proofs.Common.{◌≡◌, ◌||◌, ◌&&◌, true, drop}
use Rattle.rx_elem.specs.Trees.{forest}
use Rattle.rx_node.specs.Fixed.{are_fixed}
use Rattle.rx_node.specs.Hides.{hides_in}
use Rattle.rx_node.specs.Mounts.{mounts_in}
use Rattle.rx_node.specs.Texts.{are_texts}
use Rattle.rx_node.proofs.node.gather.Given as goal

-- what the places so far tell, with what those tell that are left, is what all tell
abbrev pub invariant-loop-place : goal.invariant-loop-place
invariant-loop-place l = record {
  hides : l.all.hides || hides_in (forest (drop l.place-index l.nodes)) ≡ hides_in (forest l.nodes);
  mounts : l.all.mounts || mounts_in (forest (drop l.place-index l.nodes)) ≡ mounts_in (forest l.nodes);
  texts : l.all.texts && are_texts (forest (drop l.place-index l.nodes)) ≡ are_texts (forest l.nodes);
  fixed : l.all.fixed && are_fixed l.filled (forest (drop l.place-index l.nodes)) ≡ are_fixed true (forest l.nodes);
}
