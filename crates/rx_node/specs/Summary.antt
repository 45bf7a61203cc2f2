-- What a node knows of all below it.
use Rattle.std.specs.Prelude.{◌≡◌}
use Rattle.rx_elem.specs.Trees.{children_of}
use Rattle.rx_node.specs.Fixed.{is_fixed}
use Rattle.rx_node.specs.Hides.{hides_within}
use Rattle.rx_node.specs.Mounts.{mounts_within}
use Rattle.rx_node.specs.NodeView.{node_seen}
use Rattle.rx_node.specs.Texts.{are_texts, is_text}
use Rattle.rx_node.specs.declared.node.Parts.{Parts}

-- it knows whether a boundary is hidden, whether there is an instance, whether a commit leaves all as it is, and where there are texts alone
pub record KnowsAll (p : Parts) : Type 0 where
  pub hides : p.hides ≡ hides_within (node_seen p)
  pub mounts : p.mounts ≡ mounts_within (node_seen p)
  pub fixed : p.fixed ≡ is_fixed (node_seen p)
  pub text : p.text ≡ is_text (node_seen p)
  pub texts : p.texts ≡ are_texts (children_of (node_seen p))
