-- What a node has beside its element and its children, as plain data.
use Rattle.rx_elem.specs.Trees as trees
use Rattle.rx_elem.specs.Trees.{of_instance, of_host, of_boundary, of_catcher, plain}
use Rattle.rx_node.specs.declared.mark.Instance.{Instance}
use Rattle.rx_node.specs.declared.mark.Mark.{Mark}
use Rattle.rx_node.specs.declared.mark.Mark.TheVariants as mark

-- an instance
abbrev pub instance_seen : Instance → trees.Instance
instance_seen i =
    record {
      number = i.number;
      component = i.parts.value.component;
      initials = i.parts.value.initials.value;
      reads = i.parts.value.reads.value.items;
      versions = i.parts.value.versions.value.items;
      effects = i.parts.value.effects.value.items;
    }

-- what a node has beside its element and its children
abbrev pub mark_seen : Mark → trees.Mark
mark_seen (mark.Instance i) = of_instance (instance_seen i)
mark_seen (mark.Host n) = of_host n
mark_seen (mark.Boundary b) = of_boundary b
mark_seen (mark.Catch c) = of_catcher c
mark_seen mark.Plain = plain
