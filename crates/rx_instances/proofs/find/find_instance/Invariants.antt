use Rattle.std.proofs.Common.{◌≡◌, ◌+◌, ℕ, true, Option}
use Rattle.rx_elem.specs.Trees.{Node}
use Rattle.rx_lists.specs.Shapes.{Holds}
use Rattle.rx_fiber.specs.Reading.{IsTreeOf}
use Rattle.rx_ways.specs.Ways.{is_way}
use Rattle.rx_instances.proofs.Walking.{WalksTo}
use Rattle.rx_instances.proofs.find.find_instance.Given as goal

-- the first part and so many further ones were walked, to the fiber of the node to which they lead
abbrev pub invariant-walking : goal.invariant-walking
invariant-walking l = record {
  held : Holds l.tree.current l.id;
  grows : (n : ℕ) → is_way l.fn.sent n ≡ true → is_way l.sent n ≡ true;
  walks : (y : Option Node) → IsTreeOf y l.tree.current → WalksTo l.checked y l.tree.current l.path (l.part-index + 1) l.id l.known l.fn.sent l.sent;
}
