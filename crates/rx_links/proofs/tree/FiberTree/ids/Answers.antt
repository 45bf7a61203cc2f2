use Rattle.std.proofs.Common.{refl}
use Rattle.rx_lists.specs.Shapes.{ids}
use Rattle.rx_links.proofs.Counts.{ids-held, member-at}
use Rattle.rx_links.proofs.Computed.{opened, current-read, current-is}
use Rattle.rx_links.proofs.tree.FiberTree.ids.Goals as goal

pub ids_into-requires : goal.ids_into-requires
ids_into-requires g c = current-read _ _ (opened (record { nodes = c.self.inside.nodes; current = c.self.inside.current; draft = c.self.inside.draft }) _ c.self.view_is c.self.invariant)

pub returns-clause-list : goal.returns-clause-list
returns-clause-list g c =
    rw (
      c.in_ok-ids_into.ensures,
      c.new-out.ensures.items,
      current-is (record { nodes = c.self.inside.nodes; current = c.self.inside.current; draft = c.self.inside.draft }) _ (opened _ _ c.self.view_is c.self.invariant),
    ) refl

pub returns-clause-current : goal.returns-clause-current
returns-clause-current g c =
    rw (
      c.in_ok-ids_into.ensures,
      c.new-out.ensures.items,
      current-is (record { nodes = c.self.inside.nodes; current = c.self.inside.current; draft = c.self.inside.draft }) _ (opened _ _ c.self.view_is c.self.invariant),
    ) (λ k d h. ids-held c.args.self.now.current _ (member-at (ids c.args.self.now.current) k d h))
