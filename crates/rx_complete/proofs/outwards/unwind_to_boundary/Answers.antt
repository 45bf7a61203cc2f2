use Rattle.rx_complete.proofs.Nearest.{dropped}
use Rattle.rx_complete.proofs.Waiting.{found_made}
use Rattle.rx_complete.proofs.outwards.unwind_to_boundary.Goals as goal

pub drop_children-requires : goal.drop_children-requires
drop_children-requires c = found_made _ _ _ _ _ _ _ c.place_facts.ensures c.requires c.in_ok-boundary.ensures.left

pub returns-clause-nearest : goal.returns-clause-nearest
returns-clause-nearest c k v o ks rs here =
    let (u, near, same, kids, there) = c.in_ok-boundary.ensures.nearest k v o ks rs here in
    (u, near, same, dropped c.args.tree.now c.drop_children.new.self c.place_facts.ensures c.in_ok-boundary.boundary c.drop_children.ensures u kids there)
