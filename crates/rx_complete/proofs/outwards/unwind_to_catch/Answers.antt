use Rattle.std.specs.Prelude.{pos}
use Rattle.rx_complete.proofs.Nearest.{dropped}
use Rattle.rx_complete.proofs.Throwing.{caught_bare, found_made}
use Rattle.rx_complete.proofs.outwards.unwind_to_catch.Goals as goal

pub drop_children-requires : goal.drop_children-requires
drop_children-requires c = found_made _ _ _ _ _ (pos 0) c.place_facts.ensures c.requires.below (c.find_catch-boundary.ensures.caught (pos 0))

pub returns-clause-nearest : goal.returns-clause-nearest
returns-clause-nearest c k v o ks rs here =
    let (u, near, same, kids, there) = c.find_catch-boundary.ensures.nearest k v o ks rs here in
    (u, near, same, dropped c.args.tree.now c.drop_children.new.self c.place_facts.ensures c.find_catch-boundary.result c.drop_children.ensures u kids there)

pub returns-clause-caught : goal.returns-clause-caught
returns-clause-caught c x levels fs w =
    let (kids, l) = c.find_catch-boundary.ensures.caught x levels fs w in
    caught_bare c.args.tree.now c.drop_children.new.self _ _ kids x _ c.place_facts.ensures c.drop_children.ensures l
