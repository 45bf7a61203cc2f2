use Rattle.std.proofs.Common.{◌-◌, refl, arith}
use Rattle.rx_children.proofs.Making.{none_yet, place_open, place_top, place_unused, place_more}
use Rattle.rx_children.proofs.children.make_all.Goals as goal

pub making-init : goal.making-init
making-init c = record { within = omega arith; made = none_yet c.args.origin c.args.tree.now c.args.at _ c.args.elements.now c.args.olds.now refl c.requires.same }

pub make_one-requires-clause-open : goal.make_one-requires-clause-open
make_one-requires-clause-open c =
    place_open c.args.origin c.args.tree.now c.making.tree c.args.at c.making.place (c.making.place - 1) c.args.elements.now c.args.olds.now c.requires.room c.making.invariant.made c.place_facts.ensures
    (omega arith) (let e = c.requires.same in let l = c.making.invariant.within in omega arith)

pub make_one-requires-clause-old_child : goal.make_one-requires-clause-old_child
make_one-requires-clause-old_child c =
    place_top c.args.origin c.args.tree.now c.making.tree c.args.at c.making.place (c.making.place - 1) c.args.elements.now c.args.olds.now c.requires.room c.making.invariant.made c.place_facts.ensures
    (omega arith) (let e = c.requires.same in let l = c.making.invariant.within in omega arith) c.index-olds-place.result c.index-olds-place.is

pub make_one-requires-clause-unused : goal.make_one-requires-clause-unused
make_one-requires-clause-unused c =
    place_unused c.args.origin c.args.tree.now c.making.tree c.args.at c.making.place (c.making.place - 1) c.args.elements.now c.args.olds.now c.requires.room c.making.invariant.made c.place_facts.ensures
    (omega arith) (let e = c.requires.same in let l = c.making.invariant.within in omega arith) c.index-olds-place.result c.index-olds-place.is

pub making-preserved : goal.making-preserved
making-preserved c = record {
  within = (let l = c.making.invariant.within in omega arith);
  made =
      place_more c.args.origin c.args.tree.now c.making.tree c.args.at c.making.place (c.making.place - 1) c.args.elements.now c.args.olds.now c.requires.room c.making.invariant.made c.place_facts.ensures
      (omega arith) (let e = c.requires.same in let l = c.making.invariant.within in omega arith) (let l = c.making.invariant.within in omega arith)
      c.index-elements-place.result c.index-elements-place.is c.index-olds-place.result c.index-olds-place.is c.make_one.new.tree c.in_ok-make_one.ensures.added;
}
