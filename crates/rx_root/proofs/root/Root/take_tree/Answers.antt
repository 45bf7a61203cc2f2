use Rattle.std.proofs.Common.{refl}
use Rattle.rx_model.specs.Breaking.{BreaksOff}
use Rattle.rx_step.specs.declared.step.Step.TheVariants as step
use Rattle.rx_root.specs.Paying.{Pays}
use Rattle.rx_root.proofs.Broken.{any_err, nothing_taken, room_less}
use Rattle.rx_root.proofs.Taken.{tree_taken}
use Rattle.rx_root.proofs.root.Root.take_tree.Goals as goal

pub returns-clause-ok : goal.returns-clause-ok
returns-clause-ok c s n h =
    tree_taken c.args.self.now.rendering.program s c.end_event.new.self c.args.log.now c.tree.new.log n (c.end_event.ensures.after s h) (c.in_ok-tree.ensures.ok s h)

pub returns-clause-left : goal.returns-clause-left
returns-clause-left c k h = c.end_event.ensures.room k (room_less c.args.self.now k h)

pub returns-in_err-tree-clause-broken : goal.returns-in_err-tree-clause-broken
returns-in_err-tree-clause-broken c =
    any_err c.from_residual.result _
    (λ s n h. nothing_taken (BreaksOff Pays c.args.self.now.rendering.program s step.Tree) c.args.self.now.rendering.program s c.args.self.now c.args.log.now c.tree.new.log n refl h c.in_err-tree.ensures.err)

pub returns-in_err-tree-clause-left : goal.returns-in_err-tree-clause-left
returns-in_err-tree-clause-left c k h = room_less c.args.self.now k h
