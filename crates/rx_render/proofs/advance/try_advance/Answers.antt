use Rattle.std.proofs.Common.{sym, subst}
use Rattle.rx_hook_store.specs.Store.{kept_hooks}
use Rattle.rx_ways.specs.Ways.{is_way}
use Rattle.rx_render.specs.Advancing.{IsReadyAt, Advances}
use Rattle.rx_render.specs.Gathers.{IsGathering}
use Rattle.rx_render.proofs.Advancing.{end_advances}
use Rattle.rx_render.proofs.advance.try_advance.Goals as goal

pub complete_node-requires : goal.complete_node-requires
complete_node-requires g c = subst (IsReadyAt c.args.scene.now (kept_hooks c.args.hooks.now) c.args.tree.now c.args.contexts.now) c.in-Completes.is c.requires

pub returns-in-Completes-clause-comes : goal.returns-in-Completes-clause-comes
returns-in-Completes-clause-comes g c s sees =
    subst (λ a. Advances s (is_way c.args.scene.now.ways.now) (kept_hooks c.args.hooks.now) c.args.tree.now c.args.contexts.now a 0 c.complete_node.new.tree c.complete_node.new.contexts c.complete_node.result) (sym c.in-Completes.is)
    (end_advances s (is_way c.args.scene.now.ways.now) (kept_hooks c.args.hooks.now) c.args.tree.now c.args.contexts.now c.complete_node.new.tree c.complete_node.new.contexts c.in-Completes.id c.complete_node.result
    (c.complete_node.ensures.comes s) c.complete_node.ensures.flags)

pub returns-in-Completes-clause-gathered : goal.returns-in-Completes-clause-gathered
returns-in-Completes-clause-gathered g c current h = c.complete_node.ensures.gathered (subst (IsGathering c.args.tree.now) c.in-Completes.is h)
