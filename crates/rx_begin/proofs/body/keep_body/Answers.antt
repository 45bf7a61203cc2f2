use Rattle.rx_children.proofs.Results.{if_ok}
use Rattle.rx_begin.proofs.Kids.{cloned_marked}
use Rattle.rx_begin.proofs.body.keep_body.Goals as goal

pub returns-clause-kids : goal.returns-clause-kids
returns-clause-kids c = if_ok c.keep_node.result _ _ (λ b h. cloned_marked c.args.tree.now c.keep_node.new.tree c.args.at _ c.args.steady b h) c.keep_node.ensures.opened
