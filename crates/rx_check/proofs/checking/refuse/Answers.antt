use Rattle.std.proofs.Common.{◌∙◌}
use Rattle.rx_check.proofs.Levels.{few-declared, nodes-known, depth-known}
use Rattle.rx_check.proofs.checking.refuse.Goals as goal

pub refuse_counts-requires-clause-depth : goal.refuse_counts-requires-clause-depth
refuse_counts-requires-clause-depth c =
    λ few. c.held_sum-depth.ensures ∙ depth-known c.args.program.now c.in_ok-ways.ways.root c.in_ok-ways.ensures.root few

pub refuse_sizes-requires-clause-bound : goal.refuse_sizes-requires-clause-bound
refuse_sizes-requires-clause-bound c =
    c.held_sum-nodes.ensures
    ∙ nodes-known c.args.program.now c.in_ok-ways.ways.root c.in_ok-ways.ensures.root (few-declared c.args.program.now c.in_ok-refuse_counts.ensures)

pub returns-clause-nodes : goal.returns-clause-nodes
returns-clause-nodes c =
    c.held_sum-nodes.ensures
    ∙ nodes-known c.args.program.now c.in_ok-ways.ways.root c.in_ok-ways.ensures.root (few-declared c.args.program.now c.in_ok-refuse_counts.ensures)

pub returns-clause-depth : goal.returns-clause-depth
returns-clause-depth c =
    c.held_sum-depth.ensures
    ∙ depth-known c.args.program.now c.in_ok-ways.ways.root c.in_ok-ways.ensures.root (few-declared c.args.program.now c.in_ok-refuse_counts.ensures)
