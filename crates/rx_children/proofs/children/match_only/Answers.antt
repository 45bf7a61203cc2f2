use Rattle.std.proofs.Common.{◌∙◌}
use Rattle.rx_keys.proofs.Matches.{then_some-cond}
use Rattle.rx_children.proofs.Only.{only_match}
use Rattle.rx_children.proofs.children.match_only.Goals as goal

pub returns : goal.returns
returns c =
    only_match c.args.tree.now.current c.facts.ensures.linked c.args.first_old c.in_ok-id.id c.in_ok-id.was c.requires.held c.requires.alone c.value.result.now c.value.ensures.current c.element.result.now c.args.element.now
    c.element.ensures c.is_same_only-is_same.result c.is_same_only-is_same.ensures c.then_some.result (c.then_some.ensures ∙ then_some-cond c.is_same_only-is_same.result c.in_ok-id.id)
