use Rattle.std.proofs.Common.{sym, ◌∙◌}
use Rattle.commit_laws.proofs.SameElements.{elements_tell}
use Rattle.rx_children.proofs.Nodes.{bare_made}
use Rattle.rx_children.proofs.Origins.{equal_is, equal_same, is_equal, no_element}
use Rattle.rx_children.proofs.origin.is_equal.Goals as goal

pub returns-in-Some-clause-same : goal.returns-in-Some-clause-same
returns-in-Some-clause-same c same =
    equal_is c.args.tree.now c.args.at c.place_facts.ensures c.requires c.alternate.result c.in-Some.old (c.alternate.ensures.made (bare_made c.args.tree.now c.args.at c.place_facts.ensures c.requires)) c.in-Some.is
    c.value.result.now c.args.element.now c.value.ensures.current
    (elements_tell c.args.element.now c.element.result.now (sym c.same.ensures ∙ same) ∙ c.element.ensures)

pub returns-in-Some-clause-all : goal.returns-in-Some-clause-all
returns-in-Some-clause-all c element =
    c.same.ensures
    ∙ equal_same c.args.element.now c.element.result.now
    (is_equal c.args.tree.now c.args.at c.place_facts.ensures c.requires c.alternate.result c.in-Some.old (c.alternate.ensures.made (bare_made c.args.tree.now c.args.at c.place_facts.ensures c.requires)) c.in-Some.is
    c.value.result.now c.args.element.now c.value.ensures.current element
    ∙ sym c.element.ensures)

pub returns-in-None-clause-all : goal.returns-in-None-clause-all
returns-in-None-clause-all c element =
    absurd (no_element c.args.tree.now c.args.at c.alternate.result c.args.element.now (c.alternate.ensures.made (bare_made c.args.tree.now c.args.at c.place_facts.ensures c.requires)) c.in-None.is element)
