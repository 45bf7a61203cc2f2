use Rattle.std.proofs.Common.{ap, refl}
use Rattle.rx_meaning.specs.Fresh.{shape_of_body}
use Rattle.rx_eval.specs.Given.{body_seen}
use Rattle.rx_begin.specs.Bodies.{throws, waits}
use Rattle.rx_begin.proofs.Bodies.{opened_anew}
use Rattle.rx_fiber.specs.Fibers.{as_matched}
use Rattle.rx_children.proofs.Results.{if_ok}
use Rattle.rx_begin.proofs.Kids.{matched_marked, opened_waits_not, opened_no_body, opened_no_throw}
use Rattle.rx_begin.proofs.body.open_body.Goals as goal

pub returns-in-Wait-clause-opened : goal.returns-in-Wait-clause-opened
returns-in-Wait-clause-opened c cs node again same = waits c.in-Wait.resource _ (ap (λ b. shape_of_body cs c.args.component node (body_seen b)) c.in-Wait.is) refl refl

pub returns-in-Throw-clause-opened : goal.returns-in-Throw-clause-opened
returns-in-Throw-clause-opened c cs node again same = throws c.in-Throw.value (ap (λ b. shape_of_body cs c.args.component node (body_seen b)) c.in-Throw.is) refl refl

pub returns-in_ok-instance-in-Ready-clause-anew : goal.returns-in_ok-instance-in-Ready-clause-anew
returns-in_ok-instance-in-Ready-clause-anew c = if_ok c.open_node.result _ _ (λ b h. opened_anew _ _ _ _ _ _ _ b h) c.open_node.ensures.opened

pub returns-in_ok-instance-in-Ready-clause-own : goal.returns-in_ok-instance-in-Ready-clause-own
returns-in_ok-instance-in-Ready-clause-own c =
    if_ok c.open_node.result _ _ (λ b h. opened_waits_not (as_matched c.args.steady c.args.generation) c.args.tree.now c.open_node.new.tree c.args.at b (matched_marked c.args.tree.now c.open_node.new.tree c.args.at _ _ c.args.steady c.args.generation b h))
    c.open_node.ensures.opened

pub returns-in_ok-instance-in-Ready-clause-kids : goal.returns-in_ok-instance-in-Ready-clause-kids
returns-in_ok-instance-in-Ready-clause-kids c =
    if_ok c.open_node.result _ _ (λ b h is. matched_marked c.args.tree.now c.open_node.new.tree c.args.at _ _ c.args.steady c.args.generation b h) c.open_node.ensures.opened

pub returns-in_ok-instance-in-Ready-clause-waits : goal.returns-in_ok-instance-in-Ready-clause-waits
returns-in_ok-instance-in-Ready-clause-waits c =
    if_ok c.open_node.result _ _
    (λ b h r is.
    absurd (opened_no_body (as_matched c.args.steady c.args.generation) c.args.tree.now c.open_node.new.tree c.args.at b (matched_marked c.args.tree.now c.open_node.new.tree c.args.at _ _ c.args.steady c.args.generation b h) r is))
    c.open_node.ensures.opened

pub returns-in_ok-instance-in-Ready-clause-throws : goal.returns-in_ok-instance-in-Ready-clause-throws
returns-in_ok-instance-in-Ready-clause-throws c =
    if_ok c.open_node.result _ _
    (λ b h x is.
    absurd (opened_no_throw (as_matched c.args.steady c.args.generation) c.args.tree.now c.open_node.new.tree c.args.at b (matched_marked c.args.tree.now c.open_node.new.tree c.args.at _ _ c.args.steady c.args.generation b h) x is))
    c.open_node.ensures.opened
