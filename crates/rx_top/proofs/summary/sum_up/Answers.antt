use Rattle.std.proofs.Common.{arith, ◌∙◌, ap, sym, subst}
use Rattle.std.proofs.lemmas.Result.{IfOk-weaker}
use Rattle.rx_model.specs.Stretch.{Stretch}
use Rattle.rx_root.specs.Stands.{Stands}
use Rattle.rx_top.specs.Outcome.{plain}
use Rattle.rx_top.proofs.Stretches.{logged}
use Rattle.rx_top.proofs.Summed.{summed}
use Rattle.rx_top.proofs.summary.sum_up.Goals as goal

pub returns-clause-ok : goal.returns-clause-ok
returns-clause-ok g c = IfOk-weaker c.summary.result _ _ (λ line is. λ s stands.
    let t = c.in_ok-step.ensures.ok s stands in
    let bytes = logged plain c.args.log.now c.cut.new.self c.step.new.log c.bytes.result.now t.stretch.lines c.cut.ensures t.done.written c.requires.options c.bytes.ensures in
    let nodes = c.nodes.ensures t.stretch.after (subst (λ q. Stands q t.stretch.after c.step.new.self) (sym c.step.ensures.program) t.done.stands) in
    is ∙ summed c.args.rounds c.args.root.now.rendering.program s t.stretch c.step.new.self c.updates.result c.commits.result c.nodes.result c.behind_head-tree.result.now c.bytes.result.now
    t.asked t.done.stands c.updates.ensures c.commits.ensures nodes c.behind_head-tree.ensures bytes) c.summary.ensures

pub returns-clause-steps : goal.returns-clause-steps
returns-clause-steps g c =
    let t = c.in_ok-step.ensures.ok c.requires.stands.0 c.requires.stands.1 in omega (arith, t.bodies, ap (λ (q : Stretch). q.bodies) t.asked)

pub returns-in_err-step-clause-steps : goal.returns-in_err-step-clause-steps
returns-in_err-step-clause-steps g c =
    let t = c.in_err-step.ensures.broken c.requires.stands.0 c.requires.stands.1 in omega (arith, t.bodies, ap (λ (q : Stretch). q.bodies) t.asked)
