use Rattle.std.proofs.Common.{sym, ap, ◌∙◌, subst, arith}
use Rattle.rx_fiber.specs.FiberView.{changed}
use Rattle.rx_fiber.specs.declared.stage.StageChange.TheVariants as change
use Rattle.rx_read.specs.Lacking.{stage_lacks}
use Rattle.rx_read.specs.Numbering.{numbered_fiber, AreHeld}
use Rattle.rx_read.specs.NumbersView.{numbers_seen}
use Rattle.rx_read.proofs.Fibering.{fiber_kept, fiber_instance, fiber_host}
use Rattle.rx_read.proofs.Relisted.{value_kept, value_alike}
use Rattle.rx_read.proofs.numbering.number_fiber.Goals as goal

pub overflow_add-result : goal.overflow_add-result
overflow_add-result c =
    let t = c.args.tree.now in
    let n = numbers_seen c.args.next in
    let v = c.value.result.now in
    let e = c.value.ensures.made c.requires.made in
    let lacks = ap stage_lacks (sym c.stage.ensures) ∙ sym c.lack_of.ensures ∙ c.in-Instance.is in
    let held = subst AreHeld (ap (λ r. r.0) (fiber_instance n v lacks)) (c.requires.room v e) in
    omega (arith, held.instance)

pub overflow_add-result-in-Host : goal.overflow_add-result-in-Host
overflow_add-result-in-Host c =
    let t = c.args.tree.now in
    let n = numbers_seen c.args.next in
    let v = c.value.result.now in
    let e = c.value.ensures.made c.requires.made in
    let lacks = ap stage_lacks (sym c.stage.ensures) ∙ sym c.lack_of.ensures ∙ c.in-Host.is in
    let held = subst AreHeld (ap (λ r. r.0) (fiber_host n v lacks)) (c.requires.room v e) in
    omega (arith, held.host)

pub returns-in-Nothing-clause-value : goal.returns-in-Nothing-clause-value
returns-in-Nothing-clause-value c =
    let t = c.args.tree.now in
    let n = numbers_seen c.args.next in
    let v = c.value.result.now in
    let e = c.value.ensures.made c.requires.made in
    let lacks = ap stage_lacks (sym c.stage.ensures) ∙ sym c.lack_of.ensures ∙ c.in-Nothing.is in
    ap (λ w. record t { draft = w }) (value_kept t c.facts.ensures.fits c.args.id c.requires.made (λ v. (numbered_fiber n v).1) v e (ap (λ r. r.1) (fiber_kept n v lacks)))

pub returns-in-Instance-clause-value : goal.returns-in-Instance-clause-value
returns-in-Instance-clause-value c =
    let t = c.args.tree.now in
    let n = numbers_seen c.args.next in
    let v = c.value.result.now in
    let e = c.value.ensures.made c.requires.made in
    let lacks = ap stage_lacks (sym c.stage.ensures) ∙ sym c.lack_of.ensures ∙ c.in-Instance.is in
    c.mark_made.ensures
    ∙ ap (λ w. record t { draft = w })
    (value_alike t c.facts.ensures.fits c.args.id c.requires.made (changed (change.Number c.args.next.instance)) (λ v. (numbered_fiber n v).1) v e (sym (ap (λ r. r.1) (fiber_instance n v lacks))))

pub returns-in-Host-clause-value : goal.returns-in-Host-clause-value
returns-in-Host-clause-value c =
    let t = c.args.tree.now in
    let n = numbers_seen c.args.next in
    let v = c.value.result.now in
    let e = c.value.ensures.made c.requires.made in
    let lacks = ap stage_lacks (sym c.stage.ensures) ∙ sym c.lack_of.ensures ∙ c.in-Host.is in
    c.mark_made-in-Host.ensures
    ∙ ap (λ w. record t { draft = w })
    (value_alike t c.facts.ensures.fits c.args.id c.requires.made (changed (change.Number c.args.next.host)) (λ v. (numbered_fiber n v).1) v e (sym (ap (λ r. r.1) (fiber_host n v lacks))))
