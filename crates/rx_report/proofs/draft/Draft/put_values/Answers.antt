use Rattle.std.proofs.Common.{◌≡◌, ◌∙◌, ap, ◌++◌, refl, ℤ, append_assoc}
use Rattle.std.specs.Prelude.{codes}
use Rattle.std.specs.Fmt.{signed_decimal}
use Rattle.rx_base.specs.Values.{Text}
use Rattle.rx_report.proofs.PieceLists.{writes-begin, writes-next, writes-end}
use Rattle.rx_report.proofs.draft.Draft.put_values.Goals as goal

pub values-init : goal.values-init
values-init c = record { done = refl; values = writes-begin _ c.args.self.now.begun c.args.values.now }

pub values-preserved : goal.values-preserved
values-preserved c =
    let text : ℤ → Text = λ x. codes " " ++ signed_decimal x in
    let wrote : c.put_int.new.self.begun ≡ c.values.self.begun ++ text c.value-item.result =
    c.in_ok-put_int.ensures.put ∙ ap (λ (t : Text). t ++ signed_decimal c.value-item.result) c.in_ok-put.ensures.put
    ∙ append_assoc c.values.self.begun (codes " ") (signed_decimal c.value-item.result) in
    record {
      done = c.put_int.ensures.done ∙ c.put.ensures.done ∙ c.values.invariant.done;
      values = writes-next text c.args.values.now c.values.value-index c.value-item.result c.values.self.begun c.args.self.now.begun c.put_int.new.self.begun c.values-test.true c.values.invariant.values
          (wrote ∙ ap (λ (x : ℤ). c.values.self.begun ++ text x) c.value-item.is);
    }

pub returns-clause-put : goal.returns-clause-put
returns-clause-put c = writes-end _ c.args.values.now c.values.value-index _ _ c.values-test.false c.values.invariant.values
