use Rattle.std.proofs.Common.{◌≡◌, ◌∙◌, ap, subst}
use Rattle.std.specs.Prelude.{◌↔◌, IsTrue}
use Rattle.rx_ast.specs.Syntax.{Program}
use Rattle.rx_script.specs.Lines.{has_targets, in_bounds}
use Rattle.rx_step.specs.declared.step.Step.TheVariants as step
use Rattle.rx_root.specs.Rooted.{Rooted}
use Rattle.rx_kept.specs.Taking.{CanTake}
use Rattle.rx_root.proofs.Fitting.{both_true}
use Rattle.rx_root.proofs.root.Root.can_dispatch.Goals as goal

pub returns : goal.returns
returns c =
    let program : c.checked.result.now ≡ c.args.self.now.rendering.program = c.checked.ensures ∙ ap (λ (v : Rooted). v.rendering.program) c.self.view_is in
    subst (λ (q : Program). IsTrue c.dispatch_fits.result ↔ CanTake q (step.Dispatch c.args.dispatch.now)) program
    (both_true c.dispatch_fits.result (has_targets c.checked.result.now (step.Dispatch c.args.dispatch.now)) (in_bounds c.checked.result.now (step.Dispatch c.args.dispatch.now)) c.dispatch_fits.ensures)
