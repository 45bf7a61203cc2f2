use Rattle.std.proofs.Common.{ℕ, ap, sym, ◌∙◌}
use Rattle.rx_step.specs.declared.step.Dispatch.{Dispatch}
use Rattle.rx_queue.specs.declared.update.Op.TheVariants.{Call}
use Rattle.rx_model.specs.Accepting.{op_of}
use Rattle.rx_dispatch.proofs.dispatch.dispatch_op.Goals as goal

pub returns-in-Send : goal.returns-in-Send
returns-in-Send c =
    ap (λ (n : ℕ). Call n c.in-Send.action) c.reducer_number.ensures
    ∙ ap (λ (d : Dispatch). op_of c.args.checked.now c.args.component d) (sym c.in-Send.is)
