use Rattle.std.proofs.Common.{ap, ◌∙◌}
use Rattle.rx_base.specs.Values.{Name}
use Rattle.rx_names.specs.Listed.{function_names}
use Rattle.rx_check.specs.Tables.{hook_named}
use Rattle.rx_dispatch.specs.Kinds.{function_in}
use Rattle.rx_dispatch.proofs.Named.{function-named}
use Rattle.rx_dispatch.proofs.dispatch.reducer_number.Goals as goal

pub returns : goal.returns
returns c =
    let p = c.args.checked.now in
    let found = c.hook.ensures ∙ ap (λ (n : Name). hook_named p c.args.component n) c.text.ensures in
    c.function_in.ensures ∙ ap (function_in (function_names p)) found ∙ function-named p c.args.component c.args.name.now
