use Rattle.std.specs.Prelude.{◌≡◌, slice_get}
use Rattle.std.proofs.Common.{sym, ◌∙◌}
use Rattle.rx_ast.specs.Syntax.{functions}
use Rattle.rx_rules.specs.Names.{function_named}
use Rattle.rx_eval.proofs.Naming.{named_at, named_nowhere}
use Rattle.rx_eval.proofs.values.function_named.Goals as goal

pub returns-in-None : goal.returns-in-None
returns-in-None c = named_nowhere c.args.checked.now c.args.name.now (rw (← c.text.ensures) (sym c.function.ensures ∙ c.in-None.is))

pub returns-in-Some : goal.returns-in-Some
returns-in-Some c =
    let e : function_named c.args.checked.now c.args.name.now ≡ slice_get (functions c.args.checked.now) c.in-Some.number =
    named_at c.args.checked.now c.args.name.now c.in-Some.number (rw (← c.text.ensures) (sym c.function.ensures ∙ c.in-Some.is)) in
    rw e c.function_at.ensures.found
