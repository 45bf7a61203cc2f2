use Rattle.std.proofs.Common.{◌≡◌, refl}
use Rattle.rx_print.specs.Printing.{program_tokens}
use Rattle.rx_print.proofs.Prefixes.{begins_program}
use Rattle.rx_print.proofs.tokens.Goals as goal

pub returns-clause-begun : goal.returns-clause-begun
returns-clause-begun c =
    let written : c.into_kinds.result.items ≡ program_tokens c.args.program.now =
    rw (c.into_kinds.ensures, c.in_ok-declarations.ensures, c.in_ok-version.ensures, c.new-printer.ensures, c.is_second.ensures, c.declarations.ensures) refl
    in begins_program c.args.program.now c.into_kinds.result.items written
