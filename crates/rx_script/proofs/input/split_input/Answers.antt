use Rattle.std.proofs.Common.{arith, rules, length-append, length, ap, ◌∷◌}
use Rattle.rx_script.proofs.Cuts.{behind-line, mark-program, mark-script, last_mark-program, last_mark-script, last-program, last-script}
use Rattle.rx_script.specs.Pieces.{IsCut, IsLast}
use Rattle.rx_script.proofs.input.split_input.Goals as goal

pub returns-then-is_mark-clause-program : goal.returns-then-is_mark-clause-program
returns-then-is_mark-clause-program c =
    let last : IsLast c.lines.rest.now c.first_piece.result.0.now = search rules in
    last_mark-program _ _ _ c.lines.invariant.lines last (search rules)

pub returns-then-is_mark-clause-script : goal.returns-then-is_mark-clause-script
returns-then-is_mark-clause-script c =
    let last : IsLast c.lines.rest.now c.first_piece.result.0.now = search rules in
    last_mark-script _ _ _ c.lines.invariant.lines last (search rules)

pub returns-else-is_mark-clause-program : goal.returns-else-is_mark-clause-program
returns-else-is_mark-clause-program c =
    let last : IsLast c.lines.rest.now c.first_piece.result.0.now = search rules in
    last-program _ _ _ c.lines.invariant.lines last (search rules)

pub returns-else-is_mark-clause-script : goal.returns-else-is_mark-clause-script
returns-else-is_mark-clause-script c =
    let last : IsLast c.lines.rest.now c.first_piece.result.0.now = search rules in
    last-script _ _ _ c.lines.invariant.lines last (search rules)

pub returns-then-is_mark-2-clause-program : goal.returns-then-is_mark-2-clause-program
returns-then-is_mark-2-clause-program c =
    let cut : IsCut c.lines.rest.now c.first_piece.result.0.now c.in-Some.after.now = search rules in
    mark-program _ _ _ _ c.lines.invariant.lines cut (search rules)

pub returns-then-is_mark-2-clause-script : goal.returns-then-is_mark-2-clause-script
returns-then-is_mark-2-clause-script c =
    let cut : IsCut c.lines.rest.now c.first_piece.result.0.now c.in-Some.after.now = search rules in
    mark-script _ _ _ _ c.lines.invariant.lines cut (search rules)

pub lines-preserved : goal.lines-preserved
lines-preserved c =
    let cut : IsCut c.lines.rest.now c.first_piece.result.0.now c.in-Some.after.now = search rules in
    record {
      within = omega (arith, c.lines.invariant.within, ap length cut.whole, length-append c.first_piece.result.0.now (10 ∷ c.in-Some.after.now));
      lines = behind-line _ _ _ _ c.lines.invariant.lines cut (search rules);
    }
