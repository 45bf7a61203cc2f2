use Rattle.std.proofs.Common.{◌≡◌, ◌∙◌, sym, ap, Bool, true, false, nat_eq}
use Rattle.std.specs.Prelude.{◌&&◌}
use Rattle.rx_lane.specs.Lanes.{has, is_empty, lanes_where}
use Rattle.rx_report.proofs.Joins.{listed-empty}
use Rattle.rx_report.proofs.lines.is_quiet.Goals as goal

pub returns-else-is_none : goal.returns-else-is_none
returns-else-is_none c =
    let some : is_empty (lanes_where (has c.args.pending)) ≡ false = listed-empty c.args.pending ∙ sym c.is_none.ensures ∙ c.if-is_none.false in
    c.if-is_none.false ∙ sym (ap (λ (b : Bool). b && nat_eq c.args.hidden 0) some)

pub returns-then-is_none : goal.returns-then-is_none
returns-then-is_none c =
    let none : is_empty (lanes_where (has c.args.pending)) ≡ true = listed-empty c.args.pending ∙ sym c.is_none.ensures ∙ c.if-is_none.true in
    sym (ap (λ (b : Bool). b && nat_eq c.args.hidden 0) none)
