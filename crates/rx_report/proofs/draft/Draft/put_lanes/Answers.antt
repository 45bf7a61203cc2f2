use Rattle.std.proofs.Common.{◌≡◌, ◌∙◌, sym, ◌++◌, subst, OnOk}
use Rattle.rx_base.specs.Values.{Text}
use Rattle.rx_lane.specs.Lanes.{Lanes, has, lanes_where}
use Rattle.rx_report.proofs.Joins.{listed-empty, lanes-named, lanes-none}
use Rattle.rx_report.proofs.draft.Draft.put_lanes.Goals as goal

pub returns-then-is_none-clause-put : goal.returns-then-is_none-clause-put
returns-then-is_none-clause-put c =
    let listed : Lanes = lanes_where (has c.args.lanes) in
    subst (λ (t : Text). OnOk c.put.result (c.put.new.self.begun ≡ c.args.self.now.begun ++ t))
    (sym (lanes-none listed (listed-empty c.args.lanes ∙ sym c.is_none.ensures ∙ c.if-is_none.true))) c.put.ensures.put

pub returns-clause-put : goal.returns-clause-put
returns-clause-put c =
    let listed : Lanes = lanes_where (has c.args.lanes) in
    subst (λ (t : Text). OnOk c.put_names.result (c.put_names.new.self.begun ≡ c.args.self.now.begun ++ t))
    (sym (lanes-named listed (listed-empty c.args.lanes ∙ sym c.is_none.ensures ∙ c.if-is_none.false))) c.put_names.ensures.put
