use Rattle.std.proofs.Common.{◌≡◌, Some, ◌∙◌}
use Rattle.rx_forest.specs.Forests.{held_of}
use Rattle.rx_host.specs.Kept.{held_as}
use Rattle.rx_report.proofs.draft.Draft.put_host_line.Goals as goal

pub returns-clause-put : goal.returns-clause-put
returns-clause-put c = λ o h held by_name.
    let shown : Some (held_as c.in-Some.view.now) ≡ Some (held_of h) = c.in-Some.ensures ∙ held in
    let same : held_as c.in-Some.view.now ≡ held_of h = cc in
    c.put_view_line.ensures.put o h same by_name
