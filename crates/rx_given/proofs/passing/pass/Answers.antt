use Rattle.std.proofs.Common.{◌≡◌, List, ℕ, drop, ap, ◌∙◌}
use Rattle.rx_given.specs.Lines.{shared}
use Rattle.rx_given.proofs.Fronts.{inside_passed, left_of, other_passed, same_passed}
use Rattle.rx_given.proofs.passing.pass.Goals as goal

pub returns-clause-same : goal.returns-clause-same
returns-clause-same c =
    let report = c.args.report.now in
    let place = c.args.place.now.bytes in
    let is : c.shared-same.result ≡ shared (drop place report) c.args.lines.now = c.shared-same.ensures.value ∙ ap (λ (ys : List ℕ). shared ys c.args.lines.now) (left_of report place) in
    same_passed report c.args.lines.now place c.shared-same.result is

pub returns-clause-other : goal.returns-clause-other
returns-clause-other c =
    let report = c.args.report.now in
    let place = c.args.place.now.bytes in
    let is : c.shared-same.result ≡ shared (drop place report) c.args.lines.now = c.shared-same.ensures.value ∙ ap (λ (ys : List ℕ). shared ys c.args.lines.now) (left_of report place) in
    other_passed report c.args.lines.now place c.shared-same.result is

pub returns-clause-inside : goal.returns-clause-inside
returns-clause-inside c =
    let report = c.args.report.now in
    let place = c.args.place.now.bytes in
    let is : c.shared-same.result ≡ shared (drop place report) c.args.lines.now = c.shared-same.ensures.value ∙ ap (λ (ys : List ℕ). shared ys c.args.lines.now) (left_of report place) in
    inside_passed report c.args.lines.now place c.shared-same.result c.requires.inside is
