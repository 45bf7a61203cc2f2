use Rattle.std.proofs.Common.{rules, ◌≡◌, ◌++◌}
use Rattle.std.specs.Prelude.{is_ok, if◌then◌else◌}
use Rattle.rx_page.proofs.Nesting.{piece-put}
use Rattle.rx_page.proofs.html.Html.put.Goals as goal

pub returns-clause-nested : goal.returns-clause-nested
returns-clause-nested c =
    let is : c.extend_from_slice.new.self.items ≡ (if is_ok c.extend_from_slice.result then c.args.self.now ++ c.args.more.now else c.args.self.now) = search rules in
    piece-put c.extend_from_slice.result _ _ c.args.more.now is
