use Rattle.std.proofs.Common.{rules, ◌≡◌, ◌++◌, ◌∙◌}
use Rattle.std.specs.Prelude.{is_ok, if◌then◌else◌}
use Rattle.rx_page.proofs.Nesting.{meta-put}
use Rattle.rx_page.proofs.html.Html.put_meta.Goals as goal

pub returns-clause-nested : goal.returns-clause-nested
returns-clause-nested c =
    let is : c.extend_from_slice.new.self.items ≡ (if is_ok c.extend_from_slice.result then c.args.self.now ++ c.deref.result.now else c.args.self.now) = search rules in
    meta-put c.extend_from_slice.result _ _ c.deref.result.now c.args.attributes.now is (c.deref.ensures.value ∙ c.in_ok-meta.ensures)
