use Rattle.std.proofs.Common.{rules, ◌≡◌, ◌++◌, ◌∙◌}
use Rattle.std.specs.Prelude.{is_ok, if◌then◌else◌}
use Rattle.rx_page.proofs.Nesting.{attribute-put}
use Rattle.rx_page.proofs.attributes.Attributes.put.Goals as goal

pub returns-clause-are : goal.returns-clause-are
returns-clause-are c =
    let is : c.extend_from_slice.new.self.items ≡ (if is_ok c.extend_from_slice.result then c.args.self.now ++ c.deref.result.now else c.args.self.now) = search rules in
    attribute-put c.extend_from_slice.result _ _ c.deref.result.now c.args.name c.args.value.now is (c.deref.ensures.value ∙ c.in_ok-attribute.ensures)
