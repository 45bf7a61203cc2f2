use Rattle.std.proofs.Common.{ap, ◌∙◌}
use Rattle.std.specs.Prelude.{is_some, bytes_eq}
use Rattle.rx_rules.specs.Names.{has_name}
use Rattle.rx_names.proofs.Texts.{texts}
use Rattle.rx_names.proofs.Places.{some-from}
use Rattle.rx_names.proofs.borrowed.BorrowedNames.contains.Goals as goal

pub returns : goal.returns
returns c =
    c.contains_key.ensures
    ∙ (ap is_some (c.self.invariant c.args.name.now)
    ∙ (some-from (bytes_eq c.args.name.now) 0 (texts c.self.inside.items.items) ∙ ap (λ ns. has_name ns c.args.name.now) c.self.view_is))
