use Rattle.std.proofs.Common.{sym, ap, ◌∙◌}
use Rattle.std.specs.Prelude.{bytes_eq, position}
use Rattle.std.specs.List.{position_from}
use Rattle.std.proofs.lemmas.Iterator.Adapters.{position_from-zero}
use Rattle.rx_base.specs.Values.{Name}
use Rattle.rx_names.proofs.names.Names.position.Goals as goal

pub returns : goal.returns
returns c =
    c.copied.ensures
    ∙ (c.get.ensures.value
    ∙ (c.self.invariant c.args.name.now
    ∙ (sym (position_from-zero {B = Name} (bytes_eq c.args.name.now) c.self.inside.items.items)
    ∙ ap (λ ns. position (bytes_eq c.args.name.now) ns) c.self.view_is)))

pub returns-then-len-le-FEW : goal.returns-then-len-le-FEW
returns-then-len-le-FEW c =
    rw c.as_bytes.ensures.value at c.place_from.ensures
    ∙ (ap (λ ns. position_from (bytes_eq c.args.name.now) 0 ns) c.deref.ensures.value
    ∙ (sym (position_from-zero {B = Name} (bytes_eq c.args.name.now) c.self.inside.items.items)
    ∙ ap (λ ns. position (bytes_eq c.args.name.now) ns) c.self.view_is))
