use Rattle.std.proofs.Common.{sym, ap, subst}
use Rattle.rx_elem.specs.Numbers.{Numbers}
use Rattle.rx_root.specs.Rooted.{Rooted}
use Rattle.rx_root.specs.Turning.{GaveUp}
use Rattle.rx_root.specs.contracts.root.Root.{the_view}
use Rattle.rx_root.proofs.root.Root.commit.Goals as goal

pub returns-in-Err-clause-gave_up : goal.returns-in-Err-clause-gave_up
returns-in-Err-clause-gave_up c =
    let v = c.args.self.now in
    subst (λ (n : Numbers). GaveUp v (record (the_view c.self-2.inside) { numbers = n })) (sym (ap (λ (z : Rooted). z.numbers) c.self.view_is))
    (subst (λ (z : Rooted). GaveUp v (record z { numbers = v.numbers })) (sym c.self-2.view_is) c.in-Err.ensures.gave_up)
