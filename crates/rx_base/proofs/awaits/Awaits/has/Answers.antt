use Rattle.std.proofs.Common.{◌≡◌, ◌≤◌, ◌∙◌, ap, sym, arith, ℕ, false, nat_lt}
use Rattle.std.proofs.lemmas.Bool.Decides.{nat_tests}
use Rattle.rx_base.specs.Awaits.{has}
use Rattle.rx_base.specs.AwaitsLaws.{has_by_shift, has_above}
use Rattle.rx_base.proofs.awaits.Awaits.has.Goals as goal

not_below : (n : ℕ) → 64 ≤ n → nat_lt n 64 ≡ false
not_below n h = grind (arith, nat_tests)

pub returns-then-resource-lt64 : goal.returns-then-resource-lt64
returns-then-resource-lt64 c =
    has_by_shift c.self.inside.bits c.args.resource c.if-resource-lt64.true
    ∙ ap (λ s. has s c.args.resource) c.self.view_is

pub returns-else-resource-lt64 : goal.returns-else-resource-lt64
returns-else-resource-lt64 c =
    not_below c.args.resource c.if-resource-lt64.false
    ∙ sym (has_above c.self.inside.bits c.args.resource c.if-resource-lt64.false)
    ∙ ap (λ s. has s c.args.resource) c.self.view_is
