use Rattle.std.proofs.Common.{◌≡◌, ◌∙◌, ℕ, false, IfSome, Option, Some, None, is_some, slice_get, refl, sym}
use Rattle.rx_set.proofs.Holding.{holds_at}
use Rattle.rx_set.specs.Sets.{holds}
use Rattle.rx_set.proofs.set.NumberSet.has.Goals as goal

pub returns : goal.returns
returns c = c.is_some.ensures ∙ go c.find.result c.find.ensures.some c.find.ensures.none
  where
    go : (o : Option ℕ) → IfSome o (λ i. slice_get c.args.self.now i ≡ Some c.args.number) → (o ≡ None → holds c.args.self.now c.args.number ≡ false)
        → is_some o ≡ holds c.args.self.now c.args.number
    go None some none = sym (none refl)
    go (Some i) some none = sym (holds_at c.args.self.now i c.args.number some)
