-- Figures that agree field by field.
use Rattle.std.proofs.Common.{◌≡◌}
use Rattle.rx_figures.specs.declared.figures.Figures.{Figures}

pub same_figures : (a b : Figures) → (a.own ≡ b.own) × (a.given ≡ b.given) × (a.levels ≡ b.levels) → (a.unguarded ≡ b.unguarded) × (a.uncaught ≡ b.uncaught) → a.waits ≡ b.waits → a.throws ≡ b.throws → a ≡ b
same_figures a b sizes ways w t = λ i. record { own = sizes.0 i; given = sizes.1 i; levels = sizes.2 i; waits = w i; unguarded = ways.0 i; throws = t i; uncaught = ways.1 i }
