-- Whether a root has room for a step, and a step is one for its program.
use Rattle.std.proofs.Common.{◌≡◌, Bool, true, false, ◌&&◌, refl, sym, ◌∙◌}
use Rattle.std.specs.Prelude.{◌↔◌, IsTrue}

-- a test of two parts
pub both_true : (r a b : Bool) → r ≡ (a && b) → IsTrue r ↔ ((a ≡ true) × (b ≡ true))
both_true r true true e = (λ is. (refl, refl), λ both. e)
both_true r true false e = (λ is. absurd (let no : false ≡ true = sym e ∙ is in cc), λ both. absurd (let no : false ≡ true = both.1 in cc))
both_true r false b e = (λ is. absurd (let no : false ≡ true = sym e ∙ is in cc), λ both. absurd (let no : false ≡ true = both.0 in cc))
