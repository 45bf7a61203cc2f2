-- When two sets of resources have one in common.
use Rattle.std.proofs.Common.{◌≡◌, ℕ, ◌<◌, ◌≤◌, Bool, true, false, ◌&&◌, ◌||◌, [], ◌∷◌, nat_eq, nat_lt, refl, sym, ap, ◌∙◌, arith}
use Rattle.std.specs.List.{list_any}
use Rattle.std.proofs.lemmas.Bool.Decides.{nat_tests}
use Rattle.rx_base.specs.Awaits.{Awaits, has}
use Rattle.rx_susp.specs.Boundary.{IsWithinLimit}

-- a resource of both sets is found
pub any_common : (resolved waits : Awaits) (r : ℕ) → has waits r ≡ true → has resolved r ≡ true → list_any (has resolved) waits ≡ true
any_common resolved [] r h k = absurd (cc)
any_common resolved (q ∷ waits) r h k = go (nat_eq q r) refl (any_common resolved waits r) h
  where
    either : (b : Bool) → list_any (has resolved) waits ≡ true → (b || list_any (has resolved) waits) ≡ true
    either true f = refl
    either false f = f

    go : (b : Bool) → nat_eq q r ≡ b → (has waits r ≡ true → has resolved r ≡ true → list_any (has resolved) waits ≡ true) → (b || has waits r) ≡ true → (has resolved q || list_any (has resolved) waits) ≡ true
    go true e next f = let same : q ≡ r = grind (arith, nat_tests) in let here : has resolved q ≡ true = ap (has resolved) same ∙ k in rw here refl
    go false e next f = either (has resolved q) (next f k)

-- sets with no resource in common, up to the limit
pub any-false : (resolved waits : Awaits) → IsWithinLimit resolved → ((r : ℕ) → r < 64 → (has waits r && has resolved r) ≡ false) → list_any (has resolved) waits ≡ false
any-false resolved [] w h = refl
any-false resolved (q ∷ waits) w h = rw (here (nat_lt q 64) refl, any-false resolved waits w later) refl
  where
    self : nat_eq q q ≡ true
    self = grind (arith, nat_tests)

    here : (b : Bool) → nat_lt q 64 ≡ b → has resolved q ≡ false
    here true e = let lt : q < 64 = grind (arith, nat_tests) in sym (ap (λ b. (b || has waits q) && has resolved q) self) ∙ h q lt
    here false e = let le : 64 ≤ q = grind (arith, nat_tests) in w q le

    absent : (r : ℕ) (b : Bool) → has resolved r ≡ false → (b && has resolved r) ≡ false
    absent r true e = e
    absent r false e = refl

    weaker : (r : ℕ) (b : Bool) → ((b || has waits r) && has resolved r) ≡ false → (has waits r && has resolved r) ≡ false
    weaker r false e = e
    weaker r true e = absent r (has waits r) e

    later : (r : ℕ) → r < 64 → (has waits r && has resolved r) ≡ false
    later r lt = weaker r (nat_eq q r) (h r lt)
