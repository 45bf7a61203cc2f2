-- Tests of Booleans and numbers, as proofs read them.
use Rattle.std.specs.Prelude.{◌≡◌, ◌&&◌, ◌||◌, ℕ, Bool, true, false, nat_eq, refl}
use Rattle.std.proofs.Common.{arith}
use Rattle.std.proofs.lemmas.Bool.Decides.{nat_tests}

pub and_passes : (a b : Bool) → (a && b) ≡ true → (a ≡ true) × (b ≡ true)
and_passes true b h = (refl, h)
and_passes false b h = absurd (cc h)

pub both_hold : (a b : Bool) → a ≡ true → b ≡ true → (a && b) ≡ true
both_hold true true h k = refl
both_hold true false h k = k
both_hold false b h k = absurd (cc h)

pub or_fails : (a b : Bool) → (a || b) ≡ false → (a ≡ false) × (b ≡ false)
or_fails true b h = absurd (cc h)
or_fails false b h = (refl, h)

pub or_left : (a b : Bool) → a ≡ true → (a || b) ≡ true
or_left true b h = refl
or_left false b h = absurd (cc h)

pub or_right : (a b : Bool) → b ≡ true → (a || b) ≡ true
or_right true b h = refl
or_right false b h = h

pub same_number : (m n : ℕ) → nat_eq m n ≡ true → m ≡ n
same_number m n h = grind (arith, nat_tests)

pub same_itself : (n : ℕ) → nat_eq n n ≡ true
same_itself n = grind (arith, nat_tests)
