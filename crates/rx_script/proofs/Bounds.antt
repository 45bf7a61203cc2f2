-- Numbers that are held are in bounds if the numbers are, and are then the numbers.
use Rattle.std.proofs.Common.{◌≡◌, ℕ, ◌<◌, ◌≤◌, ◌^◌, ◌-◌, min, ℤ, pos, negsuc, Bool, true, false, cond, ◌&&◌, nat_le, [], ◌∷◌, refl, arith, rules}
use Rattle.std.specs.Int.{w32, w64}
use Rattle.std.proofs.lemmas.Bool.Decides.{nat_tests}
use Rattle.std.proofs.lemmas.Int.{ints}
use Rattle.rx_base.specs.Values.{wrap}
use Rattle.rx_base.specs.Widths.{fits_width}
use Rattle.rx_ast.specs.Syntax.{Program}
use Rattle.rx_rules.specs.Versions.{instance_limit}
use Rattle.rx_step.specs.Steps.{Path}
use Rattle.rx_script.specs.Lines.{is_integer, path_in_bounds, step_limit}
use Rattle.rx_script.specs.Readings.{held, held_at, held_integer, held_value, held_path}

-- integers of the program

short-held : (x : ℤ) → fits_width w32 (held_integer x) ≡ fits_width w32 x
short-held (pos n) = grind (arith, nat_tests)
short-held (negsuc n) = grind (arith, nat_tests)

long-held : (x : ℤ) → fits_width w64 (held_integer x) ≡ fits_width w64 x
long-held (pos n) = grind (arith, nat_tests)
long-held (negsuc n) = grind (arith, nat_tests)

either-held : (second : Bool) (x : ℤ) → fits_width (cond second w64 w32) (held_integer x) ≡ fits_width (cond second w64 w32) x
either-held true x = long-held x
either-held false x = short-held x

pub fits-held : (p : Program) (x : ℤ) → is_integer p (held_integer x) ≡ is_integer p x
fits-held p x = either-held p.second x

-- 0 is an integer of each program
pub zero-fits : (p : Program) → is_integer p (pos 0) ≡ true
zero-fits p = go p.second
  where
    go : (second : Bool) → fits_width (cond second w64 w32) (pos 0) ≡ true
    go true = refl
    go false = refl

-- an integer of the program is one of 64 bits
wider : (second : Bool) (x : ℤ) → fits_width (cond second w64 w32) x ≡ true → fits_width w64 x ≡ true
wider true x is = is
wider false (pos n) is = grind (arith, nat_tests, is)
wider false (negsuc n) is = grind (arith, nat_tests, is)

-- counts

pub limit-held : (n : ℕ) → nat_le (held n) step_limit ≡ nat_le n step_limit
limit-held n = grind (arith, nat_tests)

pub one-held : (n : ℕ) → nat_le 1 (held n) ≡ nat_le 1 n
one-held n = grind (arith, nat_tests)

-- a limit that is held at itself is kept
below-held : (n limit : ℕ) → limit < 2 ^ 32 → nat_le (held n) limit ≡ nat_le n limit
below-held n limit small = grind (arith, nat_tests)

-- the greatest number of an instance is small
pub places-few : (p : Program) → instance_limit p < 2 ^ 32
places-few p = go p.second
  where
    go : (b : Bool) → cond b 65535 4095 < 2 ^ 32
    go true = omega arith
    go false = omega arith

place-held : (p : Program) (n : ℕ) → nat_le (held n) (instance_limit p) ≡ nat_le n (instance_limit p)
place-held p n = below-held n (instance_limit p) (places-few p)

pub path-held : (p : Program) (path : Path) → path_in_bounds p (held_path path) ≡ path_in_bounds p path
path-held p [] = refl
path-held p ((name, k) ∷ path) = rw (place-held p k, path-held p path) refl

pub held-small : (n m : ℕ) → m ≤ 2 ^ 32 → nat_le n m ≡ true → held n ≡ n
held-small n m small is = grind (arith, nat_tests)

pub both-true : (a b : Bool) → (a && b) ≡ true → (a ≡ true) × (b ≡ true)
both-true true b h = (refl, h)
both-true false b h = cc

pub held-path-small : (p : Program) (path : Path) → path_in_bounds p path ≡ true → held_path path ≡ path
held-path-small p [] is = refl
held-path-small p ((name, k) ∷ path) is =
    let both = both-true (nat_le k (instance_limit p)) (path_in_bounds p path) is in
    rw (held-small k (instance_limit p) (omega (arith, places-few p)) both.0, held-path-small p path both.1) refl

-- integers of 64 bits

wrap-above : (n : ℕ) → n < 2 ^ 63 → wrap w64 (pos n) ≡ pos n
wrap-above n small = search (rules, arith, ints)

wrap-below : (n : ℕ) → n < 2 ^ 63 → wrap w64 (negsuc n) ≡ negsuc n
wrap-below n small = search (rules, arith, ints)

long-same : (x : ℤ) → fits_width w64 x ≡ true → held_value x ≡ x
long-same (pos n) is =
    let small : n < 2 ^ 63 = grind (arith, nat_tests) in
    let same : min n held_at ≡ n = omega arith in
    rw same (wrap-above n small)
long-same (negsuc n) is =
    let small : n < 2 ^ 63 = grind (arith, nat_tests) in
    let same : min n (held_at - 1) ≡ n = omega arith in
    rw same (wrap-below n small)

pub held_value-small : (p : Program) (x : ℤ) → is_integer p x ≡ true → held_value x ≡ x
held_value-small p x is = long-same x (wider p.second x is)
