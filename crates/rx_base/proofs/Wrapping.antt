-- Integers that wrap, also to fewer bits.
use Rattle.std.proofs.Common.{◌≡◌, ℕ, zero, suc, ◌+◌, ◌-◌, ◌*◌, ◌/◌, ◌%◌, ◌^◌, ◌<◌, ◌≤◌, ℤ, pos, negsuc, ◌+ℤ◌, ◌-ℤ◌, ◌*ℤ◌, refl, sym, ap, ◌∙◌, arith, lit<}
use Rattle.std.specs.Prelude.{neg_ℤ, int_div, unsigned_abs, FitsSigned}
use Rattle.std.specs.Int.{w32, w64, cast_signed, cast_unsigned, int_wrap, int_wrapping_add, int_wrapping_sub, int_wrapping_mul, int_wrapping_div, int_wrapping_neg}
use Rattle.std.specs.Int as int
use Rattle.std.proofs.lemmas.Int.{of_z-to_z, int_rem_euclid_is, int_wrap_fits, SFits-int_wrap, wrapping_add_is, wrapping_sub_is, wrapping_mul_is, wrapping_neg_is}
use native.Mathlib.Nat.{div-add-mod', mod-eq_of_lt, mod-lt, mul-le-mul_left, div-le_self}
use lib.Pow.{pow_pos}
use borrow.Author.Differences.{up, down, same_in, same_out, sum_is_lem, read_fits}
use mir.Val.{bits}
use Rattle.rx_base.specs.declared.width.Width.{Width}
use Rattle.rx_base.specs.declared.width.Width.TheVariants.{W32, W64}
use Rattle.rx_base.specs.Values.{wrap}
use Rattle.rx_base.specs.Widths.{width_of}

-- numbers that differ by a multiple of two to the width are one
same_wrap : (w : int.Width) (a b : ℤ) (j k : ℕ) → a +ℤ pos (j * 2 ^ bits w) ≡ b +ℤ pos (k * 2 ^ bits w) → wrap w a ≡ wrap w b
same_wrap w a b j k e =
    let m = 2 ^ bits w in
    let some = pow_pos (bits w) in
    let t = down a + down b in
    let far : t * 1 ≤ t * m = mul-le-mul_left t some in
    let n = up a + (j + t) * m - down a in
    let from : (z : ℤ) (i : ℕ) → z +ℤ pos ((i + t) * m) ≡ pos n → wrap w z ≡ cast_signed w (n % m) = λ z i h. ap (λ r. cast_signed w (unsigned_abs r)) (int_rem_euclid_is z (pos m) m (i + t) n some refl h) in
    from a j (omega (arith, same_in, same_out, sum_is_lem)) ∙ sym (from b k (omega (arith, same_in, same_out, sum_is_lem)))

-- how far below a number its signed reading is
read : (n : ℕ) → n < 2 ^ 64 → (j : ℕ) × (cast_signed w64 n +ℤ pos (j * 2 ^ 64) ≡ pos n)
read n h = by_sign (cast_signed w64 n) (of_z-to_z w64 n h) (read_fits w64 n).1
  where
    by_sign : (z : ℤ) → cast_unsigned w64 z ≡ n → down z ≤ up z + 2 ^ 63 → (j : ℕ) × (z +ℤ pos (j * 2 ^ 64) ≡ pos n)
    by_sign (pos m) e f = (0, omega (arith, same_in, sum_is_lem))
    by_sign (negsuc m) e f = (1, omega (arith, same_in, sum_is_lem))

-- what is left of a number differs from it by a multiple of two to the width
left : (z : ℤ) → (j : ℕ) × (k : ℕ) × (wrap w64 z +ℤ pos (j * 2 ^ 64) ≡ z +ℤ pos (k * 2 ^ 64))
left (pos a) =
    let m = 2 ^ 64 in
    let r = read (a % m) (mod-lt a (lit< tt)) in
    (r.0 + a / m, 0, omega (arith, same_in, same_out, sum_is_lem, r.1, div-add-mod' a m))
left (negsuc a) =
    let m = 2 ^ 64 in
    let small = mod-lt a {m = m} (lit< tt) in
    let r = read (m - 1 - a % m) (omega arith) in
    (r.0, a / m + 1, omega (arith, same_in, same_out, sum_is_lem, r.1, div-add-mod' a m))

wrap_same : (w : int.Width) (z : ℤ) → wrap w z ≡ int_wrap w z
unfolding int_wrap
wrap_same w z = refl

-- what is left in 64 bits leaves the same
pub wrap_twice : (width : Width) (z : ℤ) → wrap (width_of width) (wrap w64 z) ≡ wrap (width_of width) z
wrap_twice W32 z =
    let l = left z in
    same_wrap w32 (wrap w64 z) z (l.0 * 2 ^ 32) (l.1 * 2 ^ 32) (omega (arith, same_in, same_out, sum_is_lem, l.2))
wrap_twice W64 z =
    wrap_same w64 (wrap w64 z) ∙ ap (int_wrap w64) (wrap_same w64 z) ∙ int_wrap_fits w64 (int_wrap w64 z) (SFits-int_wrap w64 z) ∙ sym (wrap_same w64 z)

-- what the methods of 64 bits give
module _ (width : Width) (a b : ℤ) (f : FitsSigned w64 a) (g : FitsSigned w64 b) where
  pub add_wraps : wrap (width_of width) (int_wrapping_add w64 a b) ≡ wrap (width_of width) (a +ℤ b)
  add_wraps = ap (wrap (width_of width)) (wrapping_add_is w64 a b f g ∙ sym (wrap_same w64 (a +ℤ b))) ∙ wrap_twice width (a +ℤ b)

  pub sub_wraps : wrap (width_of width) (int_wrapping_sub w64 a b) ≡ wrap (width_of width) (a -ℤ b)
  sub_wraps = ap (wrap (width_of width)) (wrapping_sub_is w64 a b f g ∙ sym (wrap_same w64 (a -ℤ b))) ∙ wrap_twice width (a -ℤ b)

  pub mul_wraps : wrap (width_of width) (int_wrapping_mul w64 a b) ≡ wrap (width_of width) (a *ℤ b)
  mul_wraps = ap (wrap (width_of width)) (wrapping_mul_is w64 a b f g ∙ sym (wrap_same w64 (a *ℤ b))) ∙ wrap_twice width (a *ℤ b)

pub neg_wraps : (width : Width) (a : ℤ) → FitsSigned w64 a → wrap (width_of width) (int_wrapping_neg w64 a) ≡ wrap (width_of width) (neg_ℤ a)
neg_wraps width a f = ap (wrap (width_of width)) (wrapping_neg_is w64 a f ∙ sym (wrap_same w64 (neg_ℤ a))) ∙ wrap_twice width (neg_ℤ a)

abs_neg : (n : ℕ) → unsigned_abs (neg_ℤ (pos n)) ≡ n
abs_neg zero = refl
abs_neg (suc n) = refl

-- a quotient is no greater than what is divided
quotient_abs : (a b : ℤ) → unsigned_abs (int_div a b) ≤ unsigned_abs a
quotient_abs (pos a) (pos b) = div-le_self a b
quotient_abs (pos a) (negsuc b) = omega (arith, abs_neg (a / suc b), div-le_self a (suc b))
quotient_abs (negsuc a) (pos b) = omega (arith, abs_neg (suc a / b), div-le_self (suc a) b)
quotient_abs (negsuc a) (negsuc b) = div-le_self (suc a) (suc b)

-- a number of at most 64 bits, read in 64 bits
read_wraps : (z : ℤ) → unsigned_abs z ≤ 2 ^ 63 → cast_signed w64 (cast_unsigned w64 z) ≡ wrap w64 z
read_wraps (pos n) h = ap (cast_signed w64) (sym (mod-eq_of_lt (omega arith)))
read_wraps (negsuc n) h = ap (cast_signed w64) (omega (arith, mod-eq_of_lt {n = n} {m = 2 ^ 64} (omega arith)))

abs_fits : (a : ℤ) → FitsSigned w64 a → unsigned_abs a ≤ 2 ^ 63
abs_fits (pos n) f = omega (arith, f.sfits)
abs_fits (negsuc n) f = omega (arith, f.sfits)

pub div_wraps : (width : Width) (a b : ℤ) → FitsSigned w64 a → wrap (width_of width) (int_wrapping_div w64 a b) ≡ wrap (width_of width) (int_div a b)
div_wraps width a b f =
    let small : unsigned_abs a ≤ 2 ^ 63 = abs_fits a f in
    ap (wrap (width_of width)) (read_wraps (int_div a b) (omega (arith, quotient_abs a b))) ∙ wrap_twice width (int_div a b)
