-- Counts that are held.
use Rattle.std.proofs.Common.{◌≡◌, ◌≤◌, ◌<◌, ◌+◌, ◌*◌, ◌⊎◌, inl, inr, refl, sym, ap, ◌∙◌, arith}
use Rattle.std.specs.Prelude.{ℕ, zero, suc, max}
use Rattle.std.proofs.Math.Nat.{mul-zero, mul_comm, le-mul_of_pos_right}
use Rattle.rx_rules.specs.Bounds.{held}

pub held-sum : (a b : ℕ) → held (held a + held b) ≡ held (a + b)
held-sum a b = omega arith

pub held-sum_right : (a b : ℕ) → held (a + held b) ≡ held (a + b)
held-sum_right a b = omega arith

pub held-max : (a b : ℕ) → max (held a) (held b) ≡ held (max a b)
held-max a b = omega arith

pub held-held : (a : ℕ) → held (held a) ≡ held a
held-held a = omega arith

either-way : (a b : ℕ) → (a ≤ b) ⊎ (b ≤ a)
either-way zero b = inl (omega arith)
either-way (suc a) zero = inr (omega arith)
either-way (suc a) (suc b) = elim (either-way a b) [ inl h ↦ inl (omega (arith, h)) | inr h ↦ inr (omega (arith, h)) ]

top : (n : ℕ) → 1000000000 ≤ n → held n ≡ 1000000000
top n h = omega (arith, h)

low : (n : ℕ) → n ≤ 1000000000 → held n ≡ n
low n h = omega (arith, h)

some : (n : ℕ) → 0 < held (suc n)
some n = omega arith

large-left : (a b : ℕ) → 1000000000 ≤ a → held (held a * held b) ≡ held (a * b)
large-left a zero h = rw (mul-zero (held a), mul-zero a) refl
large-left a (suc b) h =
    let one : 1000000000 ≤ held a * held (suc b) = rw (top a h) (le-mul_of_pos_right 1000000000 (some b)) in
    let more : a ≤ a * suc b = le-mul_of_pos_right a (omega arith) in
    let two : 1000000000 ≤ a * suc b = omega (arith, h, more) in
    top (held a * held (suc b)) one ∙ sym (top (a * suc b) two)

pub held-product : (a b : ℕ) → held (held a * held b) ≡ held (a * b)
held-product a b =
    elim (either-way a 1000000000) [
      | inr h ↦ large-left a b h
      | inl h ↦ elim (either-way b 1000000000) [
        | inr k ↦ ap held (mul_comm (held a) (held b)) ∙ (large-left b a k ∙ ap held (mul_comm b a))
        | inl k ↦ rw (low a h, low b k) refl
      ]
    ]

pub held-product_right : (a b : ℕ) → held (a * held b) ≡ held (a * b)
held-product_right a b = sym (held-product a (held b)) ∙ (ap (λ x. held (held a * x)) (held-held b) ∙ held-product a b)
