-- What lists by the numbers of resources have: versions, and the values that these have by some resolutions.
use Rattle.std.specs.List.{enumerate_from, range_with_len}
use Rattle.std.specs.Prelude.{Bool, List, None, Some, false, map, nat_lt, refl, slice_index_or, suc, true, zero, ℕ, ℤ, ◌+◌, ◌<◌, ◌≡◌, ◌≤◌}
use Rattle.std.proofs.Common.{ap, arith, sym, ◌∙◌}
use Rattle.std.proofs.lemmas.Bool.Decides.{nat_tests}
use Rattle.rx_queue.specs.Journal.{Resolution, value_in, values_at}
use Rattle.rx_meaning.specs.Settled.{HasValuesOf}

version_got : (version : ℕ → ℕ) (k n r : ℕ) → r < n → slice_index_or (map version (range_with_len k n)) r 0 ≡ version (k + r)
version_got version k zero r h = absurd (omega arith)
version_got version k (suc n) zero h = let e : k + 0 ≡ k = omega arith in rw e refl
version_got version k (suc n) (suc r) h = let e : (k + 1) + r ≡ k + suc r = omega arith in version_got version (k + 1) n r (omega arith) ∙ ap version e

value_got : (rs : List Resolution) (version : ℕ → ℕ) (k n r : ℕ) → r < n
    → slice_index_or (map (λ x. value_in rs x.0 x.1) (enumerate_from k (map version (range_with_len k n)))) r None ≡ value_in rs (k + r) (version (k + r))
value_got rs version k zero r h = absurd (omega arith)
value_got rs version k (suc n) zero h = let e : k + 0 ≡ k = omega arith in rw e refl
value_got rs version k (suc n) (suc r) h =
    let e : (k + 1) + r ≡ k + suc r = omega arith in value_got rs version (k + 1) n r (omega arith) ∙ ap (λ (q : ℕ). value_in rs q (version q)) e

none_got : (rs : List Resolution) (version : ℕ → ℕ) (k n r : ℕ) → n ≤ r
    → slice_index_or (map (λ x. value_in rs x.0 x.1) (enumerate_from k (map version (range_with_len k n)))) r None ≡ None
none_got rs version k zero r h = refl
none_got rs version k (suc n) zero h = absurd (omega arith)
none_got rs version k (suc n) (suc r) h = none_got rs version (k + 1) n r (omega arith)

-- the version of a resource
pub version_at : (version : ℕ → ℕ) (n r : ℕ) → r < n → slice_index_or (map version (range_with_len 0 n)) r 0 ≡ version r
version_at version n r h = let e : 0 + r ≡ r = omega arith in version_got version 0 n r h ∙ ap version e

-- its value in that version
pub value_at : (rs : List Resolution) (version : ℕ → ℕ) (n r : ℕ) → r < n
    → slice_index_or (values_at rs (map version (range_with_len 0 n))) r None ≡ value_in rs r (version r)
value_at rs version n r h = let e : 0 + r ≡ r = omega arith in value_got rs version 0 n r h ∙ ap (λ (q : ℕ). value_in rs q (version q)) e

-- there is none past the last resource
pub value_past : (rs : List Resolution) (version : ℕ → ℕ) (n r : ℕ) → n ≤ r → slice_index_or (values_at rs (map version (range_with_len 0 n))) r None ≡ None
value_past rs version n r h = none_got rs version 0 n r h

-- what has a value is a resource, which has it in its version
pub value_there : (rs : List Resolution) (version : ℕ → ℕ) (n r : ℕ) (x : ℤ) → slice_index_or (values_at rs (map version (range_with_len 0 n))) r None ≡ Some x
    → (r < n) × (value_in rs r (version r) ≡ Some x)
value_there rs version n r x h = go (nat_lt r n) refl
  where
    go : (b : Bool) → nat_lt r n ≡ b → (r < n) × (value_in rs r (version r) ≡ Some x)
    go true e = let within : r < n = grind (arith, nat_tests) in (within, sym (value_at rs version n r within) ∙ h)
    go false e =
        let late : n ≤ r = grind (arith, nat_tests) in
        absurd (cc (h, value_past rs version n r late))

-- if versions keep their values, so do resources in the same versions
pub values_kept : (rs more : List Resolution) → HasValuesOf rs more → (version : ℕ → ℕ) (n r : ℕ) (x : ℤ)
    → slice_index_or (values_at rs (map version (range_with_len 0 n))) r None ≡ Some x
    → slice_index_or (values_at more (map version (range_with_len 0 n))) r None ≡ Some x
values_kept rs more kept version n r x h =
    let there = value_there rs version n r x h in
    value_at more version n r there.0 ∙ kept r (version r) x there.1
