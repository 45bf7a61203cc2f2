-- The longest run of bytes that pass a test.
use Rattle.std.proofs.Common.{◌≡◌, ℕ, suc, ◌+◌, ◌-◌, ◌<◌, Bool, true, false, cond, List, [], ◌∷◌, ◌++◌, length, take, drop, IsUtf8, refl, subst, ⊎_elim, arith}
use Rattle.std.specs.List.{prefix_len}
use Rattle.std.specs.Str.{IsCharBoundary}
use Rattle.std.proofs.lemmas.List.Sums.{prefix_len-le-length, prefix_len_passes, prefix_len_stops}
use Rattle.std.proofs.lemmas.Str.{IsCharBoundary-start, IsCharBoundary-end, IsCharBoundary-before_ascii, IsCharBoundary-after_ascii}
use Rattle.std.proofs.str.Laws.{order}
use Rattle.std.proofs.lemmas.Bool.Decides.{nat_tests}
use Rattle.rx_lex.specs.Tokens.{IsRun, IsRunEnd, is_word_byte, is_in_line}

run_front_case : (p : ℕ → Bool) (b : ℕ) (bs : List ℕ) (n : ℕ) → IsRun p (take n bs) → (r : Bool) → p b ≡ r → IsRun p (take (cond r (1 + n) 0) (b ∷ bs))
run_front_case p b bs n front true e = let s : 1 + n ≡ suc n = omega arith in rw s (e, front)
run_front_case p b bs n front false e = tt

pub run_front : (p : ℕ → Bool) (bs : List ℕ) → IsRun p (take (prefix_len p bs) bs)
run_front p [] = tt
run_front p (b ∷ bs) = run_front_case p b bs (prefix_len p bs) (run_front p bs) (p b) refl

run_rest_case : (p : ℕ → Bool) (b : ℕ) (bs : List ℕ) (n : ℕ) → IsRunEnd p (drop n bs) → (r : Bool) → p b ≡ r → IsRunEnd p (drop (cond r (1 + n) 0) (b ∷ bs))
run_rest_case p b bs n rest true e = let s : 1 + n ≡ suc n = omega arith in rw s rest
run_rest_case p b bs n rest false e = e

pub run_rest : (p : ℕ → Bool) (bs : List ℕ) → IsRunEnd p (drop (prefix_len p bs) bs)
run_rest p [] = tt
run_rest p (b ∷ bs) = run_rest_case p b bs (prefix_len p bs) (run_rest p bs) (p b) refl

-- a run is as long as it can be if its end does not pass
pub run_unique : (p : ℕ → Bool) (w v rest after : List ℕ) → IsRun p w → IsRunEnd p rest → IsRun p v → IsRunEnd p after → w ++ rest ≡ v ++ after → (w ≡ v) × (rest ≡ after)
run_unique p [] [] rest after rw re rv ra e = (refl, e)
run_unique p [] (c ∷ v) [] after rw re rv ra e = cc
run_unique p [] (c ∷ v) (b ∷ rest) after rw re rv ra e = cc
run_unique p (b ∷ w) [] rest [] rw re rv ra e = cc
run_unique p (b ∷ w) [] rest (c ∷ after) rw re rv ra e = cc
run_unique p (b ∷ w) (c ∷ v) rest after rw re rv ra e =
    let heads : b ≡ c = cc in
    let tails : w ++ rest ≡ v ++ after = cc in
    let both = run_unique p w v rest after rw.1 re rv.1 ra tails in
    let first : w ≡ v = both.0 in
    (cc, both.1)

-- a run of ASCII bytes ends between characters
pub ascii_run_ends : (p : ℕ → Bool) → ((b : ℕ) → p b ≡ true → b < 128) → (bs : List ℕ) → IsUtf8 bs → IsCharBoundary bs (prefix_len p bs)
ascii_run_ends p ascii bs utf8 = ⊎_elim
    (λ some. let within = prefix_len-le-length p bs in
    let at_last : prefix_len p bs - 1 < prefix_len p bs = omega arith in
    let again : prefix_len p bs - 1 + 1 ≡ prefix_len p bs = omega arith in
    subst (IsCharBoundary bs) again (IsCharBoundary-after_ascii bs (prefix_len p bs - 1) utf8 (omega arith) (ascii _ (prefix_len_passes p bs _ 0 at_last))))
    (λ none. let is_zero : 0 ≡ prefix_len p bs = omega arith in
    subst (IsCharBoundary bs) is_zero (IsCharBoundary-start bs utf8))
    (order 0 (prefix_len p bs))

-- so does a run that an ASCII byte ends
pub run_before_ascii_ends : (p : ℕ → Bool) → ((b : ℕ) → p b ≡ false → b < 128) → (bs : List ℕ) → IsCharBoundary bs (prefix_len p bs)
run_before_ascii_ends p ascii bs = ⊎_elim
    (λ inside. IsCharBoundary-before_ascii bs (prefix_len p bs) inside (ascii _ (prefix_len_stops p bs 0 inside)))
    (λ past. let within = prefix_len-le-length p bs in
    let at_end : length bs ≡ prefix_len p bs = omega arith in
    subst (IsCharBoundary bs) at_end (IsCharBoundary-end bs))
    (order (prefix_len p bs) (length bs))

pub word_is_ascii : (b : ℕ) → is_word_byte b ≡ true → b < 128
word_is_ascii b e = grind (arith, nat_tests)

pub line_end_is_ascii : (b : ℕ) → is_in_line b ≡ false → b < 128
line_end_is_ascii b e = grind (arith, nat_tests)

-- a word at the front of a text is what the word's length cuts off
pub word_front : (bs front rest : List ℕ) → front ≡ take (prefix_len is_word_byte bs) bs → IsRun is_word_byte front
word_front bs front rest e = rw e (run_front is_word_byte bs)
