-- The front of a text, byte by byte.
use Rattle.std.proofs.Common.{◌≡◌, ℕ, zero, suc, ◌+◌, ◌-◌, ◌<◌, ◌≤◌, min, Bool, true, false, cond, List, [], ◌∷◌, ◌++◌, Option, Some, None, length, get_or, take, drop, drop-cons, add-one, length-drop, refl, sym, ap, ◌∙◌, append_assoc, arith, subst, inl, inr}
use Rattle.std.specs.Prelude.{filter, nat_eq, nat_lt, option_map, ◌⊎◌}
use Rattle.std.proofs.lemmas.Bool.Decides.{Decides-eqb, nat_tests}
use Rattle.std.proofs.lemmas.List.{drop-drop, drop_all, take_all, take_more}
use Rattle.rx_given.specs.Lines.{HasNo, ends_in, first_line, is_line_end, shared}

-- what is left of a list from an element on
left_from : {A : Type 0} (xs : List A) (i : ℕ) (d : A) → i < length xs → drop i xs ≡ get_or xs i d ∷ drop (i + 1) xs
left_from xs i d within = rw add-one (drop-cons xs i d within)

same_byte : (x y : ℕ) → x ≡ y → nat_eq x y ≡ true
same_byte x y is = (Decides-eqb x y).1 is

other_byte : (x y : ℕ) → (x ≡ y → ⊥) → nat_eq x y ≡ false
other_byte x y not = go (nat_eq x y) refl
  where
    go : (b : Bool) → nat_eq x y ≡ b → b ≡ false
    go true e = absurd (not ((Decides-eqb x y).0 e))
    go false e = refl

-- What two texts share

pub same_so_far : (xs ys : List ℕ) (i : ℕ) → i < length xs → i < length ys → get_or xs i 0 ≡ get_or ys i 0 → shared xs ys ≡ i + shared (drop i xs) (drop i ys)
    → shared xs ys ≡ (i + 1) + shared (drop (i + 1) xs) (drop (i + 1) ys)
same_so_far xs ys i a b is before =
    let next : shared (drop i xs) (drop i ys) ≡ suc (shared (drop (i + 1) xs) (drop (i + 1) ys)) =
    rw (left_from xs i 0 a, left_from ys i 0 b, same_byte (get_or xs i 0) (get_or ys i 0) is) refl in
    omega (arith, before, next)

pub other_here : (xs ys : List ℕ) (i : ℕ) → i < length xs → i < length ys → (get_or xs i 0 ≡ get_or ys i 0 → ⊥) → shared xs ys ≡ i + shared (drop i xs) (drop i ys)
    → i ≡ shared xs ys
other_here xs ys i a b not before =
    let next : shared (drop i xs) (drop i ys) ≡ 0 = rw (left_from xs i 0 a, left_from ys i 0 b, other_byte (get_or xs i 0) (get_or ys i 0) not) refl in
    omega (arith, before, next)

shared-none : (xs ys : List ℕ) → (xs ≡ []) ⊎ (ys ≡ []) → shared xs ys ≡ 0
shared-none [] ys h = refl
shared-none (x ∷ xs) [] h = refl
shared-none (x ∷ xs) (y ∷ ys) (inl e) = cc
shared-none (x ∷ xs) (y ∷ ys) (inr e) = cc

ended : (xs ys : List ℕ) (i : ℕ) → min (length xs) (length ys) ≤ i → (length xs ≤ i) ⊎ (length ys ≤ i)
ended xs ys i h = go (nat_lt i (length xs)) refl
  where
    go : (b : Bool) → nat_lt i (length xs) ≡ b → (length xs ≤ i) ⊎ (length ys ≤ i)
    go true e = inr (grind (arith, nat_tests, e, h))
    go false e = inl (grind (arith, nat_tests, e))

pub all_shared : (xs ys : List ℕ) (i : ℕ) → min (length xs) (length ys) ≤ i → shared xs ys ≡ i + shared (drop i xs) (drop i ys) → i ≡ shared xs ys
all_shared xs ys i h before =
    let none : shared (drop i xs) (drop i ys) ≡ 0 =
    elim (ended xs ys i h) [ inl a ↦ shared-none (drop i xs) (drop i ys) (inl (drop_all i xs a)) | inr b ↦ shared-none (drop i xs) (drop i ys) (inr (drop_all i ys b)) ] in
    omega (arith, before, none)

-- a text whose whole length is shared comes next
pub comes_next : (xs ys : List ℕ) → shared xs ys ≡ length ys → xs ≡ ys ++ drop (shared xs ys) xs
comes_next [] [] e = refl
comes_next (x ∷ xs) [] e = refl
comes_next [] (y ∷ ys) e = absurd (omega (arith, e))
comes_next (x ∷ xs) (y ∷ ys) e = go (comes_next xs ys) (nat_eq x y) refl e
  where
    go : (shared xs ys ≡ length ys → xs ≡ ys ++ drop (shared xs ys) xs) → (b : Bool) → nat_eq x y ≡ b → cond b (suc (shared xs ys)) 0 ≡ suc (length ys)
        → x ∷ xs ≡ y ∷ (ys ++ drop (cond b (suc (shared xs ys)) 0) (x ∷ xs))
    go rest true is f = ap (λ z. z ∷ xs) ((Decides-eqb x y).0 is) ∙ ap (λ zs. y ∷ zs) (rest (omega (arith, f)))
    go rest false is f = absurd (omega (arith, f))

-- and one that comes next is shared
pub next_shared : (xs ys more : List ℕ) → xs ≡ ys ++ more → shared xs ys ≡ length ys
next_shared xs [] more is = go xs
  where
    go : (zs : List ℕ) → shared zs [] ≡ 0
    go [] = refl
    go (z ∷ zs) = refl
next_shared xs (y ∷ ys) more is = rw is (rw (same_byte y y refl) (ap suc (next_shared (ys ++ more) ys more refl)))

pub shared-within : (xs ys : List ℕ) → (shared xs ys ≤ length xs) × (shared xs ys ≤ length ys)
shared-within [] ys = (omega arith, omega arith)
shared-within (x ∷ xs) [] = (omega arith, omega arith)
shared-within (x ∷ xs) (y ∷ ys) = go (nat_eq x y) (shared-within xs ys)
  where
    go : (b : Bool) → (shared xs ys ≤ length xs) × (shared xs ys ≤ length ys) → (cond b (suc (shared xs ys)) 0 ≤ suc (length xs)) × (cond b (suc (shared xs ys)) 0 ≤ suc (length ys))
    go true h = (omega (arith, h.0), omega (arith, h.1))
    go false h = (omega arith, omega arith)

-- What is passed

-- a report from a place on
pub left_of : (report : List ℕ) (b : ℕ) → take (length report - b) (drop b report) ≡ drop b report
left_of report b = take_all (length report - b) (drop b report) (omega (arith, length-drop b report))

pub same_passed : (report lines : List ℕ) (b s : ℕ) → s ≡ shared (drop b report) lines → nat_eq s (length lines) ≡ true → drop b report ≡ lines ++ drop (b + s) report
same_passed report lines b s is all =
    comes_next (drop b report) lines (sym is ∙ (Decides-eqb s (length lines)).0 all)
    ∙ ap (λ ys. lines ++ ys) (ap (λ k. drop k (drop b report)) (sym is) ∙ drop-drop s b report)

pub other_passed : (report lines : List ℕ) (b s : ℕ) → s ≡ shared (drop b report) lines → nat_eq s (length lines) ≡ false → (more : List ℕ) → drop b report ≡ lines ++ more → ⊥
other_passed report lines b s is less more e =
    let all : nat_eq s (length lines) ≡ true = (Decides-eqb s (length lines)).1 (is ∙ next_shared (drop b report) lines more e) in
    cc

pub inside_passed : (report lines : List ℕ) (b s : ℕ) → b ≤ length report → s ≡ shared (drop b report) lines → b + s ≤ length report
inside_passed report lines b s h is = omega (arith, is, (shared-within (drop b report) lines).0, length-drop b report)

-- The ends of lines

ends-append : (xs ys : List ℕ) → ends_in (xs ++ ys) ≡ ends_in xs + ends_in ys
ends-append [] ys = omega arith
ends-append (x ∷ xs) ys = go (is_line_end x) (ends-append xs ys)
  where
    go : (b : Bool) → ends_in (xs ++ ys) ≡ ends_in xs + ends_in ys
        → length (cond b (x ∷ filter is_line_end (xs ++ ys)) (filter is_line_end (xs ++ ys))) ≡ length (cond b (x ∷ filter is_line_end xs) (filter is_line_end xs)) + ends_in ys
    go true e = omega (arith, e)
    go false e = e

pub end_more : (xs : List ℕ) (i n : ℕ) → i < length xs → get_or xs i 0 ≡ 10 → n ≡ ends_in (take i xs) → n + 1 ≡ ends_in (take (i + 1) xs)
end_more xs i n h is so_far =
    let one : ends_in (get_or xs i 0 ∷ []) ≡ 1 = rw (same_byte (get_or xs i 0) 10 is) refl in
    omega (arith, so_far, ap ends_in (take_more xs i 0 h) ∙ ends-append (take i xs) (get_or xs i 0 ∷ []), one)

pub no_end : (xs : List ℕ) (i n : ℕ) → i < length xs → (get_or xs i 0 ≡ 10 → ⊥) → n ≡ ends_in (take i xs) → n ≡ ends_in (take (i + 1) xs)
no_end xs i n h not so_far =
    let none : ends_in (get_or xs i 0 ∷ []) ≡ 0 = rw (other_byte (get_or xs i 0) 10 not) refl in
    omega (arith, so_far, ap ends_in (take_more xs i 0 h) ∙ ends-append (take i xs) (get_or xs i 0 ∷ []), none)

-- no more lines end than there are bytes
pub ends-few : (xs : List ℕ) → ends_in xs ≤ length xs
ends-few [] = omega arith
ends-few (x ∷ xs) = go (is_line_end x) (ends-few xs)
  where
    go : (b : Bool) → ends_in xs ≤ length xs → length (cond b (x ∷ filter is_line_end xs) (filter is_line_end xs)) ≤ suc (length xs)
    go true h = omega (arith, h)
    go false h = omega (arith, h)

-- The first line

-- the first line of a text, of which no line ends in the bytes in front
abbrev pub behind : List ℕ → Option (List ℕ) → Option (List ℕ)
behind front o = option_map (λ l. front ++ l) o

behind-more : (front : List ℕ) (b : ℕ) (o : Option (List ℕ)) → behind front (option_map (λ l. b ∷ l) o) ≡ behind (front ++ b ∷ []) o
behind-more front b None = refl
behind-more front b (Some l) = ap Some (sym (append_assoc front (b ∷ []) l))

pub line_goes_on : (xs : List ℕ) (i : ℕ) → i < length xs → (get_or xs i 0 ≡ 10 → ⊥) → first_line xs ≡ behind (take i xs) (first_line (drop i xs))
    → first_line xs ≡ behind (take (i + 1) xs) (first_line (drop (i + 1) xs))
line_goes_on xs i h not so_far =
    let next : first_line (drop i xs) ≡ option_map (λ l. get_or xs i 0 ∷ l) (first_line (drop (i + 1) xs)) = rw (left_from xs i 0 h, other_byte (get_or xs i 0) 10 not) refl in
    so_far ∙ ap (behind (take i xs)) next ∙ behind-more (take i xs) (get_or xs i 0) (first_line (drop (i + 1) xs))
    ∙ ap (λ front. behind front (first_line (drop (i + 1) xs))) (sym (take_more xs i 0 h))

pub line_ends : (xs : List ℕ) (i : ℕ) → i < length xs → get_or xs i 0 ≡ 10 → first_line xs ≡ behind (take i xs) (first_line (drop i xs)) → Some (take (i + 1) xs) ≡ first_line xs
line_ends xs i h is so_far =
    let here : first_line (drop i xs) ≡ Some (get_or xs i 0 ∷ []) = rw (left_from xs i 0 h, same_byte (get_or xs i 0) 10 is) refl in
    ap Some (take_more xs i 0 h) ∙ sym (so_far ∙ ap (behind (take i xs)) here)

pub no_line : (xs : List ℕ) (i : ℕ) → length xs ≤ i → first_line xs ≡ behind (take i xs) (first_line (drop i xs)) → None ≡ first_line xs
no_line xs i h so_far = sym (so_far ∙ ap (λ ys. behind (take i xs) (first_line ys)) (drop_all i xs h))

-- Bytes that are not there

pub none_more : (b : ℕ) (xs : List ℕ) (i : ℕ) → i < length xs → (get_or xs i 0 ≡ b → ⊥) → HasNo b (take i xs) → HasNo b (take (i + 1) xs)
none_more b [] i h not so_far = absurd (omega arith)
none_more b (x ∷ xs) zero h not so_far = (not, tt)
none_more b (x ∷ xs) (suc i) h not so_far =
    let one : suc i + 1 ≡ suc (i + 1) = omega arith in
    let more : HasNo b (x ∷ take (i + 1) xs) = (so_far.0, none_more b xs i (omega arith) not so_far.1) in
    subst (λ (k : ℕ). HasNo b (take k (x ∷ xs))) (sym one) more
