-- The first lines of a report, and what two reports share.
use Rattle.std.proofs.Common.{◌≡◌, ℕ, zero, suc, ◌+◌, ◌<◌, ◌≤◌, Bool, true, false, cond, List, [], ◌∷◌, ◌++◌, Option, Some, None, length, take, zero-add, refl, sym, ap, ◌∙◌, subst, arith}
use Rattle.std.specs.Prelude.{filter, nat_eq, nat_le, option_map}
use Rattle.std.proofs.lemmas.Bool.Decides.{Decides-eqb, nat_tests}
use Rattle.std.proofs.lemmas.List.{take_all}
use Rattle.rx_given.specs.Lines.{ends_in, is_line_end, shared}
use Rattle.rx_verify.specs.Verdicts.{first_lines}

-- Lists

cons-is : (x y : ℕ) (xs ys : List ℕ) → x ∷ xs ≡ y ∷ ys → (x ≡ y) × (xs ≡ ys)
cons-is x y xs ys e = (cc, cc)

some-is : (xs ys : List ℕ) → ◌≡◌ {A = Option (List ℕ)} (Some xs) (Some ys) → xs ≡ ys
some-is xs ys e = cc

-- of two fronts of a text the shorter one is a front of the longer one
pub front_of_front : (xs ys more others : List ℕ) → xs ++ more ≡ ys ++ others → length xs ≤ length ys → (rest : List ℕ) × (ys ≡ xs ++ rest)
front_of_front [] ys more others e h = (ys, refl)
front_of_front (x ∷ xs) [] more others e h = absurd (omega (arith, h))
front_of_front (x ∷ xs) (y ∷ ys) more others e h =
    let both = cons-is x y (xs ++ more) (ys ++ others) e in
    let r = front_of_front xs ys more others both.1 (omega (arith, h)) in
    (r.0, ap (λ z. z ∷ ys) (sym both.0) ∙ ap (λ zs. x ∷ zs) r.1)

-- what stands behind the same front is the same
pub behind_front : (xs more others : List ℕ) → xs ++ more ≡ xs ++ others → more ≡ others
behind_front [] more others e = e
behind_front (x ∷ xs) more others e = behind_front xs more others (cons-is x x (xs ++ more) (xs ++ others) e).1

-- The ends of lines

pub ends-append : (xs ys : List ℕ) → ends_in (xs ++ ys) ≡ ends_in xs + ends_in ys
ends-append [] ys = sym (zero-add (ends_in ys))
ends-append (x ∷ xs) ys = go (is_line_end x) (ends-append xs ys)
  where
    go : (b : Bool) → ends_in (xs ++ ys) ≡ ends_in xs + ends_in ys
        → length (cond b (x ∷ filter is_line_end (xs ++ ys)) (filter is_line_end (xs ++ ys))) ≡ length (cond b (x ∷ filter is_line_end xs) (filter is_line_end xs)) + ends_in ys
    go true e = omega (arith, e)
    go false e = e

-- The first lines of some bytes are a front of them, in which so many lines end.
pub record IsFront (k : ℕ) (bytes front : List ℕ) : Type 0 where
  pub rest : List ℕ
  pub whole : bytes ≡ front ++ rest
  pub ends : ends_in front ≡ k

front-made : (k : ℕ) (b : ℕ) (bs front : List ℕ) → ((j : ℕ) (xs : List ℕ) → first_lines j bs ≡ Some xs → IsFront j bs xs) → (x : Bool) → is_line_end b ≡ x → (o : Option (List ℕ))
    → first_lines (cond x k (suc k)) bs ≡ o → option_map (λ f. b ∷ f) o ≡ Some front → IsFront (suc k) (b ∷ bs) front
front-made k b bs front behind x is None f e = cc
front-made k b bs front behind true is (Some xs) f e =
    let r = behind k xs f in
    subst (IsFront (suc k) (b ∷ bs)) (some-is (b ∷ xs) front e) (record { rest = r.rest; whole = ap (λ zs. b ∷ zs) r.whole; ends = rw is (ap suc r.ends) })
front-made k b bs front behind false is (Some xs) f e =
    let r = behind (suc k) xs f in
    subst (IsFront (suc k) (b ∷ bs)) (some-is (b ∷ xs) front e) (record { rest = r.rest; whole = ap (λ zs. b ∷ zs) r.whole; ends = rw is r.ends })

front-by : (k : ℕ) (b : ℕ) (bs front : List ℕ) → ((j : ℕ) (xs : List ℕ) → first_lines j bs ≡ Some xs → IsFront j bs xs) → (x : Bool) → is_line_end b ≡ x
    → option_map (λ f. b ∷ f) (first_lines (cond x k (suc k)) bs) ≡ Some front → IsFront (suc k) (b ∷ bs) front
front-by k b bs front behind x is e = front-made k b bs front behind x is (first_lines (cond x k (suc k)) bs) refl e

pub lines-front : (k : ℕ) (bytes front : List ℕ) → first_lines k bytes ≡ Some front → IsFront k bytes front
lines-front zero bytes front e = subst (IsFront zero bytes) (some-is [] front e) (record { rest = bytes; whole = refl; ends = refl })
lines-front (suc k) [] front e = cc
lines-front (suc k) (b ∷ bs) front e = front-by k b bs front (λ j xs f. lines-front j bs xs f) (is_line_end b) refl e

-- so many lines of some bytes are there, and are a front of others
abbrev AreIn : ℕ → (xs bytes : List ℕ) → Type 0
AreIn k xs bytes = (front : List ℕ) × (first_lines k bytes ≡ Some front) × (more : List ℕ) × (xs ≡ front ++ more)

in-longer : (k : ℕ) (x : ℕ) (xs ys : List ℕ) → AreIn (ends_in xs) xs (xs ++ ys) → first_lines (suc k) (x ∷ (xs ++ ys)) ≡ option_map (λ f. x ∷ f) (first_lines (ends_in xs) (xs ++ ys))
    → AreIn (suc k) (x ∷ xs) (x ∷ (xs ++ ys))
in-longer k x xs ys r e = (x ∷ r.0, e ∙ ap (option_map (λ f. x ∷ f)) r.1, r.2, ap (λ zs. x ∷ zs) r.3)

in-within : (k : ℕ) (x : ℕ) (xs ys : List ℕ) → AreIn (ends_in xs) xs (xs ++ ys) → ends_in xs ≡ k → is_line_end x ≡ false → AreIn k (x ∷ xs) (x ∷ (xs ++ ys))
in-within zero x xs ys r e is = ([], refl, x ∷ xs, refl)
in-within (suc k) x xs ys r e is = in-longer k x xs ys r (rw (is, e) refl)

in-by : (x : ℕ) (xs ys : List ℕ) → AreIn (ends_in xs) xs (xs ++ ys) → (b : Bool) → is_line_end x ≡ b → AreIn (ends_in (x ∷ xs)) (x ∷ xs) (x ∷ (xs ++ ys))
in-by x xs ys r true is =
    let is_suc : suc (ends_in xs) ≡ ends_in (x ∷ xs) = rw is refl in
    subst (λ k. AreIn k (x ∷ xs) (x ∷ (xs ++ ys))) is_suc (in-longer (ends_in xs) x xs ys r (rw is refl))
in-by x xs ys r false is =
    let same : ends_in xs ≡ ends_in (x ∷ xs) = rw is refl in
    subst (λ k. AreIn k (x ∷ xs) (x ∷ (xs ++ ys))) same (in-within (ends_in xs) x xs ys r refl is)

-- as many lines as end in a front of some bytes are there, and are a front of it
pub lines_in : (xs ys : List ℕ) → (front : List ℕ) × (first_lines (ends_in xs) (xs ++ ys) ≡ Some front) × (more : List ℕ) × (xs ≡ front ++ more)
lines_in [] ys = ([], refl, [], refl)
lines_in (x ∷ xs) ys = in-by x xs ys (lines_in xs ys) (is_line_end x) refl

-- more lines are longer than a front in which fewer end
pub lines_longer : (k : ℕ) (bytes front xs ys : List ℕ) → first_lines (k + 1) bytes ≡ Some front → bytes ≡ xs ++ ys → ends_in xs ≡ k → (more : List ℕ) × (front ≡ xs ++ more) × (length xs < length front)
lines_longer k bytes front xs ys e is ends = go (nat_le (length front) (length xs)) refl
  where
    f : IsFront (k + 1) bytes front
    f = lines-front (k + 1) bytes front e

    go : (b : Bool) → nat_le (length front) (length xs) ≡ b → (more : List ℕ) × (front ≡ xs ++ more) × (length xs < length front)
    go true t =
        let within : length front ≤ length xs = grind (arith, nat_tests, t) in
        let r = front_of_front front xs f.rest ys (sym f.whole ∙ is) within in
        absurd (omega (arith, ends, ap ends_in r.1, ends-append front r.0, f.ends))
    go false t =
        let beyond : length xs < length front = grind (arith, nat_tests, t) in
        let r = front_of_front xs front ys f.rest (sym is ∙ f.whole) (omega (arith, beyond)) in
        (r.0, r.1, beyond)

-- so many lines of some bytes are a front of others
abbrev AreFewer : ℕ → (bytes front : List ℕ) → Type 0
AreFewer j bytes front = (less : List ℕ) × (first_lines j bytes ≡ Some less) × (more : List ℕ) × (front ≡ less ++ more)

fewer-made : (i m : ℕ) (b : ℕ) (bs front : List ℕ) → ((xs : List ℕ) → first_lines m bs ≡ Some xs → AreFewer i bs xs) → (o : Option (List ℕ)) → first_lines m bs ≡ o → option_map (λ f. b ∷ f) o ≡ Some front
    → (less : List ℕ) × (option_map (λ f. b ∷ f) (first_lines i bs) ≡ Some less) × (more : List ℕ) × (front ≡ less ++ more)
fewer-made i m b bs front behind None f e = cc
fewer-made i m b bs front behind (Some xs) f e =
    let r = behind xs f in
    (b ∷ r.0, ap (option_map (λ f. b ∷ f)) r.1, r.2, sym (some-is (b ∷ xs) front e) ∙ ap (λ zs. b ∷ zs) r.3)

fewer-by : (j k : ℕ) (b : ℕ) (bs front : List ℕ) → j ≤ k → ((i m : ℕ) → i ≤ m → (xs : List ℕ) → first_lines m bs ≡ Some xs → AreFewer i bs xs) → (x : Bool) → is_line_end b ≡ x
    → option_map (λ f. b ∷ f) (first_lines (cond x k (suc k)) bs) ≡ Some front
    → (less : List ℕ) × (option_map (λ f. b ∷ f) (first_lines (cond x j (suc j)) bs) ≡ Some less) × (more : List ℕ) × (front ≡ less ++ more)
fewer-by j k b bs front h behind true is e = fewer-made j k b bs front (behind j k h) (first_lines k bs) refl e
fewer-by j k b bs front h behind false is e = fewer-made (suc j) (suc k) b bs front (behind (suc j) (suc k) (omega (arith, h))) (first_lines (suc k) bs) refl e

-- fewer lines are a front of more
pub fewer_lines : (j k : ℕ) (bytes front : List ℕ) → j ≤ k → first_lines k bytes ≡ Some front → (less : List ℕ) × (first_lines j bytes ≡ Some less) × (more : List ℕ) × (front ≡ less ++ more)
fewer_lines zero k bytes front h e = ([], refl, front, refl)
fewer_lines (suc j) zero bytes front h e = absurd (omega (arith, h))
fewer_lines (suc j) (suc k) [] front h e = cc
fewer_lines (suc j) (suc k) (b ∷ bs) front h e = fewer-by j k b bs front (omega (arith, h)) (λ i m l xs f. fewer_lines i m bs xs l f) (is_line_end b) refl e

-- What is shared

pub same_byte : (x y : ℕ) → x ≡ y → nat_eq x y ≡ true
same_byte x y is = (Decides-eqb x y).1 is

pub other_byte : (x y : ℕ) → (x ≡ y → ⊥) → nat_eq x y ≡ false
other_byte x y not = go (nat_eq x y) refl
  where
    go : (b : Bool) → nat_eq x y ≡ b → b ≡ false
    go true e = absurd (not ((Decides-eqb x y).0 e))
    go false e = refl

pub shared-front : (xs ys zs : List ℕ) → length xs ≤ shared (xs ++ ys) (xs ++ zs)
shared-front [] ys zs = omega arith
shared-front (x ∷ xs) ys zs = rw (same_byte x x refl) (omega (arith, shared-front xs ys zs))

longer-by : (same longer y : ℕ) (ys zs : List ℕ) (b : Bool) → (same < length ys → longer ≡ same) → cond b (suc same) 0 < suc (length ys) → cond b (suc longer) 0 ≡ cond b (suc same) 0
longer-by same longer y ys zs true behind h = ap suc (behind (omega (arith, h)))
longer-by same longer y ys zs false behind h = refl

-- what is shared with a text is shared with a longer one, and no more if the text is not all shared
pub shared-longer : (xs ys zs : List ℕ) → shared xs ys < length ys → shared xs (ys ++ zs) ≡ shared xs ys
shared-longer xs [] zs h = absurd (omega (arith, h))
shared-longer [] (y ∷ ys) zs h = refl
shared-longer (x ∷ xs) (y ∷ ys) zs h = longer-by (shared xs ys) (shared xs (ys ++ zs)) y ys zs (nat_eq x y) (shared-longer xs ys zs) h

take-by : (x y : ℕ) (xs ys : List ℕ) (n : ℕ) → ((more : List ℕ) × (xs ≡ take n ys ++ more)) → (b : Bool) → nat_eq x y ≡ b → (more : List ℕ) × (x ∷ xs ≡ take (cond b (suc n) 0) (y ∷ ys) ++ more)
take-by x y xs ys n r true is = (r.0, ap (λ z. z ∷ xs) ((Decides-eqb x y).0 is) ∙ ap (λ zs. y ∷ zs) r.1)
take-by x y xs ys n r false is = (x ∷ xs, refl)

-- and it is a front of both
pub shared-take : (xs ys : List ℕ) → (more : List ℕ) × (xs ≡ take (shared xs ys) ys ++ more)
shared-take [] [] = ([], refl)
shared-take [] (y ∷ ys) = ([], refl)
shared-take (x ∷ xs) [] = (x ∷ xs, refl)
shared-take (x ∷ xs) (y ∷ ys) = take-by x y xs ys (shared xs ys) (shared-take xs ys) (nat_eq x y) refl

-- a text that is shared whole comes next
pub shared-all : (xs ys : List ℕ) → length ys ≤ shared xs ys → (more : List ℕ) × (xs ≡ ys ++ more)
shared-all xs ys h =
    let r = shared-take xs ys in
    (r.0, r.1 ∙ ap (λ zs. zs ++ r.0) (take_all (shared xs ys) ys h))
