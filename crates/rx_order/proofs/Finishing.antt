-- What is finished in an order leads nowhere but to what was finished before.
use Rattle.std.proofs.Common.{◌≡◌, ◌<◌, ◌≤◌, ◌+◌, ◌⊎◌, inl, inr, Bool, true, false, ◌&&◌, ◌||◌, List, [], ◌∷◌, ◌++◌, refl, sym, ap, subst, ◌∙◌, arith, length, length-append, set, append_assoc, get_or, take, drop, add-one}
use Rattle.std.specs.Prelude.{ℕ, zero, suc, nat_eq, slice_index_or}
use Rattle.std.specs.List.{list_any, list_all}
use Rattle.std.proofs.Math.Seq.{take-suc, drop-cons}
use Rattle.std.proofs.lemmas.List.{append-nil}
use Rattle.std.proofs.lemmas.List.Folds.{list_any-append}
use Rattle.std.proofs.lemmas.Bool.Decides.{nat_tests}
use Rattle.rx_order.specs.Graphs.{Graph, next_of, leads_to, is_among, finishes}

pub or-cases : (a b : Bool) → (a || b) ≡ true → (a ≡ true) ⊎ (b ≡ true)
or-cases true b h = inl refl
or-cases false b h = inr h

pub and-cases : (a b : Bool) → (a && b) ≡ true → (a ≡ true) × (b ≡ true)
and-cases true b h = (refl, h)
and-cases false b h = cc

pub both : (a b : Bool) → a ≡ true → b ≡ true → (a && b) ≡ true
both a b h k = rw (h, k) refl

pub or-left : (a b : Bool) → a ≡ true → (a || b) ≡ true
or-left a b h = rw h refl

pub or-right : (a b : Bool) → b ≡ true → (a || b) ≡ true
or-right true b h = refl
or-right false b h = h

pub same : (x y : ℕ) → nat_eq x y ≡ true → x ≡ y
same x y h = grind (arith, nat_tests, h)

pub itself : (x : ℕ) → nat_eq x x ≡ true
itself x = grind (arith, nat_tests)

-- among numbers with one more stand those and the one
pub among-more : (ns : List ℕ) (y x : ℕ) → is_among (ns ++ y ∷ []) x ≡ (is_among ns x || nat_eq x y)
among-more ns y x = list_any-append (nat_eq x) ns (y ∷ []) ∙ ap (λ b. is_among ns x || b) (right (nat_eq x y))
  where
    right : (b : Bool) → (b || false) ≡ b
    right true = refl
    right false = refl

-- what is known once one more is
pub set-known : (ds : List Bool) (i x : ℕ) → i < length ds → slice_index_or (set ds i true) x false ≡ (slice_index_or ds x false || nat_eq x i)
set-known [] i x h = absurd (omega (arith, h))
set-known (d ∷ ds) zero zero h = sym (or-right d (nat_eq 0 0) (itself 0))
set-known (d ∷ ds) zero (suc x) h = rw (other x) (right (slice_index_or ds x false))
  where
    other : (y : ℕ) → nat_eq (suc y) 0 ≡ false
    other y = grind (arith, nat_tests)

    right : (b : Bool) → b ≡ (b || false)
    right true = refl
    right false = refl
set-known (d ∷ ds) (suc i) zero h = rw (other i) (right d)
  where
    other : (y : ℕ) → nat_eq 0 (suc y) ≡ false
    other y = grind (arith, nat_tests)

    right : (b : Bool) → b ≡ (b || false)
    right true = refl
    right false = refl
set-known (d ∷ ds) (suc i) (suc x) h = rw (one-less x i) (set-known ds i x (omega (arith, h)))
  where
    one-less : (y z : ℕ) → nat_eq (suc y) (suc z) ≡ nat_eq y z
    one-less y z = grind (arith, nat_tests)

-- one more number is finished if all to which it leads are
pub finishes-more : (g : Graph) (before xs : List ℕ) (x : ℕ) → finishes g before xs ≡ true → list_all (is_among (before ++ xs)) (next_of g x) ≡ true
    → finishes g before (xs ++ x ∷ []) ≡ true
finishes-more g before [] x h k = both _ true (let P : List ℕ → Type 0 = λ ns. list_all (is_among ns) (next_of g x) ≡ true in subst P (append-nil before) k) refl
finishes-more g before (y ∷ ys) x h k =
    let parts = and-cases (list_all (is_among before) (next_of g y)) (finishes g (before ++ y ∷ []) ys) h in
    let P : List ℕ → Type 0 = λ ns. list_all (is_among ns) (next_of g x) ≡ true in
    both _ _ parts.0 (finishes-more g (before ++ y ∷ []) ys x parts.1 (subst P (sym (append_assoc before (y ∷ []) ys)) k))

-- one more number is finished, or none is
pub finishes-after : (g : Graph) (old new : List ℕ) (x : ℕ) → finishes g [] old ≡ true → list_all (is_among old) (next_of g x) ≡ true
    → (new ≡ old) ⊎ (new ≡ old ++ x ∷ []) → finishes g [] new ≡ true
finishes-after g old new x h k (inl e) = ap (finishes g []) e ∙ h
finishes-after g old new x h k (inr e) = ap (finishes g []) e ∙ finishes-more g [] old x h k

pub few-after : (old new : List ℕ) (x n : ℕ) → length old < n → (new ≡ old) ⊎ (new ≡ old ++ x ∷ []) → length new ≤ n
few-after old new x n h (inl e) = let s : length new ≡ length old = ap length e in omega (arith, h, s)
few-after old new x n h (inr e) = let s : length new ≡ length old + 1 = ap length e ∙ length-append old (x ∷ []) in omega (arith, h, s)

-- each of these leads only to these
abbrev pub Closed : Graph → List ℕ → Type 0
Closed g done = (y : ℕ) → is_among done y ≡ true → list_all (is_among done) (next_of g y) ≡ true

-- none of these leads to itself
abbrev pub Acyclic : Graph → List ℕ → Type 0
Acyclic g done = (y : ℕ) → is_among done y ≡ true → (n : ℕ) → leads_to g n y y ≡ false

-- one that passes both tests, if one passes the first and all pass the second
pub one-both : (p q : ℕ → Bool) (xs : List ℕ) → list_any p xs ≡ true → list_all q xs ≡ true → (z : ℕ) × (q z ≡ true) × (p z ≡ true)
one-both p q [] h k = cc
one-both p q (x ∷ xs) h k =
    let all = and-cases (q x) (list_all q xs) k in
    elim (or-cases (p x) (list_any p xs) h) [ inl e ↦ (x, all.0, e) | inr e ↦ one-both p q xs e all.1 ]

all-more : (p q : ℕ → Bool) (xs : List ℕ) → ((x : ℕ) → p x ≡ true → q x ≡ true) → list_all p xs ≡ true → list_all q xs ≡ true
all-more p q [] h k = refl
all-more p q (x ∷ xs) h k = let all = and-cases (p x) (list_all p xs) k in both _ _ (h x all.0) (all-more p q xs h all.1)

-- from these one comes only to these
pub leads-inside : (g : Graph) (done : List ℕ) → Closed g done → (n y t : ℕ) → is_among done y ≡ true → leads_to g n y t ≡ true → is_among done t ≡ true
unfolding leads_to
leads-inside g done c zero y t h k = cc
leads-inside g done c (suc n) y t h k =
    let r = one-both (λ z. nat_eq z t || leads_to g n z t) (is_among done) (next_of g y) k (c y h) in
    elim (or-cases (nat_eq r.0 t) (leads_to g n r.0 t) r.2) [
      | inl e ↦ let P : ℕ → Type 0 = λ z. is_among done z ≡ true in subst P (same r.0 t e) r.1
      | inr e ↦ leads-inside g done c n r.0 t r.1 e
    ]

-- one that leads only to these leads to itself only if it is one of these
leads-from : (g : Graph) (done : List ℕ) → Closed g done → (x : ℕ) → list_all (is_among done) (next_of g x) ≡ true → (n : ℕ) → leads_to g n x x ≡ true → is_among done x ≡ true
unfolding leads_to
leads-from g done c x h zero k = cc
leads-from g done c x h (suc n) k =
    let r = one-both (λ z. nat_eq z x || leads_to g n z x) (is_among done) (next_of g x) k h in
    elim (or-cases (nat_eq r.0 x) (leads_to g n r.0 x) r.2) [
      | inl e ↦ let P : ℕ → Type 0 = λ z. is_among done z ≡ true in subst P (same r.0 x e) r.1
      | inr e ↦ leads-inside g done c n r.0 x r.1 e
    ]

more-stays : (done : List ℕ) (x y : ℕ) → is_among done y ≡ true → is_among (done ++ x ∷ []) y ≡ true
more-stays done x y h = rw among-more (or-left _ _ h)

closed-more : (g : Graph) (done : List ℕ) (x : ℕ) → Closed g done → list_all (is_among done) (next_of g x) ≡ true → Closed g (done ++ x ∷ [])
closed-more g done x c h y k =
    elim (or-cases (is_among done y) (nat_eq y x) (sym (among-more done x y) ∙ k)) [
      | inl e ↦ all-more (is_among done) (is_among (done ++ x ∷ [])) (next_of g y) (more-stays done x) (c y e)
      | inr e ↦
          let P : ℕ → Type 0 = λ z. list_all (is_among (done ++ x ∷ [])) (next_of g z) ≡ true in
          subst P (sym (same y x e)) (all-more (is_among done) (is_among (done ++ x ∷ [])) (next_of g x) (more-stays done x) h)
    ]

acyclic-more : (g : Graph) (done : List ℕ) (x : ℕ) → Closed g done → Acyclic g done → list_all (is_among done) (next_of g x) ≡ true → Acyclic g (done ++ x ∷ [])
acyclic-more g done x c a h y k n = go (is_among done y) refl (leads_to g n y y) refl
  where
    go : (b : Bool) → is_among done y ≡ b → (d : Bool) → leads_to g n y y ≡ d → d ≡ false
    go b e false f = refl
    go true e true f = let bad : true ≡ false = sym f ∙ a y e n in cc
    go false e true f =
        elim (or-cases (is_among done y) (nat_eq y x) (sym (among-more done x y) ∙ k)) [
          | inl i ↦ let bad : true ≡ false = sym i ∙ e in cc
          | inr i ↦
              let P : ℕ → Type 0 = λ z. leads_to g n z z ≡ true in
              let inside : is_among done x ≡ true = leads-from g done c x h n (subst P (same y x i) f) in
              let bad : true ≡ false = sym inside ∙ (ap (λ z. is_among done z) (sym (same y x i)) ∙ e) in cc
        ]

acyclic-all : (g : Graph) (before xs : List ℕ) → Closed g before → Acyclic g before → finishes g before xs ≡ true → Acyclic g (before ++ xs)
acyclic-all g before [] c a h = let P : List ℕ → Type 0 = λ ns. Acyclic g ns in subst P (sym (append-nil before)) a
acyclic-all g before (x ∷ xs) c a h =
    let parts = and-cases (list_all (is_among before) (next_of g x)) (finishes g (before ++ x ∷ []) xs) h in
    let P : List ℕ → Type 0 = λ ns. Acyclic g ns in
    subst P (append_assoc before (x ∷ []) xs)
    (acyclic-all g (before ++ x ∷ []) xs (closed-more g before x c parts.0) (acyclic-more g before x c a parts.0) parts.1)

-- what is finished in an order does not lead to itself
pub finished-acyclic : (g : Graph) (order : List ℕ) → finishes g [] order ≡ true → (x : ℕ) → is_among order x ≡ true → (n : ℕ) → leads_to g n x x ≡ false
finished-acyclic g order h x k n = acyclic-all g [] order (λ y i. no i) (λ y i m. no i) h x k n
  where
    no : {A : Type 0} → false ≡ true → A
    no e = cc

-- in an order that is gone through, the next number leads only to those that are passed
pub next-finished : (g : Graph) (xs : List ℕ) (i d : ℕ) → i < length xs → finishes g (take i xs) (drop i xs) ≡ true
    → (list_all (is_among (take i xs)) (next_of g (get_or xs i d)) ≡ true) × (finishes g (take (i + 1) xs) (drop (i + 1) xs) ≡ true)
next-finished g xs i d l h =
    let P : List ℕ → Type 0 = λ ns. finishes g (take i xs) ns ≡ true in
    let parts = and-cases (list_all (is_among (take i xs)) (next_of g (get_or xs i d))) (finishes g (take i xs ++ get_or xs i d ∷ []) (drop (suc i) xs)) (subst P (drop-cons xs i d l) h) in
    (parts.0, rw add-one (rw (take-suc xs i d l) parts.1))
