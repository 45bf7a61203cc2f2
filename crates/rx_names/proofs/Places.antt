-- The first places of names among names with one more.
use Rattle.std.proofs.Common.{◌≡◌, ◌<◌, ◌≤◌, ◌+◌, ◌-◌, Bool, true, false, ◌||◌, cond, List, [], ◌∷◌, ◌++◌, Option, Some, None, refl, sym, ap, ◌∙◌, arith, length, map}
use Rattle.std.specs.Prelude.{ℕ, suc, position, find, bytes_eq, is_some, slice_get, Result, Ok, Err, IsOk, OnOk, nat_eq}
use Rattle.std.specs.Option.{option_eq}
use Rattle.std.proofs.lemmas.Bool.Decides.{nat_tests}
use Rattle.std.specs.List.{position_from, list_any}
use Rattle.std.specs.Map.{update}
use Rattle.std.proofs.lemmas.Iterator.Adapters.{position_from-zero}
use Rattle.std.proofs.lemmas.Slice.Eq.{bytes_eq-Decides}
use Rattle.rx_base.specs.Values.{Name}

-- what was found, or else this place if the test passes there
abbrev or_at : Option ℕ → Bool → ℕ → Option ℕ
or_at (Some n) b m = Some n
or_at None b m = cond b (Some m) None

-- the first place among names with one more
from-push : (t : Name → Bool) (i : ℕ) (xs : List Name) (y : Name) → position_from t i (xs ++ y ∷ []) ≡ or_at (position_from t i xs) (t y) (i + length xs)
from-push t i [] y = let e : i + 0 ≡ i = omega arith in rw e refl
from-push t i (x ∷ xs) y = go (t x) (from-push t (i + 1) xs y)
  where
    go : (b : Bool) → position_from t (i + 1) (xs ++ y ∷ []) ≡ or_at (position_from t (i + 1) xs) (t y) (i + 1 + length xs)
        → cond b (Some i) (position_from t (i + 1) (xs ++ y ∷ [])) ≡ or_at (cond b (Some i) (position_from t (i + 1) xs)) (t y) (i + suc (length xs))
    go true h = refl
    go false h = let e : i + suc (length xs) ≡ i + 1 + length xs = omega arith in rw e h

-- a place that is found is one of the list
from-below : (t : Name → Bool) (i : ℕ) (xs : List Name) (n : ℕ) → position_from t i xs ≡ Some n → n < i + length xs
from-below t i [] n h = cc
from-below t i (x ∷ xs) n h = go (λ e. from-below t (i + 1) xs n e) (t x) h
  where
    go : (position_from t (i + 1) xs ≡ Some n → n < i + 1 + length xs) → (b : Bool) → cond b (Some i) (position_from t (i + 1) xs) ≡ Some n → n < i + suc (length xs)
    go later true e = let same : i ≡ n = cc in omega (arith, same)
    go later false e = omega (arith, later e)

-- a name that passes a test of equality is the name
same-name : (x y : Name) → bytes_eq x y ≡ true → x ≡ y
same-name x y h = (bytes_eq-Decides x y).0 h

itself : (x : Name) → bytes_eq x x ≡ true
itself x = (bytes_eq-Decides x x).1 refl

differs : (x y : Name) → bytes_eq x y ≡ false → bytes_eq y x ≡ false
differs x y h = go (bytes_eq y x) refl
  where
    go : (b : Bool) → bytes_eq y x ≡ b → b ≡ false
    go true e = let same : y ≡ x = same-name y x e in let bad : true ≡ false = sym (itself x) ∙ (ap (λ z. bytes_eq x z) (sym same) ∙ h) in cc
    go false e = refl

-- a name that is there is found where it was
pub push-known : (xs : List Name) (y : Name) (n : ℕ) → position_from (bytes_eq y) 0 xs ≡ Some n → (x : Name)
    → position_from (bytes_eq x) 0 (xs ++ y ∷ []) ≡ position_from (bytes_eq x) 0 xs
push-known xs y n h x = from-push (bytes_eq x) 0 xs y ∙ go (position_from (bytes_eq x) 0 xs) refl (bytes_eq x y) refl
  where
    go : (o : Option ℕ) → position_from (bytes_eq x) 0 xs ≡ o → (b : Bool) → bytes_eq x y ≡ b → or_at o b (0 + length xs) ≡ o
    go (Some m) e b f = refl
    go None e true f = let bad : Some n ≡ None = sym h ∙ (ap (λ z. position_from (bytes_eq z) 0 xs) (sym (same-name x y f)) ∙ e) in cc
    go None e false f = refl

-- a new name is found behind the others
pub push-new : (xs : List Name) (y : Name) → position_from (bytes_eq y) 0 xs ≡ None → (x : Name)
    → position_from (bytes_eq x) 0 (xs ++ y ∷ []) ≡ update bytes_eq (λ z. position_from (bytes_eq z) 0 xs) y (Some (length xs)) x
push-new xs y h x = from-push (bytes_eq x) 0 xs y ∙ go (bytes_eq y x) refl
  where
    go : (b : Bool) → bytes_eq y x ≡ b → or_at (position_from (bytes_eq x) 0 xs) (bytes_eq x y) (0 + length xs) ≡ cond b (Some (length xs)) (position_from (bytes_eq x) 0 xs)
    go true e =
        let same : y ≡ x = same-name y x e in
        let none : position_from (bytes_eq x) 0 xs ≡ None = ap (λ z. position_from (bytes_eq z) 0 xs) (sym same) ∙ h in
        let there : bytes_eq x y ≡ true = ap (λ z. bytes_eq x z) same ∙ itself x in
        rw (none, there) (let k : 0 + length xs ≡ length xs = omega arith in ap Some k)
    go false e = rw (differs y x e) (keep (position_from (bytes_eq x) 0 xs))
      where
        keep : (o : Option ℕ) → or_at o false (0 + length xs) ≡ o
        keep (Some m) = refl
        keep None = refl

-- if the last name is found elsewhere, the others are found where they were
pub pop-kept : (xs : List Name) (y : Name) → (position_from (bytes_eq y) 0 (xs ++ y ∷ []) ≡ Some (length xs) → ⊥) → (x : Name)
    → position_from (bytes_eq x) 0 (xs ++ y ∷ []) ≡ position_from (bytes_eq x) 0 xs
pop-kept xs y h x = go (position_from (bytes_eq y) 0 xs) refl
  where
    go : (o : Option ℕ) → position_from (bytes_eq y) 0 xs ≡ o → position_from (bytes_eq x) 0 (xs ++ y ∷ []) ≡ position_from (bytes_eq x) 0 xs
    go (Some n) e = push-known xs y n e x
    go None e = absurd (h (from-push (bytes_eq y) 0 xs y ∙ rw (e, itself y) (let k : 0 + length xs ≡ length xs = omega arith in ap Some k)))

-- if the last name is found at the end, it is found nowhere else
pub pop-gone : (xs : List Name) (y : Name) → position_from (bytes_eq y) 0 (xs ++ y ∷ []) ≡ Some (length xs) → (x : Name)
    → update bytes_eq (λ z. position_from (bytes_eq z) 0 (xs ++ y ∷ [])) y None x ≡ position_from (bytes_eq x) 0 xs
pop-gone xs y h x = go (bytes_eq y x) refl
  where
    none : position_from (bytes_eq y) 0 xs ≡ None
    none = here (position_from (bytes_eq y) 0 xs) refl
      where
        here : (o : Option ℕ) → position_from (bytes_eq y) 0 xs ≡ o → o ≡ None
        here None e = refl
        here (Some n) e =
            let found : Some n ≡ Some (length xs) = sym (ap (λ o. or_at o (bytes_eq y y) (0 + length xs)) e) ∙ (sym (from-push (bytes_eq y) 0 xs y) ∙ h) in
            let same : n ≡ length xs = cc in
            let below : n < 0 + length xs = from-below (bytes_eq y) 0 xs n e in absurd (omega (arith, same, below))

    go : (b : Bool) → bytes_eq y x ≡ b → cond b None (position_from (bytes_eq x) 0 (xs ++ y ∷ [])) ≡ position_from (bytes_eq x) 0 xs
    go true e = sym (ap (λ z. position_from (bytes_eq z) 0 xs) (sym (same-name y x e)) ∙ none)
    go false e = from-push (bytes_eq x) 0 xs y ∙ rw (differs y x e) (keep (position_from (bytes_eq x) 0 xs))
      where
        keep : (o : Option ℕ) → or_at o false (0 + length xs) ≡ o
        keep (Some m) = refl
        keep None = refl

-- a place is found if a name is there
pub some-from : (t : Name → Bool) (i : ℕ) (xs : List Name) → is_some (position_from t i xs) ≡ list_any t xs
some-from t i [] = refl
some-from t i (x ∷ xs) = go (t x) (some-from t (i + 1) xs)
  where
    go : (b : Bool) → is_some (position_from t (i + 1) xs) ≡ list_any t xs → is_some (cond b (Some i) (position_from t (i + 1) xs)) ≡ (b || list_any t xs)
    go true h = refl
    go false h = h

from-above : (t : Name → Bool) (i : ℕ) (xs : List Name) (n : ℕ) → position_from t i xs ≡ Some n → i ≤ n
from-above t i [] n h = cc
from-above t i (x ∷ xs) n h = go (λ e. from-above t (i + 1) xs n e) (t x) h
  where
    go : (position_from t (i + 1) xs ≡ Some n → i + 1 ≤ n) → (b : Bool) → cond b (Some i) (position_from t (i + 1) xs) ≡ Some n → i ≤ n
    go later true e = let same : i ≡ n = cc in omega (arith, same)
    go later false e = omega (arith, later e)

-- what stands at a place that is counted from here on
abbrev at : {X : Type 0} → Option ℕ → ℕ → List X → Option X
at None i xs = None
at (Some k) i xs = slice_get xs (k - i)

at-more : {X : Type 0} (o : Option ℕ) (i : ℕ) (x : X) (xs : List X) → ((k : ℕ) → o ≡ Some k → i + 1 ≤ k) → at o (i + 1) xs ≡ at o i (x ∷ xs)
at-more None i x xs h = refl
at-more (Some k) i x xs h =
    let above : i + 1 ≤ k = h k refl in
    let e : k - i ≡ suc (k - (i + 1)) = omega (arith, above) in rw e refl

-- what has a name stands at the first place of the name
find-at : {X : Type 0} (f : X → Name) (n : Name) (i : ℕ) (xs : List X) → find (λ c. bytes_eq (f c) n) xs ≡ at (position_from (bytes_eq n) i (map f xs)) i xs
find-at f n i [] = refl
find-at f n i (x ∷ xs) = go (bytes_eq n (f x)) refl (find-at f n (i + 1) xs)
  where
    go : (b : Bool) → bytes_eq n (f x) ≡ b → find (λ c. bytes_eq (f c) n) xs ≡ at (position_from (bytes_eq n) (i + 1) (map f xs)) (i + 1) xs
        → cond (bytes_eq (f x) n) (Some x) (find (λ c. bytes_eq (f c) n) xs) ≡ at (cond b (Some i) (position_from (bytes_eq n) (i + 1) (map f xs))) i (x ∷ xs)
    go true e h =
        let same : n ≡ f x = same-name n (f x) e in
        let there : bytes_eq (f x) n ≡ true = ap (λ z. bytes_eq (f x) z) same ∙ itself (f x) in
        let none : i - i ≡ 0 = omega arith in rw (there, none) refl
    go false e h =
        rw (differs n (f x) e)
        (h ∙ at-more (position_from (bytes_eq n) (i + 1) (map f xs)) i x xs (λ k r. from-above (bytes_eq n) (i + 1) (map f xs) k r))

-- what has a name stands at the place where the name is found
pub named-at : {X : Type 0} (f : X → Name) (n : Name) (xs : List X) (k : ℕ) → position (bytes_eq n) (map f xs) ≡ Some k → find (λ c. bytes_eq (f c) n) xs ≡ slice_get xs k
named-at f n xs k h =
    let found : position_from (bytes_eq n) 0 (map f xs) ≡ Some k = sym (position_from-zero {B = Name} (bytes_eq n) (map f xs)) ∙ h in
    let e : k - 0 ≡ k = omega arith in
    find-at f n 0 xs ∙ (ap (λ o. at o 0 xs) found ∙ ap (λ j. slice_get xs j) e)

-- nothing has a name that is not found
pub named-none : {X : Type 0} (f : X → Name) (n : Name) (xs : List X) → position (bytes_eq n) (map f xs) ≡ None → find (λ c. bytes_eq (f c) n) xs ≡ None
named-none f n xs h =
    let none : position_from (bytes_eq n) 0 (map f xs) ≡ None = sym (position_from-zero {B = Name} (bytes_eq n) (map f xs)) ∙ h in
    find-at f n 0 xs ∙ ap (λ o. at o 0 xs) none

-- what a table gives of names with one more, which was not there
pub noted : (get more : Name → Option ℕ) (xs ys : List Name) (y k name : Name) (place : ℕ) → ((z : Name) → get z ≡ position_from (bytes_eq z) 0 xs)
    → ((z : Name) → more z ≡ update bytes_eq get k (Some place) z) → k ≡ name → y ≡ name → place ≡ length xs → ys ≡ xs ++ y ∷ [] → is_some (get name) ≡ false
    → (x : Name) → more x ≡ position_from (bytes_eq x) 0 ys
noted get more xs ys y k name place g u e f p q n x =
    let none : position_from (bytes_eq y) 0 xs ≡ None = ap (λ z. position_from (bytes_eq z) 0 xs) f ∙ (sym (g name) ∙ no (get name) n) in
    let there : position_from (bytes_eq x) 0 ys ≡ update bytes_eq (λ z. position_from (bytes_eq z) 0 xs) y (Some (length xs)) x = ap (λ l. position_from (bytes_eq x) 0 l) q ∙ push-new xs y none x in
    let one : update bytes_eq get k (Some place) x ≡ cond (bytes_eq y x) (Some (length xs)) (get x) = ap (λ z. cond (bytes_eq z x) (Some place) (get x)) (e ∙ sym f) ∙ ap (λ m. cond (bytes_eq y x) (Some m) (get x)) p in
    u x ∙ (one ∙ (ap (λ o. cond (bytes_eq y x) (Some (length xs)) o) (g x) ∙ sym there))
  where
    no : (o : Option ℕ) → is_some o ≡ false → o ≡ None
    no None h = refl
    no (Some m) h = cc

-- and one more that was there
pub noted-before : (get : Name → Option ℕ) (xs ys : List Name) (y name : Name) → ((z : Name) → get z ≡ position_from (bytes_eq z) 0 xs) → y ≡ name → ys ≡ xs ++ y ∷ []
    → is_some (get name) ≡ true → (x : Name) → get x ≡ position_from (bytes_eq x) 0 ys
noted-before get xs ys y name g f q n x = go (get name) refl n
  where
    go : (o : Option ℕ) → get name ≡ o → is_some o ≡ true → get x ≡ position_from (bytes_eq x) 0 ys
    go None r h = cc
    go (Some m) r h =
        let there : position_from (bytes_eq y) 0 xs ≡ Some m = ap (λ z. position_from (bytes_eq z) 0 xs) f ∙ (sym (g name) ∙ r) in
        g x ∙ (sym (push-known xs y m there x) ∙ ap (λ l. position_from (bytes_eq x) 0 l) (sym q))

-- what a table gives of names without the last, which was found at the end
pub dropped : (get less : Name → Option ℕ) (xs ys : List Name) (y : Name) (place : ℕ) → ((z : Name) → get z ≡ position_from (bytes_eq z) 0 ys)
    → ((z : Name) → less z ≡ update bytes_eq get y None z) → ys ≡ xs ++ y ∷ [] → place ≡ length xs → get y ≡ Some place
    → (x : Name) → less x ≡ position_from (bytes_eq x) 0 xs
dropped get less xs ys y place g u q p n x =
    let end : position_from (bytes_eq y) 0 (xs ++ y ∷ []) ≡ Some (length xs) = ap (λ l. position_from (bytes_eq y) 0 l) (sym q) ∙ (sym (g y) ∙ (n ∙ ap Some p)) in
    u x ∙ (ap (λ o. cond (bytes_eq y x) None o) (g x ∙ ap (λ l. position_from (bytes_eq x) 0 l) q) ∙ pop-gone xs y end x)

-- and without the last, which was found elsewhere
pub dropped-kept : (get : Name → Option ℕ) (xs ys : List Name) (y : Name) (place : ℕ) → ((z : Name) → get z ≡ position_from (bytes_eq z) 0 ys)
    → ys ≡ xs ++ y ∷ [] → place ≡ length xs → (get y ≡ Some place → ⊥) → (x : Name) → get x ≡ position_from (bytes_eq x) 0 xs
dropped-kept get xs ys y place g q p n x =
    g x ∙ (ap (λ l. position_from (bytes_eq x) 0 l) q
    ∙ pop-kept xs y (λ h. n (g y ∙ (ap (λ l. position_from (bytes_eq y) 0 l) q ∙ (h ∙ ap Some (sym p))))) x)

-- what holds if a call succeeds, which it does
pub on-ok : {A E P : Type 0} (r : Result A E) → IsOk r → OnOk r P → P
on-ok (Ok x) h k = k
on-ok (Err e) h k = cc

same-number : (m n : ℕ) → nat_eq m n ≡ true → m ≡ n
same-number m n h = grind (arith, nat_tests, h)

own-number : (n : ℕ) → nat_eq n n ≡ true
own-number n = grind (arith, nat_tests)

-- what equals a number is the number
pub some-equal : (o : Option ℕ) (n : ℕ) → option_eq nat_eq o (Some n) ≡ true → o ≡ Some n
some-equal None n h = cc
some-equal (Some m) n h = ap Some (same-number m n h)

pub equal-some : (o : Option ℕ) (n : ℕ) → o ≡ Some n → option_eq nat_eq o (Some n) ≡ true
equal-some o n h = ap (λ p. option_eq nat_eq p (Some n)) h ∙ own-number n
