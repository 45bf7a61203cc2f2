-- What holds of each of a list, and of each and those behind it.
use Rattle.std.specs.Prelude.{◌≡◌, ◌⊎◌, ℕ, suc, Bool, true, false, ◌&&◌, List, [], ◌∷◌, ◌++◌, Some, map, refl, slice_get}
use Rattle.std.specs.List.{AllByRecursion, list_all}
use Rattle.std.proofs.Common.{inl, inr}
use Rattle.rx_elem.proofs.Deciding.{and_passes, both_hold}
use Rattle.transition_laws.specs.Flags.{EachToLater}

module _ {A : Type 0} where
  pub all_more : (P Q : A → Type 0) → ((x : A) → P x → Q x) → (xs : List A) → AllByRecursion P xs → AllByRecursion Q xs
  all_more P Q f [] h = tt
  all_more P Q f (x ∷ xs) h = (f x h.0, all_more P Q f xs h.1)

  pub all_map : (P Q : A → Type 0) (g : A → A) → ((x : A) → P x → Q (g x)) → (xs : List A) → AllByRecursion P xs → AllByRecursion Q (map g xs)
  all_map P Q g f [] h = tt
  all_map P Q g f (x ∷ xs) h = (f x h.0, all_map P Q g f xs h.1)

  pub all_and : (P Q : A → Type 0) (xs : List A) → AllByRecursion P xs → AllByRecursion Q xs → AllByRecursion (λ x. P x × Q x) xs
  all_and P Q [] h k = tt
  all_and P Q (x ∷ xs) h k = ((h.0, k.0), all_and P Q xs h.1 k.1)

  pub all_one_more : (P : A → Type 0) (xs : List A) (y : A) → AllByRecursion P xs → P y → AllByRecursion P (xs ++ y ∷ [])
  all_one_more P [] y h k = (k, tt)
  all_one_more P (x ∷ xs) y h k = (h.0, all_one_more P xs y h.1 k)

  -- what holds at each place
  pub all_got : (P : A → Type 0) (xs : List A) → ((n : ℕ) (x : A) → slice_get xs n ≡ Some x → P x) → AllByRecursion P xs
  all_got P [] h = tt
  all_got P (x ∷ xs) h = (h 0 x refl, all_got P xs (λ n y at. h (suc n) y at))

  -- a test that each passes
  pub all_pass : (test : A → Bool) (xs : List A) → AllByRecursion (λ x. test x ≡ true) xs → list_all test xs ≡ true
  all_pass test [] h = refl
  all_pass test (x ∷ xs) h = both_hold (test x) (list_all test xs) h.0 (all_pass test xs h.1)

  pub passed_by_all : (test : A → Bool) (xs : List A) → list_all test xs ≡ true → AllByRecursion (λ x. test x ≡ true) xs
  passed_by_all test [] h = tt
  passed_by_all test (x ∷ xs) h = let parts = and_passes (test x) (list_all test xs) h in (parts.0, passed_by_all test xs parts.1)

  -- if each passes a test or gives a fact, and not all pass, the fact holds
  pub one_left : (test : A → Bool) (B : Type 0) (xs : List A) → AllByRecursion (λ x. (test x ≡ true) ⊎ B) xs → list_all test xs ≡ false → B
  one_left test B [] h k = absurd (cc k)
  one_left test B (x ∷ xs) h k = go (test x) h.0 k (one_left test B xs h.1)
    where
      go : (b : Bool) → (b ≡ true) ⊎ B → (b && list_all test xs) ≡ false → (list_all test xs ≡ false → B) → B
      go true h k rest = rest k
      go false (inl h) k rest = absurd (cc h)
      go false (inr h) k rest = h

  pub order_more : (P : A → Type 0) (R S : A → A → Type 0) → ((x y : A) → P x → P y → R x y → S x y) → (xs : List A) → AllByRecursion P xs → EachToLater R xs → EachToLater S xs
  order_more P R S f [] h k = tt
  order_more P R S f (x ∷ xs) h k =
      (all_more (λ y. P y × R x y) (S x) (λ y l. f x y h.0 l.0 l.1) xs (all_and P (R x) xs h.1 k.0), order_more P R S f xs h.1 k.1)

  pub order_map : (P : A → Type 0) (R S : A → A → Type 0) (g : A → A) → ((x y : A) → P x → P y → R x y → S (g x) (g y)) → (xs : List A) → AllByRecursion P xs → EachToLater R xs
      → EachToLater S (map g xs)
  order_map P R S g f [] h k = tt
  order_map P R S g f (x ∷ xs) h k =
      (all_map (λ y. P y × R x y) (S (g x)) g (λ y l. f x y h.0 l.0 l.1) xs (all_and P (R x) xs h.1 k.0), order_map P R S g f xs h.1 k.1)

  pub order_one_more : (R : A → A → Type 0) (xs : List A) (y : A) → EachToLater R xs → AllByRecursion (λ x. R x y) xs → EachToLater R (xs ++ y ∷ [])
  order_one_more R [] y h k = (tt, tt)
  order_one_more R (x ∷ xs) y h k = (all_one_more (R x) xs y h.0 k.0, order_one_more R xs y h.1 k.1)

  -- what holds of each of a list that was mapped
  pub all_back : (P : A → Type 0) (g : A → A) (xs : List A) → AllByRecursion P (map g xs) → AllByRecursion (λ x. P (g x)) xs
  all_back P g [] h = tt
  all_back P g (x ∷ xs) h = (h.0, all_back P g xs h.1)
