-- A list each of whose elements is changed, read by what the change leaves alone.
use Rattle.std.specs.Prelude.{◌≡◌, Bool, true, false, cond, List, [], ◌∷◌, Option, None, Some, filter, filter_map, map, option_map}
use Rattle.std.specs.List.{cons_option}
use Rattle.std.proofs.Common.{refl}

module _ {A : Type 0} (change : A → A) where
  pub map_same : {B : Type 0} (f : A → B) → ((x : A) → f (change x) ≡ f x) → (xs : List A) → map f (map change xs) ≡ map f xs
  map_same f same [] = refl
  map_same f same (x ∷ xs) = rw (same x, map_same f same xs) refl

  kept_or_not : (b : Bool) (x : A) (xs : List A) → cond b (change x ∷ map change xs) (map change xs) ≡ map change (cond b (x ∷ xs) xs)
  kept_or_not true x xs = refl
  kept_or_not false x xs = refl

  pub filter_same : (p : A → Bool) → ((x : A) → p (change x) ≡ p x) → (xs : List A) → filter p (map change xs) ≡ map change (filter p xs)
  filter_same p same [] = refl
  filter_same p same (x ∷ xs) = rw (same x, filter_same p same xs) (kept_or_not (p x) x (filter p xs))

  pub filter_map_same : {B : Type 0} (f : A → Option B) → ((x : A) → f (change x) ≡ f x) → (xs : List A) → filter_map f (map change xs) ≡ filter_map f xs
  filter_map_same f same [] = refl
  filter_map_same f same (x ∷ xs) = rw (same x, filter_map_same f same xs) refl

  one_or_none : (o : Option A) (xs : List A) → cons_option (option_map change o) (map change xs) ≡ map change (cons_option o xs)
  one_or_none None xs = refl
  one_or_none (Some x) xs = refl

  -- what is found and then changed
  pub filter_map_changed : {B : Type 0} (f g : B → Option A) → ((x : B) → g x ≡ option_map change (f x)) → (xs : List B) → filter_map g xs ≡ map change (filter_map f xs)
  filter_map_changed f g same [] = refl
  filter_map_changed f g same (x ∷ xs) = rw (same x, filter_map_changed f g same xs) (one_or_none (f x) (filter_map f xs))
