-- What is noted of the members of a set, as numbers come and go.
use Rattle.std.proofs.Common.{◌≡◌, ◌⊎◌, inl, inr, ℕ, zero, suc, Bool, true, false, cond, ◌||◌, nat_eq, Option, None, Some, List, [], ◌∷◌, ◌++◌, length, slice_get, refl, sym, ap, ◌∙◌, subst, arith}
use Rattle.std.proofs.lemmas.Option.{slice_get_within}
use Rattle.std.proofs.lemmas.List.Sorted.{list_any-IsPermutation}
use Rattle.std.specs.List.Sorted.{IsPermutation}
use Rattle.rx_set.specs.Sets.{IsWithout, holds}
use Rattle.rx_set.specs.Places.{AreNoted}
use Rattle.rx_set.proofs.Holding.{holds_at, is_none, itself, other_way, same_number}

-- what stands in a longer list stood in it, or is the new end
old_or_last : (xs : List ℕ) (n i k : ℕ) → slice_get (xs ++ n ∷ []) i ≡ Some k → (slice_get xs i ≡ Some k) ⊎ ((length xs ≡ i) × (n ≡ k))
old_or_last [] n zero k at = inr (refl, cc)
old_or_last [] n (suc i) k at = absurd (let f : ⊥ = cc in f)
old_or_last (x ∷ xs) n zero k at = inl at
old_or_last (x ∷ xs) n (suc i) k at = go (old_or_last xs n i k at)
  where
    go : (slice_get xs i ≡ Some k) ⊎ ((length xs ≡ i) × (n ≡ k)) → (slice_get xs i ≡ Some k) ⊎ ((suc (length xs) ≡ suc i) × (n ≡ k))
    go (inl h) = inl h
    go (inr h) = inr (ap suc h.0, h.1)

pub one_of : {A : Type 0} (x y : A) → Some x ≡ Some y → x ≡ y
one_of x y is = cc

not_none : {A : Type 0} (o : Option A) (x : A) → o ≡ None → o ≡ Some x → ⊥
not_none o x none is = let f : None ≡ Some x = sym none ∙ is in let g : ⊥ = cc in g

pub clash : (b : Bool) → b ≡ true → b ≡ false → ⊥
clash b is isnt = let f : true ≡ false = sym is ∙ isnt in let g : ⊥ = cc in g

module _ (old : ℕ → Option ℕ) (members : List ℕ) (noted : AreNoted old members) where
  -- a number is no member if none stands where it is noted
  pub unnoted : (n : ℕ) → old n ≡ None → holds members n ≡ false
  unnoted n none = is_none members n (λ i at. not_none (old n) i none (noted i n at))

  pub misplaced : (n place : ℕ) → old n ≡ Some place → (slice_get members place ≡ Some n → ⊥) → holds members n ≡ false
  misplaced n place is other =
      is_none members n (λ i at. other (subst (λ (k : ℕ). slice_get members k ≡ Some n) (one_of i place (sym (noted i n at) ∙ is)) at))

  -- another number has another name
  others_differ : (n k i : ℕ) → holds members n ≡ false → slice_get members i ≡ Some k → nat_eq n k ≡ false
  others_differ n k i none at = go (nat_eq n k) refl
    where
      go : (b : Bool) → nat_eq n k ≡ b → b ≡ false
      go true e = absurd (clash (holds members n) (holds_at members i n (subst (λ (m : ℕ). slice_get members i ≡ Some m) (sym (same_number n k e)) at)) none)
      go false e = refl

  module _ (new : ℕ → Option ℕ) (n : ℕ) (none : holds members n ≡ false) (others : (k i : ℕ) → nat_eq n k ≡ false → old k ≡ Some i → new k ≡ Some i) where
    -- the members are noted still once one is noted that is to come
    pub noted_still : AreNoted new members
    noted_still i k at = others k i (others_differ n k i none at) (noted i k at)

    -- and it with them, once it has come
    pub noted_more : new n ≡ Some (length members) → AreNoted new (members ++ n ∷ [])
    noted_more here i k at = go (old_or_last members n i k at)
      where
        go : (slice_get members i ≡ Some k) ⊎ ((length members ≡ i) × (n ≡ k)) → new k ≡ Some i
        go (inl was) = noted_still i k was
        go (inr last) = subst (λ (m : ℕ). new m ≡ Some i) last.1 (here ∙ ap (λ m. Some m) last.0)

  -- a member is taken out, and the last one takes its place
  module _ (left : List ℕ) (n place : ℕ) (is : slice_get members place ≡ Some n) (without : IsWithout n place members left) where
    -- it is no member now
    pub gone : holds left n ≡ false
    gone = is_none left n (λ i at. by_place i (nat_eq i place) refl at)
      where
        by_place : (i : ℕ) (b : Bool) → nat_eq i place ≡ b → slice_get left i ≡ Some n → ⊥
        by_place i false e at =
            let there = noted i n (without.elsewhere i n e at) in
            clash (nat_eq i place) (subst (λ (m : ℕ). nat_eq m place ≡ true) (one_of place i (sym (noted place n is) ∙ there)) (itself place)) e
        by_place i true e at =
            let same = same_number i place e in
            let less = slice_get_within left i n at in
            let there = noted (length left) n (without.here n (ap (slice_get left) (sym same) ∙ at)) in
            let length_is : length left ≡ place = one_of (length left) place (sym there ∙ noted place n is) in
            omega (arith, less, same, length_is)

    -- if it was the last one, what is noted of the others is right
    pub noted_without : slice_get left place ≡ None → AreNoted old left
    noted_without last i k at = noted i k (without.elsewhere i k (other (nat_eq i place) refl) at)
      where
        other : (b : Bool) → nat_eq i place ≡ b → b ≡ false
        other false e = refl
        other true e = absurd (not_none (slice_get left place) k last (ap (slice_get left) (sym (same_number i place e)) ∙ at))

    -- else the last one is at its place now
    module _ (moved : ℕ) (stands_there : slice_get left place ≡ Some moved) where
      pub was_noted : old moved ≡ Some (length left)
      was_noted = noted (length left) moved (without.here moved stands_there)

      module _ (new : ℕ → Option ℕ) (others : (k i : ℕ) → nat_eq moved k ≡ false → old k ≡ Some i → new k ≡ Some i) (put : new moved ≡ Some place) where
        -- and is noted there, so that all are noted
        pub noted_moved : AreNoted new left
        noted_moved i k at = by_place (nat_eq i place) refl
          where
            apart : nat_eq i place ≡ false → (b : Bool) → nat_eq moved k ≡ b → b ≡ false
            apart e false f = refl
            apart e true f =
                let less = slice_get_within left i k at in
                let there = noted i k (without.elsewhere i k e at) in
                let length_is : length left ≡ i = one_of (length left) i (sym was_noted ∙ ap old (same_number moved k f) ∙ there) in
                absurd (omega (arith, less, length_is))

            by_place : (b : Bool) → nat_eq i place ≡ b → new k ≡ Some i
            by_place true e =
                let same = same_number i place e in
                let k_is : moved ≡ k = one_of moved k (sym stands_there ∙ ap (slice_get left) (sym same) ∙ at) in
                ap new (sym k_is) ∙ put ∙ ap (λ m. Some m) (sym same)
            by_place false e = others k i (apart e (nat_eq moved k) refl) (noted i k (without.elsewhere i k e at))

-- a number is a member once one is taken out if it was one, and is not the one
pub holds_less : (members left : List ℕ) (n : ℕ) → IsPermutation members (n ∷ left) → holds left n ≡ false → (k : ℕ) → holds left k ≡ cond (nat_eq n k) false (holds members k)
holds_less members left n shuffled none k = go (nat_eq n k) refl
  where
    go : (b : Bool) → nat_eq n k ≡ b → holds left k ≡ cond b false (holds members k)
    go true e = ap (holds left) (sym (same_number n k e)) ∙ none
    go false e = sym (list_any-IsPermutation (nat_eq k) members (n ∷ left) shuffled ∙ ap (λ b. b || holds left k) (other_way k n ∙ e))
