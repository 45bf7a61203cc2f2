-- The hooks of new instances.
use Rattle.std.proofs.Common.{◌≡◌, ◌⊎◌, inl, inr, ℕ, zero, suc, ◌+◌, ◌<◌, ◌≤◌, Bool, true, false, cond, nat_eq, nat_lt, ◌||◌, Some, List, [], ◌∷◌, ◌++◌, slice_get, refl, sym, ap, ◌∙◌, subst, below_more, arith}
use Rattle.std.proofs.lemmas.Bool.Decides.{nat_tests}
use Rattle.rx_elem.specs.Spots.{Mounted}
use Rattle.rx_hook_store.proofs.Stores.{KeptBy, same_number}
use Rattle.rx_settle.specs.declared.made.NewHooks.{NewHooks}
use Rattle.rx_settle.specs.Made.{AreHooksFor, AreMadeFor, AreOfNew, HasMade, has_number, kept_with}

-- ---- lists

-- an element of a list with one more is one of the list, or the last one
pub old_or_last : {A : Type 0} (xs : List A) (x y : A) (k : ℕ) → slice_get (xs ++ x ∷ []) k ≡ Some y → ((j : ℕ) × (slice_get xs j ≡ Some y)) ⊎ (x ≡ y)
old_or_last [] x y zero e = inr (cc)
old_or_last [] x y (suc k) e = absurd (let f : ⊥ = cc in f)
old_or_last (z ∷ xs) x y zero e = inl (zero, e)
old_or_last (z ∷ xs) x y (suc k) e = go (old_or_last xs x y k e)
  where
    go : ((j : ℕ) × (slice_get xs j ≡ Some y)) ⊎ (x ≡ y) → ((j : ℕ) × (slice_get (z ∷ xs) j ≡ Some y)) ⊎ (x ≡ y)
    go (inl h) = inl (suc h.0, h.1)
    go (inr h) = inr h

pub or_left : (a b : Bool) → a ≡ true → (a || b) ≡ true
or_left true b e = refl
or_left false b e = cc

pub or_right : (a b : Bool) → b ≡ true → (a || b) ≡ true
or_right true b e = refl
or_right false b e = e

-- numbers stay when hooks are added
number_stays : (xs : List NewHooks) (x : NewHooks) (n : ℕ) → has_number xs n ≡ true → has_number (xs ++ x ∷ []) n ≡ true
number_stays [] x n e = cc
number_stays (y ∷ xs) x n e = go (nat_eq y.number n) (number_stays xs x n) e
  where
    go : (b : Bool) → (has_number xs n ≡ true → has_number (xs ++ x ∷ []) n ≡ true) → (b || has_number xs n) ≡ true → (b || has_number (xs ++ x ∷ []) n) ≡ true
    go true more h = refl
    go false more h = more h

-- and the number of the hooks that are added comes
number_added : (xs : List NewHooks) (x : NewHooks) (n : ℕ) → x.number ≡ n → has_number (xs ++ x ∷ []) n ≡ true
number_added [] x n e = let same : nat_eq x.number n ≡ true = grind (arith, nat_tests) in or_left (nat_eq x.number n) false same
number_added (y ∷ xs) x n e = or_right (nat_eq y.number n) (has_number (xs ++ x ∷ []) n) (number_added xs x n e)

-- a number is below another one, or not
pub below_or_not : (a b : ℕ) → (a < b) ⊎ (b ≤ a)
below_or_not a b = go (nat_lt a b) refl
  where
    go : (t : Bool) → nat_lt a b ≡ t → (a < b) ⊎ (b ≤ a)
    go true e = inl (grind (arith, nat_tests))
    go false e = inr (grind (arith, nat_tests))

-- ---- mounting

module _ (first : ℕ) (ms : List Mounted) (old new : List NewHooks) (i : ℕ) (m : Mounted) (at : slice_get ms i ≡ Some m) (so_far : AreMadeFor first ms i old) (one : HasMade first m old new) where
  -- nothing is added
  left_out : m.number < first → AreMadeFor first ms (i + 1) new
  left_out below =
      subst (λ (xs : List NewHooks). AreMadeFor first ms (i + 1) xs) (sym (one.was_there below))
      (record {
        all_new = so_far.all_new;
        each_has = λ k x lt. below_more (λ j. (y : Mounted) → slice_get ms j ≡ Some y → first ≤ y.number → has_number old y.number ≡ true) i (λ j within y. so_far.each_has j y within)
            (λ y there le. let same : m ≡ y = cc in let number : m.number ≡ y.number = ap (λ (z : Mounted). z.number) same in absurd (omega arith)) k lt x;
      })

  -- its hooks are added
  added : (x : NewHooks) → first ≤ m.number → AreHooksFor m x → AreMadeFor first ms (i + 1) (old ++ x ∷ [])
  added x le are =
      record {
        all_new = λ k y there. all_of y (old_or_last old x y k there);
        each_has = λ k y lt. below_more (λ j. (z : Mounted) → slice_get ms j ≡ Some z → first ≤ z.number → has_number (old ++ x ∷ []) z.number ≡ true) i
            (λ j within z there above. number_stays old x z.number (so_far.each_has j z within there above))
            (λ z there above. let same : m ≡ z = cc in number_added old x z.number (are.number_is ∙ ap (λ (w : Mounted). w.number) same)) k lt y;
      }
    where
      all_of : (y : NewHooks) → ((j : ℕ) × (slice_get old j ≡ Some y)) ⊎ (x ≡ y) → AreOfNew first ms y
      all_of y (inl h) = so_far.all_new h.0 y h.1
      all_of y (inr same) = record { place = i; instance = m; there = at; is_new = le; are_for = subst (λ (z : NewHooks). AreHooksFor m z) same are }

  -- one instance more has its hooks, if it is new
  pub make_more : AreMadeFor first ms (i + 1) new
  make_more = go (below_or_not m.number first)
    where
      go : (m.number < first) ⊎ (first ≤ m.number) → AreMadeFor first ms (i + 1) new
      go (inl below) = left_out below
      go (inr le) = let h = one.is_new le in subst (λ (xs : List NewHooks). AreMadeFor first ms (i + 1) xs) (sym h.2) (added h.0 le h.1)

-- ---- keeping

-- what is kept with new hooks depends on what is kept at each number alone
pub with_same : (xs : List NewHooks) (f g : KeptBy) → ((n : ℕ) → f n ≡ g n) → (n : ℕ) → kept_with xs f n ≡ kept_with xs g n
with_same [] f g same n = same n
with_same (x ∷ xs) f g same n = ap (λ o. cond (nat_eq x.number n) (Some x.hooks) o) (with_same xs f g same n)

-- the last new hooks may be kept first
pub with_last : (xs : List NewHooks) (x : NewHooks) (kept : KeptBy) (n : ℕ) → kept_with (xs ++ x ∷ []) kept n ≡ kept_with xs (λ k. cond (nat_eq x.number k) (Some x.hooks) (kept k)) n
with_last [] x kept n = refl
with_last (y ∷ xs) x kept n = ap (λ o. cond (nat_eq y.number n) (Some y.hooks) o) (with_last xs x kept n)

-- hooks that are inserted are no longer left to insert
pub inserted : (all rest : List NewHooks) (x : NewHooks) (now new : KeptBy) → all ≡ rest ++ x ∷ [] → ((n : ℕ) → new n ≡ cond (nat_eq x.number n) (Some x.hooks) (now n))
    → (n : ℕ) → kept_with rest new n ≡ kept_with all now n
inserted all rest x now new parts is n =
    with_same rest new (λ k. cond (nat_eq x.number k) (Some x.hooks) (now k)) is n ∙ sym (with_last rest x now n)
    ∙ ap (λ (xs : List NewHooks). kept_with xs now n) (sym parts)

-- what is kept of an instance that is not new stays
pub old_stays : (first : ℕ) (xs : List NewHooks) (kept : KeptBy) (n : ℕ) → ((k : ℕ) (x : NewHooks) → slice_get xs k ≡ Some x → first ≤ x.number) → n < first
    → kept_with xs kept n ≡ kept n
old_stays first [] kept n new below = refl
old_stays first (x ∷ xs) kept n new below =
    let le = new 0 x refl in
    let other : nat_eq x.number n ≡ false = grind (arith, nat_tests) in
    rw other (old_stays first xs kept n (λ k y at. new (suc k) y at) below)

-- the new hooks of a number that has some
pub record IsFound (xs : List NewHooks) (kept : KeptBy) (n : ℕ) : Type 0 where
  pub place : ℕ
  pub hooks : NewHooks
  pub there : slice_get xs place ≡ Some hooks
  pub number_is : hooks.number ≡ n
  pub kept_is : kept_with xs kept n ≡ Some hooks.hooks

-- hooks of a number are found if some have it
pub found : (xs : List NewHooks) (kept : KeptBy) (n : ℕ) → has_number xs n ≡ true → IsFound xs kept n
found [] kept n has = absurd (let f : ⊥ = cc in f)
found (x ∷ xs) kept n has = go (nat_eq x.number n) refl has (found xs kept n)
  where
    go : (b : Bool) → nat_eq x.number n ≡ b → (b || has_number xs n) ≡ true → (has_number xs n ≡ true → IsFound xs kept n) → IsFound (x ∷ xs) kept n
    go true is h rest =
        record { place = 0; hooks = x; there = refl; number_is = same_number x.number n is; kept_is = ap (λ b. cond b (Some x.hooks) (kept_with xs kept n)) is }
    go false is h rest =
        let f = rest h in
        record {
          place = suc f.place;
          hooks = f.hooks;
          there = f.there;
          number_is = f.number_is;
          kept_is = ap (λ b. cond b (Some x.hooks) (kept_with xs kept n)) is ∙ f.kept_is;
        }

-- what is kept of an instance that has no new hooks stays
pub elsewhere_stays : (xs : List NewHooks) (kept : KeptBy) (n : ℕ) → ((k : ℕ) (x : NewHooks) → slice_get xs k ≡ Some x → nat_eq x.number n ≡ false) → kept_with xs kept n ≡ kept n
elsewhere_stays [] kept n other = refl
elsewhere_stays (x ∷ xs) kept n other = rw (other 0 x refl) (elsewhere_stays xs kept n (λ k y at. other (suc k) y at))
