-- In which version a resource is waited for, and when two waits are equal.
use Rattle.std.specs.Prelude.{ℕ, zero, suc, ◌+◌, ◌<◌, ◌≤◌, ◌⊎◌, nat_eq, nat_lt, nat_le, min, Bool, true, false, ◌≡◌, refl, if◌then◌else◌, [], ◌∷◌, Option, Some, None, filter_map}
use Rattle.std.specs.List.{cons_option, range_with_len}
use Rattle.std.specs.Option.{option_eq}
use Rattle.std.proofs.Common.{sym, ◌∙◌, ap, arith, inl, inr}
use Rattle.std.proofs.lemmas.Bool.Decides.{nat_tests}
use Rattle.rx_base.specs.Awaits.{Awaits, resource_limit}
use Rattle.rx_base.specs.Awaits as awaits
use Rattle.rx_queue.specs.Pairs.{in_versions}
use Rattle.rx_sched.specs.Waiting.{Waiting, version_in, has, paired, waiting_where, lesser, union}

same_number : (m n : ℕ) → nat_eq m n ≡ true → m ≡ n
same_number m n e = grind (arith, nat_tests)

-- two tests that agree on the numbers of a range name the same pairs
agree_within : (p q : ℕ → Option ℕ) (a k : ℕ) → ((n : ℕ) → a ≤ n → n < a + k → p n ≡ q n) → filter_map (λ r. paired r (p r)) (range_with_len a k) ≡ filter_map (λ r. paired r (q r)) (range_with_len a k)
agree_within p q a zero h = refl
agree_within p q a (suc k) h =
    let here : p a ≡ q a = h a (omega arith) (omega arith) in
    let rest : filter_map (λ r. paired r (p r)) (range_with_len (a + 1) k) ≡ filter_map (λ r. paired r (q r)) (range_with_len (a + 1) k) = agree_within p q (a + 1) k (λ n low high. h n (omega arith) (omega arith)) in
    rw (here, rest) refl

-- two waits for the same resources in the same versions are equal
pub waiting_agree : (p q : ℕ → Option ℕ) → ((n : ℕ) → n < resource_limit → p n ≡ q n) → waiting_where p ≡ waiting_where q
unfolding waiting_where
waiting_agree p q h = agree_within p q 0 resource_limit (λ n low high. h n (omega arith))

below_all : (p : ℕ → Option ℕ) (a k n : ℕ) → n < a → version_in (filter_map (λ r. paired r (p r)) (range_with_len a k)) n ≡ None
below_all p a zero n h = refl
below_all p a (suc k) n h = first (p a) (below_all p (a + 1) k n (omega arith))
  where
    rest : Waiting
    rest = filter_map (λ r. paired r (p r)) (range_with_len (a + 1) k)

    other : nat_eq a n ≡ false
    other = grind (arith, nat_tests)

    first : (v : Option ℕ) → version_in rest n ≡ None → version_in (cons_option (paired a v) rest) n ≡ None
    first None e = e
    first (Some v) e = rw (other, e) refl

above_all : (p : ℕ → Option ℕ) (a k n : ℕ) → a + k ≤ n → version_in (filter_map (λ r. paired r (p r)) (range_with_len a k)) n ≡ None
above_all p a zero n h = refl
above_all p a (suc k) n h = first (p a) (above_all p (a + 1) k n (omega arith))
  where
    rest : Waiting
    rest = filter_map (λ r. paired r (p r)) (range_with_len (a + 1) k)

    other : nat_eq a n ≡ false
    other = grind (arith, nat_tests)

    first : (v : Option ℕ) → version_in rest n ≡ None → version_in (cons_option (paired a v) rest) n ≡ None
    first None e = e
    first (Some v) e = rw (other, e) refl

within : (p : ℕ → Option ℕ) (a k n : ℕ) → a ≤ n → n < a + k → version_in (filter_map (λ r. paired r (p r)) (range_with_len a k)) n ≡ p n
within p a zero n low high = absurd (omega arith)
within p a (suc k) n low high = go (λ more. within p (a + 1) k n more (omega arith)) (nat_eq a n) refl
  where
    rest : Waiting
    rest = filter_map (λ r. paired r (p r)) (range_with_len (a + 1) k)

    here : nat_eq a n ≡ true → (v : Option ℕ) → p a ≡ v → version_in (cons_option (paired a v) rest) n ≡ p n
    here e None h =
        let same : a ≡ n = grind (arith, nat_tests) in
        below_all p (a + 1) k n (omega arith) ∙ sym (ap p (sym same) ∙ h)
    here e (Some v) h =
        let same : a ≡ n = grind (arith, nat_tests) in
        rw e (sym (ap p (sym same) ∙ h))

    later : (a + 1 ≤ n → version_in rest n ≡ p n) → nat_eq a n ≡ false → (v : Option ℕ) → version_in (cons_option (paired a v) rest) n ≡ p n
    later next e None = let more : a + 1 ≤ n = grind (arith, nat_tests) in next more
    later next e (Some v) = let more : a + 1 ≤ n = grind (arith, nat_tests) in rw e (next more)

    go : (a + 1 ≤ n → version_in rest n ≡ p n) → (b : Bool) → nat_eq a n ≡ b → version_in (filter_map (λ r. paired r (p r)) (range_with_len a (suc k))) n ≡ p n
    go next true e = here e (p a) refl
    go next false e = later next e (p a)

-- a resource is waited for in the version that is named for it
pub version_in-waiting_where : (p : ℕ → Option ℕ) (n : ℕ) → n < resource_limit → version_in (waiting_where p) n ≡ p n
unfolding waiting_where
version_in-waiting_where p n h = within p 0 resource_limit n (omega arith) (omega arith)

-- no wait is for a resource of a number that a program doesn't reach
pub version_in-waiting_where_above : (p : ℕ → Option ℕ) (n : ℕ) → resource_limit ≤ n → version_in (waiting_where p) n ≡ None
unfolding waiting_where
version_in-waiting_where_above p n h = above_all p 0 resource_limit n (omega arith)

-- each resource that is awaited is waited for in its version
pub version_in-in_versions : (version : ℕ → ℕ) (waits : Awaits) (n : ℕ) → version_in (in_versions version waits) n ≡ (if awaits.has waits n then Some (version n) else None)
version_in-in_versions version [] n = refl
version_in-in_versions version (r ∷ rs) n = go (nat_eq r n) refl (version_in-in_versions version rs n)
  where
    go : (b : Bool) → nat_eq r n ≡ b → version_in (in_versions version rs) n ≡ (if awaits.has rs n then Some (version n) else None)
        → version_in (in_versions version (r ∷ rs)) n ≡ (if awaits.has (r ∷ rs) n then Some (version n) else None)
    go true e rest = let same : r ≡ n = grind (arith, nat_tests) in rw e (ap (λ m. Some (version m)) same)
    go false e rest = rw e rest

-- a pair that is waited for by a wait for all that two waits are for is waited for by one of them
pub has-union : (a b : Waiting) (r v : ℕ) → has (union a b) r v ≡ true → (has a r v ≡ true) ⊎ (has b r v ≡ true)
has-union a b r v h = go (nat_lt r 64) refl
  where
    lesser_one : (u w : ℕ) → nat_eq (min u w) v ≡ true → (nat_eq u v ≡ true) ⊎ (nat_eq w v ≡ true)
    lesser_one u w e = pick (nat_le u w) refl
      where
        pick : (c : Bool) → nat_le u w ≡ c → (nat_eq u v ≡ true) ⊎ (nat_eq w v ≡ true)
        pick true f = let same : min u w ≡ u = grind (arith, nat_tests) in inl (ap (λ m. nat_eq m v) (sym same) ∙ e)
        pick false f = let same : min u w ≡ w = grind (arith, nat_tests) in inr (ap (λ m. nat_eq m v) (sym same) ∙ e)

    one_of : (x y : Option ℕ) → option_eq nat_eq (lesser x y) (Some v) ≡ true → (option_eq nat_eq x (Some v) ≡ true) ⊎ (option_eq nat_eq y (Some v) ≡ true)
    one_of None y e = inr e
    one_of (Some u) None e = inl e
    one_of (Some u) (Some w) e = lesser_one u w e

    go : (c : Bool) → nat_lt r 64 ≡ c → (has a r v ≡ true) ⊎ (has b r v ≡ true)
    go true f =
        let small : r < resource_limit = grind (arith, nat_tests) in
        one_of (version_in a r) (version_in b r)
        (ap (λ x. option_eq nat_eq x (Some v)) (sym (version_in-waiting_where (λ q. lesser (version_in a q) (version_in b q)) r small)) ∙ h)
    go false f =
        let past : resource_limit ≤ r = grind (arith, nat_tests) in
        let none = ap (λ x. option_eq nat_eq x (Some v)) (version_in-waiting_where_above (λ q. lesser (version_in a q) (version_in b q)) r past) in
        absurd (cc (none, h))

-- a pair that resources in versions are waited for with is one of these resources in its version
pub has-in_versions : (version : ℕ → ℕ) (waits : Awaits) (r v : ℕ) → has (in_versions version waits) r v ≡ true → (awaits.has waits r ≡ true) × (version r ≡ v)
has-in_versions version waits r v h =
    go (awaits.has waits r) refl (ap (λ x. option_eq nat_eq x (Some v)) (sym (version_in-in_versions version waits r)) ∙ h)
  where
    go : (c : Bool) → awaits.has waits r ≡ c → option_eq nat_eq (if c then Some (version r) else None) (Some v) ≡ true → (awaits.has waits r ≡ true) × (version r ≡ v)
    go true f e = (f, same_number (version r) v e)
    go false f e = absurd (cc)
