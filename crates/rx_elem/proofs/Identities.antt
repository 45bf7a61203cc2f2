-- Identities of children: those of a list are distinct.
use Rattle.std.specs.Option.{option_map_or}
use Rattle.std.specs.Ordering.{int_eq}
use Rattle.std.specs.Prelude.{Bool, IsTrue, List, None, Some, [], cond, count_by, false, length, nat_eq, refl, true, ℕ, ℤ, ◌++◌, ◌+◌, ◌<◌, ◌∷◌, ◌≡◌, ◌≤◌}
use Rattle.std.proofs.Common.{ap, arith, subst, sym, ◌∙◌}
use Rattle.std.proofs.lemmas.Bool.Decides.{Decides-int_eq, nat_tests}
use Rattle.std.proofs.lemmas.List.{length-append}
use Rattle.std.proofs.lemmas.List.Sums.{sum_by_push}
use Rattle.rx_elem.specs.Elements.{Element, Key, key_of}
use Rattle.rx_elem.specs.Identity.{Child, Identity, at_index, at_key, has_key, identities_after, identity_after, same_identity}
use Rattle.rx_elem.proofs.Deciding.{and_passes, same_number}

pub same_ids : (i j : Identity) → same_identity i j ≡ true → i ≡ j
same_ids (at_key k o) (at_key l p) h =
    let both = and_passes (int_eq k l) (nat_eq o p) h in
    let a : k ≡ l = (Decides-int_eq k l).0 both.0 in
    let b : o ≡ p = same_number o p both.1 in
    cc
same_ids (at_index i) (at_index j) h = ap at_index (same_number i j h)
same_ids (at_key k o) (at_index j) h = absurd (cc h)
same_ids (at_index i) (at_key l p) h = absurd (cc h)

pub same_self : (i : Identity) → IsTrue (same_identity i i)
same_self (at_key k o) =
    let a : int_eq k k ≡ true = (Decides-int_eq k k).1 refl in
    let b : nat_eq o o ≡ true = grind (arith, nat_tests) in
    rw (a, b) refl
same_self (at_index i) = grind (arith, nat_tests)

-- a child by its identity and its element
abbrev pub child_of : Identity × Element → Child
child_of c = record { identity = c.0; element = c.1 }

-- Identities in a list are distinct

abbrev pub Absent : Identity → List Identity → Type 0
Absent i [] = Unit {0}
Absent i (j ∷ ids) = (i ≡ j → ⊥) × Absent i ids

abbrev pub Distinct : List Identity → Type 0
Distinct [] = Unit {0}
Distinct (i ∷ ids) = Absent i ids × Distinct ids

-- an identity that only earlier siblings can have
abbrev pub IsEarlier : Identity → List Element → Type 0
IsEarlier (at_key k o) before = o < count_by (has_key k) before
IsEarlier (at_index i) before = i < length before

count_push : (k : ℤ) (before : List Element) (e : Element) → count_by (has_key k) (before ++ e ∷ []) ≡ count_by (has_key k) before + cond (has_key k e) 1 0
count_push k before e = sum_by_push (λ x. cond (has_key k x) 1 0) before e

pub earlier_more : (i : Identity) (before : List Element) (e : Element) → IsEarlier i before → IsEarlier i (before ++ e ∷ [])
earlier_more (at_key k o) before e h = omega (arith, count_push k before e)
earlier_more (at_index i) before e h = simp length-append (omega arith)

pub earlier_differs : (i : Identity) (before : List Element) (k : Key) → IsEarlier i before → i ≡ identity_after before k → ⊥
earlier_differs (at_key k o) before None h e = cc
earlier_differs (at_key k o) before (Some l) h e =
    let same : k ≡ l = cc in
    let equal : o ≡ count_by (has_key l) before = cc in
    let lt : o < count_by (has_key l) before = subst (λ (m : ℤ). o < count_by (has_key m) before) same h in
    omega arith
earlier_differs (at_index i) before None h e =
    let equal : i ≡ length before = cc in
    omega arith
earlier_differs (at_index i) before (Some l) h e = cc

earlier_absent : (i : Identity) (before es : List Element) → IsEarlier i before → Absent i (identities_after before es)
earlier_absent i before [] h = tt
earlier_absent i before (e ∷ es) h =
    (λ same. earlier_differs i before (key_of e) h same, earlier_absent i (before ++ e ∷ []) es (earlier_more i before e h))

pub own_earlier : (before : List Element) (e : Element) (k : Key) → key_of e ≡ k → IsEarlier (identity_after before k) (before ++ e ∷ [])
own_earlier before e None same = simp length-append (omega arith)
own_earlier before e (Some k) same =
    let equal : int_eq k k ≡ true = (Decides-int_eq k k).1 refl in
    let has : has_key k e ≡ true = subst (λ (l : Key). option_map_or (int_eq k) l false ≡ true) (sym same) equal in
    let more : count_by (has_key k) (before ++ e ∷ []) ≡ count_by (has_key k) before + 1 = count_push k before e ∙ ap (λ b. count_by (has_key k) before + cond b 1 0) has in
    omega arith

pub distinct_after : (before es : List Element) → Distinct (identities_after before es)
distinct_after before [] = tt
distinct_after before (e ∷ es) =
    (earlier_absent (identity_after before (key_of e)) (before ++ e ∷ []) es (own_earlier before e (key_of e) refl), distinct_after (before ++ e ∷ []) es)

abbrev pub equals : Identity → List Identity → ℕ
equals w [] = 0
equals w (i ∷ ids) = cond (same_identity i w) 1 0 + equals w ids

absent_equals : (w : Identity) (ids : List Identity) → Absent w ids → equals w ids ≤ 0
absent_equals w [] h = omega arith
absent_equals w (i ∷ ids) h = go (same_identity i w) refl (absent_equals w ids h.1)
  where
    go : (b : Bool) → same_identity i w ≡ b → equals w ids ≤ 0 → cond b 1 0 + equals w ids ≤ 0
    go true e k = absurd (h.0 (sym (same_ids i w e)))
    go false e k = omega arith

pub distinct_equals : (w : Identity) (ids : List Identity) → Distinct ids → equals w ids ≤ 1
distinct_equals w [] h = omega arith
distinct_equals w (i ∷ ids) h = go (same_identity i w) refl (distinct_equals w ids h.1)
  where
    go : (b : Bool) → same_identity i w ≡ b → equals w ids ≤ 1 → cond b 1 0 + equals w ids ≤ 1
    go true e k =
        let gone = absent_equals w ids (subst (λ (j : Identity). Absent j ids) (same_ids i w e) h.0) in
        omega arith
    go false e k = omega arith
