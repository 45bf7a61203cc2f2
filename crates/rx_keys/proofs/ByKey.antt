-- Tables by key, one child more.
use Rattle.std.proofs.Common.{◌≡◌, ℕ, suc, ◌+◌, ◌≤◌, Bool, true, false, cond, ◌&&◌, List, [], ◌∷◌, ◌++◌, ℤ, Option, Some, None, length, take, nat_eq, refl, sym, ap, ◌∙◌, arith, append_assoc, is_none}
use Rattle.std.specs.Prelude.{slice_get, count_by, option_and_then}
use Rattle.std.specs.Option.{option_map_or}
use Rattle.std.specs.Ordering.{int_eq}
use Rattle.std.proofs.lemmas.Bool.Decides.{Decides-eqb, Decides-int_eq}
use Rattle.std.proofs.lemmas.List.{length-take-le, append-nil}
use Rattle.std.proofs.lemmas.List.Sums.{sum_by-append}
use Rattle.std.proofs.lemmas.Option.{slice_get_past, slice_get_within}
use Rattle.rx_elem.specs.Elements.{Element, Key, key_of}
use Rattle.rx_elem.specs.Identity.{Identity, at_index, at_key, has_key, same_identity, identity_after, identities_after, identities}
use Rattle.rx_keys.specs.Dense.{FindsKeys, FindsNext, HasKeysOnce, entry_at}
use Rattle.rx_keys.specs.Found.{found_from, found_in}
use Rattle.rx_keys.proofs.Distinct.{same_identity_self}
use Rattle.rx_keys.proofs.Finding.{length-all}
use Rattle.rx_keys.proofs.Matches.{identity-there}

-- what stands at the end is found last
found_from-end : (found : Option ℕ) (place : ℕ) (ids : List Identity) (y x : Identity)
    → found_from found place (ids ++ y ∷ []) x ≡ cond (same_identity y x) (Some (place + length ids)) (found_from found place ids x)
found_from-end found place [] y x = ap (λ (n : ℕ). cond (same_identity y x) (Some n) found) (omega arith)
found_from-end found place (z ∷ ids) y x =
    let now : Option ℕ = cond (same_identity z x) (Some place) found in
    found_from-end now (place + 1) ids y x ∙ ap (λ (n : ℕ). cond (same_identity y x) (Some n) (found_from now (place + 1) ids x)) (omega arith)

identities-end : (before es : List Element) (e : Element)
    → identities_after before (es ++ e ∷ []) ≡ identities_after before es ++ identity_after (before ++ es) (key_of e) ∷ []
identities-end before [] e = ap (λ (ds : List Element). identity_after ds (key_of e) ∷ []) (sym (append-nil before))
identities-end before (d ∷ es) e =
    ap (λ (is : List Identity). identity_after before (key_of d) ∷ is)
    (identities-end (before ++ d ∷ []) es e
    ∙ ap (λ (ds : List Element). identities_after (before ++ d ∷ []) es ++ identity_after ds (key_of e) ∷ []) (append_assoc before (d ∷ []) es))

-- a key is found at the last child, or else among those before it
found_in-end : (es : List Element) (e : Element) (k : ℤ) (o : ℕ)
    → found_in (identities (es ++ e ∷ [])) (at_key k o) ≡ cond (same_identity (identity_after es (key_of e)) (at_key k o)) (Some (length es)) (found_in (identities es) (at_key k o))
found_in-end es e k o =
    let id : Identity = identity_after es (key_of e) in
    ap (λ (is : List Identity). found_from None 0 is (at_key k o)) (identities-end [] es e)
    ∙ found_from-end None 0 (identities es) id (at_key k o)
    ∙ ap (λ (n : ℕ). cond (same_identity id (at_key k o)) (Some n) (found_in (identities es) (at_key k o))) size
  where
    size : 0 + length (identities es) ≡ length es
    size = omega (arith, length-all es)

-- the last child is counted too
count-end : (k : ℤ) (es : List Element) (e : Element) → count_by (has_key k) (es ++ e ∷ []) ≡ count_by (has_key k) es + cond (has_key k e) 1 0
count-end k es e = omega (arith, sum_by-append (λ x. cond (has_key k x) 1 0) es (e ∷ []))

-- whether numbers are equal is the same the other way round
int_eq-sym : (a b : ℤ) (t : Bool) → int_eq a b ≡ t → int_eq b a ≡ t
int_eq-sym a b true h = (Decides-int_eq b a).1 (sym ((Decides-int_eq a b).0 h))
int_eq-sym a b false h = go (int_eq b a) refl
  where
    go : (t : Bool) → int_eq b a ≡ t → t ≡ false
    go true e = let yes : int_eq a b ≡ true = (Decides-int_eq a b).1 (sym ((Decides-int_eq b a).0 e)) in absurd (cc)
    go false e = refl

-- a child with a key has it, and no other
has_own : (k l : ℤ) (e : Element) (t : Bool) → key_of e ≡ Some l → int_eq l k ≡ t → has_key k e ≡ t
has_own k l e t own same = ap (λ (x : Key). option_map_or (int_eq k) x false) own ∙ int_eq-sym l k t same

has_none : (k : ℤ) (e : Element) → key_of e ≡ None → has_key k e ≡ false
has_none k e none = ap (λ (x : Key). option_map_or (int_eq k) x false) none

count-other : (k : ℤ) (es : List Element) (e : Element) → has_key k e ≡ false → count_by (has_key k) (es ++ e ∷ []) ≡ count_by (has_key k) es
count-other k es e h = count-end k es e ∙ ap (λ (b : Bool). count_by (has_key k) es + cond b 1 0) h ∙ omega arith

count-same : (k : ℤ) (es : List Element) (e : Element) → has_key k e ≡ true → count_by (has_key k) (es ++ e ∷ []) ≡ suc (count_by (has_key k) es)
count-same k es e h = count-end k es e ∙ ap (λ (b : Bool). count_by (has_key k) es + cond b 1 0) h ∙ omega arith

-- a child without a key changes nothing
pub keys-unkeyed : (es : List Element) (e : Element) (table : List (Option ℕ)) → key_of e ≡ None → FindsKeys es table → FindsKeys (es ++ e ∷ []) table
keys-unkeyed es e table none h =
    record {
      counted = λ k. count-other k es e (has_none k e none) ∙ h.counted k;
      first = λ k. same k 0 ∙ h.first k;
      once = λ k o. same k (suc o) ∙ h.once k o;
    }
  where
    same : (k : ℤ) (o : ℕ) → found_in (identities (es ++ e ∷ [])) (at_key k o) ≡ found_in (identities es) (at_key k o)
    same k o =
        found_in-end es e k o
        ∙ ap (λ (x : Key). cond (same_identity (identity_after es x) (at_key k o)) (Some (length es)) (found_in (identities es) (at_key k o))) none

-- a key that the table had no place for is noted
pub keys-keyed : (es : List Element) (e : Element) (key : ℤ) (table after : List (Option ℕ)) → key_of e ≡ Some key → entry_at table key ≡ None
    → ((k : ℤ) → entry_at after k ≡ cond (int_eq key k) (Some (length es)) (entry_at table k)) → FindsKeys es table → FindsKeys (es ++ e ∷ []) after
keys-keyed es e key table after own free noted h = record { counted = λ k. counts k (int_eq key k) refl; first = first; once = once }
  where
    new : count_by (has_key key) es ≡ 0
    new = h.counted key ∙ ap (λ (x : Option ℕ). option_map_or (λ p. 1) x 0) free

    at : identity_after es (key_of e) ≡ at_key key 0
    at = ap (identity_after es) own ∙ ap (at_key key) new

    entry : (k : ℤ) (t : Bool) → int_eq key k ≡ t → entry_at after k ≡ cond t (Some (length es)) (entry_at table k)
    entry k t same = noted k ∙ ap (λ b. cond b (Some (length es)) (entry_at table k)) same

    counts : (k : ℤ) (t : Bool) → int_eq key k ≡ t → count_by (has_key k) (es ++ e ∷ []) ≡ option_map_or (λ p. 1) (entry_at after k) 0
    counts k true same =
        let one : key ≡ k = (Decides-int_eq key k).0 same in
        let none : count_by (has_key k) es ≡ 0 = ap (λ (l : ℤ). count_by (has_key l) es) (sym one) ∙ new in
        count-same k es e (has_own k key e true own same) ∙ ap suc none ∙ sym (ap (λ (x : Option ℕ). option_map_or (λ p. 1) x 0) (entry k true same))
    counts k false same =
        count-other k es e (has_own k key e false own same) ∙ h.counted k ∙ sym (ap (λ (x : Option ℕ). option_map_or (λ p. 1) x 0) (entry k false same))

    now : (k : ℤ) (o : ℕ) → found_in (identities (es ++ e ∷ [])) (at_key k o) ≡ cond (int_eq key k && nat_eq 0 o) (Some (length es)) (found_in (identities es) (at_key k o))
    now k o = found_in-end es e k o ∙ ap (λ (x : Identity). cond (same_identity x (at_key k o)) (Some (length es)) (found_in (identities es) (at_key k o))) at

    first : (k : ℤ) → found_in (identities (es ++ e ∷ [])) (at_key k 0) ≡ entry_at after k
    first k = now k 0 ∙ go (int_eq key k) ∙ sym (noted k)
      where
        go : (t : Bool) → cond (t && nat_eq 0 0) (Some (length es)) (found_in (identities es) (at_key k 0)) ≡ cond t (Some (length es)) (entry_at table k)
        go true = refl
        go false = h.first k

    once : HasKeysOnce (es ++ e ∷ [])
    once k o = now k (suc o) ∙ go (int_eq key k) (nat_eq 0 (suc o)) refl ∙ h.once k o
      where
        go : (t b : Bool) → nat_eq 0 (suc o) ≡ b → cond (t && b) (Some (length es)) (found_in (identities es) (at_key k (suc o))) ≡ found_in (identities es) (at_key k (suc o))
        go true true same = absurd (let e : 0 ≡ suc o = (Decides-eqb 0 (suc o)).0 same in omega (arith, e))
        go true false same = refl
        go false b same = refl

-- nothing is known yet
pub keys-none : (table : List (Option ℕ)) → ((k : ℤ) → entry_at table k ≡ None) → FindsKeys [] table
keys-none table empty =
    record {
      counted = λ k. sym (ap (λ (x : Option ℕ). option_map_or (λ p. 1) x 0) (empty k));
      first = λ k. sym (empty k);
      once = λ k o. refl;
    }

-- behind a new child with a key none can be the child with that key
pub next-keyed : (old es : List Element) (e : Element) (key : ℤ) (table after : List (Option ℕ)) → HasKeysOnce old → key_of e ≡ Some key
    → ((k : ℤ) → entry_at after k ≡ cond (int_eq key k) None (entry_at table k)) → FindsNext old table es → FindsNext old after (es ++ e ∷ [])
next-keyed old es e key table after once own taken h k = taken k ∙ go (int_eq key k) refl
  where
    go : (t : Bool) → int_eq key k ≡ t → cond t None (entry_at table k) ≡ found_in (identities old) (at_key k (count_by (has_key k) (es ++ e ∷ [])))
    go true same =
        sym (ap (λ (n : ℕ). found_in (identities old) (at_key k n)) (count-same k es e (has_own k key e true own same)) ∙ once k (count_by (has_key k) es))
    go false same =
        h k ∙ sym (ap (λ (n : ℕ). found_in (identities old) (at_key k n)) (count-other k es e (has_own k key e false own same)))

-- before the first new child each key is found where the table says
pub next-first : (old : List Element) (table : List (Option ℕ)) → FindsKeys old table → FindsNext old table []
next-first old table h k = sym (h.first k)

-- an old child is found by its position if it has no key
pub unkeyed-there : (old : List Element) (p : ℕ) (e : Element) (b : Bool) → slice_get old p ≡ Some e → b ≡ is_none (key_of e)
    → cond b (Some p) None ≡ found_in (identities old) (at_index p)
unkeyed-there old p e b there is =
    ap (λ (t : Bool). cond t (Some p) None) is ∙ go (key_of e) refl
    ∙ ap (option_and_then (λ (y : Identity). cond (same_identity y (at_index p)) (Some p) None)) (sym (identity-there [] old p e there))
  where
    size : length (take p old) ≡ p
    size = length-take-le p old (let w = slice_get_within old p e there in omega (arith, w))

    go : (x : Key) → key_of e ≡ x → cond (is_none x) (Some p) None ≡ cond (same_identity (identity_after (take p old) x) (at_index p)) (Some p) None
    go None h = sym (ap (λ (n : ℕ). cond (same_identity (at_index n) (at_index p)) (Some p) None) size ∙ ap (λ b. cond b (Some p) None) (same_identity_self (at_index p)))
    go (Some k) h = refl

-- past the old children none is found
pub unkeyed-past : (old : List Element) (p : ℕ) → length old ≤ p → None ≡ found_in (identities old) (at_index p)
unkeyed-past old p h =
    sym (ap (option_and_then (λ (y : Identity). cond (same_identity y (at_index p)) (Some p) None))
    (slice_get_past (identities old) p (let w = length-all old in omega (arith, w))))
