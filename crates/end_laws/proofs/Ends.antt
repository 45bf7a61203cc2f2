-- Null at the end of a list changes nothing of how new and old children are matched.
use Rattle.std.specs.Prelude.{◌≡◌, ℕ, zero, suc, ◌+◌, ◌≤◌, Bool, true, false, cond, not, ◌&&◌, List, [], ◌∷◌, ◌++◌, replicate, length, map, filter, Option, Some, None, slice_get, position}
use Rattle.std.specs.List.{zip, range_with_len, position_from}
use Rattle.std.specs.Option.{option_map_or}
use Rattle.std.proofs.Common.{refl, sym, ap, ◌∙◌, arith}
use Rattle.std.proofs.lemmas.List.{map-append}
use Rattle.std.proofs.lemmas.List.Elements.{filter_agree}
use Rattle.std.proofs.lemmas.Iterator.Adapters.{position_from-zero}
use Rattle.std.proofs.lemmas.Option.{slice_get_past}
use Rattle.rx_elem.specs.Elements.{Element, null, key_of, Kind, absent, of_text, of_host, of_comp, of_list, of_boundary, of_catcher, of_provider, kind_of, same_kind, is_present}
use Rattle.rx_elem.specs.Identity.{Identity, Child, same_identity, identity_after, identities_after, identified, is_same_child, old_places, is_reused, removed_places}

-- Children behind others

abbrev children_after : List Element → List Element → List Child
children_after before es = map (λ c. record { identity = c.0; element = c.1 }) (zip (identities_after before es) es)

-- the children of a longer list begin with those of the shorter one
more_children : (before xs ys : List Element)
    → (late : List Element) × (children_after before (xs ++ ys) ≡ children_after before xs ++ children_after late ys)
more_children before [] ys = (before, refl)
more_children before (x ∷ xs) ys =
    let (late, e) = more_children (before ++ x ∷ []) xs ys in
    (late, ap (λ l. record { identity = identity_after before (key_of x); element = x } ∷ l) e)

-- What is found

module _ (test : Child → Bool) where
  found_before : (n : ℕ) (xs zs : List Child) → ((m : ℕ) → position_from test m zs ≡ None) → position_from test n (xs ++ zs) ≡ position_from test n xs
  found_before n [] zs none = none n
  found_before n (x ∷ xs) zs none = ap (cond (test x) (Some n)) (found_before (n + 1) xs zs none)

  no_null_found : ((i : Identity) → test (record { identity = i; element = null }) ≡ false) → (n : ℕ) (late : List Element) (k : ℕ)
      → position_from test n (children_after late (replicate k null)) ≡ None
  no_null_found fails n late zero = refl
  no_null_found fails n late (suc k) = rw (fails (identity_after late None)) (no_null_found fails (n + 1) (late ++ null ∷ []) k)

  none_found : ((x : Child) → test x ≡ false) → (n : ℕ) (xs : List Child) → position_from test n xs ≡ None
  none_found fails n [] = refl
  none_found fails n (x ∷ xs) = rw (fails x) (none_found fails (n + 1) xs)

  -- a test that null doesn't pass finds the same without null at the end
  found_same : ((i : Identity) → test (record { identity = i; element = null }) ≡ false) → (es : List Element) (k : ℕ)
      → position test (identified (es ++ replicate k null)) ≡ position test (identified es)
  found_same fails es k =
      let (late, e) = more_children [] es (replicate k null) in
      ap (position test) e
      ∙ (position_from-zero test (identified es ++ children_after late (replicate k null))
      ∙ (found_before 0 (identified es) (children_after late (replicate k null)) (λ m. no_null_found fails m late k)
      ∙ sym (position_from-zero test (identified es))))

-- What is absent agrees with nothing

and_false : (b : Bool) → (b && false) ≡ false
and_false true = refl
and_false false = refl

absent_new : (k : Kind) → same_kind absent k ≡ false
absent_new absent = refl
absent_new of_text = refl
absent_new (of_host n) = refl
absent_new (of_comp c) = refl
absent_new of_list = refl
absent_new of_boundary = refl
absent_new of_catcher = refl
absent_new (of_provider c) = refl

absent_old : (k : Kind) → same_kind k absent ≡ false
absent_old absent = refl
absent_old of_text = refl
absent_old (of_host n) = refl
absent_old (of_comp c) = refl
absent_old of_list = refl
absent_old of_boundary = refl
absent_old of_catcher = refl
absent_old (of_provider c) = refl

null_new : (i : Identity) (d : Child) → is_same_child (record { identity = i; element = null }) d ≡ false
null_new i d = rw (absent_new (kind_of d.element)) (and_false (same_identity i d.identity))

null_old : (c : Child) (i : Identity) → is_same_child c (record { identity = i; element = null }) ≡ false
null_old c i = rw (absent_old (kind_of c.element)) (and_false (same_identity c.identity i))

-- The old places of new children

-- null at the end of the old list is the old one of no child
pub old_end : (old : List Element) (j : ℕ) (cs : List Child)
    → map (λ c. position (is_same_child c) (identified (old ++ replicate j null))) cs ≡ map (λ c. position (is_same_child c) (identified old)) cs
old_end old j [] = refl
old_end old j (c ∷ cs) = rw (found_same (is_same_child c) (null_old c) old j, old_end old j cs) refl

-- null at the end of the new list was nowhere
new_end : (olds : List Child) (late : List Element) (k : ℕ)
    → map (λ c. position (is_same_child c) olds) (children_after late (replicate k null)) ≡ replicate k None
new_end olds late zero = refl
new_end olds late (suc k) =
    let at : Child = record { identity = identity_after late None; element = null } in
    let nowhere : position (is_same_child at) olds ≡ None =
    position_from-zero (is_same_child at) olds ∙ none_found (is_same_child at) (null_new (identity_after late None)) 0 olds in
    rw (nowhere, new_end olds (late ++ null ∷ []) k) refl

pub old_places_end : (old new : List Element) (j k : ℕ)
    → old_places (old ++ replicate j null) (new ++ replicate k null) ≡ old_places old new ++ replicate k None
old_places_end old new j k =
    let (late, e) = more_children [] new (replicate k null) in
    old_end old j (identified (new ++ replicate k null))
    ∙ (ap (map (λ c. position (is_same_child c) (identified old))) e
    ∙ (map-append (λ c. position (is_same_child c) (identified old)) (identified new) (children_after late (replicate k null))
    ∙ ap (λ l. old_places old new ++ l) (new_end (identified old) late k)))

-- The old children that are gone

present_same : (es : List Element) (j p : ℕ)
    → option_map_or is_present (slice_get (es ++ replicate j null) p) false ≡ option_map_or is_present (slice_get es p) false
present_same [] zero p = refl
present_same [] (suc j) zero = refl
present_same [] (suc j) (suc p) = present_same [] j p
present_same (e ∷ es) j zero = refl
present_same (e ∷ es) j (suc p) = present_same es j p

reused_same : (places : List (Option ℕ)) (k p : ℕ) → is_reused (places ++ replicate k None) p ≡ is_reused places p
reused_same [] zero p = refl
reused_same [] (suc k) p = reused_same [] k p
reused_same (o ∷ os) k p = rw (reused_same os k p) refl

module _ (test : ℕ → Bool) where
  none_from : (n : ℕ) (xs : List Element) → ((p : ℕ) → n ≤ p → test p ≡ false) → filter test (range_with_len n (length xs)) ≡ []
  none_from n [] fails = refl
  none_from n (x ∷ xs) fails =
      let rest : (p : ℕ) → n + 1 ≤ p → test p ≡ false = λ p l. fails p (omega arith) in
      rw (fails n (omega arith), none_from (n + 1) xs rest) refl

  none_past : (n : ℕ) (xs ys : List Element) → ((p : ℕ) → n + length xs ≤ p → test p ≡ false)
      → filter test (range_with_len n (length (xs ++ ys))) ≡ filter test (range_with_len n (length xs))
  none_past n [] ys fails = none_from n ys (λ p l. fails p (omega arith))
  none_past n (x ∷ xs) ys fails =
      let rest : (p : ℕ) → n + 1 + length xs ≤ p → test p ≡ false = λ p l. fails p (omega arith) in
      rw (none_past (n + 1) xs ys rest) refl

-- what stands at a place of an old list is gone
abbrev goes : List Element → List (Option ℕ) → ℕ → Bool
goes es places p = option_map_or is_present (slice_get es p) false && not (is_reused places p)

pub removed_places_end : (old new : List Element) (j k : ℕ)
    → removed_places (old ++ replicate j null) (new ++ replicate k null) ≡ removed_places old new
removed_places_end old new j k =
    filter_agree (goes (old ++ replicate j null) (old_places (old ++ replicate j null) (new ++ replicate k null))) (goes old (old_places old new)) each
    (range_with_len 0 (length (old ++ replicate j null)))
    ∙ none_past (goes old (old_places old new)) 0 old (replicate j null) past
  where
    each : (p : ℕ) → goes (old ++ replicate j null) (old_places (old ++ replicate j null) (new ++ replicate k null)) p ≡ goes old (old_places old new) p
    each p = rw (present_same old j p, old_places_end old new j k, reused_same (old_places old new) k p) refl

    past : (p : ℕ) → 0 + length old ≤ p → goes old (old_places old new) p ≡ false
    past p l =
        let gone : slice_get old p ≡ None = slice_get_past old p (omega arith) in
        rw gone refl
