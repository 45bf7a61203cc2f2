-- Lists with the same keys have the same identities.
use Rattle.std.proofs.Common.{◌≡◌, ℕ, ◌+◌, ◌<◌, Bool, cond, List, [], ◌∷◌, ◌++◌, ℤ, Option, Some, None, map, length, get_or, take, refl, sym, ap, ◌∙◌, arith}
use Rattle.std.specs.Prelude.{false, slice_get, count_by}
use Rattle.std.specs.Option.{option_map_or}
use Rattle.std.specs.Ordering.{int_eq}
use Rattle.std.proofs.lemmas.Option.{slice_get-get_or}
use Rattle.std.proofs.lemmas.List.{map-append}
use Rattle.std.proofs.lemmas.List.Sums.{sum_by-cons}
use Rattle.rx_elem.specs.Elements.{Element, Key, key_of, kind_of, same_kind}
use Rattle.rx_elem.specs.Identity.{Identity, at_index, at_key, has_key, identity_after, identities_after, identities}
use Rattle.rx_keys.specs.Found.{found_in}
use Rattle.rx_keys.proofs.Distinct.{identities_distinct}
use Rattle.rx_keys.proofs.Matches.{found_in-Some, found_in-None, identity-there, match_at, place_of}

pub length-keys : (es fs : List Element) → map key_of es ≡ map key_of fs → length es ≡ length fs
length-keys [] [] h = refl
length-keys [] (f ∷ fs) h = absurd (cc)
length-keys (e ∷ es) [] h = absurd (cc)
length-keys (e ∷ es) (f ∷ fs) h = omega (arith, length-keys es fs (cc))

-- as many have a key
same_count : (k : ℤ) (es fs : List Element) → map key_of es ≡ map key_of fs → count_by (has_key k) es ≡ count_by (has_key k) fs
same_count k [] [] h = refl
same_count k [] (f ∷ fs) h = absurd (cc)
same_count k (e ∷ es) [] h = absurd (cc)
same_count k (e ∷ es) (f ∷ fs) h =
    let own : key_of e ≡ key_of f = cc in
    let same : has_key k e ≡ has_key k f = ap (λ (x : Key). option_map_or (int_eq k) x false) own in
    let one : Element → ℕ = λ x. cond (has_key k x) 1 0 in
    sum_by-cons one e es ∙ ((λ i. cond (same i) 1 0 + same_count k es fs (cc) i) ∙ sym (sum_by-cons one f fs))

same_after : (ds bs : List Element) (k : Key) → map key_of ds ≡ map key_of bs → identity_after ds k ≡ identity_after bs k
same_after ds bs None h = ap at_index (length-keys ds bs h)
same_after ds bs (Some k) h = ap (at_key k) (same_count k ds bs h)

same_identities : (ds bs es fs : List Element) → map key_of ds ≡ map key_of bs → map key_of es ≡ map key_of fs → identities_after ds es ≡ identities_after bs fs
same_identities ds bs [] [] g h = refl
same_identities ds bs [] (f ∷ fs) g h = absurd (cc)
same_identities ds bs (e ∷ es) [] g h = absurd (cc)
same_identities ds bs (e ∷ es) (f ∷ fs) g h =
    let own : key_of e ≡ key_of f = cc in
    let more : map key_of (ds ++ e ∷ []) ≡ map key_of (bs ++ f ∷ []) =
    map-append key_of ds (e ∷ []) ∙ ((λ i. g i ++ own i ∷ []) ∙ sym (map-append key_of bs (f ∷ []))) in
    (λ i. (same_after ds bs (key_of e) g ∙ ap (identity_after bs) own) i ∷ same_identities (ds ++ e ∷ []) (bs ++ f ∷ []) es fs more (cc) i)

-- an identity of a child is found at its place
found_at : (old : List Element) (x : Identity) (p : ℕ) → slice_get (identities old) p ≡ Some x → found_in (identities old) x ≡ Some p
found_at old x p h = go (found_in (identities old) x) refl
  where
    go : (o : Option ℕ) → found_in (identities old) x ≡ o → o ≡ Some p
    go None e = absurd (found_in-None old x e p h)
    go (Some q) e = ap Some (identities_distinct old q p x (found_in-Some old x q e) h)

-- a new child is the old one at its place if their kinds agree, else none
pub beside_at : (old new : List Element) (k : ℕ) (e o : Element) (b : Bool) → map key_of old ≡ map key_of new → k < length new → e ≡ get_or new k e → o ≡ get_or old k o
    → b ≡ same_kind (kind_of e) (kind_of o) → cond b (Some k) None ≡ place_of old (record { identity = identity_after (take k new) (key_of e); element = e })
beside_at old new k e o b keys lt is was kinds =
    let x : Identity = identity_after (take k new) (key_of e) in
    let there : slice_get (identities new) k ≡ Some x = identity-there [] new k e (slice_get-get_or new k e lt ∙ ap Some (sym is)) in
    let same : identities old ≡ identities new = same_identities [] [] old new refl keys in
    match_at old (record { identity = x; element = e }) k o b (found_at old x k (ap (λ (ids : List Identity). slice_get ids k) same ∙ there)) (omega (arith, lt, length-keys old new keys)) was kinds
