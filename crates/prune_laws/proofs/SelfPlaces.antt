-- The elements of a list against themselves: each stands at its own place, none moves, and none is gone.
use Rattle.std.specs.Prelude.{◌≡◌, ℕ, zero, suc, ◌+◌, ◌<◌, Bool, true, false, not, ◌&&◌, ◌||◌, List, [], ◌∷◌, ◌++◌, Option, Some, None, filter, map, length, position, slice_get, nat_eq, nat_lt, refl}
use Rattle.std.specs.List.{list_any, range_with_len, zip}
use Rattle.std.specs.Option.{option_map_or}
use Rattle.std.proofs.Common.{arith, subst, sym}
use Rattle.std.proofs.lemmas.Bool.Decides.{Decides-eqb, nat_tests}
use Rattle.rx_elem.specs.Elements.{Element, Key, key_of, kind_of, is_present, same_kind}
use Rattle.rx_elem.specs.Elements as elements
use Rattle.rx_elem.specs.Identity.{Child, Identity, identified, identities_after, identity_after, is_reused, is_same_child, moves, moves_after, old_places, removed_places}
use Rattle.rx_elem.proofs.Equality.{same_kind-self}
use Rattle.rx_elem.proofs.Identities.{child_of, same_self}
use Rattle.host_laws.proofs.Fronts.{null_was_nothing}
use Rattle.host_laws.proofs.IdentityLaws.{position_is_the_one}

-- Where the elements of a list stand

abbrev own_place : ℕ → Bool → Option ℕ
own_place p true = Some p
own_place p false = None

-- the place of each element in its own list, from this one on; null has none
abbrev own_places : ℕ → List Element → List (Option ℕ)
own_places p [] = []
own_places p (e ∷ es) = own_place p (is_present e) ∷ own_places (p + 1) es

absent_is_null : (e : Element) → is_present e ≡ false → e ≡ elements.null
absent_is_null elements.null h = refl
absent_is_null (elements.text t) h = absurd (cc h)
absent_is_null (elements.host n k attrs es) h = absurd (cc h)
absent_is_null (elements.comp c k ps es) h = absurd (cc h)
absent_is_null (elements.list marked es) h = absurd (cc h)
absent_is_null (elements.boundary k f es) h = absurd (cc h)
absent_is_null (elements.catcher k f es) h = absurd (cc h)
absent_is_null (elements.provider c k x es) h = absurd (cc h)

finds_itself : (whole before : List Element) (p : ℕ) (es : List Element)
    → ((i q : ℕ) → q ≡ p + i → (c : Child) → slice_get (map child_of (zip (identities_after before es) es)) i ≡ Some c → slice_get (identified whole) q ≡ Some c)
    → map (λ c. position (is_same_child c) (identified whole)) (map child_of (zip (identities_after before es) es)) ≡ own_places p es
finds_itself whole before p [] ids = refl
finds_itself whole before p (e ∷ es) ids =
    rw (here (is_present e) refl, finds_itself whole (before ++ e ∷ []) (p + 1) es (λ i q h. ids (suc i) q (omega arith))) refl
  where
    here : (b : Bool) → is_present e ≡ b → position (is_same_child (child_of (identity_after before (key_of e), e))) (identified whole) ≡ own_place p b
    here true h =
        let own : Child = child_of (identity_after before (key_of e), e) in
        let itself : is_same_child own own ≡ true = rw (same_self own.identity, same_kind-self e h) refl in
        position_is_the_one whole own p own (ids 0 p (omega arith) own refl) itself
    here false h =
        let own : Identity = identity_after before (key_of e) in
        subst (λ x. position (is_same_child (child_of (own, x))) (identified whole) ≡ None) (sym (absent_is_null e h))
        (null_was_nothing (identified whole) own)

pub found_at_own : (es : List Element) → old_places es es ≡ own_places 0 es
found_at_own es = finds_itself es [] 0 es (λ i q e c h. let same : i ≡ q = omega arith in subst (λ j. slice_get (identified es) j ≡ Some c) same h)

-- None moves

abbrev AllBelow : ℕ → List ℕ → Type 0
AllBelow p [] = Unit {0}
AllBelow p (q ∷ qs) = (q < p) × AllBelow p qs

below_more : (p : ℕ) (qs : List ℕ) → AllBelow p qs → AllBelow (p + 1) qs
below_more p [] h = tt
below_more p (q ∷ qs) h = (omega arith, below_more p qs h.1)

none_above : (p : ℕ) (qs : List ℕ) → AllBelow p qs → list_any (nat_lt p) qs ≡ false
none_above p [] h = refl
none_above p (q ∷ qs) h =
    let first : nat_lt p q ≡ false = grind (arith, nat_tests) in rw (first, none_above p qs h.1) refl

-- that each child of a list stays
abbrev pub all_stay : List Element → List Bool
all_stay = map (λ e. false)

none_moves : (p : ℕ) (earlier : List ℕ) (es : List Element) → AllBelow p earlier → moves_after earlier (own_places p es) ≡ all_stay es
none_moves p earlier [] h = refl
none_moves p earlier (e ∷ es) h = go (is_present e) (λ qs below. none_moves (p + 1) qs es below)
  where
    go : (b : Bool) → ((qs : List ℕ) → AllBelow (p + 1) qs → moves_after qs (own_places (p + 1) es) ≡ all_stay es)
        → moves_after earlier (own_place p b ∷ own_places (p + 1) es) ≡ false ∷ all_stay es
    go true later = rw (none_above p earlier h, later (p ∷ earlier) (omega arith, below_more p earlier h)) refl
    go false later = rw (later earlier (below_more p earlier h)) refl

-- Against its own elements no child of a list moved.
pub stay_in_place : (es : List Element) → moves (old_places es es) ≡ all_stay es
stay_in_place es = rw (found_at_own es) (none_moves 0 [] es tt)

-- None is gone

present_is_reused : (p : ℕ) (es : List Element) (i q : ℕ) → q ≡ p + i → option_map_or is_present (slice_get es i) false ≡ true → is_reused (own_places p es) q ≡ true
present_is_reused p [] i q at h = absurd (cc h)
present_is_reused p (e ∷ es) zero q at h =
    let same : nat_eq q p ≡ true = (Decides-eqb q p).1 (omega arith) in rw (h, same) refl
present_is_reused p (e ∷ es) (suc i) q at h =
    let later = present_is_reused (p + 1) es i q (omega arith) h in go (option_map_or (nat_eq q) (own_place p (is_present e)) false) later
  where
    go : (b : Bool) → is_reused (own_places (p + 1) es) q ≡ true → (b || is_reused (own_places (p + 1) es) q) ≡ true
    go true k = refl
    go false k = k

none_passes : (test : ℕ → Bool) → ((p : ℕ) → test p ≡ false) → (ps : List ℕ) → filter test ps ≡ []
none_passes test fails [] = refl
none_passes test fails (p ∷ ps) = rw (fails p) (none_passes test fails ps)

-- Against its own elements no child of a list is gone.
pub none_removed : (es : List Element) → removed_places es es ≡ []
none_removed es =
    rw (found_at_own es)
    (none_passes (λ p. option_map_or is_present (slice_get es p) false && not (is_reused (own_places 0 es) p))
    (λ p. go p (option_map_or is_present (slice_get es p) false) refl) (range_with_len 0 (length es)))
  where
    go : (p : ℕ) (b : Bool) → option_map_or is_present (slice_get es p) false ≡ b → (b && not (is_reused (own_places 0 es) p)) ≡ false
    go p true h = rw (present_is_reused 0 es p p (omega arith) h) refl
    go p false h = refl
