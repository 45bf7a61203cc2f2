-- Lists with the same children, place by place: each new child is the old one there, none moves, and none is gone.
use Rattle.std.specs.Prelude.{◌≡◌, ℕ, zero, suc, ◌+◌, ◌<◌, Bool, true, false, not, ◌&&◌, ◌||◌, List, [], ◌∷◌, ◌++◌, ℤ, Option, Some, None, cond, count_by, filter, length, map, option_and_then, position, slice_get, nat_eq, nat_lt, refl}
use Rattle.std.specs.List.{list_any, range_with_len, zip}
use Rattle.std.specs.Option.{option_flatten, option_map_or}
use Rattle.std.specs.Ordering.{int_eq}
use Rattle.std.proofs.Common.{arith, ap, subst, sym, ◌∙◌, get_or, length-append}
use Rattle.std.proofs.lemmas.Bool.Decides.{Decides-eqb, nat_tests}
use Rattle.std.proofs.lemmas.List.Quantifiers.{position-Some}
use Rattle.std.proofs.lemmas.List.Sums.{sum_by_push}
use Rattle.rx_elem.specs.Elements.{Element, Key, Kind, absent, of_text, of_host, of_comp, of_list, of_boundary, of_catcher, of_provider, key_of, kind_of, is_present, same_kind}
use Rattle.rx_elem.specs.Elements as elements
use Rattle.rx_elem.specs.Identity.{Child, Identity, at_index, at_key, has_key, identified, identities_after, identity_after, is_reused, is_same_child, same_identity, moves_after, old_places, removed_places}
use Rattle.rx_elem.specs.Trees.{Node, Forest, none, vacant, child, element_of, elements_in, places}
use Rattle.rx_elem.specs.Compare.{Past, pasts, node_at, gone_nodes}
use Rattle.rx_elem.proofs.Identities.{child_of, same_self}
use Rattle.rx_keys.proofs.Distinct.{position_is_the_one}
use Rattle.rx_compare.specs.InPlace.{AreInPlace, stayed}

-- Elements beside each other

-- an old element and a new one at one place: both stand for one node, or both for none
record IsBeside (o e : Element) : Type 0 where
  key : key_of o ≡ key_of e
  there : is_present o ≡ is_present e
  kind : is_present e ≡ true → same_kind (kind_of e) (kind_of o) ≡ true

-- the same for two lists, place by place
abbrev AreBeside : (os es : List Element) → Type 0
AreBeside [] [] = Unit {0}
AreBeside (o ∷ os) (e ∷ es) = IsBeside o e × AreBeside os es
AreBeside _ _ = ⊥

none_absent : (k : Kind) → same_kind k absent ≡ false
none_absent absent = refl
none_absent of_text = refl
none_absent (of_host n) = refl
none_absent (of_comp c) = refl
none_absent of_list = refl
none_absent of_boundary = refl
none_absent of_catcher = refl
none_absent (of_provider c) = refl

pub new_present : (e o : Element) → same_kind (kind_of e) (kind_of o) ≡ true → is_present e ≡ true
new_present elements.null o h = absurd (cc h)
new_present (elements.text t) o h = refl
new_present (elements.host n k attrs es) o h = refl
new_present (elements.comp c k ps es) o h = refl
new_present (elements.list marked es) o h = refl
new_present (elements.boundary k f es) o h = refl
new_present (elements.catcher k f es) o h = refl
new_present (elements.provider c k x es) o h = refl

old_present : (e o : Element) → same_kind (kind_of e) (kind_of o) ≡ true → is_present o ≡ true
old_present e elements.null h = let no : same_kind (kind_of e) absent ≡ false = none_absent (kind_of e) in absurd (cc)
old_present e (elements.text t) h = refl
old_present e (elements.host n k attrs es) h = refl
old_present e (elements.comp c k ps es) h = refl
old_present e (elements.list marked es) h = refl
old_present e (elements.boundary k f es) h = refl
old_present e (elements.catcher k f es) h = refl
old_present e (elements.provider c k x es) h = refl

beside_of : (os ns : Forest) → AreInPlace os ns → AreBeside (elements_in os) (elements_in ns)
beside_of none none h = tt
beside_of none (vacant ns) h = absurd h
beside_of none (child n ns) h = absurd h
beside_of (vacant os) none h = absurd h
beside_of (vacant os) (vacant ns) h = (record { key = refl; there = refl; kind = λ f. absurd (cc f) }, beside_of os ns h)
beside_of (vacant os) (child n ns) h = absurd h
beside_of (child o os) none h = absurd h
beside_of (child o os) (vacant ns) h = absurd h
beside_of (child o os) (child n ns) h =
    let was : is_present (element_of o) ≡ true = old_present (element_of n) (element_of o) h.0.kind in
    let is : is_present (element_of n) ≡ true = new_present (element_of n) (element_of o) h.0.kind in
    (record { key = h.0.key; there = was ∙ sym is; kind = λ f. h.0.kind }, beside_of os ns h.1)

-- Where they stand

abbrev pub own_place : ℕ → Bool → Option ℕ
own_place p true = Some p
own_place p false = None

-- the place of each element in its own list, from this one on; null has none
abbrev pub own_places : ℕ → List Element → List (Option ℕ)
own_places p [] = []
own_places p (e ∷ es) = own_place p (is_present e) ∷ own_places (p + 1) es

-- as many siblings are before, and as many with each key
record AreAsMany (bs ds : List Element) : Type 0 where
  all : length bs ≡ length ds
  keyed : (k : ℤ) → count_by (has_key k) bs ≡ count_by (has_key k) ds

one_more : (bs ds : List Element) (o e : Element) → key_of o ≡ key_of e → AreAsMany bs ds → AreAsMany (bs ++ o ∷ []) (ds ++ e ∷ [])
one_more bs ds o e k h = record {
  all = omega (arith, h.all, length-append bs (o ∷ []), length-append ds (e ∷ []));
  keyed = λ x.
      let one : Element → ℕ = λ y. cond (has_key x y) 1 0 in
      let by_key : Key → ℕ = λ y. cond (option_map_or (int_eq x) y false) 1 0 in
      let own : one o ≡ one e = ap by_key k in
      omega (arith, own, h.keyed x, sum_by_push one bs o, sum_by_push one ds e);
}

same_after : (bs ds : List Element) (k : Key) → AreAsMany bs ds → identity_after ds k ≡ identity_after bs k
same_after bs ds None h = ap at_index (sym h.all)
same_after bs ds (Some k) h = ap (at_key k) (sym (h.keyed k))

absent_is_null : (e : Element) → is_present e ≡ false → e ≡ elements.null
absent_is_null elements.null h = refl
absent_is_null (elements.text t) h = absurd (cc h)
absent_is_null (elements.host n k attrs es) h = absurd (cc h)
absent_is_null (elements.comp c k ps es) h = absurd (cc h)
absent_is_null (elements.list marked es) h = absurd (cc h)
absent_is_null (elements.boundary k f es) h = absurd (cc h)
absent_is_null (elements.catcher k f es) h = absurd (cc h)
absent_is_null (elements.provider c k x es) h = absurd (cc h)

null_was_nothing : (old : List Child) (i : Identity) → position (is_same_child (child_of (i, elements.null))) old ≡ None
null_was_nothing old i = go (position (is_same_child (child_of (i, elements.null))) old) refl
  where
    both_false : (b : Bool) → (b && false) ≡ false
    both_false true = refl
    both_false false = refl

    go : (o : Option ℕ) → position (is_same_child (child_of (i, elements.null))) old ≡ o → o ≡ None
    go None e = refl
    go (Some p) e =
        let c : Child = get_or old p (child_of (i, elements.null)) in
        let found = position-Some (is_same_child (child_of (i, elements.null))) old p (child_of (i, elements.null)) e in
        let fails : (same_identity i c.identity && false) ≡ false = both_false (same_identity i c.identity) in
        absurd (cc (found.1, fails))

finds : (whole bs ds : List Element) (p : ℕ) (os es : List Element) → AreAsMany bs ds → AreBeside os es
    → ((i q : ℕ) → q ≡ p + i → (c : Child) → slice_get (map child_of (zip (identities_after bs os) os)) i ≡ Some c → slice_get (identified whole) q ≡ Some c)
    → map (λ c. position (is_same_child c) (identified whole)) (map child_of (zip (identities_after ds es) es)) ≡ own_places p es
finds whole bs ds p [] [] before h at = refl
finds whole bs ds p [] (e ∷ es) before h at = absurd h
finds whole bs ds p (o ∷ os) [] before h at = absurd h
finds whole bs ds p (o ∷ os) (e ∷ es) before h at =
    rw (here (is_present e) refl, finds whole (bs ++ o ∷ []) (ds ++ e ∷ []) (p + 1) os es (one_more bs ds o e h.0.key before) h.1 (λ i q g. at (suc i) q (omega arith))) refl
  where
    same : identity_after ds (key_of e) ≡ identity_after bs (key_of o)
    same = same_after bs ds (key_of e) before ∙ ap (identity_after bs) (sym h.0.key)

    here : (b : Bool) → is_present e ≡ b → position (is_same_child (child_of (identity_after ds (key_of e), e))) (identified whole) ≡ own_place p b
    here true g =
        let i : Identity = identity_after bs (key_of o) in
        let is : is_same_child (child_of (i, e)) (child_of (i, o)) ≡ true = rw (same_self i, h.0.kind g) refl in
        ap (λ j. position (is_same_child (child_of (j, e))) (identified whole)) same
        ∙ position_is_the_one whole (child_of (i, e)) p (child_of (i, o)) (at 0 p (omega arith) (child_of (i, o)) refl) is
    here false g =
        ap (λ x. position (is_same_child (child_of (identity_after ds (key_of e), x))) (identified whole)) (absent_is_null e g)
        ∙ null_was_nothing (identified whole) (identity_after ds (key_of e))

found_in_place : (os es : List Element) → AreBeside os es → old_places os es ≡ own_places 0 es
found_in_place os es h =
    finds os [] [] 0 os es (record { all = refl; keyed = λ k. refl }) h
    (λ i q e c g. let same : i ≡ q = omega arith in subst (λ j. slice_get (identified os) j ≡ Some c) same g)

-- each new child is found at its place
pub found_by_place : (os ns : Forest) → AreInPlace os ns → old_places (elements_in os) (elements_in ns) ≡ own_places 0 (elements_in ns)
found_by_place os ns h = found_in_place (elements_in os) (elements_in ns) (beside_of os ns h)

-- None moves

abbrev AllBelow : ℕ → List ℕ → Type 0
AllBelow p [] = Unit {0}
AllBelow p (q ∷ qs) = (q < p) × AllBelow p qs

below_more : (p : ℕ) (qs : List ℕ) → AllBelow p qs → AllBelow (p + 1) qs
below_more p [] h = tt
below_more p (q ∷ qs) h = (omega arith, below_more p qs h.1)

none_above : (p : ℕ) (qs : List ℕ) → AllBelow p qs → list_any (nat_lt p) qs ≡ false
none_above p [] h = refl
none_above p (q ∷ qs) h =
    let first : nat_lt p q ≡ false = grind (arith, nat_tests) in rw (first, none_above p qs h.1) refl

none_moves : (p : ℕ) (earlier : List ℕ) (es : List Element) → AllBelow p earlier → moves_after earlier (own_places p es) ≡ map (λ e. false) es
none_moves p earlier [] h = refl
none_moves p earlier (e ∷ es) h = go (is_present e) (λ qs below. none_moves (p + 1) qs es below)
  where
    go : (b : Bool) → ((qs : List ℕ) → AllBelow (p + 1) qs → moves_after qs (own_places (p + 1) es) ≡ map (λ e. false) es)
        → moves_after earlier (own_place p b ∷ own_places (p + 1) es) ≡ false ∷ map (λ e. false) es
    go true later = rw (none_above p earlier h, later (p ∷ earlier) (omega arith, below_more p earlier h)) refl
    go false later = rw (later earlier (below_more p earlier h)) refl

-- None is gone

present_is_reused : (p : ℕ) (os es : List Element) → AreBeside os es → (i q : ℕ) → q ≡ p + i → option_map_or is_present (slice_get os i) false ≡ true → is_reused (own_places p es) q ≡ true
present_is_reused p [] es h i q at g = absurd (cc g)
present_is_reused p (o ∷ os) [] h i q at g = absurd h
present_is_reused p (o ∷ os) (e ∷ es) h zero q at g =
    let there : is_present e ≡ true = sym h.0.there ∙ g in
    let same : nat_eq q p ≡ true = (Decides-eqb q p).1 (omega arith) in rw (there, same) refl
present_is_reused p (o ∷ os) (e ∷ es) h (suc i) q at g =
    let later = present_is_reused (p + 1) os es h.1 i q (omega arith) g in go (option_map_or (nat_eq q) (own_place p (is_present e)) false) later
  where
    go : (b : Bool) → is_reused (own_places (p + 1) es) q ≡ true → (b || is_reused (own_places (p + 1) es) q) ≡ true
    go true k = refl
    go false k = k

none_passes : (test : ℕ → Bool) → ((p : ℕ) → test p ≡ false) → (ps : List ℕ) → filter test ps ≡ []
none_passes test fails [] = refl
none_passes test fails (p ∷ ps) = rw (fails p) (none_passes test fails ps)

none_removed : (os es : List Element) → AreBeside os es → removed_places os es ≡ []
none_removed os es h =
    rw (found_in_place os es h)
    (none_passes (λ p. option_map_or is_present (slice_get os p) false && not (is_reused (own_places 0 es) p))
    (λ p. go p (option_map_or is_present (slice_get os p) false) refl) (range_with_len 0 (length os)))
  where
    go : (p : ℕ) (b : Bool) → option_map_or is_present (slice_get os p) false ≡ b → (b && not (is_reused (own_places 0 es) p)) ≡ false
    go p true g = rw (present_is_reused 0 os es h p p (omega arith) g) refl
    go p false g = refl

-- Nodes

abbrev past_of : Option Node × Bool → Past
past_of x = record { old = x.0; moved = x.1 }

read_from : (read : ℕ → Option Node) (p : ℕ) (os ns : Forest) → AreInPlace os ns → ((i q : ℕ) → q ≡ p + i → read q ≡ option_flatten (slice_get (places os) i))
    → map past_of (zip (map (option_and_then read) (own_places p (elements_in ns))) (map (λ e. false) (elements_in ns))) ≡ stayed os
read_from read p none none h at = refl
read_from read p none (vacant ns) h at = absurd h
read_from read p none (child n ns) h at = absurd h
read_from read p (vacant os) none h at = absurd h
read_from read p (vacant os) (vacant ns) h at = rw (read_from read (p + 1) os ns h (λ i q g. at (suc i) q (omega arith))) refl
read_from read p (vacant os) (child n ns) h at = absurd h
read_from read p (child o os) none h at = absurd h
read_from read p (child o os) (vacant ns) h at = absurd h
read_from read p (child o os) (child n ns) h at =
    let is : is_present (element_of n) ≡ true = new_present (element_of n) (element_of o) h.0.kind in
    rw (is, at 0 p (omega arith), read_from read (p + 1) os ns h.1 (λ i q g. at (suc i) q (omega arith))) refl

-- the past of each child is the node at its place
pub pasts_in_place : (os ns : Forest) → AreInPlace os ns → pasts os (elements_in ns) ≡ stayed os
pasts_in_place os ns h =
    let beside = beside_of os ns h in
    rw (found_in_place (elements_in os) (elements_in ns) beside, none_moves 0 [] (elements_in ns) tt)
    (read_from (node_at os) 0 os ns h (λ i q e. let same : q ≡ i = omega arith in ap (λ j. option_flatten (slice_get (places os) j)) same))

-- none is gone
pub no_nodes_gone : (os ns : Forest) → AreInPlace os ns → gone_nodes os (elements_in ns) ≡ []
no_nodes_gone os ns h = rw (none_removed (elements_in os) (elements_in ns) (beside_of os ns h)) refl
