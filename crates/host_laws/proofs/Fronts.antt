-- The hosts at the front of a tree, those with no host of the tree above them: what stands of them comes in the old order.
use Rattle.std.specs.Prelude.{option_and_then, ◌≡◌, ℕ, suc, ◌+◌, ◌<◌, Bool, true, false, not, ◌&&◌, ◌||◌, List, [], ◌∷◌, ◌++◌, Option, Some, None, max, map, filter, flat_map, position, get_or, slice_get, length, nat_eq, nat_lt, is_none, refl, if◌then◌else◌}
use Rattle.std.specs.List.{list_any, range_with_len, zip}
use Rattle.std.specs.Option.{option_flatten}
use Rattle.std.proofs.Common.{sym, ◌∙◌, ap, subst, arith}
use Rattle.std.proofs.lemmas.Bool.Decides.{Decides-eqb}
use Rattle.std.proofs.lemmas.List.Elements.{filter-append}
use Rattle.std.proofs.lemmas.List.Quantifiers.{position-Some}
use Rattle.std.proofs.lemmas.Option.{none-some}
use Rattle.host_laws.proofs.Rising.{is_at, moves_below, moves_rise}
use Rattle.host_laws.specs.Commits.{front, front_in, front_if, WasHost, WasNone, FairGone, first_past, rest_pasts}
use Rattle.rx_elem.specs.Compare.{Change, Past, Above, change_of, above_children, above_fallback, pasts, node_at, old_nodes}
use Rattle.rx_elem.specs.Elements.{Element, key_of}
use Rattle.rx_elem.specs.Identity.{Identity, Child, same_identity, identity_after, identities_after, identified, is_same_child, old_places}
use Rattle.rx_elem.specs.Trees.{mark_of, Mark, Node, node, Forest, none, vacant, child, element_of, places, elements_in, host_number, is_host, children_if, fallback_if}
use Rattle.rx_forest.specs.Forests.{is_among}
use Rattle.rx_elem.specs.Elements as elements
use Rattle.host_laws.proofs.IdentityLaws.{places_distinct}
use Rattle.host_laws.proofs.Order.{unmoved, Contribute, joined, order_is_kept}

abbrev pub FairHost : (ℕ → Bool) → (ℕ → Bool) → (ℕ → Bool) → Change → Bool → Type 0
FairHost s k w c true = (n : ℕ) × (host_number (mark_of c.new) ≡ Some n) × (s n ≡ not c.displaced) × WasHost k w n c.old
FairHost s k w c false = WasNone c.old

-- the same as `Rendered`, with what stands: a host that isn't displaced
abbrev mutual
  pub Fair : (ℕ → Bool) → (ℕ → Bool) → (ℕ → Bool) → Above → Past → Node → Type 0
  Fair s k w a p (node e m ns fs) =
      let c = change_of a p (node e m ns fs) in
      FairHost s k w c (is_host m)
      × FairGone k (children_if p.old) (elements_in ns)
      × FairGone k (fallback_if p.old) (elements_in fs)
      × Fair_in s k w (above_children c) (pasts (children_if p.old) (elements_in ns)) ns
      × Fair_in s k w (above_fallback c) (pasts (fallback_if p.old) (elements_in fs)) fs

  pub Fair_in : (ℕ → Bool) → (ℕ → Bool) → (ℕ → Bool) → Above → List Past → Forest → Type 0
  Fair_in s k w a ps none = Unit {0}
  Fair_in s k w a ps (vacant ns) = Fair_in s k w a (rest_pasts ps) ns
  Fair_in s k w a ps (child n ns) = Fair s k w a (first_past ps) n × Fair_in s k w a (rest_pasts ps) ns

-- s: the hosts that stand. k: the hosts that are still there. w: the hosts that were there
abbrev pub staying : (ℕ → Bool) → (ℕ → Bool) → Option Node → List ℕ
staying s k o = filter s (filter k (front_if o))

-- what stands of a new node is what stays of the old one, and nothing if it is displaced
abbrev Same : (ℕ → Bool) → (ℕ → Bool) → Above → Past → Node → Type 0
Same s k a p n = (filter s (front n) ≡ staying s k p.old) × ((change_of a p n).displaced ≡ true → filter s (front n) ≡ [])

abbrev AllSame : (ℕ → Bool) → (ℕ → Bool) → Above → List Past → Forest → Type 0
AllSame s k a ps none = Unit {0}
AllSame s k a ps (vacant ns) = AllSame s k a (rest_pasts ps) ns
AllSame s k a ps (child n ns) = Same s k a (first_past ps) n × AllSame s k a (rest_pasts ps) ns

-- what stands of each place
abbrev parts : (ℕ → Bool) → Forest → List (List ℕ)
parts s none = []
parts s (vacant ns) = [] ∷ parts s ns
parts s (child n ns) = filter s (front n) ∷ parts s ns

joined_parts : (s : ℕ → Bool) (ns : Forest) → joined (parts s ns) ≡ filter s (front_in ns)
joined_parts s none = refl
joined_parts s (vacant ns) = joined_parts s ns
joined_parts s (child n ns) = ap (λ xs. filter s (front n) ++ xs) (joined_parts s ns) ∙ sym (filter-append s (front n) (front_in ns))

-- the places of the rest of a list, by what finds a child among the old ones
abbrev places_after : (Child → Option ℕ) → List Element → Forest → List (Option ℕ)
places_after find before ns = map find (map (λ c. record { identity = c.0; element = c.1 }) (zip (identities_after before (elements_in ns)) (elements_in ns)))

abbrev pasts_at : Forest → ℕ → List (Option ℕ) → List Past
pasts_at os top ps = map (λ x. record { old = x.0; moved = x.1 }) (zip (map (option_and_then (node_at os)) ps) (moves_below top ps))

-- what is absent was no child
abbrev FindsNoNull : (Child → Option ℕ) → Type 0
FindsNoNull find = (i : Identity) → find (record { identity = i; element = elements.null }) ≡ None

pub null_was_nothing : (old : List Child) → FindsNoNull (λ c. position (is_same_child c) old)
null_was_nothing old i = go (position (is_same_child (record { identity = i; element = elements.null })) old) refl
  where
    both_false : (b : Bool) → (b && false) ≡ false
    both_false true = refl
    both_false false = refl

    go : (o : Option ℕ) → position (is_same_child (record { identity = i; element = elements.null })) old ≡ o → o ≡ None
    go None e = refl
    go (Some p) e =
        let c : Child = get_or old p (record { identity = i; element = elements.null }) in
        let found = position-Some (is_same_child (record { identity = i; element = elements.null })) old p (record { identity = i; element = elements.null }) e in
        let fails : (same_identity i c.identity && false) ≡ false = both_false (same_identity i c.identity) in
        absurd (cc (found.1, fails))

contribute : (s k : ℕ → Bool) (a : Above) (os : Forest) (find : Child → Option ℕ) → FindsNoNull find → (before : List Element) (top : ℕ) (ns : Forest)
    → AllSame s k a (pasts_at os top (places_after find before ns)) ns
    → Contribute (λ p. staying s k (node_at os p)) top (places_after find before ns) (parts s ns)
contribute s k a os find blank before top none h = tt
contribute s k a os find blank before top (vacant ns) h =
    go (find (record { identity = identity_after before None; element = elements.null })) (blank (identity_after before None)) (places_after find (before ++ elements.null ∷ []) ns) h
    (contribute s k a os find blank (before ++ elements.null ∷ []) top ns)
  where
    go : (x : Option ℕ) → x ≡ None → (ps : List (Option ℕ)) → AllSame s k a (rest_pasts (pasts_at os top (x ∷ ps))) ns
        → (AllSame s k a (pasts_at os top ps) ns → Contribute (λ p. staying s k (node_at os p)) top ps (parts s ns))
        → Contribute (λ p. staying s k (node_at os p)) top (x ∷ ps) ([] ∷ parts s ns)
    go None e ps h rest = (refl, rest h)
    go (Some p) e ps h rest = absurd (none-some p (sym e))
contribute s k a os find blank before top (child n ns) h =
    go (find (record { identity = identity_after before (key_of (element_of n)); element = element_of n })) (places_after find (before ++ element_of n ∷ []) ns) h.0 h.1
    (λ t. contribute s k a os find blank (before ++ element_of n ∷ []) t ns)
  where
    or_true : (x y : Bool) → (x || (y || true)) ≡ true
    or_true true y = refl
    or_true false true = refl
    or_true false false = refl

    go : (x : Option ℕ) (ps : List (Option ℕ)) → Same s k a (first_past (pasts_at os top (x ∷ ps))) n → AllSame s k a (rest_pasts (pasts_at os top (x ∷ ps))) ns
        → ((t : ℕ) → AllSame s k a (pasts_at os t ps) ns → Contribute (λ p. staying s k (node_at os p)) t ps (parts s ns))
        → Contribute (λ p. staying s k (node_at os p)) top (x ∷ ps) (filter s (front n) ∷ parts s ns)
    go None ps h r rest = (h.0, rest top r)
    go (Some p) ps h r rest = (by (nat_lt (p + 1) top) refl, rest (max top (p + 1)) r)
      where
        by : (b : Bool) → nat_lt (p + 1) top ≡ b → filter s (front n) ≡ (if nat_lt (p + 1) top then [] else staying s k (node_at os p))
        by true e = rw e (h.1 (ap (λ b. a.displaced || (is_none (node_at os p) || b)) e ∙ or_true a.displaced (is_none (node_at os p))))
        by false e = rw e h.0

-- a moved child's old node keeps nothing that stands
moved_are_empty : (s k : ℕ → Bool) (a : Above) (os : Forest) (find : Child → Option ℕ) → FindsNoNull find → (before : List Element) (top : ℕ) (ns : Forest)
    → AllSame s k a (pasts_at os top (places_after find before ns)) ns
    → (p : ℕ) → list_any (is_at p) (places_after find before ns) ≡ true → is_among (unmoved top (places_after find before ns)) p ≡ false
    → staying s k (node_at os p) ≡ []
moved_are_empty s k a os find blank before top none h p l u = absurd (cc)
moved_are_empty s k a os find blank before top (vacant ns) h p l u =
    go (find (record { identity = identity_after before None; element = elements.null })) (blank (identity_after before None)) (places_after find (before ++ elements.null ∷ []) ns) h l u
    (λ h l u. moved_are_empty s k a os find blank (before ++ elements.null ∷ []) top ns h p l u)
  where
    go : (x : Option ℕ) → x ≡ None → (ps : List (Option ℕ)) → AllSame s k a (rest_pasts (pasts_at os top (x ∷ ps))) ns
        → list_any (is_at p) (x ∷ ps) ≡ true → is_among (unmoved top (x ∷ ps)) p ≡ false
        → (AllSame s k a (pasts_at os top ps) ns → list_any (is_at p) ps ≡ true → is_among (unmoved top ps) p ≡ false → staying s k (node_at os p) ≡ [])
        → staying s k (node_at os p) ≡ []
    go None e ps h l u rest = rest h l u
    go (Some q) e ps h l u rest = absurd (none-some q (sym e))
moved_are_empty s k a os find blank before top (child n ns) h p l u =
    go (find (record { identity = identity_after before (key_of (element_of n)); element = element_of n })) (places_after find (before ++ element_of n ∷ []) ns) h.0 h.1 l u
    (λ t h l u. moved_are_empty s k a os find blank (before ++ element_of n ∷ []) t ns h p l u)
  where
    go : (x : Option ℕ) (ps : List (Option ℕ)) → Same s k a (first_past (pasts_at os top (x ∷ ps))) n → AllSame s k a (rest_pasts (pasts_at os top (x ∷ ps))) ns
        → list_any (is_at p) (x ∷ ps) ≡ true → is_among (unmoved top (x ∷ ps)) p ≡ false
        → ((t : ℕ) → AllSame s k a (pasts_at os t ps) ns → list_any (is_at p) ps ≡ true → is_among (unmoved t ps) p ≡ false → staying s k (node_at os p) ≡ [])
        → staying s k (node_at os p) ≡ []
    go None ps h r l u rest = rest top r l u
    go (Some q) ps h r l u rest = by (nat_eq p q) refl (nat_lt (q + 1) top) refl l u
      where
        or_true : (x y : Bool) → (x || (y || true)) ≡ true
        or_true true y = refl
        or_true false true = refl
        or_true false false = refl

        by : (b : Bool) → nat_eq p q ≡ b → (c : Bool) → nat_lt (q + 1) top ≡ c → (b || list_any (is_at p) ps) ≡ true
            → is_among (if nat_lt (q + 1) top then unmoved (max top (q + 1)) ps else q ∷ unmoved (max top (q + 1)) ps) p ≡ false
            → staying s k (node_at os p) ≡ []
        by true e true f l u =
            let nothing : filter s (front n) ≡ [] =
            h.1 (ap (λ b. a.displaced || (is_none (node_at os q) || b)) f ∙ or_true a.displaced (is_none (node_at os q))) in
            ap (λ p. staying s k (node_at os p)) ((Decides-eqb p q).0 e) ∙ sym h.0 ∙ nothing
        by true e false f l u =
            let v : (nat_eq p q || is_among (unmoved (max top (q + 1)) ps) p) ≡ false = rw f at u in absurd (cc (e, v))
        by false e true f l u = rest (max top (q + 1)) r l (rw f at u)
        by false e false f l u =
            let v : (nat_eq p q || is_among (unmoved (max top (q + 1)) ps) p) ≡ false = rw f at u in
            rest (max top (q + 1)) r l (rw e at v)

-- what the old forest's front keeps, place by place
by_place : (s k : ℕ → Bool) (os : Forest) (a : ℕ) (G : ℕ → List ℕ) → ((i n : ℕ) → n ≡ a + i → G n ≡ staying s k (option_flatten (slice_get (places os) i)))
    → flat_map G (range_with_len a (length (places os))) ≡ filter s (filter k (front_in os))
by_place s k none a G h = refl
by_place s k (vacant os) a G h =
    rw (h 0 a (omega arith)) (by_place s k os (a + 1) G (λ i n e. h (suc i) n (omega arith)))
by_place s k (child o os) a G h =
    let first : G a ≡ filter s (filter k (front o)) = h 0 a (omega arith) in
    let rest : flat_map G (range_with_len (a + 1) (length (places os))) ≡ filter s (filter k (front_in os)) =
    by_place s k os (a + 1) G (λ i n e. h (suc i) n (omega arith)) in
    rw (first, rest) (sym (ap (filter s) (filter-append k (front o) (front_in os)) ∙ filter-append s (filter k (front o)) (filter k (front_in os))))

-- the places of unmoved children are places that were found
unmoved_found : (find : Child → Option ℕ) (bound : ℕ) → ((c : Child) (p : ℕ) → find c ≡ Some p → p < bound) → (cs : List Child) (top p : ℕ)
    → is_among (unmoved top (map find cs)) p ≡ true → p < bound
unmoved_found find bound around_children [] top p h = absurd (cc)
unmoved_found find bound around_children (c ∷ cs) top p h = go (λ t. unmoved_found find bound around_children cs t p) (find c) refl h
  where
    go : ((t : ℕ) → is_among (unmoved t (map find cs)) p ≡ true → p < bound) → (x : Option ℕ) → find c ≡ x → is_among (unmoved top (x ∷ map find cs)) p ≡ true → p < bound
    go rest None e h = rest top h
    go rest (Some q) e h = by (nat_lt (q + 1) top) h
      where
        by : (b : Bool) → is_among (if b then unmoved (max top (q + 1)) (map find cs) else q ∷ unmoved (max top (q + 1)) (map find cs)) p ≡ true → p < bound
        by true h = rest (max top (q + 1)) h
        by false h = which (nat_eq p q) refl h
          where
            which : (b : Bool) → nat_eq p q ≡ b → (b || is_among (unmoved (max top (q + 1)) (map find cs)) p) ≡ true → p < bound
            which true f h = let same : p ≡ q = (Decides-eqb p q).0 f in rw same (around_children c q e)
            which false f h = rest (max top (q + 1)) h

length-children : (before es : List Element) → length (map (λ c. let d : Child = record { identity = c.0; element = c.1 } in d) (zip (identities_after before es) es)) ≡ length es
length-children before [] = refl
length-children before (e ∷ es) = ap suc (length-children (before ++ e ∷ []) es)

length-elements : (ns : Forest) → length (elements_in ns) ≡ length (places ns)
length-elements none = refl
length-elements (vacant ns) = ap suc (length-elements ns)
length-elements (child n ns) = ap suc (length-elements ns)

-- The children of a node: what stands of the new ones is what stays of the old ones
forest_same : (s k : ℕ → Bool) (a : Above) (os ns : Forest) → AllSame s k a (pasts os (elements_in ns)) ns → FairGone k os (elements_in ns)
    → filter s (front_in ns) ≡ filter s (filter k (front_in os))
forest_same s k a os ns same gone =
    sym (joined_parts s ns)
    ∙ order_is_kept G ps (length (places os)) (parts s ns) (places_distinct (elements_in os) (elements_in ns))
    (contribute s k a os find (null_was_nothing (identified (elements_in os))) [] 0 ns h)
    (unmoved_found find (length (places os)) around_children (identified (elements_in ns)) 0)
    (λ p l u. empty p (list_any (is_at p) ps) refl u)
    ∙ by_place s k os 0 G (λ i n e. let same : n ≡ i = omega arith in ap (λ i. staying s k (option_flatten (slice_get (places os) i))) same)
  where
    -- the pasts, by the greatest place so far
    h : AllSame s k a (pasts_at os 0 (old_places (elements_in os) (elements_in ns))) ns
    h = subst (λ ms. AllSame s k a (map (λ x. record { old = x.0; moved = x.1 }) (zip (old_nodes os (elements_in ns)) ms)) ns)
        (moves_rise (old_places (elements_in os) (elements_in ns))) same

    find : Child → Option ℕ
    find c = position (is_same_child c) (identified (elements_in os))

    ps : List (Option ℕ)
    ps = old_places (elements_in os) (elements_in ns)

    G : ℕ → List ℕ
    G p = staying s k (node_at os p)

    around_children : (c : Child) (p : ℕ) → position (is_same_child c) (identified (elements_in os)) ≡ Some p → p < length (places os)
    around_children c p e =
        let found = position-Some (is_same_child c) (identified (elements_in os)) p c e in
        let low : p < length (identified (elements_in os)) = found.0 in
        rw (← length-elements os) (rw (← length-children [] (elements_in os)) low)

    empty : (p : ℕ) (b : Bool) → list_any (is_at p) (old_places (elements_in os) (elements_in ns)) ≡ b
        → is_among (unmoved 0 (old_places (elements_in os) (elements_in ns))) p ≡ false → staying s k (node_at os p) ≡ []
    empty p true e u = moved_are_empty s k a os find (null_was_nothing (identified (elements_in os))) [] 0 ns h p e u
    empty p false e u = ap (filter s) (gone p e)

-- if a parent is displaced, all is
none_stand : (s k : ℕ → Bool) (a : Above) (ps : List Past) (ns : Forest) → a.displaced ≡ true → AllSame s k a ps ns → filter s (front_in ns) ≡ []
none_stand s k a ps none d h = refl
none_stand s k a ps (vacant ns) d h = none_stand s k a (rest_pasts ps) ns d h
none_stand s k a ps (child n ns) d h =
    filter-append s (front n) (front_in ns)
    ∙ rw (h.0.1 (ap (λ b. b || (is_none (first_past ps).old || (first_past ps).moved)) d), none_stand s k a (rest_pasts ps) ns d h.1) refl

alone : (s : ℕ → Bool) (n : ℕ) (b : Bool) → s n ≡ b → filter s (n ∷ []) ≡ (if b then n ∷ [] else [])
alone s n true e = rw e refl
alone s n false e = rw e refl

-- a host
host_same : (s k w : ℕ → Bool) (a : Above) (p : Past) (e : Element) (m : Mark) (ns fs : Forest) → is_host m ≡ true
    → (n : ℕ) → host_number m ≡ Some n → s n ≡ not (change_of a p (node e m ns fs)).displaced → WasHost k w n p.old
    → FairGone k (fallback_if p.old) (elements_in fs)
    → AllSame s k (above_fallback (change_of a p (node e m ns fs))) (pasts (fallback_if p.old) (elements_in fs)) fs
    → Same s k a p (node e m ns fs)
host_same s k w a p e m ns fs h n number stand was gone second = (
  whole p.old refl was,
  λ d. here ∙ rw (
    alone s n false (stand ∙ ap not d),
    none_stand s k (above_fallback (change_of a p (node e m ns fs))) (pasts (fallback_if p.old) (elements_in fs)) fs d second,
  ) refl,
)
  where
    here : filter s (front (node e m ns fs)) ≡ filter s (n ∷ []) ++ filter s (front_in fs)
    here = rw (h, number) (filter-append s (n ∷ []) (front_in fs))

    two : filter s (front_in fs) ≡ filter s (filter k (front_in (fallback_if p.old)))
    two = forest_same s k (above_fallback (change_of a p (node e m ns fs))) (fallback_if p.old) fs second gone

    displaced : p.old ≡ None → (change_of a p (node e m ns fs)).displaced ≡ true
    displaced q = rw q (last a.displaced)
      where
        last : (b : Bool) → (b || true) ≡ true
        last true = refl
        last false = refl

    whole : (o : Option Node) → p.old ≡ o → WasHost k w n p.old → filter s (front (node e m ns fs)) ≡ staying s k p.old
    whole None q x = here ∙ rw (two, alone s n false (stand ∙ ap not (displaced q))) (rw q refl)
    whole (Some (node e' m' os gs)) q x =
        let v : WasHost k w n (Some (node e' m' os gs)) = rw q at x in
        let is : is_host m' ≡ true = v.0 in
        let num : host_number m' ≡ Some n = v.1 in
        let there : k n ≡ true = v.2 in
        here ∙ rw two (rw q (rw (is, num, there) (sym (filter-append s (n ∷ []) (filter k (front_in gs))))))

-- what is no host
other_same : (s k : ℕ → Bool) (a : Above) (p : Past) (e : Element) (m : Mark) (ns fs : Forest) → is_host m ≡ false
    → WasNone p.old
    → FairGone k (children_if p.old) (elements_in ns) → FairGone k (fallback_if p.old) (elements_in fs)
    → AllSame s k (above_children (change_of a p (node e m ns fs))) (pasts (children_if p.old) (elements_in ns)) ns
    → AllSame s k (above_fallback (change_of a p (node e m ns fs))) (pasts (fallback_if p.old) (elements_in fs)) fs
    → Same s k a p (node e m ns fs)
other_same s k a p e m ns fs h was gone gone' first second = (here ∙ rw (one, two) (join p.old refl was), nothing)
  where
    here : filter s (front (node e m ns fs)) ≡ filter s (front_in ns) ++ filter s (front_in fs)
    here = rw h (filter-append s (front_in ns) (front_in fs))

    one : filter s (front_in ns) ≡ filter s (filter k (front_in (children_if p.old)))
    one = forest_same s k (above_children (change_of a p (node e m ns fs))) (children_if p.old) ns first gone

    two : filter s (front_in fs) ≡ filter s (filter k (front_in (fallback_if p.old)))
    two = forest_same s k (above_fallback (change_of a p (node e m ns fs))) (fallback_if p.old) fs second gone'

    join : (o : Option Node) → p.old ≡ o → WasNone p.old
        → filter s (filter k (front_in (children_if p.old))) ++ filter s (filter k (front_in (fallback_if p.old))) ≡ staying s k p.old
    join None q w = rw q refl
    join (Some (node e' m' os gs)) q w =
        let v : is_host m' ≡ false = rw q at w in
        rw q (rw v (sym (ap (filter s) (filter-append k (front_in os) (front_in gs)) ∙ filter-append s (filter k (front_in os)) (filter k (front_in gs)))))

    nothing : (change_of a p (node e m ns fs)).displaced ≡ true → filter s (front (node e m ns fs)) ≡ []
    nothing d =
        let below : (above_children (change_of a p (node e m ns fs))).displaced ≡ true = rw h d in
        here ∙ rw (
          none_stand s k (above_children (change_of a p (node e m ns fs))) (pasts (children_if p.old) (elements_in ns)) ns below first,
          none_stand s k (above_fallback (change_of a p (node e m ns fs))) (pasts (fallback_if p.old) (elements_in fs)) fs d second,
        ) refl

mutual
  -- in a tree that was rendered against an old one, what stands at the front is what stays of the old front, in the old order
  pub node_same : (s k w : ℕ → Bool) (a : Above) (p : Past) (n : Node) → Fair s k w a p n → Same s k a p n
  node_same s k w a p (node e m ns fs) f =
      go (is_host m) refl f.0
      (nodes_same s k w (above_children (change_of a p (node e m ns fs))) (pasts (children_if p.old) (elements_in ns)) ns f.3)
      (nodes_same s k w (above_fallback (change_of a p (node e m ns fs))) (pasts (fallback_if p.old) (elements_in fs)) fs f.4)
    where
      go : (b : Bool) → is_host m ≡ b → FairHost s k w (change_of a p (node e m ns fs)) b
          → AllSame s k (above_children (change_of a p (node e m ns fs))) (pasts (children_if p.old) (elements_in ns)) ns
          → AllSame s k (above_fallback (change_of a p (node e m ns fs))) (pasts (fallback_if p.old) (elements_in fs)) fs
          → Same s k a p (node e m ns fs)
      go true h g first second = host_same s k w a p e m ns fs h g.0 g.1 g.2 g.3 f.2 second
      go false h g first second = other_same s k a p e m ns fs h g f.1 f.2 first second

  nodes_same : (s k w : ℕ → Bool) (a : Above) (ps : List Past) (ns : Forest) → Fair_in s k w a ps ns → AllSame s k a ps ns
  nodes_same s k w a ps none f = tt
  nodes_same s k w a ps (vacant ns) f = nodes_same s k w a (rest_pasts ps) ns f
  nodes_same s k w a ps (child n ns) f = (node_same s k w a (first_past ps) n f.0, nodes_same s k w a (rest_pasts ps) ns f.1)

-- and so at the front of each child list
pub children_same : (s k w : ℕ → Bool) (a : Above) (os ns : Forest) → FairGone k os (elements_in ns) → Fair_in s k w a (pasts os (elements_in ns)) ns
    → filter s (front_in ns) ≡ filter s (filter k (front_in os))
children_same s k w a os ns gone f = forest_same s k a os ns (nodes_same s k w a (pasts os (elements_in ns)) ns f) gone
