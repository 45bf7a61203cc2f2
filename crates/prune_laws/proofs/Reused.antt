-- The past of a new child that was an old one.
use Rattle.std.specs.Prelude.{◌≡◌, ℕ, zero, suc, Bool, true, false, ◌||◌, List, [], ◌∷◌, Option, Some, None, option_and_then, map, nat_eq, nat_lt, position, slice_get, refl}
use Rattle.std.specs.List.{list_any, zip}
use Rattle.std.proofs.Common.{sym, ◌∙◌, ap}
use Rattle.std.proofs.lemmas.Bool.Decides.{Decides-eqb}
use Rattle.std.proofs.lemmas.Option.{none-some, same_Some}
use Rattle.rx_elem.specs.Elements.{Element}
use Rattle.rx_elem.specs.Elements as elements
use Rattle.rx_elem.specs.Identity.{Identity, Child, identities, identified, is_same_child, old_places, is_reused, moves_after}
use Rattle.rx_elem.specs.Trees.{Node, Forest, elements_in}
use Rattle.rx_elem.specs.Compare.{Past, pasts, node_at}
use Rattle.host_laws.proofs.IdentityLaws.{map_at}
use Rattle.host_laws.proofs.Fronts.{null_was_nothing}

-- an old child at this place is a new one
pub reused_by : (places : List (Option ℕ)) (p : ℕ) → is_reused places p ≡ true → (i : ℕ) × (slice_get places i ≡ Some (Some p))
reused_by [] p h = absurd (cc)
reused_by (None ∷ places) p h = let found = reused_by places p h in (suc found.0, found.1)
reused_by (Some q ∷ places) p h = go (reused_by places p) (nat_eq p q) refl h
  where
    go : (is_reused places p ≡ true → (i : ℕ) × (slice_get places i ≡ Some (Some p))) → (b : Bool) → nat_eq p q ≡ b → (b || is_reused places p) ≡ true
        → (i : ℕ) × (slice_get (Some q ∷ places) i ≡ Some (Some p))
    go rest true e h = (zero, ap (λ n. Some (Some n)) (sym ((Decides-eqb p q).0 e)))
    go rest false e h = let found = rest h in (suc found.0, found.1)

pub is_reused_at : (places : List (Option ℕ)) (i p : ℕ) → slice_get places i ≡ Some (Some p) → is_reused places p ≡ true
is_reused_at [] i p h = absurd (none-some (Some p) h)
is_reused_at (None ∷ places) zero p h = absurd (none-some p (same_Some _ _ h))
is_reused_at (Some q ∷ places) zero p h = rw ((Decides-eqb p q).1 (sym (same_Some _ _ (same_Some _ _ h)))) refl
is_reused_at (None ∷ places) (suc i) p h = is_reused_at places i p h
is_reused_at (Some q ∷ places) (suc i) p h = go (nat_eq p q) (is_reused_at places i p h)
  where
    go : (b : Bool) → is_reused places p ≡ true → (b || is_reused places p) ≡ true
    go true h = refl
    go false h = h

-- the pasts of new children by their old places
abbrev pub pasts_after : Forest → (earlier : List ℕ) → List (Option ℕ) → List Past
pasts_after os earlier places = map (λ x. record { old = x.0; moved = x.1 }) (zip (map (option_and_then (node_at os)) places) (moves_after earlier places))

past_after : (os : Forest) (earlier : List ℕ) (places : List (Option ℕ)) (i p : ℕ) → slice_get places i ≡ Some (Some p)
    → (moved : Bool) × (slice_get (pasts_after os earlier places) i ≡ Some (record { old = node_at os p; moved = moved }))
past_after os earlier [] i p h = absurd (none-some (Some p) h)
past_after os earlier (None ∷ places) zero p h = absurd (none-some p (same_Some _ _ h))
past_after os earlier (Some q ∷ places) zero p h =
    let same : q ≡ p = same_Some _ _ (same_Some _ _ h) in
    let m : Bool = list_any (nat_lt q) earlier in
    (m, ap (λ (n : ℕ). Some (record { old = node_at os n; moved = m })) same)
past_after os earlier (None ∷ places) (suc i) p h = past_after os earlier places i p h
past_after os earlier (Some q ∷ places) (suc i) p h = past_after os (q ∷ earlier) places i p h

-- a new child that was an old one has its node as past
pub past_at : (os : Forest) (es : List Element) (i p : ℕ) → slice_get (old_places (elements_in os) es) i ≡ Some (Some p)
    → (moved : Bool) × (slice_get (pasts os es) i ≡ Some (record { old = node_at os p; moved = moved }))
past_at os es i p h = past_after os [] (old_places (elements_in os) es) i p h

past_from : (os : Forest) (earlier : List ℕ) (places : List (Option ℕ)) (i : ℕ) (o : Node) (moved : Bool)
    → slice_get (pasts_after os earlier places) i ≡ Some (record { old = Some o; moved = moved })
    → (p : ℕ) × (slice_get places i ≡ Some (Some p)) × (node_at os p ≡ Some o)
past_from os earlier [] i o moved h = absurd (none-some _ h)
past_from os earlier (None ∷ places) zero o moved h = absurd (none-some o (ap (λ (x : Past). x.old) (same_Some _ _ h)))
past_from os earlier (Some q ∷ places) zero o moved h = (q, refl, ap (λ (x : Past). x.old) (same_Some _ _ h))
past_from os earlier (None ∷ places) (suc i) o moved h = past_from os earlier places i o moved h
past_from os earlier (Some q ∷ places) (suc i) o moved h = past_from os (q ∷ earlier) places i o moved h

-- a new child with a past was the old child of a place
pub place_from : (os : Forest) (es : List Element) (i : ℕ) (o : Node) (moved : Bool) → slice_get (pasts os es) i ≡ Some (record { old = Some o; moved = moved })
    → (p : ℕ) × (slice_get (old_places (elements_in os) es) i ≡ Some (Some p)) × (node_at os p ≡ Some o)
place_from os es i o moved h = past_from os [] (old_places (elements_in os) es) i o moved h

element_at : (ids : List Identity) (es : List Element) (i : ℕ) (c : Child)
    → slice_get (map (λ c. record { identity = c.0; element = c.1 }) (zip ids es)) i ≡ Some c → slice_get es i ≡ Some c.element
element_at [] [] i c h = absurd (none-some c h)
element_at [] (e ∷ es) i c h = absurd (none-some c h)
element_at (x ∷ ids) [] i c h = absurd (none-some c h)
element_at (x ∷ ids) (e ∷ es) zero c h = ap (λ (d : Child). Some d.element) (same_Some _ _ h)
element_at (x ∷ ids) (e ∷ es) (suc i) c h = element_at ids es i c h

-- what is absent was no old child
pub not_absent : (old es : List Element) (i p : ℕ) → slice_get (old_places old es) i ≡ Some (Some p) → slice_get es i ≡ Some elements.null → ⊥
not_absent old es i p h absent =
    let found = map_at (λ c. position (is_same_child c) (identified old)) (identified es) i (Some p) h in
    let c : Child = found.0 in
    let null : c.element ≡ elements.null = same_Some _ _ (sym (element_at (identities es) es i c found.1) ∙ absent) in
    let nothing : position (is_same_child c) (identified old) ≡ None =
    ap (λ (e : Element). position (is_same_child (record { identity = c.identity; element = e })) (identified old)) null ∙ null_was_nothing (identified old) c.identity in
    none-some p (sym nothing ∙ found.2)
