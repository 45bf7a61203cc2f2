-- Where a child is found is where the old child is that it is, if their kinds agree.
use Rattle.std.proofs.Common.{◌≡◌, ℕ, zero, suc, ◌+◌, ◌<◌, ◌≤◌, Bool, true, false, ◌&&◌, ◌⊎◌, cond, List, [], ◌∷◌, ◌++◌, ℤ, Option, Some, None, map, length, get_or, take, drop, refl, sym, ap, ◌∙◌, arith, subst, inl, inr, add-one, append_assoc, length-append}
use Rattle.std.specs.Prelude.{slice_get, position, option_and_then}
use Rattle.std.specs.List.{zip}
use Rattle.std.specs.Bool.{then_some}
use Rattle.std.proofs.lemmas.List.Quantifiers.{position-Some}
use Rattle.std.proofs.lemmas.Option.{none-some, same_Some, slice_get-get_or, slice_get_within}
use Rattle.std.proofs.lemmas.List.{append-nil}
use Rattle.rx_elem.specs.Elements.{Element, kind_of, same_kind, key_of}
use Rattle.rx_elem.specs.Identity.{Identity, at_key, at_index, same_identity, identity_after, identities_after, identities, Child, identified, is_same_child}
use Rattle.rx_keys.specs.Found.{found_from, found_in}
use Rattle.rx_keys.proofs.Distinct.{same_identity_is, same_identity_self, both, identity_at, children_distinct, position_is_the_one}

-- what is found stands where it is found
found_from-Some : (found : Option ℕ) (place : ℕ) (ids : List Identity) (x : Identity) (p : ℕ) → found_from found place ids x ≡ Some p
    → (found ≡ Some p) ⊎ ((j : ℕ) × (p ≡ place + j) × (slice_get ids j ≡ Some x))
found_from-Some found place [] x p h = inl h
found_from-Some found place (y ∷ ids) x p h = go (same_identity y x) refl (found_from-Some (cond (same_identity y x) (Some place) found) (place + 1) ids x p h)
  where
    go : (b : Bool) → same_identity y x ≡ b → (cond b (Some place) found ≡ Some p) ⊎ ((j : ℕ) × (p ≡ place + 1 + j) × (slice_get ids j ≡ Some x))
        → (found ≡ Some p) ⊎ ((j : ℕ) × (p ≡ place + j) × (slice_get (y ∷ ids) j ≡ Some x))
    go b e (inr r) = inr (suc r.0, omega (arith, r.1), r.2)
    go true e (inl f) = let here : place ≡ p = same_Some _ _ f in inr (0, omega arith, ap Some (same_identity_is y x e))
    go false e (inl f) = inl f

-- what isn't found stands nowhere
found_from-None : (found : Option ℕ) (place : ℕ) (ids : List Identity) (x : Identity) → found_from found place ids x ≡ None
    → (found ≡ None) × ((j : ℕ) → slice_get ids j ≡ Some x → ⊥)
found_from-None found place [] x h = (h, λ j e. none-some x e)
found_from-None found place (y ∷ ids) x h = go (same_identity y x) refl (found_from-None (cond (same_identity y x) (Some place) found) (place + 1) ids x h)
  where
    nowhere : same_identity y x ≡ false → ((j : ℕ) → slice_get ids j ≡ Some x → ⊥) → (j : ℕ) → slice_get (y ∷ ids) j ≡ Some x → ⊥
    nowhere e none zero f =
        let same : y ≡ x = same_Some _ _ f in
        let yes : same_identity y x ≡ true = ap (same_identity y) (sym same) ∙ same_identity_self y in
        absurd (cc)
    nowhere e none (suc j) f = none j f

    go : (b : Bool) → same_identity y x ≡ b → (cond b (Some place) found ≡ None) × ((j : ℕ) → slice_get ids j ≡ Some x → ⊥)
        → (found ≡ None) × ((j : ℕ) → slice_get (y ∷ ids) j ≡ Some x → ⊥)
    go true e r = absurd (none-some place (sym r.0))
    go false e r = (r.0, nowhere e r.1)

-- an index stands at its own place
index_place : (earlier es : List Element) (j i : ℕ) → slice_get (identities_after earlier es) j ≡ Some (at_index i) → i ≡ length earlier + j
index_place earlier [] j i h = absurd (none-some (at_index i) h)
index_place earlier (e ∷ es) zero i h = here (key_of e) (same_Some _ _ h)
  where
    here : (k : Option ℤ) → identity_after earlier k ≡ at_index i → i ≡ length earlier + 0
    here None f = let same : length earlier ≡ i = cc in omega arith
    here (Some k) f = absurd (cc)
index_place earlier (e ∷ es) (suc j) i h = omega (arith, index_place (earlier ++ e ∷ []) es j i h, length-append earlier (e ∷ []))

-- what is found among children has that identity
pub found_in-Some : (es : List Element) (x : Identity) (p : ℕ) → found_in (identities es) x ≡ Some p → slice_get (identities es) p ≡ Some x
found_in-Some es (at_key k o) p h =
    elim (found_from-Some None 0 (identities es) (at_key k o) p h) [
      | inl e ↦ absurd (none-some p e)
      | inr r ↦ let same : r.0 ≡ p = omega (arith, r.1) in subst (λ (n : ℕ). slice_get (identities es) n ≡ Some (at_key k o)) same r.2
    ]
found_in-Some es (at_index i) p h = go (slice_get (identities es) i) refl h
  where
    at : (y : Identity) → slice_get (identities es) i ≡ Some y → (b : Bool) → same_identity y (at_index i) ≡ b → cond b (Some i) None ≡ Some p → slice_get (identities es) p ≡ Some (at_index i)
    at y e true t f =
        let same : i ≡ p = same_Some _ _ f in
        let one : y ≡ at_index i = same_identity_is y (at_index i) t in
        subst (λ (n : ℕ). slice_get (identities es) n ≡ Some (at_index i)) same (e ∙ ap Some one)
    at y e false t f = absurd (none-some p f)

    go : (o : Option Identity) → slice_get (identities es) i ≡ o
        → option_and_then (λ (y : Identity). cond (same_identity y (at_index i)) (Some i) None) o ≡ Some p
        → slice_get (identities es) p ≡ Some (at_index i)
    go None e f = absurd (none-some p f)
    go (Some y) e f = at y e (same_identity y (at_index i)) refl f

-- what isn't found is no identity of a child
pub found_in-None : (es : List Element) (x : Identity) → found_in (identities es) x ≡ None → (j : ℕ) → slice_get (identities es) j ≡ Some x → ⊥
found_in-None es (at_key k o) h j e = (found_from-None None 0 (identities es) (at_key k o) h).1 j e
found_in-None es (at_index i) h j e =
    let same : i ≡ j = omega (arith, index_place [] es j i e) in
    let here : slice_get (identities es) i ≡ Some (at_index i) = ap (slice_get (identities es)) same ∙ e in
    let now : option_and_then (λ (y : Identity). cond (same_identity y (at_index i)) (Some i) None) (Some (at_index i)) ≡ None =
    ap (option_and_then (λ (y : Identity). cond (same_identity y (at_index i)) (Some i) None)) (sym here) ∙ h in
    none-some i (sym (sym (ap (λ b. cond b (Some i) None) (same_identity_self (at_index i))) ∙ now))

-- if no child passes, none is found
none_passes : {X : Type 0} (f : X → Bool) (xs : List X) (d : X) → ((k : ℕ) (x : X) → slice_get xs k ≡ Some x → f x ≡ true → ⊥) → position f xs ≡ None
none_passes {X} f xs d h = go (position f xs) refl
  where
    go : (o : Option ℕ) → position f xs ≡ o → o ≡ None
    go None e = refl
    go (Some i) e = let s = position-Some f xs i d e in absurd (h i (get_or xs i d) (slice_get-get_or xs i d s.0) s.1)

-- a child that isn't found is none of the old ones
pub no_match : (old : List Element) (c : Child) → found_in (identities old) c.identity ≡ None → position (is_same_child c) (identified old) ≡ None
no_match old c h =
    none_passes (is_same_child c) (identified old) c (λ k x at pass.
    let same : c.identity ≡ x.identity = same_identity_is c.identity x.identity (both _ _ pass).0 in
    found_in-None old c.identity h k (identity_at (identities old) old k x at ∙ ap Some (sym same)))

-- what a child and its element say together
child_at : (ids : List Identity) (es : List Element) (k : ℕ) (x : Identity) (e : Element) → slice_get ids k ≡ Some x → slice_get es k ≡ Some e
    → slice_get (map (λ (c : Identity × Element). let d : Child = record { identity = c.0; element = c.1 } in d) (zip ids es)) k ≡ Some (record { identity = x; element = e })
child_at [] es k x e h f = absurd (none-some x h)
child_at (y ∷ ids) [] k x e h f = absurd (none-some e f)
child_at (y ∷ ids) (z ∷ es) zero x e h f = let s : y ≡ x = same_Some _ _ h in let t : z ≡ e = same_Some _ _ f in rw (s, t) refl
child_at (y ∷ ids) (z ∷ es) (suc k) x e h f = child_at ids es k x e h f

-- a child that is found is that old one if their kinds agree, else none
pub match_at : (old : List Element) (c : Child) (p : ℕ) (e : Element) (b : Bool) → found_in (identities old) c.identity ≡ Some p
    → p < length old → e ≡ get_or old p e → b ≡ same_kind (kind_of c.element) (kind_of e)
    → cond b (Some p) None ≡ position (is_same_child c) (identified old)
match_at old c p e b h lt is kinds = go b kinds
  where
    d : Child
    d = record { identity = c.identity; element = e }

    at : slice_get (identified old) p ≡ Some d
    at = child_at (identities old) old p c.identity e (found_in-Some old c.identity p h) (slice_get-get_or old p e lt ∙ ap Some (sym is))

    go : (b : Bool) → b ≡ same_kind (kind_of c.element) (kind_of e) → cond b (Some p) None ≡ position (is_same_child c) (identified old)
    go true k = sym (position_is_the_one old c p d at (ap (λ b. b && same_kind (kind_of c.element) (kind_of e)) (same_identity_self c.identity) ∙ sym k))
    go false k =
        sym (none_passes (is_same_child c) (identified old) c (λ j x there pass.
        let parts = both _ _ pass in
        let one : c.identity ≡ x.identity = same_identity_is c.identity x.identity parts.0 in
        let place : j ≡ p = children_distinct old j p x d there at (sym one) in
        let same : x ≡ d = same_Some _ _ (sym there ∙ ap (slice_get (identified old)) place ∙ at) in
        let yes : same_kind (kind_of c.element) (kind_of e) ≡ true = sym (ap (λ (y : Child). same_kind (kind_of c.element) (kind_of y.element)) same) ∙ parts.1 in
        absurd (cc)))

-- a value that is there if a test passes
pub then_some-cond : (b : Bool) (p : ℕ) → then_some b p ≡ cond b (Some p) None
then_some-cond true p = refl
then_some-cond false p = refl

-- an identity that is found is one of a child
pub found_within : (old : List Element) (x : Identity) (p : ℕ) → found_in (identities old) x ≡ Some p → p < length (identities old)
found_within old x p h = slice_get_within (identities old) p x (found_in-Some old x p h)

-- the children from a place on begin with the one there
children-more : (ids : List Identity) (es : List Element) (k : ℕ) (x : Identity) (e : Element) → slice_get ids k ≡ Some x → slice_get es k ≡ Some e
    → drop k (map (λ (c : Identity × Element). let d : Child = record { identity = c.0; element = c.1 } in d) (zip ids es))
    ≡ record { identity = x; element = e } ∷ drop (suc k) (map (λ (c : Identity × Element). let d : Child = record { identity = c.0; element = c.1 } in d) (zip ids es))
children-more [] es k x e h f = absurd (none-some x h)
children-more (y ∷ ids) [] k x e h f = absurd (none-some e f)
children-more (y ∷ ids) (z ∷ es) zero x e h f = let s : y ≡ x = same_Some _ _ h in let t : z ≡ e = same_Some _ _ f in rw (s, t) refl
children-more (y ∷ ids) (z ∷ es) (suc k) x e h f = children-more ids es k x e h f

length-children : (ids : List Identity) (es : List Element) → length (map (λ (c : Identity × Element). let d : Child = record { identity = c.0; element = c.1 } in d) (zip ids es)) ≤ length es
length-children [] es = omega arith
length-children (y ∷ ids) [] = omega arith
length-children (y ∷ ids) (z ∷ es) = omega (arith, length-children ids es)

-- where a new child was
abbrev pub place_of : (old : List Element) → Child → Option ℕ
place_of old c = position (is_same_child c) (identified old)

-- what a child's identity is by the siblings before it
pub identity-there : (earlier es : List Element) (k : ℕ) (e : Element) → slice_get es k ≡ Some e
    → slice_get (identities_after earlier es) k ≡ Some (identity_after (earlier ++ take k es) (key_of e))
identity-there earlier [] k e h = absurd (none-some e h)
identity-there earlier (x ∷ es) zero e h =
    let same : x ≡ e = same_Some _ _ h in
    ap (λ (y : Element). Some (identity_after earlier (key_of y))) same ∙ ap (λ (zs : List Element). Some (identity_after zs (key_of e))) (sym (append-nil earlier))
identity-there earlier (x ∷ es) (suc k) e h =
    identity-there (earlier ++ x ∷ []) es k e h ∙ ap (λ (zs : List Element). Some (identity_after zs (key_of e))) (append_assoc earlier (x ∷ []) (take k es))

-- one child more
pub more_places : (old new : List Element) (k : ℕ) (id : Identity) (e : Element) (all places after : List (Option ℕ)) (r : Option ℕ)
    → k < length new → e ≡ get_or new k e
    → all ≡ places ++ map (place_of old) (drop k (identified new))
    → id ≡ identity_after (take k new) (key_of e)
    → r ≡ place_of old (record { identity = id; element = e })
    → after ≡ places ++ r ∷ []
    → all ≡ after ++ map (place_of old) (drop (k + 1) (identified new))
more_places old new k id e all places after r ln ee so_far known one pushed =
    so_far
    ∙ ap (λ (cs : List Child). places ++ map (place_of old) cs) ahead
    ∙ ap (λ (x : Option ℕ). places ++ (x ∷ map (place_of old) (drop (k + 1) (identified new)))) (sym one)
    ∙ sym (append_assoc places (r ∷ []) (map (place_of old) (drop (k + 1) (identified new))))
    ∙ ap (λ (ps : List (Option ℕ)). ps ++ map (place_of old) (drop (k + 1) (identified new))) (sym pushed)
  where
    there : slice_get new k ≡ Some e
    there = slice_get-get_or new k e ln ∙ ap Some (sym ee)

    ahead : drop k (identified new) ≡ record { identity = id; element = e } ∷ drop (k + 1) (identified new)
    ahead = rw add-one (children-more (identities new) new k id e (identity-there [] new k e there ∙ ap Some (sym known)) there)

pub drop-end : {A : Type 0} (xs : List A) (k : ℕ) → length xs ≤ k → drop k xs ≡ []
drop-end [] zero h = refl
drop-end [] (suc k) h = refl
drop-end (x ∷ xs) zero h = absurd (omega arith)
drop-end (x ∷ xs) (suc k) h = drop-end xs k (omega arith)

-- behind the last child none is left
pub all_places : (old new : List Element) (k : ℕ) (all places : List (Option ℕ)) → length new ≤ k → all ≡ places ++ map (place_of old) (drop k (identified new)) → places ≡ all
all_places old new k all places h e =
    sym (e ∙ ap (λ (cs : List Child). places ++ map (place_of old) cs) (drop-end (identified new) k (omega (arith, length-children (identities new) new))) ∙ append-nil places)
