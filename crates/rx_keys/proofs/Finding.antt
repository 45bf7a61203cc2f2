-- A child is found by its identity.
use Rattle.std.proofs.Common.{◌≡◌, ℕ, suc, ◌+◌, ◌<◌, cond, List, [], ◌∷◌, ◌++◌, Option, Some, map, length, get_or, drop, refl, sym, ap, ◌∙◌, add-one}
use Rattle.std.proofs.Math.Seq.{drop-cons}
use Rattle.std.proofs.lemmas.List.{length-map}
use Rattle.rx_elem.specs.Elements.{Element}
use Rattle.rx_elem.specs.Identity.{at_key, same_identity, identities_after, identities}
use Rattle.rx_elem.specs.Identity as identity
use Rattle.rx_keys.specs.declared.identity.Identity.{Identity}
use Rattle.rx_keys.specs.IdentityView.{identity_seen}
use Rattle.rx_keys.specs.Found.{found_from}

-- what is left begins with the identity at the place
begins : (ids : List Identity) (place : ℕ) (d id : Identity) → place < length ids → get_or ids place d ≡ id → drop place ids ≡ id ∷ drop (place + 1) ids
begins ids place d id h e = rw add-one (drop-cons ids place d h ∙ ap (λ a. a ∷ drop (suc place) ids) e)

-- one identity more is looked at
pub found_from-more : (ids : List Identity) (place : ℕ) (d id : Identity) (found after : Option ℕ) (x : identity.Identity) (all : Option ℕ)
    → place < length ids → get_or ids place d ≡ id
    → all ≡ found_from found place (map identity_seen (drop place ids)) x
    → after ≡ cond (same_identity (identity_seen id) x) (Some place) found
    → all ≡ found_from after (place + 1) (map identity_seen (drop (place + 1) ids)) x
found_from-more ids place d id found after x all h is so_far now =
    so_far
    ∙ ap (λ (zs : List Identity). found_from found place (map identity_seen zs) x) (begins ids place d id h is)
    ∙ ap (λ (o : Option ℕ). found_from o (place + 1) (map identity_seen (drop (place + 1) ids)) x) (sym now)

length-identities_after : (earlier es : List Element) → length (identities_after earlier es) ≡ length es
length-identities_after earlier [] = refl
length-identities_after earlier (e ∷ es) = ap suc (length-identities_after (earlier ++ e ∷ []) es)

-- there is an identity for each child
pub length-identities : (ids : List Identity) (es : List Element) → map identity_seen ids ≡ identities es → length ids ≡ length es
length-identities ids es h = sym (length-map ids identity_seen) ∙ ap length h ∙ length-identities_after [] es

pub length-all : (es : List Element) → length (identities es) ≡ length es
length-all es = length-identities_after [] es
