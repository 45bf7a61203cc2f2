-- How old children are found again: the tables that a matching keeps, and what it reads off them.
use Rattle.std.specs.Prelude.{◌≡◌, ℕ, ◌+◌, max, Bool, false, not, ◌&&◌, List, [], ◌∷◌, ℤ, Option, Some, None, nat_eq, nat_lt, slice_get, filter, length, map, unwrap_or, count_by, option_and_then, if◌then◌else◌}
use Rattle.std.specs.Option.{option_map_or}
use Rattle.std.specs.Ordering.{int_eq}
use Rattle.std.specs.List.{range_with_len}
use Rattle.std.specs.HashMap.{HashMap, get}
use Rattle.std.specs.declared.hash.FoldHasher.{FoldHasher}
use Rattle.std.specs.declared.hash.BuildHasherDefault.{BuildHasherDefault}
use Rattle.rx_elem.specs.Elements.{Element, is_present}
use Rattle.rx_elem.specs.Identity.{Identity, at_key, at_index, has_key, same_identity, identities, is_reused}
use Rattle.rx_keys.specs.declared.identity.Identity as code
use Rattle.rx_keys.specs.IdentityView.{identity_seen}

-- how many children had each key
abbrev pub Counts : Type 0
Counts = HashMap ℤ ℕ (BuildHasherDefault FoldHasher)

-- the counts are those of the keys of these children
abbrev pub CountsKeys : Counts → List Element → Type 0
CountsKeys counts children = (k : ℤ) → unwrap_or (get int_eq counts k) 0 ≡ count_by (has_key k) children

-- where the child with each key and each number of earlier siblings with that key was
abbrev pub Table : Type 0
Table = HashMap (ℤ × ℕ) ℕ (BuildHasherDefault FoldHasher)

-- two keys of the table are equal
abbrev pub same_pair : ℤ × ℕ → ℤ × ℕ → Bool
same_pair a b = int_eq a.0 b.0 && nat_eq a.1 b.1

-- where an identity is found from a place on, else where it was found before
abbrev pub found_from : (found : Option ℕ) → (place : ℕ) → List Identity → Identity → Option ℕ
found_from found place [] x = found
found_from found place (y ∷ ids) x = found_from (if same_identity y x then Some place else found) (place + 1) ids x

-- where an identity is found: a key by the table, an index at its own place
abbrev pub found_in : List Identity → Identity → Option ℕ
found_in ids (at_key k o) = found_from None 0 ids (at_key k o)
found_in ids (at_index i) = option_and_then (λ y. if same_identity y (at_index i) then Some i else None) (slice_get ids i)

-- the identities are those of the children, and the table finds each key among them
pub record KnowsAll (children : List Element) (ids : List code.Identity) (table : Table) : Type 0 where
  pub ids_are : map identity_seen ids ≡ identities children
  pub found : (k : ℤ) (o : ℕ) → get same_pair table (k, o) ≡ found_in (identities children) (at_key k o)

-- whether each child moved, by the place behind the greatest old one so far
abbrev pub moves_below : (behind : ℕ) → List (Option ℕ) → List Bool
moves_below behind [] = []
moves_below behind (x ∷ xs) = option_map_or (λ p. nat_lt (p + 1) behind) x false ∷ moves_below (option_map_or (λ p. max behind (p + 1)) x behind) xs

-- an old child is gone
abbrev pub is_gone : List Element → List (Option ℕ) → ℕ → Bool
is_gone old places p = option_map_or is_present (slice_get old p) false && not (is_reused places p)

-- the places of the old children that are gone, by those that are found again
abbrev pub gone_places : List Element → List (Option ℕ) → List ℕ
gone_places old places = filter (is_gone old places) (range_with_len 0 (length old))
