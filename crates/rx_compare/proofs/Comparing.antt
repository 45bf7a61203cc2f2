-- The pasts of a list, place by place.
use Rattle.std.proofs.Common.{◌≡◌, ℕ, zero, suc, ◌+◌, ◌<◌, Bool, List, [], ◌∷◌, ◌++◌, length, get_or, drop, Option, Some, None, refl, ap, sym, ◌∙◌, map, option_and_then, arith, add-one}
use Rattle.std.specs.List.{zip}
use Rattle.std.proofs.lemmas.List.{length-map}
use Rattle.std.proofs.lemmas.Slice.Zip.{length-zip}
use Rattle.rx_elem.specs.Elements.{Element}
use Rattle.rx_elem.specs.Identity.{identities_after, identities, identified, old_places, moves_after}
use Rattle.rx_elem.specs.Trees.{Node, Forest, forest, elements_in}
use Rattle.rx_elem.specs.Compare.{Past, pasts, node_at}
use Rattle.rx_keys.specs.declared.matching.Matching.{Matching}
use Rattle.rx_node.proofs.Listing.{length-elements_in}
use Rattle.rx_compare.specs.Matched.{IsMatched}

length-identities_after : (earlier es : List Element) → length (identities_after earlier es) ≡ length es
length-identities_after earlier [] = refl
length-identities_after earlier (e ∷ es) = ap suc (length-identities_after (earlier ++ e ∷ []) es)

-- each new child has an old place, or none
length-old_places : (old new : List Element) → length (old_places old new) ≡ length new
length-old_places old new =
    length-map (identified new) _
    ∙ length-map (zip (identities new) new) _
    ∙ length-zip (identities new) new
    ∙ omega (arith, length-identities_after [] new)

length-moves_after : (earlier : List ℕ) (ps : List (Option ℕ)) → length (moves_after earlier ps) ≡ length ps
length-moves_after earlier [] = refl
length-moves_after earlier (None ∷ ps) = ap suc (length-moves_after earlier ps)
length-moves_after earlier (Some p ∷ ps) = ap suc (length-moves_after (p ∷ earlier) ps)

-- the places that are matched are those of the new list
pub length-places : (old : Forest) (ns : List (Option Node)) (m : Matching) → IsMatched old (elements_in (forest ns)) m → length m.places.items ≡ length ns
length-places old ns m is = ap length is.places ∙ length-old_places (elements_in old) (elements_in (forest ns)) ∙ length-elements_in ns

-- for each it is known whether it moved
pub length-moved : (old : Forest) (ns : List (Option Node)) (m : Matching) → IsMatched old (elements_in (forest ns)) m → length m.moved.items ≡ length ns
length-moved old ns m is =
    ap length is.moved
    ∙ length-moves_after [] (old_places (elements_in old) (elements_in (forest ns)))
    ∙ length-old_places (elements_in old) (elements_in (forest ns))
    ∙ length-elements_in ns

-- the past of a child, by its old place and whether it moved
abbrev past_of : Forest → Option ℕ → Bool → Past
past_of old place moved = record { old = option_and_then (node_at old) place; moved = moved }

-- the pasts of children
abbrev pasts_by : Forest → List (Option ℕ) → List Bool → List Past
pasts_by old places moved = map (λ (x : Option Node × Bool). let p : Past = record { old = x.0; moved = x.1 } in p) (zip (map (option_and_then (node_at old)) places) moved)

pasts_by-front : (old : Forest) (places : List (Option ℕ)) (moved : List Bool) (k : ℕ) (x : Option ℕ) (y : Bool) → k < length places → k < length moved
    → x ≡ get_or places k x → y ≡ get_or moved k y → drop k (pasts_by old places moved) ≡ past_of old x y ∷ drop (suc k) (pasts_by old places moved)
pasts_by-front old [] moved k x y h g e f = absurd (omega arith)
pasts_by-front old (p ∷ ps) [] k x y h g e f = absurd (omega arith)
pasts_by-front old (p ∷ ps) (m ∷ ms) zero x y h g e f = λ i. past_of old (sym e i) (sym f i) ∷ pasts_by old ps ms
pasts_by-front old (p ∷ ps) (m ∷ ms) (suc k) x y h g e f = pasts_by-front old ps ms k x y (omega arith) (omega arith) e f

-- the next past is that of the place
pub pasts-front : (old : Forest) (es : List Element) (m : Matching) (k : ℕ) (x : Option ℕ) (y : Bool) → IsMatched old es m
    → k < length m.places.items → k < length m.moved.items → x ≡ get_or m.places.items k x → y ≡ get_or m.moved.items k y
    → drop k (pasts old es) ≡ past_of old x y ∷ drop (k + 1) (pasts old es)
pasts-front old es m k x y is h g e f =
    ap (λ ps. drop k ps) (sym same)
    ∙ pasts_by-front old m.places.items m.moved.items k x y h g e f
    ∙ ap (λ ps. past_of old x y ∷ drop (suc k) ps) same
    ∙ ap (λ j. past_of old x y ∷ drop j (pasts old es)) (sym (add-one k))
  where
    same : pasts_by old m.places.items m.moved.items ≡ pasts old es
    same = λ i. pasts_by old (is.places i) (is.moved i)
