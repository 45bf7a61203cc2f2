-- Lists of the same texts: nothing is rendered anew.
use Rattle.std.specs.Prelude.{◌≡◌, ℕ, zero, suc, ◌+◌, ◌<◌, true, List, [], ◌∷◌, Option, Some, None, length, map, option_and_then, slice_get}
use Rattle.std.specs.List.{zip}
use Rattle.std.specs.Option.{option_flatten}
use Rattle.std.proofs.Common.{refl, sym, ap, ◌∙◌, subst, arith, get_or, drop}
use Rattle.rx_elem.specs.Elements.{Element, is_present, kind_of, same_kind, text}
use Rattle.rx_elem.specs.Identity.{old_places}
use Rattle.rx_elem.specs.Trees.{Node, Forest, none, vacant, child, element_of, elements_in, forest, places}
use Rattle.rx_elem.specs.Compare.{node_at}
use Rattle.rx_compare.specs.InPlace.{AreInPlace}
use Rattle.rx_compare.proofs.InPlace.{found_by_place, own_places}
use Rattle.rx_meaning.specs.Fresh.{Contexts, Renders, Sight, all_made, made, place, render_all, render_list, rendered}
use Rattle.rx_fresh.proofs.Shapes.{one_level}
use Rattle.rx_fresh.specs.Texts.{AreSameTexts, IsTextAt, IsTextOf}

-- ---- one place more

pub one_more : (k : ℕ) (os : List (Option Node)) (es : List Element) (o : Option Node) (e : Element) → k < length os → k < length es → o ≡ get_or os k o → e ≡ get_or es k e
    → IsTextAt o e → AreSameTexts (forest (drop (suc k) os)) (drop (suc k) es) → AreSameTexts (forest (drop k os)) (drop k es)
one_more k [] es o e a b p q h rest = absurd (omega (arith, a))
one_more k (x ∷ os) [] o e a b p q h rest = absurd (omega (arith, b))
one_more zero (None ∷ os) (y ∷ es) o e a b p q h rest = absurd (subst (λ z. IsTextAt z e) p h)
one_more zero (Some n ∷ os) (y ∷ es) o e a b p q h rest = (subst (λ z. IsTextOf n z) q (subst (λ z. IsTextAt z e) p h), rest)
one_more (suc k) (x ∷ os) (y ∷ es) o e a b p q h rest = one_more k os es o e (omega (arith, a)) (omega (arith, b)) p q h rest

-- ---- the old elements are the new ones

element_same : (n : Node) (e : Element) → IsTextOf n e → element_of n ≡ e
element_same n e h = ap element_of h.old ∙ sym h.new

elements_same : (os : Forest) (es : List Element) → AreSameTexts os es → elements_in os ≡ es
elements_same none [] h = refl
elements_same none (e ∷ es) h = absurd h
elements_same (vacant os) [] h = absurd h
elements_same (vacant os) (e ∷ es) h = absurd h
elements_same (child n os) [] h = absurd h
elements_same (child n os) (e ∷ es) h = rw (element_same n e h.0, elements_same os es h.1) refl

in_place : (os : Forest) (es : List Element) → AreSameTexts os es → AreInPlace os os
in_place none es h = tt
in_place (vacant os) [] h = absurd h
in_place (vacant os) (e ∷ es) h = absurd h
in_place (child n os) [] h = absurd h
in_place (child n os) (e ∷ es) h =
    let same : element_of n ≡ text h.0.shown = ap element_of h.0.old in
    (record { key = refl; kind = subst (λ x. same_kind (kind_of x) (kind_of x) ≡ true) (sym same) refl }, in_place os es h.1)

found : (os : Forest) (es : List Element) → AreSameTexts os es → old_places (elements_in os) es ≡ own_places 0 es
found os es h = subst (λ xs. old_places (elements_in os) xs ≡ own_places 0 xs) (elements_same os es h) (found_by_place os os (in_place os es h))

-- ---- each is rendered to its own node

module _ (render : Renders) (each : (n : Node) (e : Element) → IsTextOf n e → render e (Some n) ≡ made n) where
  all_stay : (read : ℕ → Option Node) (p : ℕ) (os : Forest) (es : List Element) → AreSameTexts os es
      → ((i q : ℕ) → q ≡ p + i → read q ≡ option_flatten (slice_get (places os) i))
      → render_all render (zip es (map (option_and_then read) (own_places p es))) ≡ all_made os
  all_stay read p none [] h at = refl
  all_stay read p none (e ∷ es) h at = absurd h
  all_stay read p (vacant os) [] h at = absurd h
  all_stay read p (vacant os) (e ∷ es) h at = absurd h
  all_stay read p (child n os) [] h at = absurd h
  all_stay read p (child n os) (e ∷ es) h at =
      let is : is_present e ≡ true = ap is_present h.0.new in
      let own : read p ≡ Some n = at 0 p (omega arith) in
      rw (is, own, each n e h.0, all_stay read (p + 1) os es h.1 (λ i q g. at (suc i) q (omega arith))) refl

  list_stays : (os : Forest) (es : List Element) → AreSameTexts os es → render_list render es os ≡ all_made os
  list_stays os es h =
      rw (found os es h) (all_stay (node_at os) 0 os es h (λ i q e. let same : q ≡ i = omega arith in ap (λ j. option_flatten (slice_get (places os) j)) same))

module _ (s : Sight) (cs : Contexts) where
  one_stays : (k : ℕ) (n : Node) (e : Element) → IsTextOf n e → place (rendered k s) s cs e (Some n) ≡ made n
  one_stays k n e h = ap (λ x. place (rendered k s) s cs x (Some n)) h.new ∙ ap made (sym h.old)

  -- a list of the same texts is the old one
  pub texts_stay : (d : ℕ) → 0 < d → (os : Forest) (es : List Element) → AreSameTexts os es → all_made os ≡ render_list (rendered d s cs) es os
  texts_stay zero some os es h = absurd (omega (arith, some))
  texts_stay (suc k) some os es h =
      sym (list_stays (rendered (suc k) s cs) (λ n e t. sym (one_level s cs e (Some n) (suc k) k (omega arith)) ∙ one_stays k n e t) os es h)
