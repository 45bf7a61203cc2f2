-- A list of children, place by place.
use Rattle.std.proofs.Common.{◌≡◌, ℕ, zero, suc, ◌+◌, ◌<◌, ◌≤◌, List, [], ◌∷◌, ◌++◌, length, get_or, drop, Option, Some, None, refl, ap, sym, subst, ◌∙◌, map, option_and_then, arith, add-one}
use Rattle.std.specs.List.{zip}
use Rattle.std.proofs.lemmas.List.{length-map, drop_all}
use Rattle.std.proofs.lemmas.Slice.Zip.{length-zip}
use Rattle.rx_base.specs.Awaits.{Awaits}
use Rattle.std.specs.Prelude.{ℤ}
use Rattle.rx_ast.specs.Syntax.{Program}
use Rattle.rx_elem.specs.Elements.{Element, gathered, listed}
use Rattle.rx_elem.specs.Identity.{identities_after, identities, identified, old_places}
use Rattle.rx_elem.specs.Trees.{Node, Forest, forest, elements_in}
use Rattle.rx_elem.specs.Trees as trees
use Rattle.rx_elem.specs.Compare.{node_at, old_nodes}
use Rattle.rx_compare.specs.Matched.{element_at}
use Rattle.rx_meaning.specs.Fresh.{Places, Place, Renders, all_made, before, empty, made, one_throws, one_waits, render_all, throws, waits}
use Rattle.draw_laws.specs.Drawn.{AreDrawn, IsDrawn}

length-identities_after : (earlier es : List Element) → length (identities_after earlier es) ≡ length es
length-identities_after earlier [] = refl
length-identities_after earlier (e ∷ es) = ap suc (length-identities_after (earlier ++ e ∷ []) es)

-- each new child has an old place, or none
pub length-old_places : (old new : List Element) → length (old_places old new) ≡ length new
length-old_places old new =
    length-map (identified new) _
    ∙ length-map (zip (identities new) new) _
    ∙ length-zip (identities new) new
    ∙ omega (arith, length-identities_after [] new)

-- the element of a place of a list of trees
pub element_there : (ns : List (Option Node)) (k : ℕ) (n : Option Node) → n ≡ get_or ns k n → element_at n ≡ get_or (elements_in (forest ns)) k (element_at n)
element_there ns k n is = go ns k is
  where
    go : (ms : List (Option Node)) (j : ℕ) → n ≡ get_or ms j n → element_at n ≡ get_or (elements_in (forest ms)) j (element_at n)
    go [] j e = refl
    go (None ∷ ms) zero e = ap element_at e
    go (Some m ∷ ms) zero e = ap element_at e
    go (None ∷ ms) (suc j) e = go ms j e
    go (Some m ∷ ms) (suc j) e = go ms j e

-- a list of elements, gathered and listed again
pub listed-gathered : (es : List Element) → listed (gathered es) ≡ es
listed-gathered [] = refl
listed-gathered (e ∷ es) = ap (λ xs. e ∷ xs) (listed-gathered es)

-- an element of a list that fits a program fits it
pub drawn_at : (p : Program) (es : List Element) (k : ℕ) (e d : Element) → k < length es → e ≡ get_or es k d → AreDrawn p (gathered es) → IsDrawn p e
drawn_at p [] k e d h is drawn = absurd (omega arith)
drawn_at p (x ∷ es) zero e d h is drawn = subst (IsDrawn p) (sym is) drawn.0
drawn_at p (x ∷ es) (suc k) e d h is drawn = drawn_at p es k e d (omega arith) is drawn.1

-- children that are done, in front of what the places that are left give
abbrev pub onto : List (Option Node) → Places → Places
onto [] rest = rest
onto (None ∷ ns) rest = before empty (onto ns rest)
onto (Some n ∷ ns) rest = before (made n) (onto ns rest)

-- what a place gives that has a node or none
abbrev pub as_place : Option Node → Place
as_place None = empty
as_place (Some n) = made n

-- one more at the end is the first of the others
onto-push : (ns : List (Option Node)) (x : Option Node) (rest : Places) → onto (ns ++ x ∷ []) rest ≡ onto ns (before (as_place x) rest)
onto-push [] None rest = refl
onto-push [] (Some n) rest = refl
onto-push (None ∷ ns) x rest = ap (before empty) (onto-push ns x rest)
onto-push (Some n ∷ ns) x rest = ap (before (made n)) (onto-push ns x rest)

-- in front of nothing they are the list
onto-none : (ns : List (Option Node)) → onto ns (all_made trees.none) ≡ all_made (forest ns)
onto-none [] = refl
onto-none (None ∷ ns) = ap (before empty) (onto-none ns)
onto-none (Some n ∷ ns) = ap (before (made n)) (onto-none ns)

-- what waits is what the list gives
onto-waits : (ns : List (Option Node)) (a : Awaits) → onto ns (one_waits a) ≡ one_waits a
onto-waits [] a = refl
onto-waits (None ∷ ns) a = ap (before empty) (onto-waits ns a)
onto-waits (Some n ∷ ns) a = ap (before (made n)) (onto-waits ns a)

-- and what throws
onto-throws : (ns : List (Option Node)) (x : ℤ) → onto ns (one_throws x) ≡ one_throws x
onto-throws [] x = refl
onto-throws (None ∷ ns) x = ap (before empty) (onto-throws ns x)
onto-throws (Some n ∷ ns) x = ap (before (made n)) (onto-throws ns x)

-- the elements beside their old nodes, by the places of these
abbrev pairs_by : Forest → List Element → List (Option ℕ) → List (Element × Option Node)
pairs_by old es places = zip es (map (option_and_then (node_at old)) places)

pairs_by-front : (old : Forest) (es : List Element) (places : List (Option ℕ)) (k : ℕ) (e d : Element) (q b : Option ℕ) → k < length es → k < length places
    → e ≡ get_or es k d → q ≡ get_or places k b → drop k (pairs_by old es places) ≡ (e, option_and_then (node_at old) q) ∷ drop (suc k) (pairs_by old es places)
pairs_by-front old [] places k e d q b h g is at = absurd (omega arith)
pairs_by-front old (x ∷ es) [] k e d q b h g is at = absurd (omega arith)
pairs_by-front old (x ∷ es) (y ∷ places) zero e d q b h g is at = λ i. (sym is i, option_and_then (node_at old) (sym at i)) ∷ pairs_by old es places
pairs_by-front old (x ∷ es) (y ∷ places) (suc k) e d q b h g is at = pairs_by-front old es places k e d q b (omega arith) (omega arith) is at

module _ (render : Renders) (old : Forest) (es : List Element) (places : List (Option ℕ)) (are : places ≡ old_places (elements_in old) es) where
  abbrev left_from : ℕ → Places
  left_from k = render_all render (drop k (zip es (old_nodes old es)))

  -- the place at hand, before those that are left
  pub next_place : (k : ℕ) (e d : Element) (q b : Option ℕ) (o : Option Node) (x : Place) → k < length es → k < length places → e ≡ get_or es k d → q ≡ get_or places k b
      → o ≡ option_and_then (node_at old) q → x ≡ render e o → left_from k ≡ before x (left_from (k + 1))
  next_place k e d q b o x h g is at past gives =
      ap (λ (ps : List (Option ℕ)). render_all render (drop k (pairs_by old es ps))) (sym are)
      ∙ ap (render_all render) (pairs_by-front old es places k e d q b h g is at)
      ∙ ap (λ (p : Option Node). before (render e p) (render_all render (drop (suc k) (pairs_by old es places)))) (sym past)
      ∙ ap (λ (y : Place). before y (render_all render (drop (suc k) (pairs_by old es places)))) (sym gives)
      ∙ ap (λ (ps : List (Option ℕ)). before x (render_all render (drop (suc k) (pairs_by old es ps)))) are
      ∙ ap (λ j. before x (left_from j)) (sym (add-one k))

  -- a child more is done
  pub child_done : (k : ℕ) (ns after : List (Option Node)) (x : Option Node) (y : Place) (whole : Places) → left_from k ≡ before y (left_from (k + 1)) → y ≡ as_place x → after ≡ ns ++ x ∷ []
      → onto ns (left_from k) ≡ whole → onto after (left_from (k + 1)) ≡ whole
  child_done k ns after x y whole next is pushed so_far =
      ap (λ (ms : List (Option Node)). onto ms (left_from (k + 1))) pushed
      ∙ onto-push ns x (left_from (k + 1))
      ∙ ap (λ (z : Place). onto ns (before z (left_from (k + 1)))) (sym is)
      ∙ ap (onto ns) (sym next)
      ∙ so_far

  -- one that waits is what the list gives
  pub waits_here : (k : ℕ) (ns : List (Option Node)) (a : Awaits) (y : Place) (whole : Places) → left_from k ≡ before y (left_from (k + 1)) → y ≡ waits a
      → onto ns (left_from k) ≡ whole → one_waits a ≡ whole
  waits_here k ns a y whole next is so_far =
      sym (onto-waits ns a) ∙ ap (λ (z : Place). onto ns (before z (left_from (k + 1)))) (sym is) ∙ ap (onto ns) (sym next) ∙ so_far

  -- and one that throws
  pub throws_here : (k : ℕ) (ns : List (Option Node)) (x : ℤ) (y : Place) (whole : Places) → left_from k ≡ before y (left_from (k + 1)) → y ≡ throws x
      → onto ns (left_from k) ≡ whole → one_throws x ≡ whole
  throws_here k ns x y whole next is so_far =
      sym (onto-throws ns x) ∙ ap (λ (z : Place). onto ns (before z (left_from (k + 1)))) (sym is) ∙ ap (onto ns) (sym next) ∙ so_far

  -- at the end of the list all are done
  pub all_done : (k : ℕ) (ns : List (Option Node)) (whole : Places) → length es ≤ k → length places ≤ k → onto ns (left_from k) ≡ whole → all_made (forest ns) ≡ whole
  all_done k ns whole h g so_far =
      sym (onto-none ns)
      ∙ ap (λ (xs : List (Element × Option Node)). onto ns (render_all render xs)) (sym (drop_all k (zip es (old_nodes old es)) (omega (arith, length-zip es (old_nodes old es)))))
      ∙ so_far
