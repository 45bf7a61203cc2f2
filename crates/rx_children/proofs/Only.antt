-- An only child beside an old list that has no place but the first.
use Rattle.std.specs.Prelude.{◌≡◌, ℕ, Bool, true, false, cond, if◌then◌else◌, List, [], ◌∷◌, map, slice_get, Option, Some, None, IfSome, option_and_then}
use Rattle.std.specs.Option.{option_flatten, option_map_or}
use Rattle.std.proofs.Common.{refl, sym, ap, ◌∙◌, subst, arith}
use Rattle.rx_elem.specs.Elements.{Element}
use Rattle.rx_elem.specs.Identity.{old_places}
use Rattle.rx_lists.specs.Shapes.{Shape, Holds, IsTop}
use Rattle.rx_links.specs.Drafts.{Trees, IsOpen, IsUnused, old_kids}
use Rattle.rx_links.specs.Readers.{list_from, value_of, IsLinked}
use Rattle.rx_fiber.specs.declared.stage.Origin.{Origin}
use Rattle.rx_fiber.specs.Fibers.{Fiber}
use Rattle.rx_fiber.specs.OldLists.{old_elements, old_fibers, matched}
use Rattle.rx_fiber.proofs.OldReads.{some_held}
use Rattle.rx_children.specs.Children.{IsAlone, HasAdded, HasMadeFrom, HasRoomFor, element_or_null}
use Rattle.rx_children.specs.Nodes.{IsBareBeside}
use Rattle.rx_children.proofs.Cloning.{list_elements}
use Rattle.rx_children.proofs.Making.{KnowsPlaces, none_yet, place_more, place_open, place_top, place_unused}
use Rattle.rx_children.proofs.Matched.{room_for}

-- Its old fiber

abbrev pub at_places : List (Option ℕ) → List (Option ℕ) → List (Option ℕ)
at_places fs ps = map (option_and_then (λ p. option_flatten (slice_get fs p))) ps

-- what is matched, by the elements and the fibers of the old list
pub matched_by : (c : Shape Fiber) → IsLinked c → (o : Option ℕ) → IfSome o (Holds c) → (fs : List (Option ℕ)) → old_fibers (list_from c o) ≡ fs → (new : List Element)
    → matched (list_from c o) new ≡ at_places fs (old_places (map (element_or_null c) fs) new)
matched_by c linked o held fs told new =
    ap (λ os. at_places os (old_places (old_elements (list_from c o)) new)) told
    ∙ ap (λ es. at_places fs (old_places es new)) (sym (list_elements c linked o held) ∙ ap (map (element_or_null c)) told)

module _ (c : Shape Fiber) (linked : IsLinked c) where
  -- beside one old fiber it has that one if it is the same child
  pub one_before : (id : ℕ) → Holds c id → IsAlone c (Some id) → (v : Fiber) → Some v ≡ value_of c id → (e : Element) (b : Bool) → old_places (v.element ∷ []) (e ∷ []) ≡ (if b then Some 0 else None) ∷ []
      → matched (list_from c (Some id)) (e ∷ []) ≡ cond b (Some id) None ∷ []
  one_before id held alone v value e b places =
      matched_by c linked (Some id) held (Some id ∷ []) alone (e ∷ [])
      ∙ (ap (λ x. at_places (Some id ∷ []) (old_places (x ∷ []) (e ∷ []))) element_is ∙ (ap (at_places (Some id ∷ [])) places ∙ by_test b))
    where
      element_is : element_or_null c (Some id) ≡ v.element
      element_is = sym (ap (λ x. option_map_or (λ w. w.element) x (element_or_null c None)) value)

      by_test : (b : Bool) → at_places (Some id ∷ []) ((if b then Some 0 else None) ∷ []) ≡ cond b (Some id) None ∷ []
      by_test true = refl
      by_test false = refl

  -- the same as the code tells it
  pub only_match : (link : Option ℕ) (id : ℕ) → link ≡ Some id → IfSome link (Holds c) → IsAlone c link → (v : Fiber) → (Holds c id → Some v ≡ value_of c id) → (o e : Element) → o ≡ v.element → (b : Bool)
      → old_places (o ∷ []) (e ∷ []) ≡ (if b then Some 0 else None) ∷ [] → (r : Option ℕ) → r ≡ cond b (Some id) None → matched (list_from c link) (e ∷ []) ≡ r ∷ []
  only_match link id is held alone v value o e same b places r result =
      let there = some_held c link id held is in
      ap (λ l. matched (list_from c l) (e ∷ [])) is
      ∙ (one_before id there (subst (λ l. IsAlone c l) is alone) v (value there) e b (ap (λ x. old_places (x ∷ []) (e ∷ [])) (sym same) ∙ places) ∙ ap (λ x. x ∷ []) (sym result))

-- Its fiber

-- beside an old list its fiber is all that is made
module _ (origin : Origin) (t : Trees Fiber) (p : ℕ) (first old : Option ℕ) (e : Element) (beside : IsBareBeside t p first) (held : IfSome first (Holds t.current)) (linked : IsLinked t.current) (knows : KnowsPlaces t)
    (is : matched (list_from t.current first) (e ∷ []) ≡ old ∷ []) where
  room : HasRoomFor t p (old ∷ [])
  room = room_for t p first (e ∷ []) (old ∷ []) beside held linked (sym is)

  nothing_yet : HasMadeFrom origin 1 t t p (e ∷ []) (old ∷ [])
  nothing_yet = none_yet origin t p 1 (e ∷ []) (old ∷ []) refl refl

  pub only_open : IsOpen t.draft p
  only_open = place_open origin t t p 1 0 (e ∷ []) (old ∷ []) room nothing_yet knows refl (omega arith)

  pub only_top : IfSome old (IsTop (old_kids t p))
  only_top = place_top origin t t p 1 0 (e ∷ []) (old ∷ []) room nothing_yet knows refl (omega arith) old refl

  pub only_unused : IfSome old (IsUnused t.draft)
  only_unused = place_unused origin t t p 1 0 (e ∷ []) (old ∷ []) room nothing_yet knows refl (omega arith) old refl

  pub only_made : (u : Trees Fiber) → HasAdded origin t u p 0 e old → HasMadeFrom origin 0 t u p (e ∷ []) (matched (list_from t.current first) (e ∷ []))
  only_made u added =
      subst (λ os. HasMadeFrom origin 0 t u p (e ∷ []) os) (sym is)
      (place_more origin t t p 1 0 (e ∷ []) (old ∷ []) room nothing_yet knows refl (omega arith) (omega arith) e refl old refl u added)
