-- An error boundary's fallback opens in its own fiber, beside no old nodes.
use Rattle.std.specs.Prelude.{◌≡◌, ℕ, ℤ, false, List, [], ◌∷◌, Option, Some, None}
use Rattle.std.proofs.Common.{refl, sym, ap, ◌∙◌, subst}
use Rattle.rx_catch.specs.declared.state.CatchState.TheVariants.{Caught}
use Rattle.rx_ctx.specs.Contexts.{Stack, moved_in, moves_by, values_at}
use Rattle.rx_elem.specs.Elements.{Element}
use Rattle.rx_elem.specs.Trees.{of_catcher}
use Rattle.rx_elem.specs.Trees as trees
use Rattle.rx_elem.specs.Compare.{old_nodes}
use Rattle.rx_lists.specs.Shapes.{none}
use Rattle.rx_links.specs.Drafts.{Draft, taken, Trees, entry}
use Rattle.rx_links.specs.Readers.{IsLinked, made_value_in, made_value_of}
use Rattle.rx_meaning.specs.Fresh.{Part, part}
use Rattle.rx_meaning.specs.Cursor.{Cursor, around}
use Rattle.rx_meaning.specs.Touched.{children_with_old}
use Rattle.rx_fiber.specs.Fibers.{Fiber, as_matched, begun}
use Rattle.rx_fiber.specs.OldLists.{matched}
use Rattle.rx_fiber.specs.Reading.{no_more}
use Rattle.rx_fiber.specs.Stood.{gave, given_in, given_more}
use Rattle.rx_fiber.specs.Surround.{given_along, moves_along, AreNext, IsAround, IsOfNode, fallback_in}
use Rattle.rx_fiber.specs.Standing.{opened}
use Rattle.rx_fiber.specs.Unwound.{IsCaughtAt}
use Rattle.rx_fiber.proofs.Matching.{matched_old}
use Rattle.rx_fiber.proofs.Opening.{opens_one}
use Rattle.rx_fiber.proofs.Stacking.{unchanged}
use Rattle.rx_fiber.proofs.Unwinding.{catcher_gives}
use Rattle.rx_children.specs.Children.{AreMade}
use Rattle.rx_children.specs.Nodes.{IsBareAt, IsBareBeside, HasList}
use Rattle.rx_fallback.specs.Opening.{HasCaughtKids, HasOpenedAs, IsCatchLeft, stopped, opened_at}
use Rattle.rx_fallback.specs.declared.opening.Opened.{Opened}
use Rattle.rx_children.proofs.Making.{KnowsPlaces, made_list}
use Rattle.rx_children.proofs.Nexts.{nexts}
use Rattle.rx_children.proofs.Origins.{kids_new, kids_wait, matched_none}
use Rattle.rx_children.proofs.Waiting.{all_wait}
use Rattle.rx_fallback.proofs.Falling.{has_opened}

module _ (t : Trees Fiber) (st : Stack) (p : ℕ) (x : ℤ) (c : Cursor) (l : IsCaughtAt t st p (taken none) x c) (linked : IsLinked t.current) where
  abbrev its_list : Part
  its_list = part (values_at st) (fallback_in l.value.element ∷ []) trees.none

  abbrev its_given : List (ℕ × ℤ)
  its_given = given_more l.value.element (given_along l.frames)

  -- the fibers that are made for the fallback's list begin next
  begins : (ms : List ℕ) (es : List Element) (os : List (Option ℕ)) → es ≡ fallback_in l.value.element ∷ [] → os ≡ matched none es → (d : Draft Fiber) → AreMade t.current (as_matched false 1) 0 es os d
      → AreNext t.current ms its_given 0 (children_with_old its_list) d
  begins ms es os es_are os_are d are =
      let own : AreMade t.current (as_matched false 1) 0 (fallback_in l.value.element ∷ []) (matched none (fallback_in l.value.element ∷ [])) d =
      subst (λ y. AreMade t.current (as_matched false 1) 0 y (matched none y) d) es_are (subst (λ y. AreMade t.current (as_matched false 1) 0 es y d) os_are are) in
      nexts t.current ms its_given 0 (fallback_in l.value.element ∷ []) (matched none (fallback_in l.value.element ∷ [])) (old_nodes trees.none (fallback_in l.value.element ∷ [])) d
      (all_wait t.current ms its_given (as_matched false 1) 0 (fallback_in l.value.element ∷ []) (matched none (fallback_in l.value.element ∷ [])) d (λ so. absurd (let q : ⊥ = cc in q)) (λ so. absurd (let q : ⊥ = cc in q)) own)
      (matched_old t.current linked trees.none none (record { are = no_more; listed = refl }) (fallback_in l.value.element ∷ []))

  -- the render stands at the fallback, or at its end
  pub caught_stands : (new : Trees Fiber) (es : List Element) (os : List (Option ℕ)) (link : Option ℕ) → HasList (as_matched false 1) t new p (begun (of_catcher (Caught x))) es os link
      → es ≡ fallback_in l.value.element ∷ [] → os ≡ matched none es → HasOpenedAs new st c (opened_at link p)
  caught_stands new es os link done es_are os_are =
      let w : Fiber = record l.value { stage = begun (of_catcher (Caught x)) } in
      let ms : List ℕ = moved_in (moves_by (given_in w.element) (gave new.current l.old) (moves_along new.current l.around)) in
      let next : AreNext new.current ms its_given 0 (children_with_old its_list) done.kids = subst (λ k. AreNext k ms its_given 0 (children_with_old its_list) done.kids) (sym done.current) (begins ms es os es_are os_are done.kids done.are) in
      let moves = l.moves ∙ (ap (λ k. moves_along k l.around) (sym done.current) ∙ ap (λ g. moves_by g (gave new.current l.old) (moves_along new.current l.around)) (sym (catcher_gives l.value.element l.catcher))) in
      subst (λ y. HasOpenedAs new st c (opened_at y p)) (sym done.first_is)
      (subst (λ y. HasOpenedAs new st y (opened_at (entry done.kids) p)) (sym l.opens)
      (has_opened new st ms p l.levels l.frames (around l.value.element (of_catcher (Caught x))) its_list done.kids (made_list 0 es os done.kids done.are)
      (opens_one new st l.around p l.levels w l.old done.kids l.rest l.frames l.value.element (of_catcher (Caught x)) its_list (done.stands l.around l.value l.old l.rest l.here) refl refl refl
      (subst (λ k. IsOfNode k l.old) (sym done.current) l.of_node) next (subst (λ k. IsAround k l.around l.value.place l.rest l.frames) (sym done.current) l.surrounds)
      (unchanged st (around l.value.element (of_catcher (Caught x))) (opened l.frames) (catcher_gives l.value.element l.catcher) l.stack) moves)
      next))

  pub caught_element : KnowsPlaces t → (v : Fiber) → Some v ≡ made_value_of t.draft p → v.element ≡ l.value.element
  caught_element knows v e =
      let f : made_value_of t.draft p ≡ Some l.value = ap made_value_in (knows l.around p l.value l.old (taken none) l.rest l.here).list in
      let same : v ≡ l.value = cc in
      ap (λ u. u.element) same

pub catch_bare : (t : Trees Fiber) (p : ℕ) → IsCatchLeft t p → IsBareAt t p
catch_bare t p (stopped l) = record { around = l.around; value = l.value; old = l.old; rest = l.rest; here = l.here }

pub catch_beside : (t : Trees Fiber) (p : ℕ) → IsCatchLeft t p → IsBareBeside t p None
catch_beside t p (stopped l) = record { around = l.around; value = l.value; old = l.old; rest = l.rest; here = l.here; tops = λ j h. absurd h }

-- its fibers are made for no current ones
pub caught_kids : (t new : Trees Fiber) (p : ℕ) (x : ℤ) (es : List Element) (link : Option ℕ) (f : Opened) → HasList (as_matched false 1) t new p (begun (of_catcher (Caught x))) es (matched none es) link → f ≡ opened_at link p → HasCaughtKids t new p f
caught_kids t new p x es link f list answer = record {
  kids = list.kids;
  value = λ v. record v { stage = begun (of_catcher (Caught x)) };
  stage = λ v. refl;
  element = λ v. refl;
  all = kids_wait t.current (as_matched false 1) 0 es (matched none es) list.kids list.are;
  new = kids_new t.current (as_matched false 1) 0 es (matched none es) list.kids list.are (matched_none none es refl);
  stands = list.stands;
  answer_is = answer ∙ ap (λ y. opened_at y p) list.first_is;
}
