-- The fibers that are made for a fallback's list begin next, clones of the old ones too.
use Rattle.std.specs.Prelude.{◌≡◌, ℕ, Bool, true, false, List, [], ◌∷◌, Option, Some, None, option_and_then, option_map, slice_get}
use Rattle.std.specs.Option.{option_flatten, option_map_or}
use Rattle.std.specs.List.{zip}
use Rattle.std.proofs.Common.{refl, sym, ap, ◌∙◌, subst, inl, inr}
use Rattle.rx_base.specs.Awaits.{Awaits}
use Rattle.rx_ast.specs.Syntax.{Program}
use Rattle.rx_ctx.specs.Contexts.{Stack}
use Rattle.rx_elem.specs.Elements.{Element}
use Rattle.rx_elem.specs.Elements as elements
use Rattle.rx_elem.specs.Compare.{old_nodes}
use Rattle.rx_elem.specs.Trees.{Forest, Mark, Node, elements_in, fallback_if, is_hidden, mark_of, node, was_hidden}
use Rattle.rx_elem.proofs.SelfMatch.{NoNull}
use Rattle.rx_lists.specs.Shapes.{Shape, none}
use Rattle.rx_links.specs.Drafts.{Draft, taken, Trees}
use Rattle.rx_links.specs.Readers.{list_from, value_of, IsLinked}
use Rattle.rx_meaning.specs.Cursor.{Cursor}
use Rattle.rx_meaning.specs.Settled.{IfSettled, IsOwn, Known}
use Rattle.commit_laws.proofs.TakeOver.{settled_no_null}
use Rattle.rx_fiber.specs.Fibers.{Fiber, as_cloned}
use Rattle.rx_fiber.specs.OldLists.{fallback_list, hides_in, matched, old_elements, old_fibers}
use Rattle.rx_fiber.specs.Reading.{IsOld}
use Rattle.rx_fiber.specs.Stood.{StandsBut, given_in, one_more}
use Rattle.rx_fiber.specs.Surround.{AreNext, fallback_in, given_along, moved_along, is_boundary}
use Rattle.rx_fiber.specs.Unwound.{IsLeftAt}
use Rattle.rx_fiber.proofs.OldLists.{fallback_is, hides_falls}
use Rattle.rx_fiber.proofs.Stood.{stood_in_fallback}
use Rattle.rx_causes.proofs.Marks.{mark_is}
use Rattle.rx_children.specs.Origins.{StoodIn}
use Rattle.rx_children.specs.Children.{AreMade}
use Rattle.rx_children.specs.Again.{HasOldFallback}
use Rattle.rx_fallback.specs.Opening.{IsFallbackOf, given_as, given_elements, given_fibers}
use Rattle.rx_children.proofs.Cloning.{kept_next}
use Rattle.rx_fallback.proofs.Falling.{BeginsNext, boundary_gives, matched_next}
use Rattle.rx_children.proofs.OldNodes.{stood_in, mark_hides}
use Rattle.rx_children.proofs.Waiting.{all_wait}

-- What a settled hidden boundary has for its fallback

-- the elements of its fallback are that of its element
own_fallback : (p : Program) (k : Known) (e : Element) (m : Mark) (ns fs : Forest) → IsOwn p k e m ns fs → is_boundary e ≡ true → is_hidden m ≡ true → elements_in fs ≡ fallback_in e ∷ []
own_fallback p k elements.null m ns fs own boundary hidden = cc
own_fallback p k (elements.text t) m ns fs own boundary hidden = cc
own_fallback p k (elements.host n key attrs es) m ns fs own boundary hidden = cc
own_fallback p k (elements.comp c key props given) m ns fs own boundary hidden = cc
own_fallback p k (elements.list marked es) m ns fs own boundary hidden = cc
own_fallback p k (elements.boundary key f es) m ns fs (inl own) boundary hidden = absurd (let q : true ≡ false = sym hidden ∙ ap is_hidden own.0 in let r : ⊥ = cc in r)
own_fallback p k (elements.boundary key f es) m ns fs (inr own) boundary hidden = own.2
own_fallback p k (elements.catcher key f es) m ns fs own boundary hidden = cc
own_fallback p k (elements.provider c key x es) m ns fs own boundary hidden = cc

-- and none of its nodes is one of null
fallback_is_own : (p : Program) (k : Known) (e : Element) (old : Option Node) → IfSettled p k old → StoodIn old e → is_boundary e ≡ true → was_hidden old ≡ true
    → (elements_in (fallback_if old) ≡ fallback_in e ∷ []) × NoNull (fallback_if old)
fallback_is_own p k e None settled same boundary hidden = cc
fallback_is_own p k e (Some (node f m ns fs)) settled same boundary hidden =
    let g : f ≡ e = cc in
    (own_fallback p k e m ns fs (subst (λ x. IsOwn p k x m ns fs) g settled.0) boundary hidden, settled_no_null p k fs settled.2)

hides_if : (c : Shape Fiber) (o : Option ℕ) (old : Option Node) (v : Fiber) → IsOld c o old → was_hidden old ≡ true → option_and_then (value_of c) o ≡ Some v → hides_in v.stage ≡ true
hides_if c o old v was hidden value = sym (mark_hides c o v value) ∙ (ap (λ m. option_map_or is_hidden m false) (mark_is c o old was) ∙ by_old old hidden)
  where
    by_old : (x : Option Node) → was_hidden x ≡ true → option_map_or is_hidden (option_map mark_of x) false ≡ true
    by_old None h = h
    by_old (Some n) h = h

module _ (t : Trees Fiber) (st : Stack) (p : ℕ) (a : Awaits) (c : Cursor) (l : IsLeftAt t st p (taken none) a c) (linked : IsLinked t.current) where
  abbrev its_old : Shape Fiber
  its_old = fallback_list (list_from t.current l.old)

  -- clones of the old fallback's fibers stand where these stand
  clones_stand : HasOldFallback t.current (given_along l.frames) l.old l.node l.value.element → (i j : ℕ) → slice_get (old_fibers its_old) i ≡ Some (Some j)
      → StandsBut t.current (moved_along t.current l.around) (given_along l.frames) (Some j)
  clones_stand h i j is =
      let stands : StandsBut t.current (moved_along t.current l.around) (given_along l.frames) l.old = record { given = h.stands.given; stood = h.stands.stood; same = λ d f. h.stands.same d refl } in
      stood_in_fallback t.current (moved_along t.current l.around) (given_along l.frames) l.value.element l.old i j stands h.same (λ v value. hides_falls v.stage (hides_if t.current l.old l.node v l.was h.hidden value)) (ap option_flatten is)

  -- clones begin next
  cloned_next : HasOldFallback t.current (given_along l.frames) l.old l.node l.value.element → (visible : Bool) (d : Draft Fiber) → AreMade t.current (as_cloned visible) 0 (old_elements its_old) (old_fibers its_old) d
      → BeginsNext t st p a c l linked d
  cloned_next h visible d are =
      let own = fallback_is_own h.program h.known l.value.element l.node h.settled (stood_in t.current l.old l.node l.value.element l.was h.same) l.boundary h.hidden in
      let gives : given_along l.frames ≡ one_more (given_in l.value.element) (given_along l.frames) = ap (λ g. one_more g (given_along l.frames)) (sym (boundary_gives l.value.element l.boundary)) in
      subst (λ ws. AreNext t.current (moved_along t.current l.around) ws 0 (zip (fallback_in l.value.element ∷ []) (old_nodes (fallback_if l.node) (fallback_in l.value.element ∷ []))) d) gives
      (subst (λ es. AreNext t.current (moved_along t.current l.around) (given_along l.frames) 0 (zip es (old_nodes (fallback_if l.node) es)) d) own.0
      (kept_next t.current linked (moved_along t.current l.around) (given_along l.frames) (fallback_if l.node) its_old (fallback_is t.current linked l.old l.node l.was) own.1 d
      (all_wait t.current (moved_along t.current l.around) (given_along l.frames) (as_cloned visible) 0 (old_elements its_old) (old_fibers its_old) d (λ so. refl) (λ so. clones_stand h) are)))

  -- So do those of the elements that are given, and clones if none are.
  pub given_next : (given : Option (List Element)) (visible : Bool) (generation : ℕ) → IsFallbackOf t.current (moved_along t.current l.around) (given_along l.frames) l.old l.node l.value.element given visible → (s : Shape Fiber) → s ≡ its_old
      → (d : Draft Fiber) → AreMade t.current (given_as given visible generation) 0 (given_elements given s) (given_fibers given s) d → BeginsNext t st p a c l linked d
  given_next None visible generation h s is d are = cloned_next h visible d (subst (λ x. AreMade t.current (as_cloned visible) 0 (old_elements x) (old_fibers x) d) is are)
  given_next (Some es) visible generation h s is d are =
      matched_next t st p a c l linked visible generation h.1 es (matched s es) h.0 (ap (λ x. matched x es) is ∙ ap (matched its_old) h.0) d are

-- the old list of the fallback is that of the definition
pub same_old : (t u : Trees Fiber) (old o first : Option ℕ) → list_from t.current first ≡ fallback_list (list_from t.current o) → o ≡ old → u.current ≡ t.current
    → list_from u.current first ≡ fallback_list (list_from t.current old)
same_old t u old o first list same current = ap (λ k. list_from k first) current ∙ (list ∙ ap (λ q. fallback_list (list_from t.current q)) same)
