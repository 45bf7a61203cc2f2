-- What is known of a place that begins, by its fiber and its current one.
use Rattle.std.specs.Prelude.{◌≡◌, ℕ, zero, suc, Bool, true, false, List, [], ◌∷◌, Option, Some, None, IfSome, slice_get, option_map, option_and_then}
use Rattle.std.specs.Option.{option_flatten}
use Rattle.std.proofs.Common.{refl, sym, ap, ◌∙◌, subst}
use Rattle.rx_elem.specs.Elements.{Element, same_element}
use Rattle.rx_elem.proofs.Equality.{same_element-self}
use Rattle.rx_lists.specs.Shapes.{Holds, Shape, IsTop}
use Rattle.rx_lists.specs.Shapes as shapes
use Rattle.rx_links.specs.Drafts.{Draft, taken, made, Trees, old_of}
use Rattle.rx_links.specs.Readers.{made_value_of, value_of}
use Rattle.rx_fiber.specs.Fibers.{Fiber, generation_of, origin_of, waiting}
use Rattle.rx_fiber.specs.OldLists.{matched, old_fibers}
use Rattle.rx_fiber.proofs.OldTops.{fiber_top}
use Rattle.rx_fiber.specs.declared.stage.Origin.{Origin}
use Rattle.rx_fiber.specs.Stood.{gave, given_in}
use Rattle.rx_fiber.specs.Surround.{IsElementOf}
use Rattle.rx_children.specs.Children.{AreMade, no_more, gap, next, AllWait, AllNew}
use Rattle.rx_children.specs.Nodes.{IsBareAt}
use Rattle.rx_children.specs.Origins.{IsAgain, TellsAgain}
use Rattle.rx_children.proofs.Making.{KnowsPlaces}
use Rattle.rx_children.proofs.Matched.{matched_top}

module _ (t : Trees Fiber) (p : ℕ) (knows : KnowsPlaces t) (bare : IsBareAt t p) (o : Option ℕ) (old : ℕ) (same : o ≡ old_of t.draft p) (is : o ≡ Some old) where
  -- its current fiber is held
  pub current_held : Holds t.current old
  current_held = subst (λ q. IfSome q (Holds t.current)) (sym (knows bare.around p bare.value bare.old (taken shapes.none) bare.rest bare.here).old ∙ (sym same ∙ is)) (knows bare.around p bare.value bare.old (taken shapes.none) bare.rest bare.here).old_held

  -- and has this value
  pub current_value : (u : Fiber) → (Holds t.current old → Some u ≡ value_of t.current old) → option_and_then (value_of t.current) (old_of t.draft p) ≡ Some u
  current_value u reads = ap (option_and_then (value_of t.current)) (sym same ∙ is) ∙ sym (reads current_held)

  -- an element that is the same is that of the current fiber
  pub equal_is : (u : Fiber) (e : Element) → (Holds t.current old → Some u ≡ value_of t.current old) → e ≡ u.element → IsElementOf t.current (old_of t.draft p) e
  equal_is u e reads element = ap (option_map (λ (x : Fiber). x.element)) (current_value u reads) ∙ ap Some (sym element)

  -- if it is that of the current fiber, it is the same
  pub is_equal : (u : Fiber) (e : Element) → (Holds t.current old → Some u ≡ value_of t.current old) → IsElementOf t.current (old_of t.draft p) e → e ≡ u.element
  is_equal u e reads element =
      let f : Some u.element ≡ Some e = sym (ap (option_map (λ (x : Fiber). x.element)) (current_value u reads)) ∙ element in
      let its : u.element ≡ e = cc in
      sym its

  -- what it gives is what was given
  pub gave_so : (u : Fiber) → (Holds t.current old → Some u ≡ value_of t.current old) → given_in u.element ≡ gave t.current (old_of t.draft p)
  gave_so u reads = sym (ap (option_and_then (λ (x : Fiber). given_in x.element)) (current_value u reads))

-- no current fiber gives nothing
pub gave_none : (t : Trees Fiber) (p : ℕ) (o : Option ℕ) → o ≡ old_of t.draft p → o ≡ None → None ≡ gave t.current (old_of t.draft p)
gave_none t p o same none = ap (gave t.current) (sym none ∙ same)

-- equal elements are the same
pub equal_same : (e f : Element) → e ≡ f → same_element e f ≡ true
equal_same e f is = subst (λ x. same_element e x ≡ true) is (same_element-self e)

-- what has no current fiber has none of its element
pub no_element : (t : Trees Fiber) (p : ℕ) (o : Option ℕ) (e : Element) → o ≡ old_of t.draft p → o ≡ None → IsElementOf t.current (old_of t.draft p) e → ⊥
no_element t p o e same none element =
    let f : None ≡ Some e = sym (ap (λ x. option_map (λ (v : Fiber). v.element) (option_and_then (value_of t.current) x)) (sym same ∙ none)) ∙ element in
    let q : ⊥ = cc in
    q

-- the fibers that are made for a list wait, with no children, as is known of them
pub kids_wait : (c : Shape Fiber) (origin : Origin) (n : ℕ) (es : List Element) (os : List (Option ℕ)) (d : Draft Fiber) → AreMade c origin n es os d → AllWait origin d
kids_wait c origin n [] [] _ no_more = refl
kids_wait c origin n [] (o ∷ os) d are = elim are [ ]
kids_wait c origin n (e ∷ es) [] d are = elim are [ ]
kids_wait c origin n (e ∷ es) (o ∷ os) d (gap null more) = kids_wait c origin (suc n) es os d more
kids_wait c origin n (e ∷ es) (o ∷ os) (made _ _ _ _ d) (next there is more) = (is.stage, refl, kids_wait c origin (suc n) es os d more)

-- none of these is a current fiber
abbrev pub NoFiber : List (Option ℕ) → Type 0
NoFiber os = (i j : ℕ) → slice_get os i ≡ Some (Some j) → ⊥

no_one : (o : Option ℕ) → ((j : ℕ) → o ≡ Some j → ⊥) → o ≡ None
no_one None f = refl
no_one (Some j) f = absurd (f j refl)

-- so none that is made for them is made for one
pub kids_new : (c : Shape Fiber) (origin : Origin) (n : ℕ) (es : List Element) (os : List (Option ℕ)) (d : Draft Fiber) → AreMade c origin n es os d → NoFiber os → AllNew d
kids_new c origin n [] [] _ no_more f = tt
kids_new c origin n [] (o ∷ os) d are f = elim are [ ]
kids_new c origin n (e ∷ es) [] d are f = elim are [ ]
kids_new c origin n (e ∷ es) (o ∷ os) d (gap null more) f = kids_new c origin (suc n) es os d more (λ i j h. f (suc i) j h)
kids_new c origin n (e ∷ es) (o ∷ os) (made _ _ _ _ d) (next there is more) f =
    (no_one o (λ j h. f zero j (ap Some h)), kids_new c origin (suc n) es os d more (λ i j h. f (suc i) j h))

-- an old list without fibers has none for new children, and none to be cloned
pub matched_none : (s : Shape Fiber) (es : List Element) → s ≡ shapes.none → NoFiber (matched s es)
matched_none s es e i j h = subst (λ x. IsTop x j) e (matched_top s es i j h)

pub cloned_none : (s : Shape Fiber) → s ≡ shapes.none → NoFiber (old_fibers s)
cloned_none s e i j h = subst (λ x. IsTop x j) e (fiber_top s i j (ap option_flatten h))

-- What is known of the place's fiber

module _ (t : Trees Fiber) (p : ℕ) (w v : Fiber) (reads : Some w ≡ made_value_of t.draft p) (here : Some v ≡ made_value_of t.draft p) where
  pub same_fiber : w ≡ v
  same_fiber = let f : Some w ≡ Some v = reads ∙ sym here in cc

  -- what is known of its place is what it waits with
  pub waits_with : (own c : Origin) → own ≡ origin_of w.stage → v.stage ≡ waiting c → own ≡ c
  waits_with own c is waits = is ∙ (ap (λ (u : Fiber). origin_of u.stage) same_fiber ∙ ap origin_of waits)

-- one that is no clone, and of a later generation, is not given again
pub later_not_again : (c : Shape Fiber) (o : Option ℕ) (v : Fiber) (g : ℕ) → g ≡ generation_of v.stage → (g ≡ 0 → ⊥) → TellsAgain false c o v false
later_not_again c o v g is later = (λ so. absurd (let q : ⊥ = cc in q), λ h. absurd (later (is ∙ h.generation refl)))

-- a clone is given again
pub clone_is_again : (component : Bool) (c : Shape Fiber) (o : Option ℕ) (v : Fiber) → IsAgain false c o v → TellsAgain component c o v true
clone_is_again component c o v h = (λ so. record { generation = λ plain. h.generation refl; same = h.same }, λ i. refl)

-- and one of the first generation, or of a component, if it is equal
pub equal_is_again : (component : Bool) (c : Shape Fiber) (o : Option ℕ) (v : Fiber) (e : Element) (b : Bool) → (component ≡ false → generation_of v.stage ≡ 0) → e ≡ v.element → (b ≡ true → IsElementOf c o e) → (IsElementOf c o e → b ≡ true)
    → TellsAgain component c o v b
equal_is_again component c o v e b first element equal all = (
  λ so. record { generation = first; same = subst (IsElementOf c o) element (equal so) },
  λ h. all (subst (IsElementOf c o) (sym element) h.same),
)
