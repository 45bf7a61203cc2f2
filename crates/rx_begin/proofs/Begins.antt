-- What is asked when a place begins, and what it leaves.
use Rattle.std.specs.Prelude.{◌≡◌, ℕ, ℤ, suc, ◌<◌, ◌≤◌, Bool, true, false, ◌&&◌, if◌then◌else◌, List, Option, Some, None, Result, Ok, Err, IfOk, OnOk, IfSome, IsSome, length, option_and_then, option_map}
use Rattle.std.proofs.Common.{refl, sym, ap, ◌∙◌, subst, arith}
use Rattle.rx_ast.specs.Syntax.{Program, Component}
use Rattle.rx_ast.specs.Syntax as syntax
use Rattle.rx_rules.specs.Names.{component_at, prop_names}
use Rattle.rx_ctx.specs.Contexts.{Stack, moved_at, none_moved, values_at, moved_in, moves_by}
use Rattle.rx_elem.specs.Elements.{Element, Elements, Key, listed}
use Rattle.rx_elem.specs.Elements as elements
use Rattle.rx_elem.specs.Trees.{Node, host_number, instance_in, caught_in, old_caught}
use Rattle.rx_hooks.specs.declared.hook.Hook.{Hook}
use Rattle.rx_lists.specs.Shapes.{Holds}
use Rattle.rx_lists.specs.Shapes as shapes
use Rattle.rx_links.specs.Drafts.{Trees, Makes, old_of, taken}
use Rattle.rx_links.specs.Readers.{list_from, made_value_of, IsLinked}
use Rattle.rx_meaning.specs.Body.{Body, wait, throw, ready, body_of}
use Rattle.rx_meaning.specs.Counts.{each_body, begins_as, one_if_component, next_counts}
use Rattle.rx_meaning.specs.Cursor.{Frame, at_place, is_null}
use Rattle.rx_meaning.specs.Fresh.{Sight, Contexts, Shape, absent, waiting, throwing, one_list, two_lists, guarded, shape_of, shape_of_body, shape_of_component, inputs_at, old_instance}
use Rattle.rx_fiber.specs.Fibers.{Fiber, is_visible, origin_of}
use Rattle.rx_fiber.specs.Fibers as stage
use Rattle.rx_fiber.specs.declared.stage.Origin.{Origin}
use Rattle.rx_meaning.specs.Settled.{IfSettled, known_by}
use Rattle.rx_fiber.specs.Reading.{IsOld}
use Rattle.rx_fiber.specs.Stood.{gives_another, StandsBut, gave, given_more, one_more}
use Rattle.rx_fiber.specs.Standing.{StandsAt, is_stood}
use Rattle.draw_laws.specs.Drawn.{IsDrawn}
use Rattle.rx_causes.specs.declared.scene.Scene.{Scene}
use Rattle.rx_causes.specs.Marks.{mark_at}
use Rattle.rx_causes.specs.Scenes.{GivesHooks, IsSceneOf, number_in}
use Rattle.rx_causes.specs.Hidden.{KeepsOld}
use Rattle.rx_causes.specs.Idle.{KeepsTree}
use Rattle.rx_causes.proofs.Marks.{old_instance_is, old_caught_is}
use Rattle.rx_children.specs.Nodes.{IsBareAt, parts_in, begun_stage, begun_children, begun_stack, given_context}
use Rattle.rx_begin.specs.Others.{HasBegunOther, caught_before}
use Rattle.rx_begin.specs.Others as others
use Rattle.rx_begin.proofs.Hiding.{own_keeps, own_gives, kids_keep, hidden_again}
use Rattle.rx_children.specs.Origins.{StoodIn, IsSteady, KnowsClone}
use Rattle.rx_begin.specs.Bodies.{HasShape}
use Rattle.rx_begin.specs.Beginning.{IsAtPlace, stands, HasBegun, BeginsPlace}
use Rattle.rx_children.specs.declared.node.Begun.{Begun}
use Rattle.rx_begin.proofs.ByElement.{same_parts, element_at, old_at, bare_at, Opens, from_matched, from_clones, other_begun, body_begun, caught_cloned, caught_matched}
use Rattle.rx_children.proofs.Making.{KnowsPlaces}
use Rattle.rx_children.proofs.Nodes.{bare_made}
use Rattle.rx_begin.proofs.Bodies.{kept_if}
use Rattle.rx_children.proofs.OldNodes.{stood_in}
use Rattle.rx_begin.proofs.Keeping.{old_no_null, kept_children, caught_fallback, fallback_no_null}
use Rattle.rx_begin.proofs.Standing.{KidsStand, KnowsElement, clone_again, kids_stand, same_here, shown_here, waits_here, moved_below}
use Rattle.rx_fiber.specs.Surround.{is_catcher, given_along}
use Rattle.rx_fiber.specs.OldLists.{fallback_list, fiber_at}
use Rattle.rx_fiber.proofs.Stood.{fallback_stands}
use Rattle.rx_fiber.proofs.Unwinding.{catcher_gives}

pub on_ok : {A E : Type 0} (r : Result A E) (P Q : Type 0) → (P → Q) → OnOk r P → OnOk r Q
on_ok (Ok a) P Q f h = f h
on_ok (Err e) P Q f h = tt

pub any_ok : {A E : Type 0} (r : Result A E) (P : Type 0) → P → OnOk r P
any_ok (Ok a) P h = h
any_ok (Err e) P h = tt

pub if_ok_too : {A E : Type 0} (r : Result A E) (P Q : A → Type 0) (R : Type 0) → ((a : A) → P a → R → Q a) → IfOk r P → OnOk r R → IfOk r Q
if_ok_too (Ok a) P Q R f h g = f a h g
if_ok_too (Err e) P Q R f h g = tt

-- What is asked

pub place_bare : (p : Program) (kept : ℕ → Option (List Hook)) (t : Trees Fiber) (st : Stack) (q : ℕ) → IsAtPlace p kept t st q → IsBareAt t q
place_bare p kept t st q (stands {n = n} {fs = fs} {cs = cs} {e = e} {old = old} at there drawn keeps) = bare_at t st q n fs cs e old at

pub made_at : (p : Program) (kept : ℕ → Option (List Hook)) (t : Trees Fiber) (st : Stack) (q : ℕ) → KnowsPlaces t → IsAtPlace p kept t st q → Makes t.draft q
made_at p kept t st q knows at = bare_made t q knows (place_bare p kept t st q at)

context_given : (p : Program) (e : Element) (m : ℕ) → IsDrawn p e → m ≡ length (syntax.contexts p) → IfSome (given_context e) (λ c. c < m)
context_given p elements.null m d f = tt
context_given p (elements.text t) m d f = tt
context_given p (elements.host n k attrs es) m d f = tt
context_given p (elements.comp c k ps es) m d f = tt
context_given p (elements.list marked es) m d f = tt
context_given p (elements.boundary k g es) m d f = tt
context_given p (elements.catcher k g es) m d f = tt
context_given p (elements.provider c k x es) m d f = subst (λ l. c < l) (sym f) d.0

props_given : (p : Program) (e : Element) (c : ℕ) (props : List ℤ) (es : List Element) → IsDrawn p e → parts_in e ≡ Some (c, (props, es))
    → option_map (λ d. length (prop_names d)) (component_at p c) ≡ Some (length props)
props_given p elements.null c props es d f = cc
props_given p (elements.text t) c props es d f = cc
props_given p (elements.host n k attrs xs) c props es d f = cc
props_given p (elements.list marked xs) c props es d f = cc
props_given p (elements.boundary k g xs) c props es d f = cc
props_given p (elements.catcher k g xs) c props es d f = cc
props_given p (elements.provider b k x xs) c props es d f = cc
props_given p (elements.comp b k ps kids) c props es d f =
    let (q, r, l) = same_parts b c ps props (listed kids) es f in
    subst (λ i. option_map (λ d. length (prop_names d)) (component_at p i) ≡ Some (length props)) q
    (subst (λ l. option_map (λ d. length (prop_names d)) (component_at p b) ≡ Some (length l)) r d.0)

module _ (p : Program) (kept : ℕ → Option (List Hook)) (t : Trees Fiber) (st : Stack) (q : ℕ) (knows : KnowsPlaces t) (at_it : IsAtPlace p kept t st q) where
  pub place_kept : IfSome (number_in (option_and_then instance_in (mark_at t.current (old_of t.draft q)))) (λ n. IsSome (kept n))
  place_kept = elim at_it [
    | stands {n = n} {fs = fs} {cs = cs} {e = e} {old = old} at there drawn keeps ↦
        subst (λ i. IfSome (number_in i) (λ n. IsSome (kept n))) (sym (old_instance_is t.current (old_of t.draft q) old (old_at t st q n fs cs e old knows at))) (kept_if kept (old_instance old) (own_keeps kept old keeps))
  ]

  pub place_olds : KeepsOld kept t.current (old_of t.draft q)
  place_olds = elim at_it [
    | stands {n = n} {fs = fs} {cs = cs} {e = e} {old = old} at there drawn keeps ↦
        (record { node = old; was = old_at t st q n fs cs e old knows at; keeps = kids_keep kept old keeps })
  ]

  pub place_tree : KeepsTree kept t.current (old_of t.draft q)
  place_tree = elim at_it [
    | stands {n = n} {fs = fs} {cs = cs} {e = e} {old = old} at there drawn keeps ↦
        (record { node = old; was = old_at t st q n fs cs e old knows at; keeps = keeps })
  ]

  -- the fiber that it was made for is held
  pub place_held : (o : Option ℕ) → o ≡ old_of t.draft q → IfSome o (Holds t.current)
  place_held o is = let b = place_bare p kept t st q at_it in let its = knows b.around q b.value b.old (taken shapes.none) b.rest b.here in subst (λ x. IfSome x (Holds t.current)) (sym (is ∙ its.old)) its.old_held

  -- a clone's element is given again
  pub place_clone : KnowsClone t q
  place_clone = elim at_it [
    | stands {n = n} {fs = fs} {cs = cs} {e = e} {old = old} at there drawn keeps ↦
        clone_again t st q n fs cs e old knows at
  ]

  -- the fiber waits
  pub place_waits : (v : Fiber) → Some v ≡ made_value_of t.draft q → (c : Origin) × (v.stage ≡ stage.waiting c)
  place_waits v value = elim at_it [
    | stands {n = n} {fs = fs} {cs = cs} {e = e} {old = old} at there drawn keeps ↦
        waits_here t st q n fs cs e old knows at v value
  ]

  -- whether it is visible is told with what is known of it
  pub place_shown : (v : Fiber) → Some v ≡ made_value_of t.draft q → (origin_of v.stage).visible ≡ is_visible v.stage
  place_shown v value = let (c, is) = place_waits v value in ap (λ s. (origin_of s).visible) is ∙ sym (ap is_visible is)

  -- so whether it stood, if that is told with whether a context has moved
  pub place_stood : (v : Fiber) → Some v ≡ made_value_of t.draft q → (origin : Origin) (stood : Bool) → origin ≡ origin_of v.stage → stood ≡ (origin.visible && none_moved (moved_at st)) → stood ≡ is_stood st v.stage
  place_stood v value origin stood is tells = tells ∙ (ap (λ (c : Origin). c.visible && none_moved (moved_at st)) is ∙ ap (λ b. b && none_moved (moved_at st)) (place_shown v value))

  module _ (v : Fiber) (element : Element) (value : Some v ≡ made_value_of t.draft q) (is : element ≡ v.element) where
    pub place_drawn : IsDrawn p element
    place_drawn = elim at_it [
      | stands {n = n} {fs = fs} {cs = cs} {e = e} {old = old} at there drawn keeps ↦
          subst (IsDrawn p) (sym (is ∙ element_at t st q n fs cs e old knows at v value)) drawn
    ]

    pub place_there : is_null element ≡ false
    place_there = elim at_it [
      | stands {n = n} {fs = fs} {cs = cs} {e = e} {old = old} at there drawn keeps ↦
          subst (λ x. is_null x ≡ false) (sym (is ∙ element_at t st q n fs cs e old knows at v value)) there
    ]

    pub place_context : length (values_at st) ≡ length (syntax.contexts p) → IfSome (given_context element) (λ c. c < length (values_at st))
    place_context same = context_given p element (length (values_at st)) place_drawn same

    pub place_props : (c : ℕ) (props : List ℤ) (es : List Element) → parts_in element ≡ Some (c, (props, es)) → option_map (λ d. length (prop_names d)) (component_at p c) ≡ Some (length props)
    place_props c props es parts = props_given p element c props es place_drawn parts

-- What it leaves

module _ (s : Sight) (kept : ℕ → Option (List Hook)) (t : Trees Fiber) (st : Stack) (new : Trees Fiber) (st' : Stack) (p : ℕ) (linked : IsLinked t.current) (knows : KnowsPlaces t) (v : Fiber) (element : Element)
    (value : Some v ≡ made_value_of t.draft p) (is : element ≡ v.element) (answer : Begun) (way : ℕ → Bool) where
  its_element : (n : ℕ) (fs : List Frame) (cs : Contexts) (e : Element) (old : Option Node) → StandsAt t st (Some p) (at_place (suc n) fs cs e old) → element ≡ e
  its_element n fs cs e old at = is ∙ element_at t st p n fs cs e old knows at v value

  -- what is given again stands in its old node
  stood_so : (n : ℕ) (fs : List Frame) (cs : Contexts) (e : Element) (old : Option Node) → StandsAt t st (Some p) (at_place (suc n) fs cs e old) → (again : Bool) → KnowsElement t p v again → again ≡ true → StoodIn old e
  stood_so n fs cs e old at again its so = stood_in t.current (old_of t.draft p) old e (old_at t st p n fs cs e old knows at) (same_here t st p n fs cs e old knows at v value again its so)

  pub begins_body : (again steady : Bool) (generation : ℕ) → KnowsElement t p v again → (steady ≡ true → IsSteady t.current (old_of t.draft p) v) → (c : ℕ) (props : List ℤ) (es : List Element) (here : Contexts) → parts_in element ≡ Some (c, (props, es)) → here ≡ values_at st → st' ≡ st
      → ((old : Option Node) (key : Key) (kids : Elements) → IsOld t.current (old_of t.draft p) old → GivesHooks s kept (old_instance old) → IfSettled s.program (known_by s) old
      → (again ≡ true → StoodIn old (elements.comp c key props kids)) → listed kids ≡ es → HasShape again steady generation (shape_of_component s here c props kids old (component_at s.program c)) here old t new p answer) → BeginsPlace s way kept t st new st' p answer
  begins_body again steady generation its steadies c props es here parts same stacks has n fs cs e old at gives settled covers =
      let x : element ≡ e = its_element n fs cs e old at in
      body_begun s t st new st' p n fs cs e old linked knows at answer (old_no_null s.program (known_by s) old settled) again steady generation
      (kids_stand t st p n fs cs e old knows at v value (element_at t st p n fs cs e old knows at v value) steady steadies) c props es here (ap parts_in (sym x) ∙ parts) same
      (λ key kids f g.
      has old key kids (old_at t st p n fs cs e old knows at) (own_gives s kept old gives) settled (λ so. subst (StoodIn old) (sym f) (stood_so n fs cs e old at again its so)) g)
      stacks

  pub begins_other : (scene : Scene) (origin : Origin) (stood again steady : Bool) (generation : ℕ) → IsSceneOf scene s → KnowsElement t p v again → origin.visible ≡ is_visible v.stage → stood ≡ is_stood st v.stage → (steady ≡ true → IsSteady t.current (old_of t.draft p) v) → is_null element ≡ false → parts_in element ≡ None
      → new.current ≡ t.current → HasBegunOther scene kept t st new st' p element origin stood again steady generation answer → BeginsPlace s way kept t st new st' p answer
  begins_other scene origin stood again steady generation sees its shown_is stood_is steadies there none current has n fs cs e old at gives settled covers =
      by_case answer (subst (λ y. HasBegunOther scene kept t st new st' p y origin stood again steady generation answer) x has)
    where
      x : element ≡ e
      x = its_element n fs cs e old at

      number : Option ℕ
      number = option_and_then host_number (mark_at t.current (old_of t.draft p))

      stand : KidsStand t st p fs e steady
      stand = kids_stand t st p n fs cs e old knows at v value (element_at t st p n fs cs e old knows at v value) steady steadies

      opened : (b : Begun) → (is_catcher e ≡ true → old_caught old ≡ None) → Opens s t st new st' p n fs cs e old linked knows at b (begun_stage e origin number) (begun_children e) → st' ≡ begun_stack e (gives_another t.current (old_of t.draft p) e) st → HasBegun s t st new st' p n fs cs e old b
      opened b fine done stacks =
          other_begun s t st new st' p n fs cs e old linked knows at b origin number (old_of t.draft p) (λ so. shown_here t st p n fs cs e old knows at v value (sym shown_is ∙ so)) (ap is_null (sym x) ∙ there) (ap parts_in (sym x) ∙ none) fine refl refl done stacks

      fine_so : caught_before t p e ≡ None → is_catcher e ≡ true → old_caught old ≡ None
      fine_so none so =
          sym (old_caught_is t.current (old_of t.draft p) old (old_at t st p n fs cs e old knows at))
          ∙ subst (λ b. (if b then option_and_then caught_in (mark_at t.current (old_of t.draft p)) else None) ≡ None) so none

      catcher_so : (x : ℤ) → caught_before t p e ≡ Some x → is_catcher e ≡ true
      catcher_so x = by_catcher (is_catcher e)
        where
          by_catcher : (b : Bool) → (if b then option_and_then caught_in (mark_at t.current (old_of t.draft p)) else None) ≡ Some x → b ≡ true
          by_catcher true f = refl
          by_catcher false f = cc

      caught_so : (x : ℤ) → caught_before t p e ≡ Some x → old_caught old ≡ Some x
      caught_so x is =
          sym (old_caught_is t.current (old_of t.draft p) old (old_at t st p n fs cs e old knows at))
          ∙ subst (λ b. (if b then option_and_then caught_in (mark_at t.current (old_of t.draft p)) else None) ≡ Some x) (catcher_so x is) is

      -- the old fallback stands where the new one will, if the place is steady
      fallback_stand : is_catcher e ≡ true → steady ≡ true → (place j : ℕ) → fiber_at (fallback_list (list_from t.current (old_of t.draft p))) place ≡ Some j → StandsBut t.current (moved_below t st p e) (given_more e (given_along fs)) (Some j)
      fallback_stand so is place j here =
          subst (λ (g : Option (ℕ × ℤ)). StandsBut t.current (moved_in (moves_by g (gave t.current (old_of t.draft p)) st.moves)) (one_more g (given_along fs)) (Some j)) (sym (catcher_gives e so))
          (fallback_stands t.current (moved_at st) (given_along fs) e (old_of t.draft p) place j (shown_here t st p n fs cs e old knows at v value (let y = steadies is in y.visible)) here)

      by_case : (b : Begun) → HasBegunOther scene kept t st new st' p e origin stood again steady generation b → HasBegun s t st new st' p n fs cs e old b
      by_case b (others.begins (others.keeps no_catch h kept_so stacks)) =
          opened b (fine_so no_catch)
          (from_clones s t st new st' p n fs cs e old linked knows at b (begun_stage e origin number) (begun_children e) steady stand (old_no_null s.program (known_by s) old settled)
          (kept_children s.program (known_by s) t.current (old_of t.draft p) old e again (old_at t st p n fs cs e old knows at) settled
          (λ so. stood_so n fs cs e old at again its so) (ap parts_in (sym x) ∙ none) (fine_so no_catch) h) kept_so)
          stacks
      by_case b (others.begins (others.opens no_catch not done stacks)) =
          opened b (fine_so no_catch) (from_matched s t st new st' p n fs cs e old linked knows at b (begun_stage e origin number) (begun_children e) steady generation stand done) stacks
      by_case b (others.begins (others.keeps_caught {x = y} caught so done stacks)) =
          caught_cloned s t st new st' p n fs cs e old linked knows at b y steady (caught_so y caught) (catcher_so y caught) (fallback_stand (catcher_so y caught)) (fallback_no_null s.program (known_by s) old settled)
          (caught_fallback s.program (known_by s) e old y settled (stood_so n fs cs e old at again its so) (catcher_so y caught) (caught_so y caught)) done stacks
      by_case b (others.begins (others.opens_caught {x = y} caught not done stacks)) =
          caught_matched s t st new st' p n fs cs e old linked knows at b y steady generation (caught_so y caught) (catcher_so y caught) (fallback_stand (catcher_so y caught)) done stacks
      by_case _ (others.hides {a = a} same too mark waits tried stacks) =
          hidden_again s kept t st new st' p n fs cs e old a knows at v value origin stood same shown_is stood_is too mark (λ y. waits s y sees) gives settled current tried stacks

-- How many bodies are evaluated

none_counted : (e : Element) (cs : Contexts) (old : Option Node) (sh : Shape) → one_if_component e ≡ 0 → begins_as each_body cs e old sh ≡ 0
none_counted e cs old absent h = refl
none_counted e cs old (waiting r v) h = h
none_counted e cs old (throwing x) h = h
none_counted e cs old (one_list m l) h = h
none_counted e cs old (two_lists l f) h = h
none_counted e cs old (guarded l f) h = h

no_body : (e : Element) → parts_in e ≡ None → one_if_component e ≡ 0
no_body elements.null h = refl
no_body (elements.text t) h = refl
no_body (elements.host n k attrs es) h = refl
no_body (elements.comp c k ps es) h = cc
no_body (elements.list marked es) h = refl
no_body (elements.boundary k f es) h = refl
no_body (elements.catcher k f es) h = refl
no_body (elements.provider c k x es) h = refl

body_counted : (e : Element) (cs : Contexts) (c : ℕ) (old : Option Node) (b : Body) → begins_as each_body cs e old (shape_of_body cs c old b) ≡ one_if_component e
body_counted e cs c old (wait r v) = refl
body_counted e cs c old (throw x) = refl
body_counted e cs c old (ready es effects initials reads versions) = refl

component_counted : (s : Sight) (e : Element) (cs : Contexts) (c : ℕ) (props : List ℤ) (kids : Elements) (old : Option Node) (o : Option Component) (m : ℕ)
    → option_map (λ d. length (prop_names d)) o ≡ Some m → begins_as each_body cs e old (shape_of_component s cs c props kids old o) ≡ one_if_component e
component_counted s e cs c props kids old None m h = cc
component_counted s e cs c props kids old (Some d) m h = body_counted e cs c old (body_of s.program d (inputs_at s cs props kids (old_instance old)))

one_counted : (s : Sight) (e : Element) (cs : Contexts) (old : Option Node) (c : ℕ) (props : List ℤ) (es : List Element) (m : ℕ) → parts_in e ≡ Some (c, (props, es))
    → option_map (λ d. length (prop_names d)) (component_at s.program c) ≡ Some m → begins_as each_body cs e old (shape_of s cs e old) ≡ 1
one_counted s elements.null cs old c props es m h f = cc
one_counted s (elements.text t) cs old c props es m h f = cc
one_counted s (elements.host n k attrs xs) cs old c props es m h f = cc
one_counted s (elements.list marked xs) cs old c props es m h f = cc
one_counted s (elements.boundary k g xs) cs old c props es m h f = cc
one_counted s (elements.catcher k g xs) cs old c props es m h f = cc
one_counted s (elements.provider b k x xs) cs old c props es m h f = cc
one_counted s (elements.comp b k ps kids) cs old c props es m h f =
    let (q, r, l) = same_parts b c ps props (listed kids) es h in
    component_counted s (elements.comp b k ps kids) cs b ps kids old (component_at s.program b) m (subst (λ i. option_map (λ d. length (prop_names d)) (component_at s.program i) ≡ Some m) (sym q) f)

module _ (t : Trees Fiber) (st : Stack) (p : ℕ) (knows : KnowsPlaces t) (v : Fiber) (element : Element) (value : Some v ≡ made_value_of t.draft p) (is : element ≡ v.element)
    (s : Sight) (n : ℕ) (fs : List Frame) (cs : Contexts) (e : Element) (old : Option Node) (at : StandsAt t st (Some p) (at_place (suc n) fs cs e old)) where
  -- no more than one body
  pub counts_one : (checked : Program) (c : ℕ) (props : List ℤ) (es : List Element) (b : Bool) → s.program ≡ checked → parts_in element ≡ Some (c, (props, es))
      → option_map (λ d. length (prop_names d)) (component_at checked c) ≡ Some (length props) → (if b then 1 else 0) ≤ next_counts each_body s (at_place (suc n) fs cs e old)
  counts_one checked c props es b same parts given =
      let x : element ≡ e = is ∙ element_at t st p n fs cs e old knows at v value in
      let z : begins_as each_body cs e old (shape_of s cs e old) ≡ 1 =
      one_counted s e cs old c props es (length props) (ap parts_in (sym x) ∙ parts)
      (subst (λ q. option_map (λ d. length (prop_names d)) (component_at q c) ≡ Some (length props)) (sym same) given) in
      at_most b (next_counts each_body s (at_place (suc n) fs cs e old)) z
    where
      at_most : (b : Bool) (k : ℕ) → k ≡ 1 → (if b then 1 else 0) ≤ k
      at_most true k h = omega arith
      at_most false k h = omega arith
