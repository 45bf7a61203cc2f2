-- Where the children of the current fiber stand for which a cloned place was made.
use Rattle.std.specs.Prelude.{◌≡◌, ℕ, ℤ, suc, Bool, true, false, ◌&&◌, List, [], ◌∷◌, Option, Some, None, IsSome, option_and_then, option_map}
use Rattle.std.proofs.Common.{refl, sym, ap, ◌∙◌, subst}
use Rattle.rx_ctx.specs.Contexts.{Stack, moved_at, moved_in, moves_by, none_moved}
use Rattle.rx_elem.specs.Elements.{Element, kind_of, same_kind}
use Rattle.rx_elem.specs.Trees.{Instance, Mark, of_instance, of_host, of_boundary, of_catcher, plain, Node, instance_in}
use Rattle.rx_node.specs.MarkView.{instance_seen}
use Rattle.rx_node.specs.declared.mark.Instance as code
use Rattle.rx_lists.specs.Shapes.{Shape}
use Rattle.rx_lists.specs.Shapes as shapes
use Rattle.rx_links.specs.Drafts.{taken, Trees, old_of}
use Rattle.rx_links.specs.Readers.{list_from, made_value_of, made_value_in}
use Rattle.rx_meaning.specs.Cursor.{Frame, at_place}
use Rattle.rx_meaning.specs.Fresh.{Contexts}
use Rattle.rx_fiber.specs.Fibers.{Fiber, waiting, generation_of, is_cloned, is_visible}
use Rattle.rx_fiber.specs.declared.stage.Origin.{Origin}
use Rattle.rx_fiber.specs.OldLists.{fiber_at, primary_list}
use Rattle.rx_fiber.specs.Stood.{gave, given_in, given_more, StandsBut, StandsSame}
use Rattle.rx_fiber.specs.Surround.{IsElementOf, StandsIf, given_along}
use Rattle.rx_fiber.specs.Standing.{StandsAt, begins, is_stood}
use Rattle.rx_fiber.proofs.Stood.{stood_below}
use Rattle.rx_causes.specs.Marks.{mark_at, keeps_children}
use Rattle.rx_children.specs.Origins.{IsSteady, KnowsClone, TellsAgain}
use Rattle.rx_children.proofs.Making.{KnowsPlaces}

pub both_true : (a b : Bool) → a && b ≡ true → (a ≡ true) × (b ≡ true)
both_true true true h = (refl, refl)
both_true true false h = cc
both_true false b h = cc

-- What is given again has the element of its current fiber.
abbrev pub KnowsElement : Trees Fiber → (p : ℕ) → Fiber → (again : Bool) → Type 0
KnowsElement t p v again = again ≡ true → IsElementOf t.current (old_of t.draft p) v.element

-- what is told of a place's element is told of its fiber
pub element_is_again : (component : Bool) (c : Shape Fiber) (o : Option ℕ) (v : Fiber) (e : Element) (again : Bool) → TellsAgain component c o v again → e ≡ v.element → again ≡ true → IsElementOf c o e
element_is_again component c o v e again tells is so = subst (IsElementOf c o) (sym is) (tells.0 so).same

-- That is the element of the place.
pub same_here : (t : Trees Fiber) (st : Stack) (p n : ℕ) (fs : List Frame) (cs : Contexts) (e : Element) (old : Option Node) → KnowsPlaces t
    → StandsAt t st (Some p) (at_place (suc n) fs cs e old) → (v : Fiber) → Some v ≡ made_value_of t.draft p → (again : Bool) → KnowsElement t p v again → again ≡ true → IsElementOf t.current (old_of t.draft p) e
same_here t st p n fs cs e old knows (begins {v = w} {o = o} {rs = rs} {k = k} here is was surrounds values stack moves) v value again its so =
    let l : made_value_of t.draft p ≡ Some w = ap made_value_in (knows k p w o (taken shapes.none) rs here).list in
    let same : v ≡ w = cc in
    subst (λ y. IsElementOf t.current (old_of t.draft p) y) (ap (λ u. u.element) same ∙ is.element) (its so)

-- The fiber of a place waits.
pub waits_here : (t : Trees Fiber) (st : Stack) (p n : ℕ) (fs : List Frame) (cs : Contexts) (e : Element) (old : Option Node) → KnowsPlaces t
    → StandsAt t st (Some p) (at_place (suc n) fs cs e old) → (v : Fiber) → Some v ≡ made_value_of t.draft p → (c : Origin) × (v.stage ≡ waiting c)
waits_here t st p n fs cs e old knows (begins {v = w} {o = o} {rs = rs} {k = k} here is was surrounds values stack moves) v value =
    let l : made_value_of t.draft p ≡ Some w = ap made_value_in (knows k p w o (taken shapes.none) rs here).list in
    let same : v ≡ w = cc in
    (is.origin, ap (λ u. u.stage) same ∙ is.stage)

-- A clone's element is given again.
pub clone_again : (t : Trees Fiber) (st : Stack) (p n : ℕ) (fs : List Frame) (cs : Contexts) (e : Element) (old : Option Node) → KnowsPlaces t
    → StandsAt t st (Some p) (at_place (suc n) fs cs e old) → KnowsClone t p
clone_again t st p n fs cs e old knows (begins {v = w} {o = o} {rs = rs} {k = k} here is was surrounds values stack moves) v value clone =
    let l : made_value_of t.draft p ≡ Some w = ap made_value_in (knows k p w o (taken shapes.none) rs here).list in
    let same : v ≡ w = cc in
    let stage : v.stage ≡ waiting is.origin = ap (λ u. u.stage) same ∙ is.stage in
    let too : is.origin.cloned ≡ true = sym (ap is_cloned stage) ∙ clone in
    record {
      generation = λ plain. ap generation_of stage ∙ is.first too;
      same =
          subst (λ q. IsElementOf t.current q v.element) (sym (knows k p w o (taken shapes.none) rs here).old)
          (subst (λ y. IsElementOf t.current o y) (sym (ap (λ u. u.element) same ∙ is.element)) (is.same too));
    }

-- The current fiber of one that is visible, if it is there, stands where the same values are given, but for contexts that have moved.
pub shown_here : (t : Trees Fiber) (st : Stack) (p n : ℕ) (fs : List Frame) (cs : Contexts) (e : Element) (old : Option Node) → KnowsPlaces t
    → StandsAt t st (Some p) (at_place (suc n) fs cs e old) → (v : Fiber) → Some v ≡ made_value_of t.draft p → is_visible v.stage ≡ true → StandsIf t.current (moved_at st) (given_along fs) (old_of t.draft p)
shown_here t st p n fs cs e old knows (begins {v = w} {o = o} {rs = rs} {k = k} here is was surrounds values stack moves) v value so =
    let l : made_value_of t.draft p ≡ Some w = ap made_value_in (knows k p w o (taken shapes.none) rs here).list in
    let same : v ≡ w = cc in
    let too : is.origin.visible ≡ true = sym (ap (λ u. is_visible u.stage) same ∙ ap is_visible is.stage) ∙ so in
    subst (λ q. StandsIf t.current (moved_at st) (given_along fs) q) (sym (knows k p w o (taken shapes.none) rs here).old)
    (subst (λ (ms : List (ℕ × Bool)). StandsIf t.current (moved_in ms) (given_along fs) o) (sym moves) (is.stands too))

none_here : (ms : List ℕ) → none_moved ms ≡ true → ms ≡ []
none_here [] h = refl
none_here (c ∷ ms) h = absurd (let q : ⊥ = cc in q)

-- it is there if it has an element, or an old node
pub stands_so : (c : Shape Fiber) (ms : List ℕ) (ws : List (ℕ × ℤ)) (o : Option ℕ) (e : Element) → IsElementOf c o e → StandsIf c ms ws o → StandsBut c ms ws o
stands_so c ms ws None e same h = cc
stands_so c ms ws (Some i) e same h = h

-- If no context has moved, it stands where all have the same values.
pub stood_here : (t : Trees Fiber) (st : Stack) (p n : ℕ) (fs : List Frame) (cs : Contexts) (e : Element) (old : Option Node) → KnowsPlaces t
    → StandsAt t st (Some p) (at_place (suc n) fs cs e old) → (v : Fiber) → Some v ≡ made_value_of t.draft p → is_stood st v.stage ≡ true → IsElementOf t.current (old_of t.draft p) e
    → StandsSame t.current (given_along fs) (old_of t.draft p)
stood_here t st p n fs cs e old knows at v value so same =
    let (shown, none) = both_true (is_visible v.stage) (none_moved (moved_at st)) so in
    subst (λ ms. StandsBut t.current ms (given_along fs) (old_of t.draft p)) (none_here (moved_at st) none)
    (stands_so t.current (moved_at st) (given_along fs) (old_of t.draft p) e same (shown_here t st p n fs cs e old knows at v value shown))

-- the contexts that have another value below the place than below the old one
abbrev pub moved_below : Trees Fiber → Stack → (p : ℕ) → Element → List ℕ
moved_below t st p e = moved_in (moves_by (given_in e) (gave t.current (old_of t.draft p)) st.moves)

-- The children of the current fiber of a steady place stand where those of the place will, but for contexts that have moved.
abbrev pub KidsStand : Trees Fiber → Stack → (p : ℕ) → List Frame → Element → (steady : Bool) → Type 0
KidsStand t st p fs e steady =
    steady ≡ true → (place j : ℕ) → fiber_at (primary_list (list_from t.current (old_of t.draft p))) place ≡ Some j → StandsBut t.current (moved_below t st p e) (given_more e (given_along fs)) (Some j)

pub kids_stand : (t : Trees Fiber) (st : Stack) (p n : ℕ) (fs : List Frame) (cs : Contexts) (e : Element) (old : Option Node) → KnowsPlaces t
    → StandsAt t st (Some p) (at_place (suc n) fs cs e old) → (v : Fiber) → Some v ≡ made_value_of t.draft p → v.element ≡ e → (steady : Bool) → (steady ≡ true → IsSteady t.current (old_of t.draft p) v) → KidsStand t st p fs e steady
kids_stand t st p n fs cs e old knows at v value element steady is so place j here =
    let s = is so in
    stood_below t.current (given_along fs) e st.moves (old_of t.draft p) s.old place j (shown_here t st p n fs cs e old knows at v value s.visible) s.old_is s.shown
    (subst (λ y. same_kind (kind_of y) (kind_of s.old.element) ≡ true) element s.kind) here

-- what an instance has keeps its children
pub instance_keeps : (c : Shape Fiber) (o : Option ℕ) (again : Bool) (i : Instance) → again ≡ true → option_and_then instance_in (mark_at c o) ≡ Some i → keeps_children again (mark_at c o) ≡ true
instance_keeps c o again i so is = subst (λ b. keeps_children b (mark_at c o) ≡ true) (sym so) (by_mark (mark_at c o) is)
  where
    by_mark : (x : Option Mark) → option_and_then instance_in x ≡ Some i → keeps_children true x ≡ true
    by_mark None f = cc
    by_mark (Some (of_instance m)) f = refl
    by_mark (Some (of_host h)) f = cc
    by_mark (Some (of_boundary b)) f = cc
    by_mark (Some (of_catcher b)) f = cc
    by_mark (Some plain) f = cc

-- so does a place that has one
pub instance_there : (c : Shape Fiber) (o : Option ℕ) (again : Bool) (i : Option code.Instance) → again ≡ true → IsSome i → option_map instance_seen i ≡ option_and_then instance_in (mark_at c o) → keeps_children again (mark_at c o) ≡ true
instance_there c o again None so there is = absurd (let q : ⊥ = cc in q)
instance_there c o again (Some i) so there is = instance_keeps c o again (instance_seen i) so (sym is)
