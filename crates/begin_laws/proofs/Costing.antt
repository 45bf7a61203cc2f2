-- What the beginning of a place costs.
use Rattle.std.specs.Prelude.{◌≡◌, ◌≤◌, ℕ, suc, Bool, true, false, not, ◌&&◌, ◌||◌, List, ℤ, ◌∷◌, Option, Some, None, IsSome, is_some, if◌then◌else◌, option_map, option_and_then}
use Rattle.std.specs.Option.{option_map_or}
use Rattle.std.proofs.Common.{refl, sym, ap, ◌∙◌, subst, arith}
use Rattle.rx_ast.specs.Syntax.{Component}
use Rattle.rx_rules.specs.Names.{component_at}
use Rattle.rx_ctx.specs.Contexts.{Stack, moved_in, moves_by}
use Rattle.rx_susp.specs.declared.boundary.BoundaryState.TheVariants.{Shown, Hidden}
use Rattle.rx_elem.specs.Elements.{Element, Elements, Key, kind_of, same_element, same_kind}
use Rattle.rx_elem.specs.Elements as elements
use Rattle.rx_elem.specs.Trees.{Node, node, element_of, mark_of, instance_in, is_hidden, of_instance, of_host, of_boundary, of_catcher, plain, old_caught}
use Rattle.rx_hooks.specs.declared.hook.Hook.{Hook}
use Rattle.rx_elem.proofs.Deciding.{and_passes}
use Rattle.rx_elem.proofs.Equality.{same_element-self}
use Rattle.rx_lists.specs.Shapes.{Shape}
use Rattle.rx_lists.specs.Shapes as shapes
use Rattle.rx_links.specs.Drafts.{Draft, taken, made, Fits, Trees, entry, old_of}
use Rattle.rx_links.specs.Places.{Around, below, placed, IsAt}
use Rattle.rx_links.specs.Readers.{made_value_in, made_value_of, value_of}
use Rattle.rx_links.proofs.Placed.{is-at}
use Rattle.rx_meaning.specs.Body.{Body, body_of, wait, throw, ready}
use Rattle.rx_meaning.specs.Counts.{begins_as, each_body, next_counts}
use Rattle.rx_meaning.specs.Cursor.{Frame, at_place}
use Rattle.rx_meaning.specs.Fresh.{absent, waiting, throwing, one_list, two_lists, guarded, Contexts, Sight, inputs_at, old_instance, shape_of, shape_of_catcher, shape_of_component, shape_of_body}
use Rattle.rx_meaning.specs.Fresh as fresh
use Rattle.rx_fiber.specs.Fibers.{Fiber, is_visible, origin_of}
use Rattle.rx_fiber.specs.declared.stage.Origin.{Origin}
use Rattle.rx_fiber.specs.OldLists.{hides_in}
use Rattle.rx_fiber.specs.Reading.{IsOld, new as none_old, next, of as some_old}
use Rattle.rx_fiber.specs.Standing.{StandsAt, begins}
use Rattle.rx_fiber.specs.Stood.{gave, given_in}
use Rattle.rx_fiber.specs.Surround.{IsElementOf, IsWaiting, given_along, moved_along, moves_along}
use Rattle.rx_causes.specs.declared.scene.Scene.{Scene}
use Rattle.rx_causes.specs.Marks.{mark_at}
use Rattle.rx_causes.specs.Scenes.{IsSceneOf, TellsCalm}
use Rattle.rx_causes.proofs.Causes.{shown_again}
use Rattle.rx_causes.proofs.Marks.{mark_is, old_instance_is}
use Rattle.commit_laws.proofs.SameElements.{elements_tell}
use Rattle.cost_laws.specs.Causes.{is_called, waits_still}
use Rattle.cost_laws.specs.Untouched.{given_before, is_element_of, is_kind_of, is_untouched, moved_below, moved_more, value_given, visible_below}
use Rattle.cost_laws.specs.Evaluated.{Flag, below_node, is_evaluated, own_body, stood}
use Rattle.cost_laws.specs.Left.{Flags, MayGo, MayTry, begins_evaluated, begun_flags, flag, next_evaluated, unit_flags}
use Rattle.begin_laws.specs.Flagged.{AllBare, AreTold, FlagsAtPlace, FlagsOpened, IsTold, KeepsTold}
use Rattle.begin_laws.proofs.Going.{flagged_moved, opens, told_stood}
use Rattle.begin_laws.proofs.Once.{same_around}
use Rattle.rx_begin.specs.Beginning.{HasLists}
use Rattle.rx_children.specs.Nodes.{parts_in}
use Rattle.rx_children.specs.Children.{AllWait}
use Rattle.rx_children.specs.Origins.{IsSteady, TellsAgain, TellsSteady}
use Rattle.rx_begin.specs.Others.{IsCauseToTry}
use Rattle.rx_children.proofs.OldNodes.{node_element, mark_hides}
use Rattle.begin_laws.specs.Telling.{OpensKids, TellsBody, TellsIf, TellsTries}

-- The fibers of lists

pub wait_bare : (origin : Origin) (d : Draft Fiber) → AllWait origin d → AllBare d
wait_bare origin (taken s) h = h
wait_bare origin (made id v o ks rs) h = (h.1, wait_bare origin rs h.2)

pub wait_told : (origin : Origin) (u : Flag) → origin.visible ≡ u.visible → (d : Draft Fiber) → AllWait origin d → AreTold u d
wait_told origin u visible (taken s) h = tt
wait_told origin u visible (made id v o ks rs) h = (ap is_visible h.0 ∙ visible, wait_told origin u visible rs h.2)

-- What elements give

given_is : (e : Element) → value_given e ≡ given_in e
given_is elements.null = refl
given_is (elements.text t) = refl
given_is (elements.host n k attrs es) = refl
given_is (elements.comp c k ps es) = refl
given_is (elements.list marked es) = refl
given_is (elements.boundary k f es) = refl
given_is (elements.catcher k f es) = refl
given_is (elements.provider c k x es) = refl

-- what one node more moves
more_is : (g w : Option (ℕ × ℤ)) (moves : List (ℕ × Bool)) → moved_more g w (moved_in moves) ≡ moved_in (moves_by g w moves)
more_is None w moves = refl
more_is (Some v) w moves = refl

-- The old node of a place, by its current fiber

no_fiber : (c : Shape Fiber) (o : Option ℕ) (w : Fiber) → IsOld c o None → option_and_then (value_of c) o ≡ Some w → ⊥
no_fiber c _ w none_old there = let q : ⊥ = cc in q

old_element : (c : Shape Fiber) (o : Option ℕ) (x : Node) → IsOld c o (Some x) → IsElementOf c o (element_of x)
old_element c _ _ (some_old {j = j} {n = n} {x = x} {s = s} here leads (next {rest = rest} is a)) = node_element c j n x s rest is here

-- what it gave is what the current fiber gave
gave_is : (c : Shape Fiber) (o : Option ℕ) (old : Option Node) → IsOld c o old → gave c o ≡ given_before old
gave_is c _ None none_old = refl
gave_is c o (Some x) was = go (option_and_then (value_of c) o) (old_element c o x was)
  where
    go : (v : Option Fiber) → option_map (λ (u : Fiber). u.element) v ≡ Some (element_of x) → option_and_then (λ (u : Fiber). given_in u.element) v ≡ value_given (element_of x)
    go None same = absurd (let q : ⊥ = cc in q)
    go (Some v) same = let its : v.element ≡ element_of x = cc in ap given_in its ∙ sym (given_is (element_of x))

-- so what has moved below a node is told by the current fiber
moved_is : (c : Shape Fiber) (o : Option ℕ) (old : Option Node) (e : Element) (moved : List ℕ) (moves : List (ℕ × Bool)) → IsOld c o old → moved ≡ moved_in moves
    → moved_below moved e old ≡ moved_in (moves_by (given_in e) (gave c o) moves)
moved_is c o old e moved moves was is =
    ap (λ g. moved_more g (given_before old) moved) (given_is e)
    ∙ (ap (λ w. moved_more (given_in e) w moved) (sym (gave_is c o old was))
    ∙ (ap (moved_more (given_in e) (gave c o)) is ∙ more_is (given_in e) (gave c o) moves))

-- an equal element is that of the current fiber
equal_element : (c : Shape Fiber) (o : Option ℕ) (old : Option Node) (e : Element) → IsOld c o old → is_element_of e old ≡ true → IsElementOf c o e
equal_element c o None e was h = absurd (cc h)
equal_element c o (Some x) e was h = subst (IsElementOf c o) (sym (elements_tell e (element_of x) h)) (old_element c o x was)

same_test : (a b : Bool) → (a ≡ true → b ≡ true) → (b ≡ true → a ≡ true) → a ≡ b
same_test true b f g = sym (f refl)
same_test false true f g = g refl
same_test false false f g = refl

-- the element of the current fiber is equal to that of its node
element_equal : (c : Shape Fiber) (o : Option ℕ) (old : Option Node) (e : Element) → IsOld c o old → IsElementOf c o e → is_element_of e old ≡ true
element_equal c _ _ e none_old h = absurd (let q : ⊥ = cc in q)
element_equal c o (Some x) e was h =
    let both : Some (element_of x) ≡ Some e = sym (old_element c o x was) ∙ h in
    let same : element_of x ≡ e = cc in
    subst (λ y. same_element e y ≡ true) (sym same) (same_element-self e)

-- a test tells of a component's place whether its element is equal to that of its old node
again_is : (c : Shape Fiber) (o : Option ℕ) (v : Fiber) (e : Element) (old : Option Node) (b : Bool) → IsOld c o old → v.element ≡ e → TellsAgain true c o v b → b ≡ is_element_of e old
again_is c o v e old b was element tells =
    same_test b (is_element_of e old) (λ so. element_equal c o old e was (subst (IsElementOf c o) element (tells.0 so).same))
    (λ so. tells.1 (record { generation = λ plain. absurd (cc plain); same = subst (IsElementOf c o) (sym element) (equal_element c o old e was so) }))

hidden_is : (c : Shape Fiber) (o : Option ℕ) (x : Node) (w : Fiber) → IsOld c o (Some x) → option_and_then (value_of c) o ≡ Some w → is_hidden (mark_of x) ≡ hides_in w.stage
hidden_is c o x w was there = sym (ap (λ m. option_map_or is_hidden m false) (mark_is c o (Some x) was)) ∙ mark_hides c o w there

-- Steady places

all_three : (a b c : Bool) → a ≡ true → b ≡ true → c ≡ false → (a && (b && not c)) ≡ true
all_three a b c f g h = rw (f, g, h) refl

-- if a place is steady the old nodes below it are visible
steady_shows : (c : Shape Fiber) (o : Option ℕ) (v : Fiber) (visible : Bool) (e : Element) (old : Option Node) → IsOld c o old → v.element ≡ e → is_visible v.stage ≡ visible → IsSteady c o v
    → visible_below visible e old ≡ true
steady_shows c o v visible e None was element told s = absurd (no_fiber c o s.old was s.old_is)
steady_shows c o v visible e (Some x) was element told s =
    let both : Some s.old.element ≡ Some (element_of x) = sym (ap (option_map (λ (u : Fiber). u.element)) s.old_is) ∙ old_element c o x was in
    let its : s.old.element ≡ element_of x = cc in
    all_three visible (is_kind_of e (Some x)) (is_hidden (mark_of x)) (sym told ∙ s.visible)
    (subst (λ y. same_kind (kind_of e) (kind_of y) ≡ true) its (subst (λ y. same_kind (kind_of y) (kind_of s.old.element) ≡ true) element s.kind))
    (hidden_is c o x s.old was s.old_is ∙ s.shown)

steady_by : (c : Shape Fiber) (o : Option ℕ) (v : Fiber) (e : Element) (x : Node) → IsOld c o (Some x) → v.element ≡ e → is_visible v.stage ≡ true → is_hidden (mark_of x) ≡ false → is_kind_of e (Some x) ≡ true
    → (w : Option Fiber) → option_and_then (value_of c) o ≡ w → option_map (λ (u : Fiber). u.element) w ≡ Some (element_of x) → IsSteady c o v
steady_by c o v e x was element visible shown kind None there same = absurd (let q : ⊥ = cc in q)
steady_by c o v e x was element visible shown kind (Some w) there same =
    let its : w.element ≡ element_of x = cc in
    record {
      visible = visible;
      old = w;
      old_is = there;
      shown = sym (hidden_is c o x w was there) ∙ shown;
      kind = subst (λ y. same_kind (kind_of y) (kind_of w.element) ≡ true) (sym element) (subst (λ y. same_kind (kind_of e) (kind_of y) ≡ true) (sym its) kind);
    }

-- and if these are it is steady
shows_steady : (c : Shape Fiber) (o : Option ℕ) (v : Fiber) (visible : Bool) (e : Element) (old : Option Node) → IsOld c o old → v.element ≡ e → is_visible v.stage ≡ visible → visible_below visible e old ≡ true
    → IsSteady c o v
shows_steady c o v visible e None was element told h =
    let a = and_passes visible (false && not false) h in absurd (let q : false ≡ true = a.1 in let r : ⊥ = cc in r)
shows_steady c o v visible e (Some x) was element told h =
    let a = and_passes visible (is_kind_of e (Some x) && not (is_hidden (mark_of x))) h in
    let b = and_passes (is_kind_of e (Some x)) (not (is_hidden (mark_of x))) a.1 in
    steady_by c o v e x was element (told ∙ a.0) (shown_again (is_hidden (mark_of x)) b.1) b.0 (option_and_then (value_of c) o) refl (old_element c o x was)

steady_is : (c : Shape Fiber) (o : Option ℕ) (v : Fiber) (visible : Bool) (e : Element) (old : Option Node) (steady : Bool) → IsOld c o old → v.element ≡ e → is_visible v.stage ≡ visible → TellsSteady c o v steady
    → steady ≡ visible_below visible e old
steady_is c o v visible e old steady was element told tells =
    same_test steady (visible_below visible e old) (λ so. steady_shows c o v visible e old was element told (tells.0 so)) (λ so. tells.1 (shows_steady c o v visible e old was element told so))

-- The instance of a node that may be missing

old_called : (s : Sight) (cs : Contexts) (scene : Scene) (kept : ℕ → Option (List Hook)) → IsSceneOf scene s → (old : Option Node) → TellsIf s kept old → (calm : Bool) → TellsCalm scene kept cs (old_instance old) calm
    → is_called s cs (old_instance old) ≡ not calm
old_called s cs scene kept sees None tells calm test = ap not (sym test.is)
old_called s cs scene kept sees (Some x) tells calm test = tells.called scene cs calm sees test

-- nothing new has come for no node
old_waits : (s : Sight) (scene : Scene) (kept : ℕ → Option (List Hook)) → IsSceneOf scene s → (t : Trees Fiber) (id : ℕ) (old : Option Node) → TellsIf s kept old → IsOld t.current (old_of t.draft id) old → IsCauseToTry scene kept t id
    → waits_still s old ≡ false
old_waits s scene kept sees t id None tells was cause = refl
old_waits s scene kept sees t id (Some (node e (of_instance i) ns fs)) tells was cause = refl
old_waits s scene kept sees t id (Some (node e (of_host h) ns fs)) tells was cause = refl
old_waits s scene kept sees t id (Some (node e plain ns fs)) tells was cause = refl
old_waits s scene kept sees t id (Some (node e (of_catcher c) ns fs)) tells was cause = refl
old_waits s scene kept sees t id (Some (node e (of_boundary Shown) ns fs)) tells was cause = refl
old_waits s scene kept sees t id (Some (node e (of_boundary (Hidden a)) ns fs)) tells was cause = tells.tried scene a sees refl (cause (node e (of_boundary (Hidden a)) ns fs) a was refl)

-- Shapes

lists_open : (fs : List Frame) (us : Flags) (e : Element) (old : Option Node) (shape : fresh.Shape) → HasLists shape → begun_flags fs us e old shape ≡ below_node (flag us) e old ∷ us
lists_open fs us e old absent h = absurd h
lists_open fs us e old (waiting r v) h = absurd h
lists_open fs us e old (throwing x) h = absurd h
lists_open fs us e old (one_list m p) h = refl
lists_open fs us e old (two_lists p f) h = refl
lists_open fs us e old (guarded p f) h = refl

counted_body : (s : Sight) (cs : Contexts) (c : ℕ) (e : Element) (old : Option Node) (b : Body) (count : ℕ) → count ≡ own_body s cs e old → count ≡ begins_evaluated s cs e old (shape_of_body cs c old b)
counted_body s cs c e old (wait r v) count h = h
counted_body s cs c e old (throw x) count h = h
counted_body s cs c e old (ready es effects initials reads versions) count h = h

counted_component : (s : Sight) (cs : Contexts) (e : Element) (c : ℕ) (ps : List ℤ) (kids : Elements) (old : Option Node) (d : Option Component) (count : ℕ) → count ≡ own_body s cs e old
    → count ≤ begins_as each_body cs e old (shape_of_component s cs c ps kids old d) → count ≡ begins_evaluated s cs e old (shape_of_component s cs c ps kids old d)
counted_component s cs e c ps kids old None count h few = omega (arith, few)
counted_component s cs e c ps kids old (Some d) count h few = counted_body s cs c e old (body_of s.program d (inputs_at s cs ps kids (old_instance old))) count h

may_body : (s : Sight) (u : Flag) (cs : Contexts) (e : Element) (c : ℕ) (old : Option Node) (b : Body) → MayTry s u e old (shape_of_body cs c old b)
may_body s u cs e c old (wait r v) = tt
may_body s u cs e c old (throw x) = tt
may_body s u cs e c old (ready es effects initials reads versions) = tt

may_component : (s : Sight) (u : Flag) (cs : Contexts) (e : Element) (c : ℕ) (ps : List ℤ) (kids : Elements) (old : Option Node) (d : Option Component) → MayTry s u e old (shape_of_component s cs c ps kids old d)
may_component s u cs e c ps kids old None = tt
may_component s u cs e c ps kids old (Some d) = may_body s u cs e c old (body_of s.program d (inputs_at s cs ps kids (old_instance old)))

-- an error boundary evaluates no body, and tries no hidden boundary's children
counted_catcher : (s : Sight) (cs : Contexts) (key : Key) (f : Element) (es : Elements) (old : Option Node) (x : Option ℤ)
    → 0 ≡ begins_evaluated s cs (elements.catcher key f es) old (shape_of_catcher cs f es old x)
counted_catcher s cs key f es old None = refl
counted_catcher s cs key f es old (Some x) = refl

may_catcher : (s : Sight) (u : Flag) (e : Element) (cs : Contexts) (f : Element) (es : Elements) (old : Option Node) (x : Option ℤ) → MayTry s u e old (shape_of_catcher cs f es old x)
may_catcher s u e cs f es old None = tt
may_catcher s u e cs f es old (Some x) = tt

-- A place that begins

module _ (t : Trees Fiber) (id n place : ℕ) (v : Fiber) (o : Option ℕ) (rs : Draft Fiber) (k : Around Fiber) (st : Stack) (fs : List Frame) (cs : Contexts) (e : Element) (old : Option Node)
    (fits : Fits t) (here : t.draft ≡ placed k (made id v o (taken shapes.none) rs)) (is : IsWaiting t.current (moved_along t.current k) (given_along fs) o v place e) (was : IsOld t.current o old) where
  at : IsAt t k id v o (taken shapes.none) rs
  at = is-at t fits k id v o (taken shapes.none) rs here

  value_is : Some v ≡ made_value_of t.draft id
  value_is = sym (ap made_value_in at.list)

  was_at : IsOld t.current (old_of t.draft id) old
  was_at = subst (λ x. IsOld t.current x old) (sym at.old) was

  module _ (s : Sight) (scene : Scene) (kept : ℕ → Option (List Hook)) (sees : IsSceneOf scene s) (tells : TellsIf s kept old) where
    called_is : (calm : Bool) → TellsCalm scene kept cs (option_and_then instance_in (mark_at t.current (old_of t.draft id))) calm → is_called s cs (old_instance old) ≡ not calm
    called_is calm test = old_called s cs scene kept sees old tells calm (subst (λ i. TellsCalm scene kept cs i calm) (old_instance_is t.current (old_of t.draft id) old was_at) test)

    module _ (evaluated : Bool) (body : TellsBody scene kept t cs id evaluated) where
      none_where : (x : Element) → e ≡ x → parts_in x ≡ None → evaluated ≡ false
      none_where x form gone = body.none v value_is (ap parts_in (is.element ∙ form) ∙ gone)

      called_or : (evaluated called again : Bool) → (again ≡ true → called ≡ not (not evaluated)) → (again ≡ false → evaluated ≡ true) → evaluated ≡ (called || not again)
      called_or true called true calm anew = sym (ap (λ b. b || false) (calm refl))
      called_or false called true calm anew = sym (ap (λ b. b || false) (calm refl))
      called_or evaluated true false calm anew = anew refl
      called_or evaluated false false calm anew = anew refl

      -- a component's body is evaluated exactly if that is told
      evaluated_is : (c : ℕ) (key : Key) (ps : List ℤ) (kids : Elements) → e ≡ elements.comp c key ps kids → evaluated ≡ is_evaluated s cs (elements.comp c key ps kids) old
      evaluated_is c key ps kids form =
          let element : v.element ≡ elements.comp c key ps kids = is.element ∙ form in
          let (again, tells_again, calm, anew) = body.some v value_is (subst (λ x. IsSome (parts_in x)) (sym element) refl) in
          let same : again ≡ is_element_of (elements.comp c key ps kids) old =
          again_is t.current (old_of t.draft id) v (elements.comp c key ps kids) old again was_at element (subst (λ x. TellsAgain (is_some (parts_in x)) t.current (old_of t.draft id) v again) element tells_again)
          in
          called_or evaluated (is_called s cs (old_instance old)) again (λ so. called_is (not evaluated) (calm so)) anew ∙ ap (λ b. is_called s cs (old_instance old) || not b) same

      bodies_counted : (x : Element) → e ≡ x → (if evaluated then 1 else 0) ≤ next_counts each_body s (at_place (suc n) fs cs x old) → (if evaluated then 1 else 0) ≡ next_evaluated s (at_place (suc n) fs cs x old)
      bodies_counted elements.null form few = rw (none_where elements.null form refl) refl
      bodies_counted (elements.text a) form few = rw (none_where (elements.text a) form refl) refl
      bodies_counted (elements.host a b c d) form few = rw (none_where (elements.host a b c d) form refl) refl
      bodies_counted (elements.comp c key ps kids) form few =
          counted_component s cs (elements.comp c key ps kids) c ps kids old (component_at s.program c) (if evaluated then 1 else 0)
          (ap (λ b. if b then 1 else 0) (evaluated_is c key ps kids form)) few
      bodies_counted (elements.list a b) form few = rw (none_where (elements.list a b) form refl) refl
      bodies_counted (elements.boundary a b c) form few = rw (none_where (elements.boundary a b c) form refl) refl
      bodies_counted (elements.catcher a b c) form few = rw (none_where (elements.catcher a b c) form refl) (counted_catcher s cs a b c old (old_caught old))
      bodies_counted (elements.provider a b c d) form few = rw (none_where (elements.provider a b c d) form refl) refl

    module _ (us : Flags) (h : FlagsAtPlace t id us) (moves : st.moves ≡ moves_along t.current k) where
      -- what is tried is not untouched
      tried_not : TellsTries scene kept t st id → parts_in e ≡ None → (b : Bool) → stood (flag us) ≡ b → is_untouched s b e old ≡ false
      tried_not tries none false f = refl
      tried_not tries none true f = go (is_element_of e old) refl
        where
          go : (b : Bool) → is_element_of e old ≡ b → (b && waits_still s old) ≡ false
          go false g = refl
          go true g =
              let its : IsElementOf t.current (old_of t.draft id) e = equal_element t.current (old_of t.draft id) old e was_at g in
              old_waits s scene kept sees t id old tells was_at
              (tries v value_is (ap parts_in is.element ∙ none) (subst (IsElementOf t.current (old_of t.draft id)) (sym is.element) its) (told_stood t st id us fits h k v o rs here moves ∙ f))

      may_go : TellsTries scene kept t st id → (x : Element) → e ≡ x → MayGo s us (at_place (suc n) fs cs x old)
      may_go tries elements.null form = tt
      may_go tries (elements.text a) form = tt
      may_go tries (elements.host a b c d) form = tt
      may_go tries (elements.comp c key ps kids) form = may_component s (flag us) cs (elements.comp c key ps kids) c ps kids old (component_at s.program c)
      may_go tries (elements.list a b) form = tt
      may_go tries (elements.catcher a b c) form = may_catcher s (flag us) (elements.catcher a b c) cs b c old (old_caught old)
      may_go tries (elements.provider a b c d) form = tt
      may_go tries (elements.boundary a b c) form = subst (λ x. is_untouched s (stood (flag us)) x old ≡ false) form (tried_not tries (ap parts_in form) (stood (flag us)) refl)

  module _ (us : Flags) (h : FlagsAtPlace t id us) (new : Trees Fiber) (opened : OpensKids t new id) where
    -- its fiber is as is told of its list
    told_here : is_visible v.stage ≡ (flag us).visible
    told_here =
        let l = (is-at t fits h.flags.around id h.flags.value h.flags.old (taken shapes.none) h.flags.rest h.flags.here).list in
        let both : Some (made id h.flags.value h.flags.old (taken shapes.none) h.flags.rest) ≡ Some (made id v o (taken shapes.none) rs) = sym l ∙ at.list in
        let same : h.flags.value ≡ v = cc in
        subst (IsTold (flag us)) same h.told

    -- its flag knows the contexts that have moved
    moved_here : (flag us).moved ≡ moved_along t.current k
    moved_here =
        flagged_moved t.current h.flags.around h.flags.rest us h.flags.flagged
        ∙ ap (moved_along t.current) (same_around t fits id h.flags.around h.flags.value h.flags.old (taken shapes.none) h.flags.rest h.flags.here k v o (taken shapes.none) rs here)

    opened_value : opened.value ≡ v
    opened_value = let q : Some opened.value ≡ Some v = opened.is ∙ sym value_is in cc

    -- the kids' old nodes are visible exactly if those below are
    kids_shown : opened.origin.visible ≡ visible_below (flag us).visible e old
    kids_shown =
        steady_is t.current (old_of t.draft id) opened.value (flag us).visible e old opened.origin.visible was_at (ap (λ u. u.element) opened_value ∙ is.element)
        (ap (λ u. is_visible u.stage) opened_value ∙ told_here) opened.steadiness

    keeps_told : (l : Around Fiber) (w : Fiber) (q : Option ℕ) (ls : Draft Fiber) → t.draft ≡ placed l (made id w q (taken shapes.none) ls)
        → (new.draft ≡ placed l (made id (opened.kids.value w) q opened.kids.kids ls)) × KeepsTold (flag us) (opened.kids.value w)
        × (moved_below (flag us).moved e old ≡ moved_along t.current (below id (opened.kids.value w) q ls l))
    keeps_told l w q ls there =
        let one = (is-at t fits l id w q (taken shapes.none) ls there).list in
        let both : Some (made id w q (taken shapes.none) ls) ≡ Some (made id v o (taken shapes.none) rs) = sym one ∙ at.list in
        let same : w ≡ v = cc in
        let same_old : q ≡ o = cc in (
          opened.kids.stands l w q ls there,
          (λ tries.
              ap (λ (c : Origin). c.visible) (opened.kids.keeps l w q ls there tries ∙ ap (λ u. origin_of u.stage) same)
              ∙ (ap (λ x. (origin_of x).visible) is.stage ∙ (sym (ap is_visible is.stage) ∙ told_here))),
          moved_is t.current o old e (flag us).moved (moves_along t.current k) was moved_here
              ∙ (ap (λ y. moved_in (moves_by (given_in y) (gave t.current o) (moves_along t.current k))) (sym (opened.kids.element w ∙ (ap (λ u. u.element) same ∙ is.element)))
              ∙ (ap (λ y. moved_in (moves_by (given_in (opened.kids.value w).element) (gave t.current y) (moves_along t.current k))) (sym same_old)
              ∙ ap (λ y. moved_in (moves_by (given_in (opened.kids.value w).element) (gave t.current q) (moves_along t.current y))) (same_around t fits id k v o (taken shapes.none) rs here l w q (taken shapes.none) ls there))),
        )

    unit_opens : (s : Sight) → HasLists (shape_of s cs e old) → FlagsOpened new id (unit_flags s us (at_place (suc n) fs cs e old)) (entry opened.kids.kids)
    unit_opens s lists =
        subst (λ (fl : Flags). FlagsOpened new id fl (entry opened.kids.kids)) (sym (lists_open fs us e old (shape_of s cs e old) lists))
        (opens t new id us (below_node (flag us) e old) opened.kids.kids opened.kids.value h.flags keeps_told opened.current (wait_bare opened.origin opened.kids.kids opened.kids.all)
        (wait_told opened.origin (below_node (flag us) e old) kids_shown opened.kids.kids opened.kids.all))

-- The laws

pub counts : (s : Sight) (scene : Scene) (kept : ℕ → Option (List Hook)) (t : Trees Fiber) (st : Stack) (id n : ℕ) (fs : List Frame) (cs : Contexts) (e : Element) (old : Option Node) (evaluated : Bool)
    → IsSceneOf scene s → Fits t → StandsAt t st (Some id) (at_place (suc n) fs cs e old) → TellsIf s kept old → TellsBody scene kept t cs id evaluated
    → (if evaluated then 1 else 0) ≤ next_counts each_body s (at_place (suc n) fs cs e old) → (if evaluated then 1 else 0) ≡ next_evaluated s (at_place (suc n) fs cs e old)
counts s scene kept t st id n fs cs e old evaluated sees fits (begins {n = place} {v = v} {o = o} {rs = rs} {k = k} here is was surrounds values stack moves) tells body few =
    bodies_counted t id n place v o rs k st fs cs e old fits here is was s scene kept sees tells evaluated body e refl few

pub may : (s : Sight) (scene : Scene) (kept : ℕ → Option (List Hook)) (t : Trees Fiber) (st : Stack) (id n : ℕ) (fs : List Frame) (cs : Contexts) (e : Element) (old : Option Node) (us : Flags)
    → IsSceneOf scene s → Fits t → StandsAt t st (Some id) (at_place (suc n) fs cs e old) → TellsIf s kept old → FlagsAtPlace t id us → TellsTries scene kept t st id → MayGo s us (at_place (suc n) fs cs e old)
may s scene kept t st id n fs cs e old us sees fits (begins {n = place} {v = v} {o = o} {rs = rs} {k = k} here is was surrounds values stack moves) tells h tries =
    may_go t id n place v o rs k st fs cs e old fits here is was s scene kept sees tells us h moves tries e refl

pub opens_so : (s : Sight) (t new : Trees Fiber) (st : Stack) (id n : ℕ) (fs : List Frame) (cs : Contexts) (e : Element) (old : Option Node) (us : Flags)
    → Fits t → StandsAt t st (Some id) (at_place (suc n) fs cs e old) → FlagsAtPlace t id us → HasLists (shape_of s cs e old) → (k : OpensKids t new id)
    → FlagsOpened new id (unit_flags s us (at_place (suc n) fs cs e old)) (entry k.kids.kids)
opens_so s t new st id n fs cs e old us fits (begins {n = place} {v = v} {o = o} {rs = rs} {k = k} here is was surrounds values stack moves) h lists opened =
    unit_opens t id n place v o rs k st fs cs e old fits here is was us h new opened s lists
