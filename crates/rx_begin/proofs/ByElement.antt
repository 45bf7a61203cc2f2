-- What a place leaves that is begun, by its element.
use Rattle.std.specs.Prelude.{◌≡◌, ℕ, ℤ, suc, Bool, false, true, List, [], ◌∷◌, Option, Some, None, option_and_then, slice_set}
use Rattle.std.specs.List.{zip}
use Rattle.std.specs.Option.{option_flatten}
use Rattle.std.proofs.Common.{refl, sym, ap, ◌∙◌, subst}
use Rattle.rx_base.specs.Values.{Text, Name}
use Rattle.rx_rules.specs.Names.{component_at}
use Rattle.rx_ctx.specs.Contexts.{Stack, moved_at, moves_by, values_at}
use Rattle.rx_ctx.specs.Contexts as contexts
use Rattle.rx_catch.specs.declared.state.CatchState.TheVariants.{Caught}
use Rattle.rx_elem.specs.declared.attr.Attr.{Attr}
use Rattle.rx_elem.specs.Elements.{Element, Elements, Key, listed}
use Rattle.rx_elem.specs.Elements as elements
use Rattle.rx_elem.specs.Compare.{old_nodes}
use Rattle.rx_elem.specs.Trees.{Node, Mark, of_catcher, of_host, plain, host_number, is_hidden, elements_in, children_if, fallback_if, old_caught}
use Rattle.rx_elem.proofs.SelfMatch.{NoNull}
use Rattle.rx_elem.specs.Trees as trees
use Rattle.rx_lists.specs.Shapes.{Shape}
use Rattle.rx_lists.specs.Shapes as shapes
use Rattle.rx_links.specs.Drafts.{taken, Trees, old_of}
use Rattle.rx_links.specs.Readers.{list_from, IsLinked, made_value_of, made_value_in}
use Rattle.rx_meaning.specs.Fresh.{Sight, Contexts, Part, part, one_list, two_lists, guarded, shape_of, shape_of_catcher, shape_of_component, old_host}
use Rattle.rx_meaning.specs.Cursor.{Open, around, trying, guarding, Frame, at_place, is_null}
use Rattle.rx_fiber.specs.Fibers.{Fiber, Stage, as_cloned, as_matched, begun}
use Rattle.rx_fiber.specs.declared.stage.Origin.{Origin}
use Rattle.rx_fiber.specs.Fibers as stage
use Rattle.rx_fiber.specs.OldLists.{fallback_list, fiber_at, primary_list, matched, old_elements, old_fibers}
use Rattle.rx_fiber.specs.Reading.{IsOld}
use Rattle.rx_fiber.specs.Stood.{gave, given_in, given_more, gives_another, StandsBut}
use Rattle.rx_fiber.specs.Surround.{given_along, AreNext, StandsIf, fallback_in, is_boundary, is_catcher}
use Rattle.rx_fiber.proofs.Matching.{matched_old}
use Rattle.rx_fiber.proofs.OldLists.{fallback_is, primary_is}
use Rattle.rx_fiber.proofs.Unwinding.{catcher_gives}
use Rattle.rx_fiber.specs.Standing.{IsStack, opened, StandsAt, begins}
use Rattle.rx_fiber.proofs.Stacking.{pushed, unchanged}
use Rattle.rx_causes.specs.Marks.{mark_at}
use Rattle.rx_causes.proofs.Marks.{old_host_is}
use Rattle.rx_children.specs.Nodes.{IsBareAt, HasOpened, parts_in, begun_stage, begun_children, begun_stack}
use Rattle.rx_begin.specs.Bodies.{HasShape, waits, throws, opens, keeps}
use Rattle.rx_begin.specs.Beginning.{HasBegun}
use Rattle.rx_children.specs.declared.node.Begun.{Begun}
use Rattle.rx_children.proofs.Making.{KnowsPlaces}
use Rattle.rx_children.proofs.Nexts.{nexts}
use Rattle.rx_begin.proofs.Starts.{olds_of, begun_guarding, begun_one, begun_throwing, begun_trying, begun_waiting}
use Rattle.rx_children.proofs.Cloning.{kept_next}
use Rattle.rx_children.proofs.Matched.{matched_at}
use Rattle.rx_children.proofs.Waiting.{all_wait}
use Rattle.rx_begin.proofs.Standing.{KidsStand, moved_below}
use Rattle.std.proofs.lemmas.Option.{same_Some}

abbrev pub PartsOf : Type 0
PartsOf = ℕ × (List ℤ × List Element)

-- the parts of one element are the same one by one
pub same_parts : (b c : ℕ) (ps props : List ℤ) (xs es : List Element) → (let x : Option PartsOf = Some (b, (ps, xs)) in x) ≡ Some (c, (props, es)) → (b ≡ c) × (ps ≡ props) × (xs ≡ es)
same_parts b c ps props xs es e =
    let q : (let x : PartsOf = (b, (ps, xs)) in x) ≡ (c, (props, es)) = same_Some _ _ e in
    (ap (λ (x : PartsOf). x.0) q, ap (λ (x : PartsOf). x.1.0) q, ap (λ (x : PartsOf). x.1.1) q)

module _ (t : Trees Fiber) (st : Stack) (p n : ℕ) (fs : List Frame) (cs : Contexts) (e : Element) (old : Option Node) where
  -- the fiber's element is the one of the place
  pub element_at : KnowsPlaces t → StandsAt t st (Some p) (at_place (suc n) fs cs e old) → (v : Fiber) → Some v ≡ made_value_of t.draft p → v.element ≡ e
  element_at knows (begins {v = v} {o = o} {rs = rs} {k = k} here is was surrounds values stack moves) w f =
      let l : made_value_of t.draft p ≡ Some v = ap made_value_in (knows k p v o (taken shapes.none) rs here).list in
      let same : w ≡ v = cc in
      ap (λ u. u.element) same ∙ is.element

  pub old_at : KnowsPlaces t → StandsAt t st (Some p) (at_place (suc n) fs cs e old) → IsOld t.current (old_of t.draft p) old
  old_at knows (begins {v = v} {o = o} {rs = rs} {k = k} here is was surrounds values stack moves) =
      subst (λ q. IsOld t.current q old) (sym (knows k p v o (taken shapes.none) rs here).old) was

  pub values_here : StandsAt t st (Some p) (at_place (suc n) fs cs e old) → values_at st ≡ cs
  values_here (begins here is was surrounds values stack moves) = values

  pub bare_at : StandsAt t st (Some p) (at_place (suc n) fs cs e old) → IsBareAt t p
  bare_at (begins {v = v} {o = o} {rs = rs} {k = k} here is was surrounds values stack moves) = record { around = k; value = v; old = o; rest = rs; here = here }

-- a node that gives nothing leaves the stack as it is
around_stack : (st st' : Stack) (x : Open) (xs : List (Open × Contexts)) (e : Element) (m : Mark) (cs : Contexts) → given_in e ≡ None → st' ≡ st → values_at st ≡ cs → IsStack st xs
    → IsStack st' ((around e m, cs) ∷ xs)
around_stack st st' x xs e m cs given same values stack =
    subst (λ q. IsStack q ((around e m, cs) ∷ xs)) (sym same) (subst (λ l. IsStack st ((around e m, l) ∷ xs)) values (unchanged st (around e m) xs given stack))

module _ (s : Sight) (t : Trees Fiber) (st : Stack) (new : Trees Fiber) (st' : Stack) (p n : ℕ) (fs : List Frame) (cs : Contexts) (e : Element) (old : Option Node)
    (linked : IsLinked t.current) (knows : KnowsPlaces t) (at : StandsAt t st (Some p) (at_place (suc n) fs cs e old)) (answer : Begun) where
  -- the fiber is begun with this stage, over the children of these elements
  pub record Opens (m : Stage) (es : List Element) : Type 0 where
    pub given : List Element
    pub olds : List (Option ℕ)
    pub origin : Origin
    pub opened : HasOpened origin t new p m given olds answer
    pub nexts : AreNext t.current (moved_below t st p e) (given_more e (given_along fs)) 0 (zip es (old_nodes (children_if old) es)) opened.kids

  -- children that are matched with the old ones
  pub from_matched : (m : Stage) (es : List Element) (steady : Bool) (generation : ℕ) → KidsStand t st p fs e steady → HasOpened (as_matched steady generation) t new p m es (matched (primary_list (list_from t.current (old_of t.draft p))) es) answer
      → Opens m es
  from_matched m es steady generation stand done = record {
    given = es;
    olds = matched (primary_list (list_from t.current (old_of t.draft p))) es;
    origin = as_matched steady generation;
    opened = done;
    nexts =
        nexts t.current (moved_below t st p e) (given_more e (given_along fs)) 0 es (matched (primary_list (list_from t.current (old_of t.draft p))) es) (old_nodes (children_if old) es) done.kids
        (all_wait t.current (moved_below t st p e) (given_more e (given_along fs)) (as_matched steady generation) 0 es (matched (primary_list (list_from t.current (old_of t.draft p))) es) done.kids
        (λ so. absurd (let q : ⊥ = cc in q))
        (λ so i j is. let (place, there, here) = matched_at (primary_list (list_from t.current (old_of t.draft p))) es i j is in stand so place j here) done.are)
        (olds_of s t st new st' p n fs cs e old linked knows (old_of t.draft p) es (old_at t st p n fs cs e old knows at));
  }

  -- clones of the old ones
  pub from_clones : (m : Stage) (es : List Element) (steady : Bool) → KidsStand t st p fs e steady → NoNull (children_if old) → es ≡ elements_in (children_if old)
      → HasOpened (as_cloned steady) t new p m (old_elements (primary_list (list_from t.current (old_of t.draft p)))) (old_fibers (primary_list (list_from t.current (old_of t.draft p)))) answer → Opens m es
  from_clones m es steady stand no_null same done = record {
    given = old_elements (primary_list (list_from t.current (old_of t.draft p)));
    olds = old_fibers (primary_list (list_from t.current (old_of t.draft p)));
    origin = as_cloned steady;
    opened = done;
    nexts =
        subst (λ xs. AreNext t.current (moved_below t st p e) (given_more e (given_along fs)) 0 (zip xs (old_nodes (children_if old) xs)) done.kids) (sym same)
        (kept_next t.current linked (moved_below t st p e) (given_more e (given_along fs)) (children_if old) (primary_list (list_from t.current (old_of t.draft p)))
        (primary_is t.current linked (old_of t.draft p) old (old_at t st p n fs cs e old knows at)) no_null done.kids
        (all_wait t.current (moved_below t st p e) (given_more e (given_along fs)) (as_cloned steady) 0 (old_elements (primary_list (list_from t.current (old_of t.draft p)))) (old_fibers (primary_list (list_from t.current (old_of t.draft p)))) done.kids
        (λ so. refl) (λ so i j is. stand so i j (ap option_flatten is)) done.are));
  }

  again : (m l : Stage) (es xs : List Element) → m ≡ l → es ≡ xs → Opens m es → Opens l xs
  again m l es xs f g h = subst (λ q. Opens q xs) f (subst (λ ys. Opens m ys) g h)

  -- what gives nothing moves no context
  still : given_in e ≡ None → st' ≡ st → st'.moves ≡ moves_by (given_in e) (gave t.current (old_of t.draft p)) st.moves
  still given stacks = ap (λ (x : Stack). x.moves) stacks ∙ ap (λ g. moves_by g (gave t.current (old_of t.draft p)) st.moves) (sym given)

  -- a node with one list that gives nothing
  plain_begun : (m : Mark) (l : Stage) (es : List Element) (list : Part) → shape_of s cs e old ≡ one_list m list → given_in e ≡ None → list.contexts ≡ cs → list.old ≡ children_if old
      → is_hidden m ≡ false → l ≡ begun m → es ≡ list.elements → Opens l es → st' ≡ st → HasBegun s t st new st' p n fs cs e old answer
  plain_begun m l es list shape given same was shown stage_is elements_are done stacks =
      let o = again l (begun m) es list.elements stage_is elements_are done in
      begun_one s t st new st' p n fs cs e old linked knows o.origin answer m list o.given o.olds o.opened
      (subst (λ ns. AreNext t.current (moved_below t st p e) (given_more e (given_along fs)) 0 (zip list.elements (old_nodes ns list.elements)) o.opened.kids) (sym was) o.nexts) at shape shown
      (λ values stack. subst (λ c. IsStack st' ((around e m, c) ∷ opened fs)) (sym same) (around_stack st st' (around e m) (opened fs) e m cs given stacks values stack)) (still given stacks)

  host_mark : (number : Option ℕ) (o : Option ℕ) → number ≡ option_and_then host_number (mark_at t.current o) → o ≡ old_of t.draft p → begun (of_host number) ≡ begun (of_host (old_host old))
  host_mark number o f g =
      ap (λ m. begun (of_host m)) (f ∙ (ap (λ q. option_and_then host_number (mark_at t.current q)) g ∙ old_host_is t.current (old_of t.draft p) old (old_at t st p n fs cs e old knows at)))

  -- a text has no children
  pub text_begun : (x : Text) (number o : Option ℕ) → elements.text x ≡ e → number ≡ option_and_then host_number (mark_at t.current o) → o ≡ old_of t.draft p → Opens (begun (of_host number)) []
      → st' ≡ st → HasBegun s t st new st' p n fs cs e old answer
  text_begun x number o is f g done stacks =
      let x = again (begun (of_host number)) (begun (of_host (old_host old))) [] [] (host_mark number o f g) refl done in
      begun_one s t st new st' p n fs cs e old linked knows x.origin answer (of_host (old_host old)) (part cs [] trees.none) x.given x.olds x.opened x.nexts at (shape is) refl
      (λ values stack. around_stack st st' (around e (of_host (old_host old))) (opened fs) e (of_host (old_host old)) cs (given is) stacks values stack) (still (given is) stacks)
    where
      shape : elements.text x ≡ e → shape_of s cs e old ≡ one_list (of_host (old_host old)) (part cs [] trees.none)
      shape f = subst (λ y. shape_of s cs y old ≡ one_list (of_host (old_host old)) (part cs [] trees.none)) f refl

      given : elements.text x ≡ e → given_in e ≡ None
      given f = subst (λ y. given_in y ≡ None) f refl

  pub host_begun : (name : Name) (key : Key) (attrs : List Attr) (es : Elements) (number o : Option ℕ) → elements.host name key attrs es ≡ e
      → number ≡ option_and_then host_number (mark_at t.current o) → o ≡ old_of t.draft p → Opens (begun (of_host number)) (listed es) → st' ≡ st → HasBegun s t st new st' p n fs cs e old answer
  host_begun name key attrs es number o is f g done stacks =
      plain_begun (of_host (old_host old)) (begun (of_host number)) (listed es) (part cs (listed es) (children_if old))
      (subst (λ y. shape_of s cs y old ≡ one_list (of_host (old_host old)) (part cs (listed es) (children_if old))) is refl)
      (subst (λ y. given_in y ≡ None) is refl) refl refl refl (host_mark number o f g) refl done stacks

  pub list_begun : (marked : Bool) (es : Elements) → elements.list marked es ≡ e → Opens (begun plain) (listed es) → st' ≡ st → HasBegun s t st new st' p n fs cs e old answer
  list_begun marked es is done stacks =
      plain_begun plain (begun plain) (listed es) (part cs (listed es) (children_if old))
      (subst (λ y. shape_of s cs y old ≡ one_list plain (part cs (listed es) (children_if old))) is refl)
      (subst (λ y. given_in y ≡ None) is refl) refl refl refl refl refl done stacks

  pub provider_begun : (c : ℕ) (key : Key) (x : ℤ) (es : Elements) → elements.provider c key x es ≡ e → Opens (begun plain) (listed es) → st' ≡ contexts.below c x (gives_another t.current (old_of t.draft p) e) st
      → HasBegun s t st new st' p n fs cs e old answer
  provider_begun c key x es is done stacks =
      let list : Part = part (slice_set cs c x) (listed es) (children_if old) in
      begun_one s t st new st' p n fs cs e old linked knows done.origin answer plain list done.given done.olds done.opened done.nexts at
      (subst (λ y. shape_of s cs y old ≡ one_list plain list) is refl) refl
      (λ values stack.
      subst (λ q. IsStack q ((around e plain, slice_set cs c x) ∷ opened fs)) (sym stacks)
      (subst (λ l. IsStack (contexts.below c x (gives_another t.current (old_of t.draft p) e) st) ((around e plain, slice_set l c x) ∷ opened fs)) values
      (pushed st (around e plain) (opened fs) c x (gives_another t.current (old_of t.draft p) e) (subst (λ y. given_in y ≡ Some (c, x)) is refl) stack)))
      (ap (λ (q : Stack). q.moves) stacks
      ∙ subst (λ y. (c, gives_another t.current (old_of t.draft p) y) ∷ st.moves ≡ moves_by (given_in y) (gave t.current (old_of t.draft p)) st.moves) is refl)

  pub boundary_begun : (key : Key) (f : Element) (es : Elements) (own : Origin) → (own.visible ≡ true → StandsIf t.current (moved_at st) (given_along fs) (old_of t.draft p)) → elements.boundary key f es ≡ e → Opens (stage.trying own) (listed es) → st' ≡ st → HasBegun s t st new st' p n fs cs e old answer
  boundary_begun key f es own stood is done stacks =
      begun_trying s t st new st' p n fs cs e old linked knows done.origin own answer (listed es) done.given done.olds done.opened done.nexts at
      (subst (λ y. is_boundary y ≡ true) is refl) stood
      (subst (λ y. shape_of s cs y old ≡ two_lists (part cs (listed es) (children_if old)) (part cs (fallback_in y ∷ []) (fallback_if old))) is refl)
      (λ values stack.
      let x : Open = trying e old (part cs (fallback_in e ∷ []) (fallback_if old)) in
      subst (λ q. IsStack q ((x, cs) ∷ opened fs)) (sym stacks)
      (subst (λ l. IsStack st ((x, l) ∷ opened fs)) values (unchanged st x (opened fs) (subst (λ y. given_in y ≡ None) is refl) stack)))
      (still (subst (λ y. given_in y ≡ None) is refl) stacks)

  -- an error boundary that had caught nothing tries its children
  pub catcher_begun : (key : Key) (f : Element) (es : Elements) → old_caught old ≡ None → elements.catcher key f es ≡ e → Opens stage.guarding (listed es) → st' ≡ st → HasBegun s t st new st' p n fs cs e old answer
  catcher_begun key f es fine is done stacks =
      begun_guarding s t st new st' p n fs cs e old linked knows done.origin answer (listed es) done.given done.olds done.opened done.nexts at
      (subst (λ y. is_catcher y ≡ true) is refl)
      (subst (λ y. shape_of s cs y old ≡ guarded (part cs (listed es) (children_if old)) (part cs (fallback_in y ∷ []) trees.none)) is (ap (shape_of_catcher cs f es old) fine))
      (λ values stack.
      let x : Open = guarding e (part cs (fallback_in e ∷ []) trees.none) in
      subst (λ q. IsStack q ((x, cs) ∷ opened fs)) (sym stacks)
      (subst (λ l. IsStack st ((x, l) ∷ opened fs)) values (unchanged st x (opened fs) (subst (λ y. given_in y ≡ None) is refl) stack)))
      (still (subst (λ y. given_in y ≡ None) is refl) stacks)

  abbrev old_fallback : Shape Fiber
  old_fallback = fallback_list (list_from t.current (old_of t.draft p))

  -- one that had caught a value goes on with its fallback, over these fibers
  caught_over : (x : ℤ) (origin : Origin) (given : List Element) (os : List (Option ℕ)) → old_caught old ≡ Some x → is_catcher e ≡ true → (done : HasOpened origin t new p (begun (of_catcher (Caught x))) given os answer)
      → AreNext t.current (moved_below t st p e) (given_more e (given_along fs)) 0 (zip (fallback_in e ∷ []) (old_nodes (fallback_if old) (fallback_in e ∷ []))) done.kids → st' ≡ st → HasBegun s t st new st' p n fs cs e old answer
  caught_over x origin given os caught catcher done nexts_are stacks =
      let gives : given_in e ≡ None = catcher_gives e catcher in
      begun_one s t st new st' p n fs cs e old linked knows origin answer (of_catcher (Caught x)) (part cs (fallback_in e ∷ []) (fallback_if old)) given os done nexts_are at
      (caught_shape e catcher) refl
      (λ values stack. around_stack st st' (around e (of_catcher (Caught x))) (opened fs) e (of_catcher (Caught x)) cs gives stacks values stack) (still gives stacks)
    where
      caught_shape : (y : Element) → is_catcher y ≡ true → shape_of s cs y old ≡ one_list (of_catcher (Caught x)) (part cs (fallback_in y ∷ []) (fallback_if old))
      caught_shape elements.null h = cc
      caught_shape (elements.text z) h = cc
      caught_shape (elements.host name key attrs es) h = cc
      caught_shape (elements.comp c key props es) h = cc
      caught_shape (elements.list marked es) h = cc
      caught_shape (elements.boundary key f es) h = cc
      caught_shape (elements.catcher key f es) h = ap (shape_of_catcher cs f es old) caught
      caught_shape (elements.provider c key z es) h = cc

  -- the fibers of the old fallback of a steady place stand where those of the place will
  abbrev pub FallbackStands : Bool → Type 0
  FallbackStands steady = steady ≡ true → (place j : ℕ) → fiber_at old_fallback place ≡ Some j → StandsBut t.current (moved_below t st p e) (given_more e (given_along fs)) (Some j)

  -- its fallback is matched with the old one
  pub caught_matched : (x : ℤ) (steady : Bool) (generation : ℕ) → old_caught old ≡ Some x → is_catcher e ≡ true → FallbackStands steady
      → HasOpened (as_matched steady generation) t new p (begun (of_catcher (Caught x))) (fallback_in e ∷ []) (matched old_fallback (fallback_in e ∷ [])) answer → st' ≡ st → HasBegun s t st new st' p n fs cs e old answer
  caught_matched x steady generation caught catcher stand done stacks =
      caught_over x (as_matched steady generation) (fallback_in e ∷ []) (matched old_fallback (fallback_in e ∷ [])) caught catcher done
      (nexts t.current (moved_below t st p e) (given_more e (given_along fs)) 0 (fallback_in e ∷ []) (matched old_fallback (fallback_in e ∷ [])) (old_nodes (fallback_if old) (fallback_in e ∷ [])) done.kids
      (all_wait t.current (moved_below t st p e) (given_more e (given_along fs)) (as_matched steady generation) 0 (fallback_in e ∷ []) (matched old_fallback (fallback_in e ∷ [])) done.kids
      (λ so. absurd (let q : ⊥ = cc in q))
      (λ so i j is. let (place, there, here) = matched_at old_fallback (fallback_in e ∷ []) i j is in stand so place j here) done.are)
      (matched_old t.current linked (fallback_if old) old_fallback (fallback_is t.current linked (old_of t.draft p) old (old_at t st p n fs cs e old knows at)) (fallback_in e ∷ [])))
      stacks

  -- or it goes on over clones of it
  pub caught_cloned : (x : ℤ) (steady : Bool) → old_caught old ≡ Some x → is_catcher e ≡ true → FallbackStands steady → NoNull (fallback_if old) → fallback_in e ∷ [] ≡ elements_in (fallback_if old)
      → HasOpened (as_cloned steady) t new p (begun (of_catcher (Caught x))) (old_elements old_fallback) (old_fibers old_fallback) answer → st' ≡ st → HasBegun s t st new st' p n fs cs e old answer
  caught_cloned x steady caught catcher stand no_null same done stacks =
      caught_over x (as_cloned steady) (old_elements old_fallback) (old_fibers old_fallback) caught catcher done
      (subst (λ xs. AreNext t.current (moved_below t st p e) (given_more e (given_along fs)) 0 (zip xs (old_nodes (fallback_if old) xs)) done.kids) (sym same)
      (kept_next t.current linked (moved_below t st p e) (given_more e (given_along fs)) (fallback_if old) old_fallback (fallback_is t.current linked (old_of t.draft p) old (old_at t st p n fs cs e old knows at)) no_null done.kids
      (all_wait t.current (moved_below t st p e) (given_more e (given_along fs)) (as_cloned steady) 0 (old_elements old_fallback) (old_fibers old_fallback) done.kids
      (λ so. refl) (λ so i j is. stand so i j (ap option_flatten is)) done.are)))
      stacks

  pub comp_begun : NoNull (children_if old) → (is_again steady : Bool) (generation : ℕ) → KidsStand t st p fs e steady → (c : ℕ) (key : Key) (props : List ℤ) (kids : Elements) (contexts_here : Contexts) → elements.comp c key props kids ≡ e → contexts_here ≡ values_at st
      → HasShape is_again steady generation (shape_of_component s contexts_here c props kids old (component_at s.program c)) contexts_here old t new p answer → st' ≡ st → HasBegun s t st new st' p n fs cs e old answer
  comp_begun no_null is_again steady generation stand c key props kids here is same has stacks = by_shape (subst (λ l. HasShape is_again steady generation (shape_of_component s l c props kids old (component_at s.program c)) l old t new p answer) (same ∙ values_here t st p n fs cs e old at) has)
    where
      shape_is : shape_of s cs e old ≡ shape_of_component s cs c props kids old (component_at s.program c)
      shape_is = subst (λ y. shape_of s cs y old ≡ shape_of_component s cs c props kids old (component_at s.program c)) is refl

      by_shape : HasShape is_again steady generation (shape_of_component s cs c props kids old (component_at s.program c)) cs old t new p answer → HasBegun s t st new st' p n fs cs e old answer
      by_shape (waits r v shape trees_same answer_is) =
          subst (λ a. HasBegun s t st new st' p n fs cs e old a) (sym answer_is) (begun_waiting s t st new st' p n fs cs e old r v at (shape_is ∙ shape) trees_same stacks)
      by_shape (throws x shape trees_same answer_is) =
          subst (λ a. HasBegun s t st new st' p n fs cs e old a) (sym answer_is) (begun_throwing s t st new st' p n fs cs e old x at (shape_is ∙ shape) trees_same stacks)
      by_shape (opens o) =
          plain_begun o.mark (begun o.mark) o.list.elements o.list (shape_is ∙ o.shape_is) (subst (λ y. given_in y ≡ None) is refl) o.contexts o.was o.shown refl refl
          (from_matched (begun o.mark) o.list.elements steady generation stand o.opened) stacks
      by_shape (keeps o) =
          plain_begun o.mark (begun o.mark) (elements_in (children_if old)) (part cs (elements_in (children_if old)) (children_if old)) (shape_is ∙ o.shape_is) (subst (λ y. given_in y ≡ None) is refl) refl refl o.shown refl refl
          (from_clones (begun o.mark) (elements_in (children_if old)) steady stand no_null refl o.opened) stacks

  -- a place of no component
  pub other_begun : (own : Origin) (number o : Option ℕ) → (own.visible ≡ true → StandsIf t.current (moved_at st) (given_along fs) (old_of t.draft p)) → is_null e ≡ false → parts_in e ≡ None → (is_catcher e ≡ true → old_caught old ≡ None) → number ≡ option_and_then host_number (mark_at t.current o) → o ≡ old_of t.draft p
      → Opens (begun_stage e own number) (begun_children e) → st' ≡ begun_stack e (gives_another t.current (old_of t.draft p) e) st → HasBegun s t st new st' p n fs cs e old answer
  other_begun own number o stood there none fine f g done stacks = by_element e refl
    where
      by_element : (x : Element) → x ≡ e → HasBegun s t st new st' p n fs cs e old answer
      by_element elements.null h = absurd (let q : is_null elements.null ≡ false = ap is_null h ∙ there in let r : ⊥ = cc in r)
      by_element (elements.text y) h =
          text_begun y number o h f g (again (begun_stage e own number) (begun (of_host number)) (begun_children e) [] (ap (λ z. begun_stage z own number) (sym h)) (ap begun_children (sym h)) done)
          (stacks ∙ ap (λ z. begun_stack z (gives_another t.current (old_of t.draft p) e) st) (sym h))
      by_element (elements.host name key attrs es) h =
          host_begun name key attrs es number o h f g
          (again (begun_stage e own number) (begun (of_host number)) (begun_children e) (listed es) (ap (λ z. begun_stage z own number) (sym h)) (ap begun_children (sym h)) done)
          (stacks ∙ ap (λ z. begun_stack z (gives_another t.current (old_of t.draft p) e) st) (sym h))
      by_element (elements.comp c key props kids) h = absurd (let q : parts_in (elements.comp c key props kids) ≡ None = ap parts_in h ∙ none in let r : ⊥ = cc in r)
      by_element (elements.list marked es) h =
          list_begun marked es h (again (begun_stage e own number) (begun plain) (begun_children e) (listed es) (ap (λ z. begun_stage z own number) (sym h)) (ap begun_children (sym h)) done)
          (stacks ∙ ap (λ z. begun_stack z (gives_another t.current (old_of t.draft p) e) st) (sym h))
      by_element (elements.boundary key fallback es) h =
          boundary_begun key fallback es own stood h (again (begun_stage e own number) (stage.trying own) (begun_children e) (listed es) (ap (λ z. begun_stage z own number) (sym h)) (ap begun_children (sym h)) done)
          (stacks ∙ ap (λ z. begun_stack z (gives_another t.current (old_of t.draft p) e) st) (sym h))
      by_element (elements.catcher key fallback es) h =
          catcher_begun key fallback es (fine (ap is_catcher (sym h))) h (again (begun_stage e own number) stage.guarding (begun_children e) (listed es) (ap (λ z. begun_stage z own number) (sym h)) (ap begun_children (sym h)) done)
          (stacks ∙ ap (λ z. begun_stack z (gives_another t.current (old_of t.draft p) e) st) (sym h))
      by_element (elements.provider c key x es) h =
          provider_begun c key x es h (again (begun_stage e own number) (begun plain) (begun_children e) (listed es) (ap (λ z. begun_stage z own number) (sym h)) (ap begun_children (sym h)) done)
          (stacks ∙ ap (λ z. begun_stack z (gives_another t.current (old_of t.draft p) e) st) (sym h))

  -- a component's place
  pub body_begun : NoNull (children_if old) → (is_again steady : Bool) (generation : ℕ) → KidsStand t st p fs e steady → (c : ℕ) (props : List ℤ) (es : List Element) (here : Contexts) → parts_in e ≡ Some (c, (props, es)) → here ≡ values_at st
      → ((key : Key) (kids : Elements) → elements.comp c key props kids ≡ e → listed kids ≡ es → HasShape is_again steady generation (shape_of_component s here c props kids old (component_at s.program c)) here old t new p answer) → st' ≡ st
      → HasBegun s t st new st' p n fs cs e old answer
  body_begun no_null is_again steady generation stand c props es here parts same has stacks = by_element e refl
    where
      none_here : (x : Element) → x ≡ e → parts_in x ≡ None → HasBegun s t st new st' p n fs cs e old answer
      none_here x h none = absurd (let q : parts_in x ≡ Some (c, (props, es)) = ap parts_in h ∙ parts in let r : ⊥ = cc in r)

      by_element : (x : Element) → x ≡ e → HasBegun s t st new st' p n fs cs e old answer
      by_element elements.null h = none_here elements.null h refl
      by_element (elements.text y) h = none_here (elements.text y) h refl
      by_element (elements.host name key attrs kids) h = none_here (elements.host name key attrs kids) h refl
      by_element (elements.list marked kids) h = none_here (elements.list marked kids) h refl
      by_element (elements.boundary key fallback kids) h = none_here (elements.boundary key fallback kids) h refl
      by_element (elements.catcher key fallback kids) h = none_here (elements.catcher key fallback kids) h refl
      by_element (elements.provider d key x kids) h = none_here (elements.provider d key x kids) h refl
      by_element (elements.comp d key others kids) h =
          let (q0, q1, q2) = same_parts d c others props (listed kids) es (ap parts_in h ∙ parts) in
          let x : elements.comp c key props kids ≡ e = subst (λ i. elements.comp i key props kids ≡ e) q0 (subst (λ ps. elements.comp d key ps kids ≡ e) q1 h) in
          comp_begun no_null is_again steady generation stand c key props kids here x same (has key kids x q2) stacks
