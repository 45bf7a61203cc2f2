-- Which of the places that a render comes to are evaluated: those that have a cause, and some below one that has or that is tried again.
use Rattle.std.specs.Prelude.{◌≡◌, ℕ, zero, suc, Bool, true, false, not, ◌||◌, List, [], ◌∷◌, ◌⊎◌, ℤ, Option, Some, None, IfSome, map, option_and_then, refl, slice_set}
use Rattle.std.specs.List.{All, zip}
use Rattle.std.specs.Option.{option_map_or}
use Rattle.std.proofs.Common.{ap, inl, inr, subst, sym}
use Rattle.rx_ast.specs.Syntax.{Component}
use Rattle.rx_base.specs.Awaits.{Awaits}
use Rattle.rx_catch.specs.declared.state.CatchState.TheVariants.{Caught, Fine}
use Rattle.rx_elem.specs.Compare.{node_at, old_nodes}
use Rattle.rx_elem.specs.Elements.{Element, Elements, listed}
use Rattle.rx_elem.specs.Elements as elements
use Rattle.rx_elem.specs.Identity.{old_places}
use Rattle.rx_elem.specs.Trees.{Forest, Instance, Mark, Node, caught_in, child, element_of, elements_in, is_hidden, node, none, of_boundary, of_catcher, of_host, of_instance, old_caught, places, plain, vacant}
use Rattle.rx_elem.proofs.Deciding.{or_fails, or_right}
use Rattle.rx_elem.proofs.SelfMatch.{matches_itself}
use Rattle.rx_meaning.specs.Body.{Body, body_of, ready, throw, wait}
use Rattle.rx_meaning.specs.Fresh.{Sight, Contexts, Renders, default_contexts, depth_limit, inputs_at, old_host, part, render_part, rendered, root_element, Part, Shape, absent, waiting, throwing, one_list, two_lists, guarded, shape_of, shape_of_body, shape_of_catcher, shape_of_component, version_seen}
use Rattle.rx_meaning.specs.Settled.{AllSettled, DoneBefore, IfSettled, IsBodyOf, IsOwn, IsSettled, known_by, read_anew, refreshed}
use Rattle.rx_meaning.specs.Touched.{children_with_old, is_throw, is_wait}
use Rattle.rx_rules.specs.Names.{component_at}
use Rattle.rx_susp.specs.declared.boundary.BoundaryState.TheVariants.{Hidden, Shown}
use Rattle.commit_laws.proofs.TakeOver.{idle_shape, settled_no_null}
use Rattle.cost_laws.specs.Causes.{has_cause, is_called, is_due, some_update}
use Rattle.cost_laws.specs.Evaluated.{above_root, below_node, is_evaluated, once_caught, stood}
use Rattle.cost_laws.specs.Places.{Above, AreEvaluated, Coming, Comings, above_with, come_part, come_shape, coming_here, comings, whole_comings}
use Rattle.cost_laws.specs.Untouched.{is_element_of, is_retried, is_untouched}
use Rattle.cost_laws.proofs.ComingOnce.{places_once}
use Rattle.cost_laws.proofs.CommittedHooks.{committed_hooks}
use Rattle.cost_laws.proofs.Each.{Each, all_of}
use Rattle.cost_laws.proofs.EachComing.{all_come, any_pairs, boundary_comes, catcher_comes, stands_or_not, whole_each}
use Rattle.cost_laws.proofs.Resting.{not_evaluated}
use Rattle.cost_laws.proofs.DirtyExact.{places_exact}

-- A place that has a cause is evaluated

cause_evaluates : (s : Sight) (cs : Contexts) (e : Element) (old : Option Node) → has_cause s cs e old ≡ true → is_evaluated s cs e old ≡ true
cause_evaluates s cs elements.null old h = absurd (cc h)
cause_evaluates s cs (elements.text t) old h = absurd (cc h)
cause_evaluates s cs (elements.host n k attrs es) old h = absurd (cc h)
cause_evaluates s cs (elements.comp c k ps es) old h = ap (λ b. b || not (is_element_of (elements.comp c k ps es) old)) h
cause_evaluates s cs (elements.list marked es) old h = absurd (cc h)
cause_evaluates s cs (elements.boundary k f es) old h = absurd (cc h)
cause_evaluates s cs (elements.catcher k f es) old h = absurd (cc h)
cause_evaluates s cs (elements.provider c k x es) old h = absurd (cc h)

-- a place that has a cause is evaluated
abbrev IsMet : Coming → Type 0
IsMet v = v.caused ≡ true → v.evaluated ≡ true

each_child : (P : Element × Option Node → Type 0) → ((x : Element × Option Node) → P x) → (xs : List (Element × Option Node)) → Each P xs
each_child P h [] = tt
each_child P h (x ∷ xs) = (h x, each_child P h xs)

-- Each place that has a cause is one whose body is evaluated.
pub causes_met : (s : Sight) (old : Option Node) → All (λ v. v.caused ≡ true → v.evaluated ≡ true) (whole_comings s old)
causes_met s old =
    all_of IsMet (whole_comings s old)
    (whole_each (λ e o. Unit {0}) any_pairs IsMet s old tt (λ a cs e o k. stands_or_not (IsMet (coming_here s a cs e o)) (cause_evaluates s cs e o) (shape_of s cs e o)))

-- A place that is evaluated has a cause, or lies below one that has or that is tried again

-- a place that is evaluated has a cause, or lies below one that has or that is tried again
abbrev IsCaused : Coming → Type 0
IsCaused v = v.evaluated ≡ true → (v.caused ≡ true) ⊎ (v.below ≡ true)

-- a place has no old node, or its element is that of its old node, which is settled
abbrev IsGiven : Sight → Element → Option Node → Type 0
IsGiven s e None = Unit {0}
IsGiven s e (Some x) = (e ≡ element_of x) × IsSettled s.program (known_by s) x

-- a place lies below one that has a cause or is tried again, or it is given
abbrev IsPlaced : Sight → Above → Element → Option Node → Type 0
IsPlaced s a e old = (a.below ≡ true) ⊎ IsGiven s e old

-- what is come to at a place and below it is caused, if it is placed
abbrev IsFounded : Sight → Comings → Type 0
IsFounded s come = (a : Above) (cs : Contexts) (e : Element) (old : Option Node) → IsPlaced s a e old → Each IsCaused (come a cs e old)

part_placed : (s : Sight) (come : Comings) → IsFounded s come → (below : Contexts → Renders) (a : Above) (p : Part)
    → Each (λ x. (j : ℕ) → IsPlaced s (record a { address = j ∷ a.address }) x.0 x.1) (children_with_old p) → Each IsCaused (come_part come below a p)
part_placed s come founded below a p placed =
    all_come IsCaused come (below p.contexts) a p.contexts 0 (children_with_old p) (go (children_with_old p) placed)
  where
    go : (xs : List (Element × Option Node)) → Each (λ x. (j : ℕ) → IsPlaced s (record a { address = j ∷ a.address }) x.0 x.1) xs
        → Each (λ x. (j : ℕ) → Each IsCaused (come (record a { address = j ∷ a.address }) p.contexts x.0 x.1)) xs
    go [] h = tt
    go (x ∷ xs) h = ((λ j. founded (record a { address = j ∷ a.address }) p.contexts x.0 x.1 (h.0 j)), go xs h.1)

part_below : (s : Sight) (come : Comings) → IsFounded s come → (below : Contexts → Renders) (a : Above) (p : Part) → a.below ≡ true → Each IsCaused (come_part come below a p)
part_below s come founded below a p h =
    part_placed s come founded below a p
    (each_child (λ x. (j : ℕ) → IsPlaced s (record a { address = j ∷ a.address }) x.0 x.1) (λ x j. inl h) (children_with_old p))

-- Below a place that has a cause, or is tried again

-- all that is below such a place, by what stands there
shape_below : (s : Sight) (come : Comings) → IsFounded s come → (below : Contexts → Renders) (a : Above) (cs : Contexts) (e : Element) (old : Option Node) (shape : Shape)
    → IsCaused (coming_here s a cs e old) → (a.below || (has_cause s cs e old || is_retried s (stood a.flag) e old)) ≡ true
    → Each IsCaused (come_shape come below s a cs e old shape)
shape_below s come founded below a cs e old absent here h = tt
shape_below s come founded below a cs e old (waiting r v) here h = (here, tt)
shape_below s come founded below a cs e old (throwing x) here h = (here, tt)
shape_below s come founded below a cs e old (one_list m p) here h = (here, part_below s come founded below (above_with a s cs e old (below_node a.flag e old)) p h)
shape_below s come founded below a cs e old (two_lists p f) here h =
    let b = above_with a s cs e old (below_node a.flag e old) in
    let c = above_with a s cs e old a.flag in (
      here,
      boundary_comes IsCaused (is_untouched s (stood a.flag) e old) (is_wait (render_part below p))
          (come_part come below (record b { address = 0 ∷ a.address }) p) (come_part come below (record c { address = 1 ∷ a.address }) f)
          (λ _. part_below s come founded below (record b { address = 0 ∷ a.address }) p h) (part_below s come founded below (record c { address = 1 ∷ a.address }) f h),
    )
shape_below s come founded below a cs e old (guarded p f) here h =
    let b = above_with a s cs e old (below_node a.flag e old) in
    let c = above_with a s cs e old (once_caught a.flag) in (
      here,
      catcher_comes IsCaused (is_throw (render_part below p))
          (come_part come below (record b { address = 0 ∷ a.address }) p) (come_part come below (record c { address = 1 ∷ a.address }) f)
          (part_below s come founded below (record b { address = 0 ∷ a.address }) p h) (part_below s come founded below (record c { address = 1 ∷ a.address }) f h),
    )

-- Without an old node

nothing_found : (o : Option ℕ) → option_and_then (node_at none) o ≡ None
nothing_found None = refl
nothing_found (Some k) = refl

new_children : (es : List Element) (os : List (Option ℕ)) → Each (λ x. x.1 ≡ None) (zip es (map (option_and_then (node_at none)) os))
new_children [] os = tt
new_children (e ∷ es) [] = tt
new_children (e ∷ es) (o ∷ os) = (nothing_found o, new_children es os)

-- a list without old children
new_part : (s : Sight) (come : Comings) → IsFounded s come → (below : Contexts → Renders) (a : Above) (p : Part) → p.old ≡ none → Each IsCaused (come_part come below a p)
new_part s come founded below a p h =
    part_placed s come founded below a p (go (children_with_old p) (subst (λ ns. Each (λ x. x.1 ≡ None) (zip p.elements (old_nodes ns p.elements))) (sym h) (new_children p.elements (old_places [] p.elements))))
  where
    go : (xs : List (Element × Option Node)) → Each (λ x. x.1 ≡ None) xs → Each (λ x. (j : ℕ) → IsPlaced s (record a { address = j ∷ a.address }) x.0 x.1) xs
    go [] h = tt
    go (x ∷ xs) h = ((λ j. inr (subst (λ o. IsGiven s x.0 o) (sym h.0) tt)), go xs h.1)

-- no old children stand below
abbrev IsNewShape : Shape → Type 0
IsNewShape absent = Unit {0}
IsNewShape (waiting r v) = Unit {0}
IsNewShape (throwing x) = Unit {0}
IsNewShape (one_list m p) = p.old ≡ none
IsNewShape (two_lists p f) = (p.old ≡ none) × (f.old ≡ none)
IsNewShape (guarded p f) = (p.old ≡ none) × (f.old ≡ none)

new_body : (cs : Contexts) (c : ℕ) (b : Body) → IsNewShape (shape_of_body cs c None b)
new_body cs c (wait r v) = tt
new_body cs c (throw x) = tt
new_body cs c (ready es effects initials reads versions) = refl

new_component : (s : Sight) (cs : Contexts) (c : ℕ) (props : _) (given : Elements) (d : Option Component) → IsNewShape (shape_of_component s cs c props given None d)
new_component s cs c props given None = tt
new_component s cs c props given (Some d) = new_body cs c (body_of s.program d (inputs_at s cs props given None))

new_shape : (s : Sight) (cs : Contexts) (e : Element) → IsNewShape (shape_of s cs e None)
new_shape s cs elements.null = tt
new_shape s cs (elements.text t) = refl
new_shape s cs (elements.host n k attrs es) = refl
new_shape s cs (elements.comp c k ps es) = new_component s cs c ps es (component_at s.program c)
new_shape s cs (elements.list marked es) = refl
new_shape s cs (elements.boundary k f es) = (refl, refl)
new_shape s cs (elements.catcher k f es) = (refl, refl)
new_shape s cs (elements.provider c k x es) = refl

-- a component without an old node has a cause, and nothing else is evaluated
new_caused : (s : Sight) (a : Above) (cs : Contexts) (e : Element) → IsCaused (coming_here s a cs e None)
new_caused s a cs elements.null h = absurd (cc h)
new_caused s a cs (elements.text t) h = absurd (cc h)
new_caused s a cs (elements.host n k attrs es) h = absurd (cc h)
new_caused s a cs (elements.comp c k ps es) h = inl refl
new_caused s a cs (elements.list marked es) h = absurd (cc h)
new_caused s a cs (elements.boundary k f es) h = absurd (cc h)
new_caused s a cs (elements.catcher k f es) h = absurd (cc h)
new_caused s a cs (elements.provider c k x es) h = absurd (cc h)

new_founded : (s : Sight) (come : Comings) → IsFounded s come → (below : Contexts → Renders) (a : Above) (cs : Contexts) (e : Element) (shape : Shape) → IsNewShape shape
    → Each IsCaused (come_shape come below s a cs e None shape)
new_founded s come founded below a cs e absent h = tt
new_founded s come founded below a cs e (waiting r v) h = (new_caused s a cs e, tt)
new_founded s come founded below a cs e (throwing x) h = (new_caused s a cs e, tt)
new_founded s come founded below a cs e (one_list m p) h = (new_caused s a cs e, new_part s come founded below (above_with a s cs e None (below_node a.flag e None)) p h)
new_founded s come founded below a cs e (two_lists p f) h =
    let b = above_with a s cs e None (below_node a.flag e None) in
    let c = above_with a s cs e None a.flag in (
      new_caused s a cs e,
      boundary_comes IsCaused (is_untouched s (stood a.flag) e None) (is_wait (render_part below p))
          (come_part come below (record b { address = 0 ∷ a.address }) p) (come_part come below (record c { address = 1 ∷ a.address }) f)
          (λ _. new_part s come founded below (record b { address = 0 ∷ a.address }) p h.0) (new_part s come founded below (record c { address = 1 ∷ a.address }) f h.1),
    )
new_founded s come founded below a cs e (guarded p f) h =
    let b = above_with a s cs e None (below_node a.flag e None) in
    let c = above_with a s cs e None (once_caught a.flag) in (
      new_caused s a cs e,
      catcher_comes IsCaused (is_throw (render_part below p))
          (come_part come below (record b { address = 0 ∷ a.address }) p) (come_part come below (record c { address = 1 ∷ a.address }) f)
          (new_part s come founded below (record b { address = 0 ∷ a.address }) p h.0) (new_part s come founded below (record c { address = 1 ∷ a.address }) f h.1),
    )

-- If the old elements are given again

given_children : (s : Sight) (a : Above) (ns : Forest) → AllSettled s.program (known_by s) ns
    → Each (λ x. (j : ℕ) → IsPlaced s (record a { address = j ∷ a.address }) x.0 x.1) (zip (elements_in ns) (places ns))
given_children s a none settled = tt
given_children s a (vacant ns) settled = ((λ j. inr tt), given_children s a ns settled)
given_children s a (child x ns) settled = ((λ j. inr (refl, settled.0)), given_children s a ns settled.1)

-- a list of the old elements, given again
given_part : (s : Sight) (come : Comings) → IsFounded s come → (below : Contexts → Renders) (a : Above) (cs : Contexts) (es : List Element) (ns : Forest)
    → AllSettled s.program (known_by s) ns → elements_in ns ≡ es → Each IsCaused (come_part come below a (part cs es ns))
given_part s come founded below a cs es ns settled same =
    part_placed s come founded below a (part cs es ns)
    (subst (λ ds. Each (λ x. (j : ℕ) → IsPlaced s (record a { address = j ∷ a.address }) x.0 x.1) (zip ds (old_nodes ns ds))) same
    (subst (λ os. Each (λ x. (j : ℕ) → IsPlaced s (record a { address = j ∷ a.address }) x.0 x.1) (zip (elements_in ns) os)) (sym (matches_itself ns (settled_no_null s.program (known_by s) ns settled)))
    (given_children s a ns settled)))

-- what is not evaluated is caused
not_caused : (s : Sight) (a : Above) (cs : Contexts) (e : Element) (old : Option Node) → is_evaluated s cs e old ≡ false → IsCaused (coming_here s a cs e old)
not_caused s a cs e old h k = absurd (cc (h, k))

-- a node of one list, whose body is not evaluated, over its old elements
kept_list : (s : Sight) (come : Comings) → IsFounded s come → (below : Contexts → Renders) (a : Above) (cs ds : Contexts) (e : Element) (m : Mark) (ns fs : Forest) (n : Mark) (es : List Element) (olds : Forest)
    → has_cause s cs e (Some (node e m ns fs)) ≡ false → AllSettled s.program (known_by s) olds → elements_in olds ≡ es
    → Each IsCaused (come_shape come below s a cs e (Some (node e m ns fs)) (one_list n (part ds es olds)))
kept_list s come founded below a cs ds e m ns fs n es olds calm settled same = (
  not_caused s a cs e (Some (node e m ns fs)) (not_evaluated s cs e m ns fs calm),
  given_part s come founded below (above_with a s cs e (Some (node e m ns fs)) (below_node a.flag e (Some (node e m ns fs)))) ds es olds settled same,
)

-- a component that is called has a cause, and what is below it lies below one
called_founded : (s : Sight) (come : Comings) → IsFounded s come → (below : Contexts → Renders) (a : Above) (cs : Contexts) (e : Element) (old : Option Node) (shape : Shape)
    → has_cause s cs e old ≡ true → Each IsCaused (come_shape come below s a cs e old shape)
called_founded s come founded below a cs e old shape called =
    shape_below s come founded below a cs e old shape (λ h. inl called)
    (or_right a.below (has_cause s cs e old || is_retried s (stood a.flag) e old) (ap (λ b. b || is_retried s (stood a.flag) e old) called))

-- a component that is not called gives its old elements again
calm_shape : (s : Sight) (cs : Contexts) (c : ℕ) (key : _) (props : _) (given : Elements) (m : Mark) (ns fs : Forest) (i : Instance) → m ≡ of_instance i
    → IsBodyOf s.program (known_by s) c props given i (elements_in ns) → fs ≡ none → DoneBefore s.cut s.journal.updates → is_called s cs (Some i) ≡ false
    → shape_of s cs (elements.comp c key props given) (Some (node (elements.comp c key props given) m ns fs)) ≡ one_list m (part cs (elements_in ns) ns)
calm_shape s cs c key props given m ns fs i marked body none_there done calm =
    let both = or_fails (option_map_or (λ n. some_update (is_due s) s n i.initials) i.number true) (read_anew cs i.reads || refreshed (version_seen s) i.versions) calm in
    let undue : some_update (is_due s) s body.instance i.initials ≡ false = rw body.is_numbered at both.0 in
    rw marked
    (idle_shape s cs (elements.comp c key props given) (of_instance i) ns fs (i, refl, body, none_there)
    (committed_hooks s i body.instance body.is_numbered done undue) both.1)

component_founded : (s : Sight) (come : Comings) → IsFounded s come → (below : Contexts → Renders) (a : Above) (cs : Contexts) (c : ℕ) (key : _) (props : _) (given : Elements) (m : Mark) (ns fs : Forest)
    → DoneBefore s.cut s.journal.updates → (own : IsOwn s.program (known_by s) (elements.comp c key props given) m ns fs) → AllSettled s.program (known_by s) ns
    → (b : Bool) → is_called s cs (Some own.0) ≡ b
    → Each IsCaused (come_shape come below s a cs (elements.comp c key props given) (Some (node (elements.comp c key props given) m ns fs))
    (shape_of s cs (elements.comp c key props given) (Some (node (elements.comp c key props given) m ns fs))))
component_founded s come founded below a cs c key props given m ns fs done own settled true called =
    called_founded s come founded below a cs (elements.comp c key props given) (Some (node (elements.comp c key props given) m ns fs))
    (shape_of s cs (elements.comp c key props given) (Some (node (elements.comp c key props given) m ns fs))) (rw own.1 called)
component_founded s come founded below a cs c key props given m ns fs done own settled false called =
    subst (λ shape. Each IsCaused (come_shape come below s a cs (elements.comp c key props given) (Some (node (elements.comp c key props given) m ns fs)) shape))
    (sym (calm_shape s cs c key props given m ns fs own.0 own.1 own.2 own.3 done called))
    (kept_list s come founded below a cs cs (elements.comp c key props given) m ns fs m (elements_in ns) ns (rw own.1 called) settled refl)

-- a boundary that is shown, and one that is hidden
shown_founded : (s : Sight) (come : Comings) → IsFounded s come → (below : Contexts → Renders) (a : Above) (cs : Contexts) (key : _) (f : Element) (es : Elements) (m : Mark) (ns fs : Forest)
    → m ≡ of_boundary Shown → elements_in ns ≡ listed es → fs ≡ none → AllSettled s.program (known_by s) ns
    → Each IsCaused (come_shape come below s a cs (elements.boundary key f es) (Some (node (elements.boundary key f es) m ns fs)) (two_lists (part cs (listed es) ns) (part cs (f ∷ []) fs)))
shown_founded s come founded below a cs key f es m ns fs shown same empty settled =
    let e = elements.boundary key f es in
    let old : Option Node = Some (node e m ns fs) in
    let b = above_with a s cs e old (below_node a.flag e old) in
    let c = above_with a s cs e old a.flag in (
      not_caused s a cs e old refl,
      boundary_comes IsCaused (is_untouched s (stood a.flag) e old) (is_wait (render_part below (part cs (listed es) ns)))
          (come_part come below (record b { address = 0 ∷ a.address }) (part cs (listed es) ns)) (come_part come below (record c { address = 1 ∷ a.address }) (part cs (f ∷ []) fs))
          (λ _. given_part s come founded below (record b { address = 0 ∷ a.address }) cs (listed es) ns settled same)
          (new_part s come founded below (record c { address = 1 ∷ a.address }) (part cs (f ∷ []) fs) empty),
    )

hidden_founded : (s : Sight) (come : Comings) → IsFounded s come → (below : Contexts → Renders) (a : Above) (cs : Contexts) (key : _) (f : Element) (es : Elements) (m : Mark) (ns fs : Forest) (w : Awaits)
    → m ≡ of_boundary (Hidden w) → elements_in fs ≡ f ∷ [] → AllSettled s.program (known_by s) fs
    → (untouched : Bool) → is_untouched s (stood a.flag) (elements.boundary key f es) (Some (node (elements.boundary key f es) m ns fs)) ≡ untouched
    → Each IsCaused (come_shape come below s a cs (elements.boundary key f es) (Some (node (elements.boundary key f es) m ns fs)) (two_lists (part cs (listed es) ns) (part cs (f ∷ []) fs)))
hidden_founded s come founded below a cs key f es m ns fs w hidden same settled true kept =
    let e = elements.boundary key f es in
    let old : Option Node = Some (node e m ns fs) in
    let b = above_with a s cs e old (below_node a.flag e old) in
    let c = above_with a s cs e old a.flag in (
      not_caused s a cs e old refl,
      boundary_comes IsCaused (is_untouched s (stood a.flag) e old) (is_wait (render_part below (part cs (listed es) ns)))
          (come_part come below (record b { address = 0 ∷ a.address }) (part cs (listed es) ns)) (come_part come below (record c { address = 1 ∷ a.address }) (part cs (f ∷ []) fs))
          (λ tried. absurd (cc (kept, tried)))
          (given_part s come founded below (record c { address = 1 ∷ a.address }) cs (f ∷ []) fs settled same),
    )
hidden_founded s come founded below a cs key f es m ns fs w hidden same settled false tried =
    let e = elements.boundary key f es in
    let old : Option Node = Some (node e m ns fs) in
    let was : is_hidden m ≡ true = ap is_hidden hidden in
    let retried : is_retried s (stood a.flag) e old ≡ true = rw (was, tried) refl in
    shape_below s come founded below a cs e old (two_lists (part cs (listed es) ns) (part cs (f ∷ []) fs)) (not_caused s a cs e old refl)
    (or_right a.below (is_retried s (stood a.flag) e old) retried)

-- an error boundary that tries its children, and one that had caught a value
tried_founded : (s : Sight) (come : Comings) → IsFounded s come → (below : Contexts → Renders) (a : Above) (cs : Contexts) (key : _) (f : Element) (es : Elements) (m : Mark) (ns fs : Forest)
    → m ≡ of_catcher Fine → elements_in ns ≡ listed es → AllSettled s.program (known_by s) ns
    → Each IsCaused (come_shape come below s a cs (elements.catcher key f es) (Some (node (elements.catcher key f es) m ns fs)) (shape_of s cs (elements.catcher key f es) (Some (node (elements.catcher key f es) m ns fs))))
tried_founded s come founded below a cs key f es m ns fs fine same settled =
    let e = elements.catcher key f es in
    let old : Option Node = Some (node e m ns fs) in
    let b = above_with a s cs e old (below_node a.flag e old) in
    let c = above_with a s cs e old (once_caught a.flag) in
    let primary = part cs (listed es) ns in
    let second = part cs (f ∷ []) none in
    let before : old_caught old ≡ None = ap caught_in fine in
    let each : Each IsCaused (come_shape come below s a cs e old (guarded primary second)) = (
      not_caused s a cs e old refl,
      catcher_comes IsCaused (is_throw (render_part below primary))
          (come_part come below (record b { address = 0 ∷ a.address }) primary) (come_part come below (record c { address = 1 ∷ a.address }) second)
          (given_part s come founded below (record b { address = 0 ∷ a.address }) cs (listed es) ns settled same)
          (new_part s come founded below (record c { address = 1 ∷ a.address }) second refl),
    ) in
    subst (λ caught. Each IsCaused (come_shape come below s a cs e old (shape_of_catcher cs f es old caught))) (sym before) each

caught_founded : (s : Sight) (come : Comings) → IsFounded s come → (below : Contexts → Renders) (a : Above) (cs : Contexts) (key : _) (f : Element) (es : Elements) (m : Mark) (ns fs : Forest) (x : ℤ)
    → m ≡ of_catcher (Caught x) → elements_in fs ≡ f ∷ [] → AllSettled s.program (known_by s) fs
    → Each IsCaused (come_shape come below s a cs (elements.catcher key f es) (Some (node (elements.catcher key f es) m ns fs)) (shape_of s cs (elements.catcher key f es) (Some (node (elements.catcher key f es) m ns fs))))
caught_founded s come founded below a cs key f es m ns fs x caught same settled =
    let e = elements.catcher key f es in
    let old : Option Node = Some (node e m ns fs) in
    let before : old_caught old ≡ Some x = ap caught_in caught in
    subst (λ caught. Each IsCaused (come_shape come below s a cs e old (shape_of_catcher cs f es old caught))) (sym before)
    (kept_list s come founded below a cs cs e m ns fs (of_catcher (Caught x)) (f ∷ []) fs refl settled same)

given_founded : (s : Sight) (come : Comings) → IsFounded s come → (below : Contexts → Renders) (a : Above) (cs : Contexts) (e : Element) (m : Mark) (ns fs : Forest)
    → DoneBefore s.cut s.journal.updates → IsOwn s.program (known_by s) e m ns fs → AllSettled s.program (known_by s) ns → AllSettled s.program (known_by s) fs
    → Each IsCaused (come_shape come below s a cs e (Some (node e m ns fs)) (shape_of s cs e (Some (node e m ns fs))))
given_founded s come founded below a cs elements.null m ns fs done own kids second = tt
given_founded s come founded below a cs (elements.text t) m ns fs done own kids second =
    (not_caused s a cs (elements.text t) (Some (node (elements.text t) m ns fs)) refl, tt)
given_founded s come founded below a cs (elements.host n key attrs es) m ns fs done own kids second =
    kept_list s come founded below a cs cs (elements.host n key attrs es) m ns fs (of_host (old_host (Some (node (elements.host n key attrs es) m ns fs)))) (listed es) ns refl kids own.2
given_founded s come founded below a cs (elements.comp c key props given) m ns fs done own kids second =
    component_founded s come founded below a cs c key props given m ns fs done own kids (is_called s cs (Some own.0)) refl
given_founded s come founded below a cs (elements.list marked es) m ns fs done own kids second =
    kept_list s come founded below a cs cs (elements.list marked es) m ns fs plain (listed es) ns refl kids own.1
given_founded s come founded below a cs (elements.boundary key f es) m ns fs done (inl own) kids second =
    shown_founded s come founded below a cs key f es m ns fs own.0 own.1 own.2 kids
given_founded s come founded below a cs (elements.boundary key f es) m ns fs done (inr own) kids second =
    hidden_founded s come founded below a cs key f es m ns fs own.0 own.1 own.2 second
    (is_untouched s (stood a.flag) (elements.boundary key f es) (Some (node (elements.boundary key f es) m ns fs))) refl
given_founded s come founded below a cs (elements.catcher key f es) m ns fs done (inl own) kids second =
    tried_founded s come founded below a cs key f es m ns fs own.0 own.1 kids
given_founded s come founded below a cs (elements.catcher key f es) m ns fs done (inr own) kids second =
    caught_founded s come founded below a cs key f es m ns fs own.0 own.1 own.3 second
given_founded s come founded below a cs (elements.provider c key x es) m ns fs done own kids second =
    kept_list s come founded below a cs (slice_set cs c x) (elements.provider c key x es) m ns fs plain (listed es) ns refl kids own.1

settled_founded : (s : Sight) (come : Comings) → IsFounded s come → (below : Contexts → Renders) (a : Above) (cs : Contexts) (x : Node) → DoneBefore s.cut s.journal.updates
    → IsSettled s.program (known_by s) x → Each IsCaused (come_shape come below s a cs (element_of x) (Some x) (shape_of s cs (element_of x) (Some x)))
settled_founded s come founded below a cs (node e m ns fs) done settled = given_founded s come founded below a cs e m ns fs done settled.0 settled.1 settled.2

placed_founded : (s : Sight) (come : Comings) → IsFounded s come → (below : Contexts → Renders) (a : Above) (cs : Contexts) (e : Element) (old : Option Node) → DoneBefore s.cut s.journal.updates
    → IsPlaced s a e old → Each IsCaused (come_shape come below s a cs e old (shape_of s cs e old))
placed_founded s come founded below a cs e old done (inl h) =
    shape_below s come founded below a cs e old (shape_of s cs e old) (λ _. inr h) (ap (λ b. b || (has_cause s cs e old || is_retried s (stood a.flag) e old)) h)
placed_founded s come founded below a cs e None done (inr h) = new_founded s come founded below a cs e (shape_of s cs e None) (new_shape s cs e)
placed_founded s come founded below a cs e (Some x) done (inr h) =
    subst (λ d. Each IsCaused (come_shape come below s a cs d (Some x) (shape_of s cs d (Some x)))) (sym h.0) (settled_founded s come founded below a cs x done h.1)

comings_founded : (n : ℕ) (s : Sight) → DoneBefore s.cut s.journal.updates → IsFounded s (comings n s)
unfolding comings
comings_founded zero s done a cs e old placed = tt
comings_founded (suc n) s done a cs e old placed = placed_founded s (comings n s) (comings_founded n s done) (rendered n s) a cs e old done placed

root_given : (s : Sight) (old : Option Node) → IfSettled s.program (known_by s) old → IfSome old (λ x. element_of x ≡ root_element s.program) → IsGiven s (root_element s.program) old
root_given s None settled rooted = tt
root_given s (Some x) settled rooted = (sym rooted, settled)

-- Each place whose body is evaluated has a cause, or lies below one that has or that is tried again.
pub none_other : (s : Sight) (old : Option Node) → IfSettled s.program (known_by s) old → DoneBefore s.cut s.journal.updates → IfSome old (λ x. element_of x ≡ root_element s.program)
    → All (λ v. v.evaluated ≡ true → (v.caused ≡ true) ⊎ (v.below ≡ true)) (whole_comings s old)
unfolding whole_comings
none_other s old settled done rooted =
    all_of IsCaused (whole_comings s old)
    (comings_founded depth_limit s done (record { address = []; below = false; flag = above_root }) (default_contexts s.program) (root_element s.program) old (inr (root_given s old settled rooted)))

-- So the places whose bodies are evaluated are those that have a cause, some below one that has or that is tried again, and none twice.
pub are_evaluated : (s : Sight) (old : Option Node) → IfSettled s.program (known_by s) old → DoneBefore s.cut s.journal.updates → IfSome old (λ x. element_of x ≡ root_element s.program)
    → AreEvaluated s old
are_evaluated s old settled done rooted = record { each = causes_met s old; none_else = none_other s old settled done rooted; once = places_once s old; exact = places_exact s old rooted }
