-- What is rendered grows out of the old tree.
use Rattle.std.specs.Prelude.{◌≡◌, ℕ, zero, suc, ◌≤◌, Bool, true, false, get_or, List, [], ◌∷◌, ◌++◌, ℤ, Option, Some, None, is_some, map, position, option_and_then, slice_get, slice_set, refl}
use Rattle.std.specs.List.{zip}
use Rattle.std.specs.Option.{option_flatten}
use Rattle.std.proofs.Common.{arith, sym, subst, ◌∙◌}
use Rattle.std.proofs.lemmas.Option.{none-some}
use Rattle.std.proofs.lemmas.List.Quantifiers.{position-Some}
use Rattle.rx_ast.specs.Syntax.{Component, Program, components}
use Rattle.rx_rules.specs.Names.{component_at, component_number, root_name}
use Rattle.rx_rules.specs.Bounds.{depth_bound}
use Rattle.rx_elem.specs.Elements.{Element, Elements, kind_of, same_kind, gathered, listed, is_present}
use Rattle.rx_elem.specs.Elements as elements
use Rattle.rx_elem.specs.Identity.{Child, identified, identities_after, is_same_child, same_identity}
use Rattle.rx_elem.specs.Trees.{Mark, of_instance, of_host, of_boundary, of_catcher, plain, Node, node, Forest, none, vacant, child, places, element_of, host_number, is_caught, is_host, elements_in, children_if, fallback_if, old_caught}
use Rattle.rx_catch.specs.declared.state.CatchState.TheVariants.{Caught, Fine}
use Rattle.rx_elem.specs.Compare.{node_at, old_nodes}
use Rattle.rx_meaning.specs.Body.{Body, body_of, ready, throw, wait}
use Rattle.rx_meaning.specs.Fresh.{Contexts, Place, Places, Sight, all_made, before, empty, fresh, inputs_at, instance_after, made, old_host, old_instance, one_throws, one_waits, over, over_boundary, over_catcher, place, place_of, render_all, render_list, rendered, shape_of, shape_of_body, shape_of_catcher, shape_of_component, throws, waits, default_contexts, depth_limit, root_element}
use Rattle.host_laws.specs.Commits.{HasNone, HasNumber, AreNumbered, AreNumbered_in}
use Rattle.host_laws.proofs.IdentityLaws.{both}
use Rattle.rx_elem.proofs.Equality.{same_kind-self}
use Rattle.rx_elem.proofs.Over.{over_children}
use Rattle.replay_laws.specs.Attributes.{AttributesApart}
use Rattle.rx_meaning.specs.Levels.{Fits, body_depth, elements_depth}
use Rattle.rx_meaning.proofs.Depths.{ShapeFits, shape_fits}
use Rattle.commit_laws.proofs.Naming.{HasComponents, some_got}
use Rattle.replay_laws.proofs.Naming.{AllNamed, Named, body_named, listed_named}
use Rattle.replay_laws.proofs.Growing.{MarkGrows, Grows, Grows_in}
use Rattle.replay_laws.proofs.OldLists.{IfOld, EachIn, children_find_themselves}
use Rattle.replay_laws.proofs.Fine.{is_hostlike, AttrsOwn, IsFine, AllFine, LacksFallback, NumberBelow, IsBelow, AllBelow, fine_no_null, same_hostlike}

-- what is known of an old node
abbrev pub IsOld : ℕ → Node → Type 0
IsOld next o = IsFine o × AreNumbered o × IsBelow next o

abbrev pub AllAreOld : ℕ → Forest → Type 0
AllAreOld next ns = AllFine ns × AreNumbered_in ns × AllBelow next ns

-- an old node is of the kind of an element
abbrev pub IfSameKind : Element → Option Node → Type 0
IfSameKind e None = Unit {0}
IfSameKind e (Some o) = same_kind (kind_of e) (kind_of (element_of o)) ≡ true

-- what a place gives grows out of its old node
abbrev pub PlaceGrows : ℕ → Element → Option Node → Place → Type 0
PlaceGrows next e o empty = e ≡ elements.null
PlaceGrows next e o (made x) = (element_of x ≡ e) × IsFine x × IsBelow next x × Grows next o x
PlaceGrows next e o (waits a) = Unit {0}
PlaceGrows next e o (throws x) = Unit {0}

abbrev PlacesGrow : ℕ → List Element → List (Option Node) → Places → Type 0
PlacesGrow next es os (all_made ns) = (elements_in ns ≡ es) × AllFine ns × AllBelow next ns × Grows_in next os ns
PlacesGrow next es os (one_waits a) = Unit {0}
PlacesGrow next es os (one_throws x) = Unit {0}

-- The old nodes of a list

-- each old node is one, and of the kind of its element
abbrev AllOld : ℕ → List Element → List (Option Node) → Type 0
AllOld next [] os = Unit {0}
AllOld next (e ∷ es) [] = ⊥
AllOld next (e ∷ es) (o ∷ os) = IfOld (IsOld next) o × IfSameKind e o × AllOld next es os

each_is_old : (next : ℕ) (ns : Forest) → AllAreOld next ns → EachIn (IsOld next) ns
each_is_old next none h = tt
each_is_old next (vacant ns) h = each_is_old next ns h
each_is_old next (child x ns) h = ((h.0.0, h.1.0, h.2.0), each_is_old next ns (h.0.1, h.1.1, h.2.1))

got_old : (next : ℕ) (ns : Forest) → EachIn (IsOld next) ns → (i : ℕ) → IfOld (IsOld next) (option_flatten (slice_get (places ns) i))
got_old next none h i = tt
got_old next (vacant ns) h zero = tt
got_old next (vacant ns) h (suc i) = got_old next ns h i
got_old next (child x ns) h zero = h.0
got_old next (child x ns) h (suc i) = got_old next ns h.1 i

-- the element of an old child is that of its node
abbrev IfElementIs : Element → Option Node → Type 0
IfElementIs e None = Unit {0}
IfElementIs e (Some x) = element_of x ≡ e

child_at : (d : Child) (before : List Element) (os : Forest) (q : ℕ)
    → IfElementIs (get_or (map (λ c. let d : Child = record { identity = c.0; element = c.1 } in d) (zip (identities_after before (elements_in os)) (elements_in os))) q d).element
    (option_flatten (slice_get (places os) q))
child_at d before none q = tt
child_at d before (vacant os) zero = tt
child_at d before (vacant os) (suc q) = child_at d (before ++ elements.null ∷ []) os q
child_at d before (child x os) zero = refl
child_at d before (child x os) (suc q) = child_at d (before ++ element_of x ∷ []) os q

-- a child is of the kind of its old node
pub kind_found : (os : Forest) (c : Child) (q : Option ℕ) → position (is_same_child c) (identified (elements_in os)) ≡ q → IfSameKind c.element (option_and_then (node_at os) q)
kind_found os c None h = tt
kind_found os c (Some q) h = go (node_at os q) (child_at c [] os q)
  where
    old : Child
    old = get_or (identified (elements_in os)) q c

    kinds : same_kind (kind_of c.element) (kind_of old.element) ≡ true
    kinds = (both (same_identity c.identity old.identity) (same_kind (kind_of c.element) (kind_of old.element))
        (position-Some (is_same_child c) (identified (elements_in os)) q c h).1).1

    go : (o : Option Node) → IfElementIs old.element o → IfSameKind c.element o
    go None same = tt
    go (Some x) same = subst (λ e. same_kind (kind_of c.element) (kind_of e) ≡ true) (sym same) kinds

old_found : (next : ℕ) (os : Forest) → AllAreOld next os → (q : Option ℕ) → IfOld (IsOld next) (option_and_then (node_at os) q)
old_found next os h None = tt
old_found next os h (Some q) = got_old next os (each_is_old next os h) q

all_old : (next : ℕ) (os : Forest) → AllAreOld next os → (before es : List Element)
    → AllOld next es (map (option_and_then (node_at os)) (map (λ c. position (is_same_child c) (identified (elements_in os)))
    (map (λ c. let d : Child = record { identity = c.0; element = c.1 } in d) (zip (identities_after before es) es))))
all_old next os h before [] = tt
all_old next os h before (e ∷ es) = (
  old_found next os h (position (is_same_child _) (identified (elements_in os))),
  kind_found os _ (position (is_same_child _) (identified (elements_in os))) refl,
  all_old next os h (before ++ e ∷ []) es,
)

children_old : (next : ℕ) (o : Option Node) → IfOld (IsOld next) o → AllAreOld next (children_if o)
children_old next None h = (tt, tt, tt)
children_old next (Some (node e m os gs)) h = (h.0.3, h.1.1, h.2.1)

fallback_old : (next : ℕ) (o : Option Node) → IfOld (IsOld next) o → AllAreOld next (fallback_if o)
fallback_old next None h = (tt, tt, tt)
fallback_old next (Some (node e m os gs)) h = (h.0.4, h.1.2, h.2.2)

-- What is kept grows out of itself

numbered_host_is : (e : Element) (m : Mark) → is_host m ≡ true → HasNumber e m → (n : ℕ) × (host_number m ≡ Some n)
numbered_host_is e (of_instance i) h k = absurd (cc)
numbered_host_is e (of_host None) h k = absurd k
numbered_host_is e (of_host (Some n)) h k = (n, refl)
numbered_host_is e (of_boundary s) h k = absurd (cc)
numbered_host_is e (of_catcher s) h k = absurd (cc)
numbered_host_is e plain h k = absurd (cc)

mark_itself : (next : ℕ) (e : Element) (m : Mark) (ns fs : Forest) → is_present e ≡ true → HasNumber e m → (b : Bool) → is_host m ≡ b
    → MarkGrows next e (host_number m) (Some (node e m ns fs)) b
mark_itself next e m ns fs present k true h = let number = numbered_host_is e m h k in (h, same_kind-self e present, number.0, number.1, number.1)
mark_itself next e m ns fs present k false h = h

mutual
  grows_itself : (next : ℕ) (x : Node) → IsOld next x → Grows next (Some x) x
  grows_itself next (node e m ns fs) h = (
    mark_itself next e m ns fs h.0.1 h.1.0 (is_host m) refl,
    subst (λ os. Grows_in next os ns) (sym (children_find_themselves ns (fine_no_null ns h.0.3))) (grow_themselves next ns (h.0.3, h.1.1, h.2.1)),
    subst (λ os. Grows_in next os fs) (sym (children_find_themselves fs (fine_no_null fs h.0.4))) (grow_themselves next fs (h.0.4, h.1.2, h.2.2)),
  )

  grow_themselves : (next : ℕ) (ns : Forest) → AllAreOld next ns → Grows_in next (places ns) ns
  grow_themselves next none h = tt
  grow_themselves next (vacant ns) h = grow_themselves next ns h
  grow_themselves next (child x ns) h = (grows_itself next x (h.0.0, h.1.0, h.2.0), grow_themselves next ns (h.0.1, h.1.1, h.2.1))

-- Marks

old_host_below : (next : ℕ) (o : Option Node) → IfOld (IsOld next) o → NumberBelow next (old_host o)
old_host_below next None h = tt
old_host_below next (Some (node e m os gs)) h = h.2.0

host_grows : (next : ℕ) (e : Element) (o : Option Node) → is_hostlike e ≡ true → IfOld (IsOld next) o → IfSameKind e o → MarkGrows next e (old_host o) o true
host_grows next e None h old kind = λ n same. absurd (none-some n same)
host_grows next e (Some (node e' m' os gs)) h old kind =
    let host : is_host m' ≡ true = old.0.0 ∙ sym (same_hostlike e e' kind) ∙ h in
    let number = numbered_host_is e' m' host old.1.0 in
    (host, kind, number.0, number.1, number.1)

other_grows : (next : ℕ) (e : Element) (number : Option ℕ) (o : Option Node) → is_hostlike e ≡ false → IfOld (IsOld next) o → IfSameKind e o → MarkGrows next e number o false
other_grows next e number None h old kind = tt
other_grows next e number (Some (node e' m' os gs)) h old kind = old.0.0 ∙ sym (same_hostlike e e' kind) ∙ h

-- Places

no_elements : (ns : Forest) → elements_in ns ≡ [] → ns ≡ none
no_elements none h = refl
no_elements (vacant ns) h = absurd (cc)
no_elements (child x ns) h = absurd (cc)

none_lacks : (e : Element) (m : Mark) → LacksFallback e m none
none_lacks elements.null m = tt
none_lacks (elements.text t) m = tt
none_lacks (elements.host n k attrs es) m = tt
none_lacks (elements.comp c k ps es) m = tt
none_lacks (elements.list marked es) m = tt
none_lacks (elements.boundary k f es) m = tt
none_lacks (elements.catcher k f es) m = λ fine. refl
none_lacks (elements.provider c k x es) m = tt

over_grows : (next : ℕ) (e : Element) (m : Mark) (o : Option Node) (es : List Element) (ps : Places) → is_caught m ≡ false → PlacesGrow next es (old_nodes (children_if o) es) ps
    → is_host m ≡ is_hostlike e → is_present e ≡ true → AttrsOwn e → ((ns : Forest) → elements_in ns ≡ es → HasNone e ns) → NumberBelow next (host_number m)
    → MarkGrows next e (host_number m) o (is_host m)
    → PlaceGrows next e o (over e m ps)
over_grows next e m o es (all_made ns) fine h host present own leaf low mark =
    subst (λ (x : Node). PlaceGrows next e o (made x)) (sym (over_children e m ns fine)) (
      refl,
      (host, present, own, h.1, tt, leaf ns h.0, none_lacks e m),
      (low, h.2, tt),
      (mark, subst (λ es. Grows_in next (old_nodes (children_if o) es) ns) (sym h.0) h.3, tt),
    )
over_grows next e m o es (one_waits a) fine h host present own leaf low mark = tt
over_grows next e m o es (one_throws x) fine h host present own leaf low mark = tt

boundary_grows : (next : ℕ) (key : _) (f : Element) (es : Elements) (o : Option Node) (ps qs : Places) → IfOld (IsOld next) o → IfSameKind (elements.boundary key f es) o
    → PlacesGrow next (listed es) (old_nodes (children_if o) (listed es)) ps → PlacesGrow next (f ∷ []) (old_nodes (fallback_if o) (f ∷ [])) qs
    → PlaceGrows next (elements.boundary key f es) o (over_boundary (elements.boundary key f es) o ps qs)
boundary_grows next key f es o (all_made ns) qs old kind h k = (
  refl,
  (refl, refl, tt, h.1, tt, tt, tt),
  (tt, h.2, tt),
  (
    other_grows next (elements.boundary key f es) None o refl old kind,
    subst (λ es. Grows_in next (old_nodes (children_if o) es) ns) (sym h.0) h.3,
    tt,
  ),
)
boundary_grows next key f es o (one_waits a) (all_made fs) old kind h k =
    let kept = children_old next o old in (
      refl,
      (refl, refl, tt, kept.0, k.1, tt, tt),
      (tt, kept.2, k.2),
      (
        other_grows next (elements.boundary key f es) None o refl old kind,
        subst (λ os. Grows_in next os (children_if o)) (sym (children_find_themselves (children_if o) (fine_no_null (children_if o) kept.0)))
            (grow_themselves next (children_if o) kept),
        subst (λ es. Grows_in next (old_nodes (fallback_if o) es) fs) (sym k.0) k.3,
      ),
    )
boundary_grows next key f es o (one_waits a) (one_waits b) old kind h k = tt
boundary_grows next key f es o (one_waits a) (one_throws x) old kind h k = tt
boundary_grows next key f es o (one_throws x) qs old kind h k = tt

-- an old error boundary that had caught nothing has no fallback
no_fallback : (next : ℕ) (key : _) (f : Element) (es : Elements) (o : Option Node) → IfOld (IsOld next) o → IfSameKind (elements.catcher key f es) o → old_caught o ≡ None → fallback_if o ≡ none
no_fallback next key f es None old kind fine = refl
no_fallback next key f es (Some (node elements.null m os gs)) old kind fine = absurd (cc kind)
no_fallback next key f es (Some (node (elements.text t) m os gs)) old kind fine = absurd (cc kind)
no_fallback next key f es (Some (node (elements.host n k attrs hs) m os gs)) old kind fine = absurd (cc kind)
no_fallback next key f es (Some (node (elements.comp c k ps hs) m os gs)) old kind fine = absurd (cc kind)
no_fallback next key f es (Some (node (elements.list marked hs) m os gs)) old kind fine = absurd (cc kind)
no_fallback next key f es (Some (node (elements.boundary k g hs) m os gs)) old kind fine = absurd (cc kind)
no_fallback next key f es (Some (node (elements.catcher k g hs) m os gs)) old kind fine = old.0.6 (has_not m fine)
  where
    has_not : (m : Mark) → old_caught (Some (node (elements.catcher k g hs) m os gs)) ≡ None → is_caught m ≡ false
    has_not (of_instance i) h = refl
    has_not (of_host n) h = refl
    has_not (of_boundary b) h = refl
    has_not (of_catcher Fine) h = refl
    has_not (of_catcher (Caught x)) h = absurd (cc h)
    has_not plain h = refl
no_fallback next key f es (Some (node (elements.provider c k x hs) m os gs)) old kind fine = absurd (cc kind)

-- an error boundary over its fallback
caught_grows : (next : ℕ) (key : _) (f : Element) (es : Elements) (x : ℤ) (o : Option Node) (qs : Places) → IfOld (IsOld next) o → IfSameKind (elements.catcher key f es) o
    → PlacesGrow next (f ∷ []) (old_nodes (fallback_if o) (f ∷ [])) qs
    → PlaceGrows next (elements.catcher key f es) o (over (elements.catcher key f es) (of_catcher (Caught x)) qs)
caught_grows next key f es x o (all_made fs) old kind k = (
  refl,
  (refl, refl, tt, tt, k.1, tt, λ fine. absurd (cc fine)),
  (tt, tt, k.2),
  (
    other_grows next (elements.catcher key f es) None o refl old kind,
    tt,
    subst (λ es. Grows_in next (old_nodes (fallback_if o) es) fs) (sym k.0) k.3,
  ),
)
caught_grows next key f es x o (one_waits a) old kind k = tt
caught_grows next key f es x o (one_throws y) old kind k = tt

guarded_grows : (next : ℕ) (key : _) (f : Element) (es : Elements) (o : Option Node) (ps qs : Places) → IfOld (IsOld next) o → IfSameKind (elements.catcher key f es) o → old_caught o ≡ None
    → PlacesGrow next (listed es) (old_nodes (children_if o) (listed es)) ps → PlacesGrow next (f ∷ []) (old_nodes none (f ∷ [])) qs
    → PlaceGrows next (elements.catcher key f es) o (over_catcher (elements.catcher key f es) ps qs)
guarded_grows next key f es o (all_made ns) qs old kind fine h k = (
  refl,
  (refl, refl, tt, h.1, tt, tt, λ same. refl),
  (tt, h.2, tt),
  (
    other_grows next (elements.catcher key f es) None o refl old kind,
    subst (λ es. Grows_in next (old_nodes (children_if o) es) ns) (sym h.0) h.3,
    tt,
  ),
)
guarded_grows next key f es o (one_waits a) qs old kind fine h k = tt
guarded_grows next key f es o (one_throws x) qs old kind fine h k =
    caught_grows next key f es x o qs old kind (subst (λ (g : Forest). PlacesGrow next (f ∷ []) (old_nodes g (f ∷ [])) qs) (sym (no_fallback next key f es o old kind fine)) k)

before_grows : (next : ℕ) (e : Element) (es : List Element) (o : Option Node) (os : List (Option Node)) (p : Place) (ps : Places) → PlaceGrows next e o p → PlacesGrow next es os ps
    → PlacesGrow next (e ∷ es) (o ∷ os) (before p ps)
before_grows next e es o os empty (all_made ns) h l = (rw (h, l.0) refl, l.1, l.2, l.3)
before_grows next e es o os empty (one_waits a) h l = tt
before_grows next e es o os empty (one_throws x) h l = tt
before_grows next e es o os (made x) (all_made ns) h l = (rw (h.0, l.0) refl, (h.1, l.1), (h.2, l.2), (h.3, l.3))
before_grows next e es o os (made x) (one_waits a) h l = tt
before_grows next e es o os (made x) (one_throws y) h l = tt
before_grows next e es o os (waits a) ps h l = tt
before_grows next e es o os (throws x) ps h l = tt

zero_is_null : (p : Program) (e : Element) → Fits zero p e → elements.null ≡ e
zero_is_null p elements.null h = refl
zero_is_null p (elements.text t) h = absurd (omega arith)
zero_is_null p (elements.host n key attrs es) h = absurd (omega arith)
zero_is_null p (elements.comp c key props es) h = absurd (omega arith)
zero_is_null p (elements.list marked es) h = absurd (omega arith)
zero_is_null p (elements.boundary key f es) h = absurd (omega arith)
zero_is_null p (elements.catcher key f es) h = absurd (omega arith)
zero_is_null p (elements.provider c key x es) h = absurd (omega arith)

module _ (next : ℕ) (s : Sight) (apart : AttributesApart s.program) (some : HasComponents s.program) where
  abbrev BelowGrows : ℕ → Type 0
  BelowGrows n =
      (cs : Contexts) (e : Element) (o : Option Node) → Named s.program e → Fits n s.program e → IfOld (IsOld next) o → IfSameKind e o
      → PlaceGrows next e o (rendered n s cs e o)

  all_grow : (n : ℕ) → BelowGrows n → (cs : Contexts) (es : List Element) (os : List (Option Node)) → AllNamed s.program (gathered es)
      → elements_depth (body_depth n s.program) (gathered es) ≤ n → AllOld next es os → PlacesGrow next es os (render_all (rendered n s cs) (zip es os))
  all_grow n below cs [] os named fits h = (refl, tt, tt, tt)
  all_grow n below cs (e ∷ es) [] named fits h = absurd h
  all_grow n below cs (e ∷ es) (o ∷ os) named fits h =
      before_grows next e es o os (rendered n s cs e o) (render_all (rendered n s cs) (zip es os)) (below cs e o named.0 (omega arith) h.0 h.1)
      (all_grow n below cs es os named.1 (omega arith) h.2)

  list_grows : (n : ℕ) → BelowGrows n → (cs : Contexts) (es : List Element) (os : Forest) → AllNamed s.program (gathered es)
      → elements_depth (body_depth n s.program) (gathered es) ≤ n → AllAreOld next os → PlacesGrow next es (old_nodes os es) (render_list (rendered n s cs) es os)
  list_grows n below cs es os named fits h = all_grow n below cs es (old_nodes os es) named fits (all_old next os h [] es)

  comp_grows : (n : ℕ) → BelowGrows n → (cs : Contexts) (c : ℕ) (key : _) (props : List ℤ) (given : Elements) (o : Option Node)
      → Named s.program (elements.comp c key props given) → Fits (suc n) s.program (elements.comp c key props given) → IfOld (IsOld next) o
      → IfSameKind (elements.comp c key props given) o
      → PlaceGrows next (elements.comp c key props given) o (place_of (rendered n s) (elements.comp c key props given) o (shape_of s cs (elements.comp c key props given) o))
  comp_grows n below cs c key props given o named fits old kind =
      found (component_at s.program c) refl named.0 (shape_fits n s cs (elements.comp c key props given) o fits)
    where
      given_body : (d : Component) → component_at s.program c ≡ Some d → (b : Body) → body_of s.program d (inputs_at s cs props given (old_instance o)) ≡ b
          → ShapeFits n s.program (shape_of_body cs c o b)
          → PlaceGrows next (elements.comp c key props given) o (place_of (rendered n s) (elements.comp c key props given) o (shape_of_body cs c o b))
      given_body d there (wait r v) same fit = tt
      given_body d there (throw x) same fit = tt
      given_body d there (ready es effects initials reads versions) same fit =
          over_grows next (elements.comp c key props given) (of_instance (instance_after c (old_instance o) initials reads versions effects)) o es (render_list (rendered n s cs) es (children_if o)) refl
          (list_grows n below cs es (children_if o)
          (body_named s.program some d (apart c d there) (inputs_at s cs props given (old_instance o)) (listed_named s.program given named.1) es effects initials reads versions same)
          fit (children_old next o old))
          refl refl tt (λ ns h. tt) tt (other_grows next (elements.comp c key props given) None o refl old kind)

      found : (d : Option Component) → component_at s.program c ≡ d → is_some d ≡ true → ShapeFits n s.program (shape_of_component s cs c props given o d)
          → PlaceGrows next (elements.comp c key props given) o (place_of (rendered n s) (elements.comp c key props given) o (shape_of_component s cs c props given o d))
      found None same h fit = absurd (cc h)
      found (Some d) same h fit = given_body d same (body_of s.program d (inputs_at s cs props given (old_instance o))) refl fit

  catcher_grows : (n : ℕ) → BelowGrows n → (cs : Contexts) (key : _) (f : Element) (es : Elements) (o : Option Node) → Named s.program (elements.catcher key f es)
      → IfOld (IsOld next) o → IfSameKind (elements.catcher key f es) o → (caught : Option ℤ) → old_caught o ≡ caught → ShapeFits n s.program (shape_of_catcher cs f es o caught)
      → PlaceGrows next (elements.catcher key f es) o (place_of (rendered n s) (elements.catcher key f es) o (shape_of_catcher cs f es o caught))
  catcher_grows n below cs key f es o named old kind None same fit =
      guarded_grows next key f es o (render_list (rendered n s cs) (listed es) (children_if o)) (render_list (rendered n s cs) (f ∷ []) none) old kind same
      (list_grows n below cs (listed es) (children_if o) (listed_named s.program es named.1) fit.0 (children_old next o old))
      (list_grows n below cs (f ∷ []) none (named.0, tt) fit.1 (tt, tt, tt))
  catcher_grows n below cs key f es o named old kind (Some x) same fit =
      caught_grows next key f es x o (render_list (rendered n s cs) (f ∷ []) (fallback_if o)) old kind
      (list_grows n below cs (f ∷ []) (fallback_if o) (named.0, tt) fit (fallback_old next o old))

  place_grows : (n : ℕ) → BelowGrows n → (cs : Contexts) (e : Element) (o : Option Node) → Named s.program e → Fits (suc n) s.program e → IfOld (IsOld next) o → IfSameKind e o
      → PlaceGrows next e o (place (rendered n s) s cs e o)
  place_grows n below cs elements.null o named fits old kind = refl
  place_grows n below cs (elements.text t) o named fits old kind =
      over_grows next (elements.text t) (of_host (old_host o)) o [] (all_made none) refl (refl, tt, tt, tt) refl refl tt no_elements
      (old_host_below next o old) (host_grows next (elements.text t) o refl old kind)
  place_grows n below cs (elements.host name key attrs es) o named fits old kind =
      over_grows next (elements.host name key attrs es) (of_host (old_host o)) o (listed es) (render_list (rendered n s cs) (listed es) (children_if o)) refl
      (list_grows n below cs (listed es) (children_if o) (listed_named s.program es named.1) (shape_fits n s cs (elements.host name key attrs es) o fits) (children_old next o old))
      refl refl named.0 (λ ns h. tt) (old_host_below next o old) (host_grows next (elements.host name key attrs es) o refl old kind)
  place_grows n below cs (elements.comp c key props given) o named fits old kind = comp_grows n below cs c key props given o named fits old kind
  place_grows n below cs (elements.list marked es) o named fits old kind =
      over_grows next (elements.list marked es) plain o (listed es) (render_list (rendered n s cs) (listed es) (children_if o)) refl
      (list_grows n below cs (listed es) (children_if o) (listed_named s.program es named) (shape_fits n s cs (elements.list marked es) o fits) (children_old next o old))
      refl refl tt (λ ns h. tt) tt (other_grows next (elements.list marked es) None o refl old kind)
  place_grows n below cs (elements.boundary key f es) o named fits old kind =
      let parts = shape_fits n s cs (elements.boundary key f es) o fits in
      boundary_grows next key f es o (render_list (rendered n s cs) (listed es) (children_if o)) (render_list (rendered n s cs) (f ∷ []) (fallback_if o)) old kind
      (list_grows n below cs (listed es) (children_if o) (listed_named s.program es named.1) parts.0 (children_old next o old))
      (list_grows n below cs (f ∷ []) (fallback_if o) (named.0, tt) parts.1 (fallback_old next o old))
  place_grows n below cs (elements.catcher key f es) o named fits old kind =
      catcher_grows n below cs key f es o named old kind (old_caught o) refl (shape_fits n s cs (elements.catcher key f es) o fits)
  place_grows n below cs (elements.provider c key x es) o named fits old kind =
      over_grows next (elements.provider c key x es) plain o (listed es) (render_list (rendered n s (slice_set cs c x)) (listed es) (children_if o)) refl
      (list_grows n below (slice_set cs c x) (listed es) (children_if o) (listed_named s.program es named)
      (shape_fits n s cs (elements.provider c key x es) o fits) (children_old next o old))
      refl refl tt (λ ns h. tt) tt (other_grows next (elements.provider c key x es) None o refl old kind)

  -- what is rendered grows out of the old node
  pub rendered_grows : (n : ℕ) → BelowGrows n
  unfolding rendered
  rendered_grows zero cs e o named fits old kind = sym (zero_is_null s.program e fits)
  rendered_grows (suc n) cs e o named fits old kind = place_grows n (rendered_grows n) cs e o named fits old kind

-- A whole tree

root_found : (n : ℕ) (s : Sight) (cs : Contexts) (c : ℕ) (key : _) (props : List ℤ) (given : Elements) (o : Option Node) (x : Node)
    → rendered n s cs (elements.comp c key props given) o ≡ made x → is_some (component_at s.program c) ≡ true
unfolding rendered
root_found zero s cs c key props given o x h = absurd (cc h)
root_found (suc n) s cs c key props given o x h = go (component_at s.program c) h
  where
    go : (d : Option Component) → place_of (rendered n s) (elements.comp c key props given) o (shape_of_component s cs c props given o d) ≡ made x → is_some d ≡ true
    go None k = absurd (cc k)
    go (Some d) k = refl

-- a render that gives a tree: the tree grows out of the old one
pub fresh_grows : (next : ℕ) (s : Sight) → depth_bound s.program ≤ depth_limit → AttributesApart s.program → (o : Option Node) (x : Node) → fresh s o ≡ made x
    → IfOld (IsOld next) o → IfSameKind (root_element s.program) o → PlaceGrows next (root_element s.program) o (made x)
unfolding fresh depth_bound
fresh_grows next s deep apart o x gives old kind =
    let root = root_found depth_limit s (default_contexts s.program) (component_number s.program root_name) None [] elements.none o x gives in
    let some : HasComponents s.program = some_got (components s.program) (component_number s.program root_name) root in
    subst (PlaceGrows next (root_element s.program) o) gives
    (rendered_grows next s apart some depth_limit (default_contexts s.program) (root_element s.program) o (root, tt) (omega arith) old kind)
