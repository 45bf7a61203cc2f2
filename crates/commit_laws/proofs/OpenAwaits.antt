-- A render waits only for what has no value that it sees: so do the hidden boundaries that it leaves, those that it keeps hidden ones of before aside.
use Rattle.std.specs.List.{zip}
use Rattle.std.specs.Prelude.{Bool, List, None, Option, Some, [], false, is_some, map, nat_eq, nat_lt, option_and_then, position, refl, slice_set, suc, true, zero, ℕ, ℤ, ◌++◌, ◌<◌, ◌||◌, ◌∷◌, ◌≡◌, ◌≤◌, ◌⊎◌}
use Rattle.std.proofs.Common.{arith, inl, inr, subst, sym, ◌∙◌}
use Rattle.std.proofs.lemmas.Bool.Decides.{nat_tests}
use Rattle.rx_ast.specs.Syntax.{Component, components}
use Rattle.rx_base.specs.Awaits.{Awaits, awaits_where, resource_limit}
use Rattle.rx_base.specs.AwaitsLaws.{has-awaits_where, has-awaits_where_above}
use Rattle.rx_rules.specs.Bounds.{depth_bound}
use Rattle.rx_rules.specs.Names.{component_at, component_number, root_name}
use Rattle.rx_elem.specs.Compare.{node_at, old_nodes}
use Rattle.rx_elem.specs.Elements.{Element, Elements, gathered, listed}
use Rattle.rx_elem.specs.Identity.{Child, identified, identities_after, is_same_child}
use Rattle.rx_elem.specs.Trees.{Forest, Mark, Node, awaits_in, child, children_if, element_of, elements_in, fallback_if, is_caught, is_hidden, node, none, of_catcher, of_host, of_instance, old_caught, plain, vacant}
use Rattle.rx_catch.specs.declared.state.CatchState.TheVariants.{Caught}
use Rattle.rx_meaning.specs.Body.{Body, body_of, ready, throw, wait}
use Rattle.rx_meaning.specs.Fresh.{Contexts, Place, Places, Sight, all_made, before, default_contexts, depth_limit, empty, fresh, inputs_at, instance_after, made, old_host, old_instance, one_throws, one_waits, over, over_boundary, over_catcher, place, place_of, render_all, render_list, rendered, root_element, shape_of, shape_of_body, shape_of_catcher, shape_of_component, throws, version_seen, waits}
use Rattle.rx_queue.specs.Journal.{resolved_by}
use Rattle.rx_meaning.proofs.Depths.{ShapeFits, shape_fits}
use Rattle.rx_elem.proofs.Identities.{child_of}
use Rattle.rx_elem.proofs.Over.{over_children}
use Rattle.rx_elem.proofs.Deciding.{same_number}
use Rattle.commit_laws.proofs.BodyWaits.{body_waits}
use Rattle.commit_laws.proofs.CommitSettles.{root_found}
use Rattle.commit_laws.proofs.Leaving.{zero_is_null}
use Rattle.commit_laws.proofs.Naming.{AllNamed, HasComponents, Named, body_named, listed_named, some_got}
use Rattle.rx_meaning.specs.Settled.{IfHidden}
use Rattle.rx_meaning.specs.Levels.{Fits, body_depth, elements_depth}
use Rattle.rx_elem.specs.Elements as elements
use Rattle.rx_base.specs.Awaits as awaits

-- Sets of resources

-- none of these resources was resolved before the cut in the version that is seen
abbrev pub AreOpen : Sight → Awaits → Type 0
AreOpen s a = (r : ℕ) → awaits.has a r ≡ true → resolved_by s.cut s.journal r (version_seen s r) ≡ None

pub where_passes : (test : ℕ → Bool) (r : ℕ) → awaits.has (awaits_where test) r ≡ true → test r ≡ true
where_passes test r h = go (nat_lt r resource_limit) refl
  where
    go : (b : Bool) → nat_lt r resource_limit ≡ b → test r ≡ true
    go true e = let lt : r < resource_limit = grind (arith, nat_tests) in sym (has-awaits_where test r lt) ∙ h
    go false e = let late : resource_limit ≤ r = grind (arith, nat_tests) in absurd (cc (h, has-awaits_where_above test r late))

nothing_open : (s : Sight) → AreOpen s awaits.nothing
nothing_open s r h = absurd (cc h)

one_open : (s : Sight) (r : ℕ) → resolved_by s.cut s.journal r (version_seen s r) ≡ None → AreOpen s (awaits.one r)
one_open s r h q there =
    let same : r ≡ q = same_number r q (where_passes (nat_eq r) q there) in
    subst (λ (n : ℕ). resolved_by s.cut s.journal n (version_seen s n) ≡ None) same h

pub union_open : (s : Sight) (a b : Awaits) → AreOpen s a → AreOpen s b → AreOpen s (awaits.union a b)
union_open s a b h k r there = go (awaits.has a r) (awaits.has b r) refl refl (where_passes (λ q. awaits.has a q || awaits.has b q) r there)
  where
    go : (x y : Bool) → awaits.has a r ≡ x → awaits.has b r ≡ y → (x || y) ≡ true → resolved_by s.cut s.journal r (version_seen s r) ≡ None
    go true y e f g = h r e
    go false true e f g = k r f
    go false false e f g = absurd (cc g)

-- What a render leaves

-- A node that was rendered against this old one awaits what is open, and so do those below it; what a hidden boundary keeps is what it had, or nothing, as in a fallback that is made anew.
abbrev mutual
  pub Held : Sight → Option Node → Node → Type 0
  Held s old (node e m ns fs) =
      AreOpen s (awaits_in m)
      × IfHidden (is_hidden m) ((ns ≡ children_if old) ⊎ (ns ≡ none)) (AllHeld s (old_nodes (children_if old) (elements_in ns)) ns)
      × AllHeld s (old_nodes (fallback_if old) (elements_in fs)) fs

  pub AllHeld : Sight → List (Option Node) → Forest → Type 0
  AllHeld s olds none = Unit {0}
  AllHeld s [] (vacant ns) = AllHeld s [] ns
  AllHeld s (o ∷ olds) (vacant ns) = AllHeld s olds ns
  AllHeld s [] (child n ns) = Held s None n × AllHeld s [] ns
  AllHeld s (o ∷ olds) (child n ns) = Held s o n × AllHeld s olds ns

-- What holds without old nodes holds against any.

abbrev AllNone : List (Option Node) → Type 0
AllNone [] = Unit {0}
AllNone (None ∷ olds) = AllNone olds
AllNone (Some n ∷ olds) = ⊥

nothing_before : (all : List Child) (before es : List Element)
    → AllNone (map (option_and_then (node_at none)) (map (λ c. position (is_same_child c) all) (map child_of (zip (identities_after before es) es))))
nothing_before all before [] = tt
nothing_before all before (e ∷ es) = go (position (is_same_child _) all) (nothing_before all (before ++ e ∷ []) es)
  where
    go : (q : Option ℕ) → AllNone (map (option_and_then (node_at none)) (map (λ c. position (is_same_child c) all) (map child_of (zip (identities_after (before ++ e ∷ []) es) es))))
        → AllNone (option_and_then (node_at none) q ∷ map (option_and_then (node_at none)) (map (λ c. position (is_same_child c) all) (map child_of (zip (identities_after (before ++ e ∷ []) es) es))))
    go None rest = rest
    go (Some q) rest = rest

keeps_none : (s : Sight) (old : Option Node) (ns : Forest) (b : Bool) → IfHidden b ((ns ≡ none) ⊎ (ns ≡ none)) (AllHeld s (old_nodes none (elements_in ns)) ns)
    → (AllHeld s (old_nodes none (elements_in ns)) ns → AllHeld s (old_nodes (children_if old) (elements_in ns)) ns)
    → IfHidden b ((ns ≡ children_if old) ⊎ (ns ≡ none)) (AllHeld s (old_nodes (children_if old) (elements_in ns)) ns)
keeps_none s old ns true (inl x) f = inr x
keeps_none s old ns true (inr x) f = inr x
keeps_none s old ns false x f = f x

mutual
  any_held : (s : Sight) (old : Option Node) (n : Node) → Held s None n → Held s old n
  any_held s old (node e m ns fs) h = (
    h.0,
    keeps_none s old ns (is_hidden m) h.1
        (all_any_held s (old_nodes none (elements_in ns)) (old_nodes (children_if old) (elements_in ns)) ns (nothing_before (identified (elements_in none)) [] (elements_in ns))),
    all_any_held s (old_nodes none (elements_in fs)) (old_nodes (fallback_if old) (elements_in fs)) fs (nothing_before (identified (elements_in none)) [] (elements_in fs)) h.2,
  )

  all_any_held : (s : Sight) (were olds : List (Option Node)) (ns : Forest) → AllNone were → AllHeld s were ns → AllHeld s olds ns
  all_any_held s were olds none nothing h = tt
  all_any_held s [] [] (vacant ns) nothing h = all_any_held s [] [] ns nothing h
  all_any_held s [] (o ∷ olds) (vacant ns) nothing h = all_any_held s [] olds ns nothing h
  all_any_held s (None ∷ were) [] (vacant ns) nothing h = all_any_held s were [] ns nothing h
  all_any_held s (None ∷ were) (o ∷ olds) (vacant ns) nothing h = all_any_held s were olds ns nothing h
  all_any_held s (Some n ∷ were) olds (vacant ns) nothing h = absurd nothing
  all_any_held s [] [] (child n ns) nothing h = (h.0, all_any_held s [] [] ns nothing h.1)
  all_any_held s [] (o ∷ olds) (child n ns) nothing h = (any_held s o n h.0, all_any_held s [] olds ns nothing h.1)
  all_any_held s (None ∷ were) [] (child n ns) nothing h = (h.0, all_any_held s were [] ns nothing h.1)
  all_any_held s (None ∷ were) (o ∷ olds) (child n ns) nothing h = (any_held s o n h.0, all_any_held s were olds ns nothing h.1)
  all_any_held s (Some m ∷ were) olds (child n ns) nothing h = absurd nothing

-- what is known of a place, by what it gives
abbrev PlaceHolds : Sight → Element → Option Node → Place → Type 0
PlaceHolds s e old empty = e ≡ elements.null
PlaceHolds s e old (made n) = (element_of n ≡ e) × Held s old n
PlaceHolds s e old (waits a) = AreOpen s a
PlaceHolds s e old (throws x) = Unit {0}

abbrev PlacesHold : Sight → List Element → List (Option Node) → Places → Type 0
PlacesHold s es olds (all_made ns) = (elements_in ns ≡ es) × AllHeld s olds ns
PlacesHold s es olds (one_waits a) = AreOpen s a
PlacesHold s es olds (one_throws x) = Unit {0}

before_holds : (s : Sight) (e : Element) (o : Option Node) (es : List Element) (olds : List (Option Node)) (p : Place) (ps : Places) → PlaceHolds s e o p → PlacesHold s es olds ps
    → PlacesHold s (e ∷ es) (o ∷ olds) (before p ps)
before_holds s e o es olds empty (all_made ns) h l = (rw (h, l.0) refl, l.1)
before_holds s e o es olds empty (one_waits a) h l = l
before_holds s e o es olds empty (one_throws x) h l = tt
before_holds s e o es olds (made n) (all_made ns) h l = (rw (h.0, l.0) refl, (h.1, l.1))
before_holds s e o es olds (made n) (one_waits a) h l = l
before_holds s e o es olds (made n) (one_throws x) h l = tt
before_holds s e o es olds (waits a) ps h l = h
before_holds s e o es olds (throws x) ps h l = tt

abbrev BelowHolds : ℕ → Sight → Type 0
BelowHolds n s = (cs : Contexts) (e : Element) (old : Option Node) → Named s.program e → Fits n s.program e → PlaceHolds s e old (rendered n s cs e old)

-- as many old nodes as elements
abbrev pub Beside : List Element → List (Option Node) → Type 0
Beside [] olds = Unit {0}
Beside (e ∷ es) [] = ⊥
Beside (e ∷ es) (o ∷ olds) = Beside es olds

pub olds_beside : (ns : Forest) (all : List Child) (before es : List Element)
    → Beside es (map (option_and_then (node_at ns)) (map (λ c. position (is_same_child c) all) (map child_of (zip (identities_after before es) es))))
olds_beside ns all before [] = tt
olds_beside ns all before (e ∷ es) = olds_beside ns all (before ++ e ∷ []) es

all_hold : (n : ℕ) (s : Sight) → BelowHolds n s → (cs : Contexts) (es : List Element) (olds : List (Option Node)) → AllNamed s.program (gathered es)
    → elements_depth (body_depth n s.program) (gathered es) ≤ n → Beside es olds → PlacesHold s es olds (render_all (rendered n s cs) (zip es olds))
all_hold n s below cs [] olds named fits h = (refl, tt)
all_hold n s below cs (e ∷ es) [] named fits h = absurd h
all_hold n s below cs (e ∷ es) (o ∷ olds) named fits h =
    before_holds s e o es olds (rendered n s cs e o) (render_all (rendered n s cs) (zip es olds)) (below cs e o named.0 (omega arith))
    (all_hold n s below cs es olds named.1 (omega arith) h)

list_holds : (n : ℕ) (s : Sight) → BelowHolds n s → (cs : Contexts) (es : List Element) (old : Forest) → AllNamed s.program (gathered es)
    → elements_depth (body_depth n s.program) (gathered es) ≤ n → PlacesHold s es (old_nodes old es) (render_list (rendered n s cs) es old)
list_holds n s below cs es old named fits =
    all_hold n s below cs es (old_nodes old es) named fits (olds_beside old (identified (elements_in old)) [] es)

same_held : (s : Sight) (old : Forest) (es : List Element) (ns : Forest) → elements_in ns ≡ es → AllHeld s (old_nodes old es) ns → AllHeld s (old_nodes old (elements_in ns)) ns
same_held s old es ns same h = subst (λ (xs : List Element). AllHeld s (old_nodes old xs) ns) (sym same) h

-- a node over one list
over_holds : (s : Sight) (e : Element) (m : Mark) (old : Option Node) (es : List Element) (ps : Places) → is_caught m ≡ false → is_hidden m ≡ false → AreOpen s (awaits_in m)
    → PlacesHold s es (old_nodes (children_if old) es) ps → PlaceHolds s e old (over e m ps)
over_holds s e m old es (all_made ns) fine shown own h =
    subst (λ (n : Node). (element_of n ≡ e) × Held s old n) (sym (over_children e m ns fine)) (
      refl,
      (
        own,
        subst (λ (b : Bool). IfHidden b ((ns ≡ children_if old) ⊎ (ns ≡ none)) (AllHeld s (old_nodes (children_if old) (elements_in ns)) ns)) (sym shown)
            (same_held s (children_if old) es ns h.0 h.1),
        tt,
      ),
    )
over_holds s e m old es (one_waits a) fine shown own h = h
over_holds s e m old es (one_throws x) fine shown own h = tt

parts_hold : (s : Sight) (e f : Element) (es : List Element) (old : Option Node) (ps qs : Places) → PlacesHold s es (old_nodes (children_if old) es) ps
    → PlacesHold s (f ∷ []) (old_nodes (fallback_if old) (f ∷ [])) qs → PlaceHolds s e old (over_boundary e old ps qs)
parts_hold s e f es old (all_made ns) qs h l = (refl, (nothing_open s, same_held s (children_if old) es ns h.0 h.1, tt))
parts_hold s e f es old (one_waits a) (all_made fs) h l = (refl, (h, inl refl, same_held s (fallback_if old) (f ∷ []) fs l.0 l.1))
parts_hold s e f es old (one_waits a) (one_waits b) h l = union_open s a b h l
parts_hold s e f es old (one_waits a) (one_throws x) h l = tt
parts_hold s e f es old (one_throws x) qs h l = tt

-- an error boundary over its fallback
caught_holds : (s : Sight) (e f : Element) (x : ℤ) (old : Option Node) (qs : Places) → PlacesHold s (f ∷ []) (old_nodes (fallback_if old) (f ∷ [])) qs
    → PlaceHolds s e old (over e (of_catcher (Caught x)) qs)
caught_holds s e f x old (all_made fs) l = (refl, (nothing_open s, tt, same_held s (fallback_if old) (f ∷ []) fs l.0 l.1))
caught_holds s e f x old (one_waits a) l = l
caught_holds s e f x old (one_throws y) l = tt

-- a fallback that is made anew holds against any old one
anew_holds : (s : Sight) (f : Element) (old : Forest) (qs : Places) → PlacesHold s (f ∷ []) (old_nodes none (f ∷ [])) qs → PlacesHold s (f ∷ []) (old_nodes old (f ∷ [])) qs
anew_holds s f old (all_made fs) l =
    (l.0, all_any_held s (old_nodes none (f ∷ [])) (old_nodes old (f ∷ [])) fs (nothing_before (identified (elements_in none)) [] (f ∷ [])) l.1)
anew_holds s f old (one_waits a) l = l
anew_holds s f old (one_throws x) l = tt

guarded_hold : (s : Sight) (e f : Element) (es : List Element) (old : Option Node) (ps qs : Places) → PlacesHold s es (old_nodes (children_if old) es) ps
    → PlacesHold s (f ∷ []) (old_nodes none (f ∷ [])) qs → PlaceHolds s e old (over_catcher e ps qs)
guarded_hold s e f es old (all_made ns) qs h l = (refl, (nothing_open s, same_held s (children_if old) es ns h.0 h.1, tt))
guarded_hold s e f es old (one_waits a) qs h l = h
guarded_hold s e f es old (one_throws x) qs h l = caught_holds s e f x old qs (anew_holds s f (fallback_if old) qs l)

module _ (s : Sight) (some : HasComponents s.program) where
  comp_holds : (n : ℕ) → BelowHolds n s → (cs : Contexts) (c : ℕ) (key : _) (props : List ℤ) (given : Elements) (old : Option Node)
      → Named s.program (elements.comp c key props given) → Fits (suc n) s.program (elements.comp c key props given)
      → PlaceHolds s (elements.comp c key props given) old
      (place_of (rendered n s) (elements.comp c key props given) old (shape_of s cs (elements.comp c key props given) old))
  comp_holds n below cs c key props given old named fits =
      found (component_at s.program c) refl named.0 (shape_fits n s cs (elements.comp c key props given) old fits)
    where
      given_body : (d : Component) → component_at s.program c ≡ Some d → (b : Body) → body_of s.program d (inputs_at s cs props given (old_instance old)) ≡ b
          → ShapeFits n s.program (shape_of_body cs c old b)
          → PlaceHolds s (elements.comp c key props given) old (place_of (rendered n s) (elements.comp c key props given) old (shape_of_body cs c old b))
      given_body d there (wait r v) same fit = one_open s r (body_waits s c d there (inputs_at s cs props given (old_instance old)) refl r v same)
      given_body d there (throw x) same fit = tt
      given_body d there (ready es effects initials reads versions) same fit =
          over_holds s (elements.comp c key props given) (of_instance (instance_after c (old_instance old) initials reads versions effects)) old es
          (render_list (rendered n s cs) es (children_if old)) refl refl (nothing_open s)
          (list_holds n s below cs es (children_if old)
          (body_named s.program some d (inputs_at s cs props given (old_instance old)) (listed_named s.program given named.1) es effects initials reads versions same)
          fit)

      found : (d : Option Component) → component_at s.program c ≡ d → is_some d ≡ true → ShapeFits n s.program (shape_of_component s cs c props given old d)
          → PlaceHolds s (elements.comp c key props given) old (place_of (rendered n s) (elements.comp c key props given) old (shape_of_component s cs c props given old d))
      found None same h fit = absurd (cc h)
      found (Some d) same h fit = given_body d same (body_of s.program d (inputs_at s cs props given (old_instance old))) refl fit

  catcher_holds : (n : ℕ) → BelowHolds n s → (cs : Contexts) (key : _) (f : Element) (es : Elements) (old : Option Node) → Named s.program (elements.catcher key f es)
      → (caught : Option ℤ) → ShapeFits n s.program (shape_of_catcher cs f es old caught)
      → PlaceHolds s (elements.catcher key f es) old (place_of (rendered n s) (elements.catcher key f es) old (shape_of_catcher cs f es old caught))
  catcher_holds n below cs key f es old named None fit =
      guarded_hold s (elements.catcher key f es) f (listed es) old (render_list (rendered n s cs) (listed es) (children_if old)) (render_list (rendered n s cs) (f ∷ []) none)
      (list_holds n s below cs (listed es) (children_if old) (listed_named s.program es named.1) fit.0)
      (list_holds n s below cs (f ∷ []) none (named.0, tt) fit.1)
  catcher_holds n below cs key f es old named (Some x) fit =
      caught_holds s (elements.catcher key f es) f x old (render_list (rendered n s cs) (f ∷ []) (fallback_if old))
      (list_holds n s below cs (f ∷ []) (fallback_if old) (named.0, tt) fit)

  place_holds : (n : ℕ) → BelowHolds n s → (cs : Contexts) (e : Element) (old : Option Node) → Named s.program e → Fits (suc n) s.program e
      → PlaceHolds s e old (place (rendered n s) s cs e old)
  place_holds n below cs elements.null old named fits = refl
  place_holds n below cs (elements.text t) old named fits = (refl, (nothing_open s, tt, tt))
  place_holds n below cs (elements.host name key attrs es) old named fits =
      over_holds s (elements.host name key attrs es) (of_host (old_host old)) old (listed es) (render_list (rendered n s cs) (listed es) (children_if old)) refl refl (nothing_open s)
      (list_holds n s below cs (listed es) (children_if old) (listed_named s.program es named) (shape_fits n s cs (elements.host name key attrs es) old fits))
  place_holds n below cs (elements.comp c key props given) old named fits = comp_holds n below cs c key props given old named fits
  place_holds n below cs (elements.list marked es) old named fits =
      over_holds s (elements.list marked es) plain old (listed es) (render_list (rendered n s cs) (listed es) (children_if old)) refl refl (nothing_open s)
      (list_holds n s below cs (listed es) (children_if old) (listed_named s.program es named) (shape_fits n s cs (elements.list marked es) old fits))
  place_holds n below cs (elements.boundary key f es) old named fits =
      let parts = shape_fits n s cs (elements.boundary key f es) old fits in
      parts_hold s (elements.boundary key f es) f (listed es) old (render_list (rendered n s cs) (listed es) (children_if old)) (render_list (rendered n s cs) (f ∷ []) (fallback_if old))
      (list_holds n s below cs (listed es) (children_if old) (listed_named s.program es named.1) parts.0)
      (list_holds n s below cs (f ∷ []) (fallback_if old) (named.0, tt) parts.1)
  place_holds n below cs (elements.catcher key f es) old named fits =
      catcher_holds n below cs key f es old named (old_caught old) (shape_fits n s cs (elements.catcher key f es) old fits)
  place_holds n below cs (elements.provider c key x es) old named fits =
      over_holds s (elements.provider c key x es) plain old (listed es) (render_list (rendered n s (slice_set cs c x)) (listed es) (children_if old)) refl refl (nothing_open s)
      (list_holds n s below (slice_set cs c x) (listed es) (children_if old) (listed_named s.program es named) (shape_fits n s cs (elements.provider c key x es) old fits))

  rendered_holds : (n : ℕ) → BelowHolds n s
  unfolding rendered
  rendered_holds zero cs e old named fits = sym (zero_is_null s.program e fits)
  rendered_holds (suc n) cs e old named fits = place_holds n (rendered_holds n) cs e old named fits

-- The tree of a render awaits only what is open.
pub fresh_holds : (s : Sight) (old : Option Node) (new : Node) → depth_bound s.program ≤ depth_limit → fresh s old ≡ made new → Held s old new
unfolding fresh depth_bound
fresh_holds s old new deep gives =
    let root = root_found depth_limit s (default_contexts s.program) (component_number s.program root_name) None [] elements.none old new gives in
    let some : HasComponents s.program = some_got (components s.program) (component_number s.program root_name) root in
    go (rendered depth_limit s (default_contexts s.program) (root_element s.program) old) gives
    (rendered_holds s some depth_limit (default_contexts s.program) (root_element s.program) old (root, tt) (omega arith))
  where
    go : (p : Place) → p ≡ made new → PlaceHolds s (root_element s.program) old p → Held s old new
    go p same h = let x : PlaceHolds s (root_element s.program) old (made new) = rw same at h in x.1
