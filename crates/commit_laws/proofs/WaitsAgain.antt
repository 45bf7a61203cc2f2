-- A hidden boundary whose awaited resources have no value, and whose kept instances have the same values, waits for the same again, if no component may throw or no resource got its value since.
use Rattle.std.specs.List.{zip}
use Rattle.std.specs.Option.{option_flatten}
use Rattle.std.specs.Prelude.{Bool, List, None, Option, Some, [], false, length, map, nat_eq, nat_lt, option_and_then, position, refl, slice_get, slice_index_or, suc, true, zero, ℕ, ℤ, ◌++◌, ◌<◌, ◌||◌, ◌∷◌, ◌≡◌, ◌≤◌}
use Rattle.std.proofs.Common.{ap, arith, subst, sym, ◌∙◌}
use Rattle.std.proofs.lemmas.Bool.Decides.{nat_tests}
use Rattle.rx_ast.specs.Syntax.{Component}
use Rattle.rx_base.specs.Awaits.{Awaits, awaits_where, resource_limit}
use Rattle.rx_base.specs.AwaitsLaws.{has-awaits_where, has-awaits_where_above}
use Rattle.rx_rules.specs.Bounds.{may_throw_in}
use Rattle.rx_rules.specs.Names.{component_at, resources}
use Rattle.rx_elem.specs.Compare.{node_at, old_nodes}
use Rattle.rx_elem.specs.Elements.{Element, Elements, listed}
use Rattle.rx_elem.specs.Identity.{Child, identified, identities_after, is_same_child}
use Rattle.rx_elem.specs.Trees.{Forest, Mark, Node, child, children_if, elements_in, fallback_if, node, none, of_boundary, of_catcher, of_host, of_instance, old_caught, places, plain, vacant}
use Rattle.rx_meaning.specs.Body.{Body, Inputs, body_of, ready, throw, wait}
use Rattle.rx_meaning.specs.Fresh.{Contexts, Part, Place, Places, Shape, Sight, absent, all_made, before, empty, guarded, inputs_at, made, old_instance, one_list, one_throws, one_waits, over, over_boundary, over_catcher, place_of, render_all, render_part, rendered, resources_seen, shape_of, shape_of_body, shape_of_catcher, shape_of_component, throwing, throws, two_lists, values_of, version_seen, versions_seen, waiting, waits}
use Rattle.commit_laws.proofs.BodyLaw.{BodyAgain, body_again}
use Rattle.commit_laws.proofs.NeverThrows.{AreNoThrow, IsNoThrow, NeverThrows, before_calm, guarded_calm, never_throws, over_calm, parts_calm, rendered_calm, shape_calm}
use Rattle.commit_laws.proofs.Versions.{values_kept}
use Rattle.commit_laws.specs.HiddenWaits.{later_sight}
use Rattle.rx_queue.specs.Journal.{resolutions_by, values_at}
use Rattle.rx_elem.proofs.Identities.{child_of}
use Rattle.rx_meaning.specs.Again.{AllValuesAgree, AreUnresolved, ValuesAgree, WaitsAreSmall}
use Rattle.rx_meaning.specs.Settled.{HasValuesOf}
use Rattle.rx_elem.specs.Elements as elements
use Rattle.rx_base.specs.Awaits as awaits
use Rattle.rx_elem.proofs.Deciding.{or_left, or_right}

-- What stays the same

-- each instance of a tree that may be missing has the same values at two sights
abbrev pub IfValuesAgree : Sight → Sight → Option Node → Type 0
IfValuesAgree s t None = Unit {0}
IfValuesAgree s t (Some n) = ValuesAgree s t n

-- all of these are numbers of resources
abbrev pub AreResources : Awaits → Type 0
AreResources a = (r : ℕ) → awaits.has a r ≡ true → r < resource_limit

-- a place neither waits nor throws
abbrev pub IsNoWait : Place → Type 0
IsNoWait empty = Unit {0}
IsNoWait (made n) = Unit {0}
IsNoWait (waits a) = ⊥
IsNoWait (throws x) = ⊥

-- none of some places waits or throws
abbrev pub AreNoWait : Places → Type 0
AreNoWait (all_made ns) = Unit {0}
AreNoWait (one_waits a) = ⊥
AreNoWait (one_throws x) = ⊥

-- what waited still waits for the same, if none of that has a value, and what didn't wait doesn't; and nothing throws
abbrev pub WaitsAgain : Sight → Place → Place → Type 0
WaitsAgain t empty q = IsNoWait q
WaitsAgain t (made n) q = IsNoWait q
WaitsAgain t (waits a) q = AreResources a × IsNoThrow q × (AreUnresolved t a → q ≡ waits a)
WaitsAgain t (throws x) q = ⊥

-- the same for the places of a list
abbrev pub AllWaitAgain : Sight → Places → Places → Type 0
AllWaitAgain t (all_made ns) qs = AreNoWait qs
AllWaitAgain t (one_waits a) qs = AreResources a × AreNoThrow qs × (AreUnresolved t a → qs ≡ one_waits a)
AllWaitAgain t (one_throws x) qs = ⊥

-- Sets of resources

where_small : (test : ℕ → Bool) → AreResources (awaits_where test)
where_small test r h = go (nat_lt r resource_limit) refl
  where
    go : (b : Bool) → nat_lt r resource_limit ≡ b → r < resource_limit
    go true e = grind (arith, nat_tests)
    go false e = let late : resource_limit ≤ r = grind (arith, nat_tests) in absurd (cc (h, has-awaits_where_above test r late))

left_unresolved : (t : Sight) (a b : Awaits) → AreResources a → AreUnresolved t (awaits.union a b) → AreUnresolved t a
left_unresolved t a b small h r there =
    h r (has-awaits_where (λ q. awaits.has a q || awaits.has b q) r (small r there) ∙ or_left (awaits.has a r) (awaits.has b r) there)

right_unresolved : (t : Sight) (a b : Awaits) → AreResources b → AreUnresolved t (awaits.union a b) → AreUnresolved t b
right_unresolved t a b small h r there =
    h r (has-awaits_where (λ q. awaits.has a q || awaits.has b q) r (small r there) ∙ or_right (awaits.has a r) (awaits.has b r) there)

one_unresolved : (t : Sight) (r : ℕ) → r < resource_limit → AreUnresolved t (awaits.one r) → slice_index_or (resources_seen t) r None ≡ None
one_unresolved t r lt h = let itself : nat_eq r r ≡ true = grind (arith, nat_tests) in h r (has-awaits_where (nat_eq r) r lt ∙ itself)

-- Places and lists

again_calm : (t : Sight) (ps qs : Places) → AllWaitAgain t ps qs → AreNoThrow qs
again_calm t (all_made ns) (all_made ms) h = tt
again_calm t (all_made ns) (one_waits b) h = tt
again_calm t (all_made ns) (one_throws y) h = h
again_calm t (one_waits a) qs h = h.1
again_calm t (one_throws x) qs h = absurd h

before_again : (t : Sight) (p q : Place) (ps qs : Places) → WaitsAgain t p q → AllWaitAgain t ps qs → AllWaitAgain t (before p ps) (before q qs)
before_again t empty empty (all_made ns) (all_made ms) h k = tt
before_again t empty (made y) (all_made ns) (all_made ms) h k = tt
before_again t (made x) empty (all_made ns) (all_made ms) h k = tt
before_again t (made x) (made y) (all_made ns) (all_made ms) h k = tt
before_again t empty q (all_made ns) (one_waits b) h k = absurd k
before_again t (made x) q (all_made ns) (one_waits b) h k = absurd k
before_again t empty q (all_made ns) (one_throws b) h k = absurd k
before_again t (made x) q (all_made ns) (one_throws b) h k = absurd k
before_again t empty (waits b) (all_made ns) (all_made ms) h k = absurd h
before_again t (made x) (waits b) (all_made ns) (all_made ms) h k = absurd h
before_again t empty (throws b) (all_made ns) (all_made ms) h k = absurd h
before_again t (made x) (throws b) (all_made ns) (all_made ms) h k = absurd h
before_again t empty empty (one_waits a) qs h k = (k.0, before_calm empty qs tt k.1, λ u. rw (k.2 u) refl)
before_again t empty (made y) (one_waits a) qs h k = (k.0, before_calm (made y) qs tt k.1, λ u. rw (k.2 u) refl)
before_again t empty (waits b) (one_waits a) qs h k = absurd h
before_again t empty (throws b) (one_waits a) qs h k = absurd h
before_again t (made x) empty (one_waits a) qs h k = (k.0, before_calm empty qs tt k.1, λ u. rw (k.2 u) refl)
before_again t (made x) (made y) (one_waits a) qs h k = (k.0, before_calm (made y) qs tt k.1, λ u. rw (k.2 u) refl)
before_again t (made x) (waits b) (one_waits a) qs h k = absurd h
before_again t (made x) (throws b) (one_waits a) qs h k = absurd h
before_again t empty q (one_throws y) qs h k = absurd k
before_again t (made x) q (one_throws y) qs h k = absurd k
before_again t (waits a) q ps qs h k = (h.0, before_calm q qs h.1 (again_calm t ps qs k), λ u. rw (h.2 u) refl)
before_again t (throws x) q ps qs h k = absurd h

over_again : (t : Sight) (e : Element) (m : Mark) (ps qs : Places) → AllWaitAgain t ps qs → WaitsAgain t (over e m ps) (over e m qs)
over_again t e m (all_made ns) (all_made ms) h = tt
over_again t e m (all_made ns) (one_waits b) h = absurd h
over_again t e m (all_made ns) (one_throws b) h = absurd h
over_again t e m (one_waits a) qs h = (h.0, over_calm e m qs h.1, λ u. rw (h.2 u) refl)
over_again t e m (one_throws x) qs h = absurd h

-- A boundary that came out with a node does so again, even if its children wait for something else by now.
parts_again : (t : Sight) (e : Element) (old : Option Node) (ps qs ps' qs' : Places) → AllWaitAgain t ps ps' → AllWaitAgain t qs qs'
    → WaitsAgain t (over_boundary e old ps qs) (over_boundary e old ps' qs')
parts_again t e old (all_made ns) qs (all_made ms) qs' h k = tt
parts_again t e old (all_made ns) qs (one_waits a) qs' h k = absurd h
parts_again t e old (all_made ns) qs (one_throws a) qs' h k = absurd h
parts_again t e old (one_waits a) (all_made fs) (all_made ms) qs' h k = tt
parts_again t e old (one_waits a) (all_made fs) (one_waits c) (all_made gs) h k = tt
parts_again t e old (one_waits a) (all_made fs) (one_waits c) (one_waits d) h k = absurd k
parts_again t e old (one_waits a) (all_made fs) (one_waits c) (one_throws d) h k = absurd k
parts_again t e old (one_waits a) (all_made fs) (one_throws c) qs' h k = absurd h.1
parts_again t e old (one_waits a) (one_waits b) ps' qs' h k = (
  where_small (λ r. awaits.has a r || awaits.has b r),
  parts_calm e old ps' qs' h.1 k.1,
  λ u. rw (h.2 (left_unresolved t a b h.0 u), k.2 (right_unresolved t a b k.0 u)) refl,
)
parts_again t e old (one_waits a) (one_throws b) ps' qs' h k = absurd k
parts_again t e old (one_throws x) qs ps' qs' h k = absurd h

-- So does an error boundary, as nothing throws.
guarded_again : (t : Sight) (e : Element) (ps qs ps' qs' : Places) → AllWaitAgain t ps ps' → AllWaitAgain t qs qs' → WaitsAgain t (over_catcher e ps qs) (over_catcher e ps' qs')
guarded_again t e (all_made ns) qs (all_made ms) qs' h k = tt
guarded_again t e (all_made ns) qs (one_waits a) qs' h k = absurd h
guarded_again t e (all_made ns) qs (one_throws a) qs' h k = absurd h
guarded_again t e (one_waits a) qs ps' qs' h k = (h.0, guarded_calm e ps' qs' h.1 (again_calm t qs qs' k), λ u. rw (h.2 u) refl)
guarded_again t e (one_throws x) qs ps' qs' h k = absurd h

-- Old nodes

abbrev OldsAgree : Sight → Sight → List Element → List (Option Node) → Type 0
OldsAgree s t [] olds = Unit {0}
OldsAgree s t (e ∷ es) [] = ⊥
OldsAgree s t (e ∷ es) (o ∷ olds) = IfValuesAgree s t o × OldsAgree s t es olds

got_agrees : (s t : Sight) (ns : Forest) → AllValuesAgree s t ns → (q : ℕ) → IfValuesAgree s t (option_flatten (slice_get (places ns) q))
got_agrees s t none h q = tt
got_agrees s t (vacant ns) h zero = tt
got_agrees s t (vacant ns) h (suc q) = got_agrees s t ns h q
got_agrees s t (child n ns) h zero = h.0
got_agrees s t (child n ns) h (suc q) = got_agrees s t ns h.1 q

node_agrees : (s t : Sight) (ns : Forest) → AllValuesAgree s t ns → (q : Option ℕ) → IfValuesAgree s t (option_and_then (node_at ns) q)
node_agrees s t ns h None = tt
node_agrees s t ns h (Some q) = got_agrees s t ns h q

olds_agree : (s t : Sight) (ns : Forest) → AllValuesAgree s t ns → (all : List Child) (before es : List Element)
    → OldsAgree s t es (map (option_and_then (node_at ns)) (map (λ c. position (is_same_child c) all) (map child_of (zip (identities_after before es) es))))
olds_agree s t ns h all before [] = tt
olds_agree s t ns h all before (e ∷ es) = (node_agrees s t ns h (position (is_same_child _) all), olds_agree s t ns h all (before ++ e ∷ []) es)

children_agree : (s t : Sight) (old : Option Node) → IfValuesAgree s t old → AllValuesAgree s t (children_if old)
children_agree s t None h = tt
children_agree s t (Some (node e m ns fs)) h = h.1

fallback_agrees : (s t : Sight) (old : Option Node) → IfValuesAgree s t old → AllValuesAgree s t (fallback_if old)
fallback_agrees s t None h = tt
fallback_agrees s t (Some (node e m ns fs)) h = h.2

olds_hooks : (s t : Sight) (old : Option Node) → IfValuesAgree s t old
    → option_and_then (values_of s) (old_instance old) ≡ option_and_then (values_of t) (old_instance old)
olds_hooks s t None h = refl
olds_hooks s t (Some (node e (of_instance i) ns fs)) h = h.0
olds_hooks s t (Some (node e (of_host n) ns fs)) h = refl
olds_hooks s t (Some (node e plain ns fs)) h = refl
olds_hooks s t (Some (node e (of_boundary b) ns fs)) h = refl
olds_hooks s t (Some (node e (of_catcher c) ns fs)) h = refl

-- Rendering

-- a shape at the other sight: the same, unless what its body waits for has a value
abbrev ShapeAgain : Sight → Shape → Shape → Type 0
ShapeAgain t absent q = q ≡ absent
ShapeAgain t (waiting r v) q = (r < resource_limit) × (slice_index_or (resources_seen t) r None ≡ None → q ≡ waiting r v)
ShapeAgain t (throwing x) q = q ≡ throwing x
ShapeAgain t (one_list m p) q = q ≡ one_list m p
ShapeAgain t (two_lists p f) q = q ≡ two_lists p f
ShapeAgain t (guarded p f) q = q ≡ guarded p f

module _ (s : Sight) (j : _) (l : _) (c : _) (small : WaitsAreSmall s.program) (same_versions : versions_seen s ≡ versions_seen (later_sight s j l c))
    (more : HasValuesOf (resolutions_by s.cut s.journal) (resolutions_by c j)) where
  -- the other sight
  abbrev later : Sight
  later = later_sight s j l c

  -- resources keep their values in the versions that both see
  resources_kept : (r : ℕ) (x : ℤ) → slice_index_or (resources_seen s) r None ≡ Some x → slice_index_or (resources_seen later) r None ≡ Some x
  resources_kept r x h =
      subst (λ (vs : List ℕ). slice_index_or (values_at (resolutions_by c j) vs) r None ≡ Some x) same_versions
      (values_kept (resolutions_by s.cut s.journal) (resolutions_by c j) more (version_seen s) (length (resources s.program)) r x h)

  shape_of_again : (cs : Contexts) (k : ℕ) (old : Option Node) (a b : Body) → ((r v : ℕ) → a ≡ wait r v → r < resource_limit)
      → BodyAgain s.program (record { props = []; children = []; hooks = None; contexts = []; versions = []; resources = resources_seen s }) (resources_seen later) resources_kept a b
      → ShapeAgain later (shape_of_body cs k old a) (shape_of_body cs k old b)
  shape_of_again cs k old (wait r v) b lt h = (lt r v refl, λ none. rw (h none) refl)
  shape_of_again cs k old (throw x) b lt h = rw h refl
  shape_of_again cs k old (ready es effects initials reads versions) b lt h = rw h refl

  found_again : (cs : Contexts) (k : ℕ) (props : List ℤ) (given : Elements) (old : Option Node) (d : Component) → component_at s.program k ≡ Some d → IfValuesAgree s later old
      → ShapeAgain later (shape_of_body cs k old (body_of s.program d (inputs_at s cs props given (old_instance old)))) (shape_of_body cs k old (body_of s.program d (inputs_at later cs props given (old_instance old))))
  found_again cs k props given old d there agree =
      shape_of_again cs k old (body_of s.program d first) (body_of s.program d (inputs_at later cs props given (old_instance old)))
      (λ r v same. small k d first r v there same)
      (go (option_and_then (values_of later) (old_instance old)) (versions_seen later) (olds_hooks s later old agree) same_versions
      (body_again s.program first (resources_seen later) resources_kept d))
    where
      first : Inputs
      first = inputs_at s cs props given (old_instance old)

      go : (h : Option (List ℤ)) (vs : List ℕ) → option_and_then (values_of s) (old_instance old) ≡ h → versions_seen s ≡ vs
          → BodyAgain s.program first (resources_seen later) resources_kept (body_of s.program d first) (body_of s.program d (record first { resources = resources_seen later }))
          → BodyAgain s.program first (resources_seen later) resources_kept (body_of s.program d first)
          (body_of s.program d (record { props = props; children = listed given; hooks = h; contexts = cs; versions = vs; resources = resources_seen later }))
      go h vs same also x =
          subst (λ (w : List ℕ). BodyAgain s.program first (resources_seen later) resources_kept (body_of s.program d first)
          (body_of s.program d (record { props = props; children = listed given; hooks = h; contexts = cs; versions = w; resources = resources_seen later }))) also
          (subst (λ (y : Option (List ℤ)). BodyAgain s.program first (resources_seen later) resources_kept (body_of s.program d first)
          (body_of s.program d (record { props = props; children = listed given; hooks = y; contexts = cs; versions = versions_seen s; resources = resources_seen later }))) same x)

  comp_again : (cs : Contexts) (k : ℕ) (props : List ℤ) (given : Elements) (old : Option Node) → IfValuesAgree s later old → (d : Option Component) → component_at s.program k ≡ d
      → ShapeAgain later (shape_of_component s cs k props given old d) (shape_of_component later cs k props given old d)
  comp_again cs k props given old agree None there = refl
  comp_again cs k props given old agree (Some d) there = found_again cs k props given old d there agree

  catcher_again : (cs : Contexts) (f : Element) (es : Elements) (old : Option Node) (caught : Option ℤ) → ShapeAgain later (shape_of_catcher cs f es old caught) (shape_of_catcher cs f es old caught)
  catcher_again cs f es old None = refl
  catcher_again cs f es old (Some x) = refl

  shape_again : (cs : Contexts) (e : Element) (old : Option Node) → IfValuesAgree s later old → ShapeAgain later (shape_of s cs e old) (shape_of later cs e old)
  shape_again cs elements.null old h = refl
  shape_again cs (elements.text x) old h = refl
  shape_again cs (elements.host n key attrs es) old h = refl
  shape_again cs (elements.comp k key props given) old h = comp_again cs k props given old h (component_at s.program k) refl
  shape_again cs (elements.list marked es) old h = refl
  shape_again cs (elements.boundary key f es) old h = refl
  shape_again cs (elements.catcher key f es) old h = catcher_again cs f es old (old_caught old)
  shape_again cs (elements.provider k key x es) old h = refl

  abbrev BelowAgain : ℕ → Type 0
  BelowAgain n = (cs : Contexts) (e : Element) (old : Option Node) → IfValuesAgree s later old → WaitsAgain later (rendered n s cs e old) (rendered n later cs e old)

  all_wait_again : (n : ℕ) → BelowAgain n → (cs : Contexts) (es : List Element) (olds : List (Option Node)) → OldsAgree s later es olds
      → AllWaitAgain later (render_all (rendered n s cs) (zip es olds)) (render_all (rendered n later cs) (zip es olds))
  all_wait_again n below cs [] olds h = tt
  all_wait_again n below cs (e ∷ es) [] h = absurd h
  all_wait_again n below cs (e ∷ es) (o ∷ olds) h =
      before_again later (rendered n s cs e o) (rendered n later cs e o) (render_all (rendered n s cs) (zip es olds)) (render_all (rendered n later cs) (zip es olds))
      (below cs e o h.0) (all_wait_again n below cs es olds h.1)

  part_again : (n : ℕ) → BelowAgain n → (p : Part) → AllValuesAgree s later p.old → AllWaitAgain later (render_part (rendered n s) p) (render_part (rendered n later) p)
  part_again n below p h =
      all_wait_again n below p.contexts p.elements (old_nodes p.old p.elements) (olds_agree s later p.old h (identified (elements_in p.old)) [] p.elements)

  -- the old lists of a shape
  abbrev OldsOf : Shape → Type 0
  OldsOf absent = Unit {0}
  OldsOf (waiting r v) = Unit {0}
  OldsOf (throwing x) = Unit {0}
  OldsOf (one_list m p) = AllValuesAgree s later p.old
  OldsOf (two_lists p f) = AllValuesAgree s later p.old × AllValuesAgree s later f.old
  OldsOf (guarded p f) = AllValuesAgree s later p.old × AllValuesAgree s later f.old

  body_olds : (cs : Contexts) (k : ℕ) (old : Option Node) (b : Body) → IfValuesAgree s later old → OldsOf (shape_of_body cs k old b)
  body_olds cs k old (wait r v) h = tt
  body_olds cs k old (throw x) h = tt
  body_olds cs k old (ready es effects initials reads versions) h = children_agree s later old h

  component_olds : (cs : Contexts) (k : ℕ) (props : List ℤ) (given : Elements) (old : Option Node) (d : Option Component) → IfValuesAgree s later old
      → OldsOf (shape_of_component s cs k props given old d)
  component_olds cs k props given old None h = tt
  component_olds cs k props given old (Some d) h = body_olds cs k old (body_of s.program d (inputs_at s cs props given (old_instance old))) h

  catcher_olds : (cs : Contexts) (f : Element) (es : Elements) (old : Option Node) (caught : Option ℤ) → IfValuesAgree s later old → OldsOf (shape_of_catcher cs f es old caught)
  catcher_olds cs f es old None h = (children_agree s later old h, tt)
  catcher_olds cs f es old (Some x) h = fallback_agrees s later old h

  shape_olds : (cs : Contexts) (e : Element) (old : Option Node) → IfValuesAgree s later old → OldsOf (shape_of s cs e old)
  shape_olds cs elements.null old h = tt
  shape_olds cs (elements.text x) old h = tt
  shape_olds cs (elements.host n key attrs es) old h = children_agree s later old h
  shape_olds cs (elements.comp k key props given) old h = component_olds cs k props given old (component_at s.program k) h
  shape_olds cs (elements.list marked es) old h = children_agree s later old h
  shape_olds cs (elements.boundary key f es) old h = (children_agree s later old h, fallback_agrees s later old h)
  shape_olds cs (elements.catcher key f es) old h = catcher_olds cs f es old (old_caught old) h
  shape_olds cs (elements.provider k key x es) old h = children_agree s later old h

  from_again : (n : ℕ) → BelowAgain n → (e : Element) (old : Option Node) (a b : Shape) → ShapeAgain later a b → OldsOf a
      → IsNoThrow (place_of (rendered n s) e old a) → IsNoThrow (place_of (rendered n later) e old b)
      → WaitsAgain later (place_of (rendered n s) e old a) (place_of (rendered n later) e old b)
  from_again n below e old absent b h olds calm more_calm = rw h tt
  from_again n below e old (waiting r v) b h olds calm more_calm =
      (where_small (nat_eq r), more_calm, λ u. ap (place_of (rendered n later) e old) (h.1 (one_unresolved later r h.0 u)))
  from_again n below e old (throwing x) b h olds calm more_calm = absurd calm
  from_again n below e old (one_list m p) b h olds calm more_calm =
      rw h (over_again later e m (render_part (rendered n s) p) (render_part (rendered n later) p) (part_again n below p olds))
  from_again n below e old (two_lists p f) b h olds calm more_calm =
      rw h (parts_again later e old (render_part (rendered n s) p) (render_part (rendered n s) f) (render_part (rendered n later) p) (render_part (rendered n later) f)
      (part_again n below p olds.0) (part_again n below f olds.1))
  from_again n below e old (guarded p f) b h olds calm more_calm =
      rw h (guarded_again later e (render_part (rendered n s) p) (render_part (rendered n s) f) (render_part (rendered n later) p) (render_part (rendered n later) f)
      (part_again n below p olds.0) (part_again n below f olds.1))

  place_again_at : NeverThrows s.program → (n : ℕ) → BelowAgain n → (cs : Contexts) (e : Element) (old : Option Node) → IfValuesAgree s later old
      → WaitsAgain later (place_of (rendered n s) e old (shape_of s cs e old)) (place_of (rendered n later) e old (shape_of later cs e old))
  place_again_at never n below cs e old h =
      from_again n below e old (shape_of s cs e old) (shape_of later cs e old) (shape_again cs e old h) (shape_olds cs e old h)
      (shape_calm s never n cs e old) (shape_calm later never n cs e old)

  -- If no body throws, each place waits again for what it waited for, and none waits that didn't.
  pub rendered_waits_again : NeverThrows s.program → (n : ℕ) → BelowAgain n
  unfolding rendered
  rendered_waits_again never zero cs e old h = tt
  rendered_waits_again never (suc n) cs e old h = place_again_at never n (rendered_waits_again never n) cs e old h

  -- If the resources have the same values, each place gives the same.

  abbrev BelowSame : ℕ → Type 0
  BelowSame n = (cs : Contexts) (e : Element) (old : Option Node) → IfValuesAgree s later old → rendered n s cs e old ≡ rendered n later cs e old

  all_same : (n : ℕ) → BelowSame n → (cs : Contexts) (es : List Element) (olds : List (Option Node)) → OldsAgree s later es olds
      → render_all (rendered n s cs) (zip es olds) ≡ render_all (rendered n later cs) (zip es olds)
  all_same n below cs [] olds h = refl
  all_same n below cs (e ∷ es) [] h = absurd h
  all_same n below cs (e ∷ es) (o ∷ olds) h = rw (below cs e o h.0, all_same n below cs es olds h.1) refl

  part_same : (n : ℕ) → BelowSame n → (p : Part) → AllValuesAgree s later p.old → render_part (rendered n s) p ≡ render_part (rendered n later) p
  part_same n below p h =
      all_same n below p.contexts p.elements (old_nodes p.old p.elements) (olds_agree s later p.old h (identified (elements_in p.old)) [] p.elements)

  comp_same : resources_seen s ≡ resources_seen later → (cs : Contexts) (k : ℕ) (props : List ℤ) (given : Elements) (old : Option Node) → IfValuesAgree s later old → (d : Option Component)
      → shape_of_component s cs k props given old d ≡ shape_of_component later cs k props given old d
  comp_same same cs k props given old agree None = refl
  comp_same same cs k props given old agree (Some d) = ap (λ (i : Inputs). shape_of_body cs k old (body_of s.program d i)) inputs_same
    where
      with_these : (h g : Option (List ℤ)) (vs ws : List ℕ) (xs ys : List (Option ℤ)) → h ≡ g → vs ≡ ws → xs ≡ ys
          → ◌≡◌ {A = Inputs} (record { props = props; children = listed given; hooks = h; contexts = cs; versions = vs; resources = xs })
          (record { props = props; children = listed given; hooks = g; contexts = cs; versions = ws; resources = ys })
      with_these h g vs ws xs ys a b c = rw (a, b, c) refl

      inputs_same : inputs_at s cs props given (old_instance old) ≡ inputs_at later cs props given (old_instance old)
      inputs_same =
          with_these (option_and_then (values_of s) (old_instance old)) (option_and_then (values_of later) (old_instance old)) (versions_seen s) (versions_seen later) (resources_seen s) (resources_seen later)
          (olds_hooks s later old agree) same_versions same

  shape_same : resources_seen s ≡ resources_seen later → (cs : Contexts) (e : Element) (old : Option Node) → IfValuesAgree s later old → shape_of s cs e old ≡ shape_of later cs e old
  shape_same same cs elements.null old h = refl
  shape_same same cs (elements.text x) old h = refl
  shape_same same cs (elements.host n key attrs es) old h = refl
  shape_same same cs (elements.comp k key props given) old h = comp_same same cs k props given old h (component_at s.program k)
  shape_same same cs (elements.list marked es) old h = refl
  shape_same same cs (elements.boundary key f es) old h = refl
  shape_same same cs (elements.catcher key f es) old h = refl
  shape_same same cs (elements.provider k key x es) old h = refl

  from_same : (n : ℕ) → BelowSame n → (e : Element) (old : Option Node) (a : Shape) → OldsOf a → place_of (rendered n s) e old a ≡ place_of (rendered n later) e old a
  from_same n below e old absent olds = refl
  from_same n below e old (waiting r v) olds = refl
  from_same n below e old (throwing x) olds = refl
  from_same n below e old (one_list m p) olds = ap (over e m) (part_same n below p olds)
  from_same n below e old (two_lists p f) olds = rw (part_same n below p olds.0, part_same n below f olds.1) refl
  from_same n below e old (guarded p f) olds = rw (part_same n below p olds.0, part_same n below f olds.1) refl

  rendered_same : resources_seen s ≡ resources_seen later → (n : ℕ) → BelowSame n
  unfolding rendered
  rendered_same same zero cs e old h = refl
  rendered_same same (suc n) cs e old h =
      from_same n (rendered_same same n) e old (shape_of s cs e old) (shape_olds cs e old h) ∙ ap (place_of (rendered n later) e old) (shape_same same cs e old h)

  -- The children of a boundary that waited wait for the same if none of that has a value.
  pub attempt_waits_again : (may_throw_in s.program ≡ true → resources_seen s ≡ resources_seen later) → (n : ℕ) (p : Part) (a : Awaits) → AllValuesAgree s later p.old
      → render_part (rendered n s) p ≡ one_waits a → AreUnresolved later a → render_part (rendered n later) p ≡ one_waits a
  attempt_waits_again same n p a agree waited unresolved = go (may_throw_in s.program) refl
    where
      again : (ps : Places) → ps ≡ one_waits a → AllWaitAgain later ps (render_part (rendered n later) p) → render_part (rendered n later) p ≡ one_waits a
      again ps equal h =
          let x : AllWaitAgain later (one_waits a) (render_part (rendered n later) p) = rw equal at h in x.2 unresolved

      go : (b : Bool) → may_throw_in s.program ≡ b → render_part (rendered n later) p ≡ one_waits a
      go true e = sym (part_same n (rendered_same (same e) n) p agree) ∙ waited
      go false e = again (render_part (rendered n s) p) waited (part_again n (rendered_waits_again (never_throws s.program e) n) p agree)
