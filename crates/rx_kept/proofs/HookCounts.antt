-- Each instance of a tree of a program has a value at mount for each hook of its component.
use Rattle.std.proofs.Common.{◌≡◌, ℕ, ℤ, zero, suc, ◌+◌, true, Option, Some, None, Bool, false, List, [], ◌∷◌, ◌++◌, length, map, refl, sym, ap, ◌∙◌, subst, arith}
use Rattle.std.specs.Prelude.{filter_map, if◌then◌else◌, nat_eq, option_and_then, position, slice_get, slice_set}
use Rattle.std.specs.List.{cons_option, zip}
use Rattle.std.specs.Option.{option_flatten, option_map, option_map_or}
use Rattle.std.proofs.lemmas.Bool.Decides.{nat_tests}
use Rattle.std.proofs.lemmas.List.{length-append}
use Rattle.rx_base.specs.Arithmetic.{is_zero}
use Rattle.rx_ast.specs.Syntax.{Component, Program, Statement, body_slots, constant, context, effect, reducer, state, throw_if, transition, use_resource}
use Rattle.rx_rules.specs.Names.{component_at, hook_in, hooks_of}
use Rattle.rx_elem.specs.Compare.{node_at, old_nodes}
use Rattle.rx_elem.specs.Elements.{Element, Elements, Kind, kind_of, listed, of_comp, same_kind}
use Rattle.rx_elem.specs.Elements as elements
use Rattle.rx_elem.specs.Identity.{Child, identified, identities_after, is_same_child}
use Rattle.rx_elem.specs.Numbers.{Numbers, numbered, numbered_host, numbered_in, numbered_instance, numbered_mark}
use Rattle.rx_elem.specs.Spots.{Around, Mounted, Spot, around_children, at_root, mounted, mounted_as, mounted_in, spot_mark, spots, spots_in}
use Rattle.rx_elem.specs.Trees.{Forest, Instance, Mark, Node, child, children_if, element_of, elements_in, fallback_if, instance_in, is_caught, node, none, of_boundary, of_catcher, of_host, of_instance, old_caught, places, plain, vacant}
use Rattle.rx_catch.specs.declared.state.CatchState.TheVariants.{Caught}
use Rattle.rx_elem.specs.declared.effect.ContextRead.{ContextRead}
use Rattle.rx_elem.specs.declared.effect.VersionRead.{VersionRead}
use Rattle.rx_elem.specs.declared.effect.EffectRecord.{EffectRecord}
use Rattle.rx_elem.proofs.Equality.{same_kind-self}
use Rattle.rx_meaning.specs.Expressions.{value_in}
use Rattle.rx_meaning.specs.Body.{Body, Frame, Inputs, Taken, and_then, body_of, finished, opening_frame, ready, stopped_at, take_all, take_one, taken, throw, thrown, wait, with_hook, with_resource, with_throw}
use Rattle.rx_meaning.specs.Fresh.{Contexts, IsTree, Part, Place, Places, Sight, all_made, before, default_contexts, depth_limit, empty, fresh, given, inputs_at, instance_after, made, none_yet, old_host, old_instance, one_throws, one_waits, over, over_boundary, over_catcher, part, place, place_of, render_all, render_part, rendered, root_element, shape_of, shape_of_body, shape_of_catcher, shape_of_component, throws, waits}
use Rattle.commit_laws.proofs.QuietTree.{root_stays}
use Rattle.replay_laws.proofs.Rendering.{IfSameKind, kind_found}

-- ---- what holds of an instance

-- an instance has a component of the program, and a value at mount for each of its hooks
pub record HasHooks (p : Program) (component : ℕ) (initials : List ℤ) : Type 0 where
  pub of : Component
  pub is : component_at p component ≡ Some of
  pub each : length initials ≡ length (hooks_of of)

-- the mark of a component's node is an instance of that component, with its hooks
abbrev MarkHas : Program → Element → Mark → Type 0
MarkHas p e (of_instance i) = (kind_of e ≡ of_comp i.component) × HasHooks p i.component i.initials
MarkHas p e (of_host h) = Unit {0}
MarkHas p e (of_boundary b) = Unit {0}
MarkHas p e (of_catcher c) = Unit {0}
MarkHas p e plain = Unit {0}

-- each instance of a tree has its hooks
abbrev mutual
  pub TreeHas : Program → Node → Type 0
  TreeHas p (node e m ns fs) = MarkHas p e m × AllHave p ns × AllHave p fs

  -- the same of the trees of a list
  pub AllHave : Program → Forest → Type 0
  AllHave p none = Unit {0}
  AllHave p (vacant ns) = AllHave p ns
  AllHave p (child n ns) = TreeHas p n × AllHave p ns

-- the same of a tree that may be missing
abbrev pub IfHas : Program → Option Node → Type 0
IfHas p None = Unit {0}
IfHas p (Some n) = TreeHas p n

abbrev PlaceHas : Program → Place → Type 0
PlaceHas p empty = Unit {0}
PlaceHas p (made n) = TreeHas p n
PlaceHas p (waits a) = Unit {0}
PlaceHas p (throws x) = Unit {0}

abbrev PlacesHave : Program → Places → Type 0
PlacesHave p (all_made ns) = AllHave p ns
PlacesHave p (one_waits a) = Unit {0}
PlacesHave p (one_throws x) = Unit {0}

-- ---- a body at mount

-- how many values the statements that keep a state give
abbrev Grown : Taken → ℕ → Type 0
Grown (stopped_at r v) n = Unit {0}
Grown (thrown x) n = Unit {0}
Grown (taken f) n = length f.initials ≡ n

hook_grown : (states : Option (List ℤ)) (name : _) (v : ℤ) (f : Frame) → states ≡ None → length (with_hook states name v f).initials ≡ length f.initials + 1
hook_grown None name v f e = length-append f.initials (v ∷ [])
hook_grown (Some states) name v f e = cc

resource_grown : (name : _) (r v : ℕ) (x : Option ℤ) (f : Frame) → Grown (with_resource name r v x f) (length f.initials)
resource_grown name r v None f = tt
resource_grown name r v (Some x) f = refl

throw_grown : (x : ℤ) (f : Frame) → Grown (with_throw x f) (length f.initials)
throw_grown x f = go (is_zero x)
  where
    go : (b : Bool) → Grown (if b then taken f else thrown x) (length f.initials)
    go true = refl
    go false = tt

-- one for a statement that keeps a state
abbrev one_if_hook : Statement → ℕ
one_if_hook t = option_map_or (λ h. 1) (hook_in t) 0

one_grown : (p : Program) (i : Inputs) (t : Statement) (f : Frame) → i.hooks ≡ None → Grown (take_one p i t f) (length f.initials + one_if_hook t)
one_grown p i (state name setter e) f new = hook_grown i.hooks name _ f new
one_grown p i (reducer name setter function e) f new = hook_grown i.hooks name _ f new
one_grown p i (transition name starter) f new = hook_grown i.hooks name _ f new
one_grown p i (context name source) f new = let e : length f.initials ≡ length f.initials + 0 = omega arith in e
one_grown p i (use_resource name resource) f new =
    let e : length f.initials ≡ length f.initials + 0 = omega arith in
    subst (Grown (with_resource name _ _ _ f)) e (resource_grown name _ _ _ f)
one_grown p i (constant name e) f new = let e : length f.initials ≡ length f.initials + 0 = omega arith in e
one_grown p i (effect layout label es) f new = let e : length f.initials ≡ length f.initials + 0 = omega arith in e
one_grown p i (throw_if e) f new =
    let same : length f.initials ≡ length f.initials + 0 = omega arith in
    subst (Grown (with_throw (value_in p f.env e) f)) same (throw_grown (value_in p f.env e) f)

counted : (t : Statement) (ts : List Statement) → length (filter_map hook_in (t ∷ ts)) ≡ one_if_hook t + length (filter_map hook_in ts)
counted t ts = go (hook_in t)
  where
    go : (o : _) → length (cons_option o (filter_map hook_in ts)) ≡ option_map_or (λ h. 1) o 0 + length (filter_map hook_in ts)
    go None = omega arith
    go (Some h) = omega arith

all_grown : (p : Program) (i : Inputs) (ts : List Statement) (f : Frame) → i.hooks ≡ None → Grown (take_all p i ts f) (length f.initials + length (filter_map hook_in ts))
all_grown p i [] f new = let e : length f.initials ≡ length f.initials + 0 = omega arith in e
all_grown p i (t ∷ ts) f new = go (take_one p i t f) (one_grown p i t f new) (λ g. all_grown p i ts g new)
  where
    go : (x : Taken) → Grown x (length f.initials + one_if_hook t) → ((g : Frame) → Grown (take_all p i ts g) (length g.initials + length (filter_map hook_in ts)))
        → Grown (and_then x (take_all p i ts)) (length f.initials + length (filter_map hook_in (t ∷ ts)))
    go (stopped_at r v) h k = tt
    go (thrown x) h k = tt
    go (taken g) h k =
        let e : length g.initials + length (filter_map hook_in ts) ≡ length f.initials + length (filter_map hook_in (t ∷ ts)) = omega (arith, h, counted t ts) in
        subst (Grown (take_all p i ts g)) e (k g)

-- a body that is evaluated at mount gives a value for each hook
body_grown : (p : Program) (c : Component) (i : Inputs) (es : List Element) (effects : List EffectRecord) (initials : List ℤ) (reads : List ContextRead) (versions : List VersionRead)
    → i.hooks ≡ None → body_of p c i ≡ ready es effects initials reads versions → length initials ≡ length (hooks_of c)
unfolding body_of
body_grown p c i es effects initials reads versions new same =
    go (take_all p i c.statements (opening_frame c i.props)) (all_grown p i c.statements (opening_frame c i.props) new) same
  where
    go : (x : Taken) → Grown x (0 + length (filter_map hook_in c.statements)) → finished p i (body_slots c.body) x ≡ ready es effects initials reads versions
        → length initials ≡ length (hooks_of c)
    go (stopped_at r v) h e = absurd (cc e)
    go (thrown x) h e = absurd (cc e)
    go (taken f) h e = let equal : f.initials ≡ initials = cc in omega (arith, h, ap length equal)

-- ---- the old nodes of a list

got_has : (p : Program) (ns : Forest) → AllHave p ns → (q : ℕ) → IfHas p (option_flatten (slice_get (places ns) q))
got_has p none h q = tt
got_has p (vacant ns) h zero = tt
got_has p (vacant ns) h (suc q) = got_has p ns h q
got_has p (child n ns) h zero = h.0
got_has p (child n ns) h (suc q) = got_has p ns h.1 q

found_has : (p : Program) (ns : Forest) → AllHave p ns → (q : Option ℕ) → IfHas p (option_and_then (node_at ns) q)
found_has p ns h None = tt
found_has p ns h (Some q) = got_has p ns h q

-- each old node has its hooks, and is of the kind of its element
abbrev AllOld : Program → List Element → List (Option Node) → Type 0
AllOld p [] os = Unit {0}
AllOld p (e ∷ es) [] = ⊥
AllOld p (e ∷ es) (o ∷ os) = IfHas p o × IfSameKind e o × AllOld p es os

all_old : (p : Program) (os : Forest) → AllHave p os → (earlier es : List Element)
    → AllOld p es (map (option_and_then (node_at os)) (map (λ c. position (is_same_child c) (identified (elements_in os)))
    (map (λ c. let d : Child = record { identity = c.0; element = c.1 } in d) (zip (identities_after earlier es) es))))
all_old p os h earlier [] = tt
all_old p os h earlier (e ∷ es) = (
  found_has p os h (position (is_same_child _) (identified (elements_in os))),
  kind_found os _ (position (is_same_child _) (identified (elements_in os))) refl,
  all_old p os h (earlier ++ e ∷ []) es,
)

children_have : (p : Program) (old : Option Node) → IfHas p old → AllHave p (children_if old)
children_have p None h = tt
children_have p (Some (node e m ns fs)) h = h.1

fallback_has : (p : Program) (old : Option Node) → IfHas p old → AllHave p (fallback_if old)
fallback_has p None h = tt
fallback_has p (Some (node e m ns fs)) h = h.2

-- ---- places

before_has : (p : Program) (x : Place) (xs : Places) → PlaceHas p x → PlacesHave p xs → PlacesHave p (before x xs)
before_has p empty (all_made ns) h k = k
before_has p empty (one_waits a) h k = tt
before_has p empty (one_throws x) h k = tt
before_has p (made n) (all_made ns) h k = (h, k)
before_has p (made n) (one_waits a) h k = tt
before_has p (made n) (one_throws x) h k = tt
before_has p (waits a) xs h k = tt
before_has p (throws x) xs h k = tt

-- the places below have their hooks, whatever they are rendered against
abbrev BelowHas : ℕ → Sight → Type 0
BelowHas n s = (cs : Contexts) (e : Element) (old : Option Node) → IfHas s.program old → IfSameKind e old → PlaceHas s.program (rendered n s cs e old)

all_have : (n : ℕ) (s : Sight) → BelowHas n s → (cs : Contexts) (es : List Element) (os : List (Option Node)) → AllOld s.program es os
    → PlacesHave s.program (render_all (rendered n s cs) (zip es os))
all_have n s below cs [] os h = tt
all_have n s below cs (e ∷ es) [] h = absurd h
all_have n s below cs (e ∷ es) (o ∷ os) h =
    before_has s.program (rendered n s cs e o) (render_all (rendered n s cs) (zip es os)) (below cs e o h.0 h.1) (all_have n s below cs es os h.2)

list_has : (n : ℕ) (s : Sight) → BelowHas n s → (q : Part) → AllHave s.program q.old → PlacesHave s.program (render_part (rendered n s) q)
list_has n s below q h = all_have n s below q.contexts q.elements (old_nodes q.old q.elements) (all_old s.program q.old h [] q.elements)

over_has : (p : Program) (e : Element) (m : Mark) (xs : Places) → MarkHas p e m → PlacesHave p xs → PlaceHas p (over e m xs)
over_has p e m (all_made ns) h k = by_test (is_caught m)
  where
    by_test : (q : Bool) → TreeHas p (if q then node e m none ns else node e m ns none)
    by_test true = (h, tt, k)
    by_test false = (h, k, tt)
over_has p e m (one_waits a) h k = tt
over_has p e m (one_throws x) h k = tt

boundary_has : (p : Program) (e : Element) (old : Option Node) (xs ys : Places) → IfHas p old → PlacesHave p xs → PlacesHave p ys → PlaceHas p (over_boundary e old xs ys)
boundary_has p e old (all_made ns) ys h k l = (tt, k, tt)
boundary_has p e old (one_waits a) (all_made fs) h k l = (tt, children_have p old h, l)
boundary_has p e old (one_waits a) (one_waits b) h k l = tt
boundary_has p e old (one_waits a) (one_throws x) h k l = tt
boundary_has p e old (one_throws x) ys h k l = tt

catch_has : (p : Program) (e : Element) (xs ys : Places) → PlacesHave p xs → PlacesHave p ys → PlaceHas p (over_catcher e xs ys)
catch_has p e (all_made ns) ys k l = (tt, k, tt)
catch_has p e (one_waits a) ys k l = tt
catch_has p e (one_throws x) ys k l = over_has p e (of_catcher (Caught x)) ys tt l

-- ---- an instance that goes on, and a new one

same_comp : (c : ℕ) (k : Kind) (d : ℕ) → k ≡ of_comp d → same_kind (of_comp c) k ≡ true → d ≡ c
same_comp c k d is same = let test : nat_eq c d ≡ true = subst (λ (x : Kind). same_kind (of_comp c) x ≡ true) is same in grind (arith, nat_tests)

old_mark_has : (p : Program) (c : ℕ) (e : Element) (m : Mark) (i : Instance) → MarkHas p e m → same_kind (of_comp c) (kind_of e) ≡ true → instance_in m ≡ Some i
    → HasHooks p c i.initials
old_mark_has p c e (of_instance j) i h same at =
    let one : j ≡ i = cc in
    let comp : j.component ≡ c = same_comp c (kind_of e) j.component h.0 same in
    subst (λ (k : Instance). HasHooks p c k.initials) one (subst (λ n. HasHooks p n j.initials) comp h.1)
old_mark_has p c e (of_host k) i h same at = cc
old_mark_has p c e (of_boundary b) i h same at = cc
old_mark_has p c e (of_catcher k) i h same at = cc
old_mark_has p c e plain i h same at = cc

old_instance_has : (p : Program) (c : ℕ) (key : _) (props : List ℤ) (kids : Elements) (old : Option Node) (i : Instance) → IfHas p old
    → IfSameKind (elements.comp c key props kids) old → old_instance old ≡ Some i → HasHooks p c i.initials
old_instance_has p c key props kids None i h same at = cc
old_instance_has p c key props kids (Some (node e m ns fs)) i h same at = old_mark_has p c e m i h.0 same at

module _ (n : ℕ) (s : Sight) (below : BelowHas n s) where
  comp_has : (cs : Contexts) (c : ℕ) (key : _) (props : List ℤ) (kids : Elements) (old : Option Node) → IfHas s.program old → IfSameKind (elements.comp c key props kids) old
      → PlaceHas s.program (place_of (rendered n s) (elements.comp c key props kids) old (shape_of s cs (elements.comp c key props kids) old))
  comp_has cs c key props kids old h same = found (component_at s.program c) refl
    where
      after_has : (d : Component) → component_at s.program c ≡ Some d
          → (es : List Element) (effects : List EffectRecord) (initials : List ℤ) (reads : List ContextRead) (versions : List VersionRead) → (o : Option Instance) → old_instance old ≡ o
          → body_of s.program d (inputs_at s cs props kids o) ≡ ready es effects initials reads versions
          → MarkHas s.program (elements.comp c key props kids) (of_instance (instance_after c o initials reads versions effects))
      after_has d there es effects initials reads versions None at b =
          (refl, record { of = d; is = there; each = body_grown s.program d (inputs_at s cs props kids None) es effects initials reads versions refl b })
      after_has d there es effects initials reads versions (Some i) at b = (refl, old_instance_has s.program c key props kids old i h same at)

      with_body : (d : Component) → component_at s.program c ≡ Some d → (b : Body) → body_of s.program d (inputs_at s cs props kids (old_instance old)) ≡ b
          → PlaceHas s.program (place_of (rendered n s) (elements.comp c key props kids) old (shape_of_body cs c old b))
      with_body d there (wait r v) is = tt
      with_body d there (throw x) is = tt
      with_body d there (ready es effects initials reads versions) is =
          over_has s.program (elements.comp c key props kids) (of_instance (instance_after c (old_instance old) initials reads versions effects))
          (render_part (rendered n s) (part cs es (children_if old)))
          (after_has d there es effects initials reads versions (old_instance old) refl is)
          (list_has n s below (part cs es (children_if old)) (children_have s.program old h))

      found : (d : Option Component) → component_at s.program c ≡ d
          → PlaceHas s.program (place_of (rendered n s) (elements.comp c key props kids) old (shape_of_component s cs c props kids old d))
      found None there = tt
      found (Some d) there = with_body d there (body_of s.program d (inputs_at s cs props kids (old_instance old))) refl

  -- one list of children under a mark that is no instance
  one_has : (e : Element) (m : Mark) (q : Part) → MarkHas s.program e m → AllHave s.program q.old → PlaceHas s.program (over e m (render_part (rendered n s) q))
  one_has e m q h k = over_has s.program e m (render_part (rendered n s) q) h (list_has n s below q k)

  -- an error boundary, by what its old node had caught
  catcher_has : (cs : Contexts) (key : _) (f : Element) (es : Elements) (old : Option Node) → IfHas s.program old → (caught : Option ℤ)
      → PlaceHas s.program (place_of (rendered n s) (elements.catcher key f es) old (shape_of_catcher cs f es old caught))
  catcher_has cs key f es old h None =
      catch_has s.program (elements.catcher key f es) (render_part (rendered n s) (part cs (listed es) (children_if old))) (render_part (rendered n s) (part cs (f ∷ []) none))
      (list_has n s below (part cs (listed es) (children_if old)) (children_have s.program old h)) (list_has n s below (part cs (f ∷ []) none) tt)
  catcher_has cs key f es old h (Some x) = one_has (elements.catcher key f es) (of_catcher (Caught x)) (part cs (f ∷ []) (fallback_if old)) tt (fallback_has s.program old h)

  place_has : (cs : Contexts) (e : Element) (old : Option Node) → IfHas s.program old → IfSameKind e old → PlaceHas s.program (place (rendered n s) s cs e old)
  place_has cs elements.null old h same = tt
  place_has cs (elements.text t) old h same = one_has (elements.text t) (of_host (old_host old)) (part cs [] none) tt tt
  place_has cs (elements.host name key attrs es) old h same =
      one_has (elements.host name key attrs es) (of_host (old_host old)) (part cs (listed es) (children_if old)) tt (children_have s.program old h)
  place_has cs (elements.comp c key props kids) old h same = comp_has cs c key props kids old h same
  place_has cs (elements.list marked es) old h same = one_has (elements.list marked es) plain (part cs (listed es) (children_if old)) tt (children_have s.program old h)
  place_has cs (elements.boundary key f es) old h same =
      boundary_has s.program (elements.boundary key f es) old (render_part (rendered n s) (part cs (listed es) (children_if old)))
      (render_part (rendered n s) (part cs (f ∷ []) (fallback_if old))) h
      (list_has n s below (part cs (listed es) (children_if old)) (children_have s.program old h))
      (list_has n s below (part cs (f ∷ []) (fallback_if old)) (fallback_has s.program old h))
  place_has cs (elements.catcher key f es) old h same = catcher_has cs key f es old h (old_caught old)
  place_has cs (elements.provider c key x es) old h same =
      one_has (elements.provider c key x es) plain (part (slice_set cs c x) (listed es) (children_if old)) tt (children_have s.program old h)

-- what a render gives has its hooks, if the old tree does
rendered_has : (n : ℕ) (s : Sight) → BelowHas n s
unfolding rendered
rendered_has zero s cs e old h same = tt
rendered_has (suc n) s cs e old h same = place_has n s (rendered_has n s) cs e old h same

-- ---- numbers

mark_numbered : (p : Program) (e : Element) (c : Numbers) (m : Mark) → MarkHas p e m → MarkHas p e (numbered_mark c m).1
mark_numbered p e c (of_instance i) h = go i.number
  where
    go : (o : Option ℕ) → MarkHas p e (numbered_instance c i o).1
    go None = h
    go (Some n) = h
mark_numbered p e c (of_host k) h = go k
  where
    go : (o : Option ℕ) → MarkHas p e (numbered_host c o).1
    go None = tt
    go (Some n) = tt
mark_numbered p e c (of_boundary b) h = tt
mark_numbered p e c (of_catcher k) h = tt
mark_numbered p e c plain h = tt

mutual
  tree_numbered : (p : Program) (c : Numbers) (n : Node) → TreeHas p n → TreeHas p (numbered c n).1
  tree_numbered p c (node e m ns fs) h = (
    mark_numbered p e c m h.0,
    all_numbered p (numbered_mark c m).0 ns h.1,
    all_numbered p (numbered_in (numbered_mark c m).0 ns).0 fs h.2,
  )

  all_numbered : (p : Program) (c : Numbers) (ns : Forest) → AllHave p ns → AllHave p (numbered_in c ns).1
  all_numbered p c none h = tt
  all_numbered p c (vacant ns) h = all_numbered p c ns h
  all_numbered p c (child n ns) h = (tree_numbered p c n h.0, all_numbered p (numbered c n).0 ns h.1)

-- ---- trees of a program

root_kind : (p : Program) (tree : Option Node) → IsTree p tree → IfSameKind (root_element p) tree
root_kind p tree none_yet = tt
root_kind p tree (given s old n next same t h) =
    let at : element_of (numbered next n).1 ≡ root_element p = subst (λ (q : Program). element_of (numbered next n).1 ≡ root_element q) same (root_stays s old n next h) in
    subst (λ (e : Element). same_kind (kind_of (root_element p)) (kind_of e) ≡ true) (sym at) (same_kind-self (root_element p) refl)

-- what fresh rendering gives
fresh_has : (s : Sight) (old : Option Node) (n : Node) → IfHas s.program old → IfSameKind (root_element s.program) old → fresh s old ≡ made n → TreeHas s.program n
unfolding fresh
fresh_has s old n h kind is = subst (PlaceHas s.program) is (rendered_has depth_limit s (default_contexts s.program) (root_element s.program) old h kind)

-- each tree of a program has its hooks
trees_have : (p : Program) (tree : Option Node) → IsTree p tree → IfHas p tree
trees_have p tree none_yet = tt
trees_have p tree (given s old n next same t h) =
    let before : IfHas s.program old = subst (λ (q : Program). IfHas q old) (sym same) (trees_have p old t) in
    let kind : IfSameKind (root_element s.program) old = subst (λ (q : Program). IfSameKind (root_element q) old) (sym same) (root_kind p old t) in
    subst (λ (q : Program). TreeHas q (numbered next n).1) same (tree_numbered s.program next n (fresh_has s old n before kind h))

-- ---- mounted instances

abbrev SpotsHave : Program → List Spot → Type 0
SpotsHave p [] = Unit {0}
SpotsHave p (x ∷ xs) = MarkHas p (element_of x.at) (spot_mark x) × SpotsHave p xs

both_have : (p : Program) (xs ys : List Spot) → SpotsHave p xs → SpotsHave p ys → SpotsHave p (xs ++ ys)
both_have p [] ys h k = k
both_have p (x ∷ xs) ys h k = (h.0, both_have p xs ys h.1 k)

mutual
  spots_have : (p : Program) (a : Around) (n : Node) → TreeHas p n → SpotsHave p (spots a n)
  spots_have p a (node e m ns fs) h =
      (h.0, both_have p (spots_in (around_children a m) ns) (spots_in a fs) (spots_in_have p (around_children a m) ns h.1) (spots_in_have p a fs h.2))

  spots_in_have : (p : Program) (a : Around) (ns : Forest) → AllHave p ns → SpotsHave p (spots_in a ns)
  spots_in_have p a none h = tt
  spots_in_have p a (vacant ns) h = spots_in_have p a ns h
  spots_in_have p a (child n ns) h = both_have p (spots a n) (spots_in a ns) (spots_have p a n h.0) (spots_in_have p a ns h.1)

mounted_has : (p : Program) (a : Around) (e : Element) (m : Mark) (y : Mounted) → MarkHas p e m → option_and_then (mounted_as a) (instance_in m) ≡ Some y
    → HasHooks p y.component y.initials
mounted_has p a e (of_instance i) y h at = go i.number at
  where
    go : (o : Option ℕ) → option_map (λ n. record { number = n; component = i.component; initials = i.initials; owner = a.owner; visible = a.visible }) o ≡ Some y
        → HasHooks p y.component y.initials
    go None at = cc
    go (Some n) at =
        let z : Mounted = record { number = n; component = i.component; initials = i.initials; owner = a.owner; visible = a.visible } in
        let same : z ≡ y = cc in subst (λ (w : Mounted). HasHooks p w.component w.initials) same h.1
mounted_has p a e (of_host k) y h at = cc
mounted_has p a e (of_boundary b) y h at = cc
mounted_has p a e (of_catcher c) y h at = cc
mounted_has p a e plain y h at = cc

listed_has : (p : Program) (xs : List Spot) → SpotsHave p xs → (k : ℕ) (m : Mounted) → slice_get (filter_map mounted_in xs) k ≡ Some m → HasHooks p m.component m.initials
listed_has p [] h k m at = cc
listed_has p (x ∷ xs) h k m at = go (mounted_in x) refl k at (λ l. listed_has p xs h.1 l m)
  where
    go : (o : Option Mounted) → mounted_in x ≡ o → (k : ℕ) → slice_get (cons_option o (filter_map mounted_in xs)) k ≡ Some m
        → ((l : ℕ) → slice_get (filter_map mounted_in xs) l ≡ Some m → HasHooks p m.component m.initials) → HasHooks p m.component m.initials
    go None is k at later = later k at
    go (Some y) is zero at later =
        let same : y ≡ m = cc in mounted_has p x.around (element_of x.at) (spot_mark x) m h.0 (is ∙ ap (λ (z : Mounted). Some z) same)
    go (Some y) is (suc k) at later = later k at

-- each mounted instance of a tree of a program has its hooks
pub mounted_hooks : (p : Program) (tree : Option Node) → IsTree p tree → (k : ℕ) (m : Mounted) → slice_get (mounted tree) k ≡ Some m → HasHooks p m.component m.initials
mounted_hooks p None t k m at = cc
mounted_hooks p (Some n) t k m at = listed_has p (spots at_root n) (spots_have p at_root n (trees_have p (Some n) t)) k m at
