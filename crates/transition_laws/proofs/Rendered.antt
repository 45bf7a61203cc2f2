-- What holds of the instances of a tree, by their number, their component and their values at mount, holds of those of a tree that is rendered from it.
use Rattle.std.proofs.Common.{◌≡◌, ℕ, ℤ, zero, suc, Bool, true, false, sym, Option, Some, None, List, [], ◌∷◌, ◌++◌, map, refl, subst, arith}
use Rattle.std.specs.Prelude.{nat_eq, option_and_then, position, slice_get, slice_set}
use Rattle.std.specs.List.{zip}
use Rattle.std.specs.Option.{option_flatten}
use Rattle.std.proofs.lemmas.Bool.Decides.{nat_tests}
use Rattle.rx_ast.specs.Syntax.{Component, Program}
use Rattle.rx_rules.specs.Names.{component_at}
use Rattle.rx_elem.specs.Compare.{node_at, old_nodes}
use Rattle.rx_elem.specs.Elements.{Element, Elements, Kind, kind_of, listed, of_comp, same_kind}
use Rattle.rx_elem.specs.Elements as elements
use Rattle.rx_elem.specs.Identity.{Child, identified, identities_after, is_same_child}
use Rattle.rx_elem.specs.Trees.{Forest, Instance, Mark, Node, child, children_if, elements_in, fallback_if, instance_in, is_caught, node, node_over, none, of_boundary, of_catcher, of_host, of_instance, old_caught, places, plain, vacant}
use Rattle.rx_catch.specs.declared.state.CatchState.TheVariants.{Caught}
use Rattle.rx_elem.proofs.Over.{over_children, over_fallback}
use Rattle.rx_elem.specs.declared.effect.ContextRead.{ContextRead}
use Rattle.rx_elem.specs.declared.effect.VersionRead.{VersionRead}
use Rattle.rx_elem.specs.declared.effect.EffectRecord.{EffectRecord}
use Rattle.rx_meaning.specs.Body.{Body, Inputs, body_of, ready, throw, wait}
use Rattle.rx_meaning.specs.Fresh.{Contexts, Part, Place, Places, Sight, all_made, before, default_contexts, depth_limit, empty, fresh, inputs_at, instance_after, made, old_host, old_instance, one_throws, one_waits, over, over_boundary, over_catcher, part, place, place_of, render_all, render_part, rendered, root_element, shape_of, shape_of_body, shape_of_catcher, shape_of_component, throws, waits}
use Rattle.replay_laws.proofs.Rendering.{IfSameKind, kind_found}

module _ (Q : Option ℕ → ℕ → List ℤ → Type 0) where
  -- the mark of a component's node is an instance of that component, of which this holds
  abbrev pub MarkMeets : Element → Mark → Type 0
  MarkMeets e (of_instance i) = (kind_of e ≡ of_comp i.component) × Q i.number i.component i.initials
  MarkMeets e (of_host h) = Unit {0}
  MarkMeets e (of_boundary b) = Unit {0}
  MarkMeets e (of_catcher c) = Unit {0}
  MarkMeets e plain = Unit {0}

  -- the same of each mark of a tree
  abbrev mutual
    pub TreeMeets : Node → Type 0
    TreeMeets (node e m ns fs) = MarkMeets e m × AllMeet ns × AllMeet fs

    -- the same of the trees of a list
    pub AllMeet : Forest → Type 0
    AllMeet none = Unit {0}
    AllMeet (vacant ns) = AllMeet ns
    AllMeet (child n ns) = TreeMeets n × AllMeet ns

  -- the same of a tree that may be missing
  abbrev pub IfMeets : Option Node → Type 0
  IfMeets None = Unit {0}
  IfMeets (Some n) = TreeMeets n

  abbrev PlaceMeets : Place → Type 0
  PlaceMeets empty = Unit {0}
  PlaceMeets (made n) = TreeMeets n
  PlaceMeets (waits a) = Unit {0}
  PlaceMeets (throws x) = Unit {0}

  abbrev PlacesMeet : Places → Type 0
  PlacesMeet (all_made ns) = AllMeet ns
  PlacesMeet (one_waits a) = Unit {0}
  PlacesMeet (one_throws x) = Unit {0}

  -- what holds of an instance at its mount, of a component of the program
  abbrev pub Mounts : Program → Type 0
  Mounts p =
      (c : ℕ) (d : Component) → component_at p c ≡ Some d → (i : Inputs) → i.hooks ≡ None
      → (es : List Element) (effects : List EffectRecord) (initials : List ℤ) (reads : List ContextRead) (versions : List VersionRead)
      → body_of p d i ≡ ready es effects initials reads versions → Q None c initials

  -- Old nodes of a list

  got_meets : (ns : Forest) → AllMeet ns → (q : ℕ) → IfMeets (option_flatten (slice_get (places ns) q))
  got_meets none h q = tt
  got_meets (vacant ns) h zero = tt
  got_meets (vacant ns) h (suc q) = got_meets ns h q
  got_meets (child n ns) h zero = h.0
  got_meets (child n ns) h (suc q) = got_meets ns h.1 q

  found_meets : (ns : Forest) → AllMeet ns → (q : Option ℕ) → IfMeets (option_and_then (node_at ns) q)
  found_meets ns h None = tt
  found_meets ns h (Some q) = got_meets ns h q

  -- of each old node this holds, and it is of the kind of its element
  abbrev AllOld : List Element → List (Option Node) → Type 0
  AllOld [] os = Unit {0}
  AllOld (e ∷ es) [] = ⊥
  AllOld (e ∷ es) (o ∷ os) = IfMeets o × IfSameKind e o × AllOld es os

  all_old : (os : Forest) → AllMeet os → (earlier es : List Element)
      → AllOld es (map (option_and_then (node_at os)) (map (λ c. position (is_same_child c) (identified (elements_in os)))
      (map (λ c. let d : Child = record { identity = c.0; element = c.1 } in d) (zip (identities_after earlier es) es))))
  all_old os h earlier [] = tt
  all_old os h earlier (e ∷ es) = (
    found_meets os h (position (is_same_child _) (identified (elements_in os))),
    kind_found os _ (position (is_same_child _) (identified (elements_in os))) refl,
    all_old os h (earlier ++ e ∷ []) es,
  )

  children_meet : (old : Option Node) → IfMeets old → AllMeet (children_if old)
  children_meet None h = tt
  children_meet (Some (node e m ns fs)) h = h.1

  fallback_meets : (old : Option Node) → IfMeets old → AllMeet (fallback_if old)
  fallback_meets None h = tt
  fallback_meets (Some (node e m ns fs)) h = h.2

  -- Places

  before_meets : (x : Place) (xs : Places) → PlaceMeets x → PlacesMeet xs → PlacesMeet (before x xs)
  before_meets empty (all_made ns) h k = k
  before_meets empty (one_waits a) h k = tt
  before_meets empty (one_throws x) h k = tt
  before_meets (made n) (all_made ns) h k = (h, k)
  before_meets (made n) (one_waits a) h k = tt
  before_meets (made n) (one_throws x) h k = tt
  before_meets (waits a) xs h k = tt
  before_meets (throws x) xs h k = tt

  -- the places below meet it, whatever they are rendered against
  abbrev BelowMeets : ℕ → Sight → Type 0
  BelowMeets n s = (cs : Contexts) (e : Element) (old : Option Node) → IfMeets old → IfSameKind e old → PlaceMeets (rendered n s cs e old)

  each_meets : (n : ℕ) (s : Sight) → BelowMeets n s → (cs : Contexts) (es : List Element) (os : List (Option Node)) → AllOld es os
      → PlacesMeet (render_all (rendered n s cs) (zip es os))
  each_meets n s below cs [] os h = tt
  each_meets n s below cs (e ∷ es) [] h = absurd h
  each_meets n s below cs (e ∷ es) (o ∷ os) h =
      before_meets (rendered n s cs e o) (render_all (rendered n s cs) (zip es os)) (below cs e o h.0 h.1) (each_meets n s below cs es os h.2)

  list_meets : (n : ℕ) (s : Sight) → BelowMeets n s → (q : Part) → AllMeet q.old → PlacesMeet (render_part (rendered n s) q)
  list_meets n s below q h = each_meets n s below q.contexts q.elements (old_nodes q.old q.elements) (all_old q.old h [] q.elements)

  over_meets : (e : Element) (m : Mark) (xs : Places) → MarkMeets e m → PlacesMeet xs → PlaceMeets (over e m xs)
  over_meets e m (all_made ns) h k = go (is_caught m) refl
    where
      go : (b : Bool) → is_caught m ≡ b → TreeMeets (node_over e m ns)
      go true over = subst TreeMeets (sym (over_fallback e m ns over)) (h, tt, k)
      go false over = subst TreeMeets (sym (over_children e m ns over)) (h, k, tt)
  over_meets e m (one_waits a) h k = tt
  over_meets e m (one_throws x) h k = tt

  boundary_meets : (e : Element) (old : Option Node) (xs ys : Places) → IfMeets old → PlacesMeet xs → PlacesMeet ys → PlaceMeets (over_boundary e old xs ys)
  boundary_meets e old (all_made ns) ys h k l = (tt, k, tt)
  boundary_meets e old (one_waits a) (all_made fs) h k l = (tt, children_meet old h, l)
  boundary_meets e old (one_waits a) (one_waits b) h k l = tt
  boundary_meets e old (one_waits a) (one_throws x) h k l = tt
  boundary_meets e old (one_throws x) ys h k l = tt

  guarded_meets : (e : Element) (xs ys : Places) → PlacesMeet xs → PlacesMeet ys → PlaceMeets (over_catcher e xs ys)
  guarded_meets e (all_made ns) ys k l = (tt, k, tt)
  guarded_meets e (one_waits a) ys k l = tt
  guarded_meets e (one_throws x) ys k l = over_meets e (of_catcher (Caught x)) ys tt l

  -- An instance that goes on, and a new one

  same_comp : (c : ℕ) (k : Kind) (d : ℕ) → k ≡ of_comp d → same_kind (of_comp c) k ≡ true → d ≡ c
  same_comp c k d is same = let test : nat_eq c d ≡ true = subst (λ (x : Kind). same_kind (of_comp c) x ≡ true) is same in grind (arith, nat_tests)

  old_mark_meets : (c : ℕ) (e : Element) (m : Mark) (i : Instance) → MarkMeets e m → same_kind (of_comp c) (kind_of e) ≡ true → instance_in m ≡ Some i → Q i.number c i.initials
  old_mark_meets c e (of_instance j) i h same at =
      let one : j ≡ i = cc in
      let comp : j.component ≡ c = same_comp c (kind_of e) j.component h.0 same in
      subst (λ (k : Instance). Q k.number c k.initials) one (subst (λ (n : ℕ). Q j.number n j.initials) comp h.1)
  old_mark_meets c e (of_host k) i h same at = absurd (cc at)
  old_mark_meets c e (of_boundary b) i h same at = absurd (cc at)
  old_mark_meets c e (of_catcher b) i h same at = absurd (cc at)
  old_mark_meets c e plain i h same at = absurd (cc at)

  old_instance_meets : (c : ℕ) (key : _) (props : List ℤ) (kids : Elements) (old : Option Node) (i : Instance) → IfMeets old
      → IfSameKind (elements.comp c key props kids) old → old_instance old ≡ Some i → Q i.number c i.initials
  old_instance_meets c key props kids None i h same at = absurd (cc at)
  old_instance_meets c key props kids (Some (node e m ns fs)) i h same at = old_mark_meets c e m i h.0 same at

  module _ (n : ℕ) (s : Sight) (mounts : Mounts s.program) (below : BelowMeets n s) where
    comp_meets : (cs : Contexts) (c : ℕ) (key : _) (props : List ℤ) (kids : Elements) (old : Option Node) → IfMeets old → IfSameKind (elements.comp c key props kids) old
        → PlaceMeets (place_of (rendered n s) (elements.comp c key props kids) old (shape_of s cs (elements.comp c key props kids) old))
    comp_meets cs c key props kids old h same = found (component_at s.program c) refl
      where
        after_meets : (d : Component) → component_at s.program c ≡ Some d
            → (es : List Element) (effects : List EffectRecord) (initials : List ℤ) (reads : List ContextRead) (versions : List VersionRead) → (o : Option Instance) → old_instance old ≡ o
            → body_of s.program d (inputs_at s cs props kids o) ≡ ready es effects initials reads versions
            → MarkMeets (elements.comp c key props kids) (of_instance (instance_after c o initials reads versions effects))
        after_meets d there es effects initials reads versions None at b =
            (refl, mounts c d there (inputs_at s cs props kids None) refl es effects initials reads versions b)
        after_meets d there es effects initials reads versions (Some i) at b = (refl, old_instance_meets c key props kids old i h same at)

        with_body : (d : Component) → component_at s.program c ≡ Some d → (b : Body) → body_of s.program d (inputs_at s cs props kids (old_instance old)) ≡ b
            → PlaceMeets (place_of (rendered n s) (elements.comp c key props kids) old (shape_of_body cs c old b))
        with_body d there (wait r v) is = tt
        with_body d there (throw x) is = tt
        with_body d there (ready es effects initials reads versions) is =
            over_meets (elements.comp c key props kids) (of_instance (instance_after c (old_instance old) initials reads versions effects))
            (render_part (rendered n s) (part cs es (children_if old)))
            (after_meets d there es effects initials reads versions (old_instance old) refl is)
            (list_meets n s below (part cs es (children_if old)) (children_meet old h))

        found : (d : Option Component) → component_at s.program c ≡ d
            → PlaceMeets (place_of (rendered n s) (elements.comp c key props kids) old (shape_of_component s cs c props kids old d))
        found None there = tt
        found (Some d) there = with_body d there (body_of s.program d (inputs_at s cs props kids (old_instance old))) refl

    -- one list of children under a mark that is no instance
    one_meets : (e : Element) (m : Mark) (q : Part) → MarkMeets e m → AllMeet q.old → PlaceMeets (over e m (render_part (rendered n s) q))
    one_meets e m q h k = over_meets e m (render_part (rendered n s) q) h (list_meets n s below q k)

    catcher_meets : (cs : Contexts) (key : _) (f : Element) (es : Elements) (old : Option Node) → IfMeets old → (caught : Option ℤ)
        → PlaceMeets (place_of (rendered n s) (elements.catcher key f es) old (shape_of_catcher cs f es old caught))
    catcher_meets cs key f es old h None =
        guarded_meets (elements.catcher key f es) (render_part (rendered n s) (part cs (listed es) (children_if old))) (render_part (rendered n s) (part cs (f ∷ []) none))
        (list_meets n s below (part cs (listed es) (children_if old)) (children_meet old h)) (list_meets n s below (part cs (f ∷ []) none) tt)
    catcher_meets cs key f es old h (Some x) =
        one_meets (elements.catcher key f es) (of_catcher (Caught x)) (part cs (f ∷ []) (fallback_if old)) tt (fallback_meets old h)

    place_meets : (cs : Contexts) (e : Element) (old : Option Node) → IfMeets old → IfSameKind e old → PlaceMeets (place (rendered n s) s cs e old)
    place_meets cs elements.null old h same = tt
    place_meets cs (elements.text t) old h same = one_meets (elements.text t) (of_host (old_host old)) (part cs [] none) tt tt
    place_meets cs (elements.host name key attrs es) old h same =
        one_meets (elements.host name key attrs es) (of_host (old_host old)) (part cs (listed es) (children_if old)) tt (children_meet old h)
    place_meets cs (elements.comp c key props kids) old h same = comp_meets cs c key props kids old h same
    place_meets cs (elements.list marked es) old h same = one_meets (elements.list marked es) plain (part cs (listed es) (children_if old)) tt (children_meet old h)
    place_meets cs (elements.boundary key f es) old h same =
        boundary_meets (elements.boundary key f es) old (render_part (rendered n s) (part cs (listed es) (children_if old)))
        (render_part (rendered n s) (part cs (f ∷ []) (fallback_if old))) h
        (list_meets n s below (part cs (listed es) (children_if old)) (children_meet old h))
        (list_meets n s below (part cs (f ∷ []) (fallback_if old)) (fallback_meets old h))
    place_meets cs (elements.catcher key f es) old h same = catcher_meets cs key f es old h (old_caught old)
    place_meets cs (elements.provider c key x es) old h same =
        one_meets (elements.provider c key x es) plain (part (slice_set cs c x) (listed es) (children_if old)) tt (children_meet old h)

  rendered_meets : (n : ℕ) (s : Sight) → Mounts s.program → BelowMeets n s
  unfolding rendered
  rendered_meets zero s mounts cs e old h same = tt
  rendered_meets (suc n) s mounts cs e old h same = place_meets n s mounts (rendered_meets n s mounts) cs e old h same

  -- What fresh rendering gives meets it, if the old tree does.
  pub fresh_meets : (s : Sight) → Mounts s.program → (old : Option Node) (n : Node) → IfMeets old → IfSameKind (root_element s.program) old → fresh s old ≡ made n → TreeMeets n
  unfolding fresh
  fresh_meets s mounts old n h kind is = subst PlaceMeets is (rendered_meets depth_limit s mounts (default_contexts s.program) (root_element s.program) old h kind)
