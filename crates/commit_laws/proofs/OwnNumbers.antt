-- Each instance of a tree has a number of its own: no old node is taken for two new ones.
use Rattle.std.specs.List.{cons_option, position_or_len, zip}
use Rattle.std.specs.Option.{option_flatten}
use Rattle.std.specs.Prelude.{Bool, List, None, Option, Some, [], cond, false, filter_map, length, map, nat_eq, nat_le, nat_lt, not, option_and_then, position, refl, slice_get, slice_set, suc, true, zero, ℕ, ℤ, ◌&&◌, ◌*◌, ◌++◌, ◌+◌, ◌<◌, ◌||◌, ◌∷◌, ◌≡◌, ◌≤◌, ◌⊎◌}
use Rattle.std.proofs.Common.{ap, arith, inl, inr, le_trans, subst, sym, ◌∙◌}
use Rattle.std.proofs.Math.Nat.{mul-le-mul_right}
use Rattle.std.proofs.lemmas.Bool.Decides.{nat_tests}
use Rattle.std.proofs.lemmas.Option.{slice_get_past}
use Rattle.rx_ast.specs.Syntax.{Component}
use Rattle.rx_rules.specs.Bounds.{levels}
use Rattle.rx_rules.specs.Names.{component_at}
use Rattle.rx_elem.specs.Compare.{node_at, old_nodes}
use Rattle.rx_elem.specs.Elements.{Element, Elements, key_of, kind_of, listed, same_kind}
use Rattle.rx_elem.specs.Identity.{Child, Identity, identities, identities_after, identity_after, is_same_child, same_identity}
use Rattle.rx_elem.specs.Numbers.{Numbers, numbered, numbered_host, numbered_in, numbered_instance, numbered_mark}
use Rattle.rx_elem.specs.Spots.{Around, Spot, around_children, at_root, spot_mark, spots, spots_in, visible_instances}
use Rattle.rx_elem.specs.Trees.{Forest, Mark, Node, child, children_if, element_of, elements_in, fallback_if, is_caught, node, node_over, none, of_boundary, of_catcher, of_host, of_instance, old_caught, places, plain, vacant}
use Rattle.rx_catch.specs.declared.state.CatchState.TheVariants.{Caught}
use Rattle.rx_meaning.specs.Body.{Body, body_of, ready, throw, wait}
use Rattle.rx_meaning.specs.Fresh.{Contexts, Place, Places, Renders, Sight, all_made, before, default_contexts, depth_limit, empty, fresh, inputs_at, instance_after, made, old_instance, one_throws, one_waits, over, over_boundary, over_catcher, place, place_of, render_all, render_list, rendered, root_element, shape_of_body, shape_of_catcher, shape_of_component, throws, waits}
use Rattle.commit_laws.proofs.CommitSettles.{mark_rises, number_rises, numbers_rise}
use Rattle.rx_elem.proofs.Over.{over_children, over_fallback}
use Rattle.rx_elem.proofs.Identities.{Distinct, child_of, distinct_after, distinct_equals, equals}
use Rattle.commit_laws.proofs.Settling.{kept_at, kept_listed, number_if, visible_at, visible_listed}
use Rattle.commit_laws.proofs.Rendered.{AreApart}
use Rattle.rx_meaning.specs.Settled.{HasOwnNumbers, includes, is_numbered_so, number_of, times_numbered, times_numbered_if, times_numbered_in}
use Rattle.rx_elem.specs.Elements as elements

-- No old node is taken twice

-- the children of a list of trees, each with its identity, by the elements before them
abbrev pub kids : List Element → Forest → List Child
kids before ns = map child_of (zip (identities_after before (elements_in ns)) (elements_in ns))

-- the first old node that passes a test
abbrev pub first_that : (Child → Bool) → List Element → Forest → Option Node
first_that test before none = None
first_that test before (vacant ns) =
    cond (test (record { identity = identity_after before None; element = elements.null })) None (first_that test (before ++ elements.null ∷ []) ns)
first_that test before (child n ns) =
    cond (test (record { identity = identity_after before (key_of (element_of n)); element = element_of n })) (Some n) (first_that test (before ++ element_of n ∷ []) ns)

first_at : (test : Child → Bool) (before : List Element) (ns : Forest)
    → option_flatten (slice_get (places ns) (position_or_len test (kids before ns))) ≡ first_that test before ns
first_at test before none = refl
first_at test before (vacant ns) = go (test (record { identity = identity_after before None; element = elements.null })) (first_at test (before ++ elements.null ∷ []) ns)
  where
    go : (b : Bool) → option_flatten (slice_get (places ns) (position_or_len test (kids (before ++ elements.null ∷ []) ns))) ≡ first_that test (before ++ elements.null ∷ []) ns
        → option_flatten (slice_get (None ∷ places ns) (cond (not b) (1 + position_or_len test (kids (before ++ elements.null ∷ []) ns)) 0))
        ≡ cond b None (first_that test (before ++ elements.null ∷ []) ns)
    go true h = refl
    go false h = later (position_or_len test (kids (before ++ elements.null ∷ []) ns)) h
      where
        later : (k : ℕ) → option_flatten (slice_get (places ns) k) ≡ first_that test (before ++ elements.null ∷ []) ns
            → option_flatten (slice_get (None ∷ places ns) (1 + k)) ≡ first_that test (before ++ elements.null ∷ []) ns
        later k h = let e : 1 + k ≡ suc k = omega arith in rw e h
first_at test before (child n ns) =
    go (test (record { identity = identity_after before (key_of (element_of n)); element = element_of n })) (first_at test (before ++ element_of n ∷ []) ns)
  where
    go : (b : Bool) → option_flatten (slice_get (places ns) (position_or_len test (kids (before ++ element_of n ∷ []) ns))) ≡ first_that test (before ++ element_of n ∷ []) ns
        → option_flatten (slice_get (Some n ∷ places ns) (cond (not b) (1 + position_or_len test (kids (before ++ element_of n ∷ []) ns)) 0))
        ≡ cond b (Some n) (first_that test (before ++ element_of n ∷ []) ns)
    go true h = refl
    go false h = later (position_or_len test (kids (before ++ element_of n ∷ []) ns)) h
      where
        later : (k : ℕ) → option_flatten (slice_get (places ns) k) ≡ first_that test (before ++ element_of n ∷ []) ns
            → option_flatten (slice_get (Some n ∷ places ns) (1 + k)) ≡ first_that test (before ++ element_of n ∷ []) ns
        later k h = let e : 1 + k ≡ suc k = omega arith in rw e h

same_length : (before : List Element) (ns : Forest) → length (kids before ns) ≡ length (places ns)
same_length before none = refl
same_length before (vacant ns) = ap suc (same_length (before ++ elements.null ∷ []) ns)
same_length before (child n ns) = ap suc (same_length (before ++ element_of n ∷ []) ns)

-- the old node of a new child is the first that is the same
pub found_first : (test : Child → Bool) (ns : Forest) → option_and_then (node_at ns) (position test (kids [] ns)) ≡ first_that test [] ns
found_first test ns = go (nat_lt (position_or_len test (kids [] ns)) (length (kids [] ns))) refl ∙ first_at test [] ns
  where
    go : (b : Bool) → nat_lt (position_or_len test (kids [] ns)) (length (kids [] ns)) ≡ b
        → option_and_then (node_at ns) (cond b (Some (position_or_len test (kids [] ns))) None) ≡ option_flatten (slice_get (places ns) (position_or_len test (kids [] ns)))
    go true h = refl
    go false h =
        let past : length (places ns) ≤ position_or_len test (kids [] ns) = grind (arith, nat_tests, same_length [] ns) in
        rw (slice_get_past (places ns) (position_or_len test (kids [] ns)) past) refl

-- how often a number stands in the old nodes of these children
abbrev taken : ℕ → List Element → Forest → List Child → ℕ
taken n before ns [] = 0
taken n before ns (c ∷ cs) = times_numbered_if n (first_that (is_same_child c) before ns) + taken n before ns cs

abbrev ids_of : List Child → List Identity
ids_of [] = []
ids_of (c ∷ cs) = c.identity ∷ ids_of cs

sum_times : (a b c : ℕ) → (a + b) * c ≡ a * c + b * c
sum_times a b c = grind arith

nothing_taken : (n : ℕ) (before : List Element) (cs : List Child) → taken n before none cs ≡ 0
nothing_taken n before [] = refl
nothing_taken n before (c ∷ cs) = omega (arith, nothing_taken n before cs)

gap_taken : (n : ℕ) (before : List Element) (ns : Forest) (cs : List Child) → taken n before (vacant ns) cs ≤ taken n (before ++ elements.null ∷ []) ns cs
gap_taken n before ns [] = omega arith
gap_taken n before ns (c ∷ cs) = go (is_same_child c (record { identity = identity_after before None; element = elements.null })) (gap_taken n before ns cs)
  where
    go : (b : Bool) → taken n before (vacant ns) cs ≤ taken n (before ++ elements.null ∷ []) ns cs
        → times_numbered_if n (cond b None (first_that (is_same_child c) (before ++ elements.null ∷ []) ns)) + taken n before (vacant ns) cs
        ≤ times_numbered_if n (first_that (is_same_child c) (before ++ elements.null ∷ []) ns) + taken n (before ++ elements.null ∷ []) ns cs
    go true h = omega arith
    go false h = omega arith

child_taken : (n : ℕ) (before : List Element) (x : Node) (ns : Forest) (cs : List Child)
    → taken n before (child x ns) cs ≤ equals (identity_after before (key_of (element_of x))) (ids_of cs) * times_numbered n x + taken n (before ++ element_of x ∷ []) ns cs
child_taken n before x ns [] = omega arith
child_taken n before x ns (c ∷ cs) =
    go (same_identity c.identity (identity_after before (key_of (element_of x)))) (same_kind (kind_of c.element) (kind_of (element_of x)))
    (child_taken n before x ns cs)
    (sum_times 1 (equals (identity_after before (key_of (element_of x))) (ids_of cs)) (times_numbered n x))
    (sum_times 0 (equals (identity_after before (key_of (element_of x))) (ids_of cs)) (times_numbered n x))
  where
    go : (a b : Bool) → taken n before (child x ns) cs ≤ equals (identity_after before (key_of (element_of x))) (ids_of cs) * times_numbered n x + taken n (before ++ element_of x ∷ []) ns cs
        → (1 + equals (identity_after before (key_of (element_of x))) (ids_of cs)) * times_numbered n x
        ≡ 1 * times_numbered n x + equals (identity_after before (key_of (element_of x))) (ids_of cs) * times_numbered n x
        → (0 + equals (identity_after before (key_of (element_of x))) (ids_of cs)) * times_numbered n x
        ≡ 0 * times_numbered n x + equals (identity_after before (key_of (element_of x))) (ids_of cs) * times_numbered n x
        → times_numbered_if n (cond (a && b) (Some x) (first_that (is_same_child c) (before ++ element_of x ∷ []) ns)) + taken n before (child x ns) cs
        ≤ (cond a 1 0 + equals (identity_after before (key_of (element_of x))) (ids_of cs)) * times_numbered n x
        + (times_numbered_if n (first_that (is_same_child c) (before ++ element_of x ∷ []) ns) + taken n (before ++ element_of x ∷ []) ns cs)
    go true true h k l = omega arith
    go true false h k l = omega arith
    go false b h k l = omega arith

taken_once : (n : ℕ) (cs : List Child) → Distinct (ids_of cs) → (before : List Element) (ns : Forest) → taken n before ns cs ≤ times_numbered_in n ns
taken_once n cs d before none = omega (arith, nothing_taken n before cs)
taken_once n cs d before (vacant ns) = omega (arith, gap_taken n before ns cs, taken_once n cs d (before ++ elements.null ∷ []) ns)
taken_once n cs d before (child x ns) =
    let most = mul-le-mul_right (times_numbered n x) (distinct_equals (identity_after before (key_of (element_of x))) (ids_of cs) d) in
    omega (arith, child_taken n before x ns cs, most, taken_once n cs d (before ++ element_of x ∷ []) ns)

-- how often a number stands in some old nodes
abbrev sum_olds : ℕ → List (Option Node) → ℕ
sum_olds n [] = 0
sum_olds n (o ∷ os) = times_numbered_if n o + sum_olds n os

sum_taken : (n : ℕ) (old : Forest) (cs : List Child) → sum_olds n (map (option_and_then (node_at old)) (map (λ c. position (is_same_child c) (kids [] old)) cs)) ≡ taken n [] old cs
sum_taken n old [] = refl
sum_taken n old (c ∷ cs) = rw (found_first (is_same_child c) old, sum_taken n old cs) refl

ids_again : (before es : List Element) → ids_of (map child_of (zip (identities_after before es) es)) ≡ identities_after before es
ids_again before [] = refl
ids_again before (e ∷ es) = ap (λ ids. identity_after before (key_of e) ∷ ids) (ids_again (before ++ e ∷ []) es)

olds_once : (n : ℕ) (old : Forest) (es : List Element) → sum_olds n (old_nodes old es) ≤ times_numbered_in n old
olds_once n old es =
    omega (
      arith,
      sum_taken n old (map child_of (zip (identities es) es)),
      taken_once n (map child_of (zip (identities es) es)) (subst Distinct (sym (ids_again [] es)) (distinct_after [] es)) [] old,
    )

-- Rendering

abbrev pub CountIs : ℕ → ℕ → Place → Type 0
CountIs n most empty = Unit {0}
CountIs n most (made x) = times_numbered n x ≤ most
CountIs n most (waits a) = Unit {0}
CountIs n most (throws x) = Unit {0}

abbrev CountsAre : ℕ → ℕ → Places → Type 0
CountsAre n most (all_made ns) = times_numbered_in n ns ≤ most
CountsAre n most (one_waits a) = Unit {0}
CountsAre n most (one_throws x) = Unit {0}

before_counts : (n x y : ℕ) (p : Place) (ps : Places) → CountIs n x p → CountsAre n y ps → CountsAre n (x + y) (before p ps)
before_counts n x y empty (all_made ns) h l = omega arith
before_counts n x y empty (one_waits a) h l = tt
before_counts n x y empty (one_throws z) h l = tt
before_counts n x y (made m) (all_made ns) h l = omega arith
before_counts n x y (made m) (one_waits a) h l = tt
before_counts n x y (made m) (one_throws z) h l = tt
before_counts n x y (waits a) ps h l = tt
before_counts n x y (throws z) ps h l = tt

abbrev Counts : ℕ → Renders → Type 0
Counts n f = (e : Element) (old : Option Node) → CountIs n (times_numbered_if n old) (f e old)

all_count : (n : ℕ) (f : Renders) → Counts n f → (es : List Element) (olds : List (Option Node)) → CountsAre n (sum_olds n olds) (render_all f (zip es olds))
all_count n f h [] olds = omega arith
all_count n f h (e ∷ es) [] = omega arith
all_count n f h (e ∷ es) (o ∷ olds) =
    before_counts n (times_numbered_if n o) (sum_olds n olds) (f e o) (render_all f (zip es olds)) (h e o) (all_count n f h es olds)

fewer_counts : (n x y : ℕ) (ps : Places) → x ≤ y → CountsAre n x ps → CountsAre n y ps
fewer_counts n x y (all_made ns) l h = omega arith
fewer_counts n x y (one_waits a) l h = tt
fewer_counts n x y (one_throws z) l h = tt

list_counts : (n : ℕ) (f : Renders) → Counts n f → (es : List Element) (old : Forest) → CountsAre n (times_numbered_in n old) (render_list f es old)
list_counts n f h es old =
    fewer_counts n (sum_olds n (old_nodes old es)) (times_numbered_in n old) (render_list f es old) (olds_once n old es) (all_count n f h es (old_nodes old es))

-- a number at a node, and those below it
old_parts : (n : ℕ) (old : Option Node) → times_numbered_in n (children_if old) + times_numbered_in n (fallback_if old) ≤ times_numbered_if n old
old_parts n None = omega arith
old_parts n (Some (node e m ns fs)) = omega arith

over_counts : (n most own : ℕ) (e : Element) (m : Mark) (ps : Places) → cond (is_numbered_so n (number_of m)) 1 0 ≤ own → CountsAre n most ps → CountIs n (own + most) (over e m ps)
over_counts n most own e m (all_made ns) h l = go (is_caught m) refl
  where
    go : (b : Bool) → is_caught m ≡ b → times_numbered n (node_over e m ns) ≤ own + most
    go true e1 = rw (over_fallback e m ns e1) (omega arith)
    go false e1 = rw (over_children e m ns e1) (omega arith)
over_counts n most own e m (one_waits a) h l = tt
over_counts n most own e m (one_throws x) h l = tt

fewer_count : (n x y : ℕ) (p : Place) → x ≤ y → CountIs n x p → CountIs n y p
fewer_count n x y empty l h = tt
fewer_count n x y (made m) l h = omega arith
fewer_count n x y (waits a) l h = tt
fewer_count n x y (throws z) l h = tt

-- an instance that goes on has its number, and a new one none
instance_counts : (n c : ℕ) (old : Option Node) (initials : _) (reads : _) (versions : _) (effects : _)
    → cond (is_numbered_so n (instance_after c (old_instance old) initials reads versions effects).number) 1 0 + times_numbered_in n (children_if old) ≤ times_numbered_if n old
instance_counts n c None initials reads versions effects = omega arith
instance_counts n c (Some (node e (of_instance i) ns fs)) initials reads versions effects = omega arith
instance_counts n c (Some (node e (of_host h) ns fs)) initials reads versions effects = omega arith
instance_counts n c (Some (node e plain ns fs)) initials reads versions effects = omega arith
instance_counts n c (Some (node e (of_boundary b) ns fs)) initials reads versions effects = omega arith
instance_counts n c (Some (node e (of_catcher b) ns fs)) initials reads versions effects = omega arith

body_counts : (n : ℕ) (f : Contexts → Renders) (cs : Contexts) (c : ℕ) → Counts n (f cs) → (e : Element) (old : Option Node) (b : Body)
    → CountIs n (times_numbered_if n old) (place_of f e old (shape_of_body cs c old b))
body_counts n f cs c h e old (wait r v) = tt
body_counts n f cs c h e old (throw x) = tt
body_counts n f cs c h e old (ready es effects initials reads versions) =
    fewer_count n (cond (is_numbered_so n (instance_after c (old_instance old) initials reads versions effects).number) 1 0 + times_numbered_in n (children_if old)) (times_numbered_if n old)
    (over e (of_instance (instance_after c (old_instance old) initials reads versions effects)) (render_list (f cs) es (children_if old)))
    (instance_counts n c old initials reads versions effects)
    (over_counts n (times_numbered_in n (children_if old)) (cond (is_numbered_so n (instance_after c (old_instance old) initials reads versions effects).number) 1 0) e
    (of_instance (instance_after c (old_instance old) initials reads versions effects)) (render_list (f cs) es (children_if old)) (omega arith) (list_counts n (f cs) h es (children_if old)))

component_counts : (n : ℕ) (s : Sight) (f : Contexts → Renders) (cs : Contexts) (c : ℕ) → Counts n (f cs) → (e : Element) (props : List ℤ) (es : Elements) (old : Option Node) (d : Option Component)
    → CountIs n (times_numbered_if n old) (place_of f e old (shape_of_component s cs c props es old d))
component_counts n s f cs c h e props es old None = tt
component_counts n s f cs c h e props es old (Some d) = body_counts n f cs c h e old (body_of s.program d (inputs_at s cs props es (old_instance old)))

parts_count : (n : ℕ) (e : Element) (old : Option Node) (ps qs : Places) → CountsAre n (times_numbered_in n (children_if old)) ps → CountsAre n (times_numbered_in n (fallback_if old)) qs
    → CountIs n (times_numbered_if n old) (over_boundary e old ps qs)
parts_count n e old (all_made ns) qs h l = omega (arith, old_parts n old)
parts_count n e old (one_waits a) (all_made fs) h l = omega (arith, old_parts n old)
parts_count n e old (one_waits a) (one_waits b) h l = tt
parts_count n e old (one_waits a) (one_throws x) h l = tt
parts_count n e old (one_throws x) qs h l = tt

caught_count : (n : ℕ) (e : Element) (x : ℤ) (old : Option Node) (qs : Places) → CountsAre n (times_numbered_in n (fallback_if old)) qs
    → CountIs n (times_numbered_if n old) (over e (of_catcher (Caught x)) qs)
caught_count n e x old (all_made fs) l = omega (arith, old_parts n old)
caught_count n e x old (one_waits a) l = tt
caught_count n e x old (one_throws y) l = tt

guarded_count : (n : ℕ) (e : Element) (old : Option Node) (ps qs : Places) → CountsAre n (times_numbered_in n (children_if old)) ps → CountsAre n 0 qs
    → CountIs n (times_numbered_if n old) (over_catcher e ps qs)
guarded_count n e old (all_made ns) qs h l = omega (arith, old_parts n old)
guarded_count n e old (one_waits a) qs h l = tt
guarded_count n e old (one_throws x) qs h l = caught_count n e x old qs (fewer_counts n 0 (times_numbered_in n (fallback_if old)) qs (omega arith) l)

catcher_count : (n : ℕ) (f : Renders) → Counts n f → (below : Contexts → Renders) (cs : Contexts) → below cs ≡ f → (key : _) (g : Element) (es : Elements) (old : Option Node) (caught : Option ℤ)
    → CountIs n (times_numbered_if n old) (place_of below (elements.catcher key g es) old (shape_of_catcher cs g es old caught))
catcher_count n f h below cs same key g es old None =
    rw same
    (guarded_count n (elements.catcher key g es) old (render_list f (listed es) (children_if old)) (render_list f (g ∷ []) none)
    (list_counts n f h (listed es) (children_if old)) (list_counts n f h (g ∷ []) none))
catcher_count n f h below cs same key g es old (Some x) =
    rw same (caught_count n (elements.catcher key g es) x old (render_list f (g ∷ []) (fallback_if old)) (list_counts n f h (g ∷ []) (fallback_if old)))

plain_count : (n : ℕ) (f : Renders) → Counts n f → (e : Element) (m : Mark) → number_of m ≡ None → (es : List Element) (old : Option Node)
    → CountIs n (times_numbered_if n old) (over e m (render_list f es (children_if old)))
plain_count n f h e m same es old =
    fewer_count n (0 + times_numbered_in n (children_if old)) (times_numbered_if n old) (over e m (render_list f es (children_if old))) (omega (arith, old_parts n old))
    (over_counts n (times_numbered_in n (children_if old)) 0 e m (render_list f es (children_if old)) (rw same (omega arith)) (list_counts n f h es (children_if old)))

place_counts : (n : ℕ) (s : Sight) (f : Contexts → Renders) → ((cs : Contexts) → Counts n (f cs)) → (cs : Contexts) → Counts n (place f s cs)
place_counts n s f h cs elements.null old = tt
place_counts n s f h cs (elements.text t) old = omega arith
place_counts n s f h cs (elements.host name key attrs es) old = plain_count n (f cs) (h cs) (elements.host name key attrs es) (of_host _) refl (listed es) old
place_counts n s f h cs (elements.comp c key props es) old = component_counts n s f cs c (h cs) (elements.comp c key props es) props es old (component_at s.program c)
place_counts n s f h cs (elements.list marked es) old = plain_count n (f cs) (h cs) (elements.list marked es) plain refl (listed es) old
place_counts n s f h cs (elements.boundary key e es) old =
    parts_count n (elements.boundary key e es) old (render_list (f cs) (listed es) (children_if old)) (render_list (f cs) (e ∷ []) (fallback_if old))
    (list_counts n (f cs) (h cs) (listed es) (children_if old)) (list_counts n (f cs) (h cs) (e ∷ []) (fallback_if old))
place_counts n s f h cs (elements.catcher key e es) old = catcher_count n (f cs) (h cs) f cs refl key e es old (old_caught old)
place_counts n s f h cs (elements.provider c key x es) old =
    plain_count n (f (slice_set cs c x)) (h (slice_set cs c x)) (elements.provider c key x es) plain refl (listed es) old

-- A render takes each numbered instance at most once.
pub rendered_counts : (n levels : ℕ) (s : Sight) (cs : Contexts) → Counts n (rendered levels s cs)
unfolding rendered
rendered_counts n zero s cs e old = tt
rendered_counts n (suc levels) s cs e old = place_counts n s (rendered levels s) (rendered_counts n levels s) cs e old

-- Numbering

-- one if a number lies in a range
abbrev between : ℕ → ℕ → ℕ → ℕ
between a b n = cond (nat_le a n && nat_lt n b) 1 0

between_parts : (a b c n : ℕ) → a ≤ b → b ≤ c → between a b n + between b c n ≡ between a c n
between_parts a b c n h k = go (nat_le a n) (nat_lt n b) (nat_le b n) (nat_lt n c) refl refl refl refl
  where
    go : (p q r t : Bool) → nat_le a n ≡ p → nat_lt n b ≡ q → nat_le b n ≡ r → nat_lt n c ≡ t → cond (p && q) 1 0 + cond (r && t) 1 0 ≡ cond (p && t) 1 0
    go true true true t e f g i = absurd (grind (arith, nat_tests))
    go true true false true e f g i = refl
    go true true false false e f g i = absurd (grind (arith, nat_tests))
    go true false true true e f g i = refl
    go true false true false e f g i = refl
    go true false false t e f g i = absurd (grind (arith, nat_tests))
    go false q true t e f g i = absurd (grind (arith, nat_tests))
    go false q false t e f g i = refl

next_between : (a n : ℕ) → cond (nat_eq n a) 1 0 ≤ between a (a + 1) n
next_between a n = go (nat_eq n a) (nat_le a n) (nat_lt n (a + 1)) refl refl refl
  where
    go : (p q r : Bool) → nat_eq n a ≡ p → nat_le a n ≡ q → nat_lt n (a + 1) ≡ r → cond p 1 0 ≤ cond (q && r) 1 0
    go true true true e f g = omega arith
    go true true false e f g = absurd (grind (arith, nat_tests))
    go true false r e f g = absurd (grind (arith, nat_tests))
    go false q r e f g = omega arith

mark_counts : (n : ℕ) (c : Numbers) (m : Mark)
    → cond (is_numbered_so n (number_of (numbered_mark c m).1)) 1 0 ≤ cond (is_numbered_so n (number_of m)) 1 0 + between c.instance (numbered_mark c m).0.instance n
mark_counts n c (of_instance i) = go i.number
  where
    go : (k : Option ℕ) → cond (is_numbered_so n (number_of (numbered_instance c (record i { number = k }) k).1)) 1 0
        ≤ cond (is_numbered_so n k) 1 0 + between c.instance (numbered_instance c (record i { number = k }) k).0.instance n
    go None = omega (arith, next_between c.instance n)
    go (Some k) = omega arith
mark_counts n c (of_host h) = go h
  where
    go : (k : Option ℕ) → cond (is_numbered_so n (number_of (numbered_host c k).1)) 1 0 ≤ 0 + between c.instance (numbered_host c k).0.instance n
    go None = omega arith
    go (Some k) = omega arith
mark_counts n c plain = omega arith
mark_counts n c (of_boundary b) = omega arith
mark_counts n c (of_catcher b) = omega arith

mutual
  pub numbered_counts : (n : ℕ) (c : Numbers) (x : Node) → times_numbered n (numbered c x).1 ≤ times_numbered n x + between c.instance (numbered c x).0.instance n
  numbered_counts n c (node e m ns fs) =
      omega (
        arith,
        mark_counts n c m,
        all_numbered_count n (numbered_mark c m).0 ns,
        all_numbered_count n (numbered_in (numbered_mark c m).0 ns).0 fs,
        between_parts c.instance (numbered_mark c m).0.instance (numbered_in (numbered_mark c m).0 ns).0.instance n (mark_rises c m) (numbers_rise (numbered_mark c m).0 ns),
        between_parts c.instance (numbered_in (numbered_mark c m).0 ns).0.instance (numbered_in (numbered_in (numbered_mark c m).0 ns).0 fs).0.instance n
            (le_trans (mark_rises c m) (numbers_rise (numbered_mark c m).0 ns)) (numbers_rise (numbered_in (numbered_mark c m).0 ns).0 fs),
      )

  all_numbered_count : (n : ℕ) (c : Numbers) (ns : Forest) → times_numbered_in n (numbered_in c ns).1 ≤ times_numbered_in n ns + between c.instance (numbered_in c ns).0.instance n
  all_numbered_count n c none = omega arith
  all_numbered_count n c (vacant ns) = all_numbered_count n c ns
  all_numbered_count n c (child x ns) =
      omega (
        arith,
        numbered_counts n c x,
        all_numbered_count n (numbered c x).0 ns,
        between_parts c.instance (numbered c x).0.instance (numbered_in (numbered c x).0 ns).0.instance n (number_rises c x) (numbers_rise (numbered c x).0 ns),
      )

no_more_than_one : (a b n : ℕ) → between a b n ≤ 1
no_more_than_one a b n = go (nat_le a n && nat_lt n b)
  where
    go : (p : Bool) → cond p 1 0 ≤ 1
    go true = omega arith
    go false = omega arith

pub not_below : (a b n : ℕ) → n < a → between a b n ≤ 0
not_below a b n h = go (nat_le a n) (nat_lt n b) refl
  where
    go : (p q : Bool) → nat_le a n ≡ p → cond (p && q) 1 0 ≤ 0
    go true q e = absurd (grind (arith, nat_tests))
    go false q e = omega arith

not_above : (a b n : ℕ) → b ≤ n → between a b n ≤ 0
not_above a b n h = go (nat_le a n) (nat_lt n b) refl
  where
    go : (p q : Bool) → nat_lt n b ≡ q → cond (p && q) 1 0 ≤ 0
    go p true e = absurd (grind (arith, nat_tests))
    go true false e = omega arith
    go false false e = omega arith

-- A commit leaves each instance with a number of its own.
pub numbers_stay_own : (s : Sight) (old : Option Node) (new : Node) (from : Numbers) → HasOwnNumbers from.instance old → fresh s old ≡ made new
    → HasOwnNumbers (numbered from new).0.instance (Some (numbered from new).1)
unfolding fresh
numbers_stay_own s old new from own gives = λ n. (at_most n (cases_lt n), none_later n)
  where
    counts : (n : ℕ) → times_numbered n new ≤ times_numbered_if n old
    counts n =
        let h : CountIs n (times_numbered_if n old) (fresh s old) = rendered_counts n depth_limit s (default_contexts s.program) (root_element s.program) old in
        let k : CountIs n (times_numbered_if n old) (made new) = rw gives at h in k

    cases_lt : (n : ℕ) → (n < from.instance) ⊎ (from.instance ≤ n)
    cases_lt n = go (nat_lt n from.instance) refl
      where
        go : (b : Bool) → nat_lt n from.instance ≡ b → (n < from.instance) ⊎ (from.instance ≤ n)
        go true e = inl (grind (arith, nat_tests))
        go false e = inr (grind (arith, nat_tests))

    at_most : (n : ℕ) → (n < from.instance) ⊎ (from.instance ≤ n) → times_numbered n (numbered from new).1 ≤ 1
    at_most n (inl h) =
        omega (arith, numbered_counts n from new, counts n, (own n).0, not_below from.instance (numbered from new).0.instance n h)
    at_most n (inr h) =
        omega (arith, numbered_counts n from new, counts n, (own n).1 h, no_more_than_one from.instance (numbered from new).0.instance n)

    none_later : (n : ℕ) → (numbered from new).0.instance ≤ n → times_numbered n (numbered from new).1 ≡ 0
    none_later n h =
        omega (arith, numbered_counts n from new, counts n, (own n).1 (omega (arith, number_rises from new)), not_above from.instance (numbered from new).0.instance n h)

-- Visible and kept

abbrev pub occurs : ℕ → List ℕ → ℕ
occurs n [] = 0
occurs n (x ∷ xs) = cond (nat_eq n x) 1 0 + occurs n xs

pub has_occurs : (n : ℕ) (xs : List ℕ) → includes xs n ≡ true → 1 ≤ occurs n xs
has_occurs n [] h = absurd (cc h)
has_occurs n (x ∷ xs) h = go (nat_eq n x) h (has_occurs n xs)
  where
    go : (b : Bool) → (b || includes xs n) ≡ true → (includes xs n ≡ true → 1 ≤ occurs n xs) → 1 ≤ cond b 1 0 + occurs n xs
    go true k rest = omega arith
    go false k rest = omega (arith, rest k)

abbrev pub spot_times : ℕ → List Spot → ℕ
spot_times n [] = 0
spot_times n (x ∷ xs) = cond (is_numbered_so n (number_of (spot_mark x))) 1 0 + spot_times n xs

times_append : (n : ℕ) (xs ys : List Spot) → spot_times n (xs ++ ys) ≡ spot_times n xs + spot_times n ys
times_append n [] ys = omega arith
times_append n (x ∷ xs) ys = omega (arith, times_append n xs ys)

mutual
  pub spots_times : (n : ℕ) (a : Around) (x : Node) → spot_times n (spots a x) ≡ times_numbered n x
  spots_times n a (node e m ns fs) =
      omega (arith, times_append n (spots_in (around_children a m) ns) (spots_in a fs), spots_in_times n (around_children a m) ns, spots_in_times n a fs)

  spots_in_times : (n : ℕ) (a : Around) (ns : Forest) → spot_times n (spots_in a ns) ≡ times_numbered_in n ns
  spots_in_times n a none = refl
  spots_in_times n a (vacant ns) = spots_in_times n a ns
  spots_in_times n a (child x ns) = omega (arith, times_append n (spots a x) (spots_in a ns), spots_times n a x, spots_in_times n a ns)

pub occurs_option : (n : ℕ) (o : Option ℕ) (ys : List ℕ) → occurs n (cons_option o ys) ≡ cond (is_numbered_so n o) 1 0 + occurs n ys
occurs_option n None ys = omega arith
occurs_option n (Some k) ys = refl

pub both_lists : (n : ℕ) (xs : List Spot) → occurs n (filter_map visible_at xs) + occurs n (filter_map kept_at xs) ≡ spot_times n xs
both_lists n [] = omega arith
both_lists n (x ∷ xs) = go x.around.visible (filter_map visible_at xs) (filter_map kept_at xs) (both_lists n xs)
  where
    go : (v : Bool) (ys zs : List ℕ) → occurs n ys + occurs n zs ≡ spot_times n xs
        → occurs n (cons_option (number_if v (number_of (spot_mark x))) ys) + occurs n (cons_option (number_if (not v) (number_of (spot_mark x))) zs)
        ≡ cond (is_numbered_so n (number_of (spot_mark x))) 1 0 + spot_times n xs
    go true ys zs h = omega (arith, h, occurs_option n (number_of (spot_mark x)) ys)
    go false ys zs h = omega (arith, h, occurs_option n (number_of (spot_mark x)) zs)

-- If each instance has a number of its own, none is both visible and kept.
pub own_numbers_apart : (next : ℕ) (x : Node) → HasOwnNumbers next (Some x) → AreApart x
own_numbers_apart next x own i kept = go (includes (visible_instances (Some x)) i) refl
  where
    go : (b : Bool) → includes (visible_instances (Some x)) i ≡ b → b ≡ false
    go false e = refl
    go true e =
        let seen : includes (filter_map visible_at (spots at_root x)) i ≡ true = ap (λ (l : List ℕ). includes l i) (sym (visible_listed x)) ∙ e in
        let unseen : includes (filter_map kept_at (spots at_root x)) i ≡ true = ap (λ (l : List ℕ). includes l i) (sym (kept_listed x)) ∙ kept in
        let v : 1 ≤ occurs i (filter_map visible_at (spots at_root x)) = has_occurs i (filter_map visible_at (spots at_root x)) seen in
        let k : 1 ≤ occurs i (filter_map kept_at (spots at_root x)) = has_occurs i (filter_map kept_at (spots at_root x)) unseen in
        absurd (omega (arith, both_lists i (spots at_root x), spots_times i at_root x, (own i).0))
