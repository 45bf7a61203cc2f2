-- A commit leaves hidden boundaries whose children waited for what they await, and they wait for it again while nothing touches them.
use Rattle.std.specs.List.{cons_option, zip}
use Rattle.std.specs.Option.{option_flatten}
use Rattle.std.specs.Prelude.{Bool, List, None, Option, Some, [], false, filter_map, map, option_and_then, option_map, position, refl, slice_get, slice_set, suc, true, zero, ℕ, ℤ, ◌++◌, ◌∷◌, ◌≡◌, ◌≤◌}
use Rattle.std.proofs.Common.{ap, subst, sym, ◌∙◌}
use Rattle.rx_ast.specs.Syntax.{Component}
use Rattle.rx_base.specs.Awaits.{Awaits}
use Rattle.rx_base.specs.declared.cut.Cut.{Cut}
use Rattle.rx_rules.specs.Bounds.{may_throw_in}
use Rattle.rx_rules.specs.Names.{component_at}
use Rattle.rx_elem.specs.Compare.{node_at, old_nodes}
use Rattle.rx_elem.specs.Elements.{Element, Elements, listed}
use Rattle.rx_elem.specs.Identity.{Child, identified, identities_after, is_same_child}
use Rattle.rx_elem.specs.Numbers.{Numbers, numbered, numbered_host, numbered_in, numbered_instance, numbered_mark}
use Rattle.rx_elem.specs.Spots.{Around, Mounted, Spot, around_children, at_root, mounted_as, mounted_at, numbers_of, spot_mark, spots, spots_in}
use Rattle.rx_elem.specs.Trees.{Forest, Instance, Mark, Node, child, children_if, elements_in, fallback_if, instance_in, is_caught, is_hidden, node, node_over, none, of_boundary, of_catcher, of_host, of_instance, old_caught, places, plain, vacant}
use Rattle.rx_meaning.specs.Body.{Body, body_of, ready, throw, wait}
use Rattle.rx_meaning.specs.Fresh.{Contexts, Place, Places, Sight, all_made, before, default_contexts, depth_limit, empty, fresh, inputs_at, instance_after, made, old_instance, one_throws, one_waits, over, over_boundary, over_catcher, part, place, place_of, render_all, render_list, render_part, rendered, root_element, shape_of_body, shape_of_catcher, shape_of_component, throws, values_of, versions_seen, waits}
use Rattle.rx_meaning.specs.Touched.{contexts_below, instances_in, may_throw_anew, sees_refresh}
use Rattle.rx_lane.specs.Lanes.{Lanes}
use Rattle.rx_queue.specs.Journal.{Posted, Resolution, marked_update, resolutions_by}
use Rattle.rx_susp.specs.declared.boundary.BoundaryState.TheVariants.{Hidden, Shown}
use Rattle.rx_catch.specs.declared.state.CatchState.TheVariants.{Caught, Fine}
use Rattle.rx_elem.proofs.Identities.{child_of}
use Rattle.rx_elem.proofs.Over.{over_children}
use Rattle.commit_laws.proofs.KeptValues.{values_again}
use Rattle.commit_laws.proofs.Settling.{Among, among_first, among_rest}
use Rattle.commit_laws.proofs.Soundness.{marked_hidden}
use Rattle.commit_laws.proofs.VersionsStay.{accounted_done, versions_stay}
use Rattle.commit_laws.proofs.ResourceLaws.{resources_again}
use Rattle.commit_laws.proofs.WaitsAgain.{attempt_waits_again}
use Rattle.rx_meaning.specs.Again.{AccountedBefore, AllOpen, AllValuesAgree, AreUnresolved, NoNewUpdate, ValuesAgree, WaitsAreSmall}
use Rattle.commit_laws.specs.HiddenWaits.{AllHiddenWait, AllNumbered, AllSeen, HiddenWaits, IfNumbered, IsNumbered, Numbered, OwnWaits, Seen, journal_since, later_sight}
use Rattle.rx_meaning.specs.Settled.{HasValuesOf, IfHidden, includes, number_of}
use Rattle.rx_elem.specs.Elements as elements

-- a number that may be missing is among these
abbrev pub NumberIn : List ℕ → Option ℕ → Type 0
NumberIn set o = (i : ℕ) → o ≡ Some i → includes set i ≡ true

-- the same for a tree
abbrev mutual
  pub NumbersIn : List ℕ → Node → Type 0
  NumbersIn set (node e m ns fs) = NumberIn set (number_of m) × AllNumbersIn set ns × AllNumbersIn set fs

  -- the same for the trees of a list
  pub AllNumbersIn : List ℕ → Forest → Type 0
  AllNumbersIn set none = Unit {0}
  AllNumbersIn set (vacant ns) = AllNumbersIn set ns
  AllNumbersIn set (child n ns) = NumbersIn set n × AllNumbersIn set ns

-- Rendering

abbrev PlaceHides : ℕ → Sight → Contexts → Place → Type 0
PlaceHides n s cs empty = Unit {0}
PlaceHides n s cs (made x) = HiddenWaits n s cs x
PlaceHides n s cs (waits a) = Unit {0}
PlaceHides n s cs (throws x) = Unit {0}

abbrev PlacesHide : ℕ → Sight → Contexts → Places → Type 0
PlacesHide n s cs (all_made ns) = AllHiddenWait n s cs ns
PlacesHide n s cs (one_waits a) = Unit {0}
PlacesHide n s cs (one_throws x) = Unit {0}

before_hides : (n : ℕ) (s : Sight) (cs : Contexts) (p : Place) (ps : Places) → PlaceHides n s cs p → PlacesHide n s cs ps → PlacesHide n s cs (before p ps)
before_hides n s cs empty (all_made ns) h k = k
before_hides n s cs empty (one_waits a) h k = tt
before_hides n s cs empty (one_throws y) h k = tt
before_hides n s cs (made x) (all_made ns) h k = (h, k)
before_hides n s cs (made x) (one_waits a) h k = tt
before_hides n s cs (made x) (one_throws y) h k = tt
before_hides n s cs (waits a) ps h k = tt
before_hides n s cs (throws x) ps h k = tt

abbrev AllOld : List Element → List (Option Node) → Type 0
AllOld [] olds = Unit {0}
AllOld (e ∷ es) [] = ⊥
AllOld (e ∷ es) (o ∷ olds) = IfNumbered o × AllOld es olds

got_numbered : (ns : Forest) → AllNumbered ns → (q : ℕ) → IfNumbered (option_flatten (slice_get (places ns) q))
got_numbered none h q = tt
got_numbered (vacant ns) h zero = tt
got_numbered (vacant ns) h (suc q) = got_numbered ns h q
got_numbered (child n ns) h zero = h.0
got_numbered (child n ns) h (suc q) = got_numbered ns h.1 q

node_numbered : (ns : Forest) → AllNumbered ns → (q : Option ℕ) → IfNumbered (option_and_then (node_at ns) q)
node_numbered ns h None = tt
node_numbered ns h (Some q) = got_numbered ns h q

olds_numbered : (ns : Forest) → AllNumbered ns → (all : List Child) (before es : List Element)
    → AllOld es (map (option_and_then (node_at ns)) (map (λ c. position (is_same_child c) all) (map child_of (zip (identities_after before es) es))))
olds_numbered ns h all before [] = tt
olds_numbered ns h all before (e ∷ es) = (node_numbered ns h (position (is_same_child _) all), olds_numbered ns h all (before ++ e ∷ []) es)

children_numbered : (old : Option Node) → IfNumbered old → AllNumbered (children_if old)
children_numbered None h = tt
children_numbered (Some (node e m ns fs)) h = h.1

fallback_numbered : (old : Option Node) → IfNumbered old → AllNumbered (fallback_if old)
fallback_numbered None h = tt
fallback_numbered (Some (node e m ns fs)) h = h.2

abbrev BelowHides : ℕ → Sight → Type 0
BelowHides n s = (cs : Contexts) (e : Element) (old : Option Node) → IfNumbered old → PlaceHides n s cs (rendered n s cs e old)

all_hide : (n : ℕ) (s : Sight) → BelowHides n s → (cs : Contexts) (es : List Element) (olds : List (Option Node)) → AllOld es olds
    → PlacesHide n s cs (render_all (rendered n s cs) (zip es olds))
all_hide n s below cs [] olds h = tt
all_hide n s below cs (e ∷ es) [] h = absurd h
all_hide n s below cs (e ∷ es) (o ∷ olds) h =
    before_hides n s cs (rendered n s cs e o) (render_all (rendered n s cs) (zip es olds)) (below cs e o h.0) (all_hide n s below cs es olds h.1)

list_hides : (n : ℕ) (s : Sight) → BelowHides n s → (cs : Contexts) (es : List Element) (old : Forest) → AllNumbered old → PlacesHide n s cs (render_list (rendered n s cs) es old)
list_hides n s below cs es old h = all_hide n s below cs es (old_nodes old es) (olds_numbered old h (identified (elements_in old)) [] es)

-- a node over one list
over_hides : (n : ℕ) (s : Sight) (cs ds : Contexts) (e : Element) (m : Mark) (ps : Places) → is_caught m ≡ false → PlacesHide n s ds ps
    → ((ns : Forest) → AllHiddenWait n s ds ns → HiddenWaits (suc n) s cs (node e m ns none)) → PlaceHides (suc n) s cs (over e m ps)
over_hides n s cs ds e m (all_made ns) fine h f = subst (HiddenWaits (suc n) s cs) (sym (over_children e m ns fine)) (f ns h)
over_hides n s cs ds e m (one_waits a) fine h f = tt
over_hides n s cs ds e m (one_throws x) fine h f = tt

body_hides : (n : ℕ) (s : Sight) → BelowHides n s → (cs : Contexts) (c : ℕ) (key : _) (props : _) (given : _) (old : Option Node) → IfNumbered old → (b : Body)
    → PlaceHides (suc n) s cs (place_of (rendered n s) (elements.comp c key props given) old (shape_of_body cs c old b))
body_hides n s below cs c key props given old h (wait r v) = tt
body_hides n s below cs c key props given old h (throw x) = tt
body_hides n s below cs c key props given old h (ready es effects initials reads versions) =
    over_hides n s cs cs (elements.comp c key props given) (of_instance (instance_after c (old_instance old) initials reads versions effects))
    (render_list (rendered n s cs) es (children_if old)) refl (list_hides n s below cs es (children_if old) (children_numbered old h)) (λ ns all. (tt, all, tt))

component_hides : (n : ℕ) (s : Sight) → BelowHides n s → (cs : Contexts) (c : ℕ) (key : _) (props : List ℤ) (given : Elements) (old : Option Node) → IfNumbered old → (d : Option Component)
    → PlaceHides (suc n) s cs (place_of (rendered n s) (elements.comp c key props given) old (shape_of_component s cs c props given old d))
component_hides n s below cs c key props given old h None = tt
component_hides n s below cs c key props given old h (Some d) = body_hides n s below cs c key props given old h (body_of s.program d (inputs_at s cs props given (old_instance old)))

parts_hide : (n : ℕ) (s : Sight) (cs : Contexts) (key : _) (f : Element) (es : Elements) (old : Option Node) → IfNumbered old → (ps qs : Places)
    → render_list (rendered n s cs) (listed es) (children_if old) ≡ ps → PlacesHide n s cs ps → PlacesHide n s cs qs
    → PlaceHides (suc n) s cs (over_boundary (elements.boundary key f es) old ps qs)
parts_hide n s cs key f es old o (all_made ns) qs same h k = (tt, h, tt)
parts_hide n s cs key f es old o (one_waits a) (all_made fs) same h k = ((same, children_numbered old o), tt, k)
parts_hide n s cs key f es old o (one_waits a) (one_waits b) same h k = tt
parts_hide n s cs key f es old o (one_waits a) (one_throws y) same h k = tt
parts_hide n s cs key f es old o (one_throws x) qs same h k = tt

-- an error boundary over its fallback
caught_hides : (n : ℕ) (s : Sight) (cs : Contexts) (e : Element) (x : ℤ) (qs : Places) → PlacesHide n s cs qs → PlaceHides (suc n) s cs (over e (of_catcher (Caught x)) qs)
caught_hides n s cs e x (all_made fs) k = (own_free e, tt, k)
  where
    own_free : (e : Element) → OwnWaits n s cs e (of_catcher (Caught x)) none
    own_free elements.null = tt
    own_free (elements.text t) = tt
    own_free (elements.host name key attrs es) = tt
    own_free (elements.comp c key props given) = tt
    own_free (elements.list marked es) = tt
    own_free (elements.boundary key f es) = tt
    own_free (elements.catcher key f es) = tt
    own_free (elements.provider c key z es) = tt
caught_hides n s cs e x (one_waits a) k = tt
caught_hides n s cs e x (one_throws y) k = tt

guarded_hide : (n : ℕ) (s : Sight) (cs : Contexts) (key : _) (f : Element) (es : Elements) (ps qs : Places) → PlacesHide n s cs ps → PlacesHide n s cs qs
    → PlaceHides (suc n) s cs (over_catcher (elements.catcher key f es) ps qs)
guarded_hide n s cs key f es (all_made ns) qs h k = (tt, h, tt)
guarded_hide n s cs key f es (one_waits a) qs h k = tt
guarded_hide n s cs key f es (one_throws x) qs h k = caught_hides n s cs (elements.catcher key f es) x qs k

catcher_hides : (n : ℕ) (s : Sight) → BelowHides n s → (cs : Contexts) (key : _) (f : Element) (es : Elements) (old : Option Node) → IfNumbered old → (o : Option ℤ)
    → PlaceHides (suc n) s cs (place_of (rendered n s) (elements.catcher key f es) old (shape_of_catcher cs f es old o))
catcher_hides n s below cs key f es old h None =
    guarded_hide n s cs key f es (render_list (rendered n s cs) (listed es) (children_if old)) (render_list (rendered n s cs) (f ∷ []) none)
    (list_hides n s below cs (listed es) (children_if old) (children_numbered old h)) (list_hides n s below cs (f ∷ []) none tt)
catcher_hides n s below cs key f es old h (Some x) =
    caught_hides n s cs (elements.catcher key f es) x (render_list (rendered n s cs) (f ∷ []) (fallback_if old))
    (list_hides n s below cs (f ∷ []) (fallback_if old) (fallback_numbered old h))

place_hides : (n : ℕ) (s : Sight) → BelowHides n s → (cs : Contexts) (e : Element) (old : Option Node) → IfNumbered old → PlaceHides (suc n) s cs (place (rendered n s) s cs e old)
place_hides n s below cs elements.null old h = tt
place_hides n s below cs (elements.text t) old h = (tt, tt, tt)
place_hides n s below cs (elements.host name key attrs es) old h =
    over_hides n s cs cs (elements.host name key attrs es) (of_host _) (render_list (rendered n s cs) (listed es) (children_if old)) refl
    (list_hides n s below cs (listed es) (children_if old) (children_numbered old h)) (λ ns all. (tt, all, tt))
place_hides n s below cs (elements.comp c key props given) old h = component_hides n s below cs c key props given old h (component_at s.program c)
place_hides n s below cs (elements.list marked es) old h =
    over_hides n s cs cs (elements.list marked es) plain (render_list (rendered n s cs) (listed es) (children_if old)) refl
    (list_hides n s below cs (listed es) (children_if old) (children_numbered old h)) (λ ns all. (tt, all, tt))
place_hides n s below cs (elements.boundary key f es) old h =
    parts_hide n s cs key f es old h (render_list (rendered n s cs) (listed es) (children_if old)) (render_list (rendered n s cs) (f ∷ []) (fallback_if old)) refl
    (list_hides n s below cs (listed es) (children_if old) (children_numbered old h)) (list_hides n s below cs (f ∷ []) (fallback_if old) (fallback_numbered old h))
place_hides n s below cs (elements.catcher key f es) old h = catcher_hides n s below cs key f es old h (old_caught old)
place_hides n s below cs (elements.provider c key x es) old h =
    over_hides n s cs (slice_set cs c x) (elements.provider c key x es) plain (render_list (rendered n s (slice_set cs c x)) (listed es) (children_if old)) refl
    (list_hides n s below (slice_set cs c x) (listed es) (children_if old) (children_numbered old h)) (λ ns all. (tt, all, tt))

rendered_hides : (n : ℕ) (s : Sight) → BelowHides n s
unfolding rendered
rendered_hides zero s cs e old h = tt
rendered_hides (suc n) s cs e old h = place_hides n s (rendered_hides n s) cs e old h

-- Numbering

mark_numbered : (c : Numbers) (m : Mark) → IsNumbered (numbered_mark c m).1
mark_numbered c (of_instance i) = go i.number refl
  where
    go : (n : Option ℕ) → i.number ≡ n → IsNumbered (numbered_instance c i n).1
    go None e = (c.instance, refl)
    go (Some n) e = (n, e)
mark_numbered c (of_host h) = go h
  where
    go : (n : Option ℕ) → IsNumbered (numbered_host c n).1
    go None = (c.host, refl)
    go (Some n) = (n, refl)
mark_numbered c plain = tt
mark_numbered c (of_boundary b) = tt
mark_numbered c (of_catcher k) = tt

mutual
  pub numbering_numbers : (c : Numbers) (x : Node) → Numbered (numbered c x).1
  numbering_numbers c (node e m ns fs) =
      (mark_numbered c m, numbering_all (numbered_mark c m).0 ns, numbering_all (numbered_in (numbered_mark c m).0 ns).0 fs)

  numbering_all : (c : Numbers) (ns : Forest) → AllNumbered (numbered_in c ns).1
  numbering_all c none = tt
  numbering_all c (vacant ns) = numbering_all c ns
  numbering_all c (child x ns) = (numbering_numbers c x, numbering_all (numbered c x).0 ns)

mark_stays : (c : Numbers) (m : Mark) → IsNumbered m → numbered_mark c m ≡ (c, m)
mark_stays c (of_instance i) (n, h) = go i.number h
  where
    go : (k : Option ℕ) → k ≡ Some n → numbered_instance c i k ≡ (c, of_instance i)
    go None e = absurd (cc e)
    go (Some k) e = refl
mark_stays c (of_host h) (n, e) = rw e refl
mark_stays c plain h = refl
mark_stays c (of_boundary b) h = refl
mark_stays c (of_catcher k) h = refl

mutual
  number_stays : (c : Numbers) (x : Node) → Numbered x → numbered c x ≡ (c, x)
  number_stays c (node e m ns fs) h = rw (mark_stays c m h.0, numbers_stay c ns h.1, numbers_stay c fs h.2) refl

  numbers_stay : (c : Numbers) (ns : Forest) → AllNumbered ns → numbered_in c ns ≡ (c, ns)
  numbers_stay c none h = refl
  numbers_stay c (vacant ns) h = rw (numbers_stay c ns h) refl
  numbers_stay c (child x ns) h = rw (number_stays c x h.0, numbers_stay c ns h.1) refl

own_numbered : (n : ℕ) (s : Sight) (cs : Contexts) (c d : Numbers) (e : Element) (m : Mark) (ns : Forest) → OwnWaits n s cs e m ns
    → OwnWaits n s cs e (numbered_mark c m).1 (numbered_in d ns).1
own_numbered n s cs c d elements.null m ns h = tt
own_numbered n s cs c d (elements.text t) m ns h = tt
own_numbered n s cs c d (elements.host name key attrs es) m ns h = tt
own_numbered n s cs c d (elements.comp k key props given) m ns h = tt
own_numbered n s cs c d (elements.list marked es) m ns h = tt
own_numbered n s cs c d (elements.boundary key f es) (of_instance i) ns h = go i.number
  where
    go : (k : Option ℕ) → OwnWaits n s cs (elements.boundary key f es) (numbered_instance c i k).1 (numbered_in d ns).1
    go None = tt
    go (Some k) = tt
own_numbered n s cs c d (elements.boundary key f es) (of_host g) ns h = go g
  where
    go : (k : Option ℕ) → OwnWaits n s cs (elements.boundary key f es) (numbered_host c k).1 (numbered_in d ns).1
    go None = tt
    go (Some k) = tt
own_numbered n s cs c d (elements.boundary key f es) plain ns h = tt
own_numbered n s cs c d (elements.boundary key f es) (of_catcher k) ns h = tt
own_numbered n s cs c d (elements.boundary key f es) (of_boundary Shown) ns h = tt
own_numbered n s cs c d (elements.boundary key f es) (of_boundary (Hidden a)) ns h =
    let same : ns ≡ (numbered_in d ns).1 = sym (ap (λ (x : Numbers × Forest). x.1) (numbers_stay d ns h.1)) in
    subst (λ (x : Forest). OwnWaits n s cs (elements.boundary key f es) (of_boundary (Hidden a)) x) same h
own_numbered n s cs c d (elements.catcher key f es) m ns h = tt
own_numbered n s cs c d (elements.provider k key x es) m ns h = tt

map_hidden : (A B : Type 0) (b : Bool) → IfHidden b (Unit {0}) A → (A → B) → IfHidden b (Unit {0}) B
map_hidden A B true h f = tt
map_hidden A B false h f = f h

mutual
  hides_numbered : (n : ℕ) (s : Sight) (cs : Contexts) (c : Numbers) (x : Node) → HiddenWaits n s cs x → HiddenWaits n s cs (numbered c x).1
  hides_numbered zero s cs c (node e m ns fs) h = tt
  hides_numbered (suc n) s cs c (node e m ns fs) h = (
    own_numbered n s cs c (numbered_mark c m).0 e m ns h.0,
    subst (λ (b : Bool). IfHidden b (Unit {0}) (AllHiddenWait n s (contexts_below e cs) (numbered_in (numbered_mark c m).0 ns).1)) (marked_hidden c m)
        (map_hidden (AllHiddenWait n s (contexts_below e cs) ns) (AllHiddenWait n s (contexts_below e cs) (numbered_in (numbered_mark c m).0 ns).1) (is_hidden m) h.1
        (all_hide_numbered n s (contexts_below e cs) (numbered_mark c m).0 ns)),
    all_hide_numbered n s cs (numbered_in (numbered_mark c m).0 ns).0 fs h.2,
  )

  all_hide_numbered : (n : ℕ) (s : Sight) (cs : Contexts) (c : Numbers) (ns : Forest) → AllHiddenWait n s cs ns → AllHiddenWait n s cs (numbered_in c ns).1
  all_hide_numbered n s cs c none h = tt
  all_hide_numbered n s cs c (vacant ns) h = all_hide_numbered n s cs c ns h
  all_hide_numbered n s cs c (child x ns) h = (hides_numbered n s cs c x h.0, all_hide_numbered n s cs (numbered c x).0 ns h.1)

-- A commit leaves hidden boundaries whose children waited at its sight for what they await.
pub commit_hides : (s : Sight) (old : Option Node) (new : Node) (from : Numbers) → IfNumbered old → fresh s old ≡ made new
    → HiddenWaits depth_limit s (default_contexts s.program) (numbered from new).1 × Numbered (numbered from new).1
unfolding fresh
commit_hides s old new from was gives = (
  hides_numbered depth_limit s (default_contexts s.program) from new
      (go (rendered depth_limit s (default_contexts s.program) (root_element s.program) old) gives (rendered_hides depth_limit s (default_contexts s.program) (root_element s.program) old was)),
  numbering_numbers from new,
)
  where
    go : (p : Place) → p ≡ made new → PlaceHides depth_limit s (default_contexts s.program) p → HiddenWaits depth_limit s (default_contexts s.program) new
    go p same h = rw same at h

-- The instances of what a boundary keeps are those that the test of its updates asks for.

abbrev pub numbered_at : Spot → Option ℕ
numbered_at x = number_of (spot_mark x)

one_mounted : (a : Around) (m : Mark) (ys : List Mounted)
    → numbers_of (cons_option (option_and_then (mounted_as a) (instance_in m)) ys) ≡ cons_option (number_of m) (numbers_of ys)
one_mounted a (of_instance i) ys = go i.number
  where
    go : (n : Option ℕ)
        → numbers_of (cons_option (option_map (λ n. record { number = n; component = i.component; initials = i.initials; owner = a.owner; visible = a.visible }) n) ys)
        ≡ cons_option n (numbers_of ys)
    go None = refl
    go (Some n) = refl
one_mounted a (of_host h) ys = refl
one_mounted a plain ys = refl
one_mounted a (of_boundary b) ys = refl
one_mounted a (of_catcher k) ys = refl

pub all_mounted : (xs : List Spot) → numbers_of (mounted_at xs) ≡ filter_map numbered_at xs
all_mounted [] = refl
all_mounted (x ∷ xs) = one_mounted x.around (spot_mark x) (mounted_at xs) ∙ ap (cons_option (number_of (spot_mark x))) (all_mounted xs)

abbrev AllSpotsIn : List ℕ → List Spot → Type 0
AllSpotsIn set [] = Unit {0}
AllSpotsIn set (x ∷ xs) = NumberIn set (number_of (spot_mark x)) × AllSpotsIn set xs

spots_listed : (set : List ℕ) (xs : List Spot) → Among numbered_at xs set → AllSpotsIn set xs
spots_listed set [] h = tt
spots_listed set (x ∷ xs) h =
    (λ i same. among_first numbered_at x xs set h i same, spots_listed set xs (among_rest numbered_at x xs set h))

first_in : (set : List ℕ) (xs ys : List Spot) → AllSpotsIn set (xs ++ ys) → AllSpotsIn set xs
first_in set [] ys h = tt
first_in set (x ∷ xs) ys h = (h.0, first_in set xs ys h.1)

last_in : (set : List ℕ) (xs ys : List Spot) → AllSpotsIn set (xs ++ ys) → AllSpotsIn set ys
last_in set [] ys h = h
last_in set (x ∷ xs) ys h = last_in set xs ys h.1

mutual
  spots_numbers : (set : List ℕ) (a : Around) (x : Node) → AllSpotsIn set (spots a x) → NumbersIn set x
  spots_numbers set a (node e m ns fs) h = (
    h.0,
    spots_in_numbers set (around_children a m) ns (first_in set (spots_in (around_children a m) ns) (spots_in a fs) h.1),
    spots_in_numbers set a fs (last_in set (spots_in (around_children a m) ns) (spots_in a fs) h.1),
  )

  spots_in_numbers : (set : List ℕ) (a : Around) (ns : Forest) → AllSpotsIn set (spots_in a ns) → AllNumbersIn set ns
  spots_in_numbers set a none h = tt
  spots_in_numbers set a (vacant ns) h = spots_in_numbers set a ns h
  spots_in_numbers set a (child x ns) h =
      (spots_numbers set a x (first_in set (spots a x) (spots_in a ns) h), spots_in_numbers set a ns (last_in set (spots a x) (spots_in a ns) h))

pub numbers_in_itself : (ns : Forest) → AllNumbersIn (instances_in ns) ns
numbers_in_itself ns =
    spots_in_numbers (instances_in ns) at_root ns
    (spots_listed (instances_in ns) (spots_in at_root ns) (λ i h. ap (λ (l : List ℕ). includes l i) (all_mounted (spots_in at_root ns)) ∙ h))

-- Values

module _ (s : Sight) (lanes : Lanes) (cut : Cut) (visible kept set : List ℕ) (apart : (i : ℕ) → includes kept i ≡ true → includes visible i ≡ false)
    (grows : s.cut.updates ≤ cut.updates) (new : List Posted) (resolutions : List Resolution) (accounted : AccountedBefore s.cut s.journal.updates) (opened : AllOpen new)
    (old_calm : NoNewUpdate lanes cut set (map (marked_update s.lanes s.cut visible kept) s.journal.updates)) (new_calm : NoNewUpdate lanes cut set new) where
  -- a later sight, after the commit
  abbrev later : Sight
  later = later_sight s (journal_since s visible kept new resolutions) lanes cut

  instance_agrees : (i : Instance) (n : ℕ) → i.number ≡ Some n → includes kept n ≡ true → includes set n ≡ true → values_of s i ≡ values_of later i
  instance_agrees i n number is_kept is_in =
      rw number
      (ap Some (values_again s lanes cut visible kept set n is_kept (apart n is_kept) is_in grows new resolutions accounted opened old_calm new_calm i.initials))

  mutual
    values_agree : (x : Node) → Numbered x → Seen visible kept false x → NumbersIn set x → ValuesAgree s later x
    values_agree (node e (of_instance i) ns fs) h k l =
        (instance_agrees i h.0.0 h.0.1 (k.0 h.0.0 h.0.1) (l.0 h.0.0 h.0.1), all_values_agree ns h.1 k.1 l.1, all_values_agree fs h.2 k.2 l.2)
    values_agree (node e (of_host n) ns fs) h k l = (tt, all_values_agree ns h.1 k.1 l.1, all_values_agree fs h.2 k.2 l.2)
    values_agree (node e plain ns fs) h k l = (tt, all_values_agree ns h.1 k.1 l.1, all_values_agree fs h.2 k.2 l.2)
    values_agree (node e (of_boundary Shown) ns fs) h k l = (tt, all_values_agree ns h.1 k.1 l.1, all_values_agree fs h.2 k.2 l.2)
    values_agree (node e (of_boundary (Hidden a)) ns fs) h k l = (tt, all_values_agree ns h.1 k.1 l.1, all_values_agree fs h.2 k.2 l.2)
    values_agree (node e (of_catcher q) ns fs) h k l = (tt, all_values_agree ns h.1 k.1 l.1, all_values_agree fs h.2 k.2 l.2)

    pub all_values_agree : (ns : Forest) → AllNumbered ns → AllSeen visible kept false ns → AllNumbersIn set ns → AllValuesAgree s later ns
    all_values_agree none h k l = tt
    all_values_agree (vacant ns) h k l = all_values_agree ns h k l
    all_values_agree (child x ns) h k l = (values_agree x h.0 k.0 l.0, all_values_agree ns h.1 k.1 l.1)

-- A hidden boundary that nothing touches waits for the same again.
pub untouched_waits : (s : Sight) (lanes : Lanes) (cut : Cut) (visible kept : List ℕ) → ((i : ℕ) → includes kept i ≡ true → includes visible i ≡ false)
    → s.cut.updates ≤ cut.updates → (new : List Posted) (resolutions : List Resolution) → AccountedBefore s.cut s.journal.updates → AllOpen new → WaitsAreSmall s.program
    → (n : ℕ) (cs : Contexts) (key : _) (f : Element) (es : Elements) (a : Awaits) (ns : Forest)
    → OwnWaits n s cs (elements.boundary key f es) (of_boundary (Hidden a)) ns → AllSeen visible kept false ns
    → NoNewUpdate lanes cut (instances_in ns) (map (marked_update s.lanes s.cut visible kept) s.journal.updates) → NoNewUpdate lanes cut (instances_in ns) new
    → sees_refresh (later_sight s (journal_since s visible kept new resolutions) lanes cut) ≡ false
    → HasValuesOf (resolutions_by s.cut s.journal) (resolutions_by cut (journal_since s visible kept new resolutions))
    → (may_throw_in s.program ≡ true → (s.cut.resolutions ≤ cut.resolutions) × (cut.resolutions ≡ s.cut.resolutions → resolutions_by s.cut s.journal ≡ resolutions_by cut (journal_since s visible kept new resolutions)))
    → may_throw_anew (later_sight s (journal_since s visible kept new resolutions) lanes cut) ≡ false
    → AreUnresolved (later_sight s (journal_since s visible kept new resolutions) lanes cut) a
    → render_part (rendered n (later_sight s (journal_since s visible kept new resolutions) lanes cut)) (part cs (listed es) ns) ≡ one_waits a
untouched_waits s lanes cut visible kept apart grows new resolutions accounted opened small n cs key f es a ns own seen old_calm new_calm no_refresh more as_many no_throw unresolved =
    attempt_waits_again s (journal_since s visible kept new resolutions) lanes cut small versions_again more
    (resources_again s (journal_since s visible kept new resolutions) lanes cut versions_again as_many no_throw) n (part cs (listed es) ns) a
    (all_values_agree s lanes cut visible kept (instances_in ns) apart grows new resolutions accounted opened old_calm new_calm ns own.1 seen (numbers_in_itself ns))
    own.0 unresolved
  where
    versions_again : versions_seen s ≡ versions_seen (later_sight s (journal_since s visible kept new resolutions) lanes cut)
    versions_again = versions_stay s visible kept (accounted_done s.cut s.journal.updates accounted) new opened resolutions lanes cut no_refresh
