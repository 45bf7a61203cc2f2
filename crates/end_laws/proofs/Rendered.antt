-- A render against a trimmed tree gives the same, trimmed; so if it waits, it waits for the same.
use Rattle.std.specs.Prelude.{◌≡◌, ℕ, zero, suc, List, [], ◌∷◌, map, ℤ, Option, Some, None, option_and_then}
use Rattle.std.specs.List.{zip}
use Rattle.std.proofs.Common.{refl, sym, ap, subst, ◌∙◌}
use Rattle.rx_base.specs.Awaits.{Awaits}
use Rattle.rx_ast.specs.Syntax.{Component}
use Rattle.rx_rules.specs.Names.{component_at}
use Rattle.rx_elem.specs.Elements.{Element, Elements, listed}
use Rattle.rx_elem.specs.Elements as elements
use Rattle.rx_elem.specs.Identity.{old_places, identified}
use Rattle.rx_catch.specs.declared.state.CatchState.TheVariants.{Fine, Caught}
use Rattle.rx_elem.specs.Trees.{Mark, of_instance, of_host, of_boundary, of_catcher, plain, Node, node, Forest, none, vacant, child, elements_in, node_over, old_caught}
use Rattle.rx_elem.specs.Compare.{node_at, old_nodes}
use Rattle.rx_meaning.specs.Again.{ValuesAgree, AllValuesAgree}
use Rattle.rx_meaning.specs.Body.{Body, wait, throw, ready, body_of}
use Rattle.rx_meaning.specs.Fresh.{Sight, Contexts, Renders, Place, empty, made, waits, throws, Places, all_made, one_waits, one_throws, before, render_all, render_part, over, over_boundary, over_catcher, place_of, rendered, Part, part, Shape, absent, waiting, throwing, one_list, two_lists, guarded, shape_of, shape_of_body, shape_of_catcher, shape_of_component, inputs_at, old_instance}
use Rattle.end_laws.specs.Trimmed.{vacant_before, trimmed, trimmed_in, trimmed_if}
use Rattle.end_laws.specs.Places.{trimmed_place, trimmed_places}
use Rattle.end_laws.proofs.Ends.{old_end}
use Rattle.end_laws.proofs.Pasts.{elements_end, node_at_same}

-- Trimming twice

vacant_trimmed : (ns : Forest) → trimmed_in (vacant_before ns) ≡ vacant_before (trimmed_in ns)
vacant_trimmed none = refl
vacant_trimmed (vacant ns) = refl
vacant_trimmed (child n ns) = refl

mutual
  twice : (n : Node) → trimmed (trimmed n) ≡ trimmed n
  twice (node e m ns fs) = rw (twice_in ns, twice_in fs) refl

  twice_in : (ns : Forest) → trimmed_in (trimmed_in ns) ≡ trimmed_in ns
  twice_in none = refl
  twice_in (vacant ns) = vacant_trimmed (trimmed_in ns) ∙ ap vacant_before (twice_in ns)
  twice_in (child n ns) = rw (twice n, twice_in ns) refl

-- Old nodes

found_same : (ns : Forest) (os : List (Option ℕ)) → map (option_and_then (node_at (trimmed_in ns))) os ≡ map trimmed_if (map (option_and_then (node_at ns)) os)
found_same ns [] = refl
found_same ns (None ∷ os) = ap (λ l. None ∷ l) (found_same ns os)
found_same ns (Some p ∷ os) = rw (node_at_same ns p, found_same ns os) refl

places_same : (ns : Forest) (es : List Element) → old_places (elements_in (trimmed_in ns)) es ≡ old_places (elements_in ns) es
places_same ns es = let (k, e) = elements_end ns in sym (ap (λ l. old_places l es) e ∙ old_end (elements_in (trimmed_in ns)) k (identified es))

olds_same : (ns : Forest) (es : List Element) → old_nodes (trimmed_in ns) es ≡ map trimmed_if (old_nodes ns es)
olds_same ns es = ap (map (option_and_then (node_at (trimmed_in ns)))) (places_same ns es) ∙ found_same ns (old_places (elements_in ns) es)

-- Lists

abbrev trimmed_before : Place → Places → Places
trimmed_before empty (all_made ns) = all_made (vacant_before ns)
trimmed_before empty (one_waits a) = one_waits a
trimmed_before empty (one_throws x) = one_throws x
trimmed_before (made n) (all_made ns) = all_made (child n ns)
trimmed_before (made n) (one_waits a) = one_waits a
trimmed_before (made n) (one_throws x) = one_throws x
trimmed_before (waits a) rest = one_waits a
trimmed_before (throws x) rest = one_throws x

before_trimmed : (p : Place) (rest : Places) → trimmed_places (before p rest) ≡ trimmed_before (trimmed_place p) (trimmed_places rest)
before_trimmed empty (all_made ns) = refl
before_trimmed empty (one_waits a) = refl
before_trimmed empty (one_throws x) = refl
before_trimmed (made n) (all_made ns) = refl
before_trimmed (made n) (one_waits a) = refl
before_trimmed (made n) (one_throws x) = refl
before_trimmed (waits a) rest = refl
before_trimmed (throws x) rest = refl

-- a way to render gives the same, trimmed, against the trimmed old node
abbrev EndsUnread : Renders → Type 0
EndsUnread f = (e : Element) (old : Option Node) → trimmed_place (f e (trimmed_if old)) ≡ trimmed_place (f e old)

all_same : (f : Renders) → EndsUnread f → (es : List Element) (olds : List (Option Node))
    → trimmed_places (render_all f (zip es (map trimmed_if olds))) ≡ trimmed_places (render_all f (zip es olds))
all_same f h [] olds = refl
all_same f h (e ∷ es) [] = refl
all_same f h (e ∷ es) (o ∷ olds) =
    before_trimmed (f e (trimmed_if o)) (render_all f (zip es (map trimmed_if olds)))
    ∙ (ap (λ p. trimmed_before p (trimmed_places (render_all f (zip es (map trimmed_if olds))))) (h e o)
    ∙ (ap (trimmed_before (trimmed_place (f e o))) (all_same f h es olds)
    ∙ sym (before_trimmed (f e o) (render_all f (zip es olds)))))

part_same : (below : Contexts → Renders) → ((cs : Contexts) → EndsUnread (below cs)) → (cs : Contexts) (es : List Element) (ns : Forest)
    → trimmed_places (render_part below (part cs es (trimmed_in ns))) ≡ trimmed_places (render_part below (part cs es ns))
part_same below h cs es ns = ap (λ l. trimmed_places (render_all (below cs) (zip es l))) (olds_same ns es) ∙ all_same (below cs) (h cs) es (old_nodes ns es)

-- Shapes

abbrev trimmed_part : Part → Part
trimmed_part p = part p.contexts p.elements (trimmed_in p.old)

abbrev trimmed_shape : Shape → Shape
trimmed_shape absent = absent
trimmed_shape (waiting r v) = waiting r v
trimmed_shape (throwing x) = throwing x
trimmed_shape (one_list m p) = one_list m (trimmed_part p)
trimmed_shape (two_lists p f) = two_lists (trimmed_part p) (trimmed_part f)
trimmed_shape (guarded p f) = guarded (trimmed_part p) (trimmed_part f)

body_same : (cs : Contexts) (c : ℕ) (old : Option Node) (b : Body) → shape_of_body cs c (trimmed_if old) b ≡ trimmed_shape (shape_of_body cs c old b)
body_same cs c old (wait r v) = refl
body_same cs c old (throw x) = refl
body_same cs c None (ready es effects initials reads versions) = refl
body_same cs c (Some (node e m ns fs)) (ready es effects initials reads versions) = refl

instance_same : (old : Option Node) → old_instance (trimmed_if old) ≡ old_instance old
instance_same None = refl
instance_same (Some (node e m ns fs)) = refl

component_same : (s : Sight) (cs : Contexts) (c : ℕ) (props : List ℤ) (kids : Elements) (old : Option Node) (d : Option Component)
    → shape_of_component s cs c props kids (trimmed_if old) d ≡ trimmed_shape (shape_of_component s cs c props kids old d)
component_same s cs c props kids old None = refl
component_same s cs c props kids old (Some d) =
    ap (λ i. shape_of_body cs c (trimmed_if old) (body_of s.program d (inputs_at s cs props kids i))) (instance_same old)
    ∙ body_same cs c old (body_of s.program d (inputs_at s cs props kids (old_instance old)))

catcher_same : (cs : Contexts) (f : Element) (es : Elements) (n : Node) (caught : Option ℤ)
    → shape_of_catcher cs f es (Some (trimmed n)) caught ≡ trimmed_shape (shape_of_catcher cs f es (Some n) caught)
catcher_same cs f es (node e m ns fs) None = refl
catcher_same cs f es (node e m ns fs) (Some x) = refl

shape_same : (s : Sight) (cs : Contexts) (e : Element) (old : Option Node) → shape_of s cs e (trimmed_if old) ≡ trimmed_shape (shape_of s cs e old)
shape_same s cs elements.null old = refl
shape_same s cs (elements.text t) None = refl
shape_same s cs (elements.text t) (Some (node e m ns fs)) = refl
shape_same s cs (elements.host name key attrs es) None = refl
shape_same s cs (elements.host name key attrs es) (Some (node e m ns fs)) = refl
shape_same s cs (elements.comp c key props kids) old = component_same s cs c props kids old (component_at s.program c)
shape_same s cs (elements.list marked es) None = refl
shape_same s cs (elements.list marked es) (Some (node e m ns fs)) = refl
shape_same s cs (elements.boundary key f es) None = refl
shape_same s cs (elements.boundary key f es) (Some (node e m ns fs)) = refl
shape_same s cs (elements.catcher key f es) None = refl
shape_same s cs (elements.catcher key f es) (Some (node e m ns fs)) = catcher_same cs f es (node e m ns fs) (old_caught (Some (node e m ns fs)))
shape_same s cs (elements.provider c key x es) None = refl
shape_same s cs (elements.provider c key x es) (Some (node e m ns fs)) = refl

-- Places

over_trimmed : (e : Element) (m : Mark) (ps : Places) → trimmed_place (over e m ps) ≡ over e m (trimmed_places ps)
over_trimmed e m (all_made ns) = ap made (go m)
  where
    go : (m : Mark) → trimmed (node_over e m ns) ≡ node_over e m (trimmed_in ns)
    go (of_instance i) = refl
    go (of_host n) = refl
    go (of_boundary b) = refl
    go (of_catcher Fine) = refl
    go (of_catcher (Caught x)) = refl
    go plain = refl
over_trimmed e m (one_waits a) = refl
over_trimmed e m (one_throws x) = refl

boundary_trimmed : (e : Element) (old : Option Node) (ps qs : Places)
    → trimmed_place (over_boundary e old ps qs) ≡ over_boundary e (trimmed_if old) (trimmed_places ps) (trimmed_places qs)
boundary_trimmed e old (all_made ns) qs = refl
boundary_trimmed e None (one_waits a) (all_made fs) = refl
boundary_trimmed e (Some (node f m ns gs)) (one_waits a) (all_made fs) = refl
boundary_trimmed e old (one_waits a) (one_waits b) = refl
boundary_trimmed e old (one_waits a) (one_throws x) = refl
boundary_trimmed e old (one_throws x) qs = refl

catcher_trimmed : (e : Element) (ps qs : Places) → trimmed_place (over_catcher e ps qs) ≡ over_catcher e (trimmed_places ps) (trimmed_places qs)
catcher_trimmed e (all_made ns) qs = refl
catcher_trimmed e (one_waits a) qs = refl
catcher_trimmed e (one_throws x) qs = over_trimmed e (of_catcher (Caught x)) qs

if_twice : (old : Option Node) → trimmed_if (trimmed_if old) ≡ trimmed_if old
if_twice None = refl
if_twice (Some n) = ap Some (twice n)

place_same : (below : Contexts → Renders) → ((cs : Contexts) → EndsUnread (below cs)) → (e : Element) (old : Option Node) (shape : Shape)
    → trimmed_place (place_of below e (trimmed_if old) (trimmed_shape shape)) ≡ trimmed_place (place_of below e old shape)
place_same below h e old absent = refl
place_same below h e old (waiting r v) = refl
place_same below h e old (throwing x) = refl
place_same below h e old (one_list m p) =
    over_trimmed e m (render_part below (trimmed_part p)) ∙ (ap (over e m) (part_same below h p.contexts p.elements p.old) ∙ sym (over_trimmed e m (render_part below p)))
place_same below h e old (two_lists p f) =
    boundary_trimmed e (trimmed_if old) (render_part below (trimmed_part p)) (render_part below (trimmed_part f))
    ∙ (ap (λ o. over_boundary e o (trimmed_places (render_part below (trimmed_part p))) (trimmed_places (render_part below (trimmed_part f)))) (if_twice old)
    ∙ (ap (λ q. over_boundary e (trimmed_if old) q (trimmed_places (render_part below (trimmed_part f)))) (part_same below h p.contexts p.elements p.old)
    ∙ (ap (over_boundary e (trimmed_if old) (trimmed_places (render_part below p))) (part_same below h f.contexts f.elements f.old)
    ∙ sym (boundary_trimmed e old (render_part below p) (render_part below f)))))
place_same below h e old (guarded p f) =
    catcher_trimmed e (render_part below (trimmed_part p)) (render_part below (trimmed_part f))
    ∙ (ap (λ q. over_catcher e q (trimmed_places (render_part below (trimmed_part f)))) (part_same below h p.contexts p.elements p.old)
    ∙ (ap (over_catcher e (trimmed_places (render_part below p))) (part_same below h f.contexts f.elements f.old)
    ∙ sym (catcher_trimmed e (render_part below p) (render_part below f))))

-- against the trimmed old node a render gives the same, trimmed
pub rendered_same : (n : ℕ) (s : Sight) (cs : Contexts) → EndsUnread (rendered n s cs)
unfolding rendered
rendered_same zero s cs e old = refl
rendered_same (suc n) s cs e old =
    ap (λ x. trimmed_place (place_of (rendered n s) e (trimmed_if old) x)) (shape_same s cs e old) ∙ place_same (rendered n s) (rendered_same n s) e old (shape_of s cs e old)

-- Waits

waits_only : (p : Places) (a : Awaits) → trimmed_places p ≡ one_waits a → p ≡ one_waits a
waits_only (all_made ns) a h = cc
waits_only (one_waits b) a h = h
waits_only (one_throws x) a h = cc

-- children that wait against a list wait for the same against one that differs at its ends alone
pub waits_same : (n : ℕ) (s : Sight) (cs : Contexts) (es : List Element) (ns ms : Forest) (a : Awaits) → trimmed_in ns ≡ trimmed_in ms
    → render_part (rendered n s) (part cs es ns) ≡ one_waits a → render_part (rendered n s) (part cs es ms) ≡ one_waits a
waits_same n s cs es ns ms a same h =
    waits_only (render_part (rendered n s) (part cs es ms)) a
    (sym (part_same (rendered n s) (rendered_same n s) cs es ms)
    ∙ (ap (λ l. trimmed_places (render_part (rendered n s) (part cs es l))) (sym same)
    ∙ (part_same (rendered n s) (rendered_same n s) cs es ns ∙ ap trimmed_places h)))

-- Values

vacant_agrees : (s t : Sight) (ns : Forest) → AllValuesAgree s t ns → AllValuesAgree s t (vacant_before ns)
vacant_agrees s t none h = tt
vacant_agrees s t (vacant ns) h = h
vacant_agrees s t (child n ns) h = h

vacant_agreed : (s t : Sight) (ns : Forest) → AllValuesAgree s t (vacant_before ns) → AllValuesAgree s t ns
vacant_agreed s t none h = tt
vacant_agreed s t (vacant ns) h = h
vacant_agreed s t (child n ns) h = h

mutual
  node_agrees : (s t : Sight) (n : Node) → ValuesAgree s t n → ValuesAgree s t (trimmed n)
  node_agrees s t (node e m ns fs) h = (h.0, all_agree s t ns h.1, all_agree s t fs h.2)

  all_agree : (s t : Sight) (ns : Forest) → AllValuesAgree s t ns → AllValuesAgree s t (trimmed_in ns)
  all_agree s t none h = tt
  all_agree s t (vacant ns) h = vacant_agrees s t (trimmed_in ns) (all_agree s t ns h)
  all_agree s t (child n ns) h = (node_agrees s t n h.0, all_agree s t ns h.1)

mutual
  node_agreed : (s t : Sight) (n : Node) → ValuesAgree s t (trimmed n) → ValuesAgree s t n
  node_agreed s t (node e m ns fs) h = (h.0, all_agreed s t ns h.1, all_agreed s t fs h.2)

  all_agreed : (s t : Sight) (ns : Forest) → AllValuesAgree s t (trimmed_in ns) → AllValuesAgree s t ns
  all_agreed s t none h = tt
  all_agreed s t (vacant ns) h = all_agreed s t ns (vacant_agreed s t (trimmed_in ns) h)
  all_agreed s t (child n ns) h = (node_agreed s t n h.0, all_agreed s t ns h.1)

-- instances of a list agree if those of one do that differs at its ends alone
pub values_same : (s t : Sight) (ns ms : Forest) → trimmed_in ns ≡ trimmed_in ms → AllValuesAgree s t ns → AllValuesAgree s t ms
values_same s t ns ms same h = all_agreed s t ms (subst (AllValuesAgree s t) same (all_agree s t ns h))
