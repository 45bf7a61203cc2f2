-- As many places are evaluated as bodies.
use Rattle.std.specs.Prelude.{◌≡◌, ℕ, zero, suc, ◌+◌, Bool, true, false, not, ◌&&◌, ◌||◌, cond, List, [], ◌∷◌, ◌++◌, ℤ, Option, Some, None, filter, is_some, length, refl, if◌then◌else◌}
use Rattle.std.proofs.Common.{ap, arith, ◌∙◌}
use Rattle.std.proofs.lemmas.List.{length-map}
use Rattle.rx_ast.specs.Syntax.{Component}
use Rattle.rx_elem.specs.Elements.{Element, Elements}
use Rattle.rx_elem.specs.Elements as elements
use Rattle.rx_elem.specs.Trees.{Node, old_caught}
use Rattle.rx_meaning.specs.Body.{Body, body_of, ready, throw, wait}
use Rattle.rx_meaning.specs.Fresh.{Sight, Contexts, Renders, Place, empty, made, waits, throws, Places, all_made, one_waits, one_throws, default_contexts, depth_limit, inputs_at, old_instance, render_part, rendered, root_element, Part, Shape, absent, waiting, throwing, one_list, two_lists, guarded, shape_of, shape_of_body, shape_of_catcher, shape_of_component}
use Rattle.rx_meaning.specs.Counts.{count_part, if_throws, if_waits, try_all, unless_waits}
use Rattle.rx_meaning.specs.Touched.{children_with_old, component_in, ends_list, is_throw, is_wait}
use Rattle.rx_rules.specs.Names.{component_at}
use Rattle.cost_laws.specs.Causes.{has_cause}
use Rattle.cost_laws.specs.Evaluated.{Evaluates, above_root, below_node, evaluate_shape, evaluated, once_caught, own_body, stood, whole_evaluated}
use Rattle.cost_laws.specs.Places.{Above, Coming, Comings, above_with, come_all, come_part, come_shape, coming_here, comings, evaluated_places, whole_comings}
use Rattle.cost_laws.specs.Untouched.{is_element_of, is_untouched}

-- how many of these places are evaluated
abbrev counts : List Coming → ℕ
counts vs = length (filter (λ v. v.evaluated) vs)

counts_and : (vs ws : List Coming) → counts (vs ++ ws) ≡ counts vs + counts ws
counts_and [] ws = omega arith
counts_and (v ∷ vs) ws = go v.evaluated (counts_and vs ws)
  where
    go : (b : Bool) → counts (vs ++ ws) ≡ counts vs + counts ws
        → length (cond b (v ∷ filter (λ v. v.evaluated) (vs ++ ws)) (filter (λ v. v.evaluated) (vs ++ ws))) ≡ length (cond b (v ∷ filter (λ v. v.evaluated) vs) (filter (λ v. v.evaluated) vs)) + counts ws
    go true h = omega arith
    go false h = omega arith

counts_first : (v : Coming) (vs : List Coming) → counts (v ∷ vs) ≡ cond v.evaluated 1 0 + counts vs
counts_first v vs = go v.evaluated
  where
    go : (b : Bool) → length (cond b (v ∷ filter (λ v. v.evaluated) vs) (filter (λ v. v.evaluated) vs)) ≡ cond b 1 0 + counts vs
    go true = omega arith
    go false = omega arith

counts_unless : (b : Bool) (vs : List Coming) (k : ℕ) → counts vs ≡ k → counts (if b then [] else vs) ≡ cond b 0 k
counts_unless true vs k h = refl
counts_unless false vs k h = h

unless_same : (p : Place) (vs : List Coming) (k : ℕ) → counts vs ≡ k → counts (if ends_list p then [] else vs) ≡ unless_waits p k
unless_same empty vs k h = h
unless_same (made n) vs k h = h
unless_same (waits a) vs k h = refl
unless_same (throws x) vs k h = refl

-- of a second list that comes if the first waits
if_waits_same : (ps : Places) (vs : List Coming) (k : ℕ) → counts vs ≡ k → counts (if is_wait ps then vs else []) ≡ if_waits ps k
if_waits_same (all_made ns) vs k h = refl
if_waits_same (one_waits a) vs k h = h
if_waits_same (one_throws x) vs k h = refl

-- of one that comes if the first throws
if_throws_same : (ps : Places) (vs : List Coming) (k : ℕ) → counts vs ≡ k → counts (if is_throw ps then vs else []) ≡ if_throws ps k
if_throws_same (all_made ns) vs k h = refl
if_throws_same (one_waits a) vs k h = refl
if_throws_same (one_throws x) vs k h = h

-- Places with those below them

-- at each place as many are evaluated as bodies
abbrev IsCounted : Comings → Evaluates → Type 0
IsCounted come evaluate = (a : Above) (cs : Contexts) (e : Element) (old : Option Node) → counts (come a cs e old) ≡ evaluate a.flag cs e old

all_counted : (come : Comings) (evaluate : Evaluates) → IsCounted come evaluate → (render : Renders) (a : Above) (cs : Contexts) (k : ℕ) (xs : List (Element × Option Node))
    → counts (come_all come render a cs k xs) ≡ try_all (evaluate a.flag cs) render xs
all_counted come evaluate counted render a cs k [] = refl
all_counted come evaluate counted render a cs k (x ∷ xs) =
    counts_and (come (record a { address = k ∷ a.address }) cs x.0 x.1) (if ends_list (render x.0 x.1) then [] else come_all come render a cs (suc k) xs)
    ∙ (λ i. counted (record a { address = k ∷ a.address }) cs x.0 x.1 i
    + unless_same (render x.0 x.1) (come_all come render a cs (suc k) xs) (try_all (evaluate a.flag cs) render xs) (all_counted come evaluate counted render a cs (suc k) xs) i)

part_counted : (come : Comings) (evaluate : Evaluates) → IsCounted come evaluate → (below : Contexts → Renders) (a : Above) (p : Part)
    → counts (come_part come below a p) ≡ count_part (evaluate a.flag) below p
part_counted come evaluate counted below a p = all_counted come evaluate counted (below p.contexts) a p.contexts 0 (children_with_old p)

-- two lists stand below a boundary alone, of Suspense or of errors
abbrev pub FitsShape : Element → Shape → Type 0
FitsShape e absent = Unit {0}
FitsShape e (waiting r v) = Unit {0}
FitsShape e (throwing x) = Unit {0}
FitsShape e (one_list m p) = Unit {0}
FitsShape e (two_lists p f) = component_in e ≡ None
FitsShape e (guarded p f) = component_in e ≡ None

-- no body is that of a boundary's own place
none_here : (s : Sight) (cs : Contexts) (e : Element) (old : Option Node) → component_in e ≡ None → own_body s cs e old ≡ 0
none_here s cs e old fits = ap (λ (c : Option ℕ). cond (is_some c && (has_cause s cs e old || not (is_element_of e old))) 1 0) fits

shape_counted : (come : Comings) (evaluate : Evaluates) → IsCounted come evaluate → (below : Contexts → Renders) (s : Sight) (a : Above) (cs : Contexts) (e : Element) (old : Option Node) (shape : Shape)
    → FitsShape e shape → counts (come_shape come below s a cs e old shape) ≡ evaluate_shape evaluate below s a.flag cs e old shape
shape_counted come evaluate counted below s a cs e old absent fits = refl
shape_counted come evaluate counted below s a cs e old (waiting r v) fits = omega (arith, counts_first (coming_here s a cs e old) [])
shape_counted come evaluate counted below s a cs e old (throwing x) fits = omega (arith, counts_first (coming_here s a cs e old) [])
shape_counted come evaluate counted below s a cs e old (one_list m p) fits =
    let b = above_with a s cs e old (below_node a.flag e old) in
    omega (arith, counts_first (coming_here s a cs e old) (come_part come below b p), part_counted come evaluate counted below b p)
shape_counted come evaluate counted below s a cs e old (two_lists p f) fits =
    let b = above_with a s cs e old (below_node a.flag e old) in
    let c = above_with a s cs e old a.flag in
    let primary = come_part come below (record b { address = 0 ∷ a.address }) p in
    let second = come_part come below (record c { address = 1 ∷ a.address }) f in
    let tried = if is_untouched s (stood a.flag) e old then [] else primary in
    let fallen = if is_wait (render_part below p) then second else [] in
    omega (
      arith,
      counts_first (coming_here s a cs e old) (tried ++ fallen),
      none_here s cs e old fits,
      counts_and tried fallen,
      counts_unless (is_untouched s (stood a.flag) e old) primary (count_part (evaluate (below_node a.flag e old)) below p) (part_counted come evaluate counted below (record b { address = 0 ∷ a.address }) p),
      if_waits_same (render_part below p) second (count_part (evaluate a.flag) below f) (part_counted come evaluate counted below (record c { address = 1 ∷ a.address }) f),
    )
shape_counted come evaluate counted below s a cs e old (guarded p f) fits =
    let b = above_with a s cs e old (below_node a.flag e old) in
    let c = above_with a s cs e old (once_caught a.flag) in
    let primary = come_part come below (record b { address = 0 ∷ a.address }) p in
    let second = come_part come below (record c { address = 1 ∷ a.address }) f in
    let fallen = if is_throw (render_part below p) then second else [] in
    omega (
      arith,
      counts_first (coming_here s a cs e old) (primary ++ fallen),
      none_here s cs e old fits,
      counts_and primary fallen,
      part_counted come evaluate counted below (record b { address = 0 ∷ a.address }) p,
      if_throws_same (render_part below p) second (count_part (evaluate (once_caught a.flag)) below f) (part_counted come evaluate counted below (record c { address = 1 ∷ a.address }) f),
    )

body_fits : (cs : Contexts) (c : ℕ) (e : Element) (old : Option Node) (b : Body) → FitsShape e (shape_of_body cs c old b)
body_fits cs c e old (wait r v) = tt
body_fits cs c e old (throw x) = tt
body_fits cs c e old (ready es effects initials reads versions) = tt

component_fits : (s : Sight) (cs : Contexts) (c : ℕ) (props : _) (given : Elements) (e : Element) (old : Option Node) (d : Option Component)
    → FitsShape e (shape_of_component s cs c props given old d)
component_fits s cs c props given e old None = tt
component_fits s cs c props given e old (Some d) = body_fits cs c e old (body_of s.program d (inputs_at s cs props given (old_instance old)))

catcher_fits : (cs : Contexts) (f : Element) (es : Elements) (e : Element) (old : Option Node) (caught : Option ℤ) → component_in e ≡ None → FitsShape e (shape_of_catcher cs f es old caught)
catcher_fits cs f es e old None h = h
catcher_fits cs f es e old (Some x) h = tt

-- What stands in a place fits its element.
pub shape_fits : (s : Sight) (cs : Contexts) (e : Element) (old : Option Node) → FitsShape e (shape_of s cs e old)
shape_fits s cs elements.null old = tt
shape_fits s cs (elements.text t) old = tt
shape_fits s cs (elements.host n k attrs es) old = tt
shape_fits s cs (elements.comp c k ps es) old = component_fits s cs c ps es (elements.comp c k ps es) old (component_at s.program c)
shape_fits s cs (elements.list marked es) old = tt
shape_fits s cs (elements.boundary k f es) old = refl
shape_fits s cs (elements.catcher k f es) old = catcher_fits cs f es (elements.catcher k f es) old (old_caught old) refl
shape_fits s cs (elements.provider c k x es) old = tt

comings_counted : (n : ℕ) (s : Sight) → IsCounted (comings n s) (evaluated n s)
unfolding comings evaluated
comings_counted zero s a cs e old = refl
comings_counted (suc n) s a cs e old =
    shape_counted (comings n s) (evaluated n s) (comings_counted n s) (rendered n s) s a cs e old (shape_of s cs e old) (shape_fits s cs e old)

-- A whole render evaluates as many places as bodies.
pub places_counted : (s : Sight) (old : Option Node) → length (evaluated_places s old) ≡ whole_evaluated s old
unfolding whole_comings whole_evaluated
places_counted s old =
    length-map (filter (λ v. v.evaluated) (whole_comings s old)) (λ v. v.address)
    ∙ comings_counted depth_limit s (record { address = []; below = false; flag = above_root }) (default_contexts s.program) (root_element s.program) old
