-- A program without a component that may throw renders no place that throws.
use Rattle.std.specs.List.{list_any, zip}
use Rattle.std.specs.Prelude.{Bool, List, None, Option, Some, [], false, refl, slice_get, slice_index_or, suc, true, zero, ℕ, ℤ, ◌||◌, ◌∷◌, ◌≡◌}
use Rattle.std.proofs.Common.{ap, sym, ◌∙◌}
use Rattle.rx_ast.specs.Syntax.{Component, Program, Statement, body_slots, components, constant, context, effect, reducer, state, throw_if, transition, use_resource}
use Rattle.rx_base.specs.Values.{Name}
use Rattle.rx_rules.specs.Bounds.{has_throw, may_throw_in}
use Rattle.rx_rules.specs.Names.{component_at, resource_number, throws as may_throw}
use Rattle.rx_elem.specs.Compare.{old_nodes}
use Rattle.rx_elem.specs.Elements.{Element, Elements}
use Rattle.rx_elem.specs.Trees.{Mark, Node, old_caught}
use Rattle.rx_meaning.specs.Body.{Body, Frame, Inputs, Taken, and_then, body_of, finished, opening_frame, ready, stopped_at, take_all, take_one, taken, throw, thrown, wait, with_resource}
use Rattle.rx_meaning.specs.Fresh.{Contexts, Part, Place, Places, Shape, Sight, absent, all_made, before, empty, guarded, inputs_at, made, old_instance, one_list, one_throws, one_waits, over, over_boundary, over_catcher, place_of, render_all, render_part, rendered, shape_of, shape_of_body, shape_of_catcher, shape_of_component, throwing, throws, two_lists, waiting, waits}
use Rattle.rx_elem.specs.Elements as elements

-- no body of a program throws
abbrev pub NeverThrows : Program → Type 0
NeverThrows p = (c : ℕ) (d : Component) (i : Inputs) (x : ℤ) → component_at p c ≡ Some d → body_of p d i ≡ throw x → ⊥

-- Bodies

or_left : (a b : Bool) → (a || b) ≡ false → a ≡ false
or_left true b e = e
or_left false b e = refl

or_right : (a b : Bool) → (a || b) ≡ false → b ≡ false
or_right true b e = absurd (cc e)
or_right false b e = e

-- statements give no thrown value
abbrev IsCaught : Taken → Type 0
IsCaught (stopped_at r v) = Unit {0}
IsCaught (thrown x) = ⊥
IsCaught (taken f) = Unit {0}

resource_calm : (name : Name) (r v : ℕ) (x : Option ℤ) (f : Frame) → IsCaught (with_resource name r v x f)
resource_calm name r v None f = tt
resource_calm name r v (Some x) f = tt

one_calm : (p : Program) (i : Inputs) (s : Statement) (f : Frame) → may_throw s ≡ false → IsCaught (take_one p i s f)
one_calm p i (state name setter e) f h = tt
one_calm p i (reducer name setter function e) f h = tt
one_calm p i (transition name starter) f h = tt
one_calm p i (context name source) f h = tt
one_calm p i (use_resource name resource) f h =
    resource_calm name (resource_number p resource) (slice_index_or i.versions (resource_number p resource) 0) (slice_index_or i.resources (resource_number p resource) None) f
one_calm p i (constant name e) f h = tt
one_calm p i (effect layout label depends) f h = tt
one_calm p i (throw_if e) f h = absurd (cc h)

all_calm : (p : Program) (i : Inputs) (ss : List Statement) (f : Frame) → list_any may_throw ss ≡ false → IsCaught (take_all p i ss f)
all_calm p i [] f h = tt
all_calm p i (s ∷ ss) f h =
    go (take_one p i s f) (one_calm p i s f (or_left (may_throw s) (list_any may_throw ss) h)) (λ g. all_calm p i ss g (or_right (may_throw s) (list_any may_throw ss) h))
  where
    go : (t : Taken) → IsCaught t → ((g : Frame) → IsCaught (take_all p i ss g)) → IsCaught (and_then t (take_all p i ss))
    go (stopped_at r v) k more = tt
    go (thrown x) k more = absurd k
    go (taken g) k more = more g

body_calm : (p : Program) (c : Component) (i : Inputs) (x : ℤ) → has_throw c ≡ false → body_of p c i ≡ throw x → ⊥
unfolding body_of
body_calm p c i x calm h = go (take_all p i c.statements (opening_frame c i.props)) (all_calm p i c.statements (opening_frame c i.props) calm) h
  where
    go : (t : Taken) → IsCaught t → finished p i (body_slots c.body) t ≡ throw x → ⊥
    go (stopped_at r v) k same = absurd (cc same)
    go (thrown y) k same = absurd k
    go (taken g) k same = absurd (cc same)

none_there : (cs : List Component) → list_any has_throw cs ≡ false → (n : ℕ) (d : Component) → slice_get cs n ≡ Some d → has_throw d ≡ false
none_there [] h n d there = absurd (cc there)
none_there (c ∷ cs) h zero d there = let same : c ≡ d = cc in sym (ap has_throw same) ∙ or_left (has_throw c) (list_any has_throw cs) h
none_there (c ∷ cs) h (suc n) d there = none_there cs (or_right (has_throw c) (list_any has_throw cs) h) n d there

pub never_throws : (p : Program) → may_throw_in p ≡ false → NeverThrows p
never_throws p calm c d i x there h = body_calm p d i x (none_there (components p) calm c d there) h

-- Places

-- a place doesn't throw
abbrev pub IsNoThrow : Place → Type 0
IsNoThrow empty = Unit {0}
IsNoThrow (made n) = Unit {0}
IsNoThrow (waits a) = Unit {0}
IsNoThrow (throws x) = ⊥

-- none of some places throws
abbrev pub AreNoThrow : Places → Type 0
AreNoThrow (all_made ns) = Unit {0}
AreNoThrow (one_waits a) = Unit {0}
AreNoThrow (one_throws x) = ⊥

pub before_calm : (p : Place) (ps : Places) → IsNoThrow p → AreNoThrow ps → AreNoThrow (before p ps)
before_calm empty (all_made ns) h k = tt
before_calm empty (one_waits a) h k = tt
before_calm empty (one_throws x) h k = absurd k
before_calm (made n) (all_made ns) h k = tt
before_calm (made n) (one_waits a) h k = tt
before_calm (made n) (one_throws x) h k = absurd k
before_calm (waits a) ps h k = tt
before_calm (throws x) ps h k = absurd h

pub over_calm : (e : Element) (m : Mark) (ps : Places) → AreNoThrow ps → IsNoThrow (over e m ps)
over_calm e m (all_made ns) h = tt
over_calm e m (one_waits a) h = tt
over_calm e m (one_throws x) h = absurd h

pub parts_calm : (e : Element) (old : Option Node) (ps qs : Places) → AreNoThrow ps → AreNoThrow qs → IsNoThrow (over_boundary e old ps qs)
parts_calm e old (all_made ns) qs h k = tt
parts_calm e old (one_waits a) (all_made fs) h k = tt
parts_calm e old (one_waits a) (one_waits b) h k = tt
parts_calm e old (one_waits a) (one_throws x) h k = absurd k
parts_calm e old (one_throws x) qs h k = absurd h

pub guarded_calm : (e : Element) (ps qs : Places) → AreNoThrow ps → AreNoThrow qs → IsNoThrow (over_catcher e ps qs)
guarded_calm e (all_made ns) qs h k = tt
guarded_calm e (one_waits a) qs h k = tt
guarded_calm e (one_throws x) qs h k = absurd h

module _ (s : Sight) (never : NeverThrows s.program) where
  abbrev BelowCalm : ℕ → Type 0
  BelowCalm n = (cs : Contexts) (e : Element) (old : Option Node) → IsNoThrow (rendered n s cs e old)

  list_calm : (n : ℕ) → BelowCalm n → (cs : Contexts) (xs : List (Element × Option Node)) → AreNoThrow (render_all (rendered n s cs) xs)
  list_calm n below cs [] = tt
  list_calm n below cs (x ∷ xs) = before_calm (rendered n s cs x.0 x.1) (render_all (rendered n s cs) xs) (below cs x.0 x.1) (list_calm n below cs xs)

  part_calm : (n : ℕ) → BelowCalm n → (p : Part) → AreNoThrow (render_part (rendered n s) p)
  part_calm n below p = list_calm n below p.contexts (zip p.elements (old_nodes p.old p.elements))

  -- a body doesn't throw
  abbrev IsCalm : Shape → Type 0
  IsCalm absent = Unit {0}
  IsCalm (waiting r v) = Unit {0}
  IsCalm (throwing x) = ⊥
  IsCalm (one_list m p) = Unit {0}
  IsCalm (two_lists p f) = Unit {0}
  IsCalm (guarded p f) = Unit {0}

  body_shape : (cs : Contexts) (k : ℕ) (old : Option Node) (b : Body) → ((x : ℤ) → b ≡ throw x → ⊥) → IsCalm (shape_of_body cs k old b)
  body_shape cs k old (wait r v) h = tt
  body_shape cs k old (throw x) h = h x refl
  body_shape cs k old (ready es effects initials reads versions) h = tt

  component_shape : (cs : Contexts) (k : ℕ) (props : List ℤ) (given : Elements) (old : Option Node) (d : Option Component) → component_at s.program k ≡ d
      → IsCalm (shape_of_component s cs k props given old d)
  component_shape cs k props given old None there = tt
  component_shape cs k props given old (Some d) there =
      body_shape cs k old (body_of s.program d (inputs_at s cs props given (old_instance old))) (λ x h. never k d (inputs_at s cs props given (old_instance old)) x there h)

  catcher_shape : (cs : Contexts) (f : Element) (es : Elements) (old : Option Node) (caught : Option ℤ) → IsCalm (shape_of_catcher cs f es old caught)
  catcher_shape cs f es old None = tt
  catcher_shape cs f es old (Some x) = tt

  calm_shape : (cs : Contexts) (e : Element) (old : Option Node) → IsCalm (shape_of s cs e old)
  calm_shape cs elements.null old = tt
  calm_shape cs (elements.text t) old = tt
  calm_shape cs (elements.host name key attrs es) old = tt
  calm_shape cs (elements.comp k key props given) old = component_shape cs k props given old (component_at s.program k) refl
  calm_shape cs (elements.list marked es) old = tt
  calm_shape cs (elements.boundary key f es) old = tt
  calm_shape cs (elements.catcher key f es) old = catcher_shape cs f es old (old_caught old)
  calm_shape cs (elements.provider k key x es) old = tt

  place_calm : (n : ℕ) → BelowCalm n → (e : Element) (old : Option Node) (a : Shape) → IsCalm a → IsNoThrow (place_of (rendered n s) e old a)
  place_calm n below e old absent h = tt
  place_calm n below e old (waiting r v) h = tt
  place_calm n below e old (throwing x) h = absurd h
  place_calm n below e old (one_list m p) h = over_calm e m (render_part (rendered n s) p) (part_calm n below p)
  place_calm n below e old (two_lists p f) h = parts_calm e old (render_part (rendered n s) p) (render_part (rendered n s) f) (part_calm n below p) (part_calm n below f)
  place_calm n below e old (guarded p f) h = guarded_calm e (render_part (rendered n s) p) (render_part (rendered n s) f) (part_calm n below p) (part_calm n below f)

  -- No place of a program whose bodies don't throw throws.
  pub rendered_calm : (n : ℕ) → BelowCalm n
  unfolding rendered
  rendered_calm zero cs e old = tt
  rendered_calm (suc n) cs e old = place_calm n (rendered_calm n) e old (shape_of s cs e old) (calm_shape cs e old)

  -- what stands in a place doesn't throw
  pub shape_calm : (n : ℕ) (cs : Contexts) (e : Element) (old : Option Node) → IsNoThrow (place_of (rendered n s) e old (shape_of s cs e old))
  shape_calm n cs e old = place_calm n (rendered_calm n) e old (shape_of s cs e old) (calm_shape cs e old)
