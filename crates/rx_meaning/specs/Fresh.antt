-- Rendering: the whole tree anew, from the root's element.
use Rattle.std.specs.Prelude.{◌≡◌, ℕ, zero, suc, List, [], ◌∷◌, ℤ, pos, Option, Some, None, map, option_map, option_and_then, slice_set, length, if◌then◌else◌}
use Rattle.std.specs.List.{zip, enumerate_from, range_with_len}
use Rattle.rx_base.specs.Values.{wrap}
use Rattle.rx_base.specs.Arithmetic.{neg}
use Rattle.rx_base.specs.Awaits.{Awaits}
use Rattle.rx_base.specs.Awaits as awaits
use Rattle.rx_base.specs.declared.cut.Cut.{Cut}
use Rattle.rx_lane.specs.Lanes.{Lanes}
use Rattle.rx_ast.specs.Syntax.{Context, Component, Program, contexts}
use Rattle.rx_rules.specs.Names.{component_number, component_at, root_name, resources}
use Rattle.rx_susp.specs.declared.boundary.BoundaryState.TheVariants.{Shown, Hidden}
use Rattle.rx_catch.specs.declared.state.CatchState.TheVariants.{Fine, Caught}
use Rattle.rx_elem.specs.Elements.{Element, Elements, listed}
use Rattle.rx_elem.specs.Elements as elements
use Rattle.rx_elem.specs.Trees.{Instance, Mark, Node, node, Forest, mark_of, children_if, fallback_if, instance_in, host_number, node_over, old_caught}
use Rattle.rx_elem.specs.declared.effect.EffectRecord.{EffectRecord}
use Rattle.rx_elem.specs.declared.effect.ContextRead.{ContextRead}
use Rattle.rx_elem.specs.declared.effect.VersionRead.{VersionRead}
use Rattle.rx_elem.specs.Trees as trees
use Rattle.rx_elem.specs.Numbers.{Numbers, numbered}
use Rattle.rx_elem.specs.Compare.{old_nodes}
use Rattle.rx_queue.specs.Journal.{Journal, hook, state_of, updates_of, version_of, values_at, resolutions_by}
use Rattle.rx_rules.specs.Versions.{width}
use Rattle.rx_meaning.specs.Expressions.{answers_of}
use Rattle.rx_meaning.specs.Body.{Inputs, Body, wait, throw, ready, body_of}

-- what a render sees
pub record Sight : Type 0 where
  pub program : Program
  pub journal : Journal
  pub lanes : Lanes
  pub cut : Cut
  -- how many resolutions the last commit saw
  pub seen : ℕ

-- the values of the contexts at a place, by their numbers
abbrev pub Contexts : Type 0
Contexts = List ℤ

-- the default of a context
abbrev pub default_of : Program → Context → ℤ
default_of p c = let x = wrap (width p) (pos c.number) in if c.negative then neg (width p) x else x

-- the values of the contexts if no provider stands above
abbrev pub default_contexts : Program → Contexts
default_contexts p = map (default_of p) (contexts p)

-- what one place gives: nothing, a node, a wait, or a thrown value
pub data Place : Type 0 where
  empty : Place
  made : Node → Place
  waits : Awaits → Place
  throws : ℤ → Place

-- what a list of places gives: its children, or what the first gives that waits or throws
pub data Places : Type 0 where
  all_made : Forest → Places
  one_waits : Awaits → Places
  one_throws : ℤ → Places

-- the result of a place before the results of those that follow
abbrev pub before : Place → Places → Places
before empty (all_made ns) = all_made (trees.vacant ns)
before empty (one_waits a) = one_waits a
before empty (one_throws x) = one_throws x
before (made n) (all_made ns) = all_made (trees.child n ns)
before (made n) (one_waits a) = one_waits a
before (made n) (one_throws x) = one_throws x
before (waits a) rest = one_waits a
before (throws x) rest = one_throws x

-- how one place is rendered, from its element and its old node
abbrev pub Renders : Type 0
Renders = Element → Option Node → Place

-- the places of a list in order, up to the first that waits or throws
abbrev pub render_all : Renders → List (Element × Option Node) → Places
render_all render [] = all_made trees.none
render_all render (x ∷ xs) = before (render x.0 x.1) (render_all render xs)

-- a list of children against the old list
abbrev pub render_list : Renders → List Element → Forest → Places
render_list render es old = render_all render (zip es (old_nodes old es))

-- Components

-- the values of an instance's hooks: each the fold of its included updates
abbrev pub hook_values : Sight → (instance : ℕ) → (initials : List ℤ) → List ℤ
hook_values s instance initials =
    map (λ h. state_of (answers_of s.program) s.lanes s.cut h.1 (updates_of (hook instance h.0) s.journal)) (enumerate_from 0 initials)

-- the instance of an old node
abbrev pub old_instance : Option Node → Option Instance
old_instance old = option_and_then (λ n. instance_in (mark_of n)) old

-- the number of an old host
abbrev pub old_host : Option Node → Option ℕ
old_host old = option_and_then (λ n. host_number (mark_of n)) old

-- the hook values of an instance that has a number, as each of a committed tree has
abbrev pub values_of : Sight → Instance → Option (List ℤ)
values_of s i = option_map (λ n. hook_values s n i.initials) i.number

-- the version of a resource that a render sees
abbrev pub version_seen : Sight → (resource : ℕ) → ℕ
version_seen s r = version_of s.lanes s.cut s.journal r

-- the resources of a program, by their numbers
abbrev pub resource_numbers : Program → List ℕ
resource_numbers p = range_with_len 0 (length (resources p))

-- the versions of the resources
abbrev pub versions_seen : Sight → List ℕ
versions_seen s = map (version_seen s) (resource_numbers s.program)

-- the values of the resources in these versions that were resolved before the cut
abbrev pub resources_seen : Sight → List (Option ℤ)
resources_seen s = values_at (resolutions_by s.cut s.journal) (versions_seen s)

-- what the body of a component is evaluated from at a place
abbrev pub inputs_at : Sight → Contexts → (props : List ℤ) → (children : Elements) → Option Instance → Inputs
inputs_at s cs props kids old =
    record {
      props = props;
      children = listed kids;
      hooks = option_and_then (values_of s) old;
      contexts = cs;
      versions = versions_seen s;
      resources = resources_seen s;
    }

-- an instance keeps its number and its initial values
abbrev pub instance_after : (component : ℕ) → Option Instance → (initials : List ℤ) → List ContextRead → List VersionRead → List EffectRecord → Instance
instance_after c None initials reads versions effects =
    record { number = None; component = c; initials = initials; reads = reads; versions = versions; effects = effects }
instance_after c (Some i) initials reads versions effects =
    record { number = i.number; component = c; initials = i.initials; reads = reads; versions = versions; effects = effects }

-- Places

-- a list of children: in which contexts they stand, and against which old ones they are rendered
pub record Part : Type 0 where
  pub contexts : Contexts
  pub elements : List Element
  pub old : Forest

-- what stands in a place
pub data Shape : Type 0 where
  -- nothing
  absent : Shape
  -- a component whose body waits for a version of a resource
  waiting : (resource version : ℕ) → Shape
  -- a component whose body throws a value
  throwing : (value : ℤ) → Shape
  -- a node with one list: its children, or the fallback of an error boundary that has caught a value
  one_list : Mark → Part → Shape
  -- a boundary with its primary and its fallback
  two_lists : (primary fallback : Part) → Shape
  -- an error boundary with its primary, and the fallback that is made anew if that throws
  guarded : (primary fallback : Part) → Shape

-- the children of a node
abbrev pub part : Contexts → List Element → Forest → Part
part cs es old = record { contexts = cs; elements = es; old = old }

-- a component whose body gives this
abbrev pub shape_of_body : Contexts → (component : ℕ) → Option Node → Body → Shape
shape_of_body cs c old (wait r v) = waiting r v
shape_of_body cs c old (throw x) = throwing x
shape_of_body cs c old (ready es effects initials reads versions) =
    one_list (trees.of_instance (instance_after c (old_instance old) initials reads versions effects)) (part cs es (children_if old))

-- a component that may be missing, with its props and the children that it is given
abbrev pub shape_of_component : Sight → Contexts → (component : ℕ) → List ℤ → Elements → Option Node → Option Component → Shape
shape_of_component s cs c props kids old None = absent
shape_of_component s cs c props kids old (Some d) =
    shape_of_body cs c old (body_of s.program d (inputs_at s cs props kids (old_instance old)))

-- an error boundary: one that had caught a value keeps it, with its fallback alone; another tries its children, and has a fallback without old nodes
abbrev pub shape_of_catcher : Contexts → (fallback : Element) → (primary : Elements) → (old : Option Node) → (caught : Option ℤ) → Shape
shape_of_catcher cs f es old None = guarded (part cs (listed es) (children_if old)) (part cs (f ∷ []) trees.none)
shape_of_catcher cs f es old (Some x) = one_list (trees.of_catcher (Caught x)) (part cs (f ∷ []) (fallback_if old))

-- what stands in a place, by its element
abbrev pub shape_of : Sight → Contexts → Element → Option Node → Shape
shape_of s cs elements.null old = absent
shape_of s cs (elements.text t) old = one_list (trees.of_host (old_host old)) (part cs [] trees.none)
shape_of s cs (elements.host name key attrs es) old = one_list (trees.of_host (old_host old)) (part cs (listed es) (children_if old))
shape_of s cs (elements.comp c key props kids) old = shape_of_component s cs c props kids old (component_at s.program c)
shape_of s cs (elements.list marked es) old = one_list trees.plain (part cs (listed es) (children_if old))
shape_of s cs (elements.boundary key fallback es) old =
    two_lists (part cs (listed es) (children_if old)) (part cs (fallback ∷ []) (fallback_if old))
shape_of s cs (elements.catcher key fallback es) old = shape_of_catcher cs fallback es old (old_caught old)
shape_of s cs (elements.provider c key x es) old = one_list trees.plain (part (slice_set cs c x) (listed es) (children_if old))

-- the children of a node, given how the places below are rendered
abbrev pub render_part : (Contexts → Renders) → Part → Places
render_part below p = render_list (below p.contexts) p.elements p.old

-- a node over its list, if none of that waits or throws
abbrev pub over : Element → Mark → Places → Place
over e m (all_made ns) = made (node_over e m ns)
over e m (one_waits a) = waits a
over e m (one_throws x) = throws x

-- A boundary shows its children if none waits, else its fallback, and keeps the old children untouched. If its fallback waits too, it waits outwards for both. What its children or its fallback throw goes outwards.
abbrev pub over_boundary : Element → Option Node → (primary fallback : Places) → Place
over_boundary e old (all_made ns) fallback = made (node e (trees.of_boundary Shown) ns trees.none)
over_boundary e old (one_waits a) (all_made fs) = made (node e (trees.of_boundary (Hidden a)) (children_if old) fs)
over_boundary e old (one_waits a) (one_waits b) = waits (awaits.union a b)
over_boundary e old (one_waits a) (one_throws x) = throws x
over_boundary e old (one_throws x) fallback = throws x

-- An error boundary has its children if none throws, else its fallback. A wait goes outwards, and so does what its fallback throws.
abbrev pub over_catcher : Element → (primary fallback : Places) → Place
over_catcher e (all_made ns) fallback = made (node e (trees.of_catcher Fine) ns trees.none)
over_catcher e (one_waits a) fallback = waits a
over_catcher e (one_throws x) fallback = over e (trees.of_catcher (Caught x)) fallback

-- what a place gives, by what stands in it
abbrev pub place_of : (Contexts → Renders) → Element → Option Node → Shape → Place
place_of below e old absent = empty
place_of below e old (waiting r v) = waits (awaits.one r)
place_of below e old (throwing x) = throws x
place_of below e old (one_list m p) = over e m (render_part below p)
place_of below e old (two_lists p f) = over_boundary e old (render_part below p) (render_part below f)
place_of below e old (guarded p f) = over_catcher e (render_part below p) (render_part below f)

-- one place, given how the places below it are rendered
abbrev pub place : (Contexts → Renders) → Sight → Contexts → Renders
place below s cs e old = place_of below e old (shape_of s cs e old)

-- a place with so many levels below it
unfoldable pub rendered : ℕ → Sight → Contexts → Renders
rendered zero s cs e old = empty
rendered (suc depth) s cs e old = place (rendered depth s) s cs e old

-- no tree of a program is deeper
abbrev pub depth_limit : ℕ
depth_limit = 256

-- the element of the root
abbrev pub root_element : Program → Element
root_element p = elements.comp (component_number p root_name) None [] elements.none

-- the whole tree, rendered from the root against the old one
unfoldable pub fresh : Sight → Option Node → Place
fresh s old = rendered depth_limit s (default_contexts s.program) (root_element s.program) old

-- a tree of a program: none yet, or one that was rendered against such a tree and got its numbers
pub data IsTree (p : Program) : Option Node → Type 0 where
  none_yet : IsTree p None
  given : (s : Sight) (old : Option Node) (n : Node) (next : Numbers) → s.program ≡ p → IsTree p old → fresh s old ≡ made n → IsTree p (Some (numbered next n).1)
