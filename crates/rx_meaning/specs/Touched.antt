-- Which places a render comes to, and which of them have a cause to be evaluated anew.
use Rattle.std.specs.Prelude.{ℕ, zero, suc, Bool, true, false, not, ◌&&◌, ◌||◌, List, [], ◌∷◌, ◌++◌, Option, Some, None, filter, is_some, nat_eq, option_to_list, slice_set, slice_get, if◌then◌else◌}
use Rattle.std.specs.List.{zip, list_any}
use Rattle.std.specs.Option.{option_eq, option_map_or}
use Rattle.std.specs.Ordering.{int_eq}
use Rattle.std.specs.Cmp.Lexicographic.{pointwise}
use Rattle.rx_base.specs.Awaits.{Awaits, awaits_where}
use Rattle.rx_ast.specs.Syntax.{Program}
use Rattle.rx_rules.specs.Bounds.{may_throw_in}
use Rattle.rx_susp.specs.declared.boundary.BoundaryState.{BoundaryState}
use Rattle.rx_susp.specs.Boundary.{hides, may_skip}
use Rattle.rx_susp.specs.Boundary as boundary
use Rattle.rx_elem.specs.Elements.{Element, same_element, same_elements}
use Rattle.rx_elem.specs.Elements as elements
use Rattle.rx_elem.specs.Trees.{Node, Forest, Instance, element_of, mark_of, children_of, boundary_in, was_hidden}
use Rattle.rx_elem.specs.declared.effect.ContextRead.{ContextRead}
use Rattle.rx_elem.specs.declared.effect.VersionRead.{VersionRead}
use Rattle.rx_elem.specs.Spots.{spots_in, at_root, mounted_at, numbers_of}
use Rattle.rx_elem.specs.Compare.{old_nodes}
use Rattle.rx_queue.specs.History.{stands_done}
use Rattle.rx_queue.specs.Journal.{is_included, is_new, belongs_to, done_version, resolved_by}
use Rattle.rx_meaning.specs.Fresh.{Sight, Contexts, Place, empty, made, waits, throws, Places, all_made, one_waits, one_throws, Renders, rendered, default_contexts, root_element, depth_limit, old_instance, version_seen, resource_numbers, Part, Shape, absent, waiting, throwing, one_list, two_lists, guarded, shape_of, render_part}

-- a place of a tree: which child it is in each list from it up to the root
abbrev pub Address : Type 0
Address = List ℕ

-- a place that a render comes to
pub record Visit : Type 0 where
  pub address : Address
  -- the component, if it is a component's place
  pub component : Option ℕ
  -- it is a component's place and has a cause to be evaluated anew
  pub touched : Bool
  -- it is a component's place that is touched, or whose component has other props or other children than when it was evaluated last
  pub dirty : Bool
  -- it lies in what an untouched boundary keeps
  pub spared : Bool

-- what a place is rendered in: the values of the contexts, those of the committed tree, and what is known of the boundaries above
pub record Setting : Type 0 where
  pub address : Address
  pub contexts : Contexts
  pub committed : Contexts
  pub was_visible : Bool
  pub spared : Bool

-- Instances

-- an included update of these instances isn't done
abbrev pub has_update : Sight → (instances : List ℕ) → Bool
has_update s instances =
    list_any (λ u. is_included s.lanes s.cut u && (not (stands_done u.standing) && belongs_to instances u.target)) s.journal.updates

-- an included update of these instances is neither done nor owed
abbrev pub has_new_work : Sight → (instances : List ℕ) → Bool
has_new_work s instances = list_any (λ u. is_new s.lanes s.cut u && belongs_to instances u.target) s.journal.updates

-- a context has another value than the one that was read
abbrev pub is_read_anew : Contexts → ContextRead → Bool
is_read_anew cs r = not (option_eq int_eq (slice_get cs r.context) (Some r.value))

-- a resource has another version than the one that was read
abbrev pub is_refreshed : Sight → VersionRead → Bool
is_refreshed s r = not (nat_eq (version_seen s r.resource) r.version)

-- a component's place is touched if its instance is new, has an included update that isn't done, or read another value of a context or another version of a resource
abbrev pub touched_instance : Sight → Contexts → Option Instance → Bool
touched_instance s cs None = true
touched_instance s cs (Some i) =
    has_update s (option_to_list i.number) || (list_any (is_read_anew cs) i.reads || list_any (is_refreshed s) i.versions)

-- Inputs

-- two elements of components have equal props and equal children
abbrev pub same_inputs : Element → Element → Bool
same_inputs (elements.comp c k ps es) (elements.comp d l qs fs) = pointwise int_eq ps qs && same_elements es fs
same_inputs _ _ = false

-- there is an old node, and its element gives a component the same props and the same children as this one
abbrev pub has_same_inputs : Element → Option Node → Bool
has_same_inputs e None = false
has_same_inputs e (Some n) = same_inputs e (element_of n)

-- Boundaries

-- the instances in a list of trees
abbrev pub instances_in : Forest → List ℕ
instances_in ns = numbers_of (mounted_at (spots_in at_root ns))

-- the resources of which the version that is done was resolved before the cut
abbrev pub resolved_seen : Sight → Awaits
resolved_seen s = awaits_where (λ r. is_some (resolved_by s.cut s.journal r (done_version s.journal r)))

-- a render sees a resource in another version than the last commit showed
abbrev pub sees_refresh : Sight → Bool
sees_refresh s = list_any (λ r. not (nat_eq (version_seen s r) (done_version s.journal r))) (resource_numbers s.program)

-- the program has a component that may throw, and a resource got its value between the cut of the last commit and this one, so that a boundary nested in what a hidden one tries may throw now
abbrev pub may_throw_anew : Sight → Bool
may_throw_anew s = boundary.may_throw_anew s.seen s.cut.resolutions (may_throw_in s.program)

-- a boundary waits for what has no value yet, there is no new work in what it keeps, and nothing may throw anew
abbrev pub is_waiting_still : Sight → Node → BoundaryState → Bool
is_waiting_still s old state =
    may_skip state (resolved_seen s) (has_new_work s (instances_in (children_of old))) s.seen s.cut.resolutions (may_throw_in s.program)

-- a hidden boundary is untouched if it is visible, its element, the contexts and the versions of all resources are those of the committed tree, and it waits still
abbrev pub is_untouched : Sight → Setting → Element → Node → BoundaryState → Bool
is_untouched s at e old state =
    at.was_visible
    && (same_element e (element_of old)
    && (pointwise int_eq at.contexts at.committed && (not (sees_refresh s) && is_waiting_still s old state)))

-- a place is one of a hidden boundary that is untouched
abbrev pub keeps_untouched : Sight → Setting → Element → Option Node → Bool
keeps_untouched s at e None = false
keeps_untouched s at e (Some old) = option_map_or (λ state. hides state && is_untouched s at e old state) (boundary_in (mark_of old)) false

-- Walking over a render

-- the visits of a place and of those below it
abbrev pub Visits : Type 0
Visits = Setting → Element → Option Node → List Visit

-- a place waits or throws, and so ends its list
abbrev pub ends_list : Place → Bool
ends_list empty = false
ends_list (made n) = false
ends_list (waits a) = true
ends_list (throws x) = true

-- the children from a place on, in order, up to the first that waits or throws
abbrev pub visit_all : Visits → Renders → Setting → (place : ℕ) → List (Element × Option Node) → List Visit
visit_all visit render at k [] = []
visit_all visit render at k (x ∷ xs) =
    visit (record at { address = k ∷ at.address }) x.0 x.1
    ++ (if ends_list (render x.0 x.1) then [] else visit_all visit render at (suc k) xs)

-- the children of a node, each with its old node
abbrev pub children_with_old : Part → List (Element × Option Node)
children_with_old p = zip p.elements (old_nodes p.old p.elements)

-- the visits of the children of a node
abbrev pub visit_part : Visits → (Contexts → Renders) → Setting → Part → List Visit
visit_part visit below at p = visit_all visit (below p.contexts) (record at { contexts = p.contexts }) 0 (children_with_old p)

-- a list of places waits
abbrev pub is_wait : Places → Bool
is_wait (all_made ns) = false
is_wait (one_waits a) = true
is_wait (one_throws x) = false

-- a list of places throws
abbrev pub is_throw : Places → Bool
is_throw (all_made ns) = false
is_throw (one_waits a) = false
is_throw (one_throws x) = true

-- the values of the contexts below an element
abbrev pub contexts_below : Element → Contexts → Contexts
contexts_below elements.null cs = cs
contexts_below (elements.text t) cs = cs
contexts_below (elements.host n k attrs es) cs = cs
contexts_below (elements.comp c k ps es) cs = cs
contexts_below (elements.list marked es) cs = cs
contexts_below (elements.boundary k f es) cs = cs
contexts_below (elements.catcher k f es) cs = cs
contexts_below (elements.provider c k x es) cs = slice_set cs c x

-- the setting below a node, if the committed tree has the contexts that its old node's element gives
abbrev pub setting_below : Option Node → Setting → Setting
setting_below None at = at
setting_below (Some n) at = record at { committed = contexts_below (element_of n) at.committed }

-- the setting of a boundary's primary
abbrev pub setting_of_primary : Sight → Setting → Element → Option Node → Setting
setting_of_primary s at e old =
    record at {
      address = 0 ∷ at.address;
      was_visible = at.was_visible && not (was_hidden old);
      spared = at.spared || keeps_untouched s at e old;
    }

-- the setting of an error boundary's primary
abbrev pub setting_of_tried : Setting → Setting
setting_of_tried at = record at { address = 0 ∷ at.address }

-- the setting of a fallback
abbrev pub setting_of_fallback : Setting → Setting
setting_of_fallback at = record at { address = 1 ∷ at.address }

-- the visits below a place, by what stands in it
abbrev pub visit_below : Visits → (Contexts → Renders) → Sight → Setting → Element → Option Node → Shape → List Visit
visit_below visit below s at e old absent = []
visit_below visit below s at e old (waiting r v) = []
visit_below visit below s at e old (throwing x) = []
visit_below visit below s at e old (one_list m p) = visit_part visit below at p
visit_below visit below s at e old (two_lists p f) =
    visit_part visit below (setting_of_primary s at e old) p
    ++ (if is_wait (render_part below p) then visit_part visit below (setting_of_fallback at) f else [])
visit_below visit below s at e old (guarded p f) =
    visit_part visit below (setting_of_tried at) p
    ++ (if is_throw (render_part below p) then visit_part visit below (setting_of_fallback at) f else [])

-- the visit of a component's place, or of another
abbrev pub visit_as : Sight → Setting → Element → Option Node → (component : Option ℕ) → Visit
visit_as s at e old None = record { address = at.address; component = None; touched = false; dirty = false; spared = at.spared }
visit_as s at e old (Some c) =
    let touched = touched_instance s at.contexts (old_instance old) in
    record { address = at.address; component = Some c; touched = touched; dirty = touched || not (has_same_inputs e old); spared = at.spared }

-- the component of an element, if it is one of a component
abbrev pub component_in : Element → Option ℕ
component_in elements.null = None
component_in (elements.text t) = None
component_in (elements.host n k attrs es) = None
component_in (elements.comp c k ps es) = Some c
component_in (elements.list marked es) = None
component_in (elements.boundary k f es) = None
component_in (elements.catcher k f es) = None
component_in (elements.provider c k x es) = None

-- the visit of the place itself; if nothing stands there, there is none
abbrev pub visit_here : Sight → Setting → Element → Option Node → Shape → List Visit
visit_here s at e old absent = []
visit_here s at e old (waiting r v) = visit_as s at e old (component_in e) ∷ []
visit_here s at e old (throwing x) = visit_as s at e old (component_in e) ∷ []
visit_here s at e old (one_list m p) = visit_as s at e old (component_in e) ∷ []
visit_here s at e old (two_lists p f) = visit_as s at e old (component_in e) ∷ []
visit_here s at e old (guarded p f) = visit_as s at e old (component_in e) ∷ []

-- the visits of one place and of those below it, given the visits and the results of the places below
abbrev pub visit_place : Visits → (Contexts → Renders) → Sight → Visits
visit_place visit below s at e old =
    let shape = shape_of s at.contexts e old in
    visit_here s at e old shape ++ visit_below visit below s (setting_below old at) e old shape

-- the visits of a place with so many levels below it
unfoldable pub visited : (depth : ℕ) → Sight → Visits
visited zero s at e old = []
visited (suc depth) s at e old = visit_place (visited depth s) (rendered depth s) s at e old

-- the setting of the root
abbrev pub at_top : Program → Setting
at_top p = record { address = []; contexts = default_contexts p; committed = default_contexts p; was_visible = true; spared = false }

-- the places that a whole render comes to, in their order; those of attempts that are given up too
unfoldable pub visits : Sight → Option Node → List Visit
visits s old = visited depth_limit s (at_top s.program) (root_element s.program) old

-- the component places that a whole render evaluates, in their order
abbrev pub evaluated : Sight → Option Node → List Visit
evaluated s old = filter (λ v. is_some v.component) (visits s old)

-- the component places of a whole render that are dirty, in their order, without those in what untouched boundaries keep
abbrev pub dirty_places : Sight → Option Node → List Visit
dirty_places s old = filter (λ v. v.dirty && not v.spared) (visits s old)
