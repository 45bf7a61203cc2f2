-- The trees that are rendered and committed.
use Rattle.std.specs.Prelude.{ℕ, suc, max, Bool, true, false, not, ◌||◌, List, [], ◌∷◌, ℤ, Option, Some, None, option_and_then, if◌then◌else◌}
use Rattle.std.specs.Option.{option_map_or}
use Rattle.rx_base.specs.Awaits.{Awaits, nothing}
use Rattle.rx_susp.specs.declared.boundary.BoundaryState.{BoundaryState}
use Rattle.rx_susp.specs.Boundary.{awaits_of, hides}
use Rattle.rx_catch.specs.declared.state.CatchState.{CatchState}
use Rattle.rx_catch.specs.Catching.{caught_of, has_caught}
use Rattle.rx_elem.specs.declared.effect.EffectRecord.{EffectRecord}
use Rattle.rx_elem.specs.declared.effect.ContextRead.{ContextRead}
use Rattle.rx_elem.specs.declared.effect.VersionRead.{VersionRead}
use Rattle.rx_elem.specs.Elements.{Element}
use Rattle.rx_elem.specs.Elements as elements

-- what the tree keeps of a component's instance: its number, from its first commit on, its component, the initial values of its hooks, the contexts and the versions of resources that it read, and its effects
pub record Instance : Type 0 where
  pub number : Option ℕ
  pub component : ℕ
  pub initials : List ℤ
  pub reads : List ContextRead
  pub versions : List VersionRead
  pub effects : List EffectRecord

-- what a node has beside its element and its children
pub data Mark : Type 0 where
  of_instance : Instance → Mark
  -- of a host or a text, with its number from its first commit on
  of_host : (number : Option ℕ) → Mark
  of_boundary : BoundaryState → Mark
  of_catcher : CatchState → Mark
  plain : Mark

-- A node has its element, its mark and a list of children, and a boundary, of Suspense or of errors, a second one, its fallback. The children of a hidden boundary are what it keeps; an error boundary that has caught a value has a fallback alone.
-- In a list, each place has a child or none.
mutual
  pub data Node : Type 0 where
    node : Element → Mark → (children : Forest) → (fallback : Forest) → Node

  -- the places of a list in order
  pub data Forest : Type 0 where
    none : Forest
    vacant : Forest → Forest
    child : Node → Forest → Forest

-- the element that a node was rendered from
abbrev pub element_of : Node → Element
element_of (node e m ns fs) = e

-- what a node has beside its element and its children
abbrev pub mark_of : Node → Mark
mark_of (node e m ns fs) = m

-- the children of a node; of a boundary, of Suspense or of errors, its primary
abbrev pub children_of : Node → Forest
children_of (node e m ns fs) = ns

-- the fallback of a boundary
abbrev pub fallback_of : Node → Forest
fallback_of (node e m ns fs) = fs

-- the children of a node that may be missing
abbrev pub children_if : Option Node → Forest
children_if None = none
children_if (Some n) = children_of n

-- the fallback of a boundary that may be missing
abbrev pub fallback_if : Option Node → Forest
fallback_if None = none
fallback_if (Some n) = fallback_of n

-- the places of a list
abbrev pub places : Forest → List (Option Node)
places none = []
places (vacant ns) = None ∷ places ns
places (child n ns) = Some n ∷ places ns

-- a list of places
abbrev pub forest : List (Option Node) → Forest
forest [] = none
forest (None ∷ ns) = vacant (forest ns)
forest (Some n ∷ ns) = child n (forest ns)

-- the elements that a list was rendered from
abbrev pub elements_in : Forest → List Element
elements_in none = []
elements_in (vacant ns) = elements.null ∷ elements_in ns
elements_in (child n ns) = element_of n ∷ elements_in ns

-- how deep nodes nest below one
abbrev mutual
  pub height : Node → ℕ
  height (node e m ns fs) = suc (max (height_in ns) (height_in fs))

  -- the greatest of the nodes
  pub height_in : Forest → ℕ
  height_in none = 0
  height_in (vacant ns) = height_in ns
  height_in (child n ns) = max (height n) (height_in ns)

-- the instance of a node, if it is one of a component
abbrev pub instance_in : Mark → Option Instance
instance_in (of_instance i) = Some i
instance_in (of_host n) = None
instance_in (of_boundary b) = None
instance_in (of_catcher c) = None
instance_in plain = None

-- the number of a host or a text
abbrev pub host_number : Mark → Option ℕ
host_number (of_instance i) = None
host_number (of_host n) = n
host_number (of_boundary b) = None
host_number (of_catcher c) = None
host_number plain = None

-- the state of a boundary
abbrev pub boundary_in : Mark → Option BoundaryState
boundary_in (of_instance i) = None
boundary_in (of_host n) = None
boundary_in (of_boundary b) = Some b
boundary_in (of_catcher c) = None
boundary_in plain = None

-- the state of an error boundary
abbrev pub catch_in : Mark → Option CatchState
catch_in (of_instance i) = None
catch_in (of_host n) = None
catch_in (of_boundary b) = None
catch_in (of_catcher c) = Some c
catch_in plain = None

-- a node is one of a host or a text
abbrev pub is_host : Mark → Bool
is_host (of_instance i) = false
is_host (of_host n) = true
is_host (of_boundary b) = false
is_host (of_catcher c) = false
is_host plain = false

-- a node is a boundary that is hidden
abbrev pub is_hidden : Mark → Bool
is_hidden m = option_map_or hides (boundary_in m) false

-- a node is a boundary that is shown
abbrev pub is_shown : Mark → Bool
is_shown m = option_map_or (λ b. not (hides b)) (boundary_in m) false

-- a node that may be missing was a boundary that is hidden
abbrev pub was_hidden : Option Node → Bool
was_hidden None = false
was_hidden (Some n) = is_hidden (mark_of n)

-- a node is an error boundary that has caught a value
abbrev pub is_caught : Mark → Bool
is_caught m = option_map_or has_caught (catch_in m) false

-- a node shows its fallback: a boundary that is hidden, or an error boundary that has caught a value
abbrev pub shows_fallback : Mark → Bool
shows_fallback m = is_hidden m || is_caught m

-- the value that an error boundary has caught, if it has
abbrev pub caught_in : Mark → Option ℤ
caught_in m = option_and_then caught_of (catch_in m)

-- what a node that may be missing had caught, if it was an error boundary that had
abbrev pub old_caught : Option Node → Option ℤ
old_caught old = option_and_then (λ n. caught_in (mark_of n)) old

-- a node over its one list: of an error boundary that has caught a value, its fallback, and of any other, its children
abbrev pub node_over : Element → Mark → Forest → Node
node_over e m ns = if is_caught m then node e m none ns else node e m ns none

-- what a hidden boundary waits for
abbrev pub awaits_in : Mark → Awaits
awaits_in m = option_map_or awaits_of (boundary_in m) nothing

-- the effects of a node
abbrev pub effects_in : Mark → List EffectRecord
effects_in m = option_map_or (λ i. i.effects) (instance_in m) []
