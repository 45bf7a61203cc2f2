-- How much is left of a render: its units, the places that it begins, the bodies that it evaluates.
use Rattle.std.specs.Prelude.{ℕ, zero, suc, ◌+◌, List, [], ◌∷◌, Option, cond}
use Rattle.rx_elem.specs.Elements.{Element}
use Rattle.rx_elem.specs.Elements as elements
use Rattle.rx_elem.specs.Trees.{Node}
use Rattle.rx_meaning.specs.Fresh.{Sight, Contexts, Renders, Place, empty, made, waits, throws, Places, all_made, one_waits, one_throws, rendered, depth_limit, default_contexts, root_element, Part, Shape, absent, waiting, throwing, one_list, two_lists, guarded, shape_of, render_part}
use Rattle.rx_meaning.specs.Touched.{children_with_old}
use Rattle.rx_meaning.specs.Cursor.{is_null, Open, around, trying, falling, guarding, Frame, Cursor, at_place, at_end, ended, finished, after}
use Rattle.rx_meaning.specs.Rest.{from_open, list_from}

-- what is counted: for each place that is begun, for one where nothing can stand since no level is left or its component is missing, and for each node that is completed
pub record Weights : Type 0 where
  pub begins : Contexts → Element → Option Node → ℕ
  pub misses : ℕ
  pub completes : ℕ

-- every unit
abbrev pub each_unit : Weights
each_unit = record { begins = λ cs e old. 1; misses = 1; completes = 1 }

-- the places that are begun, those where nothing can stand included
abbrev pub each_begun : Weights
each_begun = record { begins = λ cs e old. 1; misses = 1; completes = 0 }

-- the places that are begun
abbrev pub each_place : Weights
each_place = record { begins = λ cs e old. 1; misses = 0; completes = 0 }

-- one for a component's place
abbrev pub one_if_component : Element → ℕ
one_if_component elements.null = 0
one_if_component (elements.text t) = 0
one_if_component (elements.host n k attrs es) = 0
one_if_component (elements.comp c k ps es) = 1
one_if_component (elements.list marked es) = 0
one_if_component (elements.boundary k f es) = 0
one_if_component (elements.catcher k f es) = 0
one_if_component (elements.provider c k x es) = 0

-- the bodies that are evaluated
abbrev pub each_body : Weights
each_body = record { begins = λ cs e old. one_if_component e; misses = 0; completes = 0 }

-- what is counted at a place and below it
abbrev pub Tries : Type 0
Tries = Element → Option Node → ℕ

-- nothing is begun after the first place that waits or throws
abbrev pub unless_waits : Place → ℕ → ℕ
unless_waits empty n = n
unless_waits (made m) n = n
unless_waits (waits a) n = 0
unless_waits (throws x) n = 0

-- a boundary's fallback is begun only if the children wait
abbrev pub if_waits : Places → ℕ → ℕ
if_waits (all_made ns) n = 0
if_waits (one_waits a) n = n
if_waits (one_throws x) n = 0

-- that of an error boundary only if the children throw
abbrev pub if_throws : Places → ℕ → ℕ
if_throws (all_made ns) n = 0
if_throws (one_waits a) n = 0
if_throws (one_throws x) n = n

-- a list that neither waits nor throws is completed
abbrev pub if_made : Places → ℕ → ℕ
if_made (all_made ns) n = n
if_made (one_waits a) n = 0
if_made (one_throws x) n = 0

-- the places of a list in order, up to the first that waits or throws
abbrev pub try_all : Tries → Renders → List (Element × Option Node) → ℕ
try_all try render [] = 0
try_all try render (x ∷ xs) = try x.0 x.1 + unless_waits (render x.0 x.1) (try_all try render xs)

-- the children of a node
abbrev pub count_part : (Contexts → Tries) → (Contexts → Renders) → Part → ℕ
count_part count below p = try_all (count p.contexts) (below p.contexts) (children_with_old p)

-- what an open node counts once its list is done, waits or throws
abbrev pub count_open : Weights → (Contexts → Tries) → (Contexts → Renders) → Open → Places → ℕ
count_open w count below (around e m) ps = if_made ps w.completes
count_open w count below (trying e old f) ps =
    if_made ps w.completes + if_waits ps (count_part count below f + if_made (render_part below f) w.completes)
count_open w count below (falling e old a) ps = if_made ps w.completes
count_open w count below (guarding e f) ps =
    if_made ps w.completes + if_throws ps (count_part count below f + if_made (render_part below f) w.completes)

-- what the unit counts that begins a place, by what stands there
abbrev pub begins_as : Weights → Contexts → Element → Option Node → Shape → ℕ
begins_as w cs e old absent = w.misses
begins_as w cs e old (waiting r v) = w.begins cs e old
begins_as w cs e old (throwing x) = w.begins cs e old
begins_as w cs e old (one_list m p) = w.begins cs e old
begins_as w cs e old (two_lists p f) = w.begins cs e old
begins_as w cs e old (guarded p f) = w.begins cs e old

-- a place with those below it, by what stands there; null takes no unit
abbrev pub count_shape : Weights → (Contexts → Tries) → (Contexts → Renders) → Contexts → Element → Option Node → Shape → ℕ
count_shape w count below cs e old absent = cond (is_null e) 0 w.misses
count_shape w count below cs e old (waiting r v) = w.begins cs e old
count_shape w count below cs e old (throwing x) = w.begins cs e old
count_shape w count below cs e old (one_list m p) =
    w.begins cs e old + (count_part count below p + count_open w count below (around e m) (render_part below p))
count_shape w count below cs e old (two_lists p f) =
    w.begins cs e old + (count_part count below p + count_open w count below (trying e old f) (render_part below p))
count_shape w count below cs e old (guarded p f) =
    w.begins cs e old + (count_part count below p + count_open w count below (guarding e f) (render_part below p))

-- at a place and below it, with so many levels
unfoldable pub counted : Weights → ℕ → Sight → Contexts → Tries
counted w zero s cs e old = cond (is_null e) 0 w.misses
counted w (suc levels) s cs e old = count_shape w (counted w levels s) (rendered levels s) cs e old (shape_of s cs e old)

-- around a place that gave this
abbrev pub count_around : Weights → ℕ → Sight → List Frame → Place → ℕ
count_around w levels s [] p = 0
count_around w levels s (f ∷ fs) p =
    unless_waits p (try_all (counted w levels s f.contexts) (rendered levels s f.contexts) f.rest)
    + (count_open w (counted w levels s) (rendered levels s) f.node (list_from (rendered levels s) f p)
    + count_around w (suc levels) s fs (from_open (rendered levels s) f.node (list_from (rendered levels s) f p)))

-- what is left from a cursor on
unfoldable pub left : Weights → Sight → Cursor → ℕ
left w s (at_place levels fs cs e old) = counted w levels s cs e old + count_around w levels s fs (rendered levels s cs e old)
left w s (at_end levels fs o done) = w.completes + count_around w levels s fs (made (finished o done))
left w s (ended p) = 0

-- what the next unit counts
abbrev pub next_counts : Weights → Sight → Cursor → ℕ
next_counts w s (at_place zero fs cs e old) = w.misses
next_counts w s (at_place (suc levels) fs cs e old) = begins_as w cs e old (shape_of s cs e old)
next_counts w s (at_end levels fs o done) = w.completes
next_counts w s (ended p) = 0

-- a whole render
unfoldable pub whole : Weights → Sight → Option Node → ℕ
whole w s old = counted w depth_limit s (default_contexts s.program) (root_element s.program) old

-- what the first units of a render count
abbrev pub spent : Weights → ℕ → Sight → Option Node → ℕ
spent w zero s old = 0
spent w (suc k) s old = spent w k s old + next_counts w s (after k s old)
