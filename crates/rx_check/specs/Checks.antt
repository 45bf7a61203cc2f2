-- The checks of a program. Each lists what it refuses, in the order of the text.
use Rattle.std.specs.Prelude.{ℕ, Bool, true, false, not, ◌&&◌, ◌||◌, nat_eq, bytes_eq, List, [], ◌∷◌, Option, Some, None, filter, filter_map, length, find, cond, is_some}
use Rattle.std.specs.List.{list_all}
use Rattle.std.specs.Option.{option_map_or}
use Rattle.rx_base.specs.Values.{Name}
use Rattle.rx_ast.specs.Syntax.{Program, Parameter, integer, given_children, Component}
use Rattle.rx_rules.specs.Names.{has_name, root_name, component_names, component_named, component_number, function_named, prop_names, resources}
use Rattle.rx_rules.specs.Bounds.{body_by, may_wait, may_throw, node_bound, depth_bound}
use Rattle.rx_rules.specs.Versions.{node_limit}
use Rattle.rx_names.specs.Listed.{function_names, context_names}
use Rattle.rx_order.specs.Graphs.{cycle_names}
use Rattle.rx_mentions.specs.Mentions.{children_name, mentions}
use Rattle.rx_mentions.specs.Ways.{calls, places}
use Rattle.rx_mentions.specs.declared.count.Count.{Count}
use Rattle.rx_mentions.specs.declared.count.Count.TheVariants as count
use Rattle.rx_mentions.specs.Mention.{Mention}
use Rattle.rx_mentions.specs.Mention as mention
use Rattle.rx_figures.specs.Costs.{first_over}
use Rattle.rx_figures.specs.Figures.{nesting_levels}
use Rattle.rx_check.specs.Limits.{limit_of}

-- the name, unless it is as it must be
abbrev pub unless : Bool → Name → Option Name
unless ok x = cond ok None (Some x)

-- Duplicate

-- a name that is introduced though it stands already
abbrev pub repeat_in : Mention → Option Name
repeat_in (mention.Introduced x again) = unless (not again) x
repeat_in (mention.Unknown x) = None
repeat_in (mention.Call f n) = None
repeat_in (mention.Reduction f) = None
repeat_in (mention.Context c) = None
repeat_in (mention.Element c attrs filled) = None
repeat_in (mention.Host h) = None
repeat_in (mention.Children known) = None
repeat_in (mention.Resource r) = None
repeat_in (mention.Quoted n) = None
repeat_in (mention.Counted w n) = None

-- the names that are introduced though they stand already
abbrev pub repeats : Program → List Name
repeats p = filter_map repeat_in (mentions p)

-- Unknown

-- a name that is not known as what it stands for, if these are declared
abbrev pub unknown_among : (functions components contexts : List Name) → Mention → Option Name
unknown_among fs cs xs (mention.Introduced x again) = None
unknown_among fs cs xs (mention.Unknown x) = Some x
unknown_among fs cs xs (mention.Call f n) = unless (has_name fs f) f
unknown_among fs cs xs (mention.Reduction f) = unless (has_name fs f) f
unknown_among fs cs xs (mention.Context c) = unless (has_name xs c) c
unknown_among fs cs xs (mention.Element c attrs filled) = unless (has_name cs c) c
unknown_among fs cs xs (mention.Host h) = None
unknown_among fs cs xs (mention.Children known) = unless known children_name
unknown_among fs cs xs (mention.Resource r) = None
unknown_among fs cs xs (mention.Quoted n) = None
unknown_among fs cs xs (mention.Counted w n) = None

-- a name of a program that is not known as what it stands for
abbrev pub unknown_in : Program → Mention → Option Name
unknown_in p m = unknown_among (function_names p) (component_names p) (context_names p) m

-- the names that are not known as what they stand for
abbrev pub unknowns : Program → List Name
unknowns p = filter_map (unknown_in p) (mentions p)

-- Arity

-- a function takes so many arguments
abbrev pub takes_arguments : Program → Name → ℕ → Bool
takes_arguments p f n = option_map_or (λ g. nat_eq (length g.parameters) n) (function_named p f) false

-- a parameter is `children`
abbrev pub is_children : Parameter → Bool
is_children (integer x) = false
is_children given_children = true

-- the attributes are the integer parameters, and a child is given only if it is taken
abbrev pub fits : List Name → (filled : Bool) → Component → Bool
fits attrs filled c =
    list_all (has_name (prop_names c)) attrs && (list_all (has_name attrs) (prop_names c) && (not filled || is_some (find is_children c.parameters)))

-- an element of a component has what the component takes
abbrev pub element_fits : Program → Name → List Name → (filled : Bool) → Bool
element_fits p c attrs filled = option_map_or (fits attrs filled) (component_named p c) false

-- a function or a component that is given another number of parts than it takes
abbrev pub misfit_in : Program → Mention → Option Name
misfit_in p (mention.Introduced x again) = None
misfit_in p (mention.Unknown x) = None
misfit_in p (mention.Call f n) = unless (takes_arguments p f n) f
misfit_in p (mention.Reduction f) = unless (takes_arguments p f 2) f
misfit_in p (mention.Context c) = None
misfit_in p (mention.Element c attrs filled) = unless (element_fits p c attrs filled) c
misfit_in p (mention.Host h) = None
misfit_in p (mention.Children known) = None
misfit_in p (mention.Resource r) = None
misfit_in p (mention.Quoted n) = None
misfit_in p (mention.Counted w n) = None

-- the functions and components that are given another number of parts than they take
abbrev pub misfits : Program → List Name
misfits p = filter_map (misfit_in p) (mentions p)

-- Cycles

-- the functions that reach themselves by calls
abbrev pub function_cycles : Program → List Name
function_cycles p = cycle_names (calls p) (function_names p)

-- the components that reach themselves by the elements in their bodies
abbrev pub component_cycles : Program → List Name
component_cycles p = cycle_names (places p) (component_names p)

-- Resources outside of a boundary

-- the root may wait, if the reads of the components of this name alone count
abbrev pub root_waits_for : Program → Name → Bool
root_waits_for p name = (body_by (may_wait (λ c. bytes_eq c.name name)) (nesting_levels p) p (component_number p root_name)).own

-- the components for whose resources the root waits, if there is one
abbrev pub outside_uses : Program → List Name
outside_uses p = cond (is_some (component_named p root_name)) (filter (root_waits_for p) (component_names p)) []

-- Throws outside of an error boundary

-- the root may throw, if the throws of the components of this name alone count
abbrev pub root_throws_for : Program → Name → Bool
root_throws_for p name = (body_by (may_throw (λ c. bytes_eq c.name name)) (nesting_levels p) p (component_number p root_name)).own

-- the components for which the root throws, if there is one
abbrev pub outside_throws : Program → List Name
outside_throws p = cond (is_some (component_named p root_name)) (filter (root_throws_for p) (component_names p)) []

-- The root

-- there is a root, and it has no parameters
abbrev pub is_rooted : Program → Bool
is_rooted p = option_map_or (λ c. nat_eq (length c.parameters) 0) (component_named p root_name) false

-- Counts

-- the bytes of the name that is mentioned
abbrev pub name_length_in : Mention → Option ℕ
name_length_in (mention.Introduced x again) = Some (length x)
name_length_in (mention.Unknown x) = Some (length x)
name_length_in (mention.Call f n) = Some (length f)
name_length_in (mention.Reduction f) = Some (length f)
name_length_in (mention.Context c) = Some (length c)
name_length_in (mention.Element c attrs filled) = Some (length c)
name_length_in (mention.Host h) = Some (length h)
name_length_in (mention.Children known) = None
name_length_in (mention.Resource r) = Some (length r)
name_length_in (mention.Quoted n) = None
name_length_in (mention.Counted w n) = None

-- the bytes between the quotes
abbrev pub text_length_in : Mention → Option ℕ
text_length_in (mention.Introduced x again) = None
text_length_in (mention.Unknown x) = None
text_length_in (mention.Call f n) = None
text_length_in (mention.Reduction f) = None
text_length_in (mention.Context c) = None
text_length_in (mention.Element c attrs filled) = None
text_length_in (mention.Host h) = None
text_length_in (mention.Children known) = None
text_length_in (mention.Resource r) = Some (length r)
text_length_in (mention.Quoted n) = Some n
text_length_in (mention.Counted w n) = None

-- two counts are of one thing
abbrev pub same_count : Count → Count → Bool
same_count count.Parameters count.Parameters = true
same_count count.Statements count.Statements = true
same_count count.Attributes count.Attributes = true
same_count count.Dependencies count.Dependencies = true
same_count count.List count.List = true
same_count _ _ = false

-- how many are counted of this thing
abbrev pub count_in : Count → Mention → Option ℕ
count_in v (mention.Introduced x again) = None
count_in v (mention.Unknown x) = None
count_in v (mention.Call f n) = None
count_in v (mention.Reduction f) = None
count_in v (mention.Context c) = None
count_in v (mention.Element c attrs filled) = None
count_in v (mention.Host h) = None
count_in v (mention.Children known) = None
count_in v (mention.Resource r) = None
count_in v (mention.Quoted n) = None
count_in v (mention.Counted w n) = cond (same_count v w) (Some n) None

-- what is counted of this thing in a mention
abbrev pub measure_in : Count → Mention → Option ℕ
measure_in count.Name m = name_length_in m
measure_in count.Text m = text_length_in m
measure_in count.Declarations m = None
measure_in count.Parameters m = count_in count.Parameters m
measure_in count.Statements m = count_in count.Statements m
measure_in count.Attributes m = count_in count.Attributes m
measure_in count.Dependencies m = count_in count.Dependencies m
measure_in count.List m = count_in count.List m
measure_in count.Resources m = None
measure_in count.Depth m = None

-- what is counted of this thing, in the order of the text
abbrev pub counts : Program → Count → List ℕ
counts p count.Name = filter_map (measure_in count.Name) (mentions p)
counts p count.Text = filter_map (measure_in count.Text) (mentions p)
counts p count.Declarations = length p.declarations ∷ []
counts p count.Parameters = filter_map (measure_in count.Parameters) (mentions p)
counts p count.Statements = filter_map (measure_in count.Statements) (mentions p)
counts p count.Attributes = filter_map (measure_in count.Attributes) (mentions p)
counts p count.Dependencies = filter_map (measure_in count.Dependencies) (mentions p)
counts p count.List = filter_map (measure_in count.List) (mentions p)
counts p count.Resources = length (resources p) ∷ []
counts p count.Depth = depth_bound p ∷ []

-- the first count of this thing that is over its limit
abbrev pub count_over : Program → Count → Option ℕ
count_over p w = first_over (limit_of p w) (counts p w)

-- Nodes and costs

-- the node bound, if it is over its limit
abbrev pub nodes_over : Program → Option ℕ
nodes_over p = first_over (node_limit p) (node_bound p ∷ [])
