-- To which functions a function leads, and to which components a component.
use Rattle.std.specs.Prelude.{map, filter_map, Option, Some, None}
use Rattle.rx_base.specs.Values.{Name}
use Rattle.rx_ast.specs.Syntax.{Program, functions, components}
use Rattle.rx_rules.specs.Names.{function_number, component_number}
use Rattle.rx_order.specs.Graphs.{Graph}
use Rattle.rx_mentions.specs.Mentions.{function_mentions, component_mentions}
use Rattle.rx_mentions.specs.Mention.{Mention}
use Rattle.rx_mentions.specs.Mention as mention

-- the function that is called
abbrev pub called_in : Mention → Option Name
called_in (mention.Introduced x again) = None
called_in (mention.Unknown x) = None
called_in (mention.Call f n) = Some f
called_in (mention.Reduction f) = None
called_in (mention.Context c) = None
called_in (mention.Element c attrs filled) = None
called_in (mention.Host h) = None
called_in (mention.Children known) = None
called_in (mention.Resource r) = None
called_in (mention.Quoted n) = None
called_in (mention.Counted w n) = None

-- the component whose element stands there
abbrev pub placed_in : Mention → Option Name
placed_in (mention.Introduced x again) = None
placed_in (mention.Unknown x) = None
placed_in (mention.Call f n) = None
placed_in (mention.Reduction f) = None
placed_in (mention.Context c) = None
placed_in (mention.Element c attrs filled) = Some c
placed_in (mention.Host h) = None
placed_in (mention.Children known) = None
placed_in (mention.Resource r) = None
placed_in (mention.Quoted n) = None
placed_in (mention.Counted w n) = None

-- for each function, by their numbers, the functions that it calls
abbrev pub calls : Program → Graph
calls p = map (λ f. map (function_number p) (filter_map called_in (function_mentions f))) (functions p)

-- for each component, by their numbers, the components whose elements stand in its body
abbrev pub places : Program → Graph
places p = map (λ c. map (component_number p) (filter_map placed_in (component_mentions c))) (components p)
