-- The table of a section: lanes, the render in progress, what is hidden, and the clock.
use Rattle.std.specs.Prelude.{[], ◌++◌, Option, Some, None, codes, decimal, flat_map, if◌then◌else◌}
use Rattle.rx_base.specs.Values.{Text}
use Rattle.rx_lane.specs.declared.lane.Lane.{Lane}
use Rattle.rx_lane.specs.Lanes.{Lanes, has, is_empty, lanes_where}
use Rattle.rx_lines.specs.Lines.{lane_name}
use Rattle.rx_sched.specs.declared.choice.Choice.{Choice}
use Rattle.rx_sched.specs.declared.choice.Choice.TheVariants as choice
use Rattle.rx_page.specs.declared.tag.Tag.TheVariants as tag
use Rattle.rx_page.specs.declared.tag.AttributeName.TheVariants as name
use Rattle.rx_page.specs.Escaping.{escaped}
use Rattle.rx_page.specs.Elements.{attribute, element}
use Rattle.run_page.specs.declared.view.Rendering.{Rendering}
use Rattle.run_page.specs.declared.view.Facts.{Facts}

-- the name of a lane behind a space
abbrev pub name_behind : Lane → Text
name_behind l = codes " " ++ lane_name l

-- the lanes of a set, by falling priority, or that there are none
abbrev pub lanes_shown : Lanes → Text
lanes_shown lanes = if is_empty lanes then codes " none" else flat_map name_behind (lanes_where (has lanes))

-- what the next turn does
abbrev pub next_shown : Choice → Text
next_shown choice.None = codes "has nothing to render"
next_shown choice.Keep = codes "goes on with the render in progress"
next_shown (choice.Start lanes) = codes "starts a render of" ++ lanes_shown lanes

-- a render in progress with its lanes and the units and bodies that it has used, or that there is none
abbrev pub rendering_shown : Option Rendering → Text
rendering_shown None = codes "none"
rendering_shown (Some g) = codes "lanes" ++ lanes_shown g.lanes ++ codes ", units " ++ decimal g.units ++ codes ", bodies " ++ decimal g.bodies

-- a row: the name of a fact, and the fact
abbrev pub row : (fact value : Text) → Text
row fact value =
    element tag.Row [] (element tag.HeaderCell (attribute name.Scope (codes "row")) (escaped fact) ++ element tag.Cell [] (escaped value))

-- the rows of a state
abbrev pub rows : Facts → Text
rows v =
    row (codes "Pending lanes") (lanes_shown v.pending)
    ++ row (codes "Suspended lanes") (lanes_shown v.suspended)
    ++ row (codes "Expired lanes") (lanes_shown v.expired)
    ++ row (codes "Render in progress") (rendering_shown v.rendering)
    ++ row (codes "The next turn") (next_shown v.next)
    ++ row (codes "Hidden boundaries") (decimal v.hidden)
    ++ row (codes "Time") (decimal v.time)

-- the table of a state
abbrev pub table : Facts → Text
table v = element tag.Table [] (element tag.TableCaption [] (escaped (codes "Lanes and renders")) ++ rows v)
