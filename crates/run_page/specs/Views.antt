-- What a page shows of a step.
use Rattle.std.specs.Prelude.{Bool}
use Rattle.rx_base.specs.Values.{Text}
use Rattle.run_page.specs.declared.view.Facts.{Facts}
use Rattle.run_page.specs.declared.view.View as code

-- the step as a line of a script, the lines that it writes, whether a turn yields in it, and the state after it: the tree of hosts, the hooks, and what the table shows
pub record View : Type 0 where
  pub title : Text
  pub lines : Text
  pub yields : Bool
  pub tree : Text
  pub hooks : Text
  pub facts : Facts

-- what a view of the program shows
abbrev pub shown : code.View → View
shown v = record { title = v.title.items; lines = v.lines.items; yields = v.yields; tree = v.tree.items; hooks = v.hooks.items; facts = v.facts }
