-- The list to which a link of the two trees leads.
use Rattle.std.specs.Prelude.{ℕ, Option, None, Some, if◌then◌else◌}
use Rattle.rx_lists.specs.Shapes.{Shape, none, holds}
use Rattle.rx_links.specs.Drafts.{Draft, Trees, grafted, list_at, shape_or_none}
use Rattle.rx_links.specs.Readers.{made_list_at}

module _ {F : Type 0} where
  -- a list in progress as a plain list, or none
  abbrev pub grafted_or_none : Option (Draft F) → Shape F
  grafted_or_none None = none
  grafted_or_none (Some d) = grafted d

  -- the list to which a link leads: of the current tree, or of the tree in progress with what that took over
  abbrev pub list_of : Trees F → Option ℕ → Shape F
  list_of t None = none
  list_of t (Some i) = if holds t.current i then shape_or_none (list_at t.current i) else grafted_or_none (made_list_at t.draft i)
