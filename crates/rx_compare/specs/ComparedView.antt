-- Changes of the code as plain data.
use Rattle.std.specs.Option.{option_copied}
use Rattle.rx_elem.specs.Spots as spots
use Rattle.rx_elem.specs.Compare as trees
use Rattle.rx_compare.specs.declared.around.Around.{Around}
use Rattle.rx_compare.specs.declared.change.Change.{Change}
use Rattle.rx_compare.specs.declared.change.Past.{Past}

-- what surrounds a place
abbrev pub around_seen : Around → spots.Around
around_seen a = record { visible = a.visible; owner = a.owner; host = a.host; concealed = a.concealed }

-- a node beside its past
abbrev pub change_seen : Change → trees.Change
change_seen c = record { old = option_copied c.old; new = c.new.now; was_visible = c.was_visible; around = around_seen c.around; displaced = c.displaced }

-- what is known of a new child
abbrev pub past_seen : Past → trees.Past
past_seen p = record { old = option_copied p.old; moved = p.moved }
