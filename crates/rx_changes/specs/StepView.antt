-- A node beside its past, as the walk knows it, as plain data.
use Rattle.std.specs.Option.{option_copied}
use Rattle.rx_elem.specs.Spots.{Around}
use Rattle.rx_elem.specs.Compare.{Above, Change}
use Rattle.rx_changes.specs.declared.step.Level.{Level}
use Rattle.rx_changes.specs.declared.step.Step.{Step}

-- what is handed down to the nodes of a list, with what surrounds them
abbrev pub level_seen : Around → Level → Above
level_seen a l = record { around = a; was_visible = l.was_visible; displaced = l.displaced }

-- a node beside its past, with what surrounds it
abbrev pub step_seen : Around → Step → Change
step_seen a s = record { old = option_copied s.old; new = s.new.now; was_visible = s.was_visible; around = a; displaced = s.displaced }
