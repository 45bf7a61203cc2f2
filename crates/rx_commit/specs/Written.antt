-- What a commit writes.
use Rattle.std.specs.Prelude.{ℕ, List, [], ◌∷◌, ◌++◌, Option, map, if◌then◌else◌}
use Rattle.rx_lane.specs.declared.lane.Lane.TheVariants as lane
use Rattle.rx_lane.specs.Lanes.{Lanes, has}
use Rattle.rx_elem.specs.Trees.{Node}
use Rattle.rx_elem.specs.Compare.{compare_trees}
use Rattle.rx_effect.specs.EffectLog.{Passive, layout_log, passive_of}
use Rattle.rx_forest.specs.HostOps.{host_ops}
use Rattle.rx_lines.specs.Lines.{Line, Counts, caught, committed, operated, logged}
use Rattle.rx_meaning.specs.Outcome.{newly_caught}
use Rattle.rx_writing.specs.Written.{passive_lines}

-- the lines of the passive effects that a commit runs itself: all of them, if it has the lane Sync
abbrev pub sync_lines : Lanes → Passive → List Line
sync_lines lanes passive = if has lanes lane.Sync then passive_lines passive else []

-- the lines of a commit of a tree after another one: its own, the operations on the tree of hosts, what error boundaries catch, the layout effects, and the passive effects that it runs itself
abbrev pub lines_of : (number : ℕ) → Lanes → Counts → (old : Option Node) → (new : Node) → List Line
lines_of number lanes counts old new =
    (committed number lanes counts new
    ∷ (map operated (host_ops old new) ++ (map caught (newly_caught old new) ++ map logged (layout_log (compare_trees old new)))))
    ++ sync_lines lanes (passive_of (compare_trees old new))
