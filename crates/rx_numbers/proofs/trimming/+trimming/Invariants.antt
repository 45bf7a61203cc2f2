use Rattle.std.proofs.Common.{◌≡◌, ◌+◌, ◌*◌, ◌++◌, ◌≤◌, None, drop, replicate}
use Rattle.rx_elem.specs.Trees.{forest, height, height_in}
use Rattle.end_laws.specs.Trimmed.{trimmed_in}
use Rattle.rx_numbers.proofs.Ends.{vacants}
use Rattle.rx_numbers.proofs.Fronts.{in_front}
use Rattle.rx_numbers.proofs.trimming.+trimming.Given as goal

abbrev pub decreases-trim : goal.decreases-trim
decreases-trim l = 2 * height l.node.now + 1

abbrev pub decreases-trim_all : goal.decreases-trim_all
decreases-trim_all l = 2 * height_in (forest l.places.now) + 2

-- the trees so far, then the vacant places behind them, and those that are left, trimmed
abbrev pub invariant-trim_all-loop-place : goal.invariant-trim_all-loop-place
invariant-trim_all-loop-place l = record {
  trees : in_front l.all.items (vacants l.vacant (trimmed_in (forest (drop l.place-index l.places)))) ≡ trimmed_in (forest l.places);
  few : l.vacant ≤ l.place-index;
}

-- so many vacant places are behind the trees
abbrev pub invariant-trim_all-vacant : goal.invariant-trim_all-vacant
invariant-trim_all-vacant l = l.all.items ≡ l.initial.all.items ++ replicate l._vacant None
