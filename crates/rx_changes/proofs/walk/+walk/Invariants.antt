use Rattle.std.proofs.Common.{◌≡◌, ◌+◌, ◌*◌, drop}
use Rattle.rx_elem.specs.Trees.{height, height_in, forest, elements_in}
use Rattle.rx_elem.specs.Compare.{pasts, compare_in}
use Rattle.rx_elem.specs.Spots.{Around}
use Rattle.rx_changes.specs.ChangesView.{changes_seen}
use Rattle.rx_changes.specs.Found.{with_list}
use Rattle.rx_changes.specs.StepView.{level_seen}
use Rattle.rx_changes.proofs.walk.+walk.Given as goal

abbrev pub decreases-add_node : goal.decreases-add_node
decreases-add_node l = 6 * height l.change.now.new.now + 4

abbrev pub decreases-add_below : goal.decreases-add_below
decreases-add_below l = 6 * height l.change.now.new.now + 3

abbrev pub decreases-add_children : goal.decreases-add_children
decreases-add_children l = 6 * height l.change.now.new.now + 2

abbrev pub decreases-add_both : goal.decreases-add_both
decreases-add_both l = 6 * height l.change.now.new.now + 2

abbrev pub decreases-add_kids : goal.decreases-add_kids
decreases-add_kids l = 6 * height_in (forest l.new.now) + 6

abbrev pub decreases-add_list : goal.decreases-add_list
decreases-add_list l = 6 * height_in (forest l.new.now) + 5

abbrev pub decreases-add_in_place : goal.decreases-add_in_place
decreases-add_in_place l = 6 * height_in (forest l.new.now) + 5

-- what is found so far, with that of the places that are left, is what the whole list gives
abbrev pub invariant-add_in_place-loop-place : goal.invariant-add_in_place-loop-place
invariant-add_in_place-loop-place l =
    let ps = pasts (forest l.old) (elements_in (forest l.new)) in
    (a : Around) → with_list l.level.logs (compare_in (level_seen a l.level) (drop l.place ps) (forest (drop l.place l.new))) (changes_seen l.found)
    ≡ with_list l.level.logs (compare_in (level_seen a l.level) ps (forest l.new)) (changes_seen l.initial.found)

abbrev pub invariant-add_list-loop-place : goal.invariant-add_list-loop-place
invariant-add_list-loop-place l =
    let ps = pasts (forest l.old) (elements_in (forest l.new)) in
    (a : Around) → with_list l.level.logs (compare_in (level_seen a l.level) (drop l.place ps) (forest (drop l.place l.new))) (changes_seen l.found)
    ≡ with_list l.level.logs (compare_in (level_seen a l.level) ps (forest l.new)) (changes_seen l.initial.found)
