use Rattle.std.proofs.Common.{◌≡◌, ◌+◌, ◌*◌, drop}
use Rattle.std.specs.List.{zip}
use Rattle.rx_elem.specs.Trees.{forest}
use Rattle.rx_elem.specs.Compare.{old_nodes}
use Rattle.rx_meaning.specs.Fresh.{Sight, rendered, render_all, render_list}
use Rattle.rx_hook_store.specs.Store.{kept_hooks}
use Rattle.rx_fresh.specs.Evaluated.{AreEvaluated}
use Rattle.rx_fresh.specs.Seeing.{IsSnapshotOf, GivesTrees, GoesOn}
use Rattle.rx_fresh.proofs.Listing.{onto}
use Rattle.rx_fresh.proofs.render.+render.Given as goal

abbrev pub decreases-render_place : goal.decreases-render_place
decreases-render_place g l = 7 * l.depth

abbrev pub decreases-render_list : goal.decreases-render_list
decreases-render_list g l = 7 * l.depth + 1

abbrev pub decreases-render_node : goal.decreases-render_node
decreases-render_node g l = 7 * l.depth + 2

abbrev pub decreases-render_caught : goal.decreases-render_caught
decreases-render_caught g l = 7 * l.depth + 3

abbrev pub decreases-render_component : goal.decreases-render_component
decreases-render_component g l = 7 * l.depth + 3

abbrev pub decreases-render_boundary : goal.decreases-render_boundary
decreases-render_boundary g l = 7 * l.depth + 3

abbrev pub decreases-render_guarded : goal.decreases-render_guarded
decreases-render_guarded g l = 7 * l.depth + 4

abbrev pub decreases-render_catcher : goal.decreases-render_catcher
decreases-render_catcher g l = 7 * l.depth + 5

abbrev pub decreases-render_element : goal.decreases-render_element
decreases-render_element g l = 7 * l.depth + 6

-- the evaluations are right, what is kept goes on, and the children so far, with those of the places that are left, are those of the whole list
abbrev pub invariant-render_list-loop-place : goal.invariant-render_list-loop-place
invariant-render_list-loop-place g l = record {
  evaluated : AreEvaluated l.shot.checked.now l.last;
  goes : GoesOn l.shot.checked.now l.shot.lanes l.shot.cut (kept_hooks l.initial.hooks) (kept_hooks l.hooks);
  so_far : (s : Sight) → IsSnapshotOf l.shot s → GivesTrees s (kept_hooks l.initial.hooks) (forest l.old)
      → onto l.nodes.items (render_all (rendered l.depth s l.contexts) (drop l.place (zip l.elements (old_nodes (forest l.old) l.elements))))
      ≡ render_list (rendered l.depth s l.contexts) l.elements (forest l.old);
}
