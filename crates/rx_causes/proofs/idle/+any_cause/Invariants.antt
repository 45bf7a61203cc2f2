use Rattle.std.proofs.Common.{◌≤◌, IfSome}
use Rattle.rx_lists.specs.Shapes.{Holds, size}
use Rattle.rx_links.specs.Readers.{list_from}
use Rattle.rx_ways.specs.Ways.{is_way}
use Rattle.rx_hook_store.specs.Store.{kept_hooks}
use Rattle.rx_causes.specs.Marks.{EachFiberBut, SomeFiber}
use Rattle.rx_causes.specs.Scenes.{KeepsHooks}
use Rattle.rx_causes.specs.Hidden.{ForEachFiber}
use Rattle.rx_causes.specs.Idle.{HasNoCauseAt, LeadsAt}
use Rattle.rx_causes.proofs.idle.+any_cause.Given as goal

abbrev pub decreases-any_cause : goal.decreases-any_cause
decreases-any_cause l = size (list_from l.tree.now.current l.first)

-- what is told of the rest of the list is told of all of it
abbrev pub invariant-walking : goal.invariant-walking
invariant-walking l = record {
  held : IfSome l.next (Holds l.tree.current);
  kept : ForEachFiber (KeepsHooks (kept_hooks l.hooks)) (list_from l.tree.current l.next);
  none : EachFiberBut (is_way l.scene.ways.now) (HasNoCauseAt (kept_hooks l.hooks) l.scene.lanes l.scene.cut) (list_from l.tree.current l.next)
      → EachFiberBut (is_way l.scene.ways.now) (HasNoCauseAt (kept_hooks l.hooks) l.scene.lanes l.scene.cut) (list_from l.tree.current l.initial.next);
  some : SomeFiber (LeadsAt (is_way l.scene.ways.now) (kept_hooks l.hooks) l.scene.lanes l.scene.cut) (list_from l.tree.current l.next)
      → SomeFiber (LeadsAt (is_way l.scene.ways.now) (kept_hooks l.hooks) l.scene.lanes l.scene.cut) (list_from l.tree.current l.initial.next);
  within : size (list_from l.tree.current l.next) ≤ size (list_from l.tree.current l.initial.next);
}

abbrev pub decreases-walking : goal.decreases-walking
decreases-walking l = size (list_from l.tree.current l.next)
