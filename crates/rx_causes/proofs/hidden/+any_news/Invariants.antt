use Rattle.std.proofs.Common.{◌≤◌, IfSome}
use Rattle.rx_lists.specs.Shapes.{Holds, size}
use Rattle.rx_links.specs.Readers.{list_from}
use Rattle.rx_hook_store.specs.Store.{kept_hooks}
use Rattle.rx_causes.specs.Scenes.{KeepsHooks}
use Rattle.rx_causes.specs.Hidden.{ForEachFiber, ForSomeFiber, HasNews, HasNoNews}
use Rattle.rx_causes.proofs.hidden.+any_news.Given as goal

abbrev pub decreases-any_news : goal.decreases-any_news
decreases-any_news l = size (list_from l.tree.now.current l.first)

-- what is told of the rest of the list is told of all of it
abbrev pub invariant-walking : goal.invariant-walking
invariant-walking l = record {
  held : IfSome l.next (Holds l.tree.current);
  kept : ForEachFiber (KeepsHooks (kept_hooks l.hooks)) (list_from l.tree.current l.next);
  none : ForEachFiber (HasNoNews (kept_hooks l.hooks) l.scene.lanes l.scene.cut) (list_from l.tree.current l.next)
      → ForEachFiber (HasNoNews (kept_hooks l.hooks) l.scene.lanes l.scene.cut) (list_from l.tree.current l.initial.next);
  some : ForSomeFiber (HasNews (kept_hooks l.hooks) l.scene.lanes l.scene.cut) (list_from l.tree.current l.next)
      → ForSomeFiber (HasNews (kept_hooks l.hooks) l.scene.lanes l.scene.cut) (list_from l.tree.current l.initial.next);
  within : size (list_from l.tree.current l.next) ≤ size (list_from l.tree.current l.initial.next);
}

abbrev pub decreases-walking : goal.decreases-walking
decreases-walking l = size (list_from l.tree.current l.next)
