use Rattle.std.proofs.Common.{◌≡◌}
use Rattle.rx_hook_store.specs.Store.{kept_hooks}
use Rattle.rx_settle.specs.Found.{seen}
use Rattle.rx_settle.proofs.Again.{RenderedSoFar}
use Rattle.rx_settle.proofs.rendering.render_shown.Given as goal

abbrev pub invariant-rendering : goal.invariant-rendering
invariant-rendering l = record {
  so_far : RenderedSoFar l.checked l.lanes l.cut l.first (kept_hooks l.initial.store) (kept_hooks l.store) (seen l.instances) l.instance-index;
  spare : l.store.spare ≡ l.initial.store.spare;
}
