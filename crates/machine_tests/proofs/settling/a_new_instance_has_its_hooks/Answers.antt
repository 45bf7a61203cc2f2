use Rattle.std.proofs.Common.{◌∙◌, None, refl}
use Rattle.rx_model.specs.State.{opening}
use Rattle.rx_hook_store.specs.Store.{kept_hooks}
use Rattle.machine_tests.proofs.FirstCommit.{first_kept, first_render, first_settles, is_first, rendered_first}
use Rattle.rx_pruned.specs.Pruned.{first}
use Rattle.machine_tests.proofs.settling.a_new_instance_has_its_hooks.Goals as goal

pub settle_hooks-requires : goal.settle_hooks-requires
settle_hooks-requires g c =
    record {
      can = (
        None,
        c.in_ok-tree.tree,
        (
          first_settles c.in_ok-checked.checked (kept_hooks c.new-store.result) c.in_ok-tree.tree c.one-lanes.result (record { updates = 0; resolutions = 0 })
              (c.in_ok-checked.ensures.program ∙ c.in_ok-counter.ensures) c.program-program.ensures.runnable (c.new-store.ensures.opening c.in_ok-checked.checked) c.in_ok-tree.ensures refl,
          first,
        ),
      );
    }

pub committed-value-requires : goal.committed-value-requires
committed-value-requires g c =
    first_kept c.in_ok-checked.checked c.one-lanes.result (kept_hooks c.settle_hooks.new.store)
    (c.in_ok-settled.ensures.settled c.if-not-settled.false None c.in_ok-tree.tree opening (first_render c.one-lanes.result) rendered_first first
    (is_first c.in_ok-checked.checked (kept_hooks c.new-store.result) c.in_ok-tree.tree c.one-lanes.result (record { updates = 0; resolutions = 0 })
    (c.in_ok-checked.ensures.program ∙ c.in_ok-counter.ensures) c.program-program.ensures.runnable (c.new-store.ensures.opening c.in_ok-checked.checked) c.in_ok-tree.ensures refl))

pub settle_all-requires : goal.settle_all-requires
settle_all-requires g c =
    first_settles c.in_ok-checked.checked (kept_hooks c.new-whole.result) c.in_ok-tree.tree c.one-lanes.result (record { updates = 0; resolutions = 0 })
    (c.in_ok-checked.ensures.program ∙ c.in_ok-counter.ensures) c.program-program.ensures.runnable (c.new-whole.ensures.opening c.in_ok-checked.checked) c.in_ok-tree.ensures refl

pub committed-value-requires-2 : goal.committed-value-requires-2
committed-value-requires-2 g c =
    first_kept c.in_ok-checked.checked c.one-lanes.result (kept_hooks c.settle_all.new.store)
    (c.in_ok-settle_all.ensures.settled opening (first_render c.one-lanes.result) rendered_first
    (is_first c.in_ok-checked.checked (kept_hooks c.new-whole.result) c.in_ok-tree.tree c.one-lanes.result (record { updates = 0; resolutions = 0 })
    (c.in_ok-checked.ensures.program ∙ c.in_ok-counter.ensures) c.program-program.ensures.runnable (c.new-whole.ensures.opening c.in_ok-checked.checked) c.in_ok-tree.ensures refl))
