use Rattle.std.proofs.Common.{◌≡◌, ◌≤◌, map, take, vec_capacity}
use Rattle.rx_hooks.specs.declared.hook.Hook.{Hook}
use Rattle.rx_hooks.proofs.hooks.push_values.Given as goal

abbrev pub invariant-pushing : goal.invariant-pushing
invariant-pushing l = record {
  so_far : l.values.items ≡ map (λ (k : Hook). k.processed.value) (take l.hook-index l.hooks);
  room : vec_capacity l.fn.values ≤ vec_capacity l.values;
}
