use Rattle.std.proofs.Common.{◌≡◌, ℕ, true, ◌||◌, nat_eq, List, Some, drop}
use Rattle.std.specs.Map.{lookup}
use Rattle.rx_hooks.specs.declared.hook.Hook.{Hook}
use Rattle.rx_set.specs.Sets.{holds}
use Rattle.rx_hook_store.specs.Working.{AreOnlyWorking, HaveWork}
use Rattle.rx_hook_store.proofs.store.put_listed.Given as goal

-- an instance that is listed and in whose hooks there is work is left, or put among these; and what is put is at work
abbrev pub invariant-listing : goal.invariant-listing
invariant-listing l = record {
  left : (n : ℕ) (kept : List Hook) → holds l.listed n ≡ true → lookup (nat_eq n) l.hooks.entries ≡ Some kept → HaveWork l.lanes l.cut kept
      → (holds (drop l.instance-index l.listed) n || holds l.numbers n) ≡ true;
  only : AreOnlyWorking l.lanes l.cut (λ n. lookup (nat_eq n) l.hooks.entries) (holds l.fn.numbers)
      → AreOnlyWorking l.lanes l.cut (λ n. lookup (nat_eq n) l.hooks.entries) (holds l.numbers);
}
