use Rattle.std.proofs.Common.{◌≡◌, ℕ, true, ◌||◌, nat_eq, List, Some}
use Rattle.rx_set.specs.Sets.{holds}
use Rattle.std.specs.Map.{lookup}
use Rattle.rx_hooks.specs.declared.hook.Hook.{Hook}
use Rattle.rx_meaning.specs.Settled.{includes}
use Rattle.rx_hook_store.specs.Working.{AreOnlyWorking, HaveWork}
use Rattle.rx_hook_store.proofs.store.put_all.Given as goal

-- an instance in whose hooks there is work is left, or put among these; and what is put is at work
abbrev pub invariant-putting : goal.invariant-putting
invariant-putting l = record {
  left : (n : ℕ) (kept : List Hook) → lookup (nat_eq n) l.hooks.entries ≡ Some kept → HaveWork l.lanes l.cut kept
      → (includes l.instance-iterator n || holds l.numbers n) ≡ true;
  only : AreOnlyWorking l.lanes l.cut (λ n. lookup (nat_eq n) l.hooks.entries) (holds l.fn.numbers)
      → AreOnlyWorking l.lanes l.cut (λ n. lookup (nat_eq n) l.hooks.entries) (holds l.numbers);
}
