-- The hooks of the mounted instances, by the numbers of the instances.
use Rattle.std.specs.Prelude.{ℕ, List, Option, nat_eq}
use Rattle.std.specs.Map.{lookup}
use Rattle.std.specs.Option.{option_map_or}
use Rattle.rx_hooks.specs.declared.hook.Hook.{Hook}
use Rattle.rx_hooks.specs.Hooks.{room_at}

-- what is kept: the hooks of each instance under its number, and room for how many more instances
pub record Kept : Type 0 where
  pub entries : List (ℕ × List Hook)
  pub spare : ℕ

-- the hooks that are kept of an instance
abbrev pub kept_hooks : Kept → ℕ → Option (List Hook)
kept_hooks s n = lookup (nat_eq n) s.entries

-- how many more updates a hook of an instance, by its place, has room for; none if no hooks of the instance are kept
abbrev pub hook_room : (instance place : ℕ) → (kept : ℕ → Option (List Hook)) → ℕ
hook_room instance place kept = option_map_or (room_at place) (kept instance) 0
