-- What is read of a dispatch, and of a hook that was found by its name.
use Rattle.std.specs.Prelude.{ℕ, Bool, true, false, List, [], Option, Some, None}
use Rattle.rx_base.specs.Values.{Name}
use Rattle.rx_rules.specs.Names.{place_among}
use Rattle.rx_check.specs.declared.hook.HookKind.{HookKind}
use Rattle.rx_check.specs.declared.hook.HookKind.TheVariants as kind
use Rattle.rx_step.specs.declared.step.Dispatch.{Dispatch}
use Rattle.rx_step.specs.declared.step.Dispatch.TheVariants.{Call, Refresh, Send, Set, Start}

-- a dispatch asks for another version of a resource
abbrev pub is_refresh : Dispatch → Bool
is_refresh (Set word path name x) = false
is_refresh (Call word path name f x) = false
is_refresh (Send word path name x) = false
is_refresh (Start word path name) = false
is_refresh (Refresh word name) = true

-- a dispatch starts a transition
abbrev pub is_start : Dispatch → Bool
is_start (Set word path name x) = false
is_start (Call word path name f x) = false
is_start (Send word path name x) = false
is_start (Start word path name) = true
is_start (Refresh word name) = false

-- the number of a hook among those of its component
abbrev pub number_in : HookKind → ℕ
number_in (kind.State n) = n
number_in (kind.Reducer n f) = n
number_in (kind.Transition n) = n

-- the function of a hook that was found; if it has none, that of no name
abbrev pub function_in : (functions : List Name) → Option HookKind → ℕ
function_in fs None = place_among fs []
function_in fs (Some (kind.State n)) = place_among fs []
function_in fs (Some (kind.Reducer n f)) = f
function_in fs (Some (kind.Transition n)) = place_among fs []
