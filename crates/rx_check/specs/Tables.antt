-- What is kept of a program that is accepted, and how its hooks are found by their names.
use Rattle.std.specs.Prelude.{◌≡◌, ℕ, ◌+◌, Bool, true, false, List, [], ◌∷◌, Option, Some, None, cond, bytes_eq, slice_get, length}
use Rattle.std.specs.Option.{option_map_or, option_and_then}
use Rattle.rx_base.specs.Values.{Name}
use Rattle.rx_ast.specs.Syntax.{Program, functions, as_component, as_function}
use Rattle.rx_rules.specs.Names.{component_names, resources, component_at, place_among, StateHook, hooks_of}
use Rattle.rx_rules.specs.Bounds.{node_bound, depth_bound}
use Rattle.rx_names.specs.Listed.{function_names, context_names}
use Rattle.rx_check.specs.Accepted.{IsAccepted}
use Rattle.rx_check.specs.Places.{ArePlaces}
use Rattle.rx_check.specs.declared.hook.HookKind.{HookKind}
use Rattle.rx_check.specs.declared.hook.HookKind.TheVariants as kind

-- a program that is accepted, with its bounds, its names, and the places of its components and functions
pub record IsChecked (p : Program) (bound depth : ℕ) (components functions contexts used : List Name) (component_places function_places : List ℕ) : Type 0 where
  pub accepted : IsAccepted p
  pub bound_is : bound ≡ node_bound p
  pub depth_is : depth ≡ depth_bound p
  pub components_are : components ≡ component_names p
  pub functions_are : functions ≡ function_names p
  pub contexts_are : contexts ≡ context_names p
  pub resources_are : used ≡ resources p
  pub component_places_are : ArePlaces as_component p.declarations component_places
  pub function_places_are : ArePlaces as_function p.declarations function_places

-- the kind of a hook of this number without a function
abbrev pub plain_kind : (flag : Bool) → (number : ℕ) → HookKind
plain_kind false number = kind.State number
plain_kind true number = kind.Transition number

-- the kind of the hook of this number
abbrev pub kind_of : (functions : List Name) → (number : ℕ) → StateHook → HookKind
kind_of functions number h = option_map_or (λ f. kind.Reducer number (place_among functions f)) h.reducer (plain_kind h.flag number)

-- the hook of this name among these, which are numbered from here on
abbrev pub hook_among : (functions : List Name) → Name → (number : ℕ) → List StateHook → Option HookKind
hook_among functions name number [] = None
hook_among functions name number (h ∷ hs) =
    cond (bytes_eq name h.name) (Some (kind_of functions number h)) (hook_among functions name (number + 1) hs)

-- the hook of this name in the component of this number
abbrev pub hook_named : Program → (component : ℕ) → Name → Option HookKind
hook_named p component name = option_and_then (λ c. hook_among (function_names p) name 0 (hooks_of c)) (component_at p component)

-- how many parameters the function of this number has
abbrev pub parameter_count : Program → (function : ℕ) → ℕ
parameter_count p function = option_map_or (λ f. length f.parameters) (slice_get (functions p) function) 0
