-- Which lines of a script are steps of a program, and why a line is bad.
use Rattle.std.specs.Prelude.{ℕ, ◌+◌, Bool, true, false, ◌&&◌, ◌==◌, nat_le, List, [], ◌∷◌, ℤ, pos, Option, Some, None, is_some, Result, Ok, Err, codes, bytes_eq, position, option_map, option_and_then, if◌then◌else◌}
use Rattle.std.specs.List.{list_all, slice_split}
use Rattle.std.specs.Option.{option_map_or}
use Rattle.rx_base.specs.Values.{Text, Name}
use Rattle.rx_base.specs.Widths.{fits_width}
use Rattle.rx_ast.specs.Syntax.{Program}
use Rattle.rx_rules.specs.Names.{component_names, resources, root_name}
use Rattle.rx_rules.specs.Versions.{instance_limit, width}
use Rattle.rx_names.specs.Listed.{function_names}
use Rattle.rx_check.specs.Tables.{hook_named, parameter_count}
use Rattle.rx_check.specs.declared.hook.HookKind.{HookKind}
use Rattle.rx_check.specs.declared.hook.HookKind.TheVariants as kind
use Rattle.rx_step.specs.declared.step.LaneWord.{LaneWord}
use Rattle.rx_step.specs.declared.step.LaneWord.TheVariants.{Sync, Input, Default, Transition}
use Rattle.rx_step.specs.declared.step.StartWord.{StartWord}
use Rattle.rx_step.specs.declared.step.StartWord.TheVariants as start
use Rattle.rx_step.specs.declared.step.Dispatch.{Dispatch}
use Rattle.rx_step.specs.declared.step.Dispatch.TheVariants.{Set, Call, Send, Start, Refresh}
use Rattle.rx_step.specs.declared.step.Step.{Step}
use Rattle.rx_step.specs.declared.step.Step.TheVariants as step
use Rattle.rx_step.specs.Steps.{Path, path_of as path_in}
use Rattle.rx_script.specs.Words.{lines_of, words_of, natural_of, integer_of, upper_of, lower_of, resource_of}

-- Forms

-- a value for the next part of a form, if both are there
infixl 10 ◌◂◌
abbrev pub ◌◂◌ : {A B : Type 0} → Option (A → B) → Option A → Option B
None ◂ o = None
Some f ◂ o = option_map f o

-- the lane of a word
abbrev pub lane_of : Text → Option LaneWord
lane_of w =
    if bytes_eq w (codes "sync") then Some Sync
    else if bytes_eq w (codes "input") then Some Input
    else if bytes_eq w (codes "default") then Some Default
    else if bytes_eq w (codes "transition") then Some Transition
    else None

-- the lane of a word in which a start sets its flag
abbrev pub start_lane_of : Text → Option StartWord
start_lane_of w =
    if bytes_eq w (codes "sync") then Some start.Sync
    else if bytes_eq w (codes "input") then Some start.Input
    else None

-- a part of a path: a name, or a name, `@` and a number; without a number it is 0
abbrev pub part_of : List Text → Option (Name × ℕ)
part_of [] = None
part_of (n ∷ []) = option_map (λ name. (name, 0)) (upper_of n)
part_of (n ∷ k ∷ []) = Some (λ name number. (name, number)) ◂ upper_of n ◂ natural_of k
part_of (n ∷ k ∷ more) = None

-- what stands before the number of a part of a path
abbrev pub is_at_sign : ℕ → Bool
is_at_sign b = b == 64

-- what stands before a part of a path
abbrev pub is_slash : ℕ → Bool
is_slash b = b == 47

-- the parts of a path, each from its text
abbrev pub parts_of : List Text → Option Path
parts_of [] = Some []
parts_of (w ∷ ws) = Some (λ part path. part ∷ path) ◂ part_of (slice_split is_at_sign w) ◂ parts_of ws

-- a path begins with a name
abbrev pub rooted : List Text → Option Path
rooted [] = None
rooted (w ∷ ws) = Some (λ name path. (name, 0) ∷ path) ◂ upper_of w ◂ parts_of ws

-- a path: a name, and parts behind slashes
abbrev pub path_of : Text → Option Path
path_of w = rooted (slice_split is_slash w)

-- a line of one word
abbrev pub plain_form : Text → Option Step
plain_form w =
    if bytes_eq w (codes "flush") then Some step.Flush
    else if bytes_eq w (codes "flushsync") then Some step.FlushSync
    else if bytes_eq w (codes "passive") then Some step.Passive
    else if bytes_eq w (codes "event") then Some step.Event
    else if bytes_eq w (codes "state") then Some step.State
    else if bytes_eq w (codes "tree") then Some step.Tree
    else None

-- a line of a word and a number
abbrev pub number_form : Text → Option (ℕ → Step)
number_form w =
    if bytes_eq w (codes "tick") then Some (λ n. step.Tick n)
    else if bytes_eq w (codes "work") then Some (λ n. step.Work n)
    else None

-- a line that gives the next version of a resource its value
abbrev pub resolve_form : Text → Option (Name → ℤ → Step)
resolve_form w = if bytes_eq w (codes "resolve") then Some (λ name x. step.Resolve name x) else None

-- a dispatch that asks for another version of a resource
abbrev pub refresh_form : Text → Option (LaneWord → Name → Step)
refresh_form w = if bytes_eq w (codes "refresh") then Some (λ lane name. step.Dispatch (Refresh lane name)) else None

-- a dispatch that starts a transition
abbrev pub start_form : Text → Option (StartWord → Path → Name → Step)
start_form w = if bytes_eq w (codes "start") then Some (λ lane path name. step.Dispatch (Start lane path name)) else None

-- a line of three words, the one or the other
abbrev pub either : Option Step → Option Step → Option Step
either None s = s
either (Some s) t = Some s

-- a dispatch with a hook and a number
abbrev pub value_form : Text → Option (LaneWord → Path → Name → ℤ → Step)
value_form w =
    if bytes_eq w (codes "set") then Some (λ lane path name x. step.Dispatch (Set lane path name x))
    else if bytes_eq w (codes "send") then Some (λ lane path name x. step.Dispatch (Send lane path name x))
    else None

-- a dispatch with a hook, a function and a number
abbrev pub call_form : Text → Option (LaneWord → Path → Name → Name → ℤ → Step)
call_form w = if bytes_eq w (codes "call") then Some (λ lane path name f x. step.Dispatch (Call lane path name f x)) else None

-- The step that words have the form of. Its names may name nothing, and its numbers may be of any size.
abbrev pub form_of : List Text → Option Step
form_of [] = None
form_of (w ∷ []) = plain_form w
form_of (w ∷ n ∷ []) = number_form w ◂ natural_of n
form_of (w ∷ a ∷ b ∷ []) = either (resolve_form w ◂ resource_of a ◂ integer_of b) (refresh_form w ◂ lane_of a ◂ resource_of b)
form_of (w ∷ l ∷ p ∷ h ∷ []) = start_form w ◂ start_lane_of l ◂ path_of p ◂ lower_of h
form_of (w ∷ l ∷ p ∷ h ∷ x ∷ []) = value_form w ◂ lane_of l ◂ path_of p ◂ lower_of h ◂ integer_of x
form_of (w ∷ l ∷ p ∷ h ∷ f ∷ x ∷ []) = call_form w ◂ lane_of l ◂ path_of p ◂ lower_of h ◂ lower_of f ◂ integer_of x
form_of (w ∷ a ∷ b ∷ c ∷ d ∷ e ∷ f ∷ more) = None

-- Targets

-- the component that a path ends at, by its number, if each of its names is one of a component
abbrev pub target_from : Program → ℕ → Path → Option ℕ
target_from p c [] = Some c
target_from p c ((name, k) ∷ path) = option_and_then (λ d. target_from p d path) (position (bytes_eq name) (component_names p))

-- the component that a path ends at; it begins with the root
abbrev pub target_of : Program → Path → Option ℕ
target_of p [] = None
target_of p ((name, k) ∷ path) =
    if bytes_eq name root_name then option_and_then (λ c. target_from p c path) (position (bytes_eq name) (component_names p)) else None

-- the hook of this name in the component that a path ends at
abbrev pub hook_at : Program → Path → Name → Option HookKind
hook_at p path name = option_and_then (λ c. hook_named p c name) (target_of p path)

-- there is a hook, and it is one of useState
abbrev pub is_state : Option HookKind → Bool
is_state None = false
is_state (Some (kind.State n)) = true
is_state (Some (kind.Reducer n f)) = false
is_state (Some (kind.Transition n)) = false

-- there is a hook, and it is one of useReducer
abbrev pub is_reducer : Option HookKind → Bool
is_reducer None = false
is_reducer (Some (kind.State n)) = false
is_reducer (Some (kind.Reducer n f)) = true
is_reducer (Some (kind.Transition n)) = false

-- there is a hook, and it is one of useTransition
abbrev pub is_flag : Option HookKind → Bool
is_flag None = false
is_flag (Some (kind.State n)) = false
is_flag (Some (kind.Reducer n f)) = false
is_flag (Some (kind.Transition n)) = true

-- the name is one of a function of a state and an argument
abbrev pub is_updater : Program → Name → Bool
is_updater p name = option_map_or (λ f. parameter_count p f == 2) (position (bytes_eq name) (function_names p)) false

-- the name is one of a resource
abbrev pub is_resource : Program → Name → Bool
is_resource p name = is_some (position (bytes_eq name) (resources p))

-- all that a step names is there
abbrev pub has_targets : Program → Step → Bool
has_targets p (step.Dispatch (Set lane path name x)) = is_state (hook_at p path name)
has_targets p (step.Dispatch (Call lane path name f x)) = is_state (hook_at p path name) && is_updater p f
has_targets p (step.Dispatch (Send lane path name x)) = is_reducer (hook_at p path name)
has_targets p (step.Dispatch (Start lane path name)) = is_flag (hook_at p path name)
has_targets p (step.Dispatch (Refresh lane name)) = is_resource p name
has_targets p (step.Resolve name x) = is_resource p name
has_targets p (step.Tick n) = true
has_targets p (step.Work n) = true
has_targets p step.Flush = true
has_targets p step.FlushSync = true
has_targets p step.Passive = true
has_targets p step.Event = true
has_targets p step.State = true
has_targets p step.Tree = true

-- Bounds

-- the number is an integer of the program
abbrev pub is_integer : Program → ℤ → Bool
is_integer p x = fits_width (width p) x

-- all numbers of a path are in their bounds
abbrev pub path_in_bounds : Program → Path → Bool
path_in_bounds p path = list_all (λ part. nat_le part.1 (instance_limit p)) path

-- the number of a dispatch, 0 where it has none
abbrev pub operand : Dispatch → ℤ
operand (Set lane path name x) = x
operand (Call lane path name f x) = x
operand (Send lane path name x) = x
operand (Start lane path name) = pos 0
operand (Refresh lane name) = pos 0

-- the greatest time of a tick, and the greatest budget of a turn
abbrev pub step_limit : ℕ
step_limit = 1000000

-- all numbers of a step are in their bounds
abbrev pub in_bounds : Program → Step → Bool
in_bounds p (step.Dispatch d) = is_integer p (operand d) && path_in_bounds p (path_in d)
in_bounds p (step.Resolve name x) = is_integer p x
in_bounds p (step.Tick n) = nat_le n step_limit
in_bounds p (step.Work n) = nat_le 1 n && nat_le n step_limit
in_bounds p step.Flush = true
in_bounds p step.FlushSync = true
in_bounds p step.Passive = true
in_bounds p step.Event = true
in_bounds p step.State = true
in_bounds p step.Tree = true

-- Lines

-- why a line is bad: it has no form, it names what is not there, or a number is out of its bounds
pub data Fault : Type 0 where
  bad_line : Fault
  unknown_target : Fault
  out_of_range : Fault

-- what a line is: no step and not bad, or bad, or a step
pub data Line : Type 0 where
  silent : Line
  bad : Fault → Line
  good : Step → Line

-- what a line is that has a form: first its targets are looked at, then its bounds
abbrev pub formed : Program → Option Step → Line
formed p None = bad bad_line
formed p (Some s) = if has_targets p s then (if in_bounds p s then good s else bad out_of_range) else bad unknown_target

-- a comment begins so
abbrev pub is_comment : Text → Bool
is_comment [] = false
is_comment (b ∷ bs) = b == 35

-- what a line is, from its words
abbrev pub meant : Program → List Text → Line
meant p [] = silent
meant p (w ∷ ws) = formed p (form_of (w ∷ ws))

-- what a line is
abbrev pub line_of : Program → Text → Line
line_of p l = if is_comment l then silent else meant p (words_of l)

-- the first bad line, counted from 1, and why it is bad
pub record BadStep : Type 0 where
  pub fault : Fault
  pub line : ℕ

-- a line before the steps of the lines that follow
abbrev pub with_line : ℕ → Line → Result (List Step) BadStep → Result (List Step) BadStep
with_line n silent rest = rest
with_line n (bad f) rest = Err (record { fault = f; line = n })
with_line n (good s) (Ok steps) = Ok (s ∷ steps)
with_line n (good s) (Err e) = Err e

-- the steps of lines, or the first bad one, if the first of the lines has this number
abbrev pub steps_from : Program → ℕ → List Text → Result (List Step) BadStep
steps_from p n [] = Ok []
steps_from p n (l ∷ ls) = with_line n (line_of p l) (steps_from p (n + 1) ls)

-- the steps of a script, or its first bad line
unfoldable pub steps_of : Program → List ℕ → Result (List Step) BadStep
steps_of p bytes = steps_from p 1 (lines_of bytes)
