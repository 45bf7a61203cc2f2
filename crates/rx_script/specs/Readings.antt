-- What the reader of lines holds of the numbers in them.
use Rattle.std.specs.Prelude.{◌≡◌, ℕ, Bool, true, option_map, ◌&&◌, nat_le, ◌^◌, ◌-◌, min, ℤ, pos, negsuc, List, [], ◌∷◌, map, Option, Some, None, option_and_then, Result, Err}
use Rattle.std.specs.Int.{w64}
use Rattle.rx_base.specs.Values.{wrap, Name, Text}
use Rattle.rx_ast.specs.Syntax.{Program}
use Rattle.rx_step.specs.declared.step.Dispatch.{Dispatch}
use Rattle.rx_step.specs.declared.step.Dispatch.TheVariants.{Set, Call, Send, Start, Refresh}
use Rattle.rx_step.specs.declared.step.Step.{Step}
use Rattle.rx_step.specs.declared.step.Step.TheVariants as step
use Rattle.rx_script.specs.declared.form.Form.{Form}
use Rattle.rx_script.specs.declared.form.Place.{Place}
use Rattle.rx_script.specs.declared.path_reader.Spot.{Spot}
use Rattle.rx_step.specs.declared.step.LaneWord.{LaneWord}
use Rattle.rx_script.specs.declared.script.ScriptError.{ScriptError}
use Rattle.rx_script.specs.declared.script.ScriptError.TheVariants.{BadLine, UnknownTarget, OutOfRange, OutOfMemory}
use Rattle.rx_script.specs.declared.line.LineError.{LineError}
use Rattle.rx_script.specs.declared.line.LineError.TheVariants as line
use Rattle.rx_step.specs.Steps.{Path, path_of}
use Rattle.rx_script.specs.Words.{lower_of, natural_of, opposite, upper_of}
use Rattle.rx_script.specs.Lines.{◌◂◌, lane_of, path_of as written_path, operand, is_integer, path_in_bounds, target_of, step_limit, bad_line, unknown_target, out_of_range, Line, silent, good, bad, BadStep}

-- numbers that are read are held here, above every bound of a script
abbrev pub held_at : ℕ
held_at = 2 ^ 64 - 1

-- a number that is held
abbrev pub held : ℕ → ℕ
held n = min n held_at

-- a number with a sign, of which the digits are held
abbrev pub held_integer : ℤ → ℤ
held_integer (pos n) = pos (held n)
held_integer (negsuc n) = negsuc (min n (held_at - 1))

-- the number below zero whose digits these are
abbrev pub below_of : Text → Option ℤ
below_of w = option_and_then opposite (natural_of w)

-- a part of a path with its number held
abbrev pub held_part : Name × ℕ → Name × ℕ
held_part part = (part.0, held part.1)

-- a part of a path from its name and its number
abbrev pub numbered : (name number : Text) → Option (Name × ℕ)
numbered n k = Some (λ name number. (name, number)) ◂ upper_of n ◂ natural_of k

-- a path with held numbers
abbrev pub held_path : Path → Path
held_path path = map held_part path

-- an integer of 64 bits for a number, the same if it is in bounds
abbrev pub held_value : ℤ → ℤ
held_value x = wrap w64 (held_integer x)

-- a dispatch with held numbers
abbrev pub held_dispatch : Dispatch → Dispatch
held_dispatch (Set lane path name x) = Set lane (held_path path) name (held_value x)
held_dispatch (Call lane path name f x) = Call lane (held_path path) name f (held_value x)
held_dispatch (Send lane path name x) = Send lane (held_path path) name (held_value x)
held_dispatch (Start lane path name) = Start lane (held_path path) name
held_dispatch (Refresh lane name) = Refresh lane name

-- a step with held numbers
abbrev pub held_step : Step → Step
held_step (step.Dispatch d) = step.Dispatch (held_dispatch d)
held_step (step.Resolve name x) = step.Resolve name (held_value x)
held_step (step.Tick n) = step.Tick (held n)
held_step (step.Work n) = step.Work (held n)
held_step step.Flush = step.Flush
held_step step.FlushSync = step.FlushSync
held_step step.Passive = step.Passive
held_step step.Event = step.Event
held_step step.State = step.State
held_step step.Tree = step.Tree

-- the number with a sign of a step, 0 if it has none
abbrev pub operand_of : Step → ℤ
operand_of (step.Dispatch d) = operand d
operand_of (step.Resolve name x) = x
operand_of (step.Tick n) = pos 0
operand_of (step.Work n) = pos 0
operand_of step.Flush = pos 0
operand_of step.FlushSync = pos 0
operand_of step.Passive = pos 0
operand_of step.Event = pos 0
operand_of step.State = pos 0
operand_of step.Tree = pos 0

-- the component that the path of a step ends at, if it has a path
abbrev pub target_in : Program → Step → Option ℕ
target_in p (step.Dispatch d) = target_of p (path_of d)
target_in p (step.Resolve name x) = None
target_in p (step.Tick n) = None
target_in p (step.Work n) = None
target_in p step.Flush = None
target_in p step.FlushSync = None
target_in p step.Passive = None
target_in p step.Event = None
target_in p step.State = None
target_in p step.Tree = None

-- what is read of a line that has the form of a step
abbrev pub reading : Program → Step → Form
reading p s = record { step = held_step s; value = held_integer (operand_of s); target = target_in p s }

-- what is read of a path: it with held numbers, and the component that it ends at
abbrev pub spot_at : Program → Path → Spot
spot_at p path = record { path = held_path path; target = target_of p path }

-- what is read of the word of a path
abbrev pub spot_of : Program → Text → Option Spot
spot_of p word = option_map (λ path. spot_at p path) (written_path word)

-- what the words of a dispatch name: a lane, an instance and a hook
abbrev pub place_of : Program → (lane path hook : Text) → Option Place
place_of p l w h = Some (λ lane path name. record { lane = lane; spot = spot_at p path; hook = name }) ◂ lane_of l ◂ written_path w ◂ lower_of h

-- a dispatch of a value at this place, if its word is one
abbrev pub at_place : Option (LaneWord → Path → Name → ℤ → Step) → Place → ℤ → Option Step
at_place form place x = option_map (λ make. make place.lane place.spot.path place.hook x) form

-- a dispatch of a function at this place, if its word is one
abbrev pub call_at_place : Option (LaneWord → Path → Name → Name → ℤ → Step) → Place → Name → ℤ → Option Step
call_at_place form place f x = option_map (λ make. make place.lane place.spot.path place.hook f x) form

-- a step at this place, beside its number with a sign
abbrev pub with_value : Place → Option Step → ℤ → Option Form
with_value place s v = option_map (λ step. record { step = step; value = v; target = place.spot.target }) s

-- what is read of a dispatch of a value, from its parts
abbrev pub value_reading : Option (LaneWord → Path → Name → ℤ → Step) → Option Place → Option ℤ → Option Form
value_reading form None x = None
value_reading form (Some place) None = None
value_reading form (Some place) (Some x) = with_value place (at_place form place (held_value x)) (held_integer x)

-- what is read of a dispatch of a function, from its parts
abbrev pub call_reading : Option (LaneWord → Path → Name → Name → ℤ → Step) → Option Place → Option Name → Option ℤ → Option Form
call_reading form None f x = None
call_reading form (Some place) None x = None
call_reading form (Some place) (Some f) None = None
call_reading form (Some place) (Some f) (Some x) =
    with_value place (call_at_place form place f (held_value x)) (held_integer x)

-- all numbers of a step but the one with a sign are in their bounds
abbrev pub counts_in_bounds : Program → Step → Bool
counts_in_bounds p (step.Dispatch d) = path_in_bounds p (path_of d)
counts_in_bounds p (step.Resolve name x) = true
counts_in_bounds p (step.Tick n) = nat_le n step_limit
counts_in_bounds p (step.Work n) = nat_le 1 n && nat_le n step_limit
counts_in_bounds p step.Flush = true
counts_in_bounds p step.FlushSync = true
counts_in_bounds p step.Passive = true
counts_in_bounds p step.Event = true
counts_in_bounds p step.State = true
counts_in_bounds p step.Tree = true

-- all numbers that were read are in their bounds
abbrev pub form_in_bounds : Program → Form → Bool
form_in_bounds p f = is_integer p f.value && counts_in_bounds p f.step

-- the fault that an error of a line tells of
abbrev pub IsFault : LineError → Line → Type 0
IsFault line.BadLine l = l ≡ bad bad_line
IsFault line.UnknownTarget l = l ≡ bad unknown_target
IsFault line.OutOfRange l = l ≡ bad out_of_range
IsFault line.OutOfMemory l = Unit {0}

-- the step that a line is, or none
abbrev pub good_if : Option Step → Line
good_if None = silent
good_if (Some s) = good s

-- the step that a line is, if it is one
abbrev pub found_steps : Option Step → List Step
found_steps None = []
found_steps (Some s) = s ∷ []

-- the first bad line is the one that an error tells of
abbrev pub Refuses : ScriptError → Result (List Step) BadStep → Type 0
Refuses (BadLine line) script = script ≡ Err (record { fault = bad_line; line = line })
Refuses (UnknownTarget line) script = script ≡ Err (record { fault = unknown_target; line = line })
Refuses (OutOfRange line) script = script ≡ Err (record { fault = out_of_range; line = line })
Refuses OutOfMemory script = Unit {0}

-- the error of a script whose first bad line has this number and this error
abbrev pub IsErrorAt : ℕ → LineError → ScriptError → Type 0
IsErrorAt n line.BadLine e = e ≡ BadLine n
IsErrorAt n line.UnknownTarget e = e ≡ UnknownTarget n
IsErrorAt n line.OutOfRange e = e ≡ OutOfRange n
IsErrorAt n line.OutOfMemory e = e ≡ OutOfMemory
