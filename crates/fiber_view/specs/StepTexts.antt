-- The text of a step, as a line of a script.
use Rattle.std.specs.Prelude.{ℕ, List, [], ◌∷◌, ◌++◌, codes, decimal, flat_map}
use Rattle.std.specs.Fmt.{signed_decimal}
use Rattle.rx_base.specs.Values.{Text, Name}
use Rattle.rx_lines.specs.Lines.{part_text}
use Rattle.rx_step.specs.declared.step.Step.{Step}
use Rattle.rx_step.specs.declared.step.Step.TheVariants as step
use Rattle.rx_step.specs.declared.step.Dispatch.{Dispatch}
use Rattle.rx_step.specs.declared.step.Dispatch.TheVariants.{Set, Call, Send, Start, Refresh}
use Rattle.rx_step.specs.declared.step.LaneWord.{LaneWord}
use Rattle.rx_step.specs.Steps.{start_lane}
use Rattle.rx_step.specs.declared.step.LaneWord.TheVariants as word

-- the word of a lane
abbrev pub lane_text : LaneWord → Text
lane_text word.Sync = codes "sync"
lane_text word.Input = codes "input"
lane_text word.Default = codes "default"
lane_text word.Transition = codes "transition"

-- a part of a path that is not its first
abbrev pub later_part : Name × ℕ → Text
later_part part = codes "/" ++ part_text part

-- a path behind a space
abbrev pub path_text : List (Name × ℕ) → Text
path_text [] = []
path_text (part ∷ rest) = codes " " ++ part_text part ++ flat_map later_part rest

-- what begins a dispatch: its word, its lane, and which hook of which instance it is for
abbrev pub target_text : (word : Text) → LaneWord → List (Name × ℕ) → Name → Text
target_text word lane path hook = word ++ lane_text lane ++ path_text path ++ codes " " ++ hook

-- a dispatch
abbrev pub dispatch_text : Dispatch → Text
dispatch_text (Set lane path hook x) = target_text (codes "set ") lane path hook ++ codes " " ++ signed_decimal x
dispatch_text (Call lane path hook function x) = target_text (codes "call ") lane path hook ++ codes " " ++ function ++ codes " " ++ signed_decimal x
dispatch_text (Send lane path hook x) = target_text (codes "send ") lane path hook ++ codes " " ++ signed_decimal x
dispatch_text (Start lane path hook) = target_text (codes "start ") (start_lane lane) path hook
dispatch_text (Refresh lane name) = codes "refresh " ++ lane_text lane ++ codes " " ++ name

-- a step
abbrev pub step_text : Step → Text
step_text (step.Dispatch d) = dispatch_text d
step_text (step.Resolve name x) = codes "resolve " ++ name ++ codes " " ++ signed_decimal x
step_text (step.Tick n) = codes "tick " ++ decimal n
step_text (step.Work n) = codes "work " ++ decimal n
step_text step.Flush = codes "flush"
step_text step.FlushSync = codes "flushsync"
step_text step.Passive = codes "passive"
step_text step.Event = codes "event"
step_text step.State = codes "state"
step_text step.Tree = codes "tree"
