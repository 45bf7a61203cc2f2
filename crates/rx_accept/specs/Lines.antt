-- The lines that tell of a refusal.
use Rattle.std.specs.Prelude.{ℕ, ◌≡◌, [], ◌∷◌, ◌++◌, codes, decimal}
use Rattle.rx_base.specs.Values.{Text}
use Rattle.rx_mentions.specs.declared.count.Count.{Count}
use Rattle.rx_mentions.specs.declared.count.Count.TheVariants as count
use Rattle.rx_check.specs.declared.refusal.Refusal.{Refusal}
use Rattle.rx_check.specs.declared.refusal.Refusal.TheVariants as refusal
use Rattle.rx_script.specs.Lines.{Fault, bad_line, unknown_target, out_of_range, BadStep}
use Rattle.rx_script.specs.declared.script.ScriptError.{ScriptError}
use Rattle.rx_script.specs.declared.script.ScriptError.TheVariants as script
use Rattle.rx_accept.specs.declared.cause.Cause.{Cause}
use Rattle.rx_accept.specs.declared.cause.Cause.TheVariants as cause

-- the word for what is counted
abbrev pub count_word : Count → Text
count_word count.Name = codes "name"
count_word count.Text = codes "string"
count_word count.Declarations = codes "declarations"
count_word count.Parameters = codes "parameters"
count_word count.Statements = codes "statements"
count_word count.Attributes = codes "attributes"
count_word count.Dependencies = codes "dependencies"
count_word count.List = codes "list"
count_word count.Resources = codes "resources"
count_word count.Depth = codes "depth"

-- a space, and a number behind it
abbrev pub then_number : ℕ → Text
then_number n = 32 ∷ decimal n

-- the code of a check that is not met, and what it tells: a name, or what was found. Out of memory tells nothing.
abbrev pub refusal_text : Refusal → Text
refusal_text (refusal.Duplicate name) = codes "4 " ++ name
refusal_text (refusal.Unknown name) = codes "5 " ++ name
refusal_text (refusal.Arity name) = codes "6 " ++ name
refusal_text (refusal.FunctionCycle name) = codes "7 " ++ name
refusal_text (refusal.ComponentCycle name) = codes "8 " ++ name
refusal_text (refusal.UseOutside name) = codes "9 " ++ name
refusal_text (refusal.ThrowOutside name) = codes "20 " ++ name
refusal_text refusal.NoApp = codes "10"
refusal_text (refusal.Count what found limit) = codes "11 " ++ count_word what ++ then_number found ++ then_number limit
refusal_text (refusal.TreeBound found) = codes "12" ++ then_number found
refusal_text (refusal.Cost found) = codes "13" ++ then_number found
refusal_text refusal.OutOfMemory = []

-- the code of a cause, and what it tells: a place in bytes from 0, or what a check tells
abbrev pub cause_text : Cause → Text
cause_text (cause.NotUtf8 at) = codes "2 at" ++ then_number at
cause_text (cause.NoToken at) = codes "2 at" ++ then_number at
cause_text (cause.NoProgram at) = codes "3 at" ++ then_number at
cause_text (cause.Unmet r) = refusal_text r
cause_text cause.OutOfMemory = []

-- the line of a program that is refused
abbrev pub program_line : Cause → Text
program_line c = codes "program refused " ++ cause_text c ++ 10 ∷ []

-- the code of a line that is bad
abbrev pub fault_text : Fault → Text
fault_text bad_line = codes "14"
fault_text unknown_target = codes "15"
fault_text out_of_range = codes "16"

-- the line of a script that is refused: the code and the number of its first bad line
abbrev pub script_line : BadStep → Text
script_line bad = codes "script refused " ++ fault_text bad.fault ++ codes " line" ++ then_number bad.line ++ 10 ∷ []

-- the line of a script whose reading gave this error; if out of memory, none
abbrev pub IsScriptLine : ScriptError → Text → Type 0
IsScriptLine (script.BadLine n) line = line ≡ script_line (record { fault = bad_line; line = n })
IsScriptLine (script.UnknownTarget n) line = line ≡ script_line (record { fault = unknown_target; line = n })
IsScriptLine (script.OutOfRange n) line = line ≡ script_line (record { fault = out_of_range; line = n })
IsScriptLine script.OutOfMemory line = ⊥
