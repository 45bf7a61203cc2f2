-- A script that is refused.
use Rattle.rx_base.specs.Values.{Text}
use Rattle.rx_ast.specs.Syntax.{Program}
use Rattle.rx_script.specs.Input.{Input}
use Rattle.rx_script.specs.Lines.{bad_line, unknown_target, out_of_range, steps_of}
use Rattle.rx_script.specs.Readings.{Refuses}
use Rattle.rx_script.specs.declared.script.ScriptError.{ScriptError}
use Rattle.rx_script.specs.declared.script.ScriptError.TheVariants.{BadLine, UnknownTarget, OutOfRange, OutOfMemory}
use Rattle.rx_accept.specs.Programs.{IsSoundText}
use Rattle.rx_accept.specs.Lines.{IsScriptLine}
use Rattle.rx_accept.specs.Judgements.{AreJudged, script_refused}

-- the first bad line that an error tells of refuses the script
pub bad-judged : (parts : Input) (p : Program) (e : ScriptError) (line : Text) → IsSoundText p parts.program
    → Refuses e (steps_of p parts.script) → IsScriptLine e line → AreJudged parts (script_refused line)
bad-judged parts p (BadLine n) line sound refuses told = (p, record { fault = bad_line; line = n }, sound, refuses, told)
bad-judged parts p (UnknownTarget n) line sound refuses told = (p, record { fault = unknown_target; line = n }, sound, refuses, told)
bad-judged parts p (OutOfRange n) line sound refuses told = (p, record { fault = out_of_range; line = n }, sound, refuses, told)
bad-judged parts p OutOfMemory line sound refuses told = absurd told
