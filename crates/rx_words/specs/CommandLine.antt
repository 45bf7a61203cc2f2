-- The command line as clap is told of it, and the task of what clap finds.
use Rattle.std.specs.Prelude.{Bool, true, Option, Some, None, option_map, option_and_then, codes, bytes_eq, if◌then◌else◌}
use Rattle.rx_base.specs.Values.{Text}
use Rattle.clap.specs.Words.{App, Rule, new_app, new_rule, with_rule}
use Rattle.clap.specs.Simple.{on_top}
use Rattle.clap.specs.declared.builder.action.ArgAction.TheVariants.{SetTrue}
use Rattle.rx_words.specs.declared.task.Task.{Task}
use Rattle.rx_words.specs.declared.task.Task.TheVariants.{Read, Gen}
use Rattle.rx_words.specs.declared.task.Reading.TheVariants.{Run, Check, Verify}
use Rattle.rx_words.specs.Words.{rounds_of}

-- a flag by its long name
abbrev pub flag_rule : Text → Rule
flag_rule name = record (new_rule name) { long = Some name; action = Some SetTrue }

-- the program's name, without help or version
abbrev pub program : App
program = on_top (λ s. record s { no_binary_name = true; disable_help_flag = true }) (new_app (codes "fiber_run"))

-- the command line: a command, a number of rounds, and two flags
abbrev pub command_line : App
command_line =
    with_rule (with_rule (with_rule (with_rule program (new_rule (codes "command"))) (new_rule (codes "rounds"))) (flag_rule (codes "counts"))) (flag_rule (codes "ops"))

-- the task of what was found: a command, a number of rounds, and two flags
abbrev pub task_found : (command rounds : Option Text) → (counts ops : Bool) → Option Task
task_found None rounds counts ops = None
task_found (Some command) rounds counts ops =
    if bytes_eq command (codes "run") then Some (Read (Run counts ops))
    else if bytes_eq command (codes "check") then Some (Read Check)
    else if bytes_eq command (codes "verify") then Some (Read Verify)
    else if bytes_eq command (codes "gen") then option_map (λ n. Gen n) (option_and_then rounds_of rounds)
    else None
