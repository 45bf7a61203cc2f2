-- The numbers of the statuses.
use Rattle.std.specs.Prelude.{ℕ}
use Rattle.rx_top.specs.declared.status.Status.{Status}
use Rattle.rx_top.specs.declared.status.Status.TheVariants.{Done, No, Usage, ReadFault, WriteFault, TooLong, ProgramRefused, ScriptRefused, OutOfMemory}

-- the exit status of the process
abbrev pub code_of : Status → ℕ
code_of Done = 0
code_of No = 1
code_of Usage = 2
code_of ReadFault = 3
code_of WriteFault = 4
code_of TooLong = 5
code_of ProgramRefused = 6
code_of ScriptRefused = 7
code_of OutOfMemory = 8
