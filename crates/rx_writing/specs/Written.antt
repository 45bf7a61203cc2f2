-- Lines behind those that a report has.
use Rattle.std.specs.Prelude.{◌≡◌, List, ◌++◌, map}
use Rattle.rx_base.specs.Values.{Text}
use Rattle.rx_effect.specs.EffectLog.{Passive, passive_log}
use Rattle.rx_lines.specs.Lines.{Line, Written, logged, report_bytes}

-- a report with these lines behind its own
abbrev pub with_lines : Written → List Line → Written
with_lines r lines = record { options = r.options; bytes = r.bytes ++ report_bytes r.options lines }

-- a report went on: nothing of it changed but that bytes came behind its own
pub record GoesOn (old new : Written) : Type 0 where
  pub options : new.options ≡ old.options
  pub more : Text
  pub bytes : new.bytes ≡ old.bytes ++ more

-- the lines of passive effects that run, destructions before creations
abbrev pub passive_lines : Passive → List Line
passive_lines passive = map logged (passive_log passive)
