use Rattle.std.proofs.Common.{◌≡◌, ◌+◌, ◌≤◌, length}
use Rattle.rx_script.specs.Words.{lines_of}
use Rattle.rx_script.specs.Lines.{steps_of, steps_from}
use Rattle.rx_script.proofs.Scripts.{prepend}
use Rattle.rx_script.proofs.script.read_script.Given as goal

abbrev pub invariant-lines : goal.invariant-lines
invariant-lines l = record {
  so_far : steps_of l.checked l.text ≡ prepend l.steps.items (steps_from l.checked l.number (lines_of l.rest));
  same : l.paths ≡ l.checked;
  few : l.number + length l.rest ≤ length l.text + 1;
  steps_few : length l.steps.items + length l.rest ≤ length l.text;
}

abbrev pub decreases-lines : goal.decreases-lines
decreases-lines l = length l.rest
