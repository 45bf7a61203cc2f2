use Rattle.std.proofs.Common.{◌≤◌, length}
use Rattle.rx_script.proofs.Cuts.{IsBehind}
use Rattle.rx_script.proofs.input.split_input.Given as goal

abbrev pub invariant-lines : goal.invariant-lines
invariant-lines l = record {
  within : length l.rest ≤ length l.input;
  lines : IsBehind l.input l.rest;
}

abbrev pub decreases-lines : goal.decreases-lines
decreases-lines l = length l.rest
