use Rattle.std.proofs.Common.{◌≡◌, ◌++◌, ◌*◌}
use Rattle.std.specs.Prelude.{replicate}
use Rattle.rx_report.proofs.draft.Draft.put_level.Given as goal

abbrev pub invariant-levels : goal.invariant-levels
invariant-levels l = record {
  done : l.self.done ≡ l.fn.self.done;
  levels : l.self.begun ≡ l.fn.self.begun ++ replicate (2 * l._above) 32;
}
