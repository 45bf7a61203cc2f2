use Rattle.std.proofs.Common.{◌≡◌, ◌++◌, drop}
use Rattle.rx_report.proofs.PieceLists.{hooks_text}
use Rattle.rx_report.proofs.draft.Draft.put_hooks.Given as goal

abbrev pub invariant-hooks : goal.invariant-hooks
invariant-hooks l = record {
  done : l.self.done ≡ l.fn.self.done;
  hooks : l.self.begun ++ hooks_text (drop l.hook l.names) (drop l.hook l.values) ≡ l.fn.self.begun ++ hooks_text l.names l.values;
}
