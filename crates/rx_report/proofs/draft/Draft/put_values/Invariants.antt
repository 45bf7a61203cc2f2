use Rattle.std.proofs.Common.{◌≡◌, ◌++◌, drop}
use Rattle.std.specs.Prelude.{codes}
use Rattle.std.specs.Fmt.{signed_decimal}
use Rattle.rx_report.proofs.PieceLists.{Writes}
use Rattle.rx_report.proofs.draft.Draft.put_values.Given as goal

abbrev pub invariant-values : goal.invariant-values
invariant-values l = record {
  done : l.self.done ≡ l.fn.self.done;
  values : Writes (λ x. codes " " ++ signed_decimal x) l.self.begun l.fn.self.begun l.values (drop l.value-index l.values);
}
