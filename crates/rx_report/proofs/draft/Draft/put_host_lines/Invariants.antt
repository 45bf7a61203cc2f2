use Rattle.std.proofs.Common.{◌≡◌, ◌<◌, ◌^◌, List, reverse}
use Rattle.std.specs.Prelude.{IfSome}
use Rattle.rx_forest.specs.Hosts.{Host}
use Rattle.rx_forest.specs.Forests.{forest_of}
use Rattle.rx_host.specs.Kept.{forest_kept}
use Rattle.rx_lines.specs.Lines.{Options}
use Rattle.rx_report.specs.TreeOrder.{AreInTreeOrder}
use Rattle.rx_report.proofs.Progress.{Progress}
use Rattle.rx_report.proofs.draft.Draft.put_host_lines.Given as goal

abbrev pub invariant-hosts : goal.invariant-hosts
invariant-hosts l = record {
  done : l.self.done ≡ l.fn.self.done;
  fits : IfSome l.next (λ n. n < 2 ^ 64);
  lines : (o : Options) (all : List Host) → AreInTreeOrder all → forest_kept l.hosts ≡ forest_of all
      → Progress (forest_kept l.hosts) o all l.fn.self.begun l.self.begun (reverse l.above.items) l.next l._listed;
}
