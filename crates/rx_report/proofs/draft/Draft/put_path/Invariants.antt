use Rattle.std.proofs.Common.{◌≡◌, drop}
use Rattle.std.specs.Prelude.{map, codes}
use Rattle.rx_lines.specs.Lines.{part_text}
use Rattle.rx_report.proofs.Joins.{Joins}
use Rattle.rx_report.proofs.draft.Draft.put_path.Given as goal

abbrev pub invariant-parts : goal.invariant-parts
invariant-parts l = record {
  done : l.self.done ≡ l.fn.self.done;
  parts : Joins l.self.begun l.fn.self.begun l.first (codes "/") (map part_text l.path) (map part_text (drop l.part-index l.path));
}
