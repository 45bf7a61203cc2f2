use Rattle.std.proofs.Common.{◌≡◌, ◌++◌, length}
use Rattle.std.specs.Prelude.{codes, flat_map}
use Rattle.rx_lines.specs.Lines.{value_text}
use Rattle.rx_report.proofs.draft.Draft.put_attrs.Given as goal

abbrev pub invariant-attrs : goal.invariant-attrs
invariant-attrs l = record {
  done : l.self.done ≡ l.fn.self.done;
  attrs : l.self.begun ++ flat_map (λ a. codes " " ++ a.name ++ codes "=" ++ value_text a.value) l.rest ≡ l.fn.self.begun ++ flat_map (λ a. codes " " ++ a.name ++ codes "=" ++ value_text a.value) l.fn.attrs;
}

abbrev pub decreases-attrs : goal.decreases-attrs
decreases-attrs l = length l.rest
