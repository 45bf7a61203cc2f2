use Rattle.std.proofs.Common.{◌≡◌, ◌∙◌, ap, ◌++◌, [], ℕ, refl}
use Rattle.std.specs.Prelude.{map, codes, if◌then◌else◌}
use Rattle.rx_base.specs.Values.{Text, Name}
use Rattle.rx_lines.specs.Lines.{part_text}
use Rattle.rx_report.proofs.Joins.{joins-begin, parts-next, parts-end}
use Rattle.rx_report.proofs.draft.Draft.put_path.Goals as goal

pub parts-init : goal.parts-init
parts-init c = record { done = refl; parts = joins-begin c.args.self.now.begun (codes "/") (map part_text c.args.path.now) }

pub parts-preserved : goal.parts-preserved
parts-preserved c =
    let between : Text = if c.parts.first then [] else codes "/" in
    let wrote : c.put_part.new.self.begun ≡ (c.parts.self.begun ++ between) ++ part_text c.part-item.result =
    c.in_ok-put_part.ensures.put ∙ ap (λ (l : Text). l ++ part_text c.part-item.result) c.in_ok-put_between.ensures.put in
    record {
      done = c.put_part.ensures.done ∙ c.put_between.ensures.done ∙ c.parts.invariant.done;
      parts = parts-next c.args.path.now c.parts.part-index c.part-item.result c.parts.self.begun c.args.self.now.begun c.put_part.new.self.begun c.parts.first (codes "/") (map part_text c.args.path.now) c.parts-test.true c.parts.invariant.parts
          (wrote ∙ ap (λ (p : Name × ℕ). (c.parts.self.begun ++ between) ++ part_text p) c.part-item.is);
    }

pub returns-clause-put : goal.returns-clause-put
returns-clause-put c = parts-end c.args.path.now c.parts.part-index _ _ _ _ _ c.parts-test.false c.parts.invariant.parts
