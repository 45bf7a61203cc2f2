use Rattle.std.proofs.Common.{◌∙◌, refl}
use Rattle.rx_report.proofs.PieceLists.{level-begin, level-next}
use Rattle.rx_report.proofs.draft.Draft.put_level.Goals as goal

pub levels-init : goal.levels-init
levels-init c = record { done = refl; levels = level-begin c.args.self.now.begun }

pub levels-preserved : goal.levels-preserved
levels-preserved c =
    record {
      done = c.put.ensures.done ∙ c.levels.invariant.done;
      levels = level-next c.levels._above c.levels.self.begun c.args.self.now.begun c.put.new.self.begun c.in_ok-put.ensures.put c.levels.invariant.levels;
    }
