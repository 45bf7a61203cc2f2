use Rattle.std.proofs.Common.{◌∙◌, ap, refl}
use Rattle.rx_lane.specs.Lanes.{has, lanes_where}
use Rattle.rx_lines.specs.Lines.{Counts, deferred, with_line}
use Rattle.rx_plain.specs.Plained.{Going}
use Rattle.rx_plain.proofs.Committing.{deferred_stands, deferred_written, knows_since}
use Rattle.rx_plain.proofs.plain.Plain.defer.Goals as goal

pub returns-clause-done : goal.returns-clause-done
returns-clause-done c s g h reached =
    let p = c.args.checked.now in
    let v = c.args.self.now in
    let x = c.args.going.now in
    let counts : Counts = record { units = c.args.units; bodies = c.args.bodies } in
    record {
      stands = deferred_stands p s g counts c.args.waits v c.suspend.new.self x h c.requires.idle reached
          (c.suspend.ensures.deferred s g (knows_since p s g v v x h refl) h.schedule h.now);
      written = deferred_written c.args.log.now c.defer_line.new.self x.lanes g counts
          (c.in_ok-defer_line.ensures.written ∙ ap (λ (y : Going). with_line c.args.log.now (deferred (lanes_where (has y.lanes)) counts)) c.going.view_is) h.progress.lanes h.progress.lanes_are_set;
    }
