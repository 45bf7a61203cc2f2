use Rattle.std.proofs.Common.{◌≤◌, ◌<◌, length, min, arith}
use Rattle.std.specs.List.{zip}
use Rattle.std.proofs.lemmas.Slice.Zip.{length-zip}
use Rattle.rx_node.specs.MarkView.{mark_seen}
use Rattle.rx_changes.specs.Phases.{phase_seen}
use Rattle.rx_changes.proofs.Growing.{grown, full}
use Rattle.rx_changes.proofs.Logged.{changed_lines, changed_lines-append, zip-get}
use Rattle.rx_changes.proofs.line.add_changes.Goals as goal

pub loop-place-preserved : goal.loop-place-preserved
loop-place-preserved c =
    let p = phase_seen c.args.phase in
    let m = mark_seen c.args.mark.now in
    let old = c.args.old.now in
    let new = c.args.new.now in
    let k = c.loop-place.place in
    let inside : k < min (length old) (length new) = omega (arith, c.loop-place-test.true, c.min-place-end.ensures) in
    grown (changed_lines p c.args.created m) (changed_lines-append p c.args.created m) (zip old new) k (c.index-old-place.result, c.index-new-place.result)
    c.args.lines.now.items c.loop-place.lines.items c.add_change.new.lines.items
    (omega (arith, inside, length-zip old new))
    (zip-get old new k c.index-old-place.result c.index-new-place.result (omega (arith, inside)) (omega (arith, inside)) c.index-old-place.is c.index-new-place.is)
    c.loop-place.invariant c.in_ok-add_change.ensures

pub returns : goal.returns
returns c =
    let p = phase_seen c.args.phase in
    let m = mark_seen c.args.mark.now in
    let old = c.args.old.now in
    let new = c.args.new.now in
    let past : min (length old) (length new) ≤ c.loop-place.place = omega (arith, c.loop-place-test.false, c.min-place-end.ensures) in
    full (changed_lines p c.args.created m) (zip old new) c.loop-place.place c.args.lines.now.items c.loop-place.lines.items
    (omega (arith, past, length-zip old new)) c.loop-place.invariant
