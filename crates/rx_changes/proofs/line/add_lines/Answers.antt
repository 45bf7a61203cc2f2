use Rattle.rx_node.specs.MarkView.{mark_seen}
use Rattle.rx_effect.specs.EffectLog.{lines_at}
use Rattle.rx_changes.specs.Phases.{phase_seen}
use Rattle.rx_changes.proofs.Growing.{grown}
use Rattle.rx_changes.proofs.Logged.{lines_at-append}
use Rattle.rx_changes.proofs.line.add_lines.Goals as goal

pub loop-effect-preserved : goal.loop-effect-preserved
loop-effect-preserved c =
    let p = phase_seen c.args.phase in
    let m = mark_seen c.args.mark.now in
    grown (lines_at p c.args.created m) (lines_at-append p c.args.created m) c.effects-effect-items.result.now c.loop-effect.effect-index c.effect-item.result
    c.args.lines.now.items c.loop-effect.lines.items c.add_line.new.lines.items c.loop-effect-test.true c.effect-item.is
    c.loop-effect.invariant c.in_ok-add_line.ensures
