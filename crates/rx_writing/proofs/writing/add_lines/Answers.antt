use Rattle.std.proofs.lemmas.Result.{on_ok_weaker}
use Rattle.rx_writing.proofs.Behind.{passive-parts}
use Rattle.rx_writing.proofs.writing.add_lines.Goals as goal

pub returns-clause-written : goal.returns-clause-written
returns-clause-written c =
    on_ok_weaker c.add_effects-2.result
    (passive-parts c.args.log.now c.add_effects.new.log c.add_effects-2.new.log c.args.lines.now.destroyed.items c.args.lines.now.created.items
    c.deref.result.now c.deref-2.result.now c.deref.ensures.value c.deref-2.ensures.value c.in_ok-add_effects.ensures.written)
    c.add_effects-2.ensures.written
