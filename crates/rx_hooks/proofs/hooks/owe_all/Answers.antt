use Rattle.std.proofs.Common.{get_or, subst}
use Rattle.rx_hooks.specs.declared.hook.Hook.{Hook}
use Rattle.rx_hooks.specs.Hooks.{HookStandsFor, owed_hook}
use Rattle.rx_hooks.proofs.Lists.{Changes, stand-changed}
use Rattle.rx_hooks.proofs.Steps.{stepped-all, stepped-more}
use Rattle.rx_hooks.proofs.hooks.owe_all.Goals as goal

pub owing-preserved : goal.owing-preserved
owing-preserved c =
    let i = c.owing.hook-index in
    let hooks = c.owing.hooks in
    let x = c.hook-item.result in
    let new : Hook = record { queue = c.mark_owed.new.self; processed = (get_or hooks i x).processed; linked = (get_or hooks i x).linked } in
    stepped-more (Changes (owed_hook c.args.lanes c.args.cut)) i c.args.hooks.now hooks x new c.owing-test.true c.owing.invariant c.hook-item.is
    (λ answers history s.
    let here = subst (λ (k : Hook). HookStandsFor answers k history) c.hook-item.is s in
    record {
      queue_is = c.mark_owed.ensures.stands answers history.updates here.queue_is;
      last_is = c.mark_owed.ensures.last answers history.updates (get_or hooks i x).processed here.last_is;
      linked_is = here.linked_is;
    })

pub returns : goal.returns
returns c answers histories stand =
    stand-changed answers (owed_hook c.args.lanes c.args.cut) c.args.hooks.now c.owing.hooks histories
    (stepped-all (Changes (owed_hook c.args.lanes c.args.cut)) c.owing.hook-index c.args.hooks.now c.owing.hooks c.owing-test.false c.owing.invariant) stand
