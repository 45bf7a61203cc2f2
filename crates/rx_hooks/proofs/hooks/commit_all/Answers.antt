use Rattle.std.proofs.Common.{get_or, subst}
use Rattle.rx_hooks.specs.declared.hook.Hook.{Hook}
use Rattle.rx_hooks.specs.Hooks.{HookStandsFor, committed_hook}
use Rattle.rx_hooks.proofs.Lists.{Changes, stand-changed}
use Rattle.rx_hooks.proofs.Steps.{stepped-all, stepped-more}
use Rattle.rx_hooks.proofs.hooks.commit_all.Goals as goal

pub committing-preserved : goal.committing-preserved
committing-preserved c =
    let i = c.committing.hook-index in
    let hooks = c.committing.hooks in
    let x = c.hook-item.result in
    let new : Hook = record { queue = c.commit.new.self; processed = (get_or hooks i x).processed; linked = (get_or hooks i x).linked } in
    stepped-more (Changes committed_hook) i c.args.hooks.now hooks x new c.committing-test.true c.committing.invariant c.hook-item.is
    (λ answers history s.
    let here = subst (λ (k : Hook). HookStandsFor answers k history) c.hook-item.is s in
    record {
      queue_is = c.commit.ensures.stands answers history.updates here.queue_is here.last_is;
      last_is = c.commit.ensures.last answers history.updates here.last_is;
      linked_is = here.linked_is;
    })

pub returns : goal.returns
returns c answers histories stand =
    stand-changed answers committed_hook c.args.hooks.now c.committing.hooks histories
    (stepped-all (Changes committed_hook) c.committing.hook-index c.args.hooks.now c.committing.hooks c.committing-test.false c.committing.invariant) stand
