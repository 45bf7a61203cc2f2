use Rattle.std.proofs.Common.{get_or, subst}
use Rattle.rx_hooks.specs.declared.hook.Hook.{Hook}
use Rattle.rx_hooks.specs.Hooks.{HookStandsFor}
use Rattle.rx_hooks.proofs.Lists.{Renders, stand-rendered, values-rendered}
use Rattle.rx_hooks.proofs.Steps.{stepped-all, stepped-more}
use Rattle.rx_hooks.proofs.hooks.render_all.Goals as goal

pub rendering-preserved : goal.rendering-preserved
rendering-preserved g c =
    let answers = g.F.Fold.answers c.args.fold.now in
    let i = c.rendering.hook-index in
    let hooks = c.rendering.hooks in
    let x = c.hook-item.result in
    let after = c.process-hook in
    let new : Hook = record { queue = after.new.self; processed = after.result; linked = (get_or hooks i x).linked } in
    stepped-more (Renders answers c.args.lanes c.args.cut) i c.args.hooks.now hooks x new c.rendering-test.true c.rendering.invariant c.hook-item.is
    (λ history s above.
    let here = subst (λ (k : Hook). HookStandsFor answers k history) c.hook-item.is s in (
      record {
        queue_is = after.ensures.stands answers history.updates here.queue_is;
        last_is = after.ensures.last history.updates here.queue_is above;
        linked_is = here.linked_is;
      },
      after.ensures.value history.updates here.queue_is above,
    ))

pub returns-clause-stands : goal.returns-clause-stands
returns-clause-stands g c histories stand above =
    let answers = g.F.Fold.answers c.args.fold.now in
    stand-rendered answers c.args.lanes c.args.cut c.args.hooks.now c.rendering.hooks histories
    (stepped-all (Renders answers c.args.lanes c.args.cut) c.rendering.hook-index c.args.hooks.now c.rendering.hooks c.rendering-test.false c.rendering.invariant) stand above

pub returns-clause-values : goal.returns-clause-values
returns-clause-values g c histories stand above =
    let answers = g.F.Fold.answers c.args.fold.now in
    values-rendered answers c.args.lanes c.args.cut c.args.hooks.now c.rendering.hooks histories
    (stepped-all (Renders answers c.args.lanes c.args.cut) c.rendering.hook-index c.args.hooks.now c.rendering.hooks c.rendering-test.false c.rendering.invariant) stand above
