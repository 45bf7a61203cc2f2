use Rattle.std.proofs.Common.{◌≤◌, ◌∙◌, ◌∷◌, [], List, ap, arith, length, subst, sym}
use Rattle.std.proofs.lemmas.List.{take_all}
use Rattle.rx_queue.specs.declared.queue.Work.{Work}
use Rattle.rx_queue.specs.Stands.{StandsFor}
use Rattle.rx_hooks.specs.declared.hook.Hook.{Hook}
use Rattle.rx_hooks.specs.Hooks.{HookHistory, work_among, work_of_hooks}
use Rattle.rx_hooks.proofs.Lists.{stand-length, work-more}
use Rattle.rx_hooks.proofs.hooks.work_in.Goals as goal

pub working-preserved : goal.working-preserved
working-preserved c answers histories stand =
    let here = c.work.result in
    c.first_work-work.ensures ∙ ap (λ (v : Work). work_among (v ∷ here ∷ [])) (c.working.invariant answers histories stand)
    ∙ work-more answers c.args.lanes c.args.cut c.args.hooks.now histories c.working.hook-index c.hook-item.result here c.working-test.true stand
    (λ history s. c.work.ensures answers history.updates (subst (λ (k : Hook). StandsFor answers k.queue history.updates) (sym c.hook-item.is) s.queue_is))

pub returns : goal.returns
returns c answers histories stand =
    let few : length histories ≤ c.working.hook-index = omega (arith, stand-length answers c.args.hooks.now histories stand, c.working-test.false) in
    c.working.invariant answers histories stand ∙ ap (λ (l : List HookHistory). work_of_hooks c.args.lanes c.args.cut l) (take_all c.working.hook-index histories few)
