use Rattle.std.proofs.Common.{◌≤◌, ◌∙◌, List, ap, arith, length, subst, sym}
use Rattle.std.proofs.lemmas.List.{take_all}
use Rattle.rx_lane.specs.Lanes.{Lanes, union}
use Rattle.rx_queue.specs.Stands.{StandsFor}
use Rattle.rx_hooks.specs.declared.hook.Hook.{Hook}
use Rattle.rx_hooks.specs.Hooks.{HookHistory, pending_of_hooks}
use Rattle.rx_hooks.proofs.Lists.{no-pending, pending-more, stand-length}
use Rattle.rx_hooks.proofs.hooks.pending_in.Goals as goal

pub pending-init : goal.pending-init
pending-init c answers histories stand = c.none-lanes.ensures ∙ no-pending

pub pending-preserved : goal.pending-preserved
pending-preserved c answers histories stand =
    let here = c.pending_lanes.result in
    c.union-lanes.ensures ∙ ap (λ (l : Lanes). union l here) (c.pending.invariant answers histories stand)
    ∙ pending-more answers c.args.hooks.now histories c.pending.hook-index c.hook-item.result here c.pending-test.true stand
    (λ history s. c.pending_lanes.ensures answers history.updates (subst (λ (k : Hook). StandsFor answers k.queue history.updates) (sym c.hook-item.is) s.queue_is))

pub returns : goal.returns
returns c answers histories stand =
    let few : length histories ≤ c.pending.hook-index = omega (arith, stand-length answers c.args.hooks.now histories stand, c.pending-test.false) in
    c.pending.invariant answers histories stand ∙ ap (λ (l : List HookHistory). pending_of_hooks l) (take_all c.pending.hook-index histories few)
