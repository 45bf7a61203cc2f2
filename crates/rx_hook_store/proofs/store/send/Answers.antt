use Rattle.std.proofs.Common.{List, Some, subst, sym, ap, ◌∙◌, arith}
use Rattle.rx_lane.specs.Lanes.{Lanes}
use Rattle.rx_step.specs.declared.step.LaneWord.{LaneWord}
use Rattle.rx_hooks.specs.Hooks.{HookHistory, HooksStandFor, changed_at, relinked, sent}
use Rattle.rx_hook_store.specs.Changing.{dispatched_hook, lanes_linked}
use Rattle.rx_hook_store.proofs.Dispatching.{changed_at-twice, get-changed_at}
use Rattle.rx_hook_store.proofs.store.send.Goals as goal

pub returns-in-Transition-clause-ok : goal.returns-in-Transition-clause-ok
returns-in-Transition-clause-ok c answers histories stand =
    let lane = c.args.update.lane in
    let two = c.transition.ensures.stands answers (changed_at c.args.place (sent c.args.update) histories) (c.in_ok-push.ensures.ok answers histories stand) in
    subst (λ (w : LaneWord). HooksStandFor answers c.transition.new.self (changed_at c.args.place (dispatched_hook w c.args.update c.args.pending) histories)) (sym c.in-Transition.is)
    (subst (λ (hs : List HookHistory). HooksStandFor answers c.transition.new.self hs) (changed_at-twice c.args.place (relinked lane c.args.pending) (sent c.args.update) histories) two)

pub returns-in-Transition-clause-linked : goal.returns-in-Transition-clause-linked
returns-in-Transition-clause-linked c answers histories history stand at =
    let lanes = c.transition.ensures.linked answers (changed_at c.args.place (sent c.args.update) histories) (sent c.args.update history) (c.in_ok-push.ensures.ok answers histories stand)
    (get-changed_at c.args.place (sent c.args.update) histories history at) in
    ap (λ (l : Lanes). Some l) lanes ∙ sym (ap (λ (w : LaneWord). lanes_linked w c.args.update c.args.pending history.linked) c.in-Transition.is)

pub returns-in-Transition-clause-room : goal.returns-in-Transition-clause-room
returns-in-Transition-clause-room c = omega (arith, c.transition.ensures.room c.args.place, c.push.ensures.room)
