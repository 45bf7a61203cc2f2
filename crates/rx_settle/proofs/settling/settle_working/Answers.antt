use Rattle.std.proofs.Common.{None, cond, refl, sym, ap}
use Rattle.rx_hook_store.specs.Store.{kept_hooks}
use Rattle.rx_settle.specs.Found.{seen}
use Rattle.rx_settle.proofs.Found.{settled_over}
use Rattle.rx_settle.proofs.Staying.{none_made, stay_not_gone}
use Rattle.rx_settle.proofs.Whole.{all_go_on, on_err}
use Rattle.rx_settle.proofs.settling.settle_working.Goals as goal

pub returns-in_err-render_shown-clause-err : goal.returns-in_err-render_shown-clause-err
returns-in_err-render_shown-clause-err c =
    on_err c.from_residual.result
    (λ s done keeps. all_go_on c.args.checked.now c.args.lanes c.args.cut (kept_hooks c.args.store.now) (kept_hooks c.render_shown.new.store) s c.render_shown.ensures.keeps done keeps)

pub settle_each-requires-clause-kept : goal.settle_each-requires-clause-kept
settle_each-requires-clause-kept c k m at below = c.render_shown.ensures.keeps.there m.number (c.requires.kept k m at below)

pub returns-clause-settled : goal.returns-clause-settled
returns-clause-settled c before ms apart working stay =
    let settled = kept_hooks c.settle_each.new.store in
    settled_over c.args.checked.now c.args.lanes c.args.cut c.args.first (kept_hooks c.args.store.now) (kept_hooks c.args.store.now) (kept_hooks c.render_shown.new.store)
    settled settled settled before ms (seen c.args.working.now) _
    apart working (none_made c.args.first before ms stay) (λ n. refl) c.render_shown.ensures.keeps c.in_ok-render_shown.ensures.rendered c.render_shown.ensures.others
    c.settle_each.ensures.settled c.settle_each.ensures.others (λ n. refl)
    (λ n. sym (ap (λ b. cond b None (settled n)) (stay_not_gone c.args.first before ms stay n)))
