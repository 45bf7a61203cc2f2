use Rattle.std.proofs.Common.{◌∙◌, ap, sym, subst}
use Rattle.std.specs.Prelude.{Err}
use Rattle.rx_rules.specs.Names.{resource_number}
use Rattle.rx_model.specs.Accepting.{between_events, last_value, resolved}
use Rattle.rx_root.specs.Rooted.{Rooted}
use Rattle.rx_root.specs.Stands.{Stands}
use Rattle.rx_root.proofs.Broken.{on_err_both}
use Rattle.rx_root.proofs.Lines.{on_ok_both}
use Rattle.rx_root.proofs.Taken.{already_broken, already_taken, none_known, resolved_taken}
use Rattle.rx_root.proofs.root.Root.take_resolution.Goals as goal

pub returns-in-Ok-clause-ok : goal.returns-in-Ok-clause-ok
returns-in-Ok-clause-ok c s n h =
    let p = c.args.self.now.rendering.program in
    let none = none_known (last_value s (resource_number p c.args.name.now)) (λ known e. absurd (let is = (c.in-Ok.ensures.already s known h).1 e in cc)) in
    resolved_taken p s c.args.name.now c.args.value c.resolve.new.self c.args.log.now n none (c.resolve.ensures.after s h)

pub returns-in-Err-clause-ok : goal.returns-in-Err-clause-ok
returns-in-Err-clause-ok c =
    on_ok_both c.tell_already.result _ _ _
    (λ same are s n h.
    let p = c.args.self.now.rendering.program in
    already_taken p s c.args.name.now c.args.value c.value.result c.tell_already.new.self c.args.log.now c.tell_already.new.log n ((c.in-Err.ensures.already s c.value.result h).0 (ap (λ e. Err e) c.value.ensures))
    (subst (λ (v : Rooted). Stands p (resolved p (between_events s) c.args.name.now c.args.value).after v) (sym same) (c.resolve.ensures.after s h)) are)
    c.tell_already.ensures.same c.tell_already.ensures.written

pub returns-in-Err-clause-broken : goal.returns-in-Err-clause-broken
returns-in-Err-clause-broken c =
    on_err_both c.tell_already.result _ _ _
    (λ back unchanged s n h.
    let p = c.args.self.now.rendering.program in
    already_broken p s c.args.name.now c.args.value c.value.result c.tell_already.new.self c.args.log.now c.tell_already.new.log n ((c.in-Err.ensures.already s c.value.result h).0 (ap (λ e. Err e) c.value.ensures))
    (subst (λ (v : Rooted). Stands p s v) (sym (back ∙ ap (λ (v : Rooted). record v { event = c.self.inside.event }) c.in-Err.ensures.same ∙ ap (λ (v : Rooted). record c.args.self.now { event = v.event }) c.self.view_is)) h) unchanged)
    c.tell_already.ensures.back c.tell_already.ensures.unchanged
