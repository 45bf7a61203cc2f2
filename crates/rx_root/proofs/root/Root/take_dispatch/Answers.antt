use Rattle.std.proofs.Common.{refl, sym, ap, ◌∙◌, subst, Err}
use Rattle.rx_model.specs.Breaking.{BreaksOff}
use Rattle.rx_model.specs.Accepting.{within}
use Rattle.rx_sched.specs.declared.event.Event.{Event}
use Rattle.rx_step.specs.declared.step.Step.TheVariants as step
use Rattle.rx_root.specs.Paying.{Pays}
use Rattle.rx_root.specs.Rooted.{Rooted}
use Rattle.rx_root.specs.Stands.{Stands}
use Rattle.rx_root.proofs.Broken.{nothing_taken, on_err_both}
use Rattle.rx_root.proofs.Lines.{on_ok_both}
use Rattle.rx_root.proofs.Taken.{dispatch_taken, refused_taken, without_stands}
use Rattle.rx_root.proofs.root.Root.take_dispatch.Goals as goal

pub returns-in-Ok-clause-ok : goal.returns-in-Ok-clause-ok
returns-in-Ok-clause-ok c s n h =
    dispatch_taken c.args.self.now.rendering.program s c.args.dispatch.now c.dispatch.new.self c.args.log.now n (λ none. absurd (let is = (c.in-Ok.ensures.no_instance s h).1 none in cc)) (c.in-Ok.ensures.ok s h).1

pub returns-in-Err-NoInstance-clause-ok : goal.returns-in-Err-NoInstance-clause-ok
returns-in-Err-NoInstance-clause-ok c =
    on_ok_both c.tell_no_instance.result _ _ _
    (λ same are s n h.
    let p = c.args.self.now.rendering.program in
    let d = c.args.dispatch.now in
    let is = ap (λ e. Err e) c.in-Err-NoInstance.field-0-is in
    refused_taken p s d c.tell_no_instance.new.self c.args.log.now c.tell_no_instance.new.log n
    (subst (λ (v : Rooted). Stands p (within d s) v) (sym same) (c.in-Err-NoInstance.ensures.refused is s h)) ((c.in-Err-NoInstance.ensures.no_instance s h).0 is) are)
    c.tell_no_instance.ensures.same c.tell_no_instance.ensures.written

pub returns-in-Err-NoInstance-clause-broken : goal.returns-in-Err-NoInstance-clause-broken
returns-in-Err-NoInstance-clause-broken c =
    on_err_both c.tell_no_instance.result _ _ _
    (λ back same s n h.
    let v = c.args.self.now in
    let p = v.rendering.program in
    let d = c.args.dispatch.now in
    let is = ap (λ e. Err e) c.in-Err-NoInstance.field-0-is in
    nothing_taken (BreaksOff Pays p s (step.Dispatch d)) p s c.tell_no_instance.new.self c.args.log.now c.tell_no_instance.new.log n refl
    (without_stands p s d v c.dispatch.new.self c.tell_no_instance.new.self h (c.in-Err-NoInstance.ensures.refused is s h)
    (back ∙ ap (λ (e : Event). record c.dispatch.new.self { event = e }) (ap (λ (r : Rooted). r.event) c.self.view_is))) same)
    c.tell_no_instance.ensures.back c.tell_no_instance.ensures.unchanged

pub returns-in-Err-OutOfMemory-clause-broken : goal.returns-in-Err-OutOfMemory-clause-broken
returns-in-Err-OutOfMemory-clause-broken c s n h =
    nothing_taken (BreaksOff Pays c.args.self.now.rendering.program s (step.Dispatch c.args.dispatch.now)) c.args.self.now.rendering.program s c.dispatch.new.self c.args.log.now c.args.log.now n refl
    (c.in-Err-OutOfMemory.ensures.memory (ap (λ e. Err e) c.in-Err-OutOfMemory.field-0-is) s h) refl
