use Rattle.std.proofs.Common.{◌∙◌, ap, refl, sym, subst}
use Rattle.rx_step.specs.Steps.{word_of}
use Rattle.rx_model.specs.State.{State}
use Rattle.rx_root.specs.Rooted.{Rooted}
use Rattle.rx_root.specs.Stands.{HasRoomFor, Stands}
use Rattle.rx_root.specs.Taking.{IsFor, state_after}
use Rattle.rx_root.proofs.Broken.{any_err, room_less}
use Rattle.rx_root.proofs.Sending.{hook_kept, sends}
use Rattle.rx_root.proofs.Taken.{dispatch_stands, other_stands, sent_reached}
use Rattle.rx_root.proofs.root.Root.send_to.Goals as goal

pub send_start-requires-clause-target : goal.send_start-requires-clause-target
send_start-requires-clause-target c =
    let s = c.requires.stands.0 in
    let d = c.args.dispatch.now in
    let sent = c.in-Some.sent in
    let is : IsFor c.args.self.now.rendering.program s d sent = c.in-Some.ensures.target s c.requires.stands.1 c.requires.fits in
    subst (λ (w : Rooted). (t : State) × Stands w.rendering.program t w × IsFor w.rendering.program t d sent) (sym c.in-Some.ensures.same) (s, c.requires.stands.1, is)

pub send-requires-clause-hook : goal.send-requires-clause-hook
send-requires-clause-hook c =
    let p = c.args.self.now.rendering.program in
    let s = c.requires.stands.0 in
    let h = c.requires.stands.1 in
    hook_kept p s c.target.new.self c.args.dispatch.now c.in-Some.sent (subst (λ (w : Rooted). Stands p s w) (sym c.in-Some.ensures.same) h) (c.in-Some.ensures.target s h c.requires.fits)

pub returns-in-None-clause-no_instance : goal.returns-in-None-clause-no_instance
returns-in-None-clause-no_instance c s h = (λ is. c.in-None.ensures.target s h c.requires.fits, λ none. refl)

pub returns-in-None-clause-err : goal.returns-in-None-clause-err
returns-in-None-clause-err c s h = subst (λ (w : Rooted). Stands c.args.self.now.rendering.program s w) (sym c.in-None.ensures.same) h

pub returns-in-None-clause-left : goal.returns-in-None-clause-left
returns-in-None-clause-left c k h = subst (HasRoomFor k) (sym c.in-None.ensures.same) (room_less c.args.self.now k h)

pub returns-in_ok-send_start-in-Some-clause-ok : goal.returns-in_ok-send_start-in-Some-clause-ok
returns-in_ok-send_start-in-Some-clause-ok c s h =
    let p = c.args.self.now.rendering.program in
    let d = c.args.dispatch.now in
    let new = c.send_start.new.self in
    let sent = c.in-Some.sent in
    let is : IsFor p s d sent = c.in-Some.ensures.target s h c.requires.fits in
    let goes = subst (λ (v : Rooted). (t : State) → Stands v.rendering.program t v → IsFor v.rendering.program t d sent → Stands v.rendering.program (state_after t d sent) new) c.in-Some.ensures.same
    c.in_ok-send_start-in-Some.ensures.ok in
    (ap (λ (v : Rooted). v.updates) c.self.view_is ∙ h.updates, dispatch_stands p s d sent new is (goes s h is))

pub returns-in_err-send_start-in-Some-clause-err : goal.returns-in_err-send_start-in-Some-clause-err
returns-in_err-send_start-in-Some-clause-err c =
    any_err c.from_residual.result _
    (subst (λ (v : Rooted). (s : State) → Stands v.rendering.program s v → Stands v.rendering.program s c.send_start.new.self) c.in-Some.ensures.same c.in_err-send_start-in-Some.ensures.err)

pub returns-in_ok-send-in-Some-clause-ok : goal.returns-in_ok-send-in-Some-clause-ok
returns-in_ok-send-in-Some-clause-ok c s h =
    let p = c.args.self.now.rendering.program in
    let d = c.args.dispatch.now in
    let new = c.send.new.self in
    let sent = c.in-Some.sent in
    let is : IsFor p s d sent = c.in-Some.ensures.target s h c.requires.fits in (
      ap (λ (v : Rooted). v.updates) c.self.view_is ∙ h.updates,
      dispatch_stands p s d sent new is
          (other_stands p s d sent new (sym c.is_start.ensures ∙ c.if-is_start.false)
          (sends p s d sent c.target.new.self new c.dispatch_word.result (word_of d) sent.op sent.op c.dispatch_word.ensures refl (subst (λ (w : Rooted). Stands p s w) (sym c.in-Some.ensures.same) h) is
          (sent_reached p s d sent h.reached is) c.in_ok-send-in-Some.ensures.ok)),
    )

pub returns-in_err-send-in-Some-clause-err : goal.returns-in_err-send-in-Some-clause-err
returns-in_err-send-in-Some-clause-err c =
    any_err c.from_residual-in_err-send-in-Some.result _
    (subst (λ (v : Rooted). (s : State) → Stands v.rendering.program s v → Stands v.rendering.program s c.send.new.self) c.in-Some.ensures.same c.in_err-send-in-Some.ensures.err)
