use Rattle.std.proofs.Common.{◌∙◌, ap, sym, subst}
use Rattle.std.proofs.lemmas.Result.{on_ok_weaker}
use Rattle.rx_model.specs.Accepting.{within}
use Rattle.rx_model.specs.Stretch.{Stretch}
use Rattle.rx_plain.specs.Doing.{HasDone}
use Rattle.rx_plain.specs.Plained.{Plained}
use Rattle.rx_plain.proofs.Keeping.{room_same}
use Rattle.rx_plain.proofs.Sending.{hook_sent, refreshed_done}
use Rattle.rx_plain.proofs.plain.Plain.dispatch.Goals as goal

pub refresh_for-requires-clause-stands : goal.refresh_for-requires-clause-stands
refresh_for-requires-clause-stands c =
    (within c.args.dispatch.now c.requires.stands.0, c.enter.ensures.stands c.args.checked.now c.requires.stands.0 c.requires.stands.1)

pub refresh_for-requires-clause-room : goal.refresh_for-requires-clause-room
refresh_for-requires-clause-room c =
    let is = c.enter.ensures.event in
    room_same c.args.self.now c.enter.new.self (ap (λ (r : Plained). r.updates) is) (ap (λ (r : Plained). r.resolutions) is) (ap (λ (r : Plained). r.commits) is) (ap (λ (r : Plained). r.numbers) is) 1 c.requires.room

pub send_along-requires-clause-stands : goal.send_along-requires-clause-stands
send_along-requires-clause-stands c =
    (within c.args.dispatch.now c.requires.stands.0, c.enter.ensures.stands c.args.checked.now c.requires.stands.0 c.requires.stands.1)

pub send_along-requires-clause-room : goal.send_along-requires-clause-room
send_along-requires-clause-room c =
    let is = c.enter.ensures.event in
    room_same c.args.self.now c.enter.new.self (ap (λ (r : Plained). r.updates) is) (ap (λ (r : Plained). r.resolutions) is) (ap (λ (r : Plained). r.commits) is) (ap (λ (r : Plained). r.numbers) is) 1 c.requires.room

pub returns-then-is_refresh-clause-ok : goal.returns-then-is_refresh-clause-ok
returns-then-is_refresh-clause-ok c =
    on_ok_weaker c.refresh_for.result
    (λ ok s h.
    refreshed_done c.args.checked.now (within c.args.dispatch.now s) c.args.dispatch.now c.refresh_for.new.self c.args.log.now (sym c.is_refresh.ensures ∙ c.if-is_refresh.true)
    (ok (within c.args.dispatch.now s) (c.enter.ensures.stands c.args.checked.now s h)))
    c.refresh_for.ensures.ok

pub returns-then-is_refresh-clause-left : goal.returns-then-is_refresh-clause-left
returns-then-is_refresh-clause-left c =
    on_ok_weaker c.refresh_for.result
    (λ left k h.
    let is = c.enter.ensures.event in
    left k
    (room_same c.args.self.now c.enter.new.self (ap (λ (r : Plained). r.updates) is) (ap (λ (r : Plained). r.resolutions) is) (ap (λ (r : Plained). r.commits) is) (ap (λ (r : Plained). r.numbers) is) _ h))
    c.refresh_for.ensures.left

pub returns-clause-ok : goal.returns-clause-ok
returns-clause-ok c =
    on_ok_weaker c.send_along.result
    (λ ok s h.
    let t = within c.args.dispatch.now s in
    subst (λ (r : Stretch). HasDone c.args.checked.now r c.send_along.new.self c.args.log.now c.send_along.new.log)
    (hook_sent c.args.checked.now t c.args.dispatch.now (sym c.is_refresh.ensures ∙ c.if-is_refresh.false))
    (ok t (c.enter.ensures.stands c.args.checked.now s h)))
    c.send_along.ensures.ok

pub returns-clause-left : goal.returns-clause-left
returns-clause-left c =
    on_ok_weaker c.send_along.result
    (λ left k h.
    let is = c.enter.ensures.event in
    left k
    (room_same c.args.self.now c.enter.new.self (ap (λ (r : Plained). r.updates) is) (ap (λ (r : Plained). r.resolutions) is) (ap (λ (r : Plained). r.commits) is) (ap (λ (r : Plained). r.numbers) is) _ h))
    c.send_along.ensures.left
