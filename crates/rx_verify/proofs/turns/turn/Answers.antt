use Rattle.std.proofs.Common.{arith, refl, sym, ap, subst}
use Rattle.std.proofs.lemmas.Result.{IfOk-weaker}
use Rattle.rx_plain.specs.Plained.{Plained}
use Rattle.rx_verify.proofs.Passing.{Passes, by-answer, few-lines, on-ok, place-if}
use Rattle.rx_verify.proofs.Rendering.{first-lines, keeps-render, keeps-turn, starts-differ, starts-render, starts-turn}
use Rattle.rx_verify.proofs.Rooms.{leaves_join, leaves_more, leaves_same}
use Rattle.rx_verify.proofs.Telling.{rests}
use Rattle.rx_verify.proofs.turns.turn.Goals as goal

pub returns-in-None-clause-judged : goal.returns-in-None-clause-judged
returns-in-None-clause-judged g c = λ script left follow f.
    record { at = f.at; followed = rests c.args.checked.now c.known.ensures script c.args.report.now c.args.budget left c.args.place.now f.at.state f.followed (sym (c.in-None.ensures c.args.checked.now f.at.state f.at.stands)) }

pub returns-in-None-clause-room : goal.returns-in-None-clause-room
returns-in-None-clause-room g c = leaves_more 0 1 c.args.plain.now c.args.plain.now (omega arith) (leaves_same c.args.plain.now c.args.plain.now refl refl refl refl)

pub go_on-requires-clause-in_turn : goal.go_on-requires-clause-in_turn
go_on-requires-clause-in_turn g c =
    let t = c.requires.stands in
    keeps-turn c.args.checked.now c.known.ensures c.args.budget c.args.plain.now t (sym (c.in-Keep.ensures c.args.checked.now t.state t.stands))

pub returns-in-Keep-clause-judged : goal.returns-in-Keep-clause-judged
returns-in-Keep-clause-judged g c =
    IfOk-weaker c.go_on.result _ _
    (λ agrees judged script left follow f.
    judged script left follow
    (keeps-render c.args.checked.now c.known.ensures script c.args.report.now c.args.place.now c.args.budget left c.args.plain.now f (sym (c.in-Keep.ensures c.args.checked.now f.at.state f.at.stands))))
    c.go_on.ensures.judged

pub pass-requires-clause-few : goal.pass-requires-clause-few
pass-requires-clause-few g c =
    let few = few-lines c.args.report.now c.args.place.now c.requires.place in
    omega (arith, few, c.requires.short, c.bytes.type_inv)

pub returns-then-not-pass-clause-judged : goal.returns-then-not-pass-clause-judged
returns-then-not-pass-clause-judged g c = λ script left follow f.
    let p = c.args.checked.now in
    let passes = by-answer _ _ c.pass.new.place c.bytes.result.now c.pass.result c.requires.place c.pass.ensures.same c.pass.ensures.other c.pass.ensures.lines c.pass.ensures.inside in
    let is = first-lines p f.at.state c.args.plain.now _ _ c.bytes.result.now f.at.stands c.new-log.ensures c.in_ok-start-in-Start.ensures.written c.bytes.ensures in
    starts-differ p c.known.ensures script c.args.report.now c.args.place.now c.pass.new.place c.args.budget left c.args.plain.now c.in-Start.lanes c.bytes.result.now c.requires.place f
    (sym (c.in-Start.ensures p f.at.state f.at.stands)) is (subst (Passes _ _ c.pass.new.place c.bytes.result.now) c.if-not-pass.true passes)

pub go_on-requires-in-Start-clause-in_turn : goal.go_on-requires-in-Start-clause-in_turn
go_on-requires-in-Start-clause-in_turn g c =
    let t = c.requires.stands in
    starts-turn c.args.checked.now c.known.ensures c.args.budget c.args.plain.now c.start.new.self c.in-Start.lanes c.in_ok-start-in-Start.ensures.starts t (sym (c.in-Start.ensures c.args.checked.now t.state t.stands))

pub go_on-requires-in-Start-clause-place : goal.go_on-requires-in-Start-clause-place
go_on-requires-in-Start-clause-place g c =
    let passes = by-answer _ _ c.pass.new.place c.bytes.result.now c.pass.result c.requires.place c.pass.ensures.same c.pass.ensures.other c.pass.ensures.lines c.pass.ensures.inside in
    place-if _ _ c.pass.new.place c.bytes.result.now c.pass.result passes c.if-not-pass.false

pub returns-else-not-pass-clause-judged : goal.returns-else-not-pass-clause-judged
returns-else-not-pass-clause-judged g c =
    let p = c.args.checked.now in
    let passes = by-answer _ _ c.pass.new.place c.bytes.result.now c.pass.result c.requires.place c.pass.ensures.same c.pass.ensures.other c.pass.ensures.lines c.pass.ensures.inside in
    IfOk-weaker c.go_on-in-Start.result _ _
    (λ agrees judged script left follow f.
    let is = first-lines p f.at.state c.args.plain.now _ _ c.bytes.result.now f.at.stands c.new-log.ensures c.in_ok-start-in-Start.ensures.written c.bytes.ensures in
    judged script left follow
    (starts-render p c.known.ensures script c.args.report.now c.args.place.now c.pass.new.place c.args.budget left c.args.plain.now c.start.new.self c.in-Start.lanes c.bytes.result.now c.in_ok-start-in-Start.ensures.starts f
    (sym (c.in-Start.ensures p f.at.state f.at.stands)) is (subst (Passes _ _ c.pass.new.place c.bytes.result.now) c.if-not-pass.false passes))) c.go_on-in-Start.ensures.judged

pub returns-else-not-pass-clause-room : goal.returns-else-not-pass-clause-room
returns-else-not-pass-clause-room g c =
    let rest = c.in_ok-start-in-Start.ensures.rest in
    on-ok c.go_on-in-Start.result
    (λ leaves.
    leaves_join 0 1 c.args.plain.now c.start.new.self _
    (leaves_same c.args.plain.now c.start.new.self (ap (λ (v : Plained). v.commits) rest) (ap (λ (v : Plained). v.numbers) rest) (ap (λ (v : Plained). v.updates) rest) (ap (λ (v : Plained). v.resolutions) rest)) leaves)
    c.go_on-in-Start.ensures.room
