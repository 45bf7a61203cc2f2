use Rattle.std.proofs.Common.{arith, ap}
use Rattle.rx_plain.specs.Plained.{Plained}
use Rattle.rx_verify.proofs.Passing.{by-answer, few-lines}
use Rattle.rx_verify.proofs.Rendering.{finish-judges, finish-place, finish-stands, finished-by}
use Rattle.rx_verify.proofs.Rooms.{leaves_join, leaves_same}
use Rattle.rx_verify.proofs.turns.finish.Goals as goal

pub render-requires : goal.render-requires
render-requires g c = let t = c.requires.in_turn.1 in record { goes_on = record { state = t.state; progress = t.progress; stands = t.stands } }

pub finish-requires-clause-at_end : goal.finish-requires-clause-at_end
finish-requires-clause-at_end g c =
    let t = c.requires.in_turn.1 in
    let r = c.in_ok-tree.ensures.tree t.state t.progress t.stands in
    record { state = t.state; progress = t.progress; gives = r.0; stands = c.in_ok-tree.ensures.stands t.state t.progress t.stands; rendered = r.1; is = r.2 }

pub finish-requires-clause-room : goal.finish-requires-clause-room
finish-requires-clause-room g c =
    let rest = c.in_ok-tree.ensures.rest in
    (leaves_same c.args.plain.now c.render.new.self (ap (λ (v : Plained). v.commits) rest) (ap (λ (v : Plained). v.numbers) rest) (ap (λ (v : Plained). v.updates) rest) (ap (λ (v : Plained). v.resolutions) rest)).room 1
    c.requires.room

pub returns-clause-judged : goal.returns-clause-judged
returns-clause-judged g c = λ script budget left follow f fit tells.
    let passes = by-answer _ _ _ c.bytes.result.now c.pass.result c.requires.place c.pass.ensures.same c.pass.ensures.other c.pass.ensures.lines c.pass.ensures.inside in
    let does = finished-by _ _ _ _ _ _ _ (record { units = c.args.counts.units; bodies = c.args.counts.bodies }) _ _ _ _ _ c.in_ok-tree.ensures.tree c.in_ok-tree.ensures.stands c.in_ok-finish.ensures.done c.new-log.ensures c.bytes.ensures passes in
    finish-judges _ c.known.ensures script _ _ _ budget left _ _ _ _ does c.requires.place c.requires.room.commits follow f fit tells

pub returns-clause-stands : goal.returns-clause-stands
returns-clause-stands g c =
    let passes = by-answer _ _ _ c.bytes.result.now c.pass.result c.requires.place c.pass.ensures.same c.pass.ensures.other c.pass.ensures.lines c.pass.ensures.inside in
    let does = finished-by _ _ _ _ _ _ _ (record { units = c.args.counts.units; bodies = c.args.counts.bodies }) _ _ _ _ _ c.in_ok-tree.ensures.tree c.in_ok-tree.ensures.stands c.in_ok-finish.ensures.done c.new-log.ensures c.bytes.ensures passes in
    finish-stands _ _ _ _ c.requires.in_turn.0 _ _ _ _ does c.requires.in_turn.1 c.requires.in_turn.2

pub returns-clause-place : goal.returns-clause-place
returns-clause-place g c =
    let passes = by-answer _ _ _ c.bytes.result.now c.pass.result c.requires.place c.pass.ensures.same c.pass.ensures.other c.pass.ensures.lines c.pass.ensures.inside in
    let does = finished-by _ _ _ _ _ _ _ (record { units = c.args.counts.units; bodies = c.args.counts.bodies }) _ _ _ _ _ c.in_ok-tree.ensures.tree c.in_ok-tree.ensures.stands c.in_ok-finish.ensures.done c.new-log.ensures c.bytes.ensures passes in
    finish-place _ _ _ _ c.requires.in_turn.0 _ _ _ _ does c.requires.in_turn.1 c.requires.in_turn.2

pub returns-clause-room : goal.returns-clause-room
returns-clause-room g c =
    let rest = c.in_ok-tree.ensures.rest in
    leaves_join 0 1 c.args.plain.now c.render.new.self c.finish.new.self
    (leaves_same c.args.plain.now c.render.new.self (ap (λ (v : Plained). v.commits) rest) (ap (λ (v : Plained). v.numbers) rest) (ap (λ (v : Plained). v.updates) rest) (ap (λ (v : Plained). v.resolutions) rest))
    c.in_ok-finish.ensures.leaves

pub pass-requires-clause-few : goal.pass-requires-clause-few
pass-requires-clause-few g c =
    let few = few-lines c.args.report.now c.args.place.now c.requires.place in
    omega (arith, few, c.requires.short, c.bytes.type_inv)
