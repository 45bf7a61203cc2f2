use Rattle.std.proofs.Common.{sym, ◌∙◌, subst, arith}
use Rattle.rx_verify.proofs.Passing.{Passes, by-answer, few-lines, place-if}
use Rattle.rx_verify.proofs.Stepping.{end-early, end-judges, end-passes, verdict-few}
use Rattle.rx_verify.proofs.judging.judge_end.Goals as goal

pub pass-requires-clause-few : goal.pass-requires-clause-few
pass-requires-clause-few c =
    let few = few-lines c.args.report.now c.args.place.now c.requires.place in
    omega (arith, few, c.requires.short, c.bytes.type_inv)

pub returns-then-not-pass : goal.returns-then-not-pass
returns-then-not-pass c = λ script f.
    let p = c.args.checked.now in
    let passes = by-answer _ _ c.pass.new.place c.bytes.result.now c.pass.result c.requires.place c.pass.ensures.same c.pass.ensures.other c.pass.ensures.lines c.pass.ensures.inside in
    end-judges p c.known.ensures script c.args.report.now c.args.place.now c.pass.new.place c.args.plain.now _ _ c.bytes.result.now (λ s h. c.in_ok-end_line.ensures.ok p s c.known.ensures.bounded h) c.new-log.ensures c.bytes.ensures c.requires.place
    (subst (Passes _ _ c.pass.new.place c.bytes.result.now) c.if-not-pass.true passes) f

pub returns-then-is_at_end : goal.returns-then-is_at_end
returns-then-is_at_end c = λ script f.
    let p = c.args.checked.now in
    let passes = by-answer _ _ c.pass.new.place c.bytes.result.now c.pass.result c.requires.place c.pass.ensures.same c.pass.ensures.other c.pass.ensures.lines c.pass.ensures.inside in
    end-passes p c.known.ensures script c.args.report.now c.args.place.now c.pass.new.place c.args.plain.now _ _ c.bytes.result.now (λ s h. c.in_ok-end_line.ensures.ok p s c.known.ensures.bounded h) c.new-log.ensures c.bytes.ensures
    (subst (Passes _ _ c.pass.new.place c.bytes.result.now) c.if-not-pass.false passes) f (c.is_at_end.ensures.0 c.if-is_at_end.true)

pub returns : goal.returns
returns c = λ script f.
    let p = c.args.checked.now in
    let passes = by-answer _ _ c.pass.new.place c.bytes.result.now c.pass.result c.requires.place c.pass.ensures.same c.pass.ensures.other c.pass.ensures.lines c.pass.ensures.inside in
    end-early p c.known.ensures script c.args.report.now c.args.place.now c.pass.new.place c.args.plain.now _ _ c.bytes.result.now (λ s h. c.in_ok-end_line.ensures.ok p s c.known.ensures.bounded h) c.new-log.ensures c.bytes.ensures
    (subst (Passes _ _ c.pass.new.place c.bytes.result.now) c.if-not-pass.false passes) f (λ e. let clash = sym (c.is_at_end.ensures.1 e) ∙ c.if-is_at_end.false in cc)

pub overflow_add-result : goal.overflow_add-result
overflow_add-result c =
    let p = c.args.checked.now in
    let f = c.requires.follows in
    let passes = by-answer _ _ c.pass.new.place c.bytes.result.now c.pass.result c.requires.place c.pass.ensures.same c.pass.ensures.other c.pass.ensures.lines c.pass.ensures.inside in
    let verdict =
    end-judges p c.known.ensures f.0 c.args.report.now c.args.place.now c.pass.new.place c.args.plain.now _ _ c.bytes.result.now (λ s h. c.in_ok-end_line.ensures.ok p s c.known.ensures.bounded h) c.new-log.ensures c.bytes.ensures c.requires.place
    (subst (Passes _ _ c.pass.new.place c.bytes.result.now) c.if-not-pass.true passes) f.1 in
    let few = verdict-few p f.0 c.args.report.now c.pass.new.place.lines verdict in
    omega (arith, few, c.requires.short)

pub overflow_add-result-else-is_at_end : goal.overflow_add-result-else-is_at_end
overflow_add-result-else-is_at_end c =
    let passes = by-answer _ _ c.pass.new.place c.bytes.result.now c.pass.result c.requires.place c.pass.ensures.same c.pass.ensures.other c.pass.ensures.lines c.pass.ensures.inside in
    let at = place-if _ _ c.pass.new.place c.bytes.result.now c.pass.result passes c.if-not-pass.false in
    let few = few-lines c.args.report.now c.pass.new.place at in
    omega (arith, few, c.requires.short)
