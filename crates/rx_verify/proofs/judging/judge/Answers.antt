use Rattle.std.proofs.Common.{◌≡◌, ◌+◌, List, arith, sym, ap, ◌∙◌, ◌∷◌, length, drop, subst}
use Rattle.std.proofs.lemmas.Result.{IfOk-weaker}
use Rattle.std.proofs.lemmas.List.{drop_more, drop_all}
use Rattle.rx_step.specs.declared.step.Step.{Step}
use Rattle.rx_model.specs.State.{opening}
use Rattle.rx_plain.specs.Stands.{HasRoomFor}
use Rattle.rx_kept.specs.Taking.{AllCanTake}
use Rattle.rx_verify.specs.Following.{all_of}
use Rattle.rx_verify.specs.Turning.{Follows}
use Rattle.rx_verify.proofs.Rooms.{fewer_steps, start_room}
use Rattle.rx_verify.proofs.Stepping.{judges-false, judges-true, start-followed, start-place, verdict-few}
use Rattle.rx_verify.proofs.judging.judge.Goals as goal

pub script-init : goal.script-init
script-init g c =
    let p = c.args.checked.now in
    record {
      stands = (opening, c.in_ok-plain.ensures);
      place = start-place c.args.report.now;
      followed = record { state = opening; stands = c.in_ok-plain.ensures; followed = start-followed p c.known.ensures c.args.script.now c.args.report.now };
      fits = c.requires.fits;
      room = start_room p (length c.args.script.now) c.in_ok-plain.plain c.requires.few c.in_ok-plain.ensures;
    }

pub take_step-requires-clause-fits : goal.take_step-requires-clause-fits
take_step-requires-clause-fits g c =
    let here : drop c.script.step-index c.args.script.now ≡ c.step-item.result ∷ drop (c.script.step-index + 1) c.args.script.now =
    drop_more c.args.script.now c.script.step-index c.step-item.result (omega arith)
    ∙ ap (λ s. s ∷ drop (c.script.step-index + 1) c.args.script.now) (sym c.step-item.is) in
    (subst (AllCanTake c.args.checked.now) here c.script.invariant.fits).0

pub take_step-requires-clause-room : goal.take_step-requires-clause-room
take_step-requires-clause-room g c =
    let here : drop c.script.step-index c.args.script.now ≡ c.step-item.result ∷ drop (c.script.step-index + 1) c.args.script.now =
    drop_more c.args.script.now c.script.step-index c.step-item.result (omega arith)
    ∙ ap (λ s. s ∷ drop (c.script.step-index + 1) c.args.script.now) (sym c.step-item.is) in
    fewer_steps 1 (length (drop c.script.step-index c.args.script.now)) c.script.plain (omega (arith, ap (λ (l : List Step). length l) here)) c.script.invariant.room

pub script-preserved : goal.script-preserved
script-preserved g c =
    let here : drop c.script.step-index c.args.script.now ≡ c.step-item.result ∷ drop (c.script.step-index + 1) c.args.script.now =
    drop_more c.args.script.now c.script.step-index c.step-item.result (omega arith)
    ∙ ap (λ s. s ∷ drop (c.script.step-index + 1) c.args.script.now) (sym c.step-item.is) in
    let p = c.args.checked.now in
    let rest = drop (c.script.step-index + 1) c.args.script.now in
    let f = subst (λ (l : List Step). Follows p c.args.script.now c.args.report.now c.script.place (all_of l) c.script.plain) here c.script.invariant.followed in
    record {
      stands = c.in_ok-agrees.ensures.stands c.if-not-agrees.false;
      place = c.in_ok-agrees.ensures.place c.if-not-agrees.false;
      followed =
          judges-true p c.args.script.now c.args.report.now c.take_step.new.place (Follows p c.args.script.now c.args.report.now c.take_step.new.place (all_of rest) c.take_step.new.plain) _ c.if-not-agrees.false
          (c.in_ok-agrees.ensures.judged c.args.script.now rest f);
      fits = (subst (AllCanTake p) here c.script.invariant.fits).1;
      room = c.in_ok-agrees.ensures.left (length rest) (subst (λ n. HasRoomFor n c.script.plain) (ap (λ (l : List Step). length l) here ∙ omega arith) c.script.invariant.room);
    }

pub returns-then-not-agrees : goal.returns-then-not-agrees
returns-then-not-agrees g c =
    let here : drop c.script.step-index c.args.script.now ≡ c.step-item.result ∷ drop (c.script.step-index + 1) c.args.script.now =
    drop_more c.args.script.now c.script.step-index c.step-item.result (omega arith)
    ∙ ap (λ s. s ∷ drop (c.script.step-index + 1) c.args.script.now) (sym c.step-item.is) in
    let p = c.args.checked.now in
    let rest = drop (c.script.step-index + 1) c.args.script.now in
    let f = subst (λ (l : List Step). Follows p c.args.script.now c.args.report.now c.script.place (all_of l) c.script.plain) here c.script.invariant.followed in
    judges-false p c.args.script.now c.args.report.now c.take_step.new.place (Follows p c.args.script.now c.args.report.now c.take_step.new.place (all_of rest) c.take_step.new.plain) _ c.if-not-agrees.true
    (c.in_ok-agrees.ensures.judged c.args.script.now rest f)

pub overflow_add-result : goal.overflow_add-result
overflow_add-result g c =
    let here : drop c.script.step-index c.args.script.now ≡ c.step-item.result ∷ drop (c.script.step-index + 1) c.args.script.now =
    drop_more c.args.script.now c.script.step-index c.step-item.result (omega arith)
    ∙ ap (λ s. s ∷ drop (c.script.step-index + 1) c.args.script.now) (sym c.step-item.is) in
    let p = c.args.checked.now in
    let rest = drop (c.script.step-index + 1) c.args.script.now in
    let f = subst (λ (l : List Step). Follows p c.args.script.now c.args.report.now c.script.place (all_of l) c.script.plain) here c.script.invariant.followed in
    let verdict =
    judges-false p c.args.script.now c.args.report.now c.take_step.new.place (Follows p c.args.script.now c.args.report.now c.take_step.new.place (all_of rest) c.take_step.new.plain) _ c.if-not-agrees.true
    (c.in_ok-agrees.ensures.judged c.args.script.now rest f) in
    let few = verdict-few p c.args.script.now c.args.report.now c.take_step.new.place.lines verdict in
    omega (arith, few, c.requires.short)

pub judge_end-requires-clause-follows : goal.judge_end-requires-clause-follows
judge_end-requires-clause-follows g c =
    let none = drop_all c.script.step-index c.args.script.now c.script-test.false in
    (c.args.script.now, subst (λ (l : List Step). Follows c.args.checked.now c.args.script.now c.args.report.now c.script.place (all_of l) c.script.plain) none c.script.invariant.followed)

pub returns : goal.returns
returns g c =
    let none = drop_all c.script.step-index c.args.script.now c.script-test.false in
    IfOk-weaker c.judge_end.result _ _
    (λ v judged. judged c.args.script.now (subst (λ (l : List Step). Follows c.args.checked.now c.args.script.now c.args.report.now c.script.place (all_of l) c.script.plain) none c.script.invariant.followed))
    c.judge_end.ensures
