use Rattle.std.proofs.Common.{arith, ◌≡◌, ◌+◌, List, drop, length, subst, sym, ◌∙◌, refl, ap, ◌∷◌}
use Rattle.std.proofs.lemmas.List.{drop_more, drop_all}
use Rattle.rx_step.specs.declared.step.Step.{Step}
use Rattle.rx_lines.specs.Lines.{Written}
use Rattle.rx_model.specs.Breaking.{BreaksOff}
use Rattle.rx_root.specs.Paying.{Pays}
use Rattle.rx_root.specs.Stands.{Stands, HasRoomFor}
use Rattle.rx_kept.specs.Taking.{AllCanTake}
use Rattle.rx_top.proofs.Stretches.{SoFar, stepped, room-fewer, so_far-starts, so_far-next, so_far-lost, so_far-short, so_far-ends}
use Rattle.rx_top.proofs.run.run_steps.Goals as goal

pub script-init : goal.script-init
script-init g c = record {
  so_far = λ s stands. so_far-starts c.args.root.now.rendering.program c.args.log.now.options s c.args.script.now (g.K.Sink.written c.args.out.now) c.args.steps.now c.args.root.now stands;
  stands = c.requires.stands;
  program = refl;
  options = refl;
  fits = c.requires.fits;
  room = λ k room. room;
  kept = refl;
}

pub step-requires-clause-room : goal.step-requires-clause-room
step-requires-clause-room g c =
    let here : drop c.script.step-index c.args.script.now ≡ c.step-item.result ∷ drop (c.script.step-index + 1) c.args.script.now =
    drop_more c.args.script.now c.script.step-index c.step-item.result (omega arith)
    ∙ ap (λ s. s ∷ drop (c.script.step-index + 1) c.args.script.now) (sym c.step-item.is) in
    let left = ap (λ (l : List Step). length l) here in
    let all = c.script.invariant.room 0 (subst (λ k. HasRoomFor k c.args.root.now) (omega arith) c.requires.room) in
    room-fewer 1 (length (drop c.script.step-index c.args.script.now) + 0) c.script.root (omega (arith, left)) all

pub script-preserved : goal.script-preserved
script-preserved g c =
    let here : drop c.script.step-index c.args.script.now ≡ c.step-item.result ∷ drop (c.script.step-index + 1) c.args.script.now =
    drop_more c.args.script.now c.script.step-index c.step-item.result (omega arith)
    ∙ ap (λ s. s ∷ drop (c.script.step-index + 1) c.args.script.now) (sym c.step-item.is) in
    record {
      so_far = λ s stands.
          let so_far = subst (λ (l : List Step). SoFar c.args.root.now.rendering.program c.args.log.now.options s c.args.script.now (g.K.Sink.written c.args.out.now) (g.K.Sink.written c.script.out) c.args.steps.now c.script.steps c.script.root l) here (c.script.invariant.so_far s stands) in
          let at = so_far.run.taken.after in
          let takes = c.in_ok-step.ensures.ok at (subst (λ t. Stands t at c.script.root) (sym c.script.invariant.program) so_far.run.stands) in
          let taken = stepped c.args.root.now.rendering.program c.script.root.rendering.program c.args.log.now.options at c.step-item.result c.step.new.self c.script.log c.cut.new.self c.step.new.log c.bytes.result.now c.script.steps c.step.new.steps
          c.script.invariant.program takes c.cut.ensures c.script.invariant.options c.bytes.ensures in
          so_far-next c.args.root.now.rendering.program c.args.log.now.options s c.args.script.now _ c.step-item.result _ _ _ c.bytes.result.now _ _ _ c.script.root c.step.new.self so_far taken c.in_ok-write_all.ensures.ok;
      stands = c.step.ensures.stands;
      program = c.step.ensures.program ∙ c.script.invariant.program;
      options =
          let base = c.script.invariant.stands in
          let takes = c.in_ok-step.ensures.ok base.0 base.1 in
          ap (λ (w : Written). w.options) takes.done.written ∙ ap (λ (w : Written). w.options) c.cut.ensures ∙ c.script.invariant.options;
      fits = (subst (AllCanTake c.args.root.now.rendering.program) here c.script.invariant.fits).1;
      room = λ k room.
          let all = c.script.invariant.room k room in
          c.step.ensures.left (length (drop (c.script.step-index + 1) c.args.script.now) + k)
          (subst (λ n. HasRoomFor n c.script.root) (ap (λ (l : List Step). length l + k) here ∙ omega arith) all);
      kept = c.in_ok-write_all.ensures.cause.kept ∙ c.script.invariant.kept;
    }

pub returns-in_err-step-clause-short : goal.returns-in_err-step-clause-short
returns-in_err-step-clause-short g c _ = λ s stands.
    let here : drop c.script.step-index c.args.script.now ≡ c.step-item.result ∷ drop (c.script.step-index + 1) c.args.script.now =
    drop_more c.args.script.now c.script.step-index c.step-item.result (omega arith)
    ∙ ap (λ s. s ∷ drop (c.script.step-index + 1) c.args.script.now) (sym c.step-item.is) in
    let so_far = subst (λ (l : List Step). SoFar c.args.root.now.rendering.program c.args.log.now.options s c.args.script.now (g.K.Sink.written c.args.out.now) (g.K.Sink.written c.script.out) c.args.steps.now c.script.steps c.script.root l) here (c.script.invariant.so_far s stands) in
    let at = so_far.run.taken.after in
    let takes = c.in_err-step.ensures.broken at (subst (λ t. Stands t at c.script.root) (sym c.script.invariant.program) so_far.run.stands) in
    let breaks = subst (λ t. BreaksOff Pays t at c.step-item.result takes.stretch) c.script.invariant.program takes.asked in
    so_far-short c.args.root.now.rendering.program c.args.log.now.options s c.args.script.now _ c.step-item.result _ _ _ _ _ c.script.root so_far takes.stretch breaks takes.bodies

pub returns-in_err-write_all-clause-lost : goal.returns-in_err-write_all-clause-lost
returns-in_err-write_all-clause-lost g c _ = λ s stands.
    let here : drop c.script.step-index c.args.script.now ≡ c.step-item.result ∷ drop (c.script.step-index + 1) c.args.script.now =
    drop_more c.args.script.now c.script.step-index c.step-item.result (omega arith)
    ∙ ap (λ s. s ∷ drop (c.script.step-index + 1) c.args.script.now) (sym c.step-item.is) in
    let so_far = subst (λ (l : List Step). SoFar c.args.root.now.rendering.program c.args.log.now.options s c.args.script.now (g.K.Sink.written c.args.out.now) (g.K.Sink.written c.script.out) c.args.steps.now c.script.steps c.script.root l) here (c.script.invariant.so_far s stands) in
    let at = so_far.run.taken.after in
    let takes = c.in_ok-step.ensures.ok at (subst (λ t. Stands t at c.script.root) (sym c.script.invariant.program) so_far.run.stands) in
    let taken = stepped c.args.root.now.rendering.program c.script.root.rendering.program c.args.log.now.options at c.step-item.result c.step.new.self c.script.log c.cut.new.self c.step.new.log c.bytes.result.now c.script.steps c.step.new.steps
    c.script.invariant.program takes c.cut.ensures c.script.invariant.options c.bytes.ensures in
    so_far-lost c.args.root.now.rendering.program c.args.log.now.options s c.args.script.now _ c.step-item.result _ _ _ c.bytes.result.now _ _ _ c.script.root c.step.new.self so_far taken c.in_err-write_all.ensures.err

pub returns-clause-ok : goal.returns-clause-ok
returns-clause-ok g c = λ s stands.
    let none = drop_all c.script.step-index c.args.script.now c.script-test.false in
    let so_far = subst (λ (l : List Step). SoFar c.args.root.now.rendering.program c.args.log.now.options s c.args.script.now (g.K.Sink.written c.args.out.now) (g.K.Sink.written c.script.out) c.args.steps.now c.script.steps c.script.root l) none (c.script.invariant.so_far s stands) in
    so_far-ends c.args.root.now.rendering.program c.args.log.now.options s c.args.script.now _ _ _ _ c.script.root so_far

pub returns-clause-left : goal.returns-clause-left
returns-clause-left g c = λ k room.
    let none = drop_all c.script.step-index c.args.script.now c.script-test.false in
    subst (λ n. HasRoomFor n c.script.root) (ap (λ (l : List Step). length l + k) none ∙ omega arith) (c.script.invariant.room k room)
