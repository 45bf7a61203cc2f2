use Rattle.std.proofs.Common.{arith, ◌≡◌, ◌+◌, List, drop, length, subst, sym, ◌∙◌, refl, ap, ◌∷◌}
use Rattle.std.proofs.lemmas.List.{drop_more, drop_all}
use Rattle.rx_ast.specs.Syntax.{Program}
use Rattle.rx_step.specs.declared.step.Step.{Step}
use Rattle.rx_lines.specs.Lines.{Options}
use Rattle.rx_root.specs.Stands.{Stands, HasRoomFor}
use Rattle.rx_kept.specs.Taking.{AllCanTake}
use Rattle.run_page.specs.Views.{shown}
use Rattle.fiber_view.specs.Taken.{TakesAndShows}
use Rattle.fiber_view.proofs.Shown.{SoFar, room-fewer, so_far-starts, so_far-next, so_far-ends}
use Rattle.fiber_view.proofs.steps.put_steps.Goals as goal

pub script-init : goal.script-init
script-init g c = record {
  so_far = λ s views stands told. so_far-starts c.args.root.now.rendering.program c.args.log.now.options s c.args.script.now views c.args.book.now c.args.root.now stands told;
  stands = c.requires.stands;
  program = refl;
  options = refl;
  fits = c.requires.fits;
  room = λ k room. room;
  count = omega arith;
}

pub take_step-requires-clause-room : goal.take_step-requires-clause-room
take_step-requires-clause-room g c =
    let here : drop c.script.step-index c.args.script.now ≡ c.step-item.result ∷ drop (c.script.step-index + 1) c.args.script.now =
    drop_more c.args.script.now c.script.step-index c.step-item.result (omega arith)
    ∙ ap (λ s. s ∷ drop (c.script.step-index + 1) c.args.script.now) (sym c.step-item.is) in
    let left = ap (λ (l : List Step). length l) here in
    let all = c.script.invariant.room 0 (subst (λ k. HasRoomFor k c.args.root.now) (omega arith) c.requires.room) in
    room-fewer 1 (length (drop c.script.step-index c.args.script.now) + 0) c.script.root (omega (arith, left)) all

pub script-preserved : goal.script-preserved
script-preserved g c =
    let p = c.args.root.now.rendering.program in
    let o = c.args.log.now.options in
    let x = c.step-item.result in
    let v = shown c.in_ok-view.view in
    let rest = drop (c.script.step-index + 1) c.args.script.now in
    let here : drop c.script.step-index c.args.script.now ≡ x ∷ rest =
    drop_more c.args.script.now c.script.step-index x (omega arith) ∙ ap (λ s. s ∷ rest) (sym c.step-item.is) in
    record {
      so_far = λ s views stands told.
          let so_far = subst (λ (l : List Step). SoFar p o s c.args.script.now views c.script.book c.script.root l) here (c.script.invariant.so_far s views stands told) in
          let shows = c.in_ok-view.ensures.ok so_far.at (subst (λ (t : Program). Stands t so_far.at c.script.root) (sym c.script.invariant.program) so_far.stands) in
          let in_program = subst (λ (t : Program). TakesAndShows t c.script.log.options so_far.at x v c.take_step.new.root) c.script.invariant.program shows in
          let step = subst (λ (t : Options). TakesAndShows p t so_far.at x v c.take_step.new.root) c.script.invariant.options in_program in
          so_far-next p o s c.args.script.now rest x views v c.script.book c.put.new.self c.script.root c.take_step.new.root so_far step c.in_ok-put.ensures.told;
      stands = c.take_step.ensures.stands;
      program = c.take_step.ensures.program ∙ c.script.invariant.program;
      options = c.in_ok-view.ensures.options ∙ c.script.invariant.options;
      fits = (subst (AllCanTake p) here c.script.invariant.fits).1;
      room = λ k room.
          let all = c.script.invariant.room k room in
          c.take_step.ensures.left (length rest + k)
          (subst (λ n. HasRoomFor n c.script.root) (ap (λ (l : List Step). length l + k) here ∙ omega arith) all);
      count = omega (arith, c.in_ok-put.ensures.adds.count, c.script.invariant.count);
    }

pub returns : goal.returns
returns g c = λ s views stands told.
    let none = drop_all c.script.step-index c.args.script.now c.script-test.false in
    let so_far = subst (λ (l : List Step). SoFar c.args.root.now.rendering.program c.args.log.now.options s c.args.script.now views c.script.book c.script.root l) none (c.script.invariant.so_far s views stands told) in
    so_far-ends c.args.root.now.rendering.program c.args.log.now.options s c.args.script.now views c.script.book c.script.root so_far
