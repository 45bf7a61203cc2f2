use Rattle.std.proofs.Common.{refl}
use Rattle.rx_model.specs.State.{State}
use Rattle.rx_root.specs.Stands.{Stands}
use Rattle.run_page.specs.Views.{shown}
use Rattle.fiber_view.specs.Shown.{ShowsState}
use Rattle.fiber_view.specs.Taken.{TakesAndShows}
use Rattle.fiber_view.proofs.Shown.{if-ok, step-shown}
use Rattle.fiber_view.proofs.steps.take_step.Goals as goal

pub returns-clause-ok : goal.returns-clause-ok
returns-clause-ok g c =
    let p = c.args.root.now.rendering.program in
    let q = c.step.new.self.rendering.program in
    let o = c.args.log.now.options in
    if-ok c.view_of.result
    (λ v. (t : State) → Stands q t c.step.new.self → ShowsState q c.step.new.log.options c.in_ok-title.title.items c.in_ok-lines.lines.items c.yielded.result t (shown v))
    (λ v. (s : State) → Stands p s c.args.root.now → TakesAndShows p o s c.args.step.now (shown v) c.step.new.self)
    (λ v shows s stands.
    step-shown p q o s c.args.step.now c.step.new.self c.args.log.now c.cut.new.self c.step.new.log c.bytes.result.now c.in_ok-title.title.items c.in_ok-lines.lines.items c.args.steps.now c.step.new.steps c.yielded.result (shown v)
    c.in_ok-step.ensures.program (c.in_ok-step.ensures.ok s stands) c.cut.ensures refl c.bytes.ensures c.in_ok-lines.ensures.items c.in_ok-title.ensures c.yielded.ensures shows)
    c.view_of.ensures.ok
