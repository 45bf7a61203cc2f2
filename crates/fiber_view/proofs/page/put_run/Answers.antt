use Rattle.std.proofs.Common.{[], ◌∷◌, List, ap, arith}
use Rattle.rx_lines.specs.Lines.{Written}
use Rattle.rx_model.specs.State.{State, opening}
use Rattle.rx_root.specs.Stands.{Stands}
use Rattle.run_page.specs.Views.{View, shown}
use Rattle.run_page.specs.Books.{AreTold}
use Rattle.fiber_view.specs.Pages.{IsBook}
use Rattle.fiber_view.specs.Taken.{Continues}
use Rattle.fiber_view.proofs.Shown.{book-shown, on-ok, room-opening, told-nothing}
use Rattle.fiber_view.proofs.page.put_run.Goals as goal

pub put_steps-requires-clause-room : goal.put_steps-requires-clause-room
put_steps-requires-clause-room g c = room-opening c.args.root.now.rendering.program _ c.args.root.now (omega (arith, c.requires.few)) c.requires.stands

pub returns : goal.returns
returns g c =
    let p = c.args.root.now.rendering.program in
    let first = shown c.in_ok-first.first in
    let told = c.in_ok-put.ensures.told [] (told-nothing c.args.book.now c.requires.empty) in
    on-ok c.put_steps.result
    ((s : State) (views : List View) → Stands p s c.args.root.now → AreTold views c.put.new.self → Continues p c.view_of.new.log.options s c.args.script.now views c.put_steps.new.book)
    (IsBook p c.args.script.now c.put_steps.new.book)
    (λ rest.
    book-shown p c.args.script.now c.new-log.result.options c.view_of.new.log.options c.in_ok-title.title.items c.new.result.items first c.put_steps.new.book
    (ap (λ (w : Written). w.options) c.new-log.ensures) c.in_ok-first.ensures.options c.in_ok-title.ensures.items c.new.ensures.items
    (c.in_ok-first.ensures.ok opening c.requires.stands) (rest opening (first ∷ []) c.requires.stands told))
    c.put_steps.ensures
