use Rattle.std.proofs.Common.{◌≡◌, ◌+◌, ℕ, List, drop, length}
use Rattle.rx_model.specs.State.{State}
use Rattle.rx_root.specs.Stands.{Stands, StandsForSome, HasRoomFor}
use Rattle.rx_kept.specs.Taking.{AllCanTake}
use Rattle.run_page.specs.Views.{View}
use Rattle.run_page.specs.Books.{AreTold}
use Rattle.fiber_view.proofs.Shown.{SoFar}
use Rattle.fiber_view.proofs.steps.put_steps.Given as goal

abbrev pub invariant-script : goal.invariant-script
invariant-script g l = record {
  so_far : (s : State) (views : List View) → Stands l.fn.root.rendering.program s l.fn.root → AreTold views l.fn.book
      → SoFar l.fn.root.rendering.program l.fn.log.options s l.script views l.book l.root (drop l.step-index l.script);
  stands : StandsForSome l.root;
  program : l.root.rendering.program ≡ l.fn.root.rendering.program;
  options : l.log.options ≡ l.fn.log.options;
  fits : AllCanTake l.fn.root.rendering.program (drop l.step-index l.script);
  room : (k : ℕ) → HasRoomFor (length l.script + k) l.fn.root → HasRoomFor (length (drop l.step-index l.script) + k) l.root;
  count : l.book.count ≡ l.fn.book.count + l.step-index;
}
