use Rattle.std.proofs.Common.{◌≡◌, ◌+◌, ℕ, drop, length}
use Rattle.rx_model.specs.State.{State}
use Rattle.rx_root.specs.Stands.{Stands, StandsForSome, HasRoomFor}
use Rattle.rx_kept.specs.Taking.{AllCanTake}
use Rattle.rx_top.proofs.Stretches.{SoFar}
use Rattle.rx_top.proofs.run.run_steps.Given as goal

abbrev pub invariant-script : goal.invariant-script
invariant-script g l = record {
  so_far : (s : State) → Stands l.fn.root.rendering.program s l.fn.root
      → SoFar l.fn.root.rendering.program l.fn.log.options s l.script (g.K.Sink.written l.fn.out) (g.K.Sink.written l.out) l.fn.steps l.steps l.root (drop l.step-index l.script);
  stands : StandsForSome l.root;
  program : l.root.rendering.program ≡ l.fn.root.rendering.program;
  options : l.log.options ≡ l.fn.log.options;
  fits : AllCanTake l.fn.root.rendering.program (drop l.step-index l.script);
  room : (k : ℕ) → HasRoomFor (length l.script + k) l.fn.root → HasRoomFor (length (drop l.step-index l.script) + k) l.root;
  kept : g.K.Sink.faults l.out ≡ g.K.Sink.faults l.fn.out;
}
