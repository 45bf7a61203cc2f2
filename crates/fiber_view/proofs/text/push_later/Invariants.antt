use Rattle.std.proofs.Common.{◌≡◌, ◌++◌, take}
use Rattle.std.specs.Prelude.{flat_map}
use Rattle.fiber_view.specs.StepTexts.{later_part}
use Rattle.fiber_view.proofs.text.push_later.Given as goal

abbrev pub invariant-parts : goal.invariant-parts
invariant-parts l = l.text.items ≡ l.fn.text.items ++ flat_map later_part (take l.part-index l.parts)
