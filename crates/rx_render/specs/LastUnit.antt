-- Which unit is the last.
use Rattle.std.specs.Prelude.{Bool, true, false}
use Rattle.rx_loop.specs.declared.work.Unit.{Unit}
use Rattle.rx_loop.specs.declared.work.Unit.TheVariants.{More, Last}
use Rattle.rx_render.specs.declared.at.At.{At}
use Rattle.rx_render.specs.declared.at.At.TheVariants.{Begins, Completes, Over}

-- the unit that has come there is the last if no unit is left
abbrev pub unit_before : At → Unit
unit_before (Begins id) = More
unit_before (Completes id) = More
unit_before Over = Last

-- no unit is left
abbrev pub is_over : At → Bool
is_over (Begins id) = false
is_over (Completes id) = false
is_over Over = true
