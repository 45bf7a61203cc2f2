-- The numbers that come next, as contracts see them.
use Rattle.std.specs.Prelude.{◌<◌, ◌^◌}
use Rattle.rx_elem.specs.Numbers as numbers
use Rattle.rx_numbers.specs.declared.numbering.Numbers.{Numbers}

-- the numbers that come next
abbrev pub numbers_seen : Numbers → numbers.Numbers
numbers_seen n = record { instance = n.instance; host = n.host }

-- they are numbers of 64 bits
pub record FitIn (n : numbers.Numbers) : Type 0 where
  pub instance : n.instance < 2 ^ 64
  pub host : n.host < 2 ^ 64
