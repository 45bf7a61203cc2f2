-- The next numbers of the code as plain data.
use Rattle.rx_elem.specs.Numbers as numbers
use Rattle.rx_read.specs.declared.numbering.Numbers.{Numbers}

-- the numbers that come next
abbrev pub numbers_seen : Numbers → numbers.Numbers
numbers_seen n = record { instance = n.instance; host = n.host }
