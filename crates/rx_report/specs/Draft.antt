-- A report while a line of it is being written.
use Rattle.rx_base.specs.Values.{Text}

-- the lines that are done, and what is written of the next one
pub record Draft : Type 0 where
  pub done : Text
  pub begun : Text
