-- Instances whose included updates are all done.
use Rattle.std.specs.Prelude.{◌≡◌, ℕ, false, Some}
use Rattle.rx_elem.specs.Trees.{Mark, of_boundary, of_catcher, of_host, of_instance, plain}
use Rattle.rx_meaning.specs.Fresh.{Sight}
use Rattle.cost_laws.specs.Causes.{is_due, some_update}

-- an instance has a number, and each included update of its hooks is done
abbrev pub IsUndue : Sight → Mark → Type 0
IsUndue s (of_instance i) = (n : ℕ) × (i.number ≡ Some n) × (some_update (is_due s) s n i.initials ≡ false)
IsUndue s (of_host h) = Unit {0}
IsUndue s (of_boundary b) = Unit {0}
IsUndue s (of_catcher c) = Unit {0}
IsUndue s plain = Unit {0}
