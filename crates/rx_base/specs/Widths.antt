-- How wide the integers of a program are.
use Rattle.std.specs.Prelude.{ℤ, pos, negsuc, Bool, nat_lt, ◌-◌, ◌^◌}
use Rattle.std.specs.Int.{w32, w64}
use Rattle.std.specs.Int as int
use Rattle.rx_base.specs.declared.width.Width.{Width}
use Rattle.rx_base.specs.declared.width.Width.TheVariants.{W32, W64}
use mir.Val.{bits}

-- the width of machine integers that a program's integers have
abbrev pub width_of : Width → int.Width
width_of W32 = w32
width_of W64 = w64

-- the number is one that an integer of this width is read as
abbrev pub fits_width : int.Width → ℤ → Bool
fits_width w (pos n) = nat_lt n (2 ^ (bits w - 1))
fits_width w (negsuc n) = nat_lt n (2 ^ (bits w - 1))
