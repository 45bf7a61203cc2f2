-- A set of lanes as a number, each lane a bit.
use Rattle.std.specs.Prelude.{ℕ, nat_eq, ◌^◌, [], ◌∷◌, bit_or}
use Rattle.std.specs.Int.{bit_at}
use Rattle.rx_lane.specs.Lanes.{Lanes, lanes_where, priority}

-- the lanes whose bits are set
abbrev pub lanes_of : ℕ → Lanes
lanes_of bits = lanes_where (λ l. nat_eq (bit_at bits (priority l)) 1)

-- the number with a set's bits
abbrev pub bits_of : Lanes → ℕ
bits_of [] = 0
bits_of (l ∷ ls) = bit_or (2 ^ priority l) (bits_of ls)
