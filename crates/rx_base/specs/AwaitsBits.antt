-- A set of resources as a number, each resource a bit.
use Rattle.std.specs.Prelude.{ℕ, nat_eq, ◌^◌, [], ◌∷◌, bit_or}
use Rattle.std.specs.Int.{bit_at}
use Rattle.rx_base.specs.Awaits.{Awaits, awaits_where}

-- the resources whose bits are set
abbrev pub awaits_of : ℕ → Awaits
awaits_of bits = awaits_where (λ r. nat_eq (bit_at bits r) 1)

-- the number with a set's bits
abbrev pub bits_of : Awaits → ℕ
bits_of [] = 0
bits_of (r ∷ rs) = bit_or (2 ^ r) (bits_of rs)
