-- The numbers of a set that is kept as bits of the small ones and a set of the others.
use Rattle.std.specs.Prelude.{ℕ, ◌/◌, ◌%◌, Bool, List, cond, nat_eq, nat_lt, slice_index_or}
use Rattle.std.specs.Int.{bit_at}
use Rattle.rx_set.specs.Sets.{holds}
use Rattle.rx_ways.specs.declared.way_set.WaySet.{WaySet}

-- the bit of a number is set in a table of words, each of which has the bits of 64 numbers
abbrev pub has_bit : (words : List ℕ) → ℕ → Bool
has_bit words n = nat_eq (bit_at (slice_index_or words (n / 64) 0) (n % 64)) 1

-- a number was put in the set: one below 16,384 has its bit set, and each other one is a member of the set of these
unfoldable pub is_put : WaySet → ℕ → Bool
is_put s n = cond (nat_lt n 16384) (has_bit s.near.items n) (holds s.far n)
