use Rattle.room_laws.proofs.Sizes.{few}
use Rattle.room_laws.proofs.Made.{stands_made, both_within}
use Rattle.room_laws.proofs.laws.fibers_have_room.Goals as goal

pub returns : goal.returns
returns c = record { made = stands_made; current = few; both = both_within }
