use Rattle.room_laws.proofs.Law.{reached_within}
use Rattle.room_laws.proofs.laws.cursors_have_room.Goals as goal

pub returns : goal.returns
returns c = reached_within
