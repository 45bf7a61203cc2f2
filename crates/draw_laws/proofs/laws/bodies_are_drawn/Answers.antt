use Rattle.draw_laws.proofs.Known.{root_fits}
use Rattle.draw_laws.proofs.Bodies.{body_drawn}
use Rattle.draw_laws.proofs.Walking.{listed_drawn}
use Rattle.draw_laws.proofs.laws.bodies_are_drawn.Goals as goal

pub returns : goal.returns
returns c = record { body = body_drawn; root = root_fits; given = listed_drawn }
