use Rattle.std.proofs.Common.{Some}
use Rattle.draw_laws.proofs.Walking.{arrive_drawn, attempt_drawn, start_drawn, unit_drawn}
use Rattle.draw_laws.proofs.laws.cursors_are_drawn.Goals as goal

pub returns : goal.returns
returns c =
    record {
      start = start_drawn;
      unit = λ s d known h. unit_drawn s known d h;
      takes_over = λ p n fs cs e o h. arrive_drawn p n fs (Some o) h.1;
      skips_attempt = λ s n fs cs e o q f a known shape h. attempt_drawn s known n fs cs e o q f a shape h;
      place = λ p n fs cs e o h. h.0;
    }
