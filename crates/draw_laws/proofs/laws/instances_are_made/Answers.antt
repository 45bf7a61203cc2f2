use Rattle.draw_laws.specs.Made.{Passes}
use Rattle.draw_laws.proofs.Making.{attempt_makes, place_meets, start_makes, take_makes, unit_makes}
use Rattle.draw_laws.proofs.MadeTrees.{instances_more, last_made, numbered_made, old_from}
use Rattle.draw_laws.proofs.laws.instances_are_made.Goals as goal

pub returns : goal.returns
returns c =
    record {
      start = λ shown kept s old h. start_makes (Passes shown) (Passes kept) s old (old_from (Passes kept) old h);
      unit = λ shown kept s d meets h. unit_makes (Passes shown) (Passes kept) s d meets h;
      takes_over = λ shown kept n fs cs e o tree h. take_makes (Passes shown) (Passes kept) n fs cs e o tree h;
      skips_attempt = λ shown kept s n fs cs e o q f a shape h. attempt_makes (Passes shown) (Passes kept) s n fs cs e o q f a shape h;
      place = λ shown kept n fs cs e o i k h at is. place_meets (Passes shown) (Passes kept) n fs cs e o i k h at is;
      more = λ shown kept seen held d shows keeps h. instances_more (Passes shown) (Passes kept) (Passes seen) (Passes held) shows keeps d h;
      last = λ shown kept n h. last_made (Passes shown) (Passes kept) n h;
      numbered = λ shown kept n next h. numbered_made (Passes shown) (Passes kept) n next h;
    }
