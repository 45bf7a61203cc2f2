use Rattle.render_laws.proofs.Counting.{units_left, not_over, whole_gives_fresh}
use Rattle.render_laws.proofs.UnitBound.{units_twice_begun}
use Rattle.render_laws.proofs.Bounded.{units_within}
use Rattle.render_laws.proofs.laws.units_are_bounded.Goals as goal

pub returns : goal.returns
returns c =
    record {
      falls = λ s old k l. units_left k s old l;
      before = λ s old k l. not_over k s old l;
      last = whole_gives_fresh;
      twice = units_twice_begun;
      bound = λ s old apart small. units_within s apart small old;
    }
