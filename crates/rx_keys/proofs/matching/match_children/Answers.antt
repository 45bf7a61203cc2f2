use Rattle.std.proofs.Common.{ap, sym, ◌∙◌}
use Rattle.rx_elem.specs.Identity.{old_places}
use Rattle.rx_keys.specs.Found.{moves_below}
use Rattle.rx_keys.proofs.Moving.{moves-below}
use Rattle.rx_keys.proofs.matching.match_children.Goals as goal

pub returns-clause-moved : goal.returns-clause-moved
returns-clause-moved c =
    c.in_ok-moved.ensures
    ∙ ap (moves_below 0) (c.deref.ensures.value ∙ c.in_ok-places.ensures)
    ∙ sym (moves-below (old_places c.args.old.now c.args.new.now))
