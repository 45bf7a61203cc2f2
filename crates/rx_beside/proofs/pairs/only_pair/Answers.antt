use Rattle.std.proofs.Common.{ap, ◌∙◌}
use Rattle.rx_read.specs.Lists.{list_of}
use Rattle.rx_read.specs.Places.{places_in}
use Rattle.rx_beside.proofs.pairs.only_pair.Goals as goal

pub returns-clause-only : goal.returns-clause-only
returns-clause-only c =
    let t = c.args.tree.now in
    let alone = c.in_ok-bare.ensures.alone in
    record {
      pair = alone.pair;
      stands = alone.stands;
      first = c.in_ok-new.was;
      old_places = ap (λ o. places_in 0 (list_of t o)) c.in_ok-old.was ∙ alone.old_places;
      new_places = ap (λ o. places_in 0 (list_of t o)) c.in_ok-new.was ∙ alone.new_places;
    }
