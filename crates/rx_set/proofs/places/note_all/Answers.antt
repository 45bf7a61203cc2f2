use Rattle.std.proofs.Common.{rules, arith}
use Rattle.std.proofs.lemmas.Option.{slice_get-get_or, slice_get_within}
use Rattle.rx_set.specs.Places.{place_of}
use Rattle.rx_set.proofs.Few.{noted_further}
use Rattle.rx_set.proofs.places.note_all.Goals as goal

pub noting-preserved : goal.noting-preserved
noting-preserved c =
    noted_further c.args.members.now c.requires.apart (place_of c.noting.places) (place_of c.put.new.self) c.noting.place (lib.ListN.get_or c.args.members.now c.noting.place 0)
    (slice_get-get_or c.args.members.now c.noting.place 0 (search (rules, arith))) c.noting.invariant c.in_ok-put.ensures.here c.in_ok-put.ensures.others

pub returns : goal.returns
returns c i n at = c.noting.invariant i n (let less = slice_get_within c.args.members.now i n at in search (rules, arith)) at
