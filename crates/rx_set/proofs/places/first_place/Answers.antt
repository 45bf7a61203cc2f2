use Rattle.std.proofs.Common.{rules, Some, sym, ap, ◌∙◌, arith}
use Rattle.std.proofs.lemmas.Option.{slice_get-get_or, slice_get_within}
use Rattle.rx_set.proofs.Few.{first_at, first_none}
use Rattle.rx_set.proofs.places.first_place.Goals as goal

pub returns-then-members-place : goal.returns-then-members-place
returns-then-members-place c =
    sym (first_at c.args.members.now c.args.number c.looking.place (slice_get-get_or c.args.members.now c.looking.place 0 (search (rules, arith)) ∙ ap (λ m. Some m) (search rules)) c.looking.invariant)

pub returns : goal.returns
returns c = sym (first_none c.args.members.now c.args.number (λ j at. c.looking.invariant j (let less = slice_get_within c.args.members.now j c.args.number at in search (rules, arith)) at))
