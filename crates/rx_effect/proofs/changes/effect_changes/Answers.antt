use Rattle.std.proofs.Common.{◌≤◌, ◌++◌, min, length, sym, ap, ◌∙◌, arith}
use Rattle.std.proofs.lemmas.List.{append-nil}
use Rattle.rx_effect.proofs.Differing.{changes_from, pairs_from-end}
use Rattle.rx_effect.proofs.changes.effect_changes.Goals as goal

pub returns : goal.returns
returns c =
    let end : min (length c.args.old.now) (length c.args.new.now) ≤ c.loop-place.place = omega arith in
    sym (c.loop-place.invariant ∙ ap (λ zs. c.loop-place.places.items ++ changes_from c.loop-place.place zs) (pairs_from-end _ _ _ end) ∙ append-nil _)
