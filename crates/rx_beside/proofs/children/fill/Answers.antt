use Rattle.std.proofs.Common.{None, ◌++◌, ◌∷◌, [], sym, ap, ◌∙◌}
use Rattle.std.proofs.lemmas.List.{append_assoc}
use Rattle.rx_fiber.specs.OldLists.{filled}
use Rattle.rx_beside.proofs.Here.{one_more_filled}
use Rattle.rx_beside.proofs.children.fill.Goals as goal

pub filling-preserved : goal.filling-preserved
filling-preserved g c =
    c.in_ok-push.ensures.items
    ∙ ap (λ l. l ++ None ∷ []) c.filling.invariant
    ∙ append_assoc c.args.places.now.items (filled c.filling._done None) (None ∷ [])
    ∙ ap (λ l. c.args.places.now.items ++ l) (sym (one_more_filled c.filling._done None))
