use Rattle.std.proofs.Common.{sym, ap, ◌∙◌}
use Rattle.std.specs.Option.{option_copied}
use Rattle.rx_spots.specs.Waits.{all_awaited}
use Rattle.rx_spots.proofs.Waiting.{all_awaited-some, resolved_since-set}
use Rattle.rx_spots.proofs.boundaries.awaited.Goals as goal

pub returns-in-Some-clause-are : goal.returns-in-Some-clause-are
returns-in-Some-clause-are c =
    c.awaits_from.ensures ∙ all_awaited-some c.in-Some.node.now ∙ ap (λ t. all_awaited (option_copied t)) (sym c.in-Some.is)

pub returns-in-Some-clause-resolved : goal.returns-in-Some-clause-resolved
returns-in-Some-clause-resolved c =
    resolved_since-set (option_copied c.args.tree) _
    (c.awaits_from.ensures ∙ all_awaited-some c.in-Some.node.now ∙ ap (λ t. all_awaited (option_copied t)) (sym c.in-Some.is))
