use Rattle.std.proofs.Common.{◌∙◌, ap, List, length}
use Rattle.std.specs.Prelude.{replicate}
use Rattle.rx_base.specs.Values.{Name}
use Rattle.rx_changes.specs.ChangesView.{passive_seen}
use Rattle.rx_changes.specs.Found.{Lines}
use Rattle.rx_effect.specs.EffectLog.{Passive}
use Rattle.rx_resources.specs.Kept as kept_of
use Rattle.rx_plain.proofs.Opening.{opening_stands}
use Rattle.rx_plain.proofs.plain.Plain.new.Goals as goal

-- effects of one kind as those that are pending
abbrev as_passive : Lines → Passive
as_passive ls = record { destroyed = ls.destroyed; created = ls.created }

pub returns : goal.returns
returns c =
    opening_stands c.args.checked.now c.new-2.result c.new-3.result c.new-4.result c.in_ok-resources.resources c.new-5.result (passive_seen c.new-6.result)
    (c.new-2.ensures.opening c.args.checked.now) (c.new-3.ensures c.args.checked.now) c.new-4.ensures
    (c.in_ok-resources.ensures ∙ ap (λ (names : List Name). replicate (length names) kept_of.opening) c.resources.ensures) c.new-5.ensures (ap as_passive c.new-6.ensures) c.links_are_below.ensures.start
