use Rattle.std.proofs.Common.{◌++◌, ◌∙◌, Bool, List, ap, flat_map, map}
use Rattle.rx_elem.specs.Trees.{Forest, forest}
use Rattle.rx_elem.specs.Compare.{gone_from}
use Rattle.rx_effect.specs.EffectLog.{Phase, layout, passive, destroyed_in}
use Rattle.rx_effect.specs.declared.log.LogLine.{LogLine}
use Rattle.rx_compare.specs.Matched.{gone_as}
use Rattle.rx_changes.specs.ChangesView.{changes_seen}
use Rattle.rx_changes.proofs.Sums.{nothing-destroyed, logged-destroyed}
use Rattle.rx_changes.proofs.past.add_gone.Goals as goal

-- what the old nodes of a list destroy that are gone
abbrev gone_effects : (visible : Bool) → (old new : Forest) → Phase → List LogLine
gone_effects visible old new phase = flat_map (destroyed_in phase) (gone_from visible old new)

pub returns-then-not-logs : goal.returns-then-not-logs
returns-then-not-logs c new is =
    nothing-destroyed c.args.logs (gone_effects c.args.visible (forest c.args.old.now) new) (changes_seen c.args.found.now) c.if-not-logs.true

pub returns : goal.returns
returns c new is =
    let f = changes_seen c.args.found.now in
    let told = c.gone-places.ensures _ new is in
    logged-destroyed c.args.logs (gone_effects c.args.visible (forest c.args.old.now) new) f _ _ c.if-not-logs.false
    (c.in_ok-add_gone_at.ensures ∙ ap (λ ns. f.layout.destroyed ++ flat_map (destroyed_in layout) (map (gone_as c.args.visible) ns)) told)
    (c.in_ok-add_gone_at-2.ensures ∙ ap (λ ns. f.passive.destroyed ++ flat_map (destroyed_in passive) (map (gone_as c.args.visible) ns)) told)
