-- What the code finds, as plain data.
use Rattle.rx_effect.specs.EffectLog as log
use Rattle.rx_changes.specs.declared.changes.Lines.{Lines}
use Rattle.rx_changes.specs.declared.changes.Changes.{Changes}
use Rattle.rx_changes.specs.Found as found

-- the effects of one kind
abbrev pub lines_seen : Lines → found.Lines
lines_seen ls = record { destroyed = ls.destroyed.items; created = ls.created.items }

-- what a new tree changes
abbrev pub changes_seen : Changes → found.Found
changes_seen x =
    record {
      layout = lines_seen x.layout;
      passive = lines_seen x.passive;
      placed = x.placed.items;
      caught = x.caught.items;
      hidden = x.hidden;
    }

-- passive effects that are pending
abbrev pub passive_seen : Lines → log.Passive
passive_seen ls = record { destroyed = ls.destroyed.items; created = ls.created.items }
