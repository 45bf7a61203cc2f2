-- Which effects a walk is about, as plain data.
use Rattle.std.specs.Prelude.{Bool, true, false, List, [], if◌then◌else◌}
use Rattle.rx_elem.specs.declared.effect.EffectRecord.{EffectRecord}
use Rattle.rx_elem.specs.Trees.{Mark, effects_in}
use Rattle.rx_elem.specs.Spots.{Around}
use Rattle.rx_effect.specs.EffectLog as log
use Rattle.rx_effect.specs.EffectLog.{is_live, lines_at}
use Rattle.rx_effect.specs.declared.log.LogLine.{LogLine}
use Rattle.rx_changes.specs.declared.line.Phase.{Phase}
use Rattle.rx_changes.specs.declared.line.Phase.TheVariants.{Layout, Passive}

-- which effects a walk is about
abbrev pub phase_seen : Phase → log.Phase
phase_seen Layout = log.layout
phase_seen Passive = log.passive

-- of an old effect beside the new one: what is created is the new one, what is destroyed is the old one
abbrev pub old_or_new : (created : Bool) → EffectRecord × EffectRecord → EffectRecord
old_or_new true x = x.1
old_or_new false x = x.0

-- what a node with this mark destroys that is gone or hidden
abbrev pub destroyed_of : log.Phase → Around → Mark → List LogLine
destroyed_of phase a m = if is_live phase a.visible then lines_at phase false m (effects_in m) else []
