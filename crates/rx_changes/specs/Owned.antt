-- The effects of a node and of its past.
use Rattle.std.specs.Prelude.{◌≡◌, List, [], Option, Some, None}
use Rattle.rx_elem.specs.Compare.{Change}
use Rattle.rx_elem.specs.Trees.{Node, effects_in, mark_of}
use Rattle.rx_elem.specs.declared.effect.EffectRecord.{EffectRecord}

-- the effects of a node that may be missing
abbrev pub effects_if : Option Node → List EffectRecord
effects_if None = []
effects_if (Some n) = effects_in (mark_of n)

-- neither the node nor its past has any
pub record HasNoEffects (c : Change) : Type 0 where
  pub old : effects_if c.old ≡ []
  pub new : effects_in (mark_of c.new) ≡ []
