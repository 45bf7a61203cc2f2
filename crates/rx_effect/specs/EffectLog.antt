-- The effects that a commit destroys and creates, in their order (react.dev, useEffect and useLayoutEffect).
use Rattle.std.specs.Prelude.{ℕ, Bool, true, false, not, ◌||◌, List, [], ◌++◌, Option, Some, None, filter, map, flat_map, is_none, option_and_then, if◌then◌else◌}
use Rattle.std.specs.List.{zip, enumerate_from}
use Rattle.std.specs.Option.{option_map_or}
use Rattle.std.specs.Ordering.{int_eq}
use Rattle.std.specs.Cmp.Lexicographic.{pointwise}
use Rattle.rx_elem.specs.Trees.{Node, Mark, mark_of, children_of, effects_in, instance_in, is_hidden, is_shown}
use Rattle.rx_elem.specs.declared.effect.EffectRecord.{EffectRecord}
use Rattle.rx_effect.specs.declared.log.LogLine.{LogLine}
use Rattle.rx_elem.specs.Spots.{Around, at_root, Spot, spots, spots_in, spot_mark}
use Rattle.rx_elem.specs.Compare.{Change, Gone, Compared, compared, AllCompared, no_comparisons, comparison}

-- which effects a walk is about
pub data Phase : Type 0 where
  layout : Phase
  passive : Phase

-- an effect is one of a phase
abbrev pub is_of : Phase → EffectRecord → Bool
is_of layout e = e.layout
is_of passive e = not e.layout

-- a phase is that of the passive effects
abbrev pub is_passive : Phase → Bool
is_passive layout = false
is_passive passive = true

-- layout effects are live if they are visible, passive effects always
abbrev pub is_live : Phase → (visible : Bool) → Bool
is_live layout visible = visible
is_live passive visible = true

-- the line of an effect of an instance
abbrev pub line_of : Phase → (created : Bool) → (instance : ℕ) → EffectRecord → LogLine
line_of phase made i e = record { passive = is_passive phase; created = made; instance = i; label = e.label; values = e.values }

-- the lines of some effects of a node, in statement order
abbrev pub lines_at : Phase → (created : Bool) → Mark → List EffectRecord → List LogLine
lines_at phase made m es =
    option_map_or (λ i. map (line_of phase made i) (filter (is_of phase) es)) (option_and_then (λ i. i.number) (instance_in m)) []

-- what a node destroys that is gone or hidden
abbrev pub destroyed_at : Phase → Spot → List LogLine
destroyed_at phase s =
    if is_live phase s.around.visible then lines_at phase false (spot_mark s) (effects_in (spot_mark s)) else []

-- what surrounds trees that were visible, or weren't
abbrev pub around_old : (visible : Bool) → Around
around_old visible = record at_root { visible = visible }

-- what a tree that is gone destroys, in tree order
abbrev pub destroyed_in : Phase → Gone → List LogLine
destroyed_in phase g = flat_map (destroyed_at phase) (spots (around_old g.was_visible) g.node)

-- what a boundary's children destroy when it hides them, in tree order
abbrev pub destroyed_by_hiding : Phase → (was_visible : Bool) → (old : Option Node) → List LogLine
destroyed_by_hiding passive visible old = []
destroyed_by_hiding layout visible None = []
destroyed_by_hiding layout visible (Some n) =
    if is_shown (mark_of n) then flat_map (destroyed_at layout) (spots_in (around_old visible) (children_of n)) else []

-- an effect runs again if a dependency has another value
abbrev pub differs : EffectRecord × EffectRecord → Bool
differs x = not (pointwise int_eq x.0.values x.1.values)

-- the places of the effects that differ, of one instance
abbrev pub effect_changes : (old new : List EffectRecord) → List ℕ
effect_changes old new = map (λ x. x.0) (filter (λ x. differs x.1) (enumerate_from 0 (zip old new)))

-- the effects of a node that differ, each old one beside the new one
abbrev pub changed_effects : (old : Option Node) → (new : Node) → List (EffectRecord × EffectRecord)
changed_effects None new = []
changed_effects (Some old) new = filter differs (zip (effects_in (mark_of old)) (effects_in (mark_of new)))

-- what a node destroys of its own: what differs, if it was live
abbrev pub own_destroyed : Phase → Change → List LogLine
own_destroyed phase c =
    if is_live phase c.was_visible then lines_at phase false (mark_of c.new) (map (λ x. x.0) (changed_effects c.old c.new)) else []

-- what a node creates of its own: all if it is new or visible again, else what differs
abbrev pub own_created : Phase → Change → List LogLine
own_created phase c =
    if is_none c.old || not (is_live phase c.was_visible)
    then lines_at phase true (mark_of c.new) (effects_in (mark_of c.new))
    else lines_at phase true (mark_of c.new) (map (λ x. x.1) (changed_effects c.old c.new))

-- destructions: at each node first what is gone, then what its children destroy or what hiding them does, then its own
abbrev mutual
  pub destroyed : Phase → Compared → List LogLine
  destroyed phase (compared c gone ns fs) =
      flat_map (destroyed_in phase) gone
      ++ (if is_hidden (mark_of c.new) then destroyed_by_hiding phase c.was_visible c.old else destroyed_all phase ns)
      ++ destroyed_all phase fs
      ++ own_destroyed phase c

  -- the destructions of children in order
  pub destroyed_all : Phase → AllCompared → List LogLine
  destroyed_all phase no_comparisons = []
  destroyed_all phase (comparison c cs) = destroyed phase c ++ destroyed_all phase cs

-- creations: children before their parent; what a boundary keeps creates nothing
abbrev mutual
  pub created : Phase → Compared → List LogLine
  created phase (compared c gone ns fs) =
      (if is_hidden (mark_of c.new) then [] else created_all phase ns) ++ created_all phase fs ++ own_created phase c

  -- the creations of children in order
  pub created_all : Phase → AllCompared → List LogLine
  created_all phase no_comparisons = []
  created_all phase (comparison c cs) = created phase c ++ created_all phase cs

-- the layout effects of a commit, all destructions before all creations
abbrev pub layout_log : Compared → List LogLine
layout_log c = destroyed layout c ++ created layout c

-- the passive effects that are pending
pub record Passive : Type 0 where
  pub destroyed : List LogLine
  pub created : List LogLine

-- no passive effect is pending
abbrev pub no_passive : Passive
no_passive = record { destroyed = []; created = [] }

-- the passive effects that a commit leaves pending
abbrev pub passive_of : Compared → Passive
passive_of c = record { destroyed = destroyed passive c; created = created passive c }

-- pending passive effects in the order in which they run, all destructions before all creations
abbrev pub passive_log : Passive → List LogLine
passive_log p = p.destroyed ++ p.created
