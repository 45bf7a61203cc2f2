-- When the hidden boundaries of a committed tree wait again: the children of one wait for what they waited for, while that has no value, nothing new has come for what it keeps, no resource has another version, and nothing may throw anew.
use Rattle.std.specs.Prelude.{ℕ, false, Option, Some, None, ◌≡◌}
use Rattle.rx_lane.specs.Lanes.{no_lanes}
use Rattle.rx_elem.specs.Elements.{Element, listed}
use Rattle.rx_elem.specs.Elements as elements
use Rattle.rx_elem.specs.Trees.{Forest, Mark, Node, child, is_hidden, node, none, of_boundary, vacant}
use Rattle.rx_susp.specs.declared.boundary.BoundaryState.TheVariants.{Hidden}
use Rattle.rx_meaning.specs.Again.{AllValuesAgree, AreUnresolved}
use Rattle.rx_meaning.specs.Fresh.{Contexts, Sight, one_waits, part, render_part, rendered}
use Rattle.rx_meaning.specs.Levels.{PartFits}
use Rattle.rx_meaning.specs.Settled.{IfHidden}
use Rattle.rx_meaning.specs.Touched.{contexts_below, may_throw_anew, sees_refresh}

-- what a render of no lanes sees: of the updates, those that are done or owed
abbrev pub without_lanes : Sight → Sight
without_lanes s = record s { lanes = no_lanes }

-- In these contexts a hidden boundary's children wait for what it awaits, if the render sees no refresh, nothing may throw anew, that has no value, and each instance that it keeps has the values by the updates that are done or owed.
abbrev pub OwnWaitsAgain : Sight → Contexts → Element → Mark → Forest → Type 0
OwnWaitsAgain s cs (elements.boundary key f es) (of_boundary (Hidden a)) ns =
    sees_refresh s ≡ false → may_throw_anew s ≡ false → AreUnresolved s a → AllValuesAgree (without_lanes s) s ns
    → (n : ℕ) → PartFits n s.program (part cs (listed es) ns) → render_part (rendered n s) (part cs (listed es) ns) ≡ one_waits a
OwnWaitsAgain s cs e m ns = Unit {0}

-- each visible hidden boundary of a tree waits again so
abbrev mutual
  pub WaitsAgain : Sight → Contexts → Node → Type 0
  WaitsAgain s cs (node e m ns fs) =
      OwnWaitsAgain s cs e m ns × IfHidden (is_hidden m) (Unit {0}) (AllWaitAgain s (contexts_below e cs) ns) × AllWaitAgain s cs fs

  -- the same for the trees of a list
  pub AllWaitAgain : Sight → Contexts → Forest → Type 0
  AllWaitAgain s cs none = Unit {0}
  AllWaitAgain s cs (vacant ns) = AllWaitAgain s cs ns
  AllWaitAgain s cs (child x ns) = WaitsAgain s cs x × AllWaitAgain s cs ns

-- the same for a tree that may be missing
abbrev pub IfWaitsAgain : Sight → Contexts → Option Node → Type 0
IfWaitsAgain s cs None = Unit {0}
IfWaitsAgain s cs (Some n) = WaitsAgain s cs n
