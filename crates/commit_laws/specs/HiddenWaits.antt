-- What is kept of the visible hidden boundaries of a committed tree: at the last commit's sight their children waited for what they await.
use Rattle.std.specs.Prelude.{Bool, List, None, Option, Some, cond, false, map, suc, true, zero, ℕ, ◌++◌, ◌≡◌}
use Rattle.rx_base.specs.declared.cut.Cut.{Cut}
use Rattle.rx_lane.specs.Lanes.{Lanes}
use Rattle.rx_queue.specs.Journal.{Journal, Posted, Resolution, marked_update}
use Rattle.rx_elem.specs.Elements.{Element, listed}
use Rattle.rx_elem.specs.Trees.{Forest, Mark, Node, child, is_hidden, node, none, of_boundary, of_catcher, of_host, of_instance, plain, vacant}
use Rattle.rx_meaning.specs.Fresh.{Contexts, Sight, one_waits, part, render_part, rendered}
use Rattle.rx_meaning.specs.Touched.{contexts_below}
use Rattle.rx_susp.specs.declared.boundary.BoundaryState.TheVariants.{Hidden}
use Rattle.rx_meaning.specs.Settled.{IfHidden, includes, number_of}
use Rattle.rx_elem.specs.Elements as elements

-- what a render after the commit at this sight sees
abbrev pub later_sight : Sight → Journal → Lanes → Cut → Sight
later_sight s j lanes cut = record s { journal = j; lanes = lanes; cut = cut; seen = s.cut.resolutions }

-- the journal that a commit leaves with these instances, and what came since
abbrev pub journal_since : Sight → (visible kept : List ℕ) → (new : List Posted) → List Resolution → Journal
journal_since s visible kept new resolutions =
    record { updates = map (marked_update s.lanes s.cut visible kept) s.journal.updates ++ new; resolutions = resolutions }

-- instances and hosts have their numbers
abbrev pub IsNumbered : Mark → Type 0
IsNumbered (of_instance i) = (n : ℕ) × (i.number ≡ Some n)
IsNumbered (of_host h) = (n : ℕ) × (h ≡ Some n)
IsNumbered plain = Unit {0}
IsNumbered (of_boundary b) = Unit {0}
IsNumbered (of_catcher c) = Unit {0}

-- each instance and each host of a tree has its number
abbrev mutual
  pub Numbered : Node → Type 0
  Numbered (node e m ns fs) = IsNumbered m × AllNumbered ns × AllNumbered fs

  -- the same for the trees of a list
  pub AllNumbered : Forest → Type 0
  AllNumbered none = Unit {0}
  AllNumbered (vacant ns) = AllNumbered ns
  AllNumbered (child n ns) = Numbered n × AllNumbered ns

-- the same for a tree that may be missing
abbrev pub IfNumbered : Option Node → Type 0
IfNumbered None = Unit {0}
IfNumbered (Some n) = Numbered n

-- a hidden boundary's children waited for what it awaits
abbrev pub OwnWaits : ℕ → Sight → Contexts → Element → Mark → Forest → Type 0
OwnWaits n s cs (elements.boundary key f es) (of_boundary (Hidden a)) ns = (render_part (rendered n s) (part cs (listed es) ns) ≡ one_waits a) × AllNumbered ns
OwnWaits n s cs e m ns = Unit {0}

-- each visible hidden boundary of a tree waited at this sight for what it awaits
abbrev mutual
  pub HiddenWaits : ℕ → Sight → Contexts → Node → Type 0
  HiddenWaits zero s cs (node e m ns fs) = Unit {0}
  HiddenWaits (suc n) s cs (node e m ns fs) =
      OwnWaits n s cs e m ns × IfHidden (is_hidden m) (Unit {0}) (AllHiddenWait n s (contexts_below e cs) ns) × AllHiddenWait n s cs fs

  -- the same for the trees of a list
  pub AllHiddenWait : ℕ → Sight → Contexts → Forest → Type 0
  AllHiddenWait n s cs none = Unit {0}
  AllHiddenWait n s cs (vacant ns) = AllHiddenWait n s cs ns
  AllHiddenWait n s cs (child x ns) = HiddenWaits n s cs x × AllHiddenWait n s cs ns

-- a number that may be missing is listed, as one that is visible or as one that is kept
abbrev pub NumberSeen : (visible kept : List ℕ) → Bool → Option ℕ → Type 0
NumberSeen visible kept true n = (i : ℕ) → n ≡ Some i → includes visible i ≡ true
NumberSeen visible kept false n = (i : ℕ) → n ≡ Some i → includes kept i ≡ true

-- the same for a tree
abbrev mutual
  pub Seen : (visible kept : List ℕ) → Bool → Node → Type 0
  Seen visible kept v (node e m ns fs) =
      NumberSeen visible kept v (number_of m) × AllSeen visible kept (cond (is_hidden m) false v) ns × AllSeen visible kept v fs

  -- the same for the trees of a list
  pub AllSeen : (visible kept : List ℕ) → Bool → Forest → Type 0
  AllSeen visible kept v none = Unit {0}
  AllSeen visible kept v (vacant ns) = AllSeen visible kept v ns
  AllSeen visible kept v (child n ns) = Seen visible kept v n × AllSeen visible kept v ns
