-- What holds of the instances that a render in progress has made so far, and of those that it may keep hidden.
use Rattle.std.specs.Prelude.{◌≡◌, ◌≤◌, ◌⊎◌, ℕ, ℤ, Bool, true, false, List, [], ◌∷◌, Option, Some, None, slice_get}
use Rattle.rx_elem.specs.Trees.{Instance, Mark, of_instance, of_host, of_boundary, of_catcher, plain, Node, node, Forest, none, vacant, child, children_if, is_hidden}
use Rattle.rx_elem.specs.Spots.{Mounted, mounted}
use Rattle.rx_meaning.specs.Fresh.{Place, empty, made, waits, throws, old_instance}
use Rattle.rx_meaning.specs.Touched.{component_in}
use Rattle.rx_meaning.specs.Settled.{IfHidden}
use Rattle.rx_meaning.specs.Cursor.{Open, around, trying, falling, guarding, Frame, Cursor, at_place, at_end, ended}
use Rattle.render_laws.specs.OldNodes.{CursorHas}

-- an instance that has a number meets this, by its number and its values at mount
abbrev pub MarkMeets : (ℕ → List ℤ → Type 0) → Mark → Type 0
MarkMeets Q (of_instance i) = (n : ℕ) → i.number ≡ Some n → Q n i.initials
MarkMeets Q (of_host h) = Unit {0}
MarkMeets Q (of_boundary b) = Unit {0}
MarkMeets Q (of_catcher c) = Unit {0}
MarkMeets Q plain = Unit {0}

-- each instance of a tree that has a number meets this
abbrev mutual
  pub TreeMeets : (ℕ → List ℤ → Type 0) → Node → Type 0
  TreeMeets Q (node e m ns fs) = MarkMeets Q m × AllMeet Q ns × AllMeet Q fs

  -- each one of the trees of a list does
  pub AllMeet : (ℕ → List ℤ → Type 0) → Forest → Type 0
  AllMeet Q none = Unit {0}
  AllMeet Q (vacant ns) = AllMeet Q ns
  AllMeet Q (child n ns) = TreeMeets Q n × AllMeet Q ns

-- each visible instance of a visible tree that has a number meets the first, and each one that a hidden boundary of it keeps the second
abbrev mutual
  pub TreeMade : (shown kept : ℕ → List ℤ → Type 0) → Node → Type 0
  TreeMade Q R (node e m ns fs) = MarkMeets Q m × IfHidden (is_hidden m) (AllMeet R ns) (AllMade Q R ns) × AllMade Q R fs

  -- the same of the trees of a list
  pub AllMade : (shown kept : ℕ → List ℤ → Type 0) → Forest → Type 0
  AllMade Q R none = Unit {0}
  AllMade Q R (vacant ns) = AllMade Q R ns
  AllMade Q R (child n ns) = TreeMade Q R n × AllMade Q R ns

-- the same of the children of a list that are done
abbrev pub DoneMade : (shown kept : ℕ → List ℤ → Type 0) → List (Option Node) → Type 0
DoneMade Q R [] = Unit {0}
DoneMade Q R (None ∷ ns) = DoneMade Q R ns
DoneMade Q R (Some n ∷ ns) = TreeMade Q R n × DoneMade Q R ns

-- an open node that is no boundary meets the first; what a boundary may keep, or keeps, meets the second
abbrev pub OpenMade : (shown kept : ℕ → List ℤ → Type 0) → Open → Type 0
OpenMade Q R (around e m) = MarkMeets Q m × (is_hidden m ≡ false)
OpenMade Q R (trying e old f) = AllMeet R (children_if old)
OpenMade Q R (falling e old a) = AllMeet R (children_if old)
OpenMade Q R (guarding e f) = Unit {0}

-- the same of the open nodes and of their children that are done
abbrev pub FramesMade : (shown kept : ℕ → List ℤ → Type 0) → List Frame → Type 0
FramesMade Q R [] = Unit {0}
FramesMade Q R (f ∷ fs) = OpenMade Q R f.node × DoneMade Q R f.done × FramesMade Q R fs

-- the same of what a place gave
abbrev pub PlaceMade : (shown kept : ℕ → List ℤ → Type 0) → Place → Type 0
PlaceMade Q R empty = Unit {0}
PlaceMade Q R (made n) = TreeMade Q R n
PlaceMade Q R (waits a) = Unit {0}
PlaceMade Q R (throws x) = Unit {0}

-- the same of all nodes that are done or open
abbrev pub NodesMade : (shown kept : ℕ → List ℤ → Type 0) → Cursor → Type 0
NodesMade Q R (at_place levels fs cs e old) = FramesMade Q R fs
NodesMade Q R (at_end levels fs o done) = OpenMade Q R o × DoneMade Q R done × FramesMade Q R fs
NodesMade Q R (ended p) = PlaceMade Q R p

-- Each instance with a number among the nodes that are done or open meets the first, if it is visible; each one that is kept hidden meets the second, and so does each one of the old nodes that are still to come.
pub record InstancesMade (shown kept : ℕ → List ℤ → Type 0) (c : Cursor) : Type 0 where
  pub nodes : NodesMade shown kept c
  pub olds : CursorHas (TreeMeets kept) c

-- if the next unit begins a component's place that has an old instance with a number, that meets this
abbrev pub BeginsMeeting : (ℕ → List ℤ → Type 0) → Cursor → Type 0
BeginsMeeting Q (at_place levels fs cs e old) =
    (c : ℕ) (i : Instance) (n : ℕ) → component_in e ≡ Some c → old_instance old ≡ Some i → i.number ≡ Some n → Q n i.initials
BeginsMeeting Q (at_end levels fs o done) = Unit {0}
BeginsMeeting Q (ended p) = Unit {0}

-- an instance of a tree meets the first if it is visible, and else the second
pub record MountedMeets (shown kept : ℕ → List ℤ → Type 0) (m : Mounted) : Type 0 where
  pub where_visible : m.visible ≡ true → shown m.number m.initials
  pub where_hidden : m.visible ≡ false → kept m.number m.initials

-- each instance of a tree meets this
abbrev pub EachMounted : (Mounted → Type 0) → Option Node → Type 0
EachMounted P tree = (k : ℕ) (m : Mounted) → slice_get (mounted tree) k ≡ Some m → P m

-- an instance passes this test
abbrev pub Passes : (ℕ → List ℤ → Bool) → ℕ → List ℤ → Type 0
Passes test n initials = test n initials ≡ true

-- if an instance of a tree doesn't have one of the numbers from this one on, it meets the first if it is visible, and else the second
abbrev pub IsNewOrMeets : (next : ℕ) → (shown kept : ℕ → List ℤ → Type 0) → Mounted → Type 0
IsNewOrMeets next Q R m = (next ≤ m.number) ⊎ MountedMeets Q R m
