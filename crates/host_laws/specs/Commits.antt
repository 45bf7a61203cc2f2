-- Two trees, as a commit relates them.
use Rattle.std.specs.Prelude.{◌≡◌, ℕ, Bool, true, false, ◌||◌, List, [], ◌∷◌, ◌++◌, Option, Some, None, filter, nat_eq, option_to_list, if◌then◌else◌}
use Rattle.rx_elem.specs.Elements.{Element}
use Rattle.rx_elem.specs.Elements as elements
use Rattle.rx_elem.specs.Identity.{old_places, is_reused}
use Rattle.rx_elem.specs.Trees.{Mark, of_instance, of_host, of_boundary, of_catcher, plain, Node, node, Forest, none, vacant, child, mark_of, elements_in, host_number, is_host, children_if, fallback_if}
use Rattle.rx_elem.specs.Spots.{container}
use Rattle.rx_elem.specs.Compare.{Past, no_past, pasts, node_at, changes, compare_trees}
use Rattle.rx_forest.specs.Hosts.{Content, content_of, hosts, has_host}
use Rattle.rx_forest.specs.HostOps.{placed_hosts}
use Rattle.host_laws.specs.Related.{AreDistinct, GoneBelow, KeepKinds}

-- the numbers of the hosts at the top of a tree: those below which it has no other
abbrev mutual
  pub front : Node → List ℕ
  front (node e m ns fs) = (if is_host m then option_to_list (host_number m) else front_in ns) ++ front_in fs

  -- the numbers of the hosts at the top of the trees of a list
  pub front_in : Forest → List ℕ
  front_in none = []
  front_in (vacant ns) = front_in ns
  front_in (child n ns) = front n ++ front_in ns

-- the hosts at the top of a tree that may be missing
abbrev pub front_if : Option Node → List ℕ
front_if None = []
front_if (Some n) = front n

-- a host that was there keeps its number and stays; a new host's number isn't taken
abbrev pub WasHost : (stays taken : ℕ → Bool) → (number : ℕ) → (old : Option Node) → Type 0
WasHost k w n None = w n ≡ false
WasHost k w n (Some o) = (is_host (mark_of o) ≡ true) × (host_number (mark_of o) ≡ Some n) × (k n ≡ true)

-- a node that may be missing is no host
abbrev pub WasNone : (old : Option Node) → Type 0
WasNone None = Unit {0}
WasNone (Some o) = is_host (mark_of o) ≡ false

-- an old child that is no new child has none of the hosts that stay at its top
abbrev pub FairGone : (stays : ℕ → Bool) → (old : Forest) → (new : List Element) → Type 0
FairGone k old new = (p : ℕ) → is_reused (old_places (elements_in old) new) p ≡ false → filter k (front_if (node_at old p)) ≡ []

-- what a host was, and what another node was
abbrev pub RenderedHost : (stays taken : ℕ → Bool) → (number : Option ℕ) → (old : Option Node) → (is_host : Bool) → Type 0
RenderedHost k w number old true = (n : ℕ) × (number ≡ Some n) × WasHost k w n old
RenderedHost k w number old false = WasNone old

-- the past of the first child
abbrev pub first_past : List Past → Past
first_past [] = no_past
first_past (p ∷ ps) = p

-- the pasts of the other children
abbrev pub rest_pasts : List Past → List Past
rest_pasts [] = []
rest_pasts (p ∷ ps) = ps

-- a new tree was rendered against an old one and got its numbers, given which hosts stay and which numbers are taken
abbrev mutual
  pub Rendered : (stays taken : ℕ → Bool) → Past → Node → Type 0
  Rendered k w p (node e m ns fs) =
      RenderedHost k w (host_number m) p.old (is_host m)
      × FairGone k (children_if p.old) (elements_in ns)
      × FairGone k (fallback_if p.old) (elements_in fs)
      × Rendered_in k w (pasts (children_if p.old) (elements_in ns)) ns
      × Rendered_in k w (pasts (fallback_if p.old) (elements_in fs)) fs

  -- the trees of a list were, each with its past
  pub Rendered_in : (stays taken : ℕ → Bool) → List Past → Forest → Type 0
  Rendered_in k w ps none = Unit {0}
  Rendered_in k w ps (vacant ns) = Rendered_in k w (rest_pasts ps) ns
  Rendered_in k w ps (child n ns) = Rendered k w (first_past ps) n × Rendered_in k w (rest_pasts ps) ns

-- a host has a number, and is one by its element
abbrev pub HasNumber : Element → Mark → Type 0
HasNumber e (of_host (Some n)) = (c : Content) × (content_of e ≡ Some c)
HasNumber e (of_host None) = ⊥
HasNumber e (of_instance i) = Unit {0}
HasNumber e (of_boundary b) = Unit {0}
HasNumber e (of_catcher c) = Unit {0}
HasNumber e plain = Unit {0}

-- each host of a tree has a number
abbrev mutual
  pub AreNumbered : Node → Type 0
  AreNumbered (node e m ns fs) = HasNumber e m × AreNumbered_in ns × AreNumbered_in fs

  -- each host of the trees of a list has one
  pub AreNumbered_in : Forest → Type 0
  AreNumbered_in none = Unit {0}
  AreNumbered_in (vacant ns) = AreNumbered_in ns
  AreNumbered_in (child n ns) = AreNumbered n × AreNumbered_in ns

-- each host of the tree has a number, no two the same, and none that of the container
pub record IsSound (n : Node) : Type 0 where
  pub numbered : AreNumbered n
  pub distinct : AreDistinct (hosts (Some n))
  pub above : has_host (hosts (Some n)) container ≡ false

-- a tree is sound, or there is none
abbrev pub IfSound : Option Node → Type 0
IfSound None = Unit {0}
IfSound (Some n) = IsSound n

-- a text has no children
abbrev pub HasNone : Element → Forest → Type 0
HasNone elements.null ns = Unit {0}
HasNone (elements.text t) ns = ns ≡ none
HasNone (elements.host n k attrs es) ns = Unit {0}
HasNone (elements.comp c k ps es) ns = Unit {0}
HasNone (elements.list marked es) ns = Unit {0}
HasNone (elements.boundary k f es) ns = Unit {0}
HasNone (elements.catcher k f es) ns = Unit {0}
HasNone (elements.provider c k x es) ns = Unit {0}

-- no text of a tree has children
abbrev mutual
  pub TextsAreLeaves : Node → Type 0
  TextsAreLeaves (node e m ns fs) = HasNone e ns × TextsAreLeaves_in ns × TextsAreLeaves_in fs

  -- no text of the trees of a list has any
  pub TextsAreLeaves_in : Forest → Type 0
  TextsAreLeaves_in none = Unit {0}
  TextsAreLeaves_in (vacant ns) = TextsAreLeaves_in ns
  TextsAreLeaves_in (child n ns) = TextsAreLeaves n × TextsAreLeaves_in ns

-- the hosts that a commit places
abbrev pub placed_by : (old : Option Node) → (new : Node) → List ℕ
placed_by old new = placed_hosts (changes (compare_trees old new))

-- the past of the root
abbrev pub from_root : (old : Option Node) → Past
from_root old = record { old = old; moved = false }

-- a number is that of the container, or of an old host
abbrev pub is_taken : (old : Option Node) → ℕ → Bool
is_taken old n = nat_eq container n || has_host (hosts old) n

-- the new tree was rendered against the old one and got its numbers
abbrev pub IsRendered : (old : Option Node) → (new : Node) → Type 0
IsRendered old new = Rendered (has_host (hosts (Some new))) (is_taken old) (from_root old) new

-- Two trees, as a commit relates them: hosts have numbers of their own, those that are reused keep theirs, and what is gone is gone with all below it
pub record IsCommit (old : Option Node) (new : Node) : Type 0 where
  pub old_sound : IfSound old
  pub new_sound : IsSound new
  pub rendered : IsRendered old new
  pub gone_below : GoneBelow (hosts old) (hosts (Some new))
  pub kinds : KeepKinds (hosts old) (hosts (Some new))
