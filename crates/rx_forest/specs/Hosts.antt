-- The tree of hosts: what is shown.
use Rattle.std.specs.Prelude.{ℕ, Bool, List, [], ◌∷◌, Option, Some, None, filter_map, find, nat_eq, option_map, option_and_then}
use Rattle.std.specs.List.{list_any}
use Rattle.std.specs.Ordering.{nat_cmp, match_ordering}
use Rattle.std.specs.Cmp.Lexicographic.{slice_cmp}
use Rattle.rx_base.specs.Values.{Text, Name}
use Rattle.rx_elem.specs.Elements.{Element}
use Rattle.rx_elem.specs.declared.attr.Attr.{Attr}
use Rattle.rx_elem.specs.Elements as elements
use Rattle.rx_elem.specs.Trees.{Node, element_of, host_number}
use Rattle.rx_elem.specs.Spots.{Around, Spot, tree_spots, spot_mark}

-- what a host is: an element with its attributes by name, or a text
pub data Content : Type 0 where
  tag : Name → List Attr → Content
  letters : Text → Content

-- A host with its number, the nearest host above, and whether it is hidden there. The tree of hosts is the list of them in tree order.
pub record Host : Type 0 where
  pub number : ℕ
  pub parent : ℕ
  pub hidden : Bool
  pub content : Content

-- an attribute in its place among others that are in order
abbrev pub with_attr : Attr → List Attr → List Attr
with_attr a [] = a ∷ []
with_attr a (b ∷ bs) = match_ordering (slice_cmp nat_cmp a.name b.name) (a ∷ b ∷ bs) (a ∷ b ∷ bs) (b ∷ with_attr a bs)

-- attributes in the order of their names
abbrev pub by_name : List Attr → List Attr
by_name [] = []
by_name (a ∷ attrs) = with_attr a (by_name attrs)

-- what a host is, by its element; the other elements are no hosts
abbrev pub content_of : Element → Option Content
content_of elements.null = None
content_of (elements.text t) = Some (letters t)
content_of (elements.host n k attrs es) = Some (tag n (by_name attrs))
content_of (elements.comp c k ps es) = None
content_of (elements.list marked es) = None
content_of (elements.boundary k f es) = None
content_of (elements.catcher k f es) = None
content_of (elements.provider c k x es) = None

-- a host of this number and content, by what surrounds it
abbrev pub host_as : Around → (number : ℕ) → Content → Host
host_as a n content = record { number = n; parent = a.host; hidden = a.concealed; content = content }

-- the host at a spot, if it is one of a host with a number, as each of a committed tree has
abbrev pub host_at : Spot → Option Host
host_at s = option_and_then (λ n. option_map (host_as s.around n) (content_of (element_of s.at))) (host_number (spot_mark s))

-- the tree of hosts of a committed tree
abbrev pub hosts : Option Node → List Host
hosts tree = filter_map host_at (tree_spots tree)

-- the host of a number
abbrev pub host_numbered : List Host → ℕ → Option Host
host_numbered hs n = find (λ h. nat_eq h.number n) hs

-- a host is there
abbrev pub has_host : List Host → ℕ → Bool
has_host hs n = list_any (λ h. nat_eq h.number n) hs
