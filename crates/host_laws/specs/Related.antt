-- What the laws of moves and of host operations speak of.
use Rattle.std.specs.Prelude.{◌≡◌, ℕ, ◌<◌, Bool, true, false, not, ◌&&◌, ◌||◌, List, [], ◌∷◌, Option, Some, None, option_map, filter, nat_eq, slice_get, if◌then◌else◌}
use Rattle.std.specs.List.{AllByRecursion}
use Rattle.std.specs.Option.{option_map_or}
use Rattle.rx_elem.specs.declared.attr.Attr.{Attr}
use Rattle.rx_elem.specs.Spots.{container}
use Rattle.rx_forest.specs.Hosts.{Host, Content, host_numbered, has_host}
use Rattle.rx_forest.specs.Hosts as hosts
use Rattle.rx_forest.specs.HostOps.{is_placed, attr_named, bare}
use Rattle.rx_forest.specs.Forests.{HostForest, held_of, children_in}

-- Places of children

-- one of the earlier places is greater
abbrev pub IsPassed : (places : List (Option ℕ)) → (index place : ℕ) → Type 0
IsPassed places i p = (j q : ℕ) × (j < i) × (slice_get places j ≡ Some (Some q)) × (p < q)

-- no old child is two new children
abbrev pub AreApart : (places : List (Option ℕ)) → Type 0
AreApart places = (i j p : ℕ) → slice_get places i ≡ Some (Some p) → slice_get places j ≡ Some (Some p) → i ≡ j

-- Lists of hosts

-- no two hosts have one number
abbrev pub AreDistinct : List Host → Type 0
AreDistinct [] = Unit {0}
AreDistinct (h ∷ hs) = (has_host hs h.number ≡ false) × AreDistinct hs

-- each host's parent stands before it, or isn't in the list, as the container
abbrev pub ParentsFirst : List Host → Type 0
ParentsFirst [] = Unit {0}
ParentsFirst (h ∷ hs) = (has_host (h ∷ hs) h.parent ≡ false) × ParentsFirst hs

-- a host was there and is gone
abbrev pub has_gone : (old new : List Host) → ℕ → Bool
has_gone old new n = has_host old n && not (has_host new n)

-- what is below a host that is gone is gone
abbrev pub GoneBelow : (old new : List Host) → Type 0
GoneBelow old new = AllByRecursion (λ h. has_gone old new h.parent ≡ true → has_host new h.number ≡ false) old

-- the old forest without what is gone
abbrev pub rest_of : (old new : List Host) → HostForest
rest_of old new = record {
  held = λ n. if has_host new n then option_map held_of (host_numbered old n) else None;
  children = λ n. if has_gone old new n then [] else filter (has_host new) (children_in old n);
}

-- no two attributes have one name
abbrev pub HaveOwnNames : List Attr → Type 0
HaveOwnNames [] = Unit {0}
HaveOwnNames (a ∷ attrs) = (attr_named attrs a.name ≡ None) × HaveOwnNames attrs

-- two contents of one host: both elements of one name, or both texts
abbrev pub AreAlike : (old new : Content) → Type 0
AreAlike (hosts.tag m old) (hosts.tag name new) = (m ≡ name) × HaveOwnNames new
AreAlike (hosts.letters s) (hosts.letters t) = Unit {0}
AreAlike (hosts.tag m old) (hosts.letters t) = ⊥
AreAlike (hosts.letters s) (hosts.tag name new) = ⊥

-- the content that a host had, or what it is made with
abbrev pub old_content : Option Host → Host → Content
old_content old h = option_map_or (λ g. g.content) old (bare h.content)

-- each host that was there before is of the kind that it was
abbrev pub KeepKinds : (old new : List Host) → Type 0
KeepKinds old new = AllByRecursion (λ h. AreAlike (old_content (host_numbered old h.number) h) h.content) new

-- a content is that of an element
abbrev pub is_element : Content → Bool
is_element (hosts.tag name attrs) = true
is_element (hosts.letters t) = false

-- a number can have children in a list of hosts: the container, and each element
abbrev pub can_hold : List Host → ℕ → Bool
can_hold hs n = nat_eq n container || option_map_or (λ h. is_element h.content) (host_numbered hs n) false

-- each host's parent can have children
abbrev pub ParentsHold : List Host → Type 0
ParentsHold hs = AllByRecursion (λ h. can_hold hs h.parent ≡ true) hs

-- a host that isn't placed stands
abbrev pub stands : (placed : List ℕ) → ℕ → Bool
stands placed n = not (is_placed placed n)

-- Two lists of hosts, as a commit relates them: reused hosts keep their numbers and kinds, what is below a host that is gone is gone, and the children that stand keep their order
pub record AreRelated (old new : List Host) (placed : List ℕ) : Type 0 where
  pub distinct_old : AreDistinct old
  pub distinct_new : AreDistinct new
  pub parents_first : ParentsFirst old
  pub gone_below : GoneBelow old new
  pub kinds : KeepKinds old new
  pub order : (q : ℕ) → filter (stands placed) ((rest_of old new).children q) ≡ filter (stands placed) (children_in new q)
