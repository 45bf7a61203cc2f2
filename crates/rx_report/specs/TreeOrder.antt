-- Lists of hosts in tree order.
use Rattle.std.specs.Prelude.{◌≡◌, ℕ, false, List, [], ◌∷◌, ◌++◌}
use Rattle.std.specs.List.{AllByRecursion}
use Rattle.rx_elem.specs.Spots.{container}
use Rattle.rx_forest.specs.Hosts.{Host, Content, tag, letters, has_host}
use Rattle.rx_host.specs.Attrs.{AreByName}
use Rattle.host_laws.specs.Related.{AreDistinct}

-- Hosts stand below a number in tree order: there is none, or the first is its child, behind it comes what stands below that child, and then come the later children with what stands below them.
pub data StandBelow : (parent : ℕ) → List Host → Type 0 where
  nothing : {p : ℕ} → StandBelow p []
  child : {p : ℕ} {below later : List Host} (h : Host) → h.parent ≡ p → StandBelow h.number below → StandBelow p later → StandBelow p (h ∷ below ++ later)

-- the attributes of an element stand in the order of their names
abbrev pub IsByName : Content → Type 0
IsByName (tag name attrs) = AreByName attrs
IsByName (letters t) = Unit {0}

-- Hosts are in tree order: each is followed by what stands below it, before its next sibling. Their numbers are distinct, none is the container's, and the attributes of each stand in the order of their names.
pub record AreInTreeOrder (hs : List Host) : Type 0 where
  pub order : StandBelow container hs
  pub distinct : AreDistinct hs
  pub above : has_host hs container ≡ false
  pub by_name : AllByRecursion (λ h. IsByName h.content) hs
