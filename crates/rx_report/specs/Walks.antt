-- The walk of a forest of hosts: a host, then what stands below it, and then its next sibling.
use Rattle.std.specs.Prelude.{◌≡◌, ℕ, ◌+◌, List, [], ◌∷◌, ◌++◌, Option, Some, None}
use Rattle.rx_elem.specs.Spots.{container}
use Rattle.rx_forest.specs.Hosts.{Host}
use Rattle.rx_forest.specs.Forests.{HostForest, held_of}
use Rattle.rx_lines.specs.Lines.{Line, tree_host}
use Rattle.rx_report.specs.TreeOrder.{IsByName}

-- A walk below a parent lists each child on this level, then what is below it, one level deeper, and then the later children. With the hosts go their lines.
pub data Walk (f : HostForest) : (parent level : ℕ) → (children : List ℕ) → List Host → List Line → Type 0 where
  walked : {p level : ℕ} → Walk f p level [] [] []
  step : {p level n : ℕ} {ns : List ℕ} {below later : List Host} {deeper others : List Line} (h : Host)
      → h.number ≡ n → h.parent ≡ p → f.held n ≡ Some (held_of h) → IsByName h.content → Walk f n (level + 1) (f.children n) below deeper
      → Walk f p level ns later others → Walk f p level (n ∷ ns) (h ∷ below ++ later) (tree_host level h ∷ deeper ++ others)

-- What a walk lists behind a host and all below it, with these hosts above, the nearest first: its later siblings, and then what is behind the host above.
pub data Behind (f : HostForest) : (above : List ℕ) → (level host : ℕ) → List Host → List Line → Type 0 where
  outermost : {n : ℕ} {later : List Host} {others : List Line} (before after : List ℕ) → f.children container ≡ before ++ n ∷ after
      → Walk f container 1 after later others → Behind f [] 1 n later others
  inside : {p level n : ℕ} {above : List ℕ} {later outer : List Host} {others last : List Line} (before after : List ℕ) → f.children p ≡ before ++ n ∷ after
      → Walk f p (level + 1) after later others → Behind f above level p outer last → Behind f (p ∷ above) (level + 1) n (later ++ outer) (others ++ last)

-- What a walk has still to list, with these hosts above the one that comes next.
pub data ToGo (f : HostForest) : (above : List ℕ) → (next : Option ℕ) → List Host → List Line → Type 0 where
  over : ToGo f [] None [] []
  comes : {level n : ℕ} {above : List ℕ} {below later : List Host} {deeper others : List Line} (h : Host)
      → h.number ≡ n → f.held n ≡ Some (held_of h) → IsByName h.content → Walk f n (level + 1) (f.children n) below deeper
      → Behind f above level n later others → ToGo f above (Some n) (h ∷ below ++ later) (tree_host level h ∷ deeper ++ others)
