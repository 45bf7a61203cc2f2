-- What is rendered of a tree, by what it read: the contexts of its place, and the resources in some versions.
use Rattle.std.specs.Prelude.{◌≡◌, ℕ, Bool, false}
use Rattle.rx_elem.specs.Trees.{Forest, Mark, Node, child, is_hidden, node, none, of_boundary, of_catcher, of_host, of_instance, plain, vacant}
use Rattle.rx_meaning.specs.Fresh.{Contexts}
use Rattle.rx_meaning.specs.Settled.{IfHidden, read_anew, refreshed}
use Rattle.rx_meaning.specs.Touched.{contexts_below}

-- an instance read another value than one of these contexts has
abbrev pub reads_another_value : Contexts → Mark → Bool
reads_another_value cs (of_instance i) = read_anew cs i.reads
reads_another_value cs (of_host h) = false
reads_another_value cs (of_boundary b) = false
reads_another_value cs (of_catcher c) = false
reads_another_value cs plain = false

-- an instance read a resource in another version than this
abbrev pub reads_another_version : (version : ℕ → ℕ) → Mark → Bool
reads_another_version version (of_instance i) = refreshed version i.versions
reads_another_version version (of_host h) = false
reads_another_version version (of_boundary b) = false
reads_another_version version (of_catcher c) = false
reads_another_version version plain = false

-- what is rendered of a tree read the contexts of its place
abbrev mutual
  pub ContextsHold : Contexts → Node → Type 0
  ContextsHold cs (node e m ns fs) =
      (reads_another_value cs m ≡ false) × IfHidden (is_hidden m) (Unit {0}) (AllContextsHold (contexts_below e cs) ns) × AllContextsHold cs fs

  -- the same for the trees of a list
  pub AllContextsHold : Contexts → Forest → Type 0
  AllContextsHold cs none = Unit {0}
  AllContextsHold cs (vacant ns) = AllContextsHold cs ns
  AllContextsHold cs (child n ns) = ContextsHold cs n × AllContextsHold cs ns

-- what is rendered of a tree read the resources in these versions
abbrev mutual
  pub VersionsHold : (version : ℕ → ℕ) → Node → Type 0
  VersionsHold version (node e m ns fs) =
      (reads_another_version version m ≡ false) × IfHidden (is_hidden m) (Unit {0}) (AllVersionsHold version ns) × AllVersionsHold version fs

  -- the same for the trees of a list
  pub AllVersionsHold : (version : ℕ → ℕ) → Forest → Type 0
  AllVersionsHold version none = Unit {0}
  AllVersionsHold version (vacant ns) = AllVersionsHold version ns
  AllVersionsHold version (child n ns) = VersionsHold version n × AllVersionsHold version ns
