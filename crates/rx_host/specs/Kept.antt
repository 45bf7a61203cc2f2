-- How a tree of hosts is kept, and the forest that it stands for.
use Rattle.std.specs.Prelude.{◌≡◌, ℕ, Bool, cond, List, [], ◌∷◌, Option, Some, None, option_map, option_and_then, nat_eq, length, if◌then◌else◌}
use Rattle.std.specs.Map.{lookup}
use Rattle.rx_elem.specs.declared.attr.Attr.{Attr}
use Rattle.rx_elem.specs.Spots.{container}
use Rattle.rx_host.specs.declared.entry.HostEntry.{HostEntry}
use Rattle.rx_host.specs.declared.entry.HostView.{HostView}
use Rattle.rx_host.specs.declared.entry.HostKind.{HostKind}
use Rattle.rx_host.specs.declared.entry.HostKind.TheVariants as kind
use Rattle.rx_forest.specs.declared.op.HostOp.{HostOp}
use Rattle.rx_forest.specs.declared.op.HostOp.TheVariants as op
use Rattle.rx_forest.specs.Forests.{Body, tag, letters, Held, HostForest, value_named}
use Rattle.rx_host.specs.Links.{Links, IsLinked, linked_children}

-- A tree as it is kept: hosts under their numbers, the container's first and last child, and room for how many more hosts and attributes
pub record Kept : Type 0 where
  pub entries : List (ℕ × HostEntry)
  pub first : Option ℕ
  pub last : Option ℕ
  pub spare : ℕ

-- the host of a number
abbrev pub entry_of : List (ℕ × HostEntry) → ℕ → Option HostEntry
entry_of es n = lookup (nat_eq n) es

-- what a host of this kind and with these attributes is
abbrev pub body_as : HostKind → List Attr → Body
body_as (kind.Element name) attrs = tag name (value_named attrs)
body_as (kind.Text t) attrs = letters t

-- what is held of a host
abbrev pub held_as : HostView → Held
held_as v = record { body = body_as v.kind v.attrs; hidden = v.hidden }

-- what is held under each number
abbrev pub held_in : (ℕ → Option HostEntry) → ℕ → Option Held
held_in entry n = option_map (λ e. held_as e.view) (entry n)

-- the links of hosts, and of the container to its first and last child
abbrev pub links_of : (ℕ → Option HostEntry) → (first last : Option ℕ) → Links
links_of entry first last =
    record {
      parent = λ n. option_and_then (λ e. e.parent) (entry n);
      before = λ n. option_and_then (λ e. e.before) (entry n);
      after = λ n. option_and_then (λ e. e.after) (entry n);
      first = λ p. if nat_eq p container then first else option_and_then (λ e. e.first) (entry p);
      last = λ p. if nat_eq p container then last else option_and_then (λ e. e.last) (entry p);
    }

-- the links of a tree
abbrev pub links_kept : Kept → Links
links_kept t = links_of (entry_of t.entries) t.first t.last

-- the children of each number
abbrev pub children_kept : Kept → ℕ → List ℕ
children_kept t = linked_children (links_kept t) (length t.entries)

-- the forest that a tree stands for
abbrev pub forest_kept : Kept → HostForest
forest_kept t = record { held = held_in (entry_of t.entries); children = children_kept t }

-- no host
abbrev pub no_hosts : HostForest
no_hosts = record { held = λ n. None; children = λ p. [] }

-- what holds of each tree: its links are those of the children that they lead through, and the container is no host
pub record IsSound (t : Kept) : Type 0 where
  pub linked : IsLinked (links_kept t) (children_kept t)
  pub outside : entry_of t.entries container ≡ None

-- the operation that makes a host of this kind
abbrev pub making : ℕ → HostKind → HostOp
making n (kind.Element name) = op.Create n name
making n (kind.Text t) = op.CreateText n t

-- the operation that gives a host its mark, or takes it away
abbrev pub marking : ℕ → (hidden : Bool) → HostOp
marking n hidden = cond hidden (op.Hide n) (op.Show n)

-- the first of a list
abbrev pub first_of : List ℕ → Option ℕ
first_of [] = None
first_of (n ∷ ns) = Some n
