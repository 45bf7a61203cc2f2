-- The operations that make the tree of hosts of a new tree out of that of the old one.
use Rattle.std.specs.Prelude.{ℕ, Bool, true, false, not, ◌&&◌, List, [], ◌∷◌, ◌++◌, Option, Some, None, filter, filter_map, flat_map, map, find, is_none, option_map, nat_eq, bytes_eq, if◌then◌else◌}
use Rattle.std.specs.List.{list_any}
use Rattle.std.specs.Option.{option_map_or}
use Rattle.rx_base.specs.Values.{Name}
use Rattle.rx_elem.specs.Elements.{same_value}
use Rattle.rx_elem.specs.declared.attr.Attr.{Attr}
use Rattle.rx_elem.specs.Trees.{Node, mark_of, host_number}
use Rattle.rx_elem.specs.Compare.{Change, changes, compare_trees}
use Rattle.rx_forest.specs.declared.op.HostOp.{HostOp}
use Rattle.rx_forest.specs.declared.op.HostOp.TheVariants as op
use Rattle.rx_forest.specs.Hosts.{Content, tag, letters, Host, hosts, host_numbered, has_host}

-- a host is gone
abbrev pub is_gone : (new : List Host) → Host → Bool
is_gone new h = not (has_host new h.number)

-- a host is gone together with its parent
abbrev pub goes_with_parent : (old new : List Host) → Host → Bool
goes_with_parent old new h = has_host old h.parent && not (has_host new h.parent)

-- the removals: each old host that is gone and whose parent isn't
abbrev pub removals : (old new : List Host) → List HostOp
removals old new = map (λ h. op.Remove h.number) (filter (λ h. is_gone new h && not (goes_with_parent old new h)) old)

-- the creation of a host with this number
abbrev pub creation : ℕ → Content → HostOp
creation n (tag name attrs) = op.Create n name
creation n (letters t) = op.CreateText n t

-- the creations: each new host
abbrev pub creations : (old new : List Host) → List HostOp
creations old new = map (λ h. creation h.number h.content) (filter (λ h. not (has_host old h.number)) new)

-- the host of a change, if a node from it up to its host parent is new or moved
abbrev pub placed_in : Change → Option ℕ
placed_in c = if c.displaced then host_number (mark_of c.new) else None

-- the hosts that are placed
abbrev pub placed_hosts : List Change → List ℕ
placed_hosts cs = filter_map placed_in cs

-- a host is placed
abbrev pub is_placed : List ℕ → ℕ → Bool
is_placed placed n = list_any (nat_eq n) placed

-- the next later sibling that isn't placed
abbrev pub next_standing : List ℕ → (parent : ℕ) → (later : List Host) → Option ℕ
next_standing placed parent later =
    option_map (λ h. h.number) (find (λ h. nat_eq h.parent parent && not (is_placed placed h.number)) later)

-- the placements: each placed host, before the next later sibling that isn't placed
abbrev pub placements : List ℕ → (new : List Host) → List HostOp
placements placed [] = []
placements placed (h ∷ hs) =
    if is_placed placed h.number then op.Place h.number h.parent (next_standing placed h.parent hs) ∷ placements placed hs
    else placements placed hs

-- the attribute of a name
abbrev pub attr_named : List Attr → Name → Option Attr
attr_named attrs name = find (λ a. bytes_eq a.name name) attrs

-- an attribute is among these with the same value
abbrev pub has_attr : List Attr → Attr → Bool
has_attr attrs a = option_map_or (λ b. same_value a.value b.value) (attr_named attrs a.name) false

-- the changes of attributes: those that go, then those that are new or have another value
abbrev pub attr_ops : (host : ℕ) → (old new : List Attr) → List HostOp
attr_ops n old new =
    map (λ a. op.UnsetAttr n a.name) (filter (λ a. is_none (attr_named new a.name)) old)
    ++ map (λ a. op.SetAttr n a.name a.value) (filter (λ a. not (has_attr old a)) new)

-- the content with which a host is made: its name or its text, and no attributes
abbrev pub bare : Content → Content
bare (tag name attrs) = tag name []
bare (letters t) = letters t

-- the changes of a host's content; a host never becomes a text, nor a text a host
abbrev pub content_ops : (host : ℕ) → (old new : Content) → List HostOp
content_ops n (tag m old) (tag name new) = attr_ops n old new
content_ops n (letters s) (letters t) = if bytes_eq s t then [] else op.SetText n t ∷ []
content_ops n (tag m old) (letters t) = []
content_ops n (letters s) (tag name new) = []

-- the changes of content: of each host beside the old one, or beside what it is made with
abbrev pub contents : (old new : List Host) → List HostOp
contents old new =
    flat_map (λ h. content_ops h.number (option_map_or (λ g. g.content) (host_numbered old h.number) (bare h.content)) h.content) new

-- the change of a host's mark
abbrev pub hiding_ops : (host : ℕ) → (was_hidden hidden : Bool) → List HostOp
hiding_ops n false true = op.Hide n ∷ []
hiding_ops n true false = op.Show n ∷ []
hiding_ops n false false = []
hiding_ops n true true = []

-- the changes of marks: of each host beside the old one; a new host begins without a mark
abbrev pub hidings : (old new : List Host) → List HostOp
hidings old new =
    flat_map (λ h. hiding_ops h.number (option_map_or (λ g. g.hidden) (host_numbered old h.number) false) h.hidden) new

-- the operations from one tree of hosts to another, if these hosts are placed
abbrev pub ops_between : (old new : List Host) → (placed : List ℕ) → List HostOp
ops_between old new placed = removals old new ++ creations old new ++ placements placed new ++ contents old new ++ hidings old new

-- the operations of a commit
unfoldable pub host_ops : (old : Option Node) → (new : Node) → List HostOp
host_ops old new = ops_between (hosts old) (hosts (Some new)) (placed_hosts (changes (compare_trees old new)))
