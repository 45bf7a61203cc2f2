-- A forest of hosts, and what each operation makes of it.
use Rattle.std.specs.Prelude.{◌≡◌, ℕ, Bool, true, false, not, ◌&&◌, ◌||◌, List, [], ◌∷◌, ◌++◌, Option, Some, None, IsTrue, filter, is_some, map, option_map, nat_eq, bytes_eq, if◌then◌else◌}
use Rattle.std.specs.List.{list_any}
use Rattle.std.specs.Option.{option_map_or}
use Rattle.rx_base.specs.Values.{Text, Name}
use Rattle.rx_elem.specs.declared.attr.Attr.{Attr}
use Rattle.rx_elem.specs.declared.attr.AttrValue.{AttrValue}
use Rattle.rx_elem.specs.Spots.{container}
use Rattle.rx_forest.specs.declared.op.HostOp.{HostOp}
use Rattle.rx_forest.specs.declared.op.HostOp.TheVariants as op
use Rattle.rx_forest.specs.Hosts.{Host, Content, host_numbered}
use Rattle.rx_forest.specs.Hosts as hosts
use Rattle.rx_forest.specs.HostOps.{attr_named}

-- what a host is: an element with the value of each attribute, by its name, or a text
pub data Body : Type 0 where
  tag : Name → (Name → Option AttrValue) → Body
  letters : Text → Body

-- what is held of a host: what it is, and whether it is marked as hidden
pub record Held : Type 0 where
  pub body : Body
  pub hidden : Bool

-- A forest of hosts: what is held under each number, and the children of each number in order. The container has children and isn't held. A host that is nobody's child has no parent yet.
pub record HostForest : Type 0 where
  pub held : ℕ → Option Held
  pub children : ℕ → List ℕ

-- The forest of a list of hosts

-- the value of the attribute of a name
abbrev pub value_named : List Attr → Name → Option AttrValue
value_named attrs name = option_map (λ a. a.value) (attr_named attrs name)

-- what a host of this content is
abbrev pub body_of : Content → Body
body_of (hosts.tag name attrs) = tag name (value_named attrs)
body_of (hosts.letters t) = letters t

-- what is held of a host of a list
abbrev pub held_of : Host → Held
held_of h = record { body = body_of h.content; hidden = h.hidden }

-- the children of a number in a list of hosts
abbrev pub children_in : List Host → ℕ → List ℕ
children_in hs parent = map (λ h. h.number) (filter (λ h. nat_eq h.parent parent) hs)

-- the forest that a list of hosts in tree order stands for
abbrev pub forest_of : List Host → HostForest
forest_of hs = record { held = λ n. option_map held_of (host_numbered hs n); children = children_in hs }

-- What each operation does

-- what is held under a number changes
abbrev pub with_held : HostForest → (host : ℕ) → (Option Held → Option Held) → HostForest
with_held f n change = record f { held = λ m. if nat_eq m n then change (f.held m) else f.held m }

-- a new host, which isn't marked
abbrev pub new_host : Body → Option Held → Option Held
new_host b before = Some (record { body = b; hidden = false })

-- a host with another body
abbrev pub with_body : (Body → Body) → Held → Held
with_body change h = record h { body = change h.body }

-- a host whose mark is this
abbrev pub with_mark : Bool → Held → Held
with_mark hidden h = record h { hidden = hidden }

-- an element whose attribute of this name has this value, or is unset; a text has none
abbrev pub with_value : Name → Option AttrValue → Body → Body
with_value name v (tag n values) = tag n (λ a. if bytes_eq a name then v else values a)
with_value name v (letters t) = letters t

-- a text of these letters; an element stays
abbrev pub with_letters : Text → Body → Body
with_letters t (tag n values) = tag n values
with_letters t (letters s) = letters t

-- a host is made
abbrev pub created : HostForest → (host : ℕ) → Body → HostForest
created f n b = with_held f n (new_host b)

-- a host's attribute changes
abbrev pub valued : HostForest → (host : ℕ) → Name → Option AttrValue → HostForest
valued f n name v = with_held f n (option_map (with_body (with_value name v)))

-- a text changes
abbrev pub relettered : HostForest → (host : ℕ) → Text → HostForest
relettered f n t = with_held f n (option_map (with_body (with_letters t)))

-- a host's mark changes
abbrev pub marked : HostForest → (host : ℕ) → (hidden : Bool) → HostForest
marked f n hidden = with_held f n (option_map (with_mark hidden))

-- a list without a number
abbrev pub without : ℕ → List ℕ → List ℕ
without n ms = filter (λ m. not (nat_eq m n)) ms

-- a number before another one, or at the end if that isn't there
abbrev pub insert_before : ℕ → (before : ℕ) → List ℕ → List ℕ
insert_before n b [] = n ∷ []
insert_before n b (m ∷ ms) = if nat_eq m b then n ∷ m ∷ ms else m ∷ insert_before n b ms

-- a number before another one, if one is given, or at the end
abbrev pub inserted : ℕ → (before : Option ℕ) → List ℕ → List ℕ
inserted n None ms = ms ++ n ∷ []
inserted n (Some b) ms = insert_before n b ms

-- a host is taken out of where it was, and stands under a parent before one of its children, or at the end
abbrev pub placed : HostForest → (host parent : ℕ) → (before : Option ℕ) → HostForest
placed f n p before =
    record f { children = λ q. if nat_eq q p then inserted n before (without n (f.children q)) else without n (f.children q) }

-- a number is among these
abbrev pub is_among : List ℕ → ℕ → Bool
is_among ms n = list_any (nat_eq n) ms

-- a host is another one or below it
pub data IsUnder (f : HostForest) (n : ℕ) : ℕ → Type 0 where
  itself : IsUnder f n n
  below : {m k : ℕ} → IsUnder f n m → is_among (f.children m) k ≡ true → IsUnder f n k

-- a host and all below it are gone, and nothing else changed
pub record Removed (f : HostForest) (n : ℕ) (g : HostForest) : Type 0 where
  pub gone : (m : ℕ) → IsUnder f n m → (g.held m ≡ None) × (g.children m ≡ [])
  pub kept : (m : ℕ) → ¬ IsUnder f n m → (g.held m ≡ f.held m) × (g.children m ≡ without n (f.children m))

-- what an operation makes of a forest
abbrev pub Becomes : (old : HostForest) → HostOp → (new : HostForest) → Type 0
Becomes f (op.Remove n) g = Removed f n g
Becomes f (op.Create n name) g = g ≡ created f n (tag name (λ a. None))
Becomes f (op.CreateText n t) g = g ≡ created f n (letters t)
Becomes f (op.Place n p before) g = g ≡ placed f n p before
Becomes f (op.UnsetAttr n name) g = g ≡ valued f n name None
Becomes f (op.SetAttr n name v) g = g ≡ valued f n name (Some v)
Becomes f (op.SetText n t) g = g ≡ relettered f n t
Becomes f (op.Hide n) g = g ≡ marked f n true
Becomes f (op.Show n) g = g ≡ marked f n false

-- what operations make of a forest, one after another
abbrev pub Replays : (old : HostForest) → List HostOp → (new : HostForest) → Type 0
Replays f [] g = g ≡ f
Replays f (op ∷ ops) g = (h : HostForest) × Becomes f op h × Replays h ops g

-- When an operation can be made

-- a host is an element
abbrev pub is_tag : Body → Bool
is_tag (tag n values) = true
is_tag (letters t) = false

-- a host is held
abbrev pub is_held : HostForest → ℕ → Bool
is_held f n = is_some (f.held n)

-- a host is held and is an element
abbrev pub holds_tag : HostForest → ℕ → Bool
holds_tag f n = option_map_or (λ h. is_tag h.body) (f.held n) false

-- a host is held and is a text
abbrev pub holds_letters : HostForest → ℕ → Bool
holds_letters f n = option_map_or (λ h. not (is_tag h.body)) (f.held n) false

-- a number can be that of a new host
abbrev pub is_free : HostForest → ℕ → Bool
is_free f n = not (nat_eq n container) && not (is_held f n)

-- a number can have children: the container, and each element
abbrev pub can_be_parent : HostForest → ℕ → Bool
can_be_parent f p = nat_eq p container || holds_tag f p

-- a host can stand there: before another child of the parent, or at the end
abbrev pub can_stand : HostForest → (host parent : ℕ) → (before : Option ℕ) → Bool
can_stand f n p None = true
can_stand f n p (Some b) = not (nat_eq b n) && is_among (f.children p) b

-- an operation can be made
abbrev pub CanBeMade : HostForest → HostOp → Type 0
CanBeMade f (op.Remove n) = IsTrue (is_held f n)
CanBeMade f (op.Create n name) = IsTrue (is_free f n)
CanBeMade f (op.CreateText n t) = IsTrue (is_free f n)
CanBeMade f (op.Place n p before) =
    IsTrue (is_held f n) × IsTrue (can_be_parent f p) × IsTrue (can_stand f n p before) × ¬ IsUnder f n p
CanBeMade f (op.UnsetAttr n name) = IsTrue (holds_tag f n)
CanBeMade f (op.SetAttr n name v) = IsTrue (holds_tag f n)
CanBeMade f (op.SetText n t) = IsTrue (holds_letters f n)
CanBeMade f (op.Hide n) = IsTrue (is_held f n)
CanBeMade f (op.Show n) = IsTrue (is_held f n)

-- each operation in turn can be made
abbrev pub CanBeReplayed : HostForest → List HostOp → Type 0
CanBeReplayed f [] = Unit {0}
CanBeReplayed f (op ∷ ops) = CanBeMade f op × ((g : HostForest) → Becomes f op g → CanBeReplayed g ops)
