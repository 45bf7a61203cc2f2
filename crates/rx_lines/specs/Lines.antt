-- The lines of a report, and their bytes.
use Rattle.std.specs.Prelude.{ℕ, ◌+◌, ◌*◌, Bool, true, false, ◌&&◌, List, [], ◌∷◌, ◌++◌, ℤ, Option, Some, None, map, flat_map, find, option_map, unwrap_or, nat_eq, replicate, codes, decimal, if◌then◌else◌}
use Rattle.std.specs.Fmt.{signed_decimal}
use Rattle.rx_base.specs.Values.{Text, Name, in_quotes}
use Rattle.rx_lane.specs.declared.lane.Lane.{Lane}
use Rattle.rx_lane.specs.declared.lane.Lane.TheVariants.{Sync, Input, Default, T1, T2, T3, T4, T5, T6, T7, T8, T9, T10, T11, T12, T13, T14, T15, T16, Retry}
use Rattle.rx_lane.specs.Lanes.{Lanes, is_empty}
use Rattle.rx_elem.specs.declared.attr.AttrValue.{AttrValue}
use Rattle.rx_elem.specs.declared.attr.AttrValue.TheVariants as attr_value
use Rattle.rx_elem.specs.Trees.{Node}
use Rattle.rx_effect.specs.declared.log.LogLine.{LogLine}
use Rattle.rx_forest.specs.Hosts.{Host, Content, tag, letters}
use Rattle.rx_forest.specs.declared.op.HostOp.{HostOp}
use Rattle.rx_forest.specs.declared.op.HostOp.TheVariants as op

-- how many units a render took, and how many bodies it evaluated
pub record Counts : Type 0 where
  pub units : ℕ
  pub bodies : ℕ

-- the value of a hook, by the hook's name
pub record HookValue : Type 0 where
  pub name : Name
  pub value : ℤ

-- one line of a report
pub data Line : Type 0 where
  -- a commit, with its number, its lanes and its counts; the tree that it commits shows in no text
  committed : (number : ℕ) → Lanes → Counts → (tree : Node) → Line
  -- an operation on the tree of hosts
  operated : HostOp → Line
  -- a value that an error boundary caught
  caught : (value : ℤ) → Line
  -- an effect that was created or destroyed
  logged : LogLine → Line
  -- a deferred render, with its lanes and its counts
  deferred : Lanes → Counts → Line
  -- a dispatch whose path leads to no instance
  no_instance : List (Name × ℕ) → Line
  -- a resource that has a value already, with the value
  already : Name → ℤ → Line
  -- the head of the lines of all instances
  state_head : Line
  -- an instance with its number, its component's name and its hooks
  state_of : (instance : ℕ) → Name → List HookValue → (hidden : Bool) → Line
  -- the head of the lines of all hosts
  tree_head : Line
  -- a host on its level
  tree_host : (level : ℕ) → Host → Line
  -- the end, if no lane is pending and no boundary hidden
  end_quiet : Line
  -- the end, with the lanes that are pending and the number of hidden boundaries
  end_pending : Lanes → (hidden : ℕ) → Line

-- what a report shows beside its other lines: counts, and operations
pub record Options : Type 0 where
  pub counts : Bool
  pub ops : Bool

-- pieces of text with something between them
abbrev pub joined : Text → List Text → Text
joined between [] = []
joined between (t ∷ []) = t
joined between (t ∷ u ∷ us) = t ++ between ++ joined between (u ∷ us)

-- the name of a lane
abbrev pub lane_name : Lane → Text
lane_name Sync = codes "Sync"
lane_name Input = codes "Input"
lane_name Default = codes "Default"
lane_name T1 = codes "T1"
lane_name T2 = codes "T2"
lane_name T3 = codes "T3"
lane_name T4 = codes "T4"
lane_name T5 = codes "T5"
lane_name T6 = codes "T6"
lane_name T7 = codes "T7"
lane_name T8 = codes "T8"
lane_name T9 = codes "T9"
lane_name T10 = codes "T10"
lane_name T11 = codes "T11"
lane_name T12 = codes "T12"
lane_name T13 = codes "T13"
lane_name T14 = codes "T14"
lane_name T15 = codes "T15"
lane_name T16 = codes "T16"
lane_name Retry = codes "Retry"

-- the names of lanes
abbrev pub lanes_text : Lanes → Text
lanes_text [] = codes "none"
lanes_text (l ∷ ls) = joined (codes "+") (map lane_name (l ∷ ls))

-- a part of a path; the number is left out if it is 0
abbrev pub part_text : Name × ℕ → Text
part_text p = p.0 ++ (if nat_eq p.1 0 then [] else codes "@" ++ decimal p.1)

-- counts, if they are asked for
abbrev pub counts_text : (shown : Bool) → Counts → Text
counts_text true c = codes " units " ++ decimal c.units ++ codes " bodies " ++ decimal c.bodies
counts_text false c = []

-- an instance, by its number
abbrev pub instance_text : ℕ → Text
instance_text n = codes "[" ++ decimal n ++ codes "]"

-- a hook with its value
abbrev pub hook_text : HookValue → Text
hook_text h = codes " " ++ h.name ++ codes "=" ++ signed_decimal h.value

-- a word for what is hidden
abbrev pub hidden_text : Bool → Text
hidden_text true = codes " hidden"
hidden_text false = []

-- a host, by its number
abbrev pub host_text : ℕ → Text
host_text n = codes "#" ++ decimal n

-- where a host is placed among its siblings
abbrev pub before_text : Option ℕ → Text
before_text None = codes "at end"
before_text (Some n) = codes "before " ++ host_text n

-- the value of an attribute
abbrev pub value_text : AttrValue → Text
value_text (attr_value.Number x) = signed_decimal x
value_text (attr_value.Text t) = in_quotes t

-- what a host is
abbrev pub content_text : Content → Text
content_text (tag name attrs) = name ++ flat_map (λ a. codes " " ++ a.name ++ codes "=" ++ value_text a.value) attrs
content_text (letters t) = in_quotes t

-- an operation
abbrev pub op_text : HostOp → Text
op_text (op.Remove n) = codes "remove " ++ host_text n
op_text (op.Create n name) = codes "create " ++ host_text n ++ codes " " ++ name
op_text (op.CreateText n t) = codes "text " ++ host_text n ++ codes " " ++ in_quotes t
op_text (op.Place n parent before) = codes "place " ++ host_text n ++ codes " under " ++ host_text parent ++ codes " " ++ before_text before
op_text (op.UnsetAttr n name) = codes "unattr " ++ host_text n ++ codes " " ++ name
op_text (op.SetAttr n name v) = codes "attr " ++ host_text n ++ codes " " ++ name ++ codes " " ++ value_text v
op_text (op.SetText n t) = codes "settext " ++ host_text n ++ codes " " ++ in_quotes t
op_text (op.Hide n) = codes "hide " ++ host_text n
op_text (op.Show n) = codes "show " ++ host_text n

-- the kind of an effect
abbrev pub phase_text : (passive : Bool) → Text
phase_text true = codes "passive "
phase_text false = codes "layout "

-- a sign for a creation or a destruction
abbrev pub change_text : (created : Bool) → Text
change_text true = codes "+ "
change_text false = codes "- "

-- an effect that was created or destroyed
abbrev pub log_text : LogLine → Text
log_text l =
    phase_text l.passive ++ change_text l.created ++ instance_text l.instance ++ codes " " ++ in_quotes l.label
    ++ flat_map (λ x. codes " " ++ signed_decimal x) l.values

-- a line without its end, with counts or without
abbrev pub line_text : (counts : Bool) → Line → Text
line_text counts (committed k lanes c tree) = codes "commit " ++ decimal k ++ codes " " ++ lanes_text lanes ++ counts_text counts c
line_text counts (operated o) = codes "op " ++ op_text o
line_text counts (caught x) = codes "caught " ++ signed_decimal x
line_text counts (logged l) = log_text l
line_text counts (deferred lanes c) = codes "defer " ++ lanes_text lanes ++ counts_text counts c
line_text counts (no_instance path) = codes "no-instance " ++ joined (codes "/") (map part_text path)
line_text counts (already name x) = codes "already " ++ name ++ codes " " ++ signed_decimal x
line_text counts state_head = codes "state"
line_text counts (state_of i name values hidden) =
    codes "  " ++ instance_text i ++ codes " " ++ name ++ flat_map hook_text values ++ hidden_text hidden
line_text counts tree_head = codes "tree"
line_text counts (tree_host level h) = replicate (2 * level) 32 ++ content_text h.content ++ hidden_text h.hidden
line_text counts end_quiet = codes "end quiet"
line_text counts (end_pending lanes n) = codes "end pending " ++ lanes_text lanes ++ codes " suspended " ++ decimal n

-- the last line of a report
abbrev pub last_line : (pending : Lanes) → (hidden : ℕ) → Line
last_line lanes n = if is_empty lanes && nat_eq n 0 then end_quiet else end_pending lanes n

-- a line is printed: operations if they are asked for, each other line always
abbrev pub is_printed : (ops : Bool) → Line → Bool
is_printed ops (committed k lanes c tree) = true
is_printed ops (operated o) = ops
is_printed ops (caught x) = true
is_printed ops (logged l) = true
is_printed ops (deferred lanes c) = true
is_printed ops (no_instance path) = true
is_printed ops (already name x) = true
is_printed ops state_head = true
is_printed ops (state_of i name values hidden) = true
is_printed ops tree_head = true
is_printed ops (tree_host level h) = true
is_printed ops end_quiet = true
is_printed ops (end_pending lanes n) = true

-- the bytes of a line with its end, if it is printed
abbrev pub line_bytes : Options → Line → Text
line_bytes o l = if is_printed o.ops l then line_text o.counts l ++ 10 ∷ [] else []

-- the bytes of a report
unfoldable pub report_bytes : Options → List Line → Text
report_bytes o = flat_map (line_bytes o)

-- a report as it stands: what it shows, and its bytes
pub record Written : Type 0 where
  pub options : Options
  pub bytes : Text

-- a report with one line more, if that line is printed
abbrev pub with_line : Written → Line → Written
with_line r l = record { options = r.options; bytes = r.bytes ++ line_bytes r.options l }

-- the level of the host with this number; the container's is 0
abbrev pub level_in : (known : List (ℕ × ℕ)) → ℕ → ℕ
level_in known n = unwrap_or (option_map (λ x. x.1) (find (λ x. nat_eq x.0 n) known)) 0

-- the lines of hosts, each one level below its parent, which comes before it
abbrev pub host_lines : (known : List (ℕ × ℕ)) → List Host → List Line
host_lines known [] = []
host_lines known (h ∷ hs) =
    let level = level_in known h.parent + 1 in tree_host level h ∷ host_lines ((h.number, level) ∷ known) hs

-- the lines that show the tree of hosts
abbrev pub tree_lines : List Host → List Line
tree_lines hs = tree_head ∷ host_lines [] hs
