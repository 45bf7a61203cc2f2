-- How many bodies a render evaluates still from where it stands.
use Rattle.std.specs.Prelude.{◌≡◌, ℕ, zero, suc, ◌+◌, false, List, [], ◌∷◌, Option}
use Rattle.rx_elem.specs.Elements.{Element}
use Rattle.rx_elem.specs.Trees.{Node}
use Rattle.rx_meaning.specs.Counts.{count_part, if_throws, if_waits, try_all, unless_waits}
use Rattle.rx_meaning.specs.Cursor.{Open, around, trying, falling, guarding, Frame, Cursor, at_place, at_end, ended, finished}
use Rattle.rx_meaning.specs.Fresh.{Sight, Contexts, Renders, Place, made, Places, rendered, Shape, absent, waiting, throwing, one_list, two_lists, guarded, shape_of}
use Rattle.rx_meaning.specs.Rest.{from_open, list_from}
use Rattle.cost_laws.specs.Evaluated.{Evaluates, Flag, above_root, below_node, evaluated, once_caught, own_body, stood, whole_evaluated}
use Rattle.cost_laws.specs.Untouched.{is_untouched}

-- for each list that is open, innermost first, what is told of its places
abbrev pub Flags : Type 0
Flags = List Flag

-- what is told of those of the innermost list
abbrev pub flag : Flags → Flag
flag [] = above_root
flag (u ∷ us) = u

-- the flags of the lists around it
abbrev pub outer : Flags → Flags
outer [] = []
outer (u ∷ us) = us

-- what an open node evaluates once its list is done, waits or throws, by what is told of its own place: a boundary's fallback
abbrev pub evaluate_open : Evaluates → (Contexts → Renders) → Flag → Open → Places → ℕ
evaluate_open evaluate below u (around e m) ps = 0
evaluate_open evaluate below u (trying e old f) ps = if_waits ps (count_part (evaluate u) below f)
evaluate_open evaluate below u (falling e old a) ps = 0
evaluate_open evaluate below u (guarding e f) ps = if_throws ps (count_part (evaluate (once_caught u)) below f)

-- around a place that gave this
abbrev pub evaluate_around : ℕ → Sight → List Frame → Flags → Place → ℕ
evaluate_around levels s [] us p = 0
evaluate_around levels s (f ∷ fs) us p =
    unless_waits p (try_all (evaluated levels s (flag us) f.contexts) (rendered levels s f.contexts) f.rest)
    + (evaluate_open (evaluated levels s) (rendered levels s) (flag (outer us)) f.node (list_from (rendered levels s) f p)
    + evaluate_around (suc levels) s fs (outer us) (from_open (rendered levels s) f.node (list_from (rendered levels s) f p)))

-- from a cursor on; at the end of a list its own flag comes first still
unfoldable pub left_evaluated : Sight → Flags → Cursor → ℕ
left_evaluated s us (at_place levels fs cs e old) = evaluated levels s (flag us) cs e old + evaluate_around levels s fs us (rendered levels s cs e old)
left_evaluated s us (at_end levels fs o done) = evaluate_around levels s fs (outer us) (made (finished o done))
left_evaluated s us (ended p) = 0

-- Where the flags go

-- what a wait leaves of the flags: those from the fallback of the nearest boundary on that tries its children
abbrev pub unwound_by : Open → Flags → Flags → Flags
unwound_by (around e m) us out = out
unwound_by (trying e old f) us out = flag (outer us) ∷ outer us
unwound_by (falling e old a) us out = out
unwound_by (guarding e f) us out = out

-- the same for these open nodes
abbrev pub unwound : List Frame → Flags → Flags
unwound [] us = []
unwound (f ∷ fs) us = unwound_by f.node us (unwound fs (outer us))

-- what a throw leaves of the flags: those from the fallback of the nearest error boundary on that tries its children
abbrev pub thrown_by : Open → Flags → Flags → Flags
thrown_by (around e m) us out = out
thrown_by (trying e old f) us out = out
thrown_by (falling e old a) us out = out
thrown_by (guarding e f) us out = once_caught (flag (outer us)) ∷ outer us

-- the same for these open nodes
abbrev pub thrown_past : List Frame → Flags → Flags
thrown_past [] us = []
thrown_past (f ∷ fs) us = thrown_by f.node us (thrown_past fs (outer us))

-- the flags once a place has begun, by what stands there
abbrev pub begun_flags : List Frame → Flags → Element → Option Node → Shape → Flags
begun_flags fs us e old absent = us
begun_flags fs us e old (waiting r v) = unwound fs us
begun_flags fs us e old (throwing x) = thrown_past fs us
begun_flags fs us e old (one_list m p) = below_node (flag us) e old ∷ us
begun_flags fs us e old (two_lists p f) = below_node (flag us) e old ∷ us
begun_flags fs us e old (guarded p f) = below_node (flag us) e old ∷ us

-- the flags after a unit
abbrev pub unit_flags : Sight → Flags → Cursor → Flags
unit_flags s us (at_place zero fs cs e old) = us
unit_flags s us (at_place (suc levels) fs cs e old) = begun_flags fs us e old (shape_of s cs e old)
unit_flags s us (at_end levels fs o done) = outer us
unit_flags s us (ended p) = us

-- What a unit evaluates

-- the body of a place that begins, by what stands there
abbrev pub begins_evaluated : Sight → Contexts → Element → Option Node → Shape → ℕ
begins_evaluated s cs e old absent = 0
begins_evaluated s cs e old (waiting r v) = own_body s cs e old
begins_evaluated s cs e old (throwing x) = own_body s cs e old
begins_evaluated s cs e old (one_list m p) = own_body s cs e old
begins_evaluated s cs e old (two_lists p f) = 0
begins_evaluated s cs e old (guarded p f) = 0

-- the bodies that the next unit evaluates
abbrev pub next_evaluated : Sight → Cursor → ℕ
next_evaluated s (at_place zero fs cs e old) = 0
next_evaluated s (at_place (suc levels) fs cs e old) = begins_evaluated s cs e old (shape_of s cs e old)
next_evaluated s (at_end levels fs o done) = 0
next_evaluated s (ended p) = 0

-- an untouched boundary's children are not tried
abbrev pub MayTry : Sight → Flag → Element → Option Node → Shape → Type 0
MayTry s u e old absent = Unit {0}
MayTry s u e old (waiting r v) = Unit {0}
MayTry s u e old (throwing x) = Unit {0}
MayTry s u e old (one_list m p) = Unit {0}
MayTry s u e old (two_lists p f) = is_untouched s (stood u) e old ≡ false
MayTry s u e old (guarded p f) = Unit {0}

-- the next unit tries no untouched boundary's children
abbrev pub MayGo : Sight → Flags → Cursor → Type 0
MayGo s us (at_place zero fs cs e old) = Unit {0}
MayGo s us (at_place (suc levels) fs cs e old) = MayTry s (flag us) e old (shape_of s cs e old)
MayGo s us (at_end levels fs o done) = Unit {0}
MayGo s us (ended p) = Unit {0}

-- What a render costs

-- a render that has evaluated so many bodies has evaluated each that it had to, and no other: with those that are left they are those of the whole
abbrev pub Costs : Sight → Option Node → (bodies : ℕ) → Flags → Cursor → Type 0
Costs s old bodies us c = bodies + left_evaluated s us c ≡ whole_evaluated s old
