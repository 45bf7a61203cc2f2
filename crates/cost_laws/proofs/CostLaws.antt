-- A render evaluates exactly the bodies that it has to.
use Rattle.std.specs.Prelude.{◌≡◌, ℕ, suc, ◌+◌, ◌≤◌, true, List, [], ◌∷◌, Option, Some}
use Rattle.std.proofs.Common.{arith}
use Rattle.rx_base.specs.Awaits.{Awaits}
use Rattle.rx_elem.specs.Elements.{Element}
use Rattle.rx_elem.specs.Trees.{Node}
use Rattle.rx_queue.specs.Journal.{Journal}
use Rattle.rx_meaning.specs.Fresh.{Sight, Contexts, Place, made, one_waits, Part, two_lists, shape_of, render_part, rendered}
use Rattle.rx_meaning.specs.Cursor.{Frame, falling, Cursor, at_place, ended, open_part, arrive, start, unit}
use Rattle.render_laws.specs.SameSight.{SeesSame}
use Rattle.cost_laws.specs.Evaluated.{evaluated, stood, whole_evaluated}
use Rattle.cost_laws.specs.Left.{Costs, Flags, MayGo, flag, left_evaluated, next_evaluated, unit_flags}
use Rattle.cost_laws.specs.SameWork.{SeesSameWork}
use Rattle.cost_laws.specs.Untouched.{is_untouched}
use Rattle.cost_laws.proofs.Counting.{unit_evaluates, start_evaluates, taken_evaluates, attempt_evaluates}
use Rattle.cost_laws.proofs.LaterWork.{left_evaluated_same, whole_evaluated_same}

-- At its start a render has evaluated nothing.
pub start_costs : (s : Sight) (old : Option Node) → Costs s old 0 [] (start s old)
start_costs s old = omega (arith, start_evaluates s old)

-- A unit evaluates the body of the place that it begins, if it is one of those that are evaluated.
pub unit_costs : (s : Sight) (old : Option Node) (bodies evaluated : ℕ) (us : Flags) (c : Cursor) → MayGo s us c → Costs s old bodies us c
    → evaluated ≡ next_evaluated s c → Costs s old (bodies + evaluated) (unit_flags s us c) (unit s c)
unit_costs s old bodies evaluated us c may h exact = omega (arith, h, unit_evaluates s us c may, exact)

-- A subtree that is taken over costs nothing, if nothing of it is evaluated.
pub take_costs : (s : Sight) (old : Option Node) (bodies n : ℕ) (us : Flags) (fs : List Frame) (cs : Contexts) (e : Element) (o : Node)
    → rendered n s cs e (Some o) ≡ made o → evaluated n s (flag us) cs e (Some o) ≡ 0
    → Costs s old bodies us (at_place n fs cs e (Some o)) → Costs s old bodies us (arrive n fs (Some o))
take_costs s old bodies n us fs cs e o again calm h = omega (arith, h, calm, taken_evaluates s us n fs cs e o again)

-- An attempt that is left out costs nothing, if the boundary is untouched.
pub attempt_costs : (s : Sight) (old : Option Node) (bodies n : ℕ) (us : Flags) (fs : List Frame) (cs : Contexts) (e : Element)
    (o : Option Node) (p f : Part) (a : Awaits) → shape_of s cs e o ≡ two_lists p f
    → render_part (rendered n s) p ≡ one_waits a → is_untouched s (stood (flag us)) e o ≡ true
    → Costs s old bodies us (at_place (suc n) fs cs e o) → Costs s old bodies (flag us ∷ us) (open_part n fs (falling e o a) f)
attempt_costs s old bodies n us fs cs e o p f a shape waited out h = omega (arith, h, attempt_evaluates s us n fs cs e o p f a shape waited out)

-- What a render costs holds for another journal that shows the same.
pub later_costs : (s : Sight) (j : Journal) (old : Option Node) (bodies : ℕ) (us : Flags) (c : Cursor) → SeesSame s j → SeesSameWork s j
    → Costs s old bodies us c → Costs (record s { journal = j }) old bodies us c
later_costs s j old bodies us c same work h = omega (arith, h, left_evaluated_same s j same work us c, whole_evaluated_same s j same work old)

-- At its end a render has evaluated all bodies of the whole, and no other.
pub last_costs : (s : Sight) (old : Option Node) (bodies : ℕ) (us : Flags) (p : Place) → Costs s old bodies us (ended p) → bodies ≡ whole_evaluated s old
unfolding left_evaluated
last_costs s old bodies us p h = omega (arith, h)

-- Before its end a render has evaluated no more.
pub most_costs : (s : Sight) (old : Option Node) (bodies : ℕ) (us : Flags) (c : Cursor) → Costs s old bodies us c → bodies ≤ whole_evaluated s old
most_costs s old bodies us c h = omega (arith, h)
