-- Which boundaries a render hides.
use Rattle.std.proofs.Common.{◌≡◌, Bool, true, false, List, [], ◌∷◌, Option, Some, None, refl, ap, map, filter, fold}
use Rattle.rx_base.specs.Awaits.{Awaits, nothing, union}
use Rattle.rx_lane.specs.Lanes.{Lanes, only_transitions}
use Rattle.rx_elem.specs.Trees.{Node, mark_of, awaits_in}
use Rattle.rx_elem.specs.Compare.{Change}
use Rattle.rx_meaning.specs.Outcome as meaning
use Rattle.rx_meaning.specs.Outcome.{hides_shown, all_awaits, outcome_by}
use Rattle.rx_compare.specs.Hidden.{hidden_after}

-- the awaits of some changes
abbrev awaits_by : List Change → List Awaits
awaits_by cs = map (λ (c : Change). awaits_in (mark_of c.new)) cs

-- with one boundary hidden before
hidden_behind : (cs : List Change) (a : Awaits) → hidden_after (Some a) cs ≡ Some (fold union a (awaits_by (filter hides_shown cs)))
hidden_behind [] a = refl
hidden_behind (c ∷ cs) a = go (hides_shown c) refl (hidden_behind cs)
  where
    go : (b : Bool) → hides_shown c ≡ b → ((w : Awaits) → hidden_after (Some w) cs ≡ Some (fold union w (awaits_by (filter hides_shown cs))))
        → hidden_after (Some a) (c ∷ cs) ≡ Some (fold union a (awaits_by (filter hides_shown (c ∷ cs))))
    go true e rest = rw (e) (rest (union a (awaits_in (mark_of c.new))))
    go false e rest = rw (e) (rest a)

-- what the boundaries wait for that are hidden, if there is one
abbrev pub awaits_of_all : List Change → Option Awaits
awaits_of_all [] = None
awaits_of_all (c ∷ cs) = Some (all_awaits (c ∷ cs))

pub hidden-all : (cs : List Change) → hidden_after None cs ≡ awaits_of_all (filter hides_shown cs)
hidden-all [] = refl
hidden-all (c ∷ cs) = go (hides_shown c) refl (hidden-all cs)
  where
    go : (b : Bool) → hides_shown c ≡ b → hidden_after None cs ≡ awaits_of_all (filter hides_shown cs) → hidden_after None (c ∷ cs) ≡ awaits_of_all (filter hides_shown (c ∷ cs))
    go true e rest = rw (e) (hidden_behind cs (union nothing (awaits_in (mark_of c.new))))
    go false e rest = rw (e) rest

-- what becomes of a render, if a boundary is hidden and the lanes are those of transitions
pub outcome-deferred : (lanes : Lanes) (new : Node) (cs : List Change) (a : Awaits) → Some a ≡ awaits_of_all cs → only_transitions lanes ≡ true → meaning.defer a ≡ outcome_by lanes new cs
outcome-deferred lanes new [] a e h = absurd (cc e)
outcome-deferred lanes new (c ∷ cs) a e h = rw h (let same : a ≡ all_awaits (c ∷ cs) = cc in ap meaning.defer same)

-- if none is
pub outcome-of_none : (lanes : Lanes) (new : Node) (cs : List Change) → None ≡ awaits_of_all cs → meaning.commit new ≡ outcome_by lanes new cs
outcome-of_none lanes new [] e = refl
outcome-of_none lanes new (c ∷ cs) e = absurd (cc e)
