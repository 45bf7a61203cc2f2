-- Lanes that are linked: after a transition, at a commit, and in a render that starts.
use Rattle.std.specs.Prelude.{◌≡◌, Bool, true, false, ◌||◌, ◌&&◌, if◌then◌else◌, [], ◌∷◌, Option, map, refl}
use Rattle.std.proofs.Common.{subst, ap, ◌∙◌}
use Rattle.rx_lane.specs.declared.lane.Lane.{Lane}
use Rattle.rx_lane.specs.declared.lane.Lane.TheVariants.{Sync, Input, Default, T1, T2, T3, T4, T5, T6, T7, T8, T9, T10, T11, T12, T13, T14, T15, T16, Retry}
use Rattle.rx_lane.specs.Lanes.{Lanes, all_lanes, has, intersection, is_transition, one, same_lane, union}
use Rattle.rx_lane.specs.SetLaws.{has-lanes_where}
use Rattle.rx_elem.proofs.Deciding.{both_hold, or_right}
use Rattle.rx_hooks.specs.Hooks.{links_with}
use Rattle.rx_sched.specs.declared.choice.Choice.TheVariants as choice
use Rattle.rx_sched.specs.Links.{IsAllReached, Links, along, linked_by, links_among, links_of}
use Rattle.rx_sched.specs.Schedule.{Schedule, choose, first_lanes, goes_on, lanes_to_start, next_claim, with_default}
use Rattle.rx_sched.proofs.Reach.{all_reached}
use Rattle.commit_laws.proofs.NoneLost.{one_itself, union_left, union_right}
use Rattle.transition_laws.specs.Flags.{are_linked}

-- a table with an entry for each lane
table_at : (f : Lane → Lanes) (l : Lane) → links_of (map f all_lanes) l ≡ f l
table_at f Sync = refl
table_at f Input = refl
table_at f Default = refl
table_at f T1 = refl
table_at f T2 = refl
table_at f T3 = refl
table_at f T4 = refl
table_at f T5 = refl
table_at f T6 = refl
table_at f T7 = refl
table_at f T8 = refl
table_at f T9 = refl
table_at f T10 = refl
table_at f T11 = refl
table_at f T12 = refl
table_at f T13 = refl
table_at f T14 = refl
table_at f T15 = refl
table_at f T16 = refl
table_at f Retry = refl

-- Links of a transition

by_transition : (links : Links) (lanes : Lanes) (l : Lane) → links_of (linked_by links lanes) l ≡ (if has lanes l then union (links_of links l) lanes else links_of links l)
unfolding linked_by
by_transition links lanes l = table_at (λ m. if has lanes m then union (links_of links m) lanes else links_of links m) l

still_has : (links : Links) (lanes : Lanes) (l m : Lane) → has (links_of links l) m ≡ true → has (links_of (linked_by links lanes) l) m ≡ true
still_has links lanes l m h = ap (λ (s : Lanes). has s m) (by_transition links lanes l) ∙ go (has lanes l)
  where
    go : (b : Bool) → has (if b then union (links_of links l) lanes else links_of links l) m ≡ true
    go true = union_left (links_of links l) lanes m h
    go false = h

-- lanes that are linked stay so
pub still_linked : (links : Links) (lanes : Lanes) (l m : Lane) → are_linked links l m ≡ true → are_linked (linked_by links lanes) l m ≡ true
still_linked links lanes l m = go (same_lane l m)
  where
    go : (b : Bool) → (b || has (links_of links l) m) ≡ true → (b || has (links_of (linked_by links lanes) l) m) ≡ true
    go true h = refl
    go false h = still_has links lanes l m h

-- every two of the lanes are linked
pub all_linked : (links : Links) (lanes : Lanes) (l m : Lane) → has lanes l ≡ true → has lanes m ≡ true → are_linked (linked_by links lanes) l m ≡ true
all_linked links lanes l m h k =
    or_right (same_lane l m) (has (links_of (linked_by links lanes) l) m)
    (ap (λ (s : Lanes). has s m) (by_transition links lanes l) ∙ go (has lanes l) h)
  where
    go : (b : Bool) → b ≡ true → has (if b then union (links_of links l) lanes else links_of links l) m ≡ true
    go true e = union_right (links_of links l) lanes m k
    go false e = absurd (cc e)

-- a transition dispatch links its own lane
pub own_linked : (l : Lane) (pending linked : Lanes) → has (links_with l pending linked) l ≡ true
own_linked l pending linked = union_right (intersection linked pending) (one l) l (one_itself l)

-- and each lane that was linked and is pending
pub pending_linked : (l m : Lane) (pending linked : Lanes) → has linked m ≡ true → has pending m ≡ true → has (links_with l pending linked) m ≡ true
pending_linked l m pending linked h k =
    union_left (intersection linked pending) (one l) m (has-lanes_where (λ x. has linked x && has pending x) m ∙ both_hold (has linked m) (has pending m) h k)

-- Links at a commit

among_at : (links : Links) (pending : Lanes) (l : Lane) → has pending l ≡ true → links_of (links_among links pending) l ≡ intersection (links_of links l) pending
unfolding links_among
among_at links pending l h = table_at (λ m. if has pending m then intersection (links_of links m) pending else []) l ∙ go (has pending l) h
  where
    go : (b : Bool) → b ≡ true → (if b then intersection (links_of links l) pending else []) ≡ intersection (links_of links l) pending
    go true e = refl
    go false e = absurd (cc e)

-- links between lanes that are pending stay
pub linked_among : (links : Links) (pending : Lanes) (l m : Lane) → are_linked links l m ≡ true → has pending l ≡ true → has pending m ≡ true → are_linked (links_among links pending) l m ≡ true
linked_among links pending l m h a b = go (same_lane l m) h
  where
    go : (c : Bool) → (c || has (links_of links l) m) ≡ true → (c || has (links_of (links_among links pending) l) m) ≡ true
    go true h = refl
    go false h =
        ap (λ (s : Lanes). has s m) (among_at links pending l a)
        ∙ (has-lanes_where (λ x. has (links_of links l) x && has pending x) m ∙ both_hold (has (links_of links l) m) (has pending m) h b)

-- Renders that start

starts_all : (sch : Schedule) (first : Lanes) (on : Option Lanes) (lanes : Lanes) → choose sch first on ≡ choice.Start lanes → IsAllReached sch.links sch.pending (with_default sch first) lanes
starts_all sch [] on lanes e = absurd (cc e)
starts_all sch (m ∷ ms) on lanes e = go (goes_on m on) e
  where
    go : (b : Bool) → (if b then choice.Keep else choice.Start (lanes_to_start sch (m ∷ ms))) ≡ choice.Start lanes → IsAllReached sch.links sch.pending (with_default sch (m ∷ ms)) lanes
    go true f = absurd (cc f)
    go false f =
        let same : lanes_to_start sch (m ∷ ms) ≡ lanes = cc in
        subst (IsAllReached sch.links sch.pending (with_default sch (m ∷ ms))) same (all_reached sch.links sch.pending (with_default sch (m ∷ ms)))

-- a render that starts has each pending lane that is linked with one of its own
pub start_reaches : (sch : Schedule) (on : Option Lanes) (lanes : Lanes) → choose sch (first_lanes sch) on ≡ choice.Start lanes
    → (l m : Lane) → has lanes m ≡ true → has (links_of sch.links m) l ≡ true → has sch.pending l ≡ true → has lanes l ≡ true
start_reaches sch on lanes e l m there link pending =
    let all = starts_all sch (first_lanes sch) on lanes e in (all l).1 (along m l ((all m).0 there) link pending)

-- Lanes that are claimed

-- the lane that is claimed next is a transition lane
pub claim_transition : (l : Lane) → is_transition (next_claim l) ≡ true
claim_transition Sync = refl
claim_transition Input = refl
claim_transition Default = refl
claim_transition T1 = refl
claim_transition T2 = refl
claim_transition T3 = refl
claim_transition T4 = refl
claim_transition T5 = refl
claim_transition T6 = refl
claim_transition T7 = refl
claim_transition T8 = refl
claim_transition T9 = refl
claim_transition T10 = refl
claim_transition T11 = refl
claim_transition T12 = refl
claim_transition T13 = refl
claim_transition T14 = refl
claim_transition T15 = refl
claim_transition T16 = refl
claim_transition Retry = refl

-- and another one than the last
pub claim_another : (l : Lane) → same_lane l (next_claim l) ≡ false
claim_another Sync = refl
claim_another Input = refl
claim_another Default = refl
claim_another T1 = refl
claim_another T2 = refl
claim_another T3 = refl
claim_another T4 = refl
claim_another T5 = refl
claim_another T6 = refl
claim_another T7 = refl
claim_another T8 = refl
claim_another T9 = refl
claim_another T10 = refl
claim_another T11 = refl
claim_another T12 = refl
claim_another T13 = refl
claim_another T14 = refl
claim_another T15 = refl
claim_another T16 = refl
claim_another Retry = refl
