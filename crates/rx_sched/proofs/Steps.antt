-- What the calls of the scheduler make of its parts.
use Rattle.std.specs.Prelude.{Bool, true, false, not, ◌≡◌, ◌&&◌, ◌||◌, ℕ, List, [], ◌∷◌, filter, nat_eq, refl}
use Rattle.std.specs.List.{list_any, list_all}
use Rattle.std.proofs.Common.{sym, ◌∙◌, ap, arith, subst}
use Rattle.std.proofs.lemmas.Bool.Decides.{nat_tests}
use Rattle.rx_lane.specs.declared.lane.Lane.{Lane}
use Rattle.rx_lane.specs.declared.lane.Lane.TheVariants.{Retry}
use Rattle.rx_lane.specs.Lanes.{Lanes, priority, same_lane, is_transition, all_lanes, has, lanes_where, one, union, intersection, transitions, within, is_empty}
use Rattle.rx_lane.specs.SetLaws.{has-lanes_where, lanes_agree, list_all-agree}
use Rattle.rx_sched.specs.declared.choice.Choice.TheVariants as choice
use Rattle.rx_sched.specs.Deadlines.{Deadlines}
use Rattle.rx_sched.specs.Links.{Links, reached, IsAllReached}
use Rattle.rx_sched.specs.Waiting.{Waiting}
use Rattle.rx_sched.specs.Schedule.{Schedule, first_lanes, with_default, lanes_to_start}
use Rattle.rx_sched.proofs.Gather.{list_any-members}
use Rattle.rx_sched.proofs.Reach.{all_reached}

-- two schedules with the same parts
pub same_parts : (pending : Lanes) (d e : Deadlines) (u v : Lanes) (w x : Waiting) (links : Links) (next : Lane) → d ≡ e → u ≡ v → w ≡ x
    → let s : Schedule = record { pending = pending; deadlines = d; suspended = u; waiting = w; links = links; next_transition = next } in
    let t : Schedule = record { pending = pending; deadlines = e; suspended = v; waiting = x; links = links; next_transition = next } in s ≡ t
same_parts pending d e u v w x links next hd hu hw = cc

-- the lanes of a set that pass a test
pub intersection-lanes_where : (lanes : Lanes) (p : Lane → Bool) → intersection lanes (lanes_where p) ≡ lanes_where (λ l. has lanes l && p l)
intersection-lanes_where lanes p = lanes_agree _ _ (λ l. ap (λ b. has lanes l && b) (has-lanes_where p l))

is_empty-filter : (p : Lane → Bool) (ls : List Lane) → not (is_empty (filter p ls)) ≡ list_any p ls
is_empty-filter p [] = refl
is_empty-filter p (l ∷ ls) = go (p l) refl (is_empty-filter p ls)
  where
    go : (b : Bool) → p l ≡ b → not (is_empty (filter p ls)) ≡ list_any p ls → not (is_empty (filter p (l ∷ ls))) ≡ list_any p (l ∷ ls)
    go true e rest = rw e refl
    go false e rest = rw (e, rest) refl

-- some lane is a transition lane exactly if the set of the transition lanes isn't empty
pub some_transition : (lanes : Lanes) → not (is_empty (transitions lanes)) ≡ list_any is_transition lanes
unfolding lanes_where
some_transition lanes = is_empty-filter (λ l. is_transition l && has lanes l) all_lanes ∙ list_any-members is_transition lanes

-- the transitions and Retry, of the lanes that pass a test
pub slow_lanes : (p : Lane → Bool) (l : Lane) → has (union (transitions (lanes_where p)) (intersection (lanes_where p) (one Retry))) l ≡ ((is_transition l || same_lane l Retry) && p l)
slow_lanes p l =
    has-lanes_where (λ m. has (transitions (lanes_where p)) m || has (intersection (lanes_where p) (one Retry)) m) l
    ∙ ap (λ b. b || has (intersection (lanes_where p) (one Retry)) l) (has-lanes_where (λ m. is_transition m && has (lanes_where p) m) l ∙ ap (λ b. is_transition l && b) (has-lanes_where p l))
    ∙ ap (λ b. (is_transition l && p l) || b) (has-lanes_where (λ m. has (lanes_where p) m && has (one Retry) m) l ∙ ap (λ b. b && has (one Retry) l) (has-lanes_where p l) ∙ ap (λ b. p l && b) (has-lanes_where (same_lane Retry) l ∙ turned (priority Retry) (priority l)))
    ∙ same (is_transition l) (p l) (same_lane l Retry)
  where
    turned : (a b : ℕ) → nat_eq a b ≡ nat_eq b a
    turned a b = grind (arith, nat_tests)

    same : (t b r : Bool) → ((t && b) || (b && r)) ≡ ((t || r) && b)
    same true true r = refl
    same true false r = refl
    same false true true = refl
    same false true false = refl
    same false false true = refl
    same false false false = refl

-- a set within the transitions and Retry of the lanes that pass a test
pub within_slow_lanes : (p : Lane → Bool) (lanes u t o r s : Lanes) → u ≡ lanes_where p → t ≡ transitions u → o ≡ one Retry → r ≡ intersection u o → s ≡ union t r
    → within lanes s ≡ list_all (λ l. (is_transition l || same_lane l Retry) && p l) lanes
within_slow_lanes p lanes u t o r s hu ht ho hr hs =
    ap (within lanes)
    (hs
    ∙ ap (λ x. union x r) (ht ∙ ap transitions hu)
    ∙ ap (union (transitions (lanes_where p))) (hr ∙ ap (λ x. intersection x o) hu ∙ ap (intersection (lanes_where p)) ho))
    ∙ list_all-agree _ _ lanes (slow_lanes p)

start_of : (a b : Lanes) → choice.Start a ≡ choice.Start b → a ≡ b
start_of a b e = cc

-- a render starts with all lanes that are reached
pub whole_start : (s : Schedule) (first started lanes : Lanes) → first ≡ first_lanes s → started ≡ lanes_to_start s first → choice.Start started ≡ choice.Start lanes
    → IsAllReached s.links s.pending (with_default s (first_lanes s)) lanes
whole_start s first started lanes hf hs e =
    let same : reached s.links s.pending (with_default s (first_lanes s)) ≡ lanes = ap (lanes_to_start s) (sym hf) ∙ sym hs ∙ start_of started lanes e in
    subst (IsAllReached s.links s.pending (with_default s (first_lanes s))) same (all_reached s.links s.pending (with_default s (first_lanes s)))
