-- The lanes of a render that starts while another one goes on: the first of them is higher.
use Rattle.std.proofs.Common.{◌≡◌, ℕ, zero, suc, ◌+◌, ◌≤◌, Bool, true, false, cond, List, [], ◌∷◌, Option, Some, None, refl, sym, ap, subst, ◌∙◌, arith}
use Rattle.std.specs.Prelude.{not, ◌&&◌, ◌||◌, IfSome, filter, nat_lt}
use Rattle.std.specs.List.{list_any}
use Rattle.std.proofs.lemmas.Bool.Decides.{nat_tests}
use Rattle.rx_lane.specs.declared.lane.Lane.{Lane}
use Rattle.rx_lane.specs.declared.lane.Lane.TheVariants as lane
use Rattle.rx_lane.specs.Lanes.{Lanes, all_lanes, has, highest, is_higher, is_transition, lanes_where, minus, no_lanes, one, priority, same_lane, transitions}
use Rattle.rx_lane.specs.SetLaws.{has-all_lanes, has-lanes_where, same_lane-true}
use Rattle.rx_sched.specs.declared.choice.Choice.{Choice}
use Rattle.rx_sched.specs.declared.choice.Choice.TheVariants as choice
use Rattle.rx_sched.specs.Links.{Links, links_on, one_link_on}
use Rattle.rx_sched.specs.Schedule.{Schedule, choose, goes_on, keeps_on, lanes_to_start, next, same_rank, with_default}
use Rattle.rx_model.proofs.LaneSets.{has-first, same_lane-same}
use Rattle.rx_model.proofs.Progress.{has-links_on, has-with_default}

-- Sets of lanes

-- lanes by falling priority, from this one on
abbrev Fall : ℕ → List Lane → Type 0
Fall n [] = Unit {0}
Fall n (l ∷ ls) = (priority l ≡ n) × Fall (n + 1) ls

all_fall : Fall 0 all_lanes
all_fall = (refl, (refl, (refl, (refl, (refl, (refl, (refl, (refl, (refl, (refl, (refl, (refl, (refl, (refl, (refl, (refl, (refl, (refl, (refl, (refl, tt))))))))))))))))))))

low_in : (n : ℕ) (ls : List Lane) (m : Lane) → Fall n ls → has ls m ≡ true → n ≤ priority m
low_in n [] m f h = absurd (cc h)
low_in n (l ∷ ls) m f h = go (same_lane m l) refl (λ k. low_in (n + 1) ls m f.1 k) h
  where
    go : (b : Bool) → same_lane m l ≡ b → (has ls m ≡ true → n + 1 ≤ priority m) → (b || has ls m) ≡ true → n ≤ priority m
    go true e rest k = let same : m ≡ l = same_lane-true m l e in omega (arith, ap priority same, f.0)
    go false e rest k = omega (arith, rest k)

-- the first lane of a set, which is no lower than this one
pub record FirstOf (lanes : Lanes) (m : Lane) : Type 0 where
  pub lane : Lane
  pub first : highest lanes ≡ Some lane
  pub inside : has lanes lane ≡ true
  pub high : priority lane ≤ priority m

first_in : (p : Lane → Bool) (n : ℕ) (ls : List Lane) (m : Lane) → Fall n ls → has ls m ≡ true → p m ≡ true → FirstOf (filter p ls) m
first_in p n [] m f h e = absurd (cc h)
first_in p n (l ∷ ls) m f h e = go (p l) refl (same_lane m l) refl (λ k. first_in p (n + 1) ls m f.1 k e) h
  where
    go : (b : Bool) → p l ≡ b → (d : Bool) → same_lane m l ≡ d → (has ls m ≡ true → FirstOf (filter p ls) m) → (d || has ls m) ≡ true → FirstOf (filter p (l ∷ ls)) m
    go true g d k rest there =
        rw g (record { lane = l; first = refl; inside = has-first l (filter p ls); high = omega (arith, f.0, low_in n (l ∷ ls) m f h) })
    go false g true k rest there =
        let same : m ≡ l = same_lane-true m l k in let on : p l ≡ true = sym (ap p same) ∙ e in absurd (cc (on, g))
    go false g false k rest there = rw g (rest there)

-- a set with a lane has a first one
pub first_of_set : (p : Lane → Bool) (m : Lane) → p m ≡ true → FirstOf (lanes_where p) m
unfolding lanes_where
first_of_set p m e = first_in p 0 all_lanes m all_fall (has-all_lanes m) e

-- Lanes that are rendered next

-- the lanes that are pending and not suspended
abbrev pub free_of : Schedule → Lanes
free_of s = minus s.pending s.suspended

-- what lanes a choice starts
abbrev lanes_in : Choice → Lanes
lanes_in choice.None = no_lanes
lanes_in choice.Keep = no_lanes
lanes_in (choice.Start lanes) = lanes

-- a lane is higher than the first of some lanes, if there is one
abbrev pub IsAhead : Lane → Lanes → Type 0
IsAhead m lanes = IfSome (highest lanes) (λ l. is_higher m l ≡ true)

pub ahead_higher : (m n : Lane) (lanes : Lanes) → priority n ≤ priority m → IsAhead m lanes → IsAhead n lanes
ahead_higher m n [] le a = tt
ahead_higher m n (l ∷ ls) le a = grind (arith, nat_tests, le, a)

-- some lanes lead others: the first of them is higher
abbrev pub Leads : Lanes → Lanes → Type 0
Leads lanes others = (m : Lane) × (highest lanes ≡ Some m) × IsAhead m others

-- lanes don't lead themselves
pub no_lead : (lanes : Lanes) → Leads lanes lanes → ⊥
no_lead [] a = absurd (cc a.1)
no_lead (l ∷ ls) a =
    let same : l ≡ a.0 = cc a.1 in
    let higher : nat_lt (priority a.0) (priority l) ≡ true = a.2 in
    grind (arith, nat_tests, ap priority same, higher)

-- what a render that starts has: a lane that is pending and not suspended, no lower than all of these, and higher than those of the render in progress; and its first lane is no lower
pub record StartsAhead (s : Schedule) (in_progress : Option Lanes) (started : Lanes) : Type 0 where
  pub lane : Lane
  pub is_free : has (free_of s) lane ≡ true
  pub high : (m : Lane) → has (free_of s) m ≡ true → priority lane ≤ priority m
  pub ahead : IfSome in_progress (IsAhead lane)
  pub leading : Lane
  pub first : highest started ≡ Some leading
  pub leads : priority leading ≤ priority lane

-- a lane among the first ones of a set is in it
in_rank : (l : Lane) (ls : Lanes) (m : Lane) → has (same_rank (l ∷ ls)) m ≡ true → has (l ∷ ls) m ≡ true
in_rank l ls m h = go (is_transition l) h
  where
    go : (b : Bool) → has (cond b (transitions (l ∷ ls)) (one l)) m ≡ true → has (l ∷ ls) m ≡ true
    go true k = and_right (is_transition m) (has (l ∷ ls) m) (sym (has-lanes_where (λ x. is_transition x && has (l ∷ ls) x) m) ∙ k)
      where
        and_right : (a b : Bool) → (a && b) ≡ true → b ≡ true
        and_right true b e = e
        and_right false b e = absurd (cc e)
    go false k = let same : l ≡ m = same_lane-true l m (sym (has-lanes_where (same_lane l) m) ∙ k) in subst (λ (x : Lane). has (l ∷ ls) x ≡ true) same (has-first l ls)

-- the first ones have a first one, which is no lower than the set's
rank_first : (l : Lane) (ls : Lanes) → FirstOf (same_rank (l ∷ ls)) l
rank_first l ls = go (is_transition l) refl
  where
    go : (b : Bool) → is_transition l ≡ b → FirstOf (cond b (transitions (l ∷ ls)) (one l)) l
    go true e = first_of_set (λ x. is_transition x && has (l ∷ ls) x) l (rw (e, has-first l ls) refl)
    go false e = first_of_set (same_lane l) l (same_lane-same l)

-- links that are followed give a set
set_on : (n : ℕ) (links : Links) (pending lanes : Lanes) → (p : Lane → Bool) × (links_on (suc n) links pending lanes ≡ lanes_where p)
unfolding links_on one_link_on
set_on zero links pending lanes = (_, refl)
set_on (suc n) links pending lanes = set_on n links pending (one_link_on links pending lanes)

-- the lanes that start with a set have a first one, which is no lower than each of that
started_first : (s : Schedule) (first : Lanes) (m : Lane) → has first m ≡ true → FirstOf (lanes_to_start s first) m
started_first s first m h =
    let set = set_on 19 s.links s.pending (with_default s first) in
    let there : has (lanes_to_start s first) m ≡ true = has-links_on 20 s.links s.pending (with_default s first) m (has-with_default s first m h) in
    subst (λ (x : Lanes). FirstOf x m) (sym set.1) (first_of_set set.0 m (sym (has-lanes_where set.0 m) ∙ sym (ap (λ (x : Lanes). has x m) set.1) ∙ there))

-- a render that starts interrupts the one in progress by a higher lane
not_kept : (m : Lane) (lanes : Lanes) → keeps_on m lanes ≡ false → IsAhead m lanes
not_kept m [] e = tt
not_kept m (l ∷ ls) e = go (is_higher m l) e
  where
    go : (b : Bool) → (not b || (same_lane m lane.Default && list_any is_transition (l ∷ ls))) ≡ false → b ≡ true
    go true k = refl
    go false k = absurd (cc k)

pub starts_ahead : (s : Schedule) (in_progress : Option Lanes) (started : Lanes) → next s in_progress ≡ choice.Start started → StartsAhead s in_progress started
starts_ahead s in_progress started e = by_free (free_of s) refl
  where
    by_first : (l : Lane) (ls first : Lanes) → free_of s ≡ l ∷ ls → first ≡ same_rank (l ∷ ls) → choose s first in_progress ≡ choice.Start started → StartsAhead s in_progress started
    by_first l ls [] f r k = absurd (cc k)
    by_first l ls (m ∷ ms) f r k = by_kept (goes_on m in_progress) refl k
      where
        rank : FirstOf (same_rank (l ∷ ls)) l
        rank = rank_first l ls

        same : m ≡ rank.lane
        same = let both : Some m ≡ Some rank.lane = ap highest r ∙ rank.first in cc

        inside : has (free_of s) m ≡ true
        inside = subst (λ (x : Lanes). has x m ≡ true) (sym f) (in_rank l ls m (subst (λ (x : Lane). has (same_rank (l ∷ ls)) x ≡ true) (sym same) rank.inside))

        high : (n : Lane) → has (free_of s) n ≡ true → priority m ≤ priority n
        high n h =
            let least = first_of_set (λ x. has s.pending x && not (has s.suspended x)) n (sym (has-lanes_where (λ x. has s.pending x && not (has s.suspended x)) n) ∙ h) in
            let first : l ≡ least.lane = (let both : Some l ≡ Some least.lane = sym (ap highest f) ∙ least.first in cc) in
            omega (arith, ap priority same, rank.high, ap priority first, least.high)

        ahead : (x : Option Lanes) → goes_on m x ≡ false → IfSome x (IsAhead m)
        ahead None g = tt
        ahead (Some lanes) g = not_kept m lanes g

        by_kept : (b : Bool) → goes_on m in_progress ≡ b → cond b choice.Keep (choice.Start (lanes_to_start s (m ∷ ms))) ≡ choice.Start started → StartsAhead s in_progress started
        by_kept true g c = absurd (cc c)
        by_kept false g c =
            let is : lanes_to_start s (m ∷ ms) ≡ started = ap lanes_in c in
            let first = started_first s (m ∷ ms) m (has-first m ms) in
            record {
              lane = m;
              is_free = inside;
              high = high;
              ahead = ahead in_progress g;
              leading = first.lane;
              first = sym (ap highest is) ∙ first.first;
              leads = first.high;
            }

    by_free : (fr : Lanes) → free_of s ≡ fr → StartsAhead s in_progress started
    by_free [] f = absurd (let k : choose s (same_rank []) in_progress ≡ choice.Start started = subst (λ (x : Lanes). choose s (same_rank x) in_progress ≡ choice.Start started) f e in cc k)
    by_free (l ∷ ls) f = by_first l ls (same_rank (l ∷ ls)) f refl (subst (λ (x : Lanes). choose s (same_rank x) in_progress ≡ choice.Start started) f e)
