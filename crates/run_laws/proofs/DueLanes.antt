-- The lanes of a render that starts are pending, and one of them is not suspended; and so it stays while pending lanes are added and none is suspended.
use Rattle.std.specs.List.{list_all}
use Rattle.std.specs.Prelude.{Bool, Option, [], cond, false, if◌then◌else◌, not, refl, suc, true, zero, ℕ, ◌&&◌, ◌||◌, ◌∷◌, ◌≡◌}
use Rattle.std.proofs.Common.{subst, sym, ◌∙◌}
use Rattle.rx_lane.specs.declared.lane.Lane.{Lane}
use Rattle.rx_lane.specs.declared.lane.Lane.TheVariants as lane
use Rattle.rx_lane.specs.Lanes.{Lanes, has, is_transition, lanes_where, minus, no_lanes, one, same_lane, transitions, union, within}
use Rattle.rx_lane.specs.SetLaws.{has-lanes_where, lanes_agree, same_lane-true}
use Rattle.rx_sched.specs.Links.{Links, is_linked, links_on, one_link_on}
use Rattle.rx_sched.specs.Schedule.{Schedule, choose, first_lanes, goes_on, lanes_to_start, same_rank, with_default}
use Rattle.rx_sched.specs.declared.choice.Choice.TheVariants as choice
use Rattle.rx_elem.proofs.Deciding.{and_passes, or_right}
use Rattle.rx_model.proofs.LaneSets.{has-first}
use Rattle.rx_model.proofs.Progress.{has-links_on, has-with_default}
use Rattle.rx_model.specs.Kept.{IsSet}

-- Sets

pub set_of : (test : Lane → Bool) → IsSet (lanes_where test)
set_of test = lanes_agree test (has (lanes_where test)) (λ l. sym (has-lanes_where test l))

pub all_of : (test : Lane → Bool) (a : Lanes) → ((l : Lane) → has a l ≡ true → test l ≡ true) → list_all test a ≡ true
all_of test [] h = refl
all_of test (l ∷ a) h =
    let first : test l ≡ true = h l (has-first l a) in
    let rest : list_all test a ≡ true = all_of test a (λ m k. h m (or_right (same_lane m l) (has a m) k)) in
    rw (first, rest) refl

pub all_has : (test : Lane → Bool) (a : Lanes) → list_all test a ≡ true → (l : Lane) → has a l ≡ true → test l ≡ true
all_has test [] h l k = absurd (cc k)
all_has test (m ∷ a) h l k =
    let both = and_passes (test m) (list_all test a) h in go (same_lane l m) refl k (all_has test a both.1 l) both.0
  where
    go : (b : Bool) → same_lane l m ≡ b → (b || has a l) ≡ true → (has a l ≡ true → test l ≡ true) → test m ≡ true → test l ≡ true
    go true e x f t = subst (λ (n : Lane). test n ≡ true) (sym (same_lane-true l m e)) t
    go false e x f t = f x

pub minus_parts : (a b : Lanes) (l : Lane) → has (minus a b) l ≡ true → (has a l ≡ true) × (has b l ≡ false)
minus_parts a b l h =
    let both = and_passes (has a l) (not (has b l)) (sym (has-lanes_where (λ m. has a m && not (has b m)) l) ∙ h) in
    (both.0, go (has b l) both.1)
  where
    go : (x : Bool) → not x ≡ true → x ≡ false
    go true e = absurd (cc e)
    go false e = refl

-- Renders that are due

-- lanes are pending, and not all suspended
abbrev pub DueIn : Schedule → Lanes → Type 0
DueIn sch lanes = (within lanes sch.pending ≡ true) × (within lanes sch.suspended ≡ true → ⊥)

pub due_more : (a b : Schedule) (lanes : Lanes) → ((l : Lane) → has a.pending l ≡ true → has b.pending l ≡ true)
    → ((l : Lane) → has b.suspended l ≡ true → has a.suspended l ≡ true) → DueIn a lanes → DueIn b lanes
due_more a b lanes more less d = (
  all_of (has b.pending) lanes (λ l h. more l (all_has (has a.pending) lanes d.0 l h)),
  λ h. d.1 (all_of (has a.suspended) lanes (λ l k. less l (all_has (has b.suspended) lanes h l k))),
)

-- some lane is due
pub not_none : (sch : Schedule) (lanes : Lanes) → DueIn sch lanes → within lanes no_lanes ≡ true → ⊥
not_none sch lanes d h = d.1 (all_of (has sch.suspended) lanes (λ l k. absurd (cc (all_has (has no_lanes) lanes h l k))))

same_rank_within : (ls : Lanes) (l : Lane) → has (same_rank ls) l ≡ true → has ls l ≡ true
same_rank_within [] l h = absurd (cc h)
same_rank_within (m ∷ ms) l h = go (is_transition m) h
  where
    go : (b : Bool) → has (cond b (transitions (m ∷ ms)) (one m)) l ≡ true → has (m ∷ ms) l ≡ true
    go true k = (and_passes (is_transition l) (has (m ∷ ms) l) (sym (has-lanes_where (λ x. is_transition x && has (m ∷ ms) x) l) ∙ k)).1
    go false k =
        let same : m ≡ l = same_lane-true m l (sym (has-lanes_where (same_lane m) l) ∙ k) in
        subst (λ (x : Lane). has (m ∷ ms) x ≡ true) same (has-first m ms)

one_link_within : (links : Links) (pending lanes : Lanes) → ((l : Lane) → has lanes l ≡ true → has pending l ≡ true)
    → (l : Lane) → has (one_link_on links pending lanes) l ≡ true → has pending l ≡ true
unfolding one_link_on
one_link_within links pending lanes h l k =
    go (has lanes l) (has pending l) refl refl (sym (has-lanes_where (λ m. has lanes m || (has pending m && is_linked links lanes m)) l) ∙ k)
  where
    go : (x y : Bool) → has lanes l ≡ x → has pending l ≡ y → (x || (y && is_linked links lanes l)) ≡ true → has pending l ≡ true
    go true y e g f = h l e
    go false true e g f = g
    go false false e g f = absurd (cc f)

links_within : (n : ℕ) (links : Links) (pending lanes : Lanes) → ((l : Lane) → has lanes l ≡ true → has pending l ≡ true)
    → (l : Lane) → has (links_on n links pending lanes) l ≡ true → has pending l ≡ true
unfolding links_on
links_within zero links pending lanes h l k = h l k
links_within (suc n) links pending lanes h l k = links_within n links pending (one_link_on links pending lanes) (one_link_within links pending lanes h) l k

default_within : (sch : Schedule) (lanes : Lanes) → ((l : Lane) → has lanes l ≡ true → has sch.pending l ≡ true)
    → (l : Lane) → has (with_default sch lanes) l ≡ true → has sch.pending l ≡ true
default_within sch lanes h l k = pick (has lanes lane.Input) (has sch.pending lane.Default) refl k
  where
    joined : has sch.pending lane.Default ≡ true → (x y : Bool) → has lanes l ≡ x → has (one lane.Default) l ≡ y → (x || y) ≡ true → has sch.pending l ≡ true
    joined d true y e g f = h l e
    joined d false true e g f =
        let same : lane.Default ≡ l = same_lane-true lane.Default l (sym (has-lanes_where (same_lane lane.Default) l) ∙ g) in
        subst (λ (m : Lane). has sch.pending m ≡ true) same d
    joined d false false e g f = absurd (cc f)

    pick : (x y : Bool) → has sch.pending lane.Default ≡ y → has (cond (x && y) (union lanes (one lane.Default)) lanes) l ≡ true → has sch.pending l ≡ true
    pick true true d f =
        joined d (has lanes l) (has (one lane.Default) l) refl refl (sym (has-lanes_where (λ m. has lanes m || has (one lane.Default) m) l) ∙ f)
    pick true false d f = h l f
    pick false y d f = h l f

started : (sch : Schedule) (first : Lanes) (on : Option Lanes) (lanes : Lanes) → choose sch first on ≡ choice.Start lanes
    → (m : Lane) × (has first m ≡ true) × (lanes_to_start sch first ≡ lanes)
started sch [] on lanes e = absurd (cc e)
started sch (m ∷ ms) on lanes e = go (goes_on m on) e
  where
    go : (b : Bool) → (if b then choice.Keep else choice.Start (lanes_to_start sch (m ∷ ms))) ≡ choice.Start lanes
        → (n : Lane) × (has (m ∷ ms) n ≡ true) × (lanes_to_start sch (m ∷ ms) ≡ lanes)
    go true f = absurd (cc f)
    go false f = (m, has-first m ms, cc)

-- A render that starts is due.
pub start_due : (sch : Schedule) (on : Option Lanes) (lanes : Lanes) → choose sch (first_lanes sch) on ≡ choice.Start lanes → DueIn sch lanes
start_due sch on lanes e =
    let x = started sch (first_lanes sch) on lanes e in
    let parts = minus_parts sch.pending sch.suspended x.0 (same_rank_within (minus sch.pending sch.suspended) x.0 x.1) in
    let there : has (lanes_to_start sch (first_lanes sch)) x.0 ≡ true =
    has-links_on 20 sch.links sch.pending (with_default sch (first_lanes sch)) x.0 (has-with_default sch (first_lanes sch) x.0 x.1) in
    let all : (l : Lane) → has (lanes_to_start sch (first_lanes sch)) l ≡ true → has sch.pending l ≡ true =
    links_within 20 sch.links sch.pending (with_default sch (first_lanes sch))
    (default_within sch (first_lanes sch) (λ l h. (minus_parts sch.pending sch.suspended l (same_rank_within (minus sch.pending sch.suspended) l h)).0)) in
    subst (DueIn sch) x.2 (
      all_of (has sch.pending) (lanes_to_start sch (first_lanes sch)) all,
      λ h. clash (all_has (has sch.suspended) (lanes_to_start sch (first_lanes sch)) h x.0 there) parts.1,
    )
  where
    clash : {b : Bool} → b ≡ true → b ≡ false → ⊥
    clash h k = cc (h, k)
