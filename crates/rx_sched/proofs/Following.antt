-- The lanes that are linked with some of a set, gathered from its highest lane on; and rounds that change nothing.
use Rattle.std.specs.Prelude.{Bool, true, false, not, ◌≡◌, ◌⊎◌, ◌&&◌, ◌||◌, ℕ, zero, suc, ◌+◌, ◌-◌, ◌<◌, [], ◌∷◌, Some, None, refl, unwrap_or}
use Rattle.std.specs.List.{list_all}
use Rattle.std.proofs.Common.{sym, ◌∙◌, ap, inl, inr}
use Rattle.rx_lane.specs.declared.lane.Lane.{Lane}
use Rattle.rx_lane.specs.Lanes.{Lanes, same_lane, all_lanes, has, lanes_where, no_lanes, one, union, minus, highest, within}
use Rattle.rx_lane.specs.SetLaws.{has-lanes_where, lanes_agree, has-all_lanes, same_lane-true}
use Rattle.rx_sched.specs.Links.{Links, links_of, is_linked, one_link_on, links_on}
use Rattle.rx_sched.proofs.Gather.{bool_ext, same_lane-refl, list_any-intro, list_any-elim, and-true, both-true}
use Rattle.rx_sched.proofs.Reach.{size, same_or_more, grows, round_agree, next_round}

-- what is found, with what the lanes that are left are linked with, is what all are linked with
pub record IsFollowed (links : Links) (found left lanes : Lanes) : Type 0 where
  pub set : found ≡ lanes_where (has found)
  pub whole : lanes_where (λ l. has found l || is_linked links left l) ≡ lanes_where (is_linked links lanes)

-- nothing is found at first
pub nothing_followed : (links : Links) (lanes : Lanes) → IsFollowed links no_lanes lanes lanes
unfolding lanes_where
nothing_followed links lanes = record { set = refl; whole = refl }

has-highest : (lanes : Lanes) (m : Lane) → highest lanes ≡ Some m → has lanes m ≡ true
has-highest [] m e = absurd (cc e)
has-highest (l ∷ ls) m e =
    let same : l ≡ m = ap (λ o. unwrap_or o m) e in
    ap (λ b. b || has ls m) (ap (same_lane m) same ∙ same_lane-refl m)

none-highest : (lanes : Lanes) → highest lanes ≡ None → lanes ≡ []
none-highest [] e = refl
none-highest (l ∷ ls) e = absurd (cc e)

-- the lanes of a set but one
abbrev rest : Lanes → Lane → Lanes
rest left m = minus left (one m)

has-rest : (left : Lanes) (m k : Lane) → has (rest left m) k ≡ (has left k && not (same_lane m k))
has-rest left m k = has-lanes_where (λ l. has left l && not (has (one m) l)) k ∙ ap (λ b. has left k && not b) (has-lanes_where (same_lane m) k)

-- a lane of a set is linked with this one
abbrev links_with : Links → Lanes → (l k : Lane) → Bool
links_with links lanes l k = has lanes k && has (links_of links k) l

-- what a set is linked with, by one of its lanes and the others
linked_by_parts : (links : Links) (left : Lanes) (m l : Lane) → has left m ≡ true
    → (has (links_of links m) l || is_linked links (rest left m) l) ≡ is_linked links left l
linked_by_parts links left m l in_it = bool_ext _ _ (wide (has (links_of links m) l) refl) narrow
  where
    wide : (b : Bool) → has (links_of links m) l ≡ b → (b || is_linked links (rest left m) l) ≡ true → is_linked links left l ≡ true
    wide true e h = list_any-intro (links_with links left l) all_lanes m (has-all_lanes m) (both-true _ _ in_it e)
    wide false e h =
        let r = list_any-elim (links_with links (rest left m) l) all_lanes h in
        let both = and-true (has (rest left m) r.0) (has (links_of links r.0) l) r.1.1 in
        let there = and-true (has left r.0) (not (same_lane m r.0)) (sym (has-rest left m r.0) ∙ both.0) in
        list_any-intro (links_with links left l) all_lanes r.0 (has-all_lanes r.0) (both-true _ _ there.0 both.1)

    found_at : (k : Lane) → has left k ≡ true → has (links_of links k) l ≡ true → (s : Bool) → same_lane m k ≡ s
        → (has (links_of links m) l || is_linked links (rest left m) l) ≡ true
    found_at k h g true e =
        ap (λ b. b || is_linked links (rest left m) l) (ap (λ j. has (links_of links j) l) (same_lane-true m k e) ∙ g)
    found_at k h g false e =
        either (has (links_of links m) l)
        (list_any-intro (links_with links (rest left m) l) all_lanes k (has-all_lanes k) (both-true _ _ (has-rest left m k ∙ both-true _ _ h (ap not e)) g))
      where
        either : (b : Bool) → is_linked links (rest left m) l ≡ true → (b || is_linked links (rest left m) l) ≡ true
        either true h = refl
        either false h = h

    narrow : is_linked links left l ≡ true → (has (links_of links m) l || is_linked links (rest left m) l) ≡ true
    narrow h =
        let r = list_any-elim (links_with links left l) all_lanes h in
        let both = and-true (has left r.0) (has (links_of links r.0) l) r.1.1 in
        found_at r.0 both.0 both.1 (same_lane m r.0) refl

-- the highest lane that is left is followed
pub one_followed : (links : Links) (found left lanes : Lanes) (m : Lane) (part more others : Lanes) → IsFollowed links found left lanes → highest left ≡ Some m
    → part ≡ links_of links m → more ≡ union found part → others ≡ rest left m → IsFollowed links more others lanes
one_followed links found left lanes m part more others h e p is fewer = record {
  set = is ∙ lanes_agree _ _ (λ l. sym (ap (λ s. has s l) is ∙ has-lanes_where (λ k. has found k || has part k) l));
  whole = lanes_agree _ _ (λ l.
      (λ i. has (is i) l || is_linked links (fewer i) l)
      ∙ ap (λ b. b || is_linked links (rest left m) l) (has-lanes_where (λ k. has found k || has part k) l)
      ∙ (λ i. (has found l || has (p i) l) || is_linked links (rest left m) l)
      ∙ regroup (has found l) (has (links_of links m) l) (is_linked links (rest left m) l)
      ∙ ap (λ b. has found l || b) (linked_by_parts links left m l (has-highest left m e)))
      ∙ h.whole;
}
  where
    regroup : (a b c : Bool) → ((a || b) || c) ≡ (a || (b || c))
    regroup true b c = refl
    regroup false b c = refl

-- none is left
pub all_followed : (links : Links) (found left lanes : Lanes) → IsFollowed links found left lanes → highest left ≡ None → found ≡ lanes_where (is_linked links lanes)
all_followed links found left lanes h e =
    h.set
    ∙ lanes_agree _ _ (λ l. sym (or-false (has found l)))
    ∙ (λ i. lanes_where (λ l. has found l || is_linked links (sym (none-highest left e) i) l))
    ∙ h.whole
  where
    or-false : (b : Bool) → (b || false) ≡ b
    or-false true = refl
    or-false false = refl

-- then one lane less is left
pub fewer_left : (left : Lanes) (m : Lane) (others : Lanes) → highest left ≡ Some m → others ≡ rest left m → size others < size left
fewer_left left m others e is = go (same_or_more (has others) (has left) all_lanes narrower)
  where
    within : (l : Lane) → has others l ≡ (has left l && not (same_lane m l))
    within l = ap (λ s. has s l) is ∙ has-rest left m l

    narrower : (l : Lane) → has others l ≡ true → has left l ≡ true
    narrower l h = (and-true (has left l) (not (same_lane m l)) (sym (within l) ∙ h)).0

    gone : has others m ≡ false
    gone = within m ∙ (λ i. has-highest left m e i && not (same_lane-refl m i))

    go : ((l : Lane) → has all_lanes l ≡ true → has left l ≡ has others l) ⊎ (size others < size left) → size others < size left
    go (inl same) =
        let left_m = has-highest left m e in
        let both = same m (has-all_lanes m) in
        absurd (cc (left_m, both, gone))
    go (inr less) = less

all_pass : (q : Lane → Bool) (ls : Lanes) (m : Lane) → list_all q ls ≡ true → has ls m ≡ true → q m ≡ true
all_pass q [] m all h = absurd (cc h)
all_pass q (l ∷ ls) m all h =
    let both = and-true (q l) (list_all q ls) all in
    go both.0 (all_pass q ls m both.1) (same_lane m l) refl h
  where
    go : q l ≡ true → (has ls m ≡ true → q m ≡ true) → (s : Bool) → same_lane m l ≡ s → (s || has ls m) ≡ true → q m ≡ true
    go here others true e g = ap q (same_lane-true m l e) ∙ here
    go here others false e g = others g

rounds_stay : (n : ℕ) (links : Links) (pending lanes : Lanes) → one_link_on links pending lanes ≡ lanes → links_on n links pending lanes ≡ lanes
unfolding links_on
rounds_stay zero links pending lanes e = refl
rounds_stay (suc n) links pending lanes e = ap (links_on n links pending) e ∙ rounds_stay n links pending lanes e

-- a round that adds no lane is the last that is needed
pub last_round : (i : ℕ) (links : Links) (pending found more all : Lanes) → i < 20 → more ≡ one_link_on links pending found → within more found ≡ true
    → links_on (20 - i) links pending found ≡ all → more ≡ all
last_round i links pending found more all lt is no_more so_far =
    sym (rounds_stay (20 - (i + 1)) links pending more (round_agree links pending more found same ∙ sym is))
    ∙ ap (links_on (20 - (i + 1)) links pending) is
    ∙ next_round i links pending found lt
    ∙ so_far
  where
    same : (l : Lane) → has more l ≡ has found l
    same l = bool_ext _ _ (all_pass (has found) more l no_more) (λ h. ap (λ s. has s l) is ∙ grows links pending found l h)
