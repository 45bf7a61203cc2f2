-- Following links for 20 rounds reaches all that is reached, and nothing else.
use Rattle.std.specs.Prelude.{Bool, true, false, ◌≡◌, ◌⊎◌, ◌&&◌, ◌||◌, ℕ, zero, suc, ◌+◌, ◌-◌, ◌<◌, ◌≤◌, List, [], ◌∷◌, length, filter, refl}
use Rattle.std.specs.List.{list_any}
use Rattle.std.proofs.Common.{sym, ◌∙◌, ap, arith, inl, inr}
use Rattle.rx_lane.specs.declared.lane.Lane.{Lane}
use Rattle.rx_lane.specs.Lanes.{Lanes, same_lane, all_lanes, has, lanes_where, union, intersection}
use Rattle.rx_lane.specs.SetLaws.{has-lanes_where, lanes_agree, has-all_lanes, same_lane-true}
use Rattle.rx_sched.specs.Links.{Links, links_of, is_linked, one_link_on, links_on, reached, IsReached, within, along, IsAllReached}
use Rattle.rx_sched.proofs.Gather.{list_any-intro, list_any-elim, and-true, both-true}

-- one round adds a linked lane: its test
abbrev on : Links → Lanes → Lanes → Lane → Bool
on links pending lanes l = has lanes l || (has pending l && is_linked links lanes l)

has-one_link_on : (links : Links) (pending lanes : Lanes) (l : Lane) → has (one_link_on links pending lanes) l ≡ on links pending lanes l
unfolding one_link_on
has-one_link_on links pending lanes l = has-lanes_where (on links pending lanes) l

-- one round as sets
pub round_of_sets : (links : Links) (pending lanes : Lanes) → union lanes (intersection pending (lanes_where (is_linked links lanes))) ≡ one_link_on links pending lanes
unfolding one_link_on
round_of_sets links pending lanes = lanes_agree _ _ (λ l.
    ap (λ b. has lanes l || b)
    (has-lanes_where (λ m. has pending m && has (lanes_where (is_linked links lanes)) m) l
    ∙ ap (λ b. has pending l && b) (has-lanes_where (is_linked links lanes) l)))

-- one round of those that are left
pub next_round : (i : ℕ) (links : Links) (pending lanes : Lanes) → i < 20 → links_on (20 - (i + 1)) links pending (one_link_on links pending lanes) ≡ links_on (20 - i) links pending lanes
unfolding links_on
next_round i links pending lanes h =
    let e : 20 - i ≡ suc (20 - (i + 1)) = omega arith in
    sym (ap (λ n. links_on n links pending lanes) e)

-- no round is left
pub rounds_done : (i : ℕ) (links : Links) (pending lanes all : Lanes) → i ≡ 20 → links_on (20 - i) links pending lanes ≡ all → lanes ≡ all
unfolding links_on
rounds_done i links pending lanes all e h = sym (ap (λ n. links_on (20 - n) links pending lanes) e) ∙ h

or-true : (a b : Bool) → (a || b) ≡ true → (a ≡ true) ⊎ (b ≡ true)
or-true true b e = inl refl
or-true false b e = inr e

or-left : (a b : Bool) → a ≡ true → (a || b) ≡ true
or-left true b e = refl
or-left false b e = absurd (cc)

or-right : (a b : Bool) → b ≡ true → (a || b) ≡ true
or-right true b e = refl
or-right false b e = e

-- what one round adds is reached

one_round : (links : Links) (pending lanes : Lanes) (l : Lane) → has (one_link_on links pending lanes) l ≡ true → IsReached links pending lanes l
one_round links pending lanes l e = go (or-true _ _ (sym (has-one_link_on links pending lanes l) ∙ e))
  where
    go : (has lanes l ≡ true) ⊎ ((has pending l && is_linked links lanes l) ≡ true) → IsReached links pending lanes l
    go (inl h) = within l h
    go (inr h) =
        let both = and-true (has pending l) (is_linked links lanes l) h in
        let r = list_any-elim (λ m. has lanes m && has (links_of links m) l) all_lanes both.1 in
        let pair = and-true (has lanes r.0) (has (links_of links r.0) l) r.1.1 in
        along r.0 l (within r.0 pair.0) pair.1 both.0

from_round : (links : Links) (pending lanes : Lanes) (l : Lane) → IsReached links pending (one_link_on links pending lanes) l → IsReached links pending lanes l
from_round links pending lanes _ (within l h) = one_round links pending lanes l h
from_round links pending lanes _ (along m l r e p) = along m l (from_round links pending lanes m r) e p

sound : (n : ℕ) (links : Links) (pending lanes : Lanes) (l : Lane) → has (links_on n links pending lanes) l ≡ true → IsReached links pending lanes l
unfolding links_on
sound zero links pending lanes l e = within l e
sound (suc n) links pending lanes l e = from_round links pending lanes l (sound n links pending (one_link_on links pending lanes) l e)

-- a set that one round leaves as it is
abbrev Closed : Links → Lanes → Lanes → Type 0
Closed links pending lanes = (l : Lane) → has (one_link_on links pending lanes) l ≡ has lanes l

pub grows : (links : Links) (pending lanes : Lanes) (l : Lane) → has lanes l ≡ true → has (one_link_on links pending lanes) l ≡ true
grows links pending lanes l e = has-one_link_on links pending lanes l ∙ or-left _ _ e

list_any-agree : (p q : Lane → Bool) (ls : List Lane) → ((l : Lane) → p l ≡ q l) → list_any p ls ≡ list_any q ls
list_any-agree p q [] h = refl
list_any-agree p q (l ∷ ls) h = let here = h l in let rest = list_any-agree p q ls h in rw (here, rest) refl

-- a round depends on the members alone
pub round_agree : (links : Links) (pending a b : Lanes) → ((l : Lane) → has a l ≡ has b l) → one_link_on links pending a ≡ one_link_on links pending b
unfolding one_link_on
round_agree links pending a b h = lanes_agree (on links pending a) (on links pending b) (λ l.
    ap (λ x. x || (has pending l && is_linked links a l)) (h l)
    ∙ ap (λ y. has b l || (has pending l && y)) (list_any-agree (λ m. has a m && has (links_of links m) l) (λ m. has b m && has (links_of links m) l) all_lanes (λ m. ap (λ x. x && has (links_of links m) l) (h m))))

closed_round : (links : Links) (pending lanes : Lanes) → Closed links pending lanes → Closed links pending (one_link_on links pending lanes)
closed_round links pending lanes h l = ap (λ s. has s l) (round_agree links pending (one_link_on links pending lanes) lanes h)

closed_on : (n : ℕ) (links : Links) (pending lanes : Lanes) → Closed links pending lanes → Closed links pending (links_on n links pending lanes)
unfolding links_on
closed_on zero links pending lanes h = h
closed_on (suc n) links pending lanes h = closed_on n links pending (one_link_on links pending lanes) (closed_round links pending lanes h)

-- how many lanes a set has
abbrev pub size : Lanes → ℕ
size lanes = length (filter (has lanes) all_lanes)

length-filter-le : (p q : Lane → Bool) (ls : List Lane) → ((l : Lane) → p l ≡ true → q l ≡ true) → length (filter p ls) ≤ length (filter q ls)
length-filter-le p q [] h = omega arith
length-filter-le p q (l ∷ ls) h = go (p l) refl (q l) refl (length-filter-le p q ls h)
  where
    go : (b : Bool) → p l ≡ b → (c : Bool) → q l ≡ c → length (filter p ls) ≤ length (filter q ls) → length (filter p (l ∷ ls)) ≤ length (filter q (l ∷ ls))
    go true e true f rest = rw (e, f) (omega arith)
    go true e false f rest = let w : q l ≡ true = h l e in absurd (cc)
    go false e true f rest = rw (e, f) (omega arith)
    go false e false f rest = rw (e, f) rest

-- a wider test passes more, or the same
pub same_or_more : (p q : Lane → Bool) (ls : List Lane) → ((l : Lane) → p l ≡ true → q l ≡ true)
    → ((l : Lane) → has ls l ≡ true → q l ≡ p l) ⊎ (length (filter p ls) < length (filter q ls))
same_or_more p q [] h = inl (λ l e. absurd (cc))
same_or_more p q (m ∷ ls) h = go (p m) refl (q m) refl (same_or_more p q ls h) (length-filter-le p q ls h)
  where
    cons : q m ≡ p m → ((l : Lane) → has ls l ≡ true → q l ≡ p l) → (l : Lane) → (s : Bool) → same_lane l m ≡ s → (s || has ls l) ≡ true → q l ≡ p l
    cons here rest l true e k = let same : l ≡ m = same_lane-true l m e in ap q same ∙ here ∙ ap p (sym same)
    cons here rest l false e k = rest l k

    go : (b : Bool) → p m ≡ b → (c : Bool) → q m ≡ c → ((l : Lane) → has ls l ≡ true → q l ≡ p l) ⊎ (length (filter p ls) < length (filter q ls)) → length (filter p ls) ≤ length (filter q ls)
        → ((l : Lane) → has (m ∷ ls) l ≡ true → q l ≡ p l) ⊎ (length (filter p (m ∷ ls)) < length (filter q (m ∷ ls)))
    go true e true f (inl same) le = inl (λ l k. cons (f ∙ sym e) same l (same_lane l m) refl k)
    go true e true f (inr less) le = inr (rw (e, f) (omega arith))
    go true e false f rest le = let w : q m ≡ true = h m e in absurd (cc)
    go false e true f rest le = inr (rw (e, f) (omega arith))
    go false e false f (inl same) le = inl (λ l k. cons (f ∙ sym e) same l (same_lane l m) refl k)
    go false e false f (inr less) le = inr (rw (e, f) less)

-- a round leaves a set as it is, or adds a lane
closed_or_more : (links : Links) (pending lanes : Lanes) → Closed links pending lanes ⊎ (size lanes < size (one_link_on links pending lanes))
closed_or_more links pending lanes = go (same_or_more (has lanes) (has (one_link_on links pending lanes)) all_lanes (grows links pending lanes))
  where
    go : ((l : Lane) → has all_lanes l ≡ true → has (one_link_on links pending lanes) l ≡ has lanes l) ⊎ (size lanes < size (one_link_on links pending lanes)) → Closed links pending lanes ⊎ (size lanes < size (one_link_on links pending lanes))
    go (inl same) = inl (λ l. same l (has-all_lanes l))
    go (inr less) = inr less

size-le : (p : Lane → Bool) (ls : List Lane) → length (filter p ls) ≤ length ls
size-le p [] = omega arith
size-le p (l ∷ ls) = go (p l) refl (size-le p ls)
  where
    go : (b : Bool) → p l ≡ b → length (filter p ls) ≤ length ls → length (filter p (l ∷ ls)) ≤ length (l ∷ ls)
    go true e rest = rw e (omega arith)
    go false e rest = rw e (omega arith)

closed_or_many : (n : ℕ) (links : Links) (pending lanes : Lanes) → Closed links pending (links_on n links pending lanes) ⊎ (n + size lanes ≤ size (links_on n links pending lanes))
unfolding links_on
closed_or_many zero links pending lanes = inr (omega arith)
closed_or_many (suc n) links pending lanes = go (closed_or_more links pending lanes) (closed_or_many n links pending (one_link_on links pending lanes))
  where
    go : Closed links pending lanes ⊎ (size lanes < size (one_link_on links pending lanes))
        → Closed links pending (links_on n links pending (one_link_on links pending lanes)) ⊎ (n + size (one_link_on links pending lanes) ≤ size (links_on n links pending (one_link_on links pending lanes)))
        → Closed links pending (links_on n links pending (one_link_on links pending lanes)) ⊎ (suc n + size lanes ≤ size (links_on n links pending (one_link_on links pending lanes)))
    go (inl closed) rest = inl (closed_on n links pending (one_link_on links pending lanes) (closed_round links pending lanes closed))
    go (inr less) (inl closed) = inl closed
    go (inr less) (inr many) = inr (omega arith)

closed_reached : (links : Links) (pending lanes : Lanes) → Closed links pending (reached links pending lanes)
closed_reached links pending lanes = go (closed_or_many 20 links pending lanes)
  where
    all : Lanes
    all = links_on 20 links pending lanes

    small : size (one_link_on links pending all) ≤ 20
    small = size-le (has (one_link_on links pending all)) all_lanes

    full : 20 + size lanes ≤ size all → Closed links pending all ⊎ (size all < size (one_link_on links pending all)) → Closed links pending all
    full many (inl closed) = closed
    full many (inr less) = absurd (omega (arith, small))

    go : Closed links pending all ⊎ (20 + size lanes ≤ size all) → Closed links pending all
    go (inl closed) = closed
    go (inr many) = full many (closed_or_more links pending all)

keeps : (n : ℕ) (links : Links) (pending lanes : Lanes) (l : Lane) → has lanes l ≡ true → has (links_on n links pending lanes) l ≡ true
unfolding links_on
keeps zero links pending lanes l e = e
keeps (suc n) links pending lanes l e = keeps n links pending (one_link_on links pending lanes) l (grows links pending lanes l e)

complete : (links : Links) (pending lanes : Lanes) (l : Lane) → IsReached links pending lanes l → has (reached links pending lanes) l ≡ true
complete links pending lanes _ (within l h) = keeps 20 links pending lanes l h
complete links pending lanes _ (along m l r e p) =
    let there : has (reached links pending lanes) m ≡ true = complete links pending lanes m r in
    let linked : is_linked links (reached links pending lanes) l ≡ true =
    list_any-intro (λ k. has (reached links pending lanes) k && has (links_of links k) l) all_lanes m (has-all_lanes m) (both-true _ _ there e) in
    sym (closed_reached links pending lanes l) ∙ has-one_link_on links pending (reached links pending lanes) l ∙ or-right _ _ (both-true _ _ p linked)

-- following 20 links gives all lanes that are reached, and no others
pub all_reached : (links : Links) (pending lanes : Lanes) → IsAllReached links pending lanes (reached links pending lanes)
all_reached links pending lanes l = (sound 20 links pending lanes l, complete links pending lanes l)
