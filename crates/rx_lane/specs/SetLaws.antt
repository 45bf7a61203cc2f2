-- Membership in sets of lanes, and when two sets are equal.
use Rattle.std.specs.Prelude.{Bool, true, false, not, ◌&&◌, ◌≡◌, ℕ, zero, suc, ◌<◌, length, List, [], ◌∷◌, Some, filter, nat_eq, refl, slice_index_or}
use Rattle.std.proofs.Common.{sym, ◌∙◌, ap, arith}
use Rattle.std.specs.List.{list_all, list_any, find}
use Rattle.std.proofs.lemmas.Bool.Decides.{nat_tests}
use Rattle.rx_lane.specs.declared.lane.Lane.{Lane}
use Rattle.rx_lane.specs.declared.lane.Lane.TheVariants.{Sync, Input, Default, T1, T2, T3, T4, T5, T6, T7, T8, T9, T10, T11, T12, T13, T14, T15, T16, Retry}
use Rattle.rx_lane.specs.Lanes.{Lanes, priority, same_lane, all_lanes, has, lanes_where, highest, meets, within, minus, intersection, is_empty}

-- the lane with this priority
abbrev pub lane_at : ℕ → Lane
lane_at n = slice_index_or all_lanes n Sync

pub lane_at-priority : (l : Lane) → lane_at (priority l) ≡ l
lane_at-priority Sync = refl
lane_at-priority Input = refl
lane_at-priority Default = refl
lane_at-priority T1 = refl
lane_at-priority T2 = refl
lane_at-priority T3 = refl
lane_at-priority T4 = refl
lane_at-priority T5 = refl
lane_at-priority T6 = refl
lane_at-priority T7 = refl
lane_at-priority T8 = refl
lane_at-priority T9 = refl
lane_at-priority T10 = refl
lane_at-priority T11 = refl
lane_at-priority T12 = refl
lane_at-priority T13 = refl
lane_at-priority T14 = refl
lane_at-priority T15 = refl
lane_at-priority T16 = refl
lane_at-priority Retry = refl

-- every lane is in the list of all lanes
pub has-all_lanes : (l : Lane) → has all_lanes l ≡ true
has-all_lanes Sync = refl
has-all_lanes Input = refl
has-all_lanes Default = refl
has-all_lanes T1 = refl
has-all_lanes T2 = refl
has-all_lanes T3 = refl
has-all_lanes T4 = refl
has-all_lanes T5 = refl
has-all_lanes T6 = refl
has-all_lanes T7 = refl
has-all_lanes T8 = refl
has-all_lanes T9 = refl
has-all_lanes T10 = refl
has-all_lanes T11 = refl
has-all_lanes T12 = refl
has-all_lanes T13 = refl
has-all_lanes T14 = refl
has-all_lanes T15 = refl
has-all_lanes T16 = refl
has-all_lanes Retry = refl

pub nat_eq-true : (a b : ℕ) → nat_eq a b ≡ true → a ≡ b
nat_eq-true a b e = grind (arith, nat_tests)

-- lanes of one priority are one lane
pub same_lane-true : (a b : Lane) → same_lane a b ≡ true → a ≡ b
same_lane-true a b e = sym (lane_at-priority a) ∙ ap lane_at (nat_eq-true _ _ e) ∙ lane_at-priority b

-- two tests that agree keep the same lanes
filter_agree : (p q : Lane → Bool) (ls : List Lane) → ((l : Lane) → p l ≡ q l) → filter p ls ≡ filter q ls
filter_agree p q [] h = refl
filter_agree p q (l ∷ ls) h = let here = h l in let rest = filter_agree p q ls h in rw (here, rest) refl

-- two sets with the same lanes are equal
pub lanes_agree : (p q : Lane → Bool) → ((l : Lane) → p l ≡ q l) → lanes_where p ≡ lanes_where q
unfolding lanes_where
lanes_agree p q h = filter_agree p q all_lanes h

has-filter : (p : Lane → Bool) (ls : List Lane) (l : Lane) → has (filter p ls) l ≡ (p l && has ls l)
has-filter p [] l = and_false (p l)
  where
    and_false : (b : Bool) → false ≡ (b && false)
    and_false true = refl
    and_false false = refl
has-filter p (m ∷ ls) l = go (same_lane l m) refl (p m) refl (p l) refl (has-filter p ls l)
  where
    go : (s : Bool) → same_lane l m ≡ s → (b : Bool) → p m ≡ b → (c : Bool) → p l ≡ c → has (filter p ls) l ≡ (p l && has ls l) → has (filter p (m ∷ ls)) l ≡ (p l && has (m ∷ ls) l)
    go true e true f c g rest = let same : c ≡ true = sym g ∙ ap p (same_lane-true l m e) ∙ f in rw (f, g, same, e) refl
    go true e false f c g rest = let same : c ≡ false = sym g ∙ ap p (same_lane-true l m e) ∙ f in rw (f, rest, g, same) refl
    go false e true f c g rest = rw (f, e, rest) refl
    go false e false f c g rest = rw (f, e, rest) refl

-- a set has the lanes that pass its test
pub has-lanes_where : (p : Lane → Bool) (l : Lane) → has (lanes_where p) l ≡ p l
unfolding lanes_where
has-lanes_where p l = has-filter p all_lanes l ∙ ap (λ b. p l && b) (has-all_lanes l) ∙ and_true (p l)
  where
    and_true : (b : Bool) → (b && true) ≡ b
    and_true true = refl
    and_true false = refl

list_any-filter : (q p : Lane → Bool) (ls : List Lane) → list_any q (filter p ls) ≡ list_any (λ l. p l && q l) ls
list_any-filter q p [] = refl
list_any-filter q p (l ∷ ls) = go (p l) refl (list_any-filter q p ls)
  where
    go : (b : Bool) → p l ≡ b → list_any q (filter p ls) ≡ list_any (λ m. p m && q m) ls → list_any q (filter p (l ∷ ls)) ≡ list_any (λ m. p m && q m) (l ∷ ls)
    go true e rest = rw (e, rest) refl
    go false e rest = rw (e, rest) refl

list_all-filter : (q p : Lane → Bool) (ls : List Lane) → list_all q (filter p ls) ≡ not (list_any (λ l. p l && not (q l)) ls)
list_all-filter q p [] = refl
list_all-filter q p (l ∷ ls) = go (p l) refl (q l) refl (list_all-filter q p ls)
  where
    go : (b : Bool) → p l ≡ b → (c : Bool) → q l ≡ c → list_all q (filter p ls) ≡ not (list_any (λ m. p m && not (q m)) ls) → list_all q (filter p (l ∷ ls)) ≡ not (list_any (λ m. p m && not (q m)) (l ∷ ls))
    go true e true f rest = rw (e, f, rest) refl
    go true e false f rest = rw (e, f) refl
    go false e c f rest = rw (e, rest) refl

is_empty-filter : (p : Lane → Bool) (ls : List Lane) → is_empty (filter p ls) ≡ not (list_any p ls)
is_empty-filter p [] = refl
is_empty-filter p (l ∷ ls) = go (p l) refl (is_empty-filter p ls)
  where
    go : (b : Bool) → p l ≡ b → is_empty (filter p ls) ≡ not (list_any p ls) → is_empty (filter p (l ∷ ls)) ≡ not (list_any p (l ∷ ls))
    go true e rest = rw e refl
    go false e rest = rw (e, rest) refl

highest-filter : (p : Lane → Bool) (ls : List Lane) → highest (filter p ls) ≡ find p ls
highest-filter p [] = refl
highest-filter p (l ∷ ls) = go (p l) refl (highest-filter p ls)
  where
    go : (b : Bool) → p l ≡ b → highest (filter p ls) ≡ find p ls → highest (filter p (l ∷ ls)) ≡ find p (l ∷ ls)
    go true e rest = rw e refl
    go false e rest = rw (e, rest) refl

list_any-agree : (p q : Lane → Bool) (ls : List Lane) → ((l : Lane) → p l ≡ q l) → list_any p ls ≡ list_any q ls
list_any-agree p q [] h = refl
list_any-agree p q (l ∷ ls) h = let here = h l in let rest = list_any-agree p q ls h in rw (here, rest) refl

find-agree : (p q : Lane → Bool) (ls : List Lane) → ((l : Lane) → p l ≡ q l) → find p ls ≡ find q ls
find-agree p q [] h = refl
find-agree p q (l ∷ ls) h = let here = h l in let rest = find-agree p q ls h in rw (here, rest) refl

-- the highest lane of a set is the first of all lanes that is in it
pub highest-lanes_where : (p : Lane → Bool) → highest (lanes_where p) ≡ find (has (lanes_where p)) all_lanes
unfolding lanes_where
highest-lanes_where p = highest-filter p all_lanes ∙ sym (find-agree (has (lanes_where p)) p all_lanes (has-lanes_where p))

-- two sets meet if what both have isn't empty
pub meets-lanes_where : (p : Lane → Bool) (b : Lanes) → meets (lanes_where p) b ≡ not (is_empty (intersection (lanes_where p) b))
unfolding lanes_where
meets-lanes_where p b =
    list_any-filter (has b) p all_lanes
    ∙ list_any-agree _ (λ l. has (lanes_where p) l && has b l) all_lanes (λ l. ap (λ x. x && has b l) (sym (has-lanes_where p l)))
    ∙ sym (ap not (is_empty-filter (λ l. has (lanes_where p) l && has b l) all_lanes) ∙ not-not _)
  where
    not-not : (b : Bool) → not (not b) ≡ b
    not-not true = refl
    not-not false = refl

-- a set is within another if nothing is left of it without the other
pub within-lanes_where : (p : Lane → Bool) (b : Lanes) → within (lanes_where p) b ≡ is_empty (minus (lanes_where p) b)
unfolding lanes_where
within-lanes_where p b =
    list_all-filter (has b) p all_lanes
    ∙ ap not (list_any-agree _ (λ l. has (lanes_where p) l && not (has b l)) all_lanes (λ l. ap (λ x. x && not (has b l)) (sym (has-lanes_where p l))))
    ∙ sym (is_empty-filter (λ l. has (lanes_where p) l && not (has b l)) all_lanes)

pub list_all-agree : (p q : Lane → Bool) (ls : List Lane) → ((l : Lane) → p l ≡ q l) → list_all p ls ≡ list_all q ls
list_all-agree p q [] h = refl
list_all-agree p q (l ∷ ls) h = let here = h l in let rest = list_all-agree p q ls h in rw (here, rest) refl

-- the first lane of a list that passes a test
pub find-first : (p : Lane → Bool) (ls : List Lane) (i : ℕ) → i < length ls → p (slice_index_or ls i Sync) ≡ true → ((k : ℕ) → k < i → p (slice_index_or ls k Sync) ≡ false) → find p ls ≡ Some (slice_index_or ls i Sync)
find-first p [] i lt here before = absurd (omega arith)
find-first p (l ∷ ls) zero lt here before = rw here refl
find-first p (l ∷ ls) (suc i) lt here before =
    let first : p l ≡ false = before 0 (omega arith) in
    let rest : find p ls ≡ Some (slice_index_or ls i Sync) = find-first p ls i (omega arith) here (λ k h. before (suc k) (omega arith)) in
    rw first rest
