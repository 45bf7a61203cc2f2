-- A set that is gathered lane by lane.
use Rattle.std.specs.Prelude.{Bool, true, false, ◌≡◌, ◌&&◌, ◌||◌, ℕ, ◌+◌, ◌<◌, List, [], ◌∷◌, length, take, slice_index_or, refl}
use Rattle.std.specs.List.{list_any}
use Rattle.std.proofs.Common.{sym, ◌∙◌, ap, arith}
use Rattle.std.proofs.lemmas.List.Folds.{list_any_more}
use Rattle.std.proofs.lemmas.Bool.Decides.{nat_tests}
use Rattle.rx_lane.specs.declared.lane.Lane.{Lane}
use Rattle.rx_lane.specs.declared.lane.Lane.TheVariants.{Sync}
use Rattle.rx_lane.specs.Lanes.{Lanes, same_lane, all_lanes, has, lanes_where, no_lanes, one, union}
use Rattle.rx_lane.specs.SetLaws.{lane_at, has-lanes_where, lanes_agree, has-all_lanes, same_lane-true}

pub bool_ext : (a b : Bool) → (a ≡ true → b ≡ true) → (b ≡ true → a ≡ true) → a ≡ b
bool_ext true b f g = sym (f refl)
bool_ext false true f g = g refl
bool_ext false false f g = refl

pub same_lane-refl : (l : Lane) → same_lane l l ≡ true
same_lane-refl l = grind (arith, nat_tests)

pub and-true : (a b : Bool) → (a && b) ≡ true → (a ≡ true) × (b ≡ true)
and-true true b e = (refl, e)
and-true false b e = absurd (cc)

pub both-true : (a b : Bool) → a ≡ true → b ≡ true → (a && b) ≡ true
both-true true b e f = f
both-true false b e f = absurd (cc)

-- some lane of a set passes
pub list_any-intro : (q : Lane → Bool) (ls : List Lane) (m : Lane) → has ls m ≡ true → q m ≡ true → list_any q ls ≡ true
list_any-intro q [] m h e = absurd (cc)
list_any-intro q (l ∷ ls) m h e = go (λ rest. list_any-intro q ls m rest e) (same_lane m l) refl (q l) refl h
  where
    go : (has ls m ≡ true → list_any q ls ≡ true) → (s : Bool) → same_lane m l ≡ s → (b : Bool) → q l ≡ b → (s || has ls m) ≡ true → (b || list_any q ls) ≡ true
    go next s f true g k = refl
    go next true f false g k = let same : m ≡ l = same_lane-true m l f in let w : q l ≡ true = ap q (sym same) ∙ e in absurd (cc)
    go next false f false g k = next k

pub list_any-elim : (q : Lane → Bool) (ls : List Lane) → list_any q ls ≡ true → (m : Lane) × ((has ls m ≡ true) × (q m ≡ true))
list_any-elim q [] e = absurd (cc)
list_any-elim q (l ∷ ls) e = go (λ rest. list_any-elim q ls rest) (q l) refl e
  where
    wider : (m : Lane) → has ls m ≡ true → (s : Bool) → (s || has ls m) ≡ true
    wider m h true = refl
    wider m h false = h

    here : (s : Bool) → s ≡ true → (s || has ls l) ≡ true
    here true e = refl
    here false e = absurd (cc)

    go : (list_any q ls ≡ true → (m : Lane) × ((has ls m ≡ true) × (q m ≡ true))) → (b : Bool) → q l ≡ b → (b || list_any q ls) ≡ true → (m : Lane) × ((has (l ∷ ls) m ≡ true) × (q m ≡ true))
    go next true f k = (l, (here (same_lane l l) (same_lane-refl l), f))
    go next false f k = let r = next k in (r.0, (wider r.0 r.1.0 (same_lane r.0 l), r.1.1))

-- some lane of a set passes exactly if some lane is in it and passes
pub list_any-members : (q : Lane → Bool) (ls : List Lane) → list_any (λ m. q m && has ls m) all_lanes ≡ list_any q ls
list_any-members q ls = bool_ext _ _ left right
  where
    left : list_any (λ m. q m && has ls m) all_lanes ≡ true → list_any q ls ≡ true
    left e =
        let r = list_any-elim (λ m. q m && has ls m) all_lanes e in
        let both = and-true (q r.0) (has ls r.0) r.1.1 in
        list_any-intro q ls r.0 both.1 both.0

    right : list_any q ls ≡ true → list_any (λ m. q m && has ls m) all_lanes ≡ true
    right e =
        let r = list_any-elim q ls e in
        list_any-intro (λ m. q m && has ls m) all_lanes r.0 (has-all_lanes r.0) (both-true (q r.0) (has ls r.0) r.1.1 r.1.0)

-- the lanes of the parts of those lanes of a list that pass
abbrev pub gather : (p : Lane → Bool) (part : Lane → Lanes) (ls : List Lane) → Lanes
gather p part ls = lanes_where (λ l. list_any (λ m. p m && has (part m) l) ls)

pub gather-none : (p : Lane → Bool) (part : Lane → Lanes) → no_lanes ≡ gather p part []
unfolding lanes_where
gather-none p part = refl

one_more : (p : Lane → Bool) (part : Lane → Lanes) (ls : List Lane) (i : ℕ) (l : Lane) → i < length ls
    → list_any (λ m. p m && has (part m) l) (take (i + 1) ls) ≡ (has (gather p part (take i ls)) l || (p (slice_index_or ls i Sync) && has (part (slice_index_or ls i Sync)) l))
one_more p part ls i l lt =
    list_any_more (λ m. p m && has (part m) l) ls i Sync lt
    ∙ ap (λ b. b || (p (slice_index_or ls i Sync) && has (part (slice_index_or ls i Sync)) l)) (sym (has-lanes_where (λ k. list_any (λ m. p m && has (part m) k) (take i ls)) l))

-- the next lane passes
pub gather-more : (p : Lane → Bool) (part : Lane → Lanes) (ls : List Lane) (i : ℕ) → i < length ls → p (slice_index_or ls i Sync) ≡ true
    → union (gather p part (take i ls)) (part (slice_index_or ls i Sync)) ≡ gather p part (take (i + 1) ls)
gather-more p part ls i lt e = lanes_agree _ _ (λ l.
    sym (one_more p part ls i l lt ∙ ap (λ b. has (gather p part (take i ls)) l || (b && has (part (slice_index_or ls i Sync)) l)) e))

-- the next lane doesn't pass
pub gather-same : (p : Lane → Bool) (part : Lane → Lanes) (ls : List Lane) (i : ℕ) → i < length ls → p (slice_index_or ls i Sync) ≡ false
    → gather p part (take i ls) ≡ gather p part (take (i + 1) ls)
gather-same p part ls i lt e = lanes_agree _ _ (λ l.
    sym (one_more p part ls i l lt ∙ ap (λ b. has (gather p part (take i ls)) l || (b && has (part (slice_index_or ls i Sync)) l)) e
    ∙ or-false _ ∙ has-lanes_where (λ k. list_any (λ m. p m && has (part m) k) (take i ls)) l))
  where
    or-false : (b : Bool) → (b || false) ≡ b
    or-false true = refl
    or-false false = refl

-- the lanes that pass, gathered one by one
pub gather-one : (p : Lane → Bool) → gather p one all_lanes ≡ lanes_where p
gather-one p = lanes_agree _ _ (λ l. bool_ext _ _ (left l) (right l))
  where
    left : (l : Lane) → list_any (λ m. p m && has (one m) l) all_lanes ≡ true → p l ≡ true
    left l e =
        let r = list_any-elim (λ m. p m && has (one m) l) all_lanes e in
        let both = and-true (p r.0) (has (one r.0) l) r.1.1 in
        let same : r.0 ≡ l = same_lane-true r.0 l (sym (has-lanes_where (same_lane r.0) l) ∙ both.1) in
        ap p (sym same) ∙ both.0

    right : (l : Lane) → p l ≡ true → list_any (λ m. p m && has (one m) l) all_lanes ≡ true
    right l e =
        list_any-intro (λ m. p m && has (one m) l) all_lanes l (has-all_lanes l)
        (both-true (p l) (has (one l) l) e (has-lanes_where (same_lane l) l ∙ same_lane-refl l))

-- the next lane passes, and its part is added
pub add_part : (p : Lane → Bool) (part : Lane → Lanes) (i : ℕ) (found item new : Lanes) → i < 20 → p (lane_at i) ≡ true → found ≡ gather p part (take i all_lanes) → item ≡ part (lane_at i) → new ≡ union found item
    → new ≡ gather p part (take (i + 1) all_lanes)
add_part p part i found item new lt pass e f is =
    is ∙ ap (λ s. union s item) e ∙ ap (union (gather p part (take i all_lanes))) f ∙ gather-more p part all_lanes i lt pass

-- the next lane doesn't pass
pub add_none : (p : Lane → Bool) (part : Lane → Lanes) (i : ℕ) (found new : Lanes) → i < 20 → p (lane_at i) ≡ false → found ≡ gather p part (take i all_lanes) → new ≡ found
    → new ≡ gather p part (take (i + 1) all_lanes)
add_none p part i found new lt pass e is = is ∙ e ∙ gather-same p part all_lanes i lt pass

-- all lanes have been asked
pub gathered : (p : Lane → Bool) (part : Lane → Lanes) (i : ℕ) (found : Lanes) → i ≡ 20 → found ≡ gather p part (take i all_lanes) → found ≡ gather p part all_lanes
gathered p part i found e h = h ∙ ap (λ n. gather p part (take n all_lanes)) e
