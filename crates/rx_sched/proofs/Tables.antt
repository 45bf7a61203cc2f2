-- A table with an entry for each lane that is written entry by entry.
use Rattle.std.specs.Prelude.{Bool, true, false, cond, ◌≡◌, ℕ, ◌+◌, ◌<◌, ◌≤◌, List, length, map, slice_index_or, slice_set, refl}
use Rattle.std.specs.List.{range_with_len}
use Rattle.std.proofs.Common.{sym, ◌∙◌, ap, arith, subst, length-set, zero-add}
use Rattle.std.proofs.lemmas.List.{get_or-set_same, get_or-set_other, get_or-map, get_or_default}
use Rattle.std.proofs.lemmas.List.FromFn.{fill_by_all, get_or-range_with_len}
use borrow.Author.Count.{below_more}
use Rattle.rx_lane.specs.declared.lane.Lane.{Lane}
use Rattle.rx_lane.specs.declared.lane.Lane.TheVariants.{Sync}
use Rattle.rx_lane.specs.Lanes.{all_lanes, priority}
use Rattle.rx_lane.specs.SetLaws.{lane_at}

-- the entries before one are written, the others are as they were
pub record Fills {X : Type 0} (f : ℕ → X) (d : X) (old s : List X) (i : ℕ) : Type 0 where
  pub long : length s ≡ 20
  pub done : (k : ℕ) → k < i → slice_index_or s k d ≡ f k
  pub left : (k : ℕ) → i ≤ k → slice_index_or s k d ≡ slice_index_or old k d

pub begun : {X : Type 0} (f : ℕ → X) (d : X) (old : List X) → length old ≡ 20 → Fills f d old old 0
begun f d old h = record { long = h; done = λ k lt. absurd (omega arith); left = λ k le. refl }

-- an entry is written
pub written : {X : Type 0} (f : ℕ → X) (d : X) (old s : List X) (i j : ℕ) (v : X) → Fills f d old s i → i < 20 → j ≡ i → v ≡ f i → Fills f d old (slice_set s j v) (i + 1)
written f d old s i j v h lt e w =
    record {
      long = length-set s j v ∙ h.long;
      done = here;
      left = λ k le. get_or-set_other s j k v d (omega arith) ∙ h.left k (omega arith);
    }
  where
    at : slice_index_or (slice_set s j v) j d ≡ f j
    at = let in_range : j < length s = omega (arith, h.long) in get_or-set_same s j v d in_range ∙ w ∙ ap f (sym e)

    here : (k : ℕ) → k < i + 1 → slice_index_or (slice_set s j v) k d ≡ f k
    here = below_more (λ k. slice_index_or (slice_set s j v) k d ≡ f k) i (λ k less. get_or-set_other s j k v d (omega arith) ∙ h.done k less) (subst (λ k. slice_index_or (slice_set s j v) k d ≡ f k) e at)

-- an entry stays, since it is right
pub stays : {X : Type 0} (f : ℕ → X) (d : X) (old s : List X) (i : ℕ) → Fills f d old s i → slice_index_or old i d ≡ f i → Fills f d old s (i + 1)
stays f d old s i h e =
    record {
      long = h.long;
      done = below_more (λ k. slice_index_or s k d ≡ f k) i h.done (h.left i (omega arith) ∙ e);
      left = λ k le. h.left k (omega arith);
    }

-- all entries are written
pub filled : {X : Type 0} (f : ℕ → X) (d : X) (old s : List X) → Fills f d old s 20 → s ≡ map f (range_with_len 0 20)
filled f d old s h = fill_by_all f s 20 d h.long h.done

-- the table of all lanes by their places
pub map-all_lanes : {X : Type 0} (g : Lane → X) → map (λ k. g (lane_at k)) (range_with_len 0 20) ≡ map g all_lanes
map-all_lanes g = refl

-- the place of the lane at a place
pub priority-lane_at : (i : ℕ) → i < 20 → priority (lane_at i) ≡ i
priority-lane_at i h = sym (get_or-map priority all_lanes i Sync 0 h) ∙ get_or-range_with_len 0 20 i 0 h ∙ zero-add i

pub if_true : {X : Type 0} (b : Bool) (v a e : X) → b ≡ true → v ≡ a → v ≡ cond b a e
if_true true v a e h same = same
if_true false v a e h same = absurd (cc)

pub if_false : {X : Type 0} (b : Bool) (v a e : X) → b ≡ false → v ≡ e → v ≡ cond b a e
if_false false v a e h same = same
if_false true v a e h same = absurd (cc)

-- a new table in which the entry of the next lane is written
pub write : {X : Type 0} (f : ℕ → X) (d : X) (old s new : List X) (i j : ℕ) (v : X) → Fills f d old s i → i < 20 → j ≡ priority (lane_at i) → v ≡ f i → new ≡ slice_set s j v → Fills f d old new (i + 1)
write f d old s new i j v h lt e w is = subst (λ t. Fills f d old t (i + 1)) (sym is) (written f d old s i j v h lt (e ∙ priority-lane_at i lt) w)

-- a table in which the entry of the next lane stays
pub skip : {X : Type 0} (f : ℕ → X) (d : X) (old s new : List X) (i : ℕ) → Fills f d old s i → i < 20 → slice_index_or old (priority (lane_at i)) d ≡ f i → new ≡ s → Fills f d old new (i + 1)
skip f d old s new i h lt e is =
    subst (λ t. Fills f d old t (i + 1)) (sym is) (stays f d old s i h (ap (λ k. slice_index_or old k d) (sym (priority-lane_at i lt)) ∙ e))

-- the entry of the next lane is the old one
pub next_entry : {X : Type 0} (f : ℕ → X) (d e : X) (old s : List X) (i j : ℕ) → Fills f d old s i → i < 20 → j ≡ priority (lane_at i) → slice_index_or s j e ≡ slice_index_or old (priority (lane_at i)) d
next_entry f d e old s i j h lt is =
    let place : j ≡ i = is ∙ priority-lane_at i lt in
    let inside : j < length s = omega (arith, h.long) in
    get_or_default s j e d inside ∙ ap (λ k. slice_index_or s k d) place ∙ h.left i (omega arith) ∙ ap (λ k. slice_index_or old k d) (sym (priority-lane_at i lt))

-- all entries are written, by a function of the lanes
pub whole : {X : Type 0} (g : Lane → X) (d : X) (old s : List X) (i : ℕ) → i ≡ 20 → Fills (λ k. g (lane_at k)) d old s i → s ≡ map g all_lanes
whole g d old s i e h = filled (λ k. g (lane_at k)) d old s (subst (λ n. Fills (λ k. g (lane_at k)) d old s n) e h) ∙ map-all_lanes g
