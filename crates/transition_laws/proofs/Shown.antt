-- The laws of flags.
use Rattle.std.specs.Prelude.{◌≡◌, ◌⊎◌, ◌↔◌, ℕ, zero, suc, ◌+◌, ℤ, pos, Bool, true, false, List, [], ◌∷◌, Some, length, map, refl, slice_get}
use Rattle.std.specs.List.{AllByRecursion, enumerate_from}
use Rattle.std.proofs.Common.{ap, arith, inl, inr, sym, ◌∙◌}
use Rattle.rx_lane.specs.Lanes.{has}
use Rattle.rx_ast.specs.Syntax.{Program}
use Rattle.rx_elem.specs.Spots.{Mounted, mounted}
use Rattle.rx_queue.specs.Journal.{Target, committed_value, hook, updates_of}
use Rattle.rx_meaning.specs.Expressions.{answers_of}
use Rattle.rx_model.specs.State.{State, linked_lanes}
use Rattle.transition_laws.specs.Transitions.{AllSettled, IsStarted, Transition, are_settled, is_gone, lane_of, updates_in}
use Rattle.transition_laws.specs.Flags.{FlagIsKept, FlagsAreKept, FlagsShow, IsOpenUntaken, IsWhole, KeepsLane, UnsetsLast, WaitsFor, flags_a_transition, transitions_of}
use Rattle.transition_laws.specs.Laws.{FlagLaw, KeptFlags}
use Rattle.transition_laws.proofs.Journals.{each_update}
use Rattle.transition_laws.proofs.Lists.{all_and, all_more, order_more}
use Rattle.transition_laws.proofs.Facts.{OneKept, Pends, TwoKept, Yet, one_pends, settled_accounted}
use Rattle.transition_laws.proofs.Marks.{lost_pends}
use Rattle.transition_laws.proofs.Values.{flag_shows}
use Rattle.transition_laws.proofs.Mounting.{flag_begins}
use Rattle.transition_laws.proofs.Instances.{got_in, mounted_begin}
use Rattle.transition_laws.proofs.Staying.{mounted_here, visible_listed}
use Rattle.transition_laws.proofs.Along.{Holds, reached_holds, turned_holds}

-- What is kept of a flag

module _ (p : Program) (s : State) (h : Holds p s) (m : Mounted) (k : ℕ) (n : ℕ) (at : slice_get (mounted s.tree) n ≡ Some m) (is : flags_a_transition p m.component k ≡ true) where
  abbrev flag : Target
  flag = hook m.number k

  abbrev One : Transition → Type 0
  One e = OneKept s.tree flag (linked_lanes s.linked flag) s.progress s.event.lane s.schedule.next_transition (length s.journal.updates) e

  abbrev PendsIn : Transition → Type 0
  PendsIn e = AllByRecursion (Pends s.tree s.schedule.pending) (updates_in e)

  seen : is_gone s.tree flag ≡ false
  seen = mounted_here s.tree m k (got_in (mounted s.tree) n m at)

  two_wait : (e f : Transition) → One e × PendsIn e → One f × PendsIn f → TwoKept s.tree s.schedule.links s.progress e f → WaitsFor s e f
  two_wait e f a b t = go t.waits (one_pends s.tree s.schedule.pending e a.1.1 a.0.same) b.1.1.0
    where
      clash : {b : Bool} → b ≡ true → b ≡ false → ⊥
      clash h k = cc (h, k)

      go : (are_settled s.tree e ≡ true) ⊎ Yet s.schedule.links s.progress e f → (are_settled s.tree e ≡ true) ⊎ (has s.schedule.pending (lane_of e) ≡ true) → Pends s.tree s.schedule.pending f.unsetting
          → WaitsFor s e f
      go (inl x) q r = inl x
      go (inr y) (inl x) r = inl x
      go (inr y) (inr q) (inl x) = absurd (clash (settled_accounted s.tree flag f.unsetting seen b.0.own x) y.yet)
      go (inr y) (inr q) (inr r) = inr (record { yet_to_unset = y.yet; earlier_pending = q; later_pending = r; linked = y.there; together = y.together })

  flag_kept : FlagIsKept s flag
  flag_kept =
      let facts = h.1.1 m k (got_in (mounted s.tree) n m at) is in
      let es = transitions_of s flag in
      let pends = each_update (Pends s.tree s.schedule.pending) flag s.journal.updates (lost_pends s.tree s.journal.updates s.schedule.pending h.1.0.lost) in
      record {
        lanes = all_more One (KeepsLane s flag) (λ e x. x.lane) es facts.each;
        order = order_more (λ e. One e × PendsIn e) (TwoKept s.tree s.schedule.links s.progress) (WaitsFor s) two_wait es (all_and One PendsIn es facts.each pends) facts.order;
        last = all_more One (UnsetsLast s) (λ e x. x.last) es facts.each;
        whole = all_more One (IsWhole s.progress) (λ e x. x.whole) es facts.each;
        untaken = all_more One (IsOpenUntaken s) (λ e x on. x.untaken on.0 on.1) es facts.each;
      }

flags_kept : (p : Program) (s : State) → Holds p s → FlagsAreKept p s
flags_kept p s h n k m at is = flag_kept p s h m k n at is

-- What a flag shows

-- a value at a place, and what it is of
value_at : (f : ℕ × ℤ → ℤ) (from : ℕ) (xs : List ℤ) (k : ℕ) (x : ℤ) → slice_get (map f (enumerate_from from xs)) k ≡ Some x → (y : ℤ) × (slice_get xs k ≡ Some y) × (f (from + k, y) ≡ x)
value_at f from [] k x at = absurd (cc at)
value_at f from (y ∷ xs) zero x at =
    let same : f (from, y) ≡ x = cc in
    let place : from + 0 ≡ from = omega arith in
    (y, refl, ap (λ (n : ℕ). f (n, y)) place ∙ same)
value_at f from (y ∷ xs) (suc k) x at =
    let r = value_at f (from + 1) xs k x at in
    let place : from + suc k ≡ from + 1 + k = omega arith in
    (r.0, r.1, ap (λ (n : ℕ). f (n, r.0)) place ∙ r.2)

flags_show : (p : Program) (s : State) → Holds p s → FlagsShow p s
flags_show p s h n k m x at visible is there = ((λ e. told.0 (value ∙ e)), (λ all. sym value ∙ told.1 all))
  where
    answer : ℕ × ℤ → ℤ
    answer y = committed_value (answers_of p) y.1 (updates_of (hook m.number y.0) s.journal)

    found : (y : ℤ) × (slice_get m.initials k ≡ Some y) × (answer (0 + k, y) ≡ x)
    found = value_at answer 0 m.initials k x there

    begins : found.0 ≡ pos 0
    begins = flag_begins p m.component m.initials (mounted_begin p s.tree h.1.0.tree m (got_in (mounted s.tree) n m at)) k found.0 is found.1

    value : committed_value (answers_of p) (pos 0) (updates_of (hook m.number k) s.journal) ≡ x
    value =
        let place : 0 + k ≡ k = omega arith in
        sym (ap (λ (y : ℤ). answer (k, y)) begins) ∙ (sym (ap (λ (i : ℕ). answer (i, found.0)) place) ∙ found.2)

    told : (committed_value (answers_of p) (pos 0) (updates_of (hook m.number k) s.journal) ≡ pos 0) ↔ AllByRecursion (λ e. IsStarted e → AllSettled s.tree e) (transitions_of s (hook m.number k))
    told =
        flag_shows s.tree (hook m.number k) (linked_lanes s.linked (hook m.number k)) s.schedule.links s.progress s.event.lane s.schedule.next_transition s.journal.updates (answers_of p)
        (mounted_here s.tree m k (got_in (mounted s.tree) n m at)) (visible_listed s.tree m k (got_in (mounted s.tree) n m at) visible) h.1.0.owed
        (h.1.1 m k (got_in (mounted s.tree) n m at) is)

-- What is kept of flags holds always.
pub kept_flags : (p : Program) → KeptFlags p
kept_flags p accepted bounded s reached =
    (flags_kept p s (reached_holds p accepted bounded s reached), λ t turns. flags_kept p t (turned_holds p accepted bounded s t reached turns))

-- A flag shows exactly whether a transition of it is pending.
pub flag_law : (p : Program) → FlagLaw p
flag_law p accepted bounded s reached =
    (flags_show p s (reached_holds p accepted bounded s reached), λ t turns. flags_show p t (turned_holds p accepted bounded s t reached turns))
