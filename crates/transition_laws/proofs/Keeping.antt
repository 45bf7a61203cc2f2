-- What is kept of all flags along a run, and what dispatches do to it.
use Rattle.std.specs.Prelude.{◌≡◌, ◌⊎◌, ℕ, ◌+◌, ◌≤◌, Bool, true, false, not, List, [], ◌∷◌, ◌++◌, pos, Option, Some, None, IfSome, filter, find, is_none, length, unwrap_or, if◌then◌else◌, refl}
use Rattle.std.specs.Option.{option_map_or}
use Rattle.std.specs.List.{AllByRecursion}
use Rattle.std.proofs.Common.{ap, append_assoc, arith, inl, inr, subst, sym, ◌∙◌}
use Rattle.std.proofs.lemmas.List.{length-append}
use Rattle.rx_lane.specs.declared.lane.Lane.{Lane}
use Rattle.rx_lane.specs.declared.lane.Lane.TheVariants as lane
use Rattle.rx_lane.specs.Lanes.{Lanes, has, is_transition, no_lanes, one, same_lane, union}
use Rattle.rx_ast.specs.Syntax.{Program}
use Rattle.rx_step.specs.declared.step.LaneWord.{LaneWord}
use Rattle.rx_step.specs.declared.step.LaneWord.TheVariants as word
use Rattle.rx_elem.specs.Spots.{Mounted, mounted, visible_instances}
use Rattle.rx_elem.proofs.Deciding.{same_itself}
use Rattle.rx_queue.specs.declared.update.Op.{Op}
use Rattle.rx_queue.specs.declared.update.Op.TheVariants as op
use Rattle.rx_queue.specs.History.{stands_owed}
use Rattle.rx_queue.specs.Journal.{Target, Posted, hook, resource, same_target}
use Rattle.rx_hooks.specs.Hooks.{links_with}
use Rattle.rx_sched.specs.Links.{linked_by}
use Rattle.rx_sched.specs.Schedule.{claimed, linked, next_claim}
use Rattle.rx_meaning.specs.Again.{NoneOwed}
use Rattle.rx_meaning.specs.Fresh.{IsTree}
use Rattle.rx_model.specs.Accepting.{accepted, dispatched_for, next_update, with_linked}
use Rattle.rx_model.specs.State.{Linked, Progress, State, linked_lanes}
use Rattle.rx_model.proofs.LaneSets.{same_lane-same}
use Rattle.commit_laws.proofs.NoneLost.{NoneLost, more_pending, one_itself, push_pending, union_left, union_right}
use Rattle.run_laws.specs.Carried.{IsCarried, RendersOn}
use Rattle.transition_laws.specs.Transitions.{Transition, are_settled, is_gone, lane_of, transitions_in, updates_in}
use Rattle.transition_laws.specs.Flags.{flags_a_transition}
use Rattle.transition_laws.proofs.Journals.{CountedFrom, counted_push, each_update}
use Rattle.transition_laws.proofs.Lists.{all_and, all_more}
use Rattle.transition_laws.proofs.Facts.{FlagFacts, OneKept, Pends, one_pends, target_is}
use Rattle.transition_laws.proofs.Sending.{pushed, started}
use Rattle.transition_laws.proofs.Marks.{lost_pends}
use Rattle.transition_laws.proofs.LinkSets.{all_linked, claim_another, claim_transition, own_linked, pending_linked, still_linked}
use Rattle.transition_laws.proofs.Instances.{IsIn}

-- what is kept of one flag
abbrev pub FactsOf : State → Target → Type 0
FactsOf s flag = FlagFacts s.tree flag (linked_lanes s.linked flag) s.schedule.links s.progress s.event.lane s.schedule.next_transition s.journal.updates

-- what is kept beside that
pub record Base (p : Program) (s : State) : Type 0 where
  pub tree : IsTree p s.tree
  pub counted : CountedFrom 0 s.journal.updates
  pub lost : NoneLost s.tree s.journal.updates s.schedule.pending
  pub owed : NoneOwed (visible_instances s.tree) s.journal.updates
  pub next : is_transition s.schedule.next_transition ≡ true
  pub unclaimed : (l : Lane) → s.event.lane ≡ Some l → same_lane l s.schedule.next_transition ≡ false

-- what is kept of each flag of a mounted instance
abbrev pub AllFacts : Program → State → Type 0
AllFacts p s = (m : Mounted) (k : ℕ) → IsIn m (mounted s.tree) → flags_a_transition p m.component k ≡ true → FactsOf s (hook m.number k)

-- A dispatch in a transition lane, by the lane of its event

abbrev marked_for : State → Target → Op → Option Lane → State
marked_for s t o x =
    let l = unwrap_or x s.schedule.next_transition in
    let lanes = links_with l s.schedule.pending (linked_lanes s.linked t) in
    accepted (record s { schedule = linked (if is_none x then claimed s.schedule else s.schedule) lanes; linked = with_linked s.linked t lanes; event = record s.event { lane = Some l } }) (next_update s.journal t o l)

-- Base

none_owed_push : (visible : List ℕ) (us : List Posted) (u : Posted) → stands_owed u.standing ≡ false → NoneOwed visible us → NoneOwed visible (us ++ u ∷ [])
none_owed_push visible [] u h k = ((λ b. h), tt)
none_owed_push visible (x ∷ us) u h k = (k.0, none_owed_push visible us u h k.1)

-- after an update in a lane, if the schedule and the event keep what is asked of them
base_accepted : (p : Program) (s : State) (t : Target) (o : Op) (l : Lane) → Base p s → Base p (accepted s (next_update s.journal t o l))
base_accepted p s t o l b =
    record {
      tree = b.tree;
      counted = counted_push 0 s.journal.updates (next_update s.journal t o l) (omega arith) b.counted;
      lost = push_pending s.tree s.journal.updates (next_update s.journal t o l) (union s.schedule.pending (one l)) (union_right s.schedule.pending (one l) l (one_itself l))
          (more_pending s.tree s.journal.updates s.schedule.pending (union s.schedule.pending (one l)) (λ m k. union_left s.schedule.pending (one l) m k) b.lost);
      owed = none_owed_push (visible_instances s.tree) s.journal.updates (next_update s.journal t o l) refl b.owed;
      next = b.next;
      unclaimed = b.unclaimed;
    }

base_marked : (p : Program) (s : State) (t : Target) (o : Op) (x : Option Lane) → s.event.lane ≡ x → Base p s → Base p (marked_for s t o x)
base_marked p s t o None is b =
    let l = s.schedule.next_transition in
    let lanes = links_with l s.schedule.pending (linked_lanes s.linked t) in
    base_accepted p (record s { schedule = linked (claimed s.schedule) lanes; linked = with_linked s.linked t lanes; event = record s.event { lane = Some l } }) t o l
    (record {
      tree = b.tree;
      counted = b.counted;
      lost = b.lost;
      owed = b.owed;
      next = claim_transition s.schedule.next_transition;
      unclaimed = λ m same. let one : s.schedule.next_transition ≡ m = cc in subst (λ (n : Lane). same_lane n (next_claim s.schedule.next_transition) ≡ false) one (claim_another s.schedule.next_transition);
    })
base_marked p s t o (Some l) is b =
    let lanes = links_with l s.schedule.pending (linked_lanes s.linked t) in
    base_accepted p (record s { schedule = linked s.schedule lanes; linked = with_linked s.linked t lanes; event = record s.event { lane = Some l } }) t o l
    (record {
      tree = b.tree;
      counted = b.counted;
      lost = b.lost;
      owed = b.owed;
      next = b.next;
      unclaimed = λ m same. b.unclaimed m (is ∙ same);
    })

pub base_sent : (p : Program) (s : State) (w : LaneWord) (t : Target) (o : Op) → Base p s → Base p (dispatched_for s w t o)
base_sent p s word.Sync t o b = base_accepted p s t o lane.Sync b
base_sent p s word.Input t o b = base_accepted p s t o lane.Input b
base_sent p s word.Default t o b = base_accepted p s t o lane.Default b
base_sent p s word.Transition t o b = base_marked p s t o s.event.lane refl b

-- Linked lanes of a target

pub itself : (t : Target) → same_target t t ≡ true
itself (hook i k) = rw (same_itself i, same_itself k) refl
itself (resource r) = same_itself r

own_lanes : (all : List Linked) (t : Target) (lanes : Lanes) → linked_lanes (with_linked all t lanes) t ≡ lanes
own_lanes all t lanes = rw (itself t) refl

-- another target links what it linked
other_lanes : (all : List Linked) (t q : Target) (lanes : Lanes) → same_target q t ≡ false → linked_lanes (with_linked all t lanes) q ≡ linked_lanes all q
other_lanes all t q lanes other = rw other (ap (λ (o : Option Linked). option_map_or (λ l. l.lanes) o no_lanes) (among all))
  where
    among : (xs : List Linked) → find (λ l. same_target q l.target) (filter (λ l. not (same_target t l.target)) xs) ≡ find (λ l. same_target q l.target) xs
    among [] = refl
    among (x ∷ xs) = go (same_target t x.target) refl (same_target q x.target) refl (among xs)
      where
        go : (b : Bool) → same_target t x.target ≡ b → (c : Bool) → same_target q x.target ≡ c
            → find (λ l. same_target q l.target) (filter (λ l. not (same_target t l.target)) xs) ≡ find (λ l. same_target q l.target) xs
            → find (λ l. same_target q l.target) (filter (λ l. not (same_target t l.target)) (x ∷ xs)) ≡ find (λ l. same_target q l.target) (x ∷ xs)
        go true is true has rest =
            let one : t ≡ x.target = target_is t x.target is in
            absurd (cc (sym other ∙ (ap (same_target q) one ∙ has)))
        go true is false has rest = rw (is, has) rest
        go false is true has rest = rw (is, has) refl
        go false is false has rest = rw (is, has) rest

-- A flag that the dispatch isn't for

-- how far a cut in progress goes
pub cut_within : (p : Program) (s : State) → IsCarried p s → IfSome s.progress (λ g. g.cut.updates ≤ length s.journal.updates)
cut_within p s c = go s.progress c.3
  where
    go : (x : Option Progress) → IfSome x (λ g. RendersOn p s.journal c.0 c.1 g.lanes g.cut) → IfSome x (λ g. g.cut.updates ≤ length s.journal.updates)
    go None r = tt
    go (Some g) r = r.updates_before

module _ (p : Program) (s : State) (c : IsCarried p s) (b : Base p s) (t : Target) (o : Op) (flag : Target) (other : same_target flag t ≡ false) (here : is_gone s.tree flag ≡ false) where
  urgent_other : (l : Lane) → is_transition l ≡ false → FactsOf s flag → FactsOf (accepted s (next_update s.journal t o l)) flag
  urgent_other l plain h =
      pushed s.tree flag (linked_lanes s.linked flag) s.schedule.links s.schedule.links s.progress s.event.lane s.event.lane s.schedule.next_transition s.schedule.next_transition
      s.journal.updates (next_update s.journal t o l) b.counted refl refl other (cut_within p s c) (λ m n k. k)
      (λ m transition same. absurd (cc (sym plain ∙ subst (λ (n : Lane). is_transition n ≡ true) (sym same) transition))) here h

  marked_other : (x : Option Lane) → s.event.lane ≡ x → FactsOf s flag → FactsOf (marked_for s t o x) flag
  marked_other None is h =
      let l = s.schedule.next_transition in
      let lanes = links_with l s.schedule.pending (linked_lanes s.linked t) in
      subst (λ (ls : Lanes). FlagFacts s.tree flag ls (linked_by s.schedule.links lanes) s.progress (Some l) (next_claim l) (s.journal.updates ++ next_update s.journal t o l ∷ []))
      (sym (other_lanes s.linked t flag lanes other))
      (pushed s.tree flag (linked_lanes s.linked flag) s.schedule.links (linked_by s.schedule.links lanes) s.progress s.event.lane (Some l) s.schedule.next_transition (next_claim l)
      s.journal.updates (next_update s.journal t o l) b.counted refl refl other (cut_within p s c) (λ m n k. still_linked s.schedule.links lanes m n k)
      (λ m transition same. inl (subst (λ (n : Lane). same_lane n s.schedule.next_transition ≡ true) same (same_lane-same s.schedule.next_transition))) here h)
  marked_other (Some l) is h =
      let lanes = links_with l s.schedule.pending (linked_lanes s.linked t) in
      subst (λ (ls : Lanes). FlagFacts s.tree flag ls (linked_by s.schedule.links lanes) s.progress (Some l) s.schedule.next_transition (s.journal.updates ++ next_update s.journal t o l ∷ []))
      (sym (other_lanes s.linked t flag lanes other))
      (pushed s.tree flag (linked_lanes s.linked flag) s.schedule.links (linked_by s.schedule.links lanes) s.progress s.event.lane (Some l) s.schedule.next_transition s.schedule.next_transition
      s.journal.updates (next_update s.journal t o l) b.counted refl refl other (cut_within p s c) (λ m n k. still_linked s.schedule.links lanes m n k)
      (λ m transition same. let goes : s.event.lane ≡ Some m = is ∙ ap (λ (n : Lane). Some n) same in inr (goes, b.unclaimed m goes)) here h)

  -- An update of another target keeps what is kept of a flag.
  pub other_sent : (w : LaneWord) → FactsOf s flag → FactsOf (dispatched_for s w t o) flag
  other_sent word.Sync h = urgent_other lane.Sync refl h
  other_sent word.Input h = urgent_other lane.Input refl h
  other_sent word.Default h = urgent_other lane.Default refl h
  other_sent word.Transition h = marked_other s.event.lane refl h

-- The flag of a start

module _ (p : Program) (s : State) (c : IsCarried p s) (b : Base p s) (flag : Target) (new : s.event.lane ≡ None) where
  -- the state between the two updates
  abbrev set_in : Lane → State
  set_in l = accepted s (next_update s.journal flag (op.Set (pos 1)) l)

  abbrev lanes_then : Lane → Lanes
  lanes_then l = links_with s.schedule.next_transition (union s.schedule.pending (one l)) (linked_lanes s.linked flag)

  still_kept : (l : Lane) → FactsOf s flag → AllByRecursion (λ e. (are_settled s.tree e ≡ true) ⊎ (has (lanes_then l) (lane_of e) ≡ true)) (transitions_in flag s.journal.updates)
  still_kept l h =
      let One : Transition → Type 0 = OneKept s.tree flag (linked_lanes s.linked flag) s.progress s.event.lane s.schedule.next_transition (length s.journal.updates) in
      all_more (λ e. One e × AllByRecursion (Pends s.tree s.schedule.pending) (updates_in e)) (λ e. (are_settled s.tree e ≡ true) ⊎ (has (lanes_then l) (lane_of e) ≡ true))
      (λ e k. go e k.0.lane (one_pends s.tree s.schedule.pending e k.1.1 k.0.same)) (transitions_in flag s.journal.updates)
      (all_and One (λ e. AllByRecursion (Pends s.tree s.schedule.pending) (updates_in e)) (transitions_in flag s.journal.updates) h.each
      (each_update (Pends s.tree s.schedule.pending) flag s.journal.updates (lost_pends s.tree s.journal.updates s.schedule.pending b.lost)))
    where
      go : (e : Transition) → (are_settled s.tree e ≡ true) ⊎ (has (linked_lanes s.linked flag) (lane_of e) ≡ true) → (are_settled s.tree e ≡ true) ⊎ (has s.schedule.pending (lane_of e) ≡ true)
          → (are_settled s.tree e ≡ true) ⊎ (has (lanes_then l) (lane_of e) ≡ true)
      go e (inl k) q = inl k
      go e (inr k) (inl q) = inl q
      go e (inr k) (inr q) =
          inr (pending_linked s.schedule.next_transition (lane_of e) (union s.schedule.pending (one l)) (linked_lanes s.linked flag) k (union_left s.schedule.pending (one l) (lane_of e) q))

  started_in : (l : Lane) → is_transition l ≡ false → (x : Option Lane) → x ≡ None → FactsOf s flag → FactsOf (marked_for (set_in l) flag (op.Set (pos 0)) x) flag
  started_in l plain (Some m) is h = absurd (cc is)
  started_in l plain None is h =
      let us = s.journal.updates in
      let u = next_update s.journal flag (op.Set (pos 1)) l in
      let v = next_update (set_in l).journal flag (op.Set (pos 0)) s.schedule.next_transition in
      let longer : length (us ++ u ∷ []) ≡ length us + 1 = simp length-append (omega arith) in
      subst (λ (ls : Lanes). FlagFacts s.tree flag ls (linked_by s.schedule.links (lanes_then l)) s.progress (Some s.schedule.next_transition) (next_claim s.schedule.next_transition) ((us ++ u ∷ []) ++ v ∷ []))
      (sym (own_lanes s.linked flag (lanes_then l)))
      (subst (λ (xs : List Posted). FlagFacts s.tree flag (lanes_then l) (linked_by s.schedule.links (lanes_then l)) s.progress (Some s.schedule.next_transition) (next_claim s.schedule.next_transition) xs)
      (sym (append_assoc us (u ∷ []) (v ∷ [])))
      (started s.tree flag (linked_lanes s.linked flag) (lanes_then l) s.schedule.links (linked_by s.schedule.links (lanes_then l)) s.progress s.event.lane (Some s.schedule.next_transition)
      s.schedule.next_transition (next_claim s.schedule.next_transition) us u v
      (record { own = itself flag; sets = refl; at_once = plain }) (record { own = itself flag; sets = refl; marked = b.next }) refl longer refl refl (cut_within p s c)
      (λ m n k. still_linked s.schedule.links (lanes_then l) m n k) (λ m n k q. all_linked s.schedule.links (lanes_then l) m n k q)
      (own_linked s.schedule.next_transition (union s.schedule.pending (one l)) (linked_lanes s.linked flag)) (claim_another s.schedule.next_transition) (still_kept l h) h))

  -- A start keeps what is kept of its flag.
  pub start_sent : (w : LaneWord) → (w ≡ word.Sync) ⊎ (w ≡ word.Input) → FactsOf s flag
      → FactsOf (dispatched_for (dispatched_for s w flag (op.Set (pos 1))) word.Transition flag (op.Set (pos 0))) flag
  start_sent word.Sync at_once h = started_in lane.Sync refl s.event.lane new h
  start_sent word.Input at_once h = started_in lane.Input refl s.event.lane new h
  start_sent word.Default (inl k) h = absurd (cc k)
  start_sent word.Default (inr k) h = absurd (cc k)
  start_sent word.Transition (inl k) h = absurd (cc k)
  start_sent word.Transition (inr k) h = absurd (cc k)
