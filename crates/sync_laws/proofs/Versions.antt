-- How many refreshes were sent: as many as were accepted, and in a quiet state as many as are done.
use Rattle.std.specs.Prelude.{Bool, List, Some, [], cond, false, filter, length, nat_eq, refl, slice_get, suc, true, zero, ℕ, ◌∷◌, ◌≡◌}
use Rattle.std.proofs.Common.{ap, inl, inr}
use Rattle.commit_laws.specs.Quiet.{RefreshesDone}
use Rattle.rx_ast.specs.Syntax.{Program}
use Rattle.rx_elem.proofs.Deciding.{and_passes}
use Rattle.rx_elem.specs.Spots.{hidden_count, kept_instances}
use Rattle.rx_lane.specs.Lanes.{Lanes, has, is_empty}
use Rattle.rx_lane.specs.declared.lane.Lane.{Lane}
use Rattle.rx_meaning.specs.Settled.{version_done}
use Rattle.rx_model.specs.Kept.{IsAccountedFor, NoUpdateIsLost}
use Rattle.rx_model.specs.Laws.{IsBounded, IsReached}
use Rattle.rx_model.specs.State.{State, is_quiet}
use Rattle.rx_queue.specs.History.{stands_done}
use Rattle.rx_queue.specs.Journal.{Posted, Target, belongs_to, hook, is_resource, resource, same_target}
use Rattle.rx_queue.specs.declared.update.Op.{Op}
use Rattle.run_laws.proofs.KeptFacts.{none_lost}
use Rattle.sync_laws.proofs.SameValues.{sent, sent_by}

-- how many refreshes of a resource were sent
abbrev pub refreshes_sent : List (Target × Op) → (resource : ℕ) → ℕ
refreshes_sent xs r = length (filter (λ x. same_target (resource r) x.0) xs)

-- each of them was accepted
pub last_sent : (r : ℕ) (us : List Posted) → length (filter (λ u. true) (filter (λ u. same_target (resource r) u.target) us)) ≡ refreshes_sent (sent us) r
last_sent r [] = refl
last_sent r (u ∷ us) = go (same_target (resource r) u.target) (last_sent r us)
  where
    go : (b : Bool) → length (filter (λ u. true) (filter (λ u. same_target (resource r) u.target) us)) ≡ refreshes_sent (sent us) r
        → length (filter (λ u. true) (cond b (u ∷ filter (λ u. same_target (resource r) u.target) us) (filter (λ u. same_target (resource r) u.target) us)))
        ≡ length (cond b (sent_by u ∷ filter (λ x. same_target (resource r) x.0) (sent us)) (filter (λ x. same_target (resource r) x.0) (sent us)))
    go true rest = ap suc rest
    go false rest = rest

of_resource : (r : ℕ) (t : Target) → same_target (resource r) t ≡ true → is_resource t ≡ true
of_resource r (hook i k) h = absurd (cc h)
of_resource r (resource q) h = refl

-- if each refresh is done, so many versions are done
pub done_sent : (r : ℕ) (us : List Posted) → RefreshesDone us → version_done us r ≡ refreshes_sent (sent us) r
done_sent r [] h = refl
done_sent r (u ∷ us) h = go (same_target (resource r) u.target) refl (done_sent r us h.1)
  where
    go : (b : Bool) → same_target (resource r) u.target ≡ b → version_done us r ≡ refreshes_sent (sent us) r
        → length (filter (λ u. stands_done u.standing) (cond b (u ∷ filter (λ u. same_target (resource r) u.target) us) (filter (λ u. same_target (resource r) u.target) us)))
        ≡ length (cond b (sent_by u ∷ filter (λ x. same_target (resource r) x.0) (sent us)) (filter (λ x. same_target (resource r) x.0) (sent us)))
    go true e rest = let is_done : stands_done u.standing ≡ true = h.0 (of_resource r u.target e) in rw is_done (ap suc rest)
    go false e rest = rest

-- Quiet states

empty_has : (lanes : Lanes) (l : Lane) → is_empty lanes ≡ true → has lanes l ≡ false
empty_has [] l h = refl
empty_has (x ∷ xs) l h = absurd (cc h)

never_kept : (set : List ℕ) (t : Target) → is_resource t ≡ true → belongs_to set t ≡ true → ⊥
never_kept set (hook i k) h there = cc h
never_kept set (resource r) h there = cc there

-- in a quiet state that can be reached each refresh is done
pub quiet_refreshes : (p : Program) → IsBounded p → (s : State) → IsReached p s → is_quiet s ≡ true → RefreshesDone s.journal.updates
quiet_refreshes p bounded s reached quiet = from s.journal.updates (λ n u there is. one u is (lost n u there (inr is)))
  where
    lost : NoUpdateIsLost s
    lost = none_lost p bounded s reached

    nothing : (l : Lane) → has s.schedule.pending l ≡ false
    nothing l = empty_has s.schedule.pending l (and_passes (is_empty s.schedule.pending) (nat_eq (hidden_count s.tree) 0) quiet).0

    one : (u : Posted) → is_resource u.target ≡ true → IsAccountedFor s u → stands_done u.standing ≡ true
    one u is (inl d) = d
    one u is (inr (inl pending)) = absurd (cc (nothing u.update.lane, pending))
    one u is (inr (inr owed)) = absurd (never_kept (kept_instances s.tree) u.target is owed.1)

    from : (us : List Posted) → ((n : ℕ) (u : Posted) → slice_get us n ≡ Some u → is_resource u.target ≡ true → stands_done u.standing ≡ true) → RefreshesDone us
    from [] f = tt
    from (u ∷ us) f = (f zero u refl, from us (λ n v there. f (suc n) v there))
