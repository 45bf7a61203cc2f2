-- Sixteen claims come round to the same transition lane.
use Rattle.std.proofs.Common.{◌≡◌, ℕ, zero, suc, refl, ap, ◌∙◌}
use Rattle.std.specs.Prelude.{IsTrue}
use Rattle.rx_lane.specs.declared.lane.Lane.{Lane}
use Rattle.rx_lane.specs.declared.lane.Lane.TheVariants.{Sync, Input, Default, T1, T2, T3, T4, T5, T6, T7, T8, T9, T10, T11, T12, T13, T14, T15, T16, Retry}
use Rattle.rx_lane.specs.Lanes.{is_transition}
use Rattle.rx_sched.specs.Schedule.{Schedule, claimed, next_claim}

-- the transition lane that is next after so many claims
abbrev pub lane_after : ℕ → Lane → Lane
lane_after zero l = l
lane_after (suc n) l = next_claim (lane_after n l)

-- the lanes after so many claims
abbrev pub claimed_times : ℕ → Schedule → Schedule
claimed_times n s = record s { next_transition = lane_after n s.next_transition }

come_round : (l : Lane) → IsTrue (is_transition l) → lane_after 15 (next_claim l) ≡ l
come_round Sync h = cc
come_round Input h = cc
come_round Default h = cc
come_round T1 h = refl
come_round T2 h = refl
come_round T3 h = refl
come_round T4 h = refl
come_round T5 h = refl
come_round T6 h = refl
come_round T7 h = refl
come_round T8 h = refl
come_round T9 h = refl
come_round T10 h = refl
come_round T11 h = refl
come_round T12 h = refl
come_round T13 h = refl
come_round T14 h = refl
come_round T15 h = refl
come_round T16 h = refl
come_round Retry h = cc

-- fifteen claims take one back
pub taken_back : (s : Schedule) (old new : Schedule) → IsTrue (is_transition s.next_transition) → old ≡ claimed s → new ≡ claimed_times 15 old → new ≡ s
taken_back s old new transition was is =
    is ∙ (ap (claimed_times 15) was ∙ ap (λ (l : Lane). record s { next_transition = l }) (come_round s.next_transition transition))
