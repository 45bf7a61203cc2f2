-- Which transition lanes have reached their deadlines, as a loop over all lanes finds them.
use Rattle.std.proofs.Common.{◌≡◌, ◌∙◌, sym, ap, ℕ, Bool, true, false, refl, get_or, take, length, ◌+◌, ◌<◌, ◌≤◌, ◌||◌}
use Rattle.std.specs.Prelude.{not, ◌&&◌, if◌then◌else◌}
use Rattle.std.specs.List.{list_any}
use Rattle.std.proofs.lemmas.List.{take_all}
use Rattle.std.proofs.lemmas.List.Folds.{list_any_more}
use Rattle.rx_lane.specs.declared.lane.Lane.{Lane}
use Rattle.rx_lane.specs.declared.lane.Lane.TheVariants.{Sync, Input, Default, T1, T2, T3, T4, T5, T6, T7, T8, T9, T10, T11, T12, T13, T14, T15, T16, Retry}
use Rattle.rx_lane.specs.Lanes.{Lanes, all_lanes, has, is_transition, lanes_where, one, same_lane, union}
use Rattle.rx_lane.specs.SetLaws.{has-all_lanes, has-lanes_where, same_lane-true}
use Rattle.rx_sched.specs.Deadlines.{is_expired}
use Rattle.rx_sched.specs.Schedule.{Schedule}
use Rattle.rx_root.specs.Seen.{overdue}

-- two denials
twice : (e : Bool) → not (not e && true) ≡ e
twice true = refl
twice false = refl

-- such a lane has reached its deadline
pub overdue-expired : (s : Schedule) (now : ℕ) (l : Lane) → overdue s now l ≡ (is_transition l && is_expired s.deadlines now l)
unfolding lanes_where
overdue-expired s now Sync = refl
overdue-expired s now Input = refl
overdue-expired s now Default = refl
overdue-expired s now T1 = twice (is_expired s.deadlines now T1)
overdue-expired s now T2 = twice (is_expired s.deadlines now T2)
overdue-expired s now T3 = twice (is_expired s.deadlines now T3)
overdue-expired s now T4 = twice (is_expired s.deadlines now T4)
overdue-expired s now T5 = twice (is_expired s.deadlines now T5)
overdue-expired s now T6 = twice (is_expired s.deadlines now T6)
overdue-expired s now T7 = twice (is_expired s.deadlines now T7)
overdue-expired s now T8 = twice (is_expired s.deadlines now T8)
overdue-expired s now T9 = twice (is_expired s.deadlines now T9)
overdue-expired s now T10 = twice (is_expired s.deadlines now T10)
overdue-expired s now T11 = twice (is_expired s.deadlines now T11)
overdue-expired s now T12 = twice (is_expired s.deadlines now T12)
overdue-expired s now T13 = twice (is_expired s.deadlines now T13)
overdue-expired s now T14 = twice (is_expired s.deadlines now T14)
overdue-expired s now T15 = twice (is_expired s.deadlines now T15)
overdue-expired s now T16 = twice (is_expired s.deadlines now T16)
overdue-expired s now Retry = refl

-- a set has those of the lanes that were looked at that are overdue
abbrev pub HasOverdue : Schedule → ℕ → (looked_at set : Lanes) → Type 0
HasOverdue s now looked_at set = (l : Lane) → has set l ≡ (list_any (same_lane l) looked_at && overdue s now l)

-- the same two lanes, the other way round
same-flipped : (a b : Lane) → same_lane a b ≡ same_lane b a
same-flipped a b = by_test (same_lane a b) refl (same_lane b a) refl where
  by_test : (x : Bool) → same_lane a b ≡ x → (y : Bool) → same_lane b a ≡ y → same_lane a b ≡ same_lane b a
  by_test true e true f = e ∙ sym f
  by_test false e false f = e ∙ sym f
  by_test true e false f = ap (λ l. same_lane l b) (same_lane-true a b e) ∙ ap (λ l. same_lane b l) (sym (same_lane-true a b e))
  by_test false e true f = ap (λ l. same_lane l b) (sym (same_lane-true b a f)) ∙ ap (λ l. same_lane b l) (same_lane-true b a f)

-- one lane more that is overdue
pub overdue-in : (s : Schedule) (now : ℕ) (every set : Lanes) (i : ℕ) → i < length every → HasOverdue s now (take i every) set
    → overdue s now (get_or every i Sync) ≡ true → HasOverdue s now (take (i + 1) every) (union set (one (get_or every i Sync)))
overdue-in s now every set i within so_far due = λ l.
    let x : Lane = get_or every i Sync in
    let looked : list_any (same_lane l) (take (i + 1) every) ≡ (list_any (same_lane l) (take i every) || same_lane l x) = list_any_more (same_lane l) every i Sync within in
    let in_set : has (union set (one x)) l ≡ (has set l || same_lane x l) =
    has-lanes_where (λ m. has set m || has (one x) m) l ∙ ap (λ b. has set l || b) (has-lanes_where (same_lane x) l) in
    in_set ∙ ap (λ b. b || same_lane x l) (so_far l) ∙ ap (λ b. (list_any (same_lane l) (take i every) && overdue s now l) || b) (same-flipped x l)
    ∙ joined (list_any (same_lane l) (take i every)) (overdue s now l) (same_lane l x) (λ e. ap (overdue s now) (same_lane-true l x e) ∙ due)
    ∙ ap (λ b. b && overdue s now l) (sym looked)
  where
    joined : (before due here : Bool) → (here ≡ true → due ≡ true) → ((before && due) || here) ≡ ((before || here) && due)
    joined true true true f = refl
    joined true true false f = refl
    joined true false true f = sym (f refl)
    joined true false false f = refl
    joined false true true f = refl
    joined false true false f = refl
    joined false false true f = sym (f refl)
    joined false false false f = refl

-- one lane more that is not
pub overdue-out : (s : Schedule) (now : ℕ) (every set : Lanes) (i : ℕ) → i < length every → HasOverdue s now (take i every) set
    → overdue s now (get_or every i Sync) ≡ false → HasOverdue s now (take (i + 1) every) set
overdue-out s now every set i within so_far due = λ l.
    let x : Lane = get_or every i Sync in
    let looked : list_any (same_lane l) (take (i + 1) every) ≡ (list_any (same_lane l) (take i every) || same_lane l x) = list_any_more (same_lane l) every i Sync within in
    so_far l ∙ kept (list_any (same_lane l) (take i every)) (overdue s now l) (same_lane l x) (λ e. ap (overdue s now) (same_lane-true l x e) ∙ due)
    ∙ ap (λ b. b && overdue s now l) (sym looked)
  where
    kept : (before due here : Bool) → (here ≡ true → due ≡ false) → (before && due) ≡ ((before || here) && due)
    kept true true here f = refl
    kept true false here f = refl
    kept false due true f = sym (f refl)
    kept false due false f = refl

-- all lanes are looked at
pub overdue-all : (s : Schedule) (now : ℕ) (set : Lanes) (i : ℕ) → length all_lanes ≤ i → HasOverdue s now (take i all_lanes) set
    → (l : Lane) → has set l ≡ (is_transition l && is_expired s.deadlines now l)
overdue-all s now set i past so_far l =
    so_far l ∙ ap (λ (ls : Lanes). list_any (same_lane l) ls && overdue s now l) (take_all i all_lanes past) ∙ ap (λ b. b && overdue s now l) (has-all_lanes l) ∙ overdue-expired s now l

-- one lane more that is looked at
pub overdue-step : (s : Schedule) (now : ℕ) (every set new : Lanes) (i : ℕ) (due : Bool) → i < length every → HasOverdue s now (take i every) set
    → due ≡ overdue s now (get_or every i Sync) → new ≡ (if due then union set (one (get_or every i Sync)) else set) → HasOverdue s now (take (i + 1) every) new
overdue-step s now every set new i true within so_far due is = λ l. ap (λ (t : Lanes). has t l) is ∙ overdue-in s now every set i within so_far (sym due) l
overdue-step s now every set new i false within so_far due is = λ l. ap (λ (t : Lanes). has t l) is ∙ overdue-out s now every set i within so_far (sym due) l
