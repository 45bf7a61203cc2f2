-- What each step keeps of the transitions of a flag, of the parts of a state.
use Rattle.std.specs.Prelude.{◌≡◌, ◌⊎◌, ℕ, ◌+◌, ◌<◌, Bool, true, false, ◌||◌, List, [], Option, Some, length, refl}
use Rattle.std.specs.List.{AllByRecursion}
use Rattle.std.proofs.Common.{inl, inr, subst, sym, ap, ◌∙◌}
use Rattle.rx_lane.specs.declared.lane.Lane.{Lane}
use Rattle.rx_lane.specs.Lanes.{Lanes, has, is_transition, same_lane}
use Rattle.rx_elem.specs.Trees.{Node}
use Rattle.rx_elem.proofs.Deciding.{same_number, and_passes}
use Rattle.rx_queue.specs.Journal.{Target, Posted, hook, resource, same_target}
use Rattle.rx_sched.specs.Links.{Links}
use Rattle.rx_model.specs.State.{Progress}
use Rattle.transition_laws.specs.Transitions.{IsLast, Transition, are_settled, is_accounted, is_gone, is_settled, lane_of, marked_in, transitions_in, updates_in}
use Rattle.transition_laws.specs.Flags.{EachToLater, IsUntaken, IsWhole, RendersBoth, are_linked}
use Rattle.transition_laws.proofs.Journals.{AreStarts}
use Rattle.transition_laws.proofs.Lists.{all_and, all_more, one_left}

-- what is kept of a transition of a flag that links these lanes, by the transition lane of the event that goes on, the next one to be claimed, and how many updates there are
pub record OneKept (tree : Option Node) (flag : Target) (linked : Lanes) (progress : Option Progress) (on : Option Lane) (next : Lane) (count : ℕ) (e : Transition) : Type 0 where
  pub own : same_target flag e.unsetting.target ≡ true
  pub marked : is_transition (lane_of e) ≡ true
  pub same : AllByRecursion (λ u. u.update.lane ≡ lane_of e) e.others
  pub numbers : AllByRecursion (λ u. u.update.number < count) (updates_in e)
  pub within : e.unsetting.update.number + length e.others < count
  pub lane : (are_settled tree e ≡ true) ⊎ (has linked (lane_of e) ≡ true)
  pub last : is_accounted e.unsetting ≡ true → are_settled tree e ≡ true
  pub whole : IsWhole progress e
  pub untaken : on ≡ Some (lane_of e) → IsLast count e → AllByRecursion (IsUntaken progress) (updates_in e)
  pub unclaimed : IsLast count e → same_lane (lane_of e) next ≡ false

-- the later of two transitions has yet to unset the flag, and does so only together with the earlier one
pub record Yet (links : Links) (progress : Option Progress) (e f : Transition) : Type 0 where
  pub yet : is_accounted f.unsetting ≡ false
  pub there : are_linked links (lane_of e) (lane_of f) ≡ true
  pub back : are_linked links (lane_of f) (lane_of e) ≡ true
  pub together : RendersBoth progress e f

-- what is kept of two transitions, one after the other
pub record TwoKept (tree : Option Node) (links : Links) (progress : Option Progress) (e f : Transition) : Type 0 where
  pub before : AllByRecursion (λ u. u.update.number < f.unsetting.update.number) (updates_in e)
  pub waits : (are_settled tree e ≡ true) ⊎ Yet links progress e f

-- what is kept of a flag
pub record FlagFacts (tree : Option Node) (flag : Target) (linked : Lanes) (links : Links) (progress : Option Progress) (on : Option Lane) (next : Lane) (us : List Posted) : Type 0 where
  pub starts : AreStarts flag us
  pub each : AllByRecursion (OneKept tree flag linked progress on next (length us)) (transitions_in flag us)
  pub order : EachToLater (TwoKept tree links progress) (transitions_in flag us)

-- Settled updates

-- an update is settled, or its lane is pending
abbrev pub Pends : Option Node → Lanes → Posted → Type 0
Pends tree pending u = (is_settled tree u ≡ true) ⊎ (has pending u.update.lane ≡ true)

-- so the lane of a transition that isn't settled is pending
pub unsettled_pends : (tree : Option Node) (pending : Lanes) (e : Transition) → AllByRecursion (Pends tree pending) (marked_in e) → AllByRecursion (λ u. u.update.lane ≡ lane_of e) e.others
    → are_settled tree e ≡ false → has pending (lane_of e) ≡ true
unsettled_pends tree pending e h same left =
    one_left (is_settled tree) (has pending (lane_of e) ≡ true) (marked_in e) (
      h.0,
      all_more (λ u. (Pends tree pending u) × (u.update.lane ≡ lane_of e)) (λ u. (is_settled tree u ≡ true) ⊎ (has pending (lane_of e) ≡ true)) (λ u k. go u k.0 k.1) e.others
          (all_and (Pends tree pending) (λ u. u.update.lane ≡ lane_of e) e.others h.1 same),
    ) left
  where
    go : (u : Posted) → Pends tree pending u → u.update.lane ≡ lane_of e → (is_settled tree u ≡ true) ⊎ (has pending (lane_of e) ≡ true)
    go u (inl h) same = inl h
    go u (inr h) same = inr (subst (λ (l : Lane). has pending l ≡ true) same h)

-- it is settled, or its lane is pending
pub one_pends : (tree : Option Node) (pending : Lanes) (e : Transition) → AllByRecursion (Pends tree pending) (marked_in e) → AllByRecursion (λ u. u.update.lane ≡ lane_of e) e.others
    → (are_settled tree e ≡ true) ⊎ (has pending (lane_of e) ≡ true)
one_pends tree pending e h same = go (are_settled tree e) refl
  where
    go : (b : Bool) → are_settled tree e ≡ b → (are_settled tree e ≡ true) ⊎ (has pending (lane_of e) ≡ true)
    go true k = inl k
    go false k = inr (unsettled_pends tree pending e h same k)

-- one target is another
pub target_is : (t q : Target) → same_target t q ≡ true → t ≡ q
target_is (hook i k) (hook j l) h =
    let parts = and_passes _ _ h in λ z. hook (same_number i j parts.0 z) (same_number k l parts.1 z)
target_is (hook i k) (resource r) h = absurd (cc h)
target_is (resource r) (hook j l) h = absurd (cc h)
target_is (resource r) (resource q) h = λ z. resource (same_number r q h z)

-- what is settled of a flag that is mounted is done or owed
pub settled_accounted : (tree : Option Node) (flag : Target) (u : Posted) → is_gone tree flag ≡ false → same_target flag u.target ≡ true → is_settled tree u ≡ true → is_accounted u ≡ true
settled_accounted tree flag u here own h = go (is_accounted u) (is_gone tree u.target) (ap (is_gone tree) (sym (target_is flag u.target own)) ∙ here) h
  where
    go : (a b : Bool) → b ≡ false → (a || b) ≡ true → a ≡ true
    go true b e h = refl
    go false true e h = absurd (cc e)
    go false false e h = h

-- of a flag without transitions nothing is asked
pub no_transitions : (tree : Option Node) (flag : Target) (linked : Lanes) (links : Links) (progress : Option Progress) (on : Option Lane) (next : Lane) (us : List Posted)
    → AreStarts flag us → transitions_in flag us ≡ [] → FlagFacts tree flag linked links progress on next us
no_transitions tree flag linked links progress on next us starts none =
    record {
      starts = starts;
      each = subst (λ (es : List Transition). AllByRecursion (OneKept tree flag linked progress on next (length us)) es) (sym none) tt;
      order = subst (λ (es : List Transition). EachToLater (TwoKept tree links progress) es) (sym none) tt;
    }
