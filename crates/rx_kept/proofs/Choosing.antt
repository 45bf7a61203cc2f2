-- Which render goes on in a turn.
use Rattle.std.proofs.Common.{◌≡◌, ℕ, zero, suc, Bool, true, false, cond, [], ◌∷◌, refl, ap, subst, Option, Some, None}
use Rattle.std.specs.Prelude.{option_map}
use Rattle.rx_lane.specs.Lanes.{Lanes}
use Rattle.rx_sched.specs.declared.choice.Choice.{Choice}
use Rattle.rx_sched.specs.declared.choice.Choice.TheVariants as choice
use Rattle.rx_sched.specs.Links.{Links, one_link_on, links_on}
use Rattle.rx_sched.specs.Schedule.{Schedule, choose, first_lanes, with_default, lanes_to_start}
use Rattle.run_laws.proofs.DueLanes.{set_of}
use Rattle.rx_model.specs.State.{State, Progress}
use Rattle.rx_model.specs.Turns.{choice_of}
use Rattle.rx_model.specs.Kept.{IsSet}

-- if the choice is to keep, a render is in progress
never_keeps : (sch : Schedule) (first : Lanes) → choose sch first None ≡ choice.Keep → ⊥
never_keeps sch [] e = absurd (cc)
never_keeps sch (m ∷ ms) e = absurd (cc)

-- a turn that keeps a render has one
pub keeps_some : (s : State) → choice_of s ≡ choice.Keep → (g : Progress) × (s.progress ≡ Some g)
keeps_some s e = go s.progress refl
  where
    go : (x : Option Progress) → s.progress ≡ x → (g : Progress) × (s.progress ≡ Some g)
    go None f =
        absurd (never_keeps s.schedule (first_lanes s.schedule) (subst (λ (x : Option Progress). choose s.schedule (first_lanes s.schedule) (option_map (λ g. g.lanes) x) ≡ choice.Keep) f e))
    go (Some g) f = (g, f)

-- the lanes of a render that starts are a set
links_set : (n : ℕ) (links : Links) (pending lanes : Lanes) → IsSet lanes → IsSet (links_on n links pending lanes)
unfolding links_on one_link_on
links_set zero links pending lanes h = h
links_set (suc n) links pending lanes h = links_set n links pending (one_link_on links pending lanes) (set_of _)

twenty_set : (links : Links) (pending lanes : Lanes) → IsSet (links_on 20 links pending lanes)
unfolding links_on one_link_on
twenty_set links pending lanes = links_set 19 links pending (one_link_on links pending lanes) (set_of _)

lanes_in : Choice → Lanes
lanes_in choice.None = []
lanes_in choice.Keep = []
lanes_in (choice.Start lanes) = lanes

starts_set : (sch : Schedule) (first : Lanes) (on : Option Lanes) (lanes : Lanes) → choose sch first on ≡ choice.Start lanes → IsSet lanes
unfolding lanes_in
starts_set sch [] on lanes e = absurd (cc)
starts_set sch (m ∷ ms) on lanes e = go _ e
  where
    go : (b : Bool) → cond b choice.Keep (choice.Start (lanes_to_start sch (m ∷ ms))) ≡ choice.Start lanes → IsSet lanes
    go true f = absurd (cc)
    go false f = subst IsSet (ap lanes_in f) (twenty_set sch.links sch.pending (with_default sch (m ∷ ms)))

-- and so are those of the render of a turn
pub start_is_set : (s : State) (lanes : Lanes) → choice_of s ≡ choice.Start lanes → IsSet lanes
start_is_set s lanes e = starts_set s.schedule (first_lanes s.schedule) (option_map (λ g. g.lanes) s.progress) lanes e
