-- What is kept of a flag when an event ends, when a render starts or goes on, and when it is discarded.
use Rattle.std.specs.Prelude.{◌≡◌, ◌⊎◌, ℕ, ◌<◌, ◌≤◌, Bool, true, false, ◌||◌, List, Option, Some, None, length, nat_lt, refl}
use Rattle.std.specs.List.{AllByRecursion}
use Rattle.std.proofs.Common.{inl, inr, subst, arith}
use Rattle.std.proofs.lemmas.Bool.Decides.{nat_tests}
use Rattle.rx_base.specs.declared.cut.Cut.{Cut}
use Rattle.rx_lane.specs.declared.lane.Lane.{Lane}
use Rattle.rx_lane.specs.Lanes.{Lanes, has, same_lane}
use Rattle.rx_lane.specs.SetLaws.{same_lane-true}
use Rattle.rx_elem.specs.Trees.{Node}
use Rattle.rx_queue.specs.Journal.{Target, Posted, is_before}
use Rattle.rx_sched.specs.Links.{Links, links_of}
use Rattle.rx_model.specs.State.{Progress}
use Rattle.transition_laws.specs.Transitions.{Transition, are_settled, lane_of, transitions_in, updates_in}
use Rattle.transition_laws.specs.Flags.{IsUntaken, RendersBoth}
use Rattle.transition_laws.proofs.Journals.{each_update}
use Rattle.transition_laws.proofs.Lists.{all_and, all_more, order_more}
use Rattle.transition_laws.proofs.Facts.{FlagFacts, OneKept, Pends, TwoKept, Yet, one_pends}
use Rattle.transition_laws.proofs.Marks.{included_parts}

-- a number below a cut
pub lies_before : (cut : Cut) (u : Posted) → u.update.number < cut.updates → is_before cut u ≡ true
lies_before cut u h = go (nat_lt u.update.number cut.updates) refl
  where
    go : (b : Bool) → nat_lt u.update.number cut.updates ≡ b → b ≡ true
    go true e = refl
    go false e = let late : cut.updates ≤ u.update.number = grind (arith, nat_tests) in absurd (omega (arith, late, h))

pub before_is : (cut : Cut) (u : Posted) → is_before cut u ≡ true → u.update.number < cut.updates
before_is cut u h = let e : nat_lt u.update.number cut.updates ≡ true = h in grind (arith, nat_tests)

-- An event

-- If an event goes on after, it went on before.
pub event_changes : (tree : Option Node) (flag : Target) (linked : Lanes) (links : Links) (progress : Option Progress) (on after : Option Lane) (next : Lane) (us : List Posted)
    → ((l : Lane) → after ≡ Some l → on ≡ Some l) → FlagFacts tree flag linked links progress on next us → FlagFacts tree flag linked links progress after next us
event_changes tree flag linked links progress on after next us goes h =
    record {
      starts = h.starts;
      each = all_more (OneKept tree flag linked progress on next (length us)) (OneKept tree flag linked progress after next (length us)) one (transitions_in flag us) h.each;
      order = h.order;
    }
  where
    one : (e : Transition) → OneKept tree flag linked progress on next (length us) e → OneKept tree flag linked progress after next (length us) e
    one e k =
        record {
          own = k.own;
          marked = k.marked;
          same = k.same;
          numbers = k.numbers;
          within = k.within;
          lane = k.lane;
          last = k.last;
          whole = k.whole;
          untaken = λ is last. k.untaken (goes (lane_of e) is) last;
          unclaimed = k.unclaimed;
        }

-- A render that is discarded

pub discarded : (tree : Option Node) (flag : Target) (linked : Lanes) (links : Links) (progress : Option Progress) (on : Option Lane) (next : Lane) (us : List Posted)
    → FlagFacts tree flag linked links progress on next us → FlagFacts tree flag linked links None on next us
discarded tree flag linked links progress on next us h =
    record {
      starts = h.starts;
      each = all_more (OneKept tree flag linked progress on next (length us)) (OneKept tree flag linked None on next (length us)) one (transitions_in flag us) h.each;
      order = order_more (OneKept tree flag linked progress on next (length us)) (TwoKept tree links progress) (TwoKept tree links None) (λ e f x y k. two e f k) (transitions_in flag us) h.each h.order;
    }
  where
    one : (e : Transition) → OneKept tree flag linked progress on next (length us) e → OneKept tree flag linked None on next (length us) e
    one e k =
        record {
          own = k.own;
          marked = k.marked;
          same = k.same;
          numbers = k.numbers;
          within = k.within;
          lane = k.lane;
          last = k.last;
          whole = tt;
          untaken = λ is last. all_more (IsUntaken progress) (IsUntaken None) (λ u l. (l.0, tt)) (updates_in e) (k.untaken is last);
          unclaimed = k.unclaimed;
        }

    two : (e f : Transition) → TwoKept tree links progress e f → TwoKept tree links None e f
    two e f k = record { before = k.before; waits = go k.waits }
      where
        go : (are_settled tree e ≡ true) ⊎ Yet links progress e f → (are_settled tree e ≡ true) ⊎ Yet links None e f
        go (inl l) = inl l
        go (inr l) = inr (record { yet = l.yet; there = l.there; back = l.back; together = tt })

-- A render that goes on

-- the render in progress has used up more
pub gone_further : (tree : Option Node) (flag : Target) (linked : Lanes) (links : Links) (g : Progress) (on : Option Lane) (next : Lane) (us : List Posted) (units bodies : ℕ)
    → FlagFacts tree flag linked links (Some g) on next us → FlagFacts tree flag linked links (Some (record g { units = units; bodies = bodies })) on next us
gone_further tree flag linked links g on next us units bodies h =
    record {
      starts = h.starts;
      each = all_more (OneKept tree flag linked (Some g) on next (length us)) (OneKept tree flag linked (Some (record g { units = units; bodies = bodies })) on next (length us))
          (λ e k. record {
            own = k.own;
            marked = k.marked;
            same = k.same;
            numbers = k.numbers;
            within = k.within;
            lane = k.lane;
            last = k.last;
            whole = k.whole;
            untaken = k.untaken;
            unclaimed = k.unclaimed;
          }) (transitions_in flag us) h.each;
      order = order_more (OneKept tree flag linked (Some g) on next (length us)) (TwoKept tree links (Some g)) (TwoKept tree links (Some (record g { units = units; bodies = bodies })))
          (λ e f x y k. record { before = k.before; waits = go e f k.waits }) (transitions_in flag us) h.each h.order;
    }
  where
    go : (e f : Transition) → (are_settled tree e ≡ true) ⊎ Yet links (Some g) e f → (are_settled tree e ≡ true) ⊎ Yet links (Some (record g { units = units; bodies = bodies })) e f
    go e f (inl l) = inl l
    go e f (inr l) = inr (record { yet = l.yet; there = l.there; back = l.back; together = l.together })

-- A render that starts

-- The render has all pending lanes that are linked with one of its own, and everything so far is before its cut; and no event goes on.
pub render_starts : (tree : Option Node) (flag : Target) (linked : Lanes) (links : Links) (progress : Option Progress) (next : Lane) (us : List Posted) (pending : Lanes) (g : Progress)
    → g.cut.updates ≡ length us
    → ((l m : Lane) → has g.lanes m ≡ true → has (links_of links m) l ≡ true → has pending l ≡ true → has g.lanes l ≡ true)
    → AllByRecursion (Pends tree pending) us → FlagFacts tree flag linked links progress None next us → FlagFacts tree flag linked links (Some g) None next us
render_starts tree flag linked links progress next us pending g cut reach pends h =
    record {
      starts = h.starts;
      each = all_more (OneKept tree flag linked progress None next (length us)) (OneKept tree flag linked (Some g) None next (length us)) one (transitions_in flag us) h.each;
      order = order_more (λ e. AllByRecursion (Pends tree pending) (updates_in e) × OneKept tree flag linked progress None next (length us) e) (TwoKept tree links progress) (TwoKept tree links (Some g))
          (λ e f x y k. two e f x.0 x.1 k) (transitions_in flag us)
          (all_and (λ e. AllByRecursion (Pends tree pending) (updates_in e)) (OneKept tree flag linked progress None next (length us)) (transitions_in flag us) (each_update (Pends tree pending) flag us pends) h.each)
          h.order;
    }
  where
    one : (e : Transition) → OneKept tree flag linked progress None next (length us) e → OneKept tree flag linked (Some g) None next (length us) e
    one e k =
        record {
          own = k.own;
          marked = k.marked;
          same = k.same;
          numbers = k.numbers;
          within = k.within;
          lane = k.lane;
          last = k.last;
          whole = inl (all_more (λ u. u.update.number < length us) (λ u. is_before g.cut u ≡ true) (λ u l. lies_before g.cut u (omega (arith, l, cut))) (updates_in e) k.numbers);
          untaken = λ is last. absurd (cc is);
          unclaimed = k.unclaimed;
        }

    two : (e f : Transition) → AllByRecursion (Pends tree pending) (updates_in e) → OneKept tree flag linked progress None next (length us) e → TwoKept tree links progress e f
        → TwoKept tree links (Some g) e f
    two e f p k l = record { before = l.before; waits = go (one_pends tree pending e p.1 k.same) l.waits }
      where
        both : Yet links progress e f → has pending (lane_of e) ≡ true → RendersBoth (Some g) e f
        both y pending_e is =
            let parts = included_parts g.lanes g.cut f.unsetting y.yet is in (from (same_lane (lane_of f) (lane_of e)) refl y.back parts.1, parts.1)
          where
            from : (b : Bool) → same_lane (lane_of f) (lane_of e) ≡ b → (b || has (links_of links (lane_of f)) (lane_of e)) ≡ true → has g.lanes (lane_of f) ≡ true → has g.lanes (lane_of e) ≡ true
            from true is h there = subst (λ (m : Lane). has g.lanes m ≡ true) (same_lane-true (lane_of f) (lane_of e) is) there
            from false is h there = reach (lane_of e) (lane_of f) there h pending_e

        go : (are_settled tree e ≡ true) ⊎ (has pending (lane_of e) ≡ true) → (are_settled tree e ≡ true) ⊎ Yet links progress e f → (are_settled tree e ≡ true) ⊎ Yet links (Some g) e f
        go (inl s) w = inl s
        go (inr q) (inl s) = inl s
        go (inr q) (inr y) = inr (record { yet = y.yet; there = y.there; back = y.back; together = both y q })
