-- What is kept of a flag when a render is committed.
use Rattle.std.specs.Prelude.{◌≡◌, ◌⊎◌, ℕ, ◌<◌, Bool, true, false, List, Option, Some, None, length, map, refl}
use Rattle.std.specs.List.{AllByRecursion}
use Rattle.std.proofs.Common.{inl, inr, subst, sym, arith}
use Rattle.std.proofs.lemmas.List.{length-map}
use Rattle.rx_lane.specs.declared.lane.Lane.{Lane}
use Rattle.rx_lane.specs.Lanes.{Lanes, has}
use Rattle.rx_elem.specs.Trees.{Node}
use Rattle.rx_elem.specs.Spots.{visible_instances, kept_instances}
use Rattle.rx_queue.specs.declared.entry.Standing.{Standing}
use Rattle.rx_queue.specs.Journal.{Target, Posted, is_before, is_included, standing_after}
use Rattle.rx_sched.specs.Links.{Links}
use Rattle.rx_model.specs.State.{Progress}
use Rattle.transition_laws.specs.Transitions.{Transition, are_settled, is_accounted, is_gone, is_settled, lane_of, marked_in, transitions_in, updates_in}
use Rattle.transition_laws.specs.Flags.{EachToLater, IsWholeAt, are_linked}
use Rattle.transition_laws.proofs.Journals.{each_update, starts_so, transition_so, transitions_so}
use Rattle.transition_laws.proofs.Lists.{all_and, all_map, all_more, all_pass, order_map, passed_by_all}
use Rattle.transition_laws.proofs.Facts.{FlagFacts, OneKept, Pends, TwoKept, Yet, settled_accounted, unsettled_pends}
use Rattle.transition_laws.proofs.Marks.{accounted_before, included_if, included_parts, included_settled, mark, settled_later}
use Rattle.transition_laws.proofs.Rendering.{before_is, lies_before}

clash : {b : Bool} → b ≡ true → b ≡ false → ⊥
clash h k = cc (h, k)

module _ (old : Option Node) (new : Node) (flag : Target) (linked : Lanes) (links later : Links) (g : Progress) (next : Lane) (us : List Posted) (pending : Lanes)
    (among : (l m : Lane) → are_linked links l m ≡ true → has pending l ≡ true → has pending m ≡ true → are_linked later l m ≡ true)
    (here : is_gone (Some new) flag ≡ false) where
  -- an update after the commit
  abbrev so : Posted → Posted
  so u = mark g.lanes g.cut new u

  -- how it stands
  abbrev stands : Posted → Standing
  stands u = standing_after g.lanes g.cut (visible_instances (Some new)) (kept_instances (Some new)) u

  -- what is known of each update: what is gone stays so, and once it isn't settled, its lane is pending
  abbrev pub Known : Posted → Type 0
  Known u = (is_gone old u.target ≡ true → is_gone (Some new) u.target ≡ true) × Pends (Some new) pending (so u)

  abbrev EachKnown : Transition → Type 0
  EachKnown e = AllByRecursion Known (updates_in e)

  abbrev after : Transition → Transition
  after e = transition_so stands e

  still_settled : (e : Transition) → EachKnown e → are_settled old e ≡ true → are_settled (Some new) (after e) ≡ true
  still_settled e known h =
      all_pass (is_settled (Some new)) (map so (marked_in e))
      (all_map (λ u. Known u × (is_settled old u ≡ true)) (λ u. is_settled (Some new) u ≡ true) so (λ u k. settled_later g.lanes g.cut new old u k.0.0 k.1) (marked_in e)
      (all_and Known (λ u. is_settled old u ≡ true) (marked_in e) known.1 (passed_by_all (is_settled old) (marked_in e) h)))

  -- if all its updates lie before the cut and the render has its lane, it is settled
  all_included : (e : Transition) → AllByRecursion (λ u. u.update.lane ≡ lane_of e) e.others → has g.lanes (lane_of e) ≡ true → AllByRecursion (λ u. is_before g.cut u ≡ true) (updates_in e)
      → are_settled (Some new) (after e) ≡ true
  all_included e same lane before =
      all_pass (is_settled (Some new)) (map so (marked_in e))
      (all_map (λ u. (u.update.lane ≡ lane_of e) × (is_before g.cut u ≡ true)) (λ u. is_settled (Some new) u ≡ true) so
      (λ u k. included_settled g.lanes g.cut new u (included_if g.lanes g.cut u k.1 (subst (λ (l : Lane). has g.lanes l ≡ true) (sym k.0) lane))) (marked_in e)
      (all_and (λ u. u.update.lane ≡ lane_of e) (λ u. is_before g.cut u ≡ true) (marked_in e) (refl, same) before.1))

  -- if the flag is unset, the transition is settled
  unset_settled : (e : Transition) → EachKnown e → OneKept old flag linked (Some g) None next (length us) e → is_accounted (so e.unsetting) ≡ true → are_settled (Some new) (after e) ≡ true
  unset_settled e known k h = go (is_accounted e.unsetting) refl (accounted_before g.lanes g.cut new e.unsetting h)
    where
      all_before : IsWholeAt g.cut e → is_before g.cut e.unsetting ≡ true → AllByRecursion (λ u. is_before g.cut u ≡ true) (updates_in e)
      all_before (inl all) b = all
      all_before (inr none) b = absurd (clash b none.1.0)

      go : (a : Bool) → is_accounted e.unsetting ≡ a → (is_accounted e.unsetting ≡ true) ⊎ (is_included g.lanes g.cut e.unsetting ≡ true) → are_settled (Some new) (after e) ≡ true
      go true is x = still_settled e known (k.last is)
      go false is (inl x) = absurd (clash x is)
      go false is (inr x) = let parts = included_parts g.lanes g.cut e.unsetting is x in all_included e k.same parts.1 (all_before k.whole parts.0)

  one_after : (count : ℕ) → count ≡ length us → (e : Transition) → EachKnown e → OneKept old flag linked (Some g) None next (length us) e → OneKept (Some new) flag linked None None next count (after e)
  one_after count is e known k =
      record {
        own = k.own;
        marked = k.marked;
        same = all_map (λ u. u.update.lane ≡ lane_of e) (λ u. u.update.lane ≡ lane_of e) so (λ u h. h) e.others k.same;
        numbers = all_map (λ u. u.update.number < length us) (λ u. u.update.number < count) so (λ u h. omega (arith, h, is)) (updates_in e) k.numbers;
        within = let many : length (map so e.others) ≡ length e.others = length-map e.others so in omega (arith, many, is, k.within);
        lane = go k.lane;
        last = λ h. unset_settled e known k h;
        whole = tt;
        untaken = λ h last. absurd (cc h);
        unclaimed = λ last. let many : length (map so e.others) ≡ length e.others = length-map e.others so in k.unclaimed (omega (arith, many, is, last));
      }
    where
      go : (are_settled old e ≡ true) ⊎ (has linked (lane_of e) ≡ true) → (are_settled (Some new) (after e) ≡ true) ⊎ (has linked (lane_of e) ≡ true)
      go (inl s) = inl (still_settled e known s)
      go (inr l) = inr l

  two_after : (e f : Transition) → EachKnown e → EachKnown f → OneKept old flag linked (Some g) None next (length us) e → OneKept old flag linked (Some g) None next (length us) f
      → TwoKept old links (Some g) e f → TwoKept (Some new) later None (after e) (after f)
  two_after e f known_e known_f k l h =
      record {
        before = all_map (λ u. u.update.number < f.unsetting.update.number) (λ u. u.update.number < f.unsetting.update.number) so (λ u n. n) (updates_in e) h.before;
        waits = go h.waits (are_settled (Some new) (after e)) refl;
      }
    where
      -- if the later one is included, so is the earlier one
      not_yet : Yet links (Some g) e f → are_settled (Some new) (after e) ≡ false → is_accounted (so f.unsetting) ≡ false
      not_yet y left = pick (is_accounted (so f.unsetting)) refl
        where
          from : (is_accounted f.unsetting ≡ true) ⊎ (is_included g.lanes g.cut f.unsetting ≡ true) → ⊥
          from (inl a) = clash a y.yet
          from (inr i) =
              let parts = included_parts g.lanes g.cut f.unsetting y.yet i in
              let both = y.together i in
              clash (all_included e k.same both.0
              (all_more (λ u. u.update.number < f.unsetting.update.number) (λ u. is_before g.cut u ≡ true)
              (λ u n. let b = before_is g.cut f.unsetting parts.0 in lies_before g.cut u (omega (arith, n, b))) (updates_in e) h.before)) left

          pick : (b : Bool) → is_accounted (so f.unsetting) ≡ b → b ≡ false
          pick true is = absurd (from (accounted_before g.lanes g.cut new f.unsetting is))
          pick false is = refl

      -- its lane is pending then, since its flag is mounted
      later_pending : Pends (Some new) pending (so f.unsetting) → is_accounted (so f.unsetting) ≡ false → has pending (lane_of f) ≡ true
      later_pending (inl s) n = absurd (clash (settled_accounted (Some new) flag (so f.unsetting) here l.own s) n)
      later_pending (inr p) n = p

      go : (are_settled old e ≡ true) ⊎ Yet links (Some g) e f → (b : Bool) → are_settled (Some new) (after e) ≡ b → (are_settled (Some new) (after e) ≡ true) ⊎ Yet later None (after e) (after f)
      go w true is = inl is
      go (inl s) false is = inl (still_settled e known_e s)
      go (inr y) false is =
          let none = not_yet y is in
          let first = unsettled_pends (Some new) pending (after e)
          (all_map Known (Pends (Some new) pending) so (λ u x. x.1) (marked_in e) known_e.1)
          (all_map (λ u. u.update.lane ≡ lane_of e) (λ u. u.update.lane ≡ lane_of e) so (λ u x. x) e.others k.same) is in
          let second = later_pending known_f.1.0.1 none in
          inr (record { yet = none; there = among (lane_of e) (lane_of f) y.there first second; back = among (lane_of f) (lane_of e) y.back second first; together = tt })

  -- What is kept of a flag when a render is committed, if links between pending lanes stay.
  pub committed_facts : AllByRecursion Known us → FlagFacts old flag linked links (Some g) None next us → FlagFacts (Some new) flag linked later None None next (map so us)
  committed_facts known h =
      let es = transitions_in flag us in
      let each_known = each_update Known flag us known in
      let both = all_and EachKnown (OneKept old flag linked (Some g) None next (length us)) es each_known h.each in
      let same = transitions_so stands flag us in
      record {
        starts = starts_so stands flag false us h.starts;
        each = subst (λ (xs : List Transition). AllByRecursion (OneKept (Some new) flag linked None None next (length (map so us))) xs) (sym same)
            (all_map (λ e. EachKnown e × OneKept old flag linked (Some g) None next (length us) e) (OneKept (Some new) flag linked None None next (length (map so us))) after
            (λ e x. one_after (length (map so us)) (length-map us so) e x.0 x.1) es both);
        order = subst (λ (xs : List Transition). EachToLater (TwoKept (Some new) later None) xs) (sym same)
            (order_map (λ e. EachKnown e × OneKept old flag linked (Some g) None next (length us) e) (TwoKept old links (Some g)) (TwoKept (Some new) later None) after
            (λ e f x y k. two_after e f x.0 y.0 x.1 y.1 k) es both h.order);
      }
