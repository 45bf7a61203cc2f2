-- What is kept of a flag while updates of others are accepted, and when its own start is.
use Rattle.std.specs.Prelude.{◌≡◌, ◌⊎◌, ℕ, ◌+◌, ◌<◌, ◌≤◌, Bool, true, false, ◌&&◌, List, [], ◌∷◌, ◌++◌, Option, Some, None, IfSome, length, nat_lt, refl}
use Rattle.std.specs.List.{AllByRecursion}
use Rattle.std.proofs.Common.{inl, inr, subst, sym, arith}
use Rattle.std.proofs.lemmas.Bool.Decides.{nat_tests}
use Rattle.std.proofs.lemmas.List.{length-append}
use Rattle.rx_lane.specs.declared.lane.Lane.{Lane}
use Rattle.rx_lane.specs.Lanes.{Lanes, has, is_transition, same_lane}
use Rattle.rx_lane.specs.SetLaws.{same_lane-true}
use Rattle.rx_elem.specs.Trees.{Node}
use Rattle.rx_queue.specs.Journal.{Target, Posted, is_before, same_target}
use Rattle.rx_sched.specs.Links.{Links}
use Rattle.rx_model.specs.State.{Progress}
use Rattle.transition_laws.specs.Transitions.{Transition, are_settled, is_accounted, is_gone, is_settled, lane_of, marked_in, transitions_in, updates_in}
use Rattle.transition_laws.specs.Flags.{EachToLater, IsUntaken, IsWhole, RendersBoth, are_linked}
use Rattle.transition_laws.proofs.Journals.{AreAfter, CountedFrom, Extends, IsSetting, IsUnsetting, push_after, start_after, starts_more, starts_push}
use Rattle.transition_laws.proofs.Lists.{all_and, all_more, all_one_more, order_more, order_one_more, passed_by_all}
use Rattle.transition_laws.proofs.Facts.{FlagFacts, OneKept, TwoKept, Yet, settled_accounted}

-- Transitions after an update more

each_after : (P Q : Transition → Type 0) (w : Posted) (count : ℕ) → ((e : Transition) → P e → Q e) → ((e f : Transition) → Extends w count e f → P e → Q f)
    → (es fs : List Transition) → AreAfter w count es fs → AllByRecursion P es → AllByRecursion Q fs
each_after P Q w count same more [] [] a h = tt
each_after P Q w count same more [] (f ∷ fs) a h = absurd a
each_after P Q w count same more (e ∷ es) [] a h = absurd a
each_after P Q w count same more (e ∷ es) (f ∷ fs) (inl is, a) h = (subst Q is (same e h.0), each_after P Q w count same more es fs a h.1)
each_after P Q w count same more (e ∷ es) (f ∷ fs) (inr x, a) h = (more e f x.0 h.0, each_after P Q w count same more es fs a h.1)

order_after : (R S : Transition → Transition → Type 0) (w : Posted) (count : ℕ) → ((e f : Transition) → R e f → S e f) → ((e f g : Transition) → Extends w count f g → R e f → S e g)
    → (es fs : List Transition) → AreAfter w count es fs → EachToLater R es → EachToLater S fs
order_after R S w count same more [] [] a h = tt
order_after R S w count same more [] (f ∷ fs) a h = absurd a
order_after R S w count same more (e ∷ es) [] a h = absurd a
order_after R S w count same more (e ∷ es) (f ∷ fs) (inl is, a) h = (
  subst (λ (x : Transition). AllByRecursion (S x) fs) is (each_after (R e) (S e) w count (λ g k. same e g k) (λ g k x l. more e g k x l) es fs a h.0),
  order_after R S w count same more es fs a h.1,
)
order_after R S w count same more (e ∷ es) (f ∷ fs) (inr x, a) h = (nothing fs (subst (λ (gs : List Transition). AreAfter w count gs fs) x.1 a), order_after R S w count same more es fs a h.1)
  where
    nothing : (gs : List Transition) → AreAfter w count [] gs → AllByRecursion (S f) gs
    nothing [] b = tt
    nothing (g ∷ gs) b = absurd b

-- an update that comes now lies behind a cut in progress
pub behind : (progress : Option Progress) (us : List Posted) (w : Posted) → IfSome progress (λ g. g.cut.updates ≤ length us) → length us ≤ w.update.number
    → IfSome progress (λ g. is_before g.cut w ≡ false)
behind None us w h at = tt
behind (Some g) us w h at = go (nat_lt w.update.number g.cut.updates) refl
  where
    go : (b : Bool) → nat_lt w.update.number g.cut.updates ≡ b → b ≡ false
    go true e = let low : w.update.number < g.cut.updates = grind (arith, nat_tests) in absurd (omega (arith, low, h, at))
    go false e = refl

longer : (us : List Posted) (w : Posted) → length (us ++ w ∷ []) ≡ length us + 1
longer us w = simp length-append (omega arith)

longer_two : (us : List Posted) (u v : Posted) → length (us ++ u ∷ v ∷ []) ≡ length us + 2
longer_two us u v = simp length-append (omega arith)

-- a later count
pub still_below : (a b : ℕ) (us : List Posted) → a ≤ b → AllByRecursion (λ u. u.update.number < a) us → AllByRecursion (λ u. u.update.number < b) us
still_below a b us le h = all_more (λ u. u.update.number < a) (λ u. u.update.number < b) (λ u k. omega (arith, k, le)) us h

-- a transition that no update came to, when more updates came
pub older : (tree : Option Node) (flag : Target) (linked later : Lanes) (progress : Option Progress) (on after : Option Lane) (next following : Lane) (count more : ℕ) (e : Transition)
    → count < more → (are_settled tree e ≡ true) ⊎ (has later (lane_of e) ≡ true)
    → OneKept tree flag linked progress on next count e → OneKept tree flag later progress after following more e
older tree flag linked later progress on after next following count more e less lane h =
    record {
      own = h.own;
      marked = h.marked;
      same = h.same;
      numbers = still_below count more (updates_in e) (omega (arith, less)) h.numbers;
      within = omega (arith, h.within, less);
      lane = lane;
      last = h.last;
      whole = h.whole;
      untaken = λ on is. absurd (omega (arith, h.within, less, is));
      unclaimed = λ is. absurd (omega (arith, h.within, less, is));
    }

-- Updates of others

-- what a transition lane that an update has tells: it is the next to be claimed, or that of the event that goes on, and will not be claimed next
abbrev pub IsJoined : (on : Option Lane) (next following : Lane) → Lane → Type 0
IsJoined on next following l = (same_lane l next ≡ true) ⊎ ((on ≡ Some l) × (same_lane l following ≡ false))

module _ (tree : Option Node) (flag : Target) (linked : Lanes) (links joined : Links) (progress : Option Progress) (on after : Option Lane) (next following : Lane)
    (us : List Posted) (w : Posted) (counted : CountedFrom 0 us) (at : w.update.number ≡ length us) (fresh : is_accounted w ≡ false) (other : same_target flag w.target ≡ false)
    (cut : IfSome progress (λ g. g.cut.updates ≤ length us)) (more : (l m : Lane) → are_linked links l m ≡ true → are_linked joined l m ≡ true)
    (joins : (l : Lane) → is_transition l ≡ true → w.update.lane ≡ l → IsJoined on next following l) (here : is_gone tree flag ≡ false) where
  extended : (e f : Transition) → Extends w (length us) e f → OneKept tree flag linked progress on next (length us) e
      → OneKept tree flag linked progress after following (length us + 1) f
  extended e f x h = subst (OneKept tree flag linked progress after following (length us + 1)) (sym x.is) (go (joins (lane_of e) h.marked is_lane))
    where
      is_lane : w.update.lane ≡ lane_of e
      is_lane = same_lane-true w.update.lane (lane_of e) x.lane

      whole_of : (g : Option Progress) → AllByRecursion (IsUntaken g) (updates_in (record e { others = e.others ++ w ∷ [] })) → IsWhole g (record e { others = e.others ++ w ∷ [] })
      whole_of None k = tt
      whole_of (Some g) k = inr (all_more (IsUntaken (Some g)) (λ u. is_before g.cut u ≡ false) (λ u l. l.1) (updates_in (record e { others = e.others ++ w ∷ [] })) k)

      clash : {b : Bool} → b ≡ true → b ≡ false → ⊥
      clash k l = cc (k, l)

      linked_too : AllByRecursion (IsUntaken progress) (updates_in e) → (are_settled tree e ≡ true) ⊎ (has linked (lane_of e) ≡ true) → has linked (lane_of e) ≡ true
      linked_too free (inr k) = k
      linked_too free (inl k) =
          absurd (clash (settled_accounted tree flag e.unsetting here h.own (passed_by_all (is_settled tree) (marked_in e) k).0) free.1.0.0)

      go : IsJoined on next following (lane_of e) → OneKept tree flag linked progress after following (length us + 1) (record e { others = e.others ++ w ∷ [] })
      go (inl claimed) = absurd (clash claimed (h.unclaimed x.last))
      go (inr goes) =
          let free = h.untaken goes.0 x.last in
          let own : IsUntaken progress w = (fresh, behind progress us w cut (omega (arith, at))) in
          let all : AllByRecursion (IsUntaken progress) (updates_in (record e { others = e.others ++ w ∷ [] })) =
          (free.0, (free.1.0, all_one_more (IsUntaken progress) e.others w free.1.1 own)) in
          let below = still_below (length us) (length us + 1) (updates_in e) (omega arith) h.numbers in
          record {
            own = h.own;
            marked = h.marked;
            same = all_one_more (λ u. u.update.lane ≡ lane_of e) e.others w h.same is_lane;
            numbers = (below.0, (below.1.0, all_one_more (λ u. u.update.number < length us + 1) e.others w below.1.1 (omega (arith, at))));
            within = let one = longer e.others w in let last = x.last in omega (arith, one, last);
            lane = inr (linked_too free h.lane);
            last = λ k. absurd (clash k free.1.0.0);
            whole = whole_of progress all;
            untaken = λ k l. all;
            unclaimed = λ l. goes.1;
          }

  two_more : (e f : Transition) → TwoKept tree links progress e f → TwoKept tree joined progress e f
  two_more e f h = record { before = h.before; waits = go h.waits }
    where
      go : (are_settled tree e ≡ true) ⊎ Yet links progress e f → (are_settled tree e ≡ true) ⊎ Yet joined progress e f
      go (inl k) = inl k
      go (inr k) = inr (record { yet = k.yet; there = more (lane_of e) (lane_of f) k.there; back = more (lane_of f) (lane_of e) k.back; together = k.together })

  two_extended : (e f g : Transition) → Extends w (length us) f g → TwoKept tree links progress e f → TwoKept tree joined progress e g
  two_extended e f g x h = subst (TwoKept tree joined progress e) (sym x.is) (go (two_more e f h))
    where
      go : TwoKept tree joined progress e f → TwoKept tree joined progress e (record f { others = f.others ++ w ∷ [] })
      go k = record { before = k.before; waits = part k.waits }
        where
          part : (are_settled tree e ≡ true) ⊎ Yet joined progress e f → (are_settled tree e ≡ true) ⊎ Yet joined progress e (record f { others = f.others ++ w ∷ [] })
          part (inl l) = inl l
          part (inr l) = inr (record { yet = l.yet; there = l.there; back = l.back; together = l.together })

  -- What is kept of a flag while an update of another target is accepted.
  pub pushed : FlagFacts tree flag linked links progress on next us → FlagFacts tree flag linked joined progress after following (us ++ w ∷ [])
  pushed h =
      let grown : AreAfter w (length us) (transitions_in flag us) (transitions_in flag (us ++ w ∷ [])) =
      subst (λ (n : ℕ). AreAfter w n (transitions_in flag us) (transitions_in flag (us ++ w ∷ []))) (omega arith) (push_after flag 0 us w h.starts counted) in
      record {
        starts = starts_push flag false us w other h.starts;
        each = subst (λ (n : ℕ). AllByRecursion (OneKept tree flag linked progress after following n) (transitions_in flag (us ++ w ∷ []))) (sym (longer us w))
            (each_after (OneKept tree flag linked progress on next (length us)) (OneKept tree flag linked progress after following (length us + 1)) w (length us)
            (λ e k. older tree flag linked linked progress on after next following (length us) (length us + 1) e (omega arith) k.lane k) extended
            (transitions_in flag us) (transitions_in flag (us ++ w ∷ [])) grown h.each);
        order = order_after (TwoKept tree links progress) (TwoKept tree joined progress) w (length us) two_more two_extended (transitions_in flag us) (transitions_in flag (us ++ w ∷ [])) grown h.order;
      }

-- Its own start

module _ (tree : Option Node) (flag : Target) (linked later : Lanes) (links joined : Links) (progress : Option Progress) (on after : Option Lane) (next following : Lane)
    (us : List Posted) (u v : Posted) (setting : IsSetting flag u) (unsetting : IsUnsetting flag v) (u_at : u.update.number ≡ length us) (v_at : v.update.number ≡ length us + 1)
    (u_fresh : is_accounted u ≡ false) (v_fresh : is_accounted v ≡ false) (cut : IfSome progress (λ g. g.cut.updates ≤ length us))
    (more : (l m : Lane) → are_linked links l m ≡ true → are_linked joined l m ≡ true)
    (all : (l m : Lane) → has later l ≡ true → has later m ≡ true → are_linked joined l m ≡ true) (own : has later v.update.lane ≡ true)
    (unclaimed : same_lane v.update.lane following ≡ false) where
  begun : Transition
  begun = record { setting = u; unsetting = v; others = [] }

  abbrev Lane_kept : Transition → Type 0
  Lane_kept e = (are_settled tree e ≡ true) ⊎ (has later (lane_of e) ≡ true)

  begun_kept : OneKept tree flag later progress after following (length us + 2) begun
  unfolding begun
  begun_kept =
      record {
        own = unsetting.own;
        marked = unsetting.marked;
        same = tt;
        numbers = (omega (arith, u_at), (omega (arith, v_at), tt));
        within = omega (arith, v_at);
        lane = inr own;
        last = λ k. absurd (clash k v_fresh);
        whole = whole progress u_behind v_behind;
        untaken = λ k l. ((u_fresh, u_behind), ((v_fresh, v_behind), tt));
        unclaimed = λ k. unclaimed;
      }
    where
      clash : {b : Bool} → b ≡ true → b ≡ false → ⊥
      clash k l = cc (k, l)

      u_behind : IfSome progress (λ g. is_before g.cut u ≡ false)
      u_behind = behind progress us u cut (omega (arith, u_at))

      v_behind : IfSome progress (λ g. is_before g.cut v ≡ false)
      v_behind = behind progress us v cut (omega (arith, v_at))

      whole : (g : Option Progress) → IfSome g (λ g. is_before g.cut u ≡ false) → IfSome g (λ g. is_before g.cut v ≡ false)
          → IsWhole g (record { setting = u; unsetting = v; others = [] })
      whole None h k = tt
      whole (Some g) h k = inr (h, (k, tt))

  two_begun : (e : Transition) → Lane_kept e → OneKept tree flag linked progress on next (length us) e → TwoKept tree joined progress e begun
  unfolding begun
  two_begun e lane h =
      record {
        before = all_more (λ x. x.update.number < length us) (λ x. x.update.number < v.update.number) (λ x k. omega (arith, k, v_at)) (updates_in e) h.numbers;
        waits = go lane;
      }
    where
      together : (g : Option Progress) → IfSome g (λ g. is_before g.cut v ≡ false) → RendersBoth g e (record { setting = u; unsetting = v; others = [] })
      together None k = tt
      together (Some g) k = λ is. absurd (cc (and_first (is_before g.cut v) _ k is))
        where
          and_first : (a b : Bool) → a ≡ false → (a && b) ≡ true → false ≡ true
          and_first true b e f = absurd (cc e)
          and_first false b e f = f

      go : Lane_kept e → (are_settled tree e ≡ true) ⊎ Yet joined progress e (record { setting = u; unsetting = v; others = [] })
      go (inl k) = inl k
      go (inr k) = inr (record { yet = v_fresh; there = all (lane_of e) v.update.lane k own; back = all v.update.lane (lane_of e) own k; together = together progress (behind progress us v cut (omega (arith, v_at))) })

  two_linked : (e f : Transition) → TwoKept tree links progress e f → TwoKept tree joined progress e f
  two_linked e f h = record { before = h.before; waits = go h.waits }
    where
      go : (are_settled tree e ≡ true) ⊎ Yet links progress e f → (are_settled tree e ≡ true) ⊎ Yet joined progress e f
      go (inl k) = inl k
      go (inr k) = inr (record { yet = k.yet; there = more (lane_of e) (lane_of f) k.there; back = more (lane_of f) (lane_of e) k.back; together = k.together })

  -- What is kept of a flag when a start of it is accepted, if the lanes that it links then have those of its transitions that aren't settled.
  pub started : AllByRecursion Lane_kept (transitions_in flag us) → FlagFacts tree flag linked links progress on next us
      → FlagFacts tree flag later joined progress after following (us ++ u ∷ v ∷ [])
  unfolding begun
  started lanes h =
      let es = transitions_in flag us in
      let each = all_and Lane_kept (OneKept tree flag linked progress on next (length us)) es lanes h.each in
      record {
        starts = starts_more flag false us u v setting unsetting h.starts;
        each = subst (λ (n : ℕ). AllByRecursion (OneKept tree flag later progress after following n) (transitions_in flag (us ++ u ∷ v ∷ []))) (sym (longer_two us u v))
            (subst (λ (xs : List Transition). AllByRecursion (OneKept tree flag later progress after following (length us + 2)) xs) (sym (start_after flag us u v h.starts setting unsetting))
            (all_one_more (OneKept tree flag later progress after following (length us + 2)) es begun
            (all_more (λ e. Lane_kept e × OneKept tree flag linked progress on next (length us) e) (OneKept tree flag later progress after following (length us + 2))
            (λ e k. older tree flag linked later progress on after next following (length us) (length us + 2) e (omega arith) k.0 k.1) es each) begun_kept));
        order = subst (λ (xs : List Transition). EachToLater (TwoKept tree joined progress) xs) (sym (start_after flag us u v h.starts setting unsetting))
            (order_one_more (TwoKept tree joined progress) es begun
            (order_more (λ e. Unit {0}) (TwoKept tree links progress) (TwoKept tree joined progress) (λ e f x y k. two_linked e f k) es (all_more Lane_kept (λ e. Unit {0}) (λ e k. tt) es lanes) h.order)
            (all_more (λ e. Lane_kept e × OneKept tree flag linked progress on next (length us) e) (λ e. TwoKept tree joined progress e begun) (λ e k. two_begun e k.0 k.1) es each));
      }
