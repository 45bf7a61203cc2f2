-- The transitions of a flag in a journal whose updates of the flag are those of starts: what there is of them after an update more, and after a start.
use Rattle.std.specs.Prelude.{◌≡◌, ◌⊎◌, ℕ, suc, ◌+◌, Bool, true, false, cond, not, ◌&&◌, List, [], ◌∷◌, ◌++◌, length, map, pos, refl}
use Rattle.std.specs.List.{AllByRecursion}
use Rattle.std.proofs.Common.{ap, arith, inl, inr, subst, sym, ◌∙◌}
use Rattle.rx_lane.specs.declared.lane.Lane.{Lane}
use Rattle.rx_lane.specs.Lanes.{is_transition, same_lane}
use Rattle.rx_lane.specs.SetLaws.{same_lane-true}
use Rattle.rx_queue.specs.declared.entry.Standing.{Standing}
use Rattle.rx_queue.specs.declared.update.Op.TheVariants as op
use Rattle.rx_queue.specs.Journal.{Target, Posted, same_target}
use Rattle.transition_laws.specs.Transitions.{IsLast, Transition, begun_by, in_lane, lane_of, transitions_in, updates_in}

-- the first of a start's two updates of a flag
pub record IsSetting (flag : Target) (u : Posted) : Type 0 where
  pub own : same_target flag u.target ≡ true
  pub sets : u.update.op ≡ op.Set (pos 1)
  pub at_once : is_transition u.update.lane ≡ false

-- the second of them
pub record IsUnsetting (flag : Target) (u : Posted) : Type 0 where
  pub own : same_target flag u.target ≡ true
  pub sets : u.update.op ≡ op.Set (pos 0)
  pub marked : is_transition u.update.lane ≡ true

-- the updates of a flag are those of starts; its setting stands before the first of these, or none does
abbrev pub AreStartsFrom : (flag : Target) → (set : Bool) → List Posted → Type 0
AreStartsFrom flag false [] = Unit {0}
AreStartsFrom flag true [] = ⊥
AreStartsFrom flag false (u ∷ us) = ((same_target flag u.target ≡ false) × AreStartsFrom flag false us) ⊎ (IsSetting flag u × AreStartsFrom flag true us)
AreStartsFrom flag true (u ∷ us) = IsUnsetting flag u × AreStartsFrom flag false us

-- the updates of a flag are those of starts
abbrev pub AreStarts : (flag : Target) → List Posted → Type 0
AreStarts flag us = AreStartsFrom flag false us

-- updates are numbered from here on
abbrev pub CountedFrom : ℕ → List Posted → Type 0
CountedFrom n [] = Unit {0}
CountedFrom n (u ∷ us) = (u.update.number ≡ n) × CountedFrom (suc n) us

pub counted_push : (n : ℕ) (us : List Posted) (w : Posted) → w.update.number ≡ n + length us → CountedFrom n us → CountedFrom n (us ++ w ∷ [])
counted_push n [] w at h = (omega (arith, at), tt)
counted_push n (u ∷ us) w at h = (h.0, counted_push (suc n) us w (omega (arith, at)) h.1)

-- What an update begins

pub other_begins : (flag : Target) (u : Posted) (us : List Posted) → same_target flag u.target ≡ false → begun_by flag u us ≡ []
other_begins flag u [] h = refl
other_begins flag u (v ∷ us) h = rw h refl

pub marked_begins : (flag : Target) (u : Posted) (us : List Posted) → is_transition u.update.lane ≡ true → begun_by flag u us ≡ []
marked_begins flag u [] h = refl
marked_begins flag u (v ∷ us) h = go (same_target flag u.target) (is_transition u.update.lane) h
  where
    go : (a b : Bool) → b ≡ true → cond {A = List Transition} (a && not b) ((record { setting = u; unsetting = v; others = in_lane v.update.lane us }) ∷ []) [] ≡ []
    go true true e = refl
    go true false e = absurd (cc e)
    go false b e = refl

-- another update begins nothing
pub past_other : (flag : Target) (u : Posted) (us : List Posted) → same_target flag u.target ≡ false → transitions_in flag (u ∷ us) ≡ transitions_in flag us
past_other flag u us h = rw (other_begins flag u us h) refl

-- a start's two updates begin one
pub past_start : (flag : Target) (u v : Posted) (us : List Posted) → IsSetting flag u → IsUnsetting flag v
    → transitions_in flag (u ∷ v ∷ us) ≡ (record { setting = u; unsetting = v; others = in_lane v.update.lane us }) ∷ transitions_in flag us
past_start flag u v us setting unsetting = rw (setting.own, setting.at_once, marked_begins flag v us unsetting.marked) refl

-- An update more

-- a transition with an update more, which stands right behind its own and has its lane
pub record Extends (w : Posted) (count : ℕ) (e f : Transition) : Type 0 where
  pub is : f ≡ record e { others = e.others ++ w ∷ [] }
  pub last : IsLast count e
  pub lane : same_lane w.update.lane (lane_of e) ≡ true

-- transitions after an update more: each is as it was, but for the last one, which may have got it
abbrev pub AreAfter : (w : Posted) (count : ℕ) → (before after : List Transition) → Type 0
AreAfter w count [] [] = Unit {0}
AreAfter w count [] (f ∷ fs) = ⊥
AreAfter w count (e ∷ es) [] = ⊥
AreAfter w count (e ∷ es) (f ∷ fs) = ((e ≡ f) ⊎ (Extends w count e f × (es ≡ []))) × AreAfter w count es fs

are_same : (w : Posted) (count : ℕ) (es : List Transition) → AreAfter w count es es
are_same w count [] = tt
are_same w count (e ∷ es) = (inl refl, are_same w count es)

-- the updates in a lane with one more: it is one of them if all are and it has the lane too
pub record MoreInLane (l : Lane) (w : Posted) (us : List Posted) : Type 0 where
  pub is : in_lane l (us ++ w ∷ []) ≡ us ++ w ∷ []
  pub all : in_lane l us ≡ us
  pub lane : same_lane w.update.lane l ≡ true

more_in_lane : (l : Lane) (w : Posted) (us : List Posted) → (in_lane l (us ++ w ∷ []) ≡ in_lane l us) ⊎ MoreInLane l w us
more_in_lane l w [] = go (same_lane w.update.lane l) refl
  where
    go : (b : Bool) → same_lane w.update.lane l ≡ b → (in_lane l (w ∷ []) ≡ []) ⊎ MoreInLane l w []
    go true e = inr (record { is = rw e refl; all = refl; lane = e })
    go false e = inl (rw e refl)
more_in_lane l w (u ∷ us) = go (same_lane u.update.lane l) refl (more_in_lane l w us)
  where
    go : (b : Bool) → same_lane u.update.lane l ≡ b → (in_lane l (us ++ w ∷ []) ≡ in_lane l us) ⊎ MoreInLane l w us
        → (in_lane l (u ∷ (us ++ w ∷ [])) ≡ in_lane l (u ∷ us)) ⊎ MoreInLane l w (u ∷ us)
    go true e (inl h) = inl (rw (e, h) refl)
    go true e (inr h) = inr (record { is = rw e (ap (λ (xs : List Posted). u ∷ xs) h.is); all = rw e (ap (λ (xs : List Posted). u ∷ xs) h.all); lane = h.lane })
    go false e h = inl (rw e refl)

-- if all updates are in one transition lane, none of them begins a transition
none_begin : (flag : Target) (l : Lane) → is_transition l ≡ true → (us : List Posted) → in_lane l us ≡ us → transitions_in flag us ≡ []
none_begin flag l transition [] h = refl
none_begin flag l transition (u ∷ us) h = go (same_lane u.update.lane l) refl h (none_begin flag l transition us)
  where
    go : (b : Bool) → same_lane u.update.lane l ≡ b → cond b (u ∷ in_lane l us) [] ≡ u ∷ us → (in_lane l us ≡ us → transitions_in flag us ≡ []) → transitions_in flag (u ∷ us) ≡ []
    go true e k rest =
        let same : in_lane l us ≡ us = cc in
        let lane : is_transition u.update.lane ≡ true = subst (λ (m : Lane). is_transition m ≡ true) (sym (same_lane-true u.update.lane l e)) transition in
        rw (marked_begins flag u us lane) (rest same)
    go false e k rest = absurd (cc k)

mutual
  -- What there is of a flag's transitions after an update that is no start's.
  pub push_after : (flag : Target) (n : ℕ) (us : List Posted) (w : Posted) → AreStarts flag us → CountedFrom n us
      → AreAfter w (n + length us) (transitions_in flag us) (transitions_in flag (us ++ w ∷ []))
  push_after flag n [] w h counted = tt
  push_after flag n (u ∷ us) w (inl h) counted =
      let same : n + length (u ∷ us) ≡ suc n + length us = omega arith in
      rw (past_other flag u us h.0, past_other flag u (us ++ w ∷ []) h.0, same) (push_after flag (suc n) us w h.1 counted.1)
  push_after flag n (u ∷ us) w (inr h) counted = push_started flag n u us w h.0 h.1 counted

  push_started : (flag : Target) (n : ℕ) (u : Posted) (us : List Posted) (w : Posted) → IsSetting flag u → AreStartsFrom flag true us → CountedFrom n (u ∷ us)
      → AreAfter w (n + length (u ∷ us)) (transitions_in flag (u ∷ us)) (transitions_in flag (u ∷ (us ++ w ∷ [])))
  push_started flag n u [] w setting h counted = absurd h
  push_started flag n u (v ∷ us) w setting h counted =
      let same : n + length (u ∷ v ∷ us) ≡ suc (suc n) + length us = omega arith in
      let later : AreAfter w (n + length (u ∷ v ∷ us)) (transitions_in flag us) (transitions_in flag (us ++ w ∷ [])) =
      subst (λ (count : ℕ). AreAfter w count (transitions_in flag us) (transitions_in flag (us ++ w ∷ []))) (sym same) (push_after flag (suc (suc n)) us w h.1 counted.1.1) in
      rw (past_start flag u v us setting h.0, past_start flag u v (us ++ w ∷ []) setting h.0)
      (first (more_in_lane v.update.lane w us), later)
    where
      old : Transition
      old = record { setting = u; unsetting = v; others = in_lane v.update.lane us }

      new : Transition
      new = record { setting = u; unsetting = v; others = in_lane v.update.lane (us ++ w ∷ []) }

      first : (in_lane v.update.lane (us ++ w ∷ []) ≡ in_lane v.update.lane us) ⊎ MoreInLane v.update.lane w us
          → (old ≡ new) ⊎ (Extends w (n + length (u ∷ v ∷ us)) old new × (transitions_in flag us ≡ []))
      first (inl e) = inl (ap (λ (xs : List Posted). let t : Transition = record { setting = u; unsetting = v; others = xs } in t) (sym e))
      first (inr m) =
          inr (
            record {
              is = ap (λ (xs : List Posted). let t : Transition = record { setting = u; unsetting = v; others = xs } in t) (m.is ∙ ap (λ (xs : List Posted). xs ++ w ∷ []) (sym m.all));
              last = let at : v.update.number ≡ suc n = counted.1.0 in let many : length (in_lane v.update.lane us) ≡ length us = ap length m.all in omega (arith, at, many);
              lane = m.lane;
            },
            none_begin flag v.update.lane h.0.marked us m.all,
          )

-- A start

-- no update that is no transition belongs to one before it
in_lane_stays : (l : Lane) → is_transition l ≡ true → (us : List Posted) (u v : Posted) → is_transition u.update.lane ≡ false
    → in_lane l (us ++ u ∷ v ∷ []) ≡ in_lane l us
in_lane_stays l transition [] u v h = go (same_lane u.update.lane l) refl
  where
    go : (b : Bool) → same_lane u.update.lane l ≡ b → cond b (u ∷ in_lane l (v ∷ [])) [] ≡ []
    go true e = let same : is_transition u.update.lane ≡ true = subst (λ (m : Lane). is_transition m ≡ true) (sym (same_lane-true u.update.lane l e)) transition in absurd (cc (same, h))
    go false e = refl
in_lane_stays l transition (w ∷ us) u v h = rw (in_lane_stays l transition us u v h) refl

mutual
  -- After a start a flag has one transition more.
  pub start_after : (flag : Target) (us : List Posted) (u v : Posted) → AreStarts flag us → IsSetting flag u → IsUnsetting flag v
      → transitions_in flag (us ++ u ∷ v ∷ []) ≡ transitions_in flag us ++ (record { setting = u; unsetting = v; others = [] }) ∷ []
  start_after flag [] u v h setting unsetting = past_start flag u v [] setting unsetting
  start_after flag (x ∷ us) u v (inl h) setting unsetting =
      past_other flag x (us ++ u ∷ v ∷ []) h.0
      ∙ (start_after flag us u v h.1 setting unsetting
      ∙ ap (λ (es : List Transition). es ++ (record { setting = u; unsetting = v; others = [] }) ∷ []) (sym (past_other flag x us h.0)))
  start_after flag (x ∷ us) u v (inr h) setting unsetting = start_started flag x us u v h.0 h.1 setting unsetting

  start_started : (flag : Target) (x : Posted) (us : List Posted) (u v : Posted) → IsSetting flag x → AreStartsFrom flag true us → IsSetting flag u → IsUnsetting flag v
      → transitions_in flag (x ∷ (us ++ u ∷ v ∷ [])) ≡ transitions_in flag (x ∷ us) ++ (record { setting = u; unsetting = v; others = [] }) ∷ []
  start_started flag x [] u v was h setting unsetting = absurd h
  start_started flag x (y ∷ us) u v was h setting unsetting =
      past_start flag x y (us ++ u ∷ v ∷ []) was h.0
      ∙ (λ i. (record { setting = x; unsetting = y; others = in_lane_stays y.update.lane h.0.marked us u v setting.at_once i }) ∷ start_after flag us u v h.1 setting unsetting i)
      ∙ ap (λ (es : List Transition). es ++ (record { setting = u; unsetting = v; others = [] }) ∷ []) (sym (past_start flag x y us was h.0))

-- The updates of a flag stay those of starts

pub starts_push : (flag : Target) (b : Bool) (us : List Posted) (w : Posted) → same_target flag w.target ≡ false → AreStartsFrom flag b us → AreStartsFrom flag b (us ++ w ∷ [])
starts_push flag false [] w other h = inl (other, tt)
starts_push flag true [] w other h = absurd h
starts_push flag false (u ∷ us) w other (inl h) = inl (h.0, starts_push flag false us w other h.1)
starts_push flag false (u ∷ us) w other (inr h) = inr (h.0, starts_push flag true us w other h.1)
starts_push flag true (u ∷ us) w other h = (h.0, starts_push flag false us w other h.1)

pub starts_more : (flag : Target) (b : Bool) (us : List Posted) (u v : Posted) → IsSetting flag u → IsUnsetting flag v → AreStartsFrom flag b us → AreStartsFrom flag b (us ++ u ∷ v ∷ [])
starts_more flag false [] u v setting unsetting h = inr (setting, (unsetting, tt))
starts_more flag true [] u v setting unsetting h = absurd h
starts_more flag false (x ∷ us) u v setting unsetting (inl h) = inl (h.0, starts_more flag false us u v setting unsetting h.1)
starts_more flag false (x ∷ us) u v setting unsetting (inr h) = inr (h.0, starts_more flag true us u v setting unsetting h.1)
starts_more flag true (x ∷ us) u v setting unsetting h = (h.0, starts_more flag false us u v setting unsetting h.1)

-- Updates that stand otherwise

module _ (stands : Posted → Standing) where
  -- an update that stands so
  abbrev pub standing_so : Posted → Posted
  standing_so u = record u { standing = stands u }

  -- a transition with its updates so
  abbrev pub transition_so : Transition → Transition
  transition_so e = record { setting = standing_so e.setting; unsetting = standing_so e.unsetting; others = map standing_so e.others }

  in_lane_so : (l : Lane) (us : List Posted) → in_lane l (map standing_so us) ≡ map standing_so (in_lane l us)
  in_lane_so l [] = refl
  in_lane_so l (u ∷ us) = rw (in_lane_so l us) (go (same_lane u.update.lane l))
    where
      go : (b : Bool) → cond {A = List Posted} b (standing_so u ∷ map standing_so (in_lane l us)) [] ≡ map standing_so (cond {A = List Posted} b (u ∷ in_lane l us) [])
      go true = refl
      go false = refl

  begun_so : (flag : Target) (u : Posted) (us : List Posted) → begun_by flag (standing_so u) (map standing_so us) ≡ map transition_so (begun_by flag u us)
  begun_so flag u [] = refl
  begun_so flag u (v ∷ us) = rw (in_lane_so v.update.lane us) (go (same_target flag u.target && not (is_transition u.update.lane)))
    where
      go : (b : Bool) → cond {A = List Transition} b ((record { setting = standing_so u; unsetting = standing_so v; others = map standing_so (in_lane v.update.lane us) }) ∷ []) []
          ≡ map transition_so (cond {A = List Transition} b ((record { setting = u; unsetting = v; others = in_lane v.update.lane us }) ∷ []) [])
      go true = refl
      go false = refl

  map_joined : (es fs : List Transition) → map transition_so (es ++ fs) ≡ map transition_so es ++ map transition_so fs
  map_joined [] fs = refl
  map_joined (e ∷ es) fs = ap (λ (xs : List Transition). transition_so e ∷ xs) (map_joined es fs)

  -- The transitions are the same, with their updates so.
  pub transitions_so : (flag : Target) (us : List Posted) → transitions_in flag (map standing_so us) ≡ map transition_so (transitions_in flag us)
  transitions_so flag [] = refl
  transitions_so flag (u ∷ us) = rw (begun_so flag u us, transitions_so flag us) (sym (map_joined (begun_by flag u us) (transitions_in flag us)))

  pub counted_so : (n : ℕ) (us : List Posted) → CountedFrom n us → CountedFrom n (map standing_so us)
  counted_so n [] h = tt
  counted_so n (u ∷ us) h = (h.0, counted_so (suc n) us h.1)

  pub starts_so : (flag : Target) (b : Bool) (us : List Posted) → AreStartsFrom flag b us → AreStartsFrom flag b (map standing_so us)
  starts_so flag false [] h = h
  starts_so flag true [] h = h
  starts_so flag false (u ∷ us) (inl h) = inl (h.0, starts_so flag false us h.1)
  starts_so flag false (u ∷ us) (inr h) = inr (record { own = h.0.own; sets = h.0.sets; at_once = h.0.at_once }, starts_so flag true us h.1)
  starts_so flag true (u ∷ us) h = (record { own = h.0.own; sets = h.0.sets; marked = h.0.marked }, starts_so flag false us h.1)

-- What holds of each update of a journal holds of each of a transition

each_in_lane : (A : Posted → Type 0) (l : Lane) (us : List Posted) → AllByRecursion A us → AllByRecursion A (in_lane l us)
each_in_lane A l [] h = tt
each_in_lane A l (u ∷ us) h = go (same_lane u.update.lane l) (each_in_lane A l us h.1)
  where
    go : (b : Bool) → AllByRecursion A (in_lane l us) → AllByRecursion A (cond b (u ∷ in_lane l us) [])
    go true k = (h.0, k)
    go false k = tt

abbrev EachOf : (Posted → Type 0) → List Transition → Type 0
EachOf A es = AllByRecursion (λ e. AllByRecursion A (updates_in e)) es

pub each_update : (A : Posted → Type 0) (flag : Target) (us : List Posted) → AllByRecursion A us → AllByRecursion (λ e. AllByRecursion A (updates_in e)) (transitions_in flag us)
each_update A flag [] h = tt
each_update A flag (u ∷ us) h = joined (begun_by flag u us) (transitions_in flag us) (begun us h.1) (each_update A flag us h.1)
  where
    joined : (es fs : List Transition) → EachOf A es → EachOf A fs → EachOf A (es ++ fs)
    joined [] fs k l = l
    joined (e ∷ es) fs k l = (k.0, joined es fs k.1 l)

    begun : (us : List Posted) → AllByRecursion A us → EachOf A (begun_by flag u us)
    begun [] k = tt
    begun (v ∷ us) k = go (same_target flag u.target && not (is_transition u.update.lane))
      where
        go : (b : Bool) → EachOf A (cond b ((record { setting = u; unsetting = v; others = in_lane v.update.lane us }) ∷ []) [])
        go true = ((h.0, (k.0, each_in_lane A v.update.lane us k.1)), tt)
        go false = tt

-- a flag that no update is of has no transitions
pub none_of : (flag : Target) (us : List Posted) → AllByRecursion (λ u. same_target flag u.target ≡ false) us → AreStarts flag us × (transitions_in flag us ≡ [])
none_of flag [] h = (tt, refl)
none_of flag (u ∷ us) h = let rest = none_of flag us h.1 in (inl (h.0, rest.0), past_other flag u us h.0 ∙ rest.1)
