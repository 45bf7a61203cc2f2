-- A kept instance has the values of its last attempt again if no update of it is included that is neither done nor owed.
use Rattle.std.specs.List.{enumerate_from, list_any}
use Rattle.std.specs.Prelude.{Bool, List, [], cond, false, filter, fold, if◌then◌else◌, map, nat_lt, not, refl, true, ℕ, ℤ, ◌&&◌, ◌++◌, ◌+◌, ◌||◌, ◌∷◌, ◌≡◌, ◌≤◌}
use Rattle.std.proofs.Common.{ap, arith}
use Rattle.std.proofs.lemmas.Bool.Decides.{nat_tests}
use Rattle.rx_base.specs.declared.cut.Cut.{Cut}
use Rattle.rx_meaning.specs.Expressions.{answers_of}
use Rattle.rx_meaning.specs.Fresh.{Sight, hook_values}
use Rattle.rx_lane.specs.Lanes.{Lanes}
use Rattle.rx_queue.specs.History.{Answers, applied, stands_done, stands_open, stands_owed}
use Rattle.rx_queue.specs.Journal.{Posted, Target, belongs_to, hook, is_included, is_new, is_resource, marked_update, same_target, standing_after, state_from, state_of}
use Rattle.rx_queue.specs.declared.entry.Standing.{Standing}
use Rattle.rx_queue.specs.declared.entry.Standing.TheVariants.{Done, Open, Owed}
use Rattle.commit_laws.proofs.Settling.{no_resource, target_has, with_standing}
use Rattle.rx_elem.proofs.Deciding.{or_fails}
use Rattle.rx_meaning.specs.Again.{AccountedBefore, AllOpen, NoNewUpdate}
use Rattle.rx_meaning.specs.Settled.{includes}
use Rattle.rx_lane.specs.Lanes as lanes_of

-- the standing of a kept update after the commit, with the tests as they come out
abbrev kept_standing : (before lane : Bool) → Standing → Standing
kept_standing x l st = if (x && (stands_done st || stands_owed st || l)) && false then Done else if x && (not (stands_done st) && (l && true)) then Owed else st

again : (x y l m : Bool) (st : Standing) → (x ≡ true → y ≡ true) → (stands_done st ≡ true → x ≡ true) → (stands_owed st ≡ true → x ≡ true)
    → (((y && (stands_done (kept_standing x l st) || stands_owed (kept_standing x l st) || m)) && stands_open (kept_standing x l st)) && true) ≡ false
    → (y && (stands_done (kept_standing x l st) || stands_owed (kept_standing x l st) || m)) ≡ (x && (stands_done st || stands_owed st || l))
again true true l m Done i d o h = refl
again true false l m Done i d o h = absurd (cc (i refl))
again false y l m Done i d o h = absurd (cc (d refl))
again true true true m Owed i d o h = refl
again true true false m Owed i d o h = refl
again true false l m Owed i d o h = absurd (cc (i refl))
again false y l m Owed i d o h = absurd (cc (o refl))
again true true true m Open i d o h = refl
again true true false true Open i d o h = absurd (cc h)
again true true false false Open i d o h = refl
again true false l m Open i d o h = absurd (cc (i refl))
again false true l true Open i d o h = absurd (cc h)
again false true l false Open i d o h = refl
again false false l m Open i d o h = refl

below_more : (a b n : ℕ) → a ≤ b → nat_lt n a ≡ true → nat_lt n b ≡ true
below_more a b n h k = grind (arith, nat_tests)

-- each update of this target passes the one test after a change exactly if it passed the other before
abbrev pub PassesLater : Target → (Posted → Posted) → (Posted → Bool) → (Posted → Bool) → List Posted → Type 0
PassesLater t f later test [] = Unit {0}
PassesLater t f later test (u ∷ us) = (same_target t u.target ≡ true → later (f u) ≡ test u) × PassesLater t f later test us

states_change : (answers : Answers) (t : Target) (f : Posted → Standing) (later test : Posted → Bool) (us : List Posted) → PassesLater t (with_standing f) later test us → (x : ℤ)
    → state_from answers later x (filter (λ u. same_target t u.target) (map (with_standing f) us)) ≡ state_from answers test x (filter (λ u. same_target t u.target) us)
states_change answers t f later test [] h x = refl
states_change answers t f later test (u ∷ us) h x = go (same_target t u.target) refl (states_change answers t f later test us h.1)
  where
    pick : (b : Bool) → test u ≡ b → later (with_standing f u) ≡ b
        → ((x : ℤ) → state_from answers later x (filter (λ u. same_target t u.target) (map (with_standing f) us)) ≡ state_from answers test x (filter (λ u. same_target t u.target) us))
        → state_from answers later x (with_standing f u ∷ filter (λ u. same_target t u.target) (map (with_standing f) us))
        ≡ state_from answers test x (u ∷ filter (λ u. same_target t u.target) us)
    pick true y z r = rw (y, z, r (applied answers x u.update.op)) refl
    pick false y z r = rw (y, z, r x) refl

    go : (b : Bool) → same_target t u.target ≡ b
        → ((x : ℤ) → state_from answers later x (filter (λ u. same_target t u.target) (map (with_standing f) us)) ≡ state_from answers test x (filter (λ u. same_target t u.target) us))
        → state_from answers later x (cond b (with_standing f u ∷ filter (λ u. same_target t u.target) (map (with_standing f) us)) (filter (λ u. same_target t u.target) (map (with_standing f) us)))
        ≡ state_from answers test x (cond b (u ∷ filter (λ u. same_target t u.target) us) (filter (λ u. same_target t u.target) us))
    go true same r = pick (test u) refl (h.0 same) r
    go false same r = r x

-- updates of which none passes add nothing
pub updates_more : (t : Target) (test : Posted → Bool) (us new : List Posted) → PassesLater t (λ u. u) test (λ u. false) new
    → filter test (filter (λ u. same_target t u.target) (us ++ new)) ≡ filter test (filter (λ u. same_target t u.target) us)
updates_more t test [] [] h = refl
updates_more t test [] (u ∷ us) h = go (same_target t u.target) refl (updates_more t test [] us h.1)
  where
    go : (b : Bool) → same_target t u.target ≡ b → filter test (filter (λ u. same_target t u.target) us) ≡ []
        → filter test (cond b (u ∷ filter (λ u. same_target t u.target) us) (filter (λ u. same_target t u.target) us)) ≡ []
    go true same r = rw (h.0 same, r) refl
    go false same r = r
updates_more t test (v ∷ vs) new h = go (same_target t v.target) (test v) refl (updates_more t test vs new h)
  where
    go : (b d : Bool) → test v ≡ d → filter test (filter (λ u. same_target t u.target) (vs ++ new)) ≡ filter test (filter (λ u. same_target t u.target) vs)
        → filter test (cond b (v ∷ filter (λ u. same_target t u.target) (vs ++ new)) (filter (λ u. same_target t u.target) (vs ++ new)))
        ≡ filter test (cond b (v ∷ filter (λ u. same_target t u.target) vs) (filter (λ u. same_target t u.target) vs))
    go true true e r = rw (e, r) refl
    go true false e r = rw (e, r) refl
    go false d e r = r

-- the same of the states
states_more : (answers : Answers) (t : Target) (test : Posted → Bool) (us new : List Posted) → PassesLater t (λ u. u) test (λ u. false) new → (x : ℤ)
    → state_from answers test x (filter (λ u. same_target t u.target) (us ++ new)) ≡ state_from answers test x (filter (λ u. same_target t u.target) us)
states_more answers t test us new h x = ap (λ (vs : List Posted). fold (λ now u. applied answers now u.update.op) x vs) (updates_more t test us new h)

module _ (s : Sight) (lanes : Lanes) (cut : Cut) (visible kept set : List ℕ) (n : ℕ) (is_kept : includes kept n ≡ true) (not_visible : includes visible n ≡ false) (is_in : includes set n ≡ true)
    (grows : s.cut.updates ≤ cut.updates) where
  pass_again : (k : ℕ) (us : List Posted) → AccountedBefore s.cut us → NoNewUpdate lanes cut set (map (marked_update s.lanes s.cut visible kept) us)
      → PassesLater (hook n k) (marked_update s.lanes s.cut visible kept) (is_included lanes cut) (is_included s.lanes s.cut) us
  pass_again k [] a h = tt
  pass_again k (u ∷ us) a h =
      let v = marked_update s.lanes s.cut visible kept u in
      let parts = or_fails (is_new lanes cut v && belongs_to set v.target)
      (list_any (λ u. is_new lanes cut u && belongs_to set u.target) (map (marked_update s.lanes s.cut visible kept) us)) h in (
        λ same. go (belongs_to visible u.target) (is_resource u.target) (belongs_to kept u.target) (belongs_to set u.target)
            (target_has visible n k u.target false not_visible same) (no_resource n k u.target same) (target_has kept n k u.target true is_kept same) (target_has set n k u.target true is_in same) parts.0,
        pass_again k us a.1 parts.1,
      )
    where
      st : Bool → Bool → Bool → Standing
      st a r b = if is_included s.lanes s.cut u && (a || r) then Done else if nat_lt u.update.number s.cut.updates && (not (stands_done u.standing) && (lanes_of.has s.lanes u.update.lane && b)) then Owed else u.standing

      go : (a r b c : Bool) → a ≡ false → r ≡ false → b ≡ true → c ≡ true
          → (((nat_lt u.update.number cut.updates && (stands_done (st a r b) || stands_owed (st a r b) || lanes_of.has lanes u.update.lane)) && stands_open (st a r b)) && c) ≡ false
          → (nat_lt u.update.number cut.updates && (stands_done (st a r b) || stands_owed (st a r b) || lanes_of.has lanes u.update.lane)) ≡ is_included s.lanes s.cut u
      go false false true true x v y z f =
          again (nat_lt u.update.number s.cut.updates) (nat_lt u.update.number cut.updates) (lanes_of.has s.lanes u.update.lane) (lanes_of.has lanes u.update.lane) u.standing
          (below_more s.cut.updates cut.updates u.update.number grows) a.0.0 a.0.1 f
      go true r b c x v y z f = absurd (cc x)
      go false true b c x v y z f = absurd (cc v)
      go false false false c x v y z f = absurd (cc y)
      go false false true false x v y z f = absurd (cc z)

  new_pass : (k : ℕ) (us : List Posted) → AllOpen us → NoNewUpdate lanes cut set us → PassesLater (hook n k) (λ u. u) (is_included lanes cut) (λ u. false) us
  new_pass k [] a h = tt
  new_pass k (u ∷ us) a h =
      let parts = or_fails (is_new lanes cut u && belongs_to set u.target)
      (list_any (λ u. is_new lanes cut u && belongs_to set u.target) us) h in (
        λ same. go (is_included lanes cut u) u.standing (belongs_to set u.target) a.0 a.1 (target_has set n k u.target true is_in same) parts.0,
        new_pass k us a.2 parts.1,
      )
    where
      go : (i : Bool) (st : Standing) (b : Bool) → stands_done st ≡ false → stands_owed st ≡ false → b ≡ true → ((i && stands_open st) && b) ≡ false → i ≡ false
      go false st b x y z f = refl
      go true Open true x y z f = absurd (cc f)
      go true Done b x y z f = absurd (cc x)
      go true Owed b x y z f = absurd (cc y)
      go true Open false x y z f = absurd (cc z)

  -- A kept instance has the values of the attempt before the commit.
  pub values_again : (new : List Posted) (resolutions : _) → AccountedBefore s.cut s.journal.updates → AllOpen new
      → NoNewUpdate lanes cut set (map (marked_update s.lanes s.cut visible kept) s.journal.updates) → NoNewUpdate lanes cut set new
      → (initials : List ℤ) → hook_values s n initials
      ≡ hook_values (record s { journal = record { updates = map (marked_update s.lanes s.cut visible kept) s.journal.updates ++ new; resolutions = resolutions }; lanes = lanes; cut = cut }) n initials
  unfolding state_of
  values_again new resolutions a o h l initials = from 0 initials
    where
      from : (k : ℕ) (xs : List ℤ)
          → map (λ h. state_of (answers_of s.program) s.lanes s.cut h.1 (filter (λ u. same_target (hook n h.0) u.target) s.journal.updates)) (enumerate_from k xs)
          ≡ map (λ h. state_of (answers_of s.program) lanes cut h.1 (filter (λ u. same_target (hook n h.0) u.target) (map (marked_update s.lanes s.cut visible kept) s.journal.updates ++ new))) (enumerate_from k xs)
      from k [] = refl
      from k (x ∷ xs) =
          rw (
            states_more (answers_of s.program) (hook n k) (is_included lanes cut) (map (marked_update s.lanes s.cut visible kept) s.journal.updates) new (new_pass k new o l) x,
            states_change (answers_of s.program) (hook n k) (standing_after s.lanes s.cut visible kept) (is_included lanes cut) (is_included s.lanes s.cut) s.journal.updates (pass_again k s.journal.updates a h) x,
            from (k + 1) xs,
          ) refl
