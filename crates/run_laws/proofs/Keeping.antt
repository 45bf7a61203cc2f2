-- What each step keeps of lanes, updates and resources: the pieces.
use Rattle.std.specs.List.{list_all, list_any}
use Rattle.std.specs.Prelude.{Bool, List, None, Option, Some, [], cond, false, filter, if◌then◌else◌, is_some, length, map, min, nat_eq, nat_lt, not, refl, slice_get, suc, true, zero, ℕ, ℤ, ◌&&◌, ◌+◌, ◌++◌, ◌<◌, ◌||◌, ◌∷◌, ◌≡◌, ◌≤◌, ◌⊎◌}
use Rattle.std.specs.Option.{option_eq}
use Rattle.std.proofs.Common.{ap, arith, inl, inr, subst, sym, ◌∙◌}
use Rattle.std.proofs.lemmas.Bool.Decides.{nat_tests}
use Rattle.std.proofs.lemmas.List.{length-append}
use Rattle.std.proofs.Math.Seq.{take-length}
use Rattle.rx_base.specs.Awaits.{Awaits, resource_limit}
use Rattle.rx_base.specs.Awaits as awaits
use Rattle.rx_queue.specs.Pairs.{Pair, in_versions}
use Rattle.rx_base.specs.declared.cut.Cut.{Cut}
use Rattle.rx_lane.specs.declared.lane.Lane.{Lane}
use Rattle.rx_lane.specs.declared.lane.Lane.TheVariants as lane
use Rattle.rx_lane.specs.Lanes.{Lanes, has, intersection, is_transition, minus, no_lanes, union, within}
use Rattle.rx_lane.specs.SetLaws.{has-lanes_where}
use Rattle.rx_elem.specs.Trees.{Node}
use Rattle.rx_elem.proofs.Deciding.{and_passes, both_hold, or_left, or_right, same_itself, same_number}
use Rattle.rx_queue.specs.Journal.{Journal, Posted, Resolution, Target, done_version, last_version, marked, marked_update, next_version, resolved_by, resolved_now, resolved_since, resource, same_target, value_in, values_in, version_of}
use Rattle.rx_meaning.specs.Outcome.{awaits_resolved, is_awaited, visible_awaits}
use Rattle.rx_sched.specs.Schedule.{Schedule, after_commit, after_deferral, while_suspended}
use Rattle.rx_sched.specs.Waiting.{Waiting, lesser, version_in}
use Rattle.rx_sched.specs.Waiting as waiting
use Rattle.rx_sched.specs.WaitingLaws.{version_in-in_versions, version_in-waiting_where, version_in-waiting_where_above}
use Rattle.commit_laws.proofs.NoneLost.{got_mapped, union_right}
use Rattle.commit_laws.proofs.ResourceLaws.{among_fails, no_value}
use Rattle.run_laws.proofs.DueLanes.{DueIn, all_has, all_of, not_none}

-- Numbers of updates

abbrev pub Numbered : List Posted → Type 0
Numbered us = (n : ℕ) (u : Posted) → slice_get us n ≡ Some u → u.update.number ≡ n

got_last : (us : List Posted) (u v : Posted) (n : ℕ) → slice_get (us ++ u ∷ []) n ≡ Some v → (slice_get us n ≡ Some v) ⊎ ((u ≡ v) × (n ≡ length us))
got_last [] u v zero h = inr (cc, refl)
got_last [] u v (suc n) h = absurd (cc h)
got_last (w ∷ us) u v zero h = inl h
got_last (w ∷ us) u v (suc n) h = go (got_last us u v n h)
  where
    go : (slice_get us n ≡ Some v) ⊎ ((u ≡ v) × (n ≡ length us)) → (slice_get us n ≡ Some v) ⊎ ((u ≡ v) × (suc n ≡ suc (length us)))
    go (inl e) = inl e
    go (inr e) = inr (e.0, ap suc e.1)

pub push_numbered : (us : List Posted) (u : Posted) → u.update.number ≡ length us → Numbered us → Numbered (us ++ u ∷ [])
push_numbered us u same h n v there = go (got_last us u v n there)
  where
    go : (slice_get us n ≡ Some v) ⊎ ((u ≡ v) × (n ≡ length us)) → v.update.number ≡ n
    go (inl e) = h n v e
    go (inr e) = ap (λ (w : Posted). w.update.number) (sym e.0) ∙ (same ∙ sym e.1)

pub marked_numbered : (lanes : Lanes) (cut : Cut) (visible kept : List ℕ) (us : List Posted) → Numbered us → Numbered (map (marked_update lanes cut visible kept) us)
marked_numbered lanes cut visible kept us h n v there =
    let u = got_mapped (marked_update lanes cut visible kept) us n v there in
    ap (λ (w : Posted). w.update.number) (sym u.2) ∙ h n u.0 u.1

-- What has a value by now

now_is : (j : Journal) (r v : ℕ) → resolved_now j r v ≡ value_in j.resolutions r v
now_is j r v = ap (λ (xs : List Resolution). value_in xs r v) (take-length j.resolutions)

pub next_is : (j : Journal) (r : ℕ) → next_version j r ≡ length (values_in j.resolutions r)
next_is j r = ap (λ (xs : List Resolution). length (values_in xs r)) (take-length j.resolutions)

-- a resolution changes nothing of other resources
other_values : (xs : List Resolution) (x : Resolution) (r : ℕ) → nat_eq x.resource r ≡ false → values_in (xs ++ x ∷ []) r ≡ values_in xs r
other_values [] x r h = rw h refl
other_values (y ∷ ys) x r h = go (nat_eq y.resource r) (other_values ys x r h)
  where
    go : (b : Bool) → values_in (ys ++ x ∷ []) r ≡ values_in ys r
        → map (λ z. z.value) (cond b (y ∷ filter (λ z. nat_eq z.resource r) (ys ++ x ∷ [])) (filter (λ z. nat_eq z.resource r) (ys ++ x ∷ [])))
        ≡ map (λ z. z.value) (cond b (y ∷ filter (λ z. nat_eq z.resource r) ys) (filter (λ z. nat_eq z.resource r) ys))
    go true e = ap (λ (zs : List ℤ). y.value ∷ zs) e
    go false e = e

-- its own has one value more
own_values : (xs : List Resolution) (x : Resolution) (r : ℕ) → nat_eq x.resource r ≡ true → values_in (xs ++ x ∷ []) r ≡ values_in xs r ++ x.value ∷ []
own_values [] x r h = rw h refl
own_values (y ∷ ys) x r h = go (nat_eq y.resource r) (own_values ys x r h)
  where
    go : (b : Bool) → values_in (ys ++ x ∷ []) r ≡ values_in ys r ++ x.value ∷ []
        → map (λ z. z.value) (cond b (y ∷ filter (λ z. nat_eq z.resource r) (ys ++ x ∷ [])) (filter (λ z. nat_eq z.resource r) (ys ++ x ∷ [])))
        ≡ map (λ z. z.value) (cond b (y ∷ filter (λ z. nat_eq z.resource r) ys) (filter (λ z. nat_eq z.resource r) ys)) ++ x.value ∷ []
    go true e = ap (λ (zs : List ℤ). y.value ∷ zs) e
    go false e = e

got_before : (ys : List ℤ) (y : ℤ) (v : ℕ) → (v ≡ length ys → ⊥) → slice_get (ys ++ y ∷ []) v ≡ slice_get ys v
got_before [] y zero h = absurd (h refl)
got_before [] y (suc v) h = refl
got_before (z ∷ zs) y zero h = refl
got_before (z ∷ zs) y (suc v) h = got_before zs y v (λ e. h (ap suc e))

-- a resolution changes nothing but of the next version of its resource
pub now_stays : (us : List Posted) (xs : List Resolution) (x : Resolution) (r v : ℕ) → (x.resource ≡ r → v ≡ length (values_in xs r) → ⊥)
    → resolved_now (record { updates = us; resolutions = xs ++ x ∷ [] }) r v ≡ resolved_now (record { updates = us; resolutions = xs }) r v
now_stays us xs x r v other =
    now_is (record { updates = us; resolutions = xs ++ x ∷ [] }) r v ∙ (go (nat_eq x.resource r) refl ∙ sym (now_is (record { updates = us; resolutions = xs }) r v))
  where
    go : (b : Bool) → nat_eq x.resource r ≡ b → value_in (xs ++ x ∷ []) r v ≡ value_in xs r v
    go true e =
        ap (λ (ys : List ℤ). slice_get ys v) (own_values xs x r e) ∙ got_before (values_in xs r) x.value v (λ same. other (same_number x.resource r e) same)
    go false e = ap (λ (ys : List ℤ). slice_get ys v) (other_values xs x r e)

-- Versions that were asked for

-- no resource has more values than versions that were asked for, the first included
abbrev pub AskedFor : Journal → Type 0
AskedFor j = (r : ℕ) → next_version j r ≤ 1 + last_version j r

more_counted : (mine : Posted → Bool) (us : List Posted) (u : Posted) → length (filter (λ v. true) (filter mine us)) ≤ length (filter (λ v. true) (filter mine (us ++ u ∷ [])))
more_counted mine [] u = omega arith
more_counted mine (v ∷ us) u = go (mine v) (more_counted mine us u)
  where
    go : (b : Bool) → length (filter (λ v. true) (filter mine us)) ≤ length (filter (λ v. true) (filter mine (us ++ u ∷ [])))
        → length (filter (λ v. true) (cond b (v ∷ filter mine us) (filter mine us))) ≤ length (filter (λ v. true) (cond b (v ∷ filter mine (us ++ u ∷ [])) (filter mine (us ++ u ∷ []))))
    go true l = omega (arith, l)
    go false l = l

-- an update asks for no less
pub asked_push : (us : List Posted) (xs : List Resolution) (u : Posted) → AskedFor (record { updates = us; resolutions = xs }) → AskedFor (record { updates = us ++ u ∷ []; resolutions = xs })
asked_push us xs u h r = let l = h r in let more = more_counted (λ v. same_target (resource r) v.target) us u in omega (arith, l, more)

marked_counted : (lanes : Lanes) (cut : Cut) (visible kept : List ℕ) (t : Target) (us : List Posted)
    → length (filter (λ v. true) (filter (λ u. same_target t u.target) (map (marked_update lanes cut visible kept) us))) ≡ length (filter (λ v. true) (filter (λ u. same_target t u.target) us))
marked_counted lanes cut visible kept t [] = refl
marked_counted lanes cut visible kept t (u ∷ us) = go (same_target t u.target) (marked_counted lanes cut visible kept t us)
  where
    go : (b : Bool)
        → length (filter (λ v. true) (filter (λ u. same_target t u.target) (map (marked_update lanes cut visible kept) us))) ≡ length (filter (λ v. true) (filter (λ u. same_target t u.target) us))
        → length (filter (λ v. true) (cond b (marked_update lanes cut visible kept u ∷ filter (λ u. same_target t u.target) (map (marked_update lanes cut visible kept) us)) (filter (λ u. same_target t u.target) (map (marked_update lanes cut visible kept) us))))
        ≡ length (filter (λ v. true) (cond b (u ∷ filter (λ u. same_target t u.target) us) (filter (λ u. same_target t u.target) us)))
    go true e = ap suc e
    go false e = e

-- nor does a commit
pub asked_marked : (lanes : Lanes) (cut : Cut) (visible kept : List ℕ) (j : Journal) → AskedFor j → AskedFor (marked lanes cut visible kept j)
asked_marked lanes cut visible kept j h r = let l = h r in let same = marked_counted lanes cut visible kept (resource r) j.updates in omega (arith, l, same)

none_past : (ys : List ℤ) (v : ℕ) → slice_get ys v ≡ None → length ys ≤ v
none_past [] v h = omega arith
none_past (y ∷ ys) zero h = absurd (cc h)
none_past (y ∷ ys) (suc v) h = let l = none_past ys v h in omega (arith, l)

one_longer : (ys : List ℤ) (y : ℤ) → length (ys ++ y ∷ []) ≡ length ys + 1
one_longer ys y = simp length-append (omega arith)

-- a resource gets a value only if its last version has none
pub asked_resolved : (us : List Posted) (xs : List Resolution) (x : Resolution)
    → resolved_now (record { updates = us; resolutions = xs }) x.resource (last_version (record { updates = us; resolutions = xs }) x.resource) ≡ None
    → AskedFor (record { updates = us; resolutions = xs }) → AskedFor (record { updates = us; resolutions = xs ++ x ∷ [] })
asked_resolved us xs x none h r = go (nat_eq x.resource r) refl
  where
    before : Journal
    before = record { updates = us; resolutions = xs }

    after : Journal
    after = record { updates = us; resolutions = xs ++ x ∷ [] }

    go : (b : Bool) → nat_eq x.resource r ≡ b → next_version after r ≤ 1 + last_version after r
    go true e =
        let same : x.resource ≡ r = same_number x.resource r e in
        let none_here : resolved_now before r (last_version before r) ≡ None = subst (λ (q : ℕ). resolved_now before q (last_version before q) ≡ None) same none in
        let past : length (values_in xs r) ≤ last_version before r = none_past (values_in xs r) (last_version before r) (sym (now_is before r (last_version before r)) ∙ none_here) in
        let more : length (values_in (xs ++ x ∷ []) r) ≡ length (values_in xs r) + 1 = ap length (own_values xs x r e) ∙ one_longer (values_in xs r) x.value in
        omega (arith, past, more, next_is after r)
    go false e =
        let same : length (values_in (xs ++ x ∷ []) r) ≡ length (values_in xs r) = ap length (other_values xs x r e) in
        let l = h r in
        omega (arith, l, same, next_is after r, next_is before r)

-- Suspended lanes

-- what is suspended is a pending transition, and what is waited for has no value
abbrev pub Waits : Schedule → Journal → Type 0
Waits sch j =
    (within sch.suspended sch.pending ≡ true) × (list_all is_transition sch.suspended ≡ true) × (sch.suspended ≡ no_lanes → sch.waiting ≡ waiting.nothing)
    × ((r v : ℕ) → waiting.has sch.waiting r v ≡ true → resolved_now j r v ≡ None)

-- if nothing is suspended, nothing is waited for
pub none_waits : (sch : Schedule) (j : Journal) → sch.suspended ≡ no_lanes → sch.waiting ≡ waiting.nothing → Waits sch j
none_waits sch j none nothing = (
  ap (λ (ls : Lanes). within ls sch.pending) none,
  ap (list_all is_transition) none,
  λ h. nothing,
  λ r v h. absurd (clash h (ap (λ (w : Waiting). waiting.has w r v) nothing)),
)
  where
    clash : {b : Bool} → b ≡ true → b ≡ false → ⊥
    clash h k = cc (h, k)

-- what is suspended stays pending when more becomes so
pub more_waits : (a b : Schedule) (j k : Journal) → ((l : Lane) → has a.pending l ≡ true → has b.pending l ≡ true) → b.suspended ≡ a.suspended → b.waiting ≡ a.waiting
    → ((r v : ℕ) → waiting.has a.waiting r v ≡ true → resolved_now k r v ≡ resolved_now j r v) → Waits a j → Waits b k
more_waits a b j k more suspended waits same w = (
  ap (λ (ls : Lanes). within ls b.pending) suspended ∙ all_of (has b.pending) a.suspended (λ l h. more l (all_has (has a.pending) a.suspended w.0 l h)),
  ap (list_all is_transition) suspended ∙ w.1,
  λ none. waits ∙ w.2 (sym suspended ∙ none),
  λ r v h.
      let here : waiting.has a.waiting r v ≡ true = ap (λ (x : Waiting). waiting.has x r v) (sym waits) ∙ h in
      same r v here ∙ w.3 r v here,
)

still_kept : (ls : Lanes) (w : Waiting) (r v : ℕ) → waiting.has (while_suspended ls w) r v ≡ true → waiting.has w r v ≡ true
still_kept [] w r v h = absurd (cc h)
still_kept (l ∷ ls) w r v h = h

-- after a commit
pub commit_waits : (sch : Schedule) (lanes still : Lanes) (now : ℕ) (j k : Journal) → ((r v : ℕ) → resolved_now k r v ≡ resolved_now j r v) → Waits sch j
    → Waits (after_commit sch lanes still now) k
commit_waits sch lanes still now j k same w = (
  all_of (has after) suspended (λ l h. (both l h).1),
  all_of is_transition suspended (λ l h. all_has is_transition sch.suspended w.1 l (both l h).0),
  λ none. ap (λ (ls : Lanes). while_suspended ls sch.waiting) none,
  λ r v h. same r v ∙ w.3 r v (still_kept suspended sch.waiting r v h),
)
  where
    after : Lanes
    after = union (minus sch.pending lanes) still

    suspended : Lanes
    suspended = intersection sch.suspended after

    both : (l : Lane) → has suspended l ≡ true → (has sch.suspended l ≡ true) × (has after l ≡ true)
    both l h = and_passes (has sch.suspended l) (has after l) (sym (has-lanes_where (λ m. has sch.suspended m && has after m) l) ∙ h)

union_parts : (a b : Lanes) (l : Lane) → has (union a b) l ≡ true → (has a l ≡ true) ⊎ (has b l ≡ true)
union_parts a b l h = go (has a l) (has b l) refl refl (sym (has-lanes_where (λ m. has a m || has b m) l) ∙ h)
  where
    go : (x y : Bool) → has a l ≡ x → has b l ≡ y → (x || y) ≡ true → (has a l ≡ true) ⊎ (has b l ≡ true)
    go true y e f g = inl e
    go false true e f g = inr f
    go false false e f g = absurd (cc g)

-- Pairs that are waited for

lesser_is : (x y : Option ℕ) (v : ℕ) → option_eq nat_eq (lesser x y) (Some v) ≡ true → (option_eq nat_eq x (Some v) ≡ true) ⊎ (option_eq nat_eq y (Some v) ≡ true)
lesser_is None y v h = inr h
lesser_is (Some a) None v h = inl h
lesser_is (Some a) (Some b) v h = go (nat_lt a b) refl
  where
    go : (o : Bool) → nat_lt a b ≡ o → (nat_eq a v ≡ true) ⊎ (nat_eq b v ≡ true)
    go true e =
        let less : a < b = grind (arith, nat_tests) in
        let first : min a b ≡ a = omega arith in
        inl (subst (λ (n : ℕ). nat_eq n v ≡ true) first h)
    go false e =
        let no_less : b ≤ a = grind (arith, nat_tests) in
        let second : min a b ≡ b = omega arith in
        inr (subst (λ (n : ℕ). nat_eq n v ≡ true) second h)

waits_for_one : (a b : Waiting) (r v : ℕ) → waiting.has (waiting.union a b) r v ≡ true → (waiting.has a r v ≡ true) ⊎ (waiting.has b r v ≡ true)
waits_for_one a b r v h = go (nat_lt r resource_limit) refl
  where
    both : ℕ → Option ℕ
    both q = lesser (version_in a q) (version_in b q)

    never : option_eq nat_eq None (Some v) ≡ true → ⊥
    never x = cc x

    go : (o : Bool) → nat_lt r resource_limit ≡ o → (waiting.has a r v ≡ true) ⊎ (waiting.has b r v ≡ true)
    go true e =
        let small : r < resource_limit = grind (arith, nat_tests) in
        lesser_is (version_in a r) (version_in b r) v (ap (λ (w : Option ℕ). option_eq nat_eq w (Some v)) (sym (version_in-waiting_where both r small)) ∙ h)
    go false e =
        let late : resource_limit ≤ r = grind (arith, nat_tests) in
        absurd (never (ap (λ (w : Option ℕ). option_eq nat_eq w (Some v)) (sym (version_in-waiting_where_above both r late)) ∙ h))

-- a pair of those that are awaited is a resource in its version
awaited_pair : (version : ℕ → ℕ) (waits : Awaits) (r v : ℕ) → waiting.has (in_versions version waits) r v ≡ true → (awaits.has waits r ≡ true) × (version r ≡ v)
awaited_pair version waits r v h = go (awaits.has waits r) refl (ap (λ (w : Option ℕ). option_eq nat_eq w (Some v)) (sym (version_in-in_versions version waits r)) ∙ h)
  where
    go : (b : Bool) → awaits.has waits r ≡ b → option_eq nat_eq (if b then Some (version r) else None) (Some v) ≡ true → (awaits.has waits r ≡ true) × (version r ≡ v)
    go true e x = (e, same_number (version r) v x)
    go false e x = absurd (cc x)

any_pair : (test : Pair → Bool) (version : ℕ → ℕ) (waits : Awaits) → list_any test (in_versions version waits) ≡ list_any (λ r. test (record { resource = r; version = version r })) waits
any_pair test version [] = refl
any_pair test version (r ∷ rs) = ap (λ b. test (record { resource = r; version = version r }) || b) (any_pair test version rs)

-- what was not resolved before the cut nor since has no value by now
unresolved_now : (cut : Cut) (j : Journal) (version : ℕ → ℕ) (waits : Awaits) → resolved_since cut j (in_versions version waits) ≡ false → (r : ℕ) → awaits.has waits r ≡ true
    → resolved_by cut j r (version r) ≡ None → resolved_now j r (version r) ≡ None
unresolved_now cut j version waits since r there none =
    let all : list_any (λ q. is_some (resolved_now j q (version q)) && not (is_some (resolved_by cut j q (version q)))) waits ≡ false =
    sym (any_pair (λ w. is_some (resolved_now j w.resource w.version) && not (is_some (resolved_by cut j w.resource w.version))) version waits) ∙ since in
    let fails : (is_some (resolved_now j r (version r)) && not (is_some (resolved_by cut j r (version r)))) ≡ false =
    among_fails (λ q. is_some (resolved_now j q (version q)) && not (is_some (resolved_by cut j q (version q)))) waits all r there in
    no_value (resolved_now j r (version r)) (go (is_some (resolved_now j r (version r))) (is_some (resolved_by cut j r (version r))) (ap is_some none) fails)
  where
    go : (x y : Bool) → y ≡ false → (x && not y) ≡ false → x ≡ false
    go true true e f = absurd (cc e)
    go true false e f = f
    go false y e f = refl

-- after a deferral
pub deferral_waits : (sch : Schedule) (lanes : Lanes) (cut : Cut) (j : Journal) (version : ℕ → ℕ) (waits : Awaits) (now : ℕ) → DueIn sch lanes → list_all is_transition lanes ≡ true
    → resolved_since cut j (in_versions version waits) ≡ false → ((r : ℕ) → awaits.has waits r ≡ true → resolved_by cut j r (version r) ≡ None) → Waits sch j
    → Waits (after_deferral sch lanes (in_versions version waits) now) j
deferral_waits sch lanes cut j version waits now due transitions since unseen w = (
  all_of (has sch.pending) (union sch.suspended lanes) (λ l h. pending l (union_parts sch.suspended lanes l h)),
  all_of is_transition (union sch.suspended lanes) (λ l h. transition l (union_parts sch.suspended lanes l h)),
  λ none. absurd (not_none sch lanes due (all_of (has no_lanes) lanes (λ l h. ap (λ (ls : Lanes). has ls l) (sym none) ∙ union_right sch.suspended lanes l h))),
  λ r v h. unresolved r v (waits_for_one sch.waiting (in_versions version waits) r v h),
)
  where
    pending : (l : Lane) → (has sch.suspended l ≡ true) ⊎ (has lanes l ≡ true) → has sch.pending l ≡ true
    pending l (inl h) = all_has (has sch.pending) sch.suspended w.0 l h
    pending l (inr h) = all_has (has sch.pending) lanes due.0 l h

    transition : (l : Lane) → (has sch.suspended l ≡ true) ⊎ (has lanes l ≡ true) → is_transition l ≡ true
    transition l (inl h) = all_has is_transition sch.suspended w.1 l h
    transition l (inr h) = all_has is_transition lanes transitions l h

    unresolved : (r v : ℕ) → (waiting.has sch.waiting r v ≡ true) ⊎ (waiting.has (in_versions version waits) r v ≡ true) → resolved_now j r v ≡ None
    unresolved r v (inl h) = w.3 r v h
    unresolved r v (inr h) =
        let there = awaited_pair version waits r v h in
        subst (λ (n : ℕ). resolved_now j r n ≡ None) there.1 (unresolved_now cut j version waits since r there.0 (unseen r there.0))

-- Resources to retry

-- if a visible hidden boundary awaits what has a value, Retry is pending
abbrev pub Retries : Option Node → Lanes → Journal → Type 0
Retries tree pending j = (r : ℕ) → is_awaited tree r ≡ true → is_some (resolved_now j r (done_version j r)) ≡ true → has pending lane.Retry ≡ true

since_then : (cut : Cut) (j : Journal) (version : ℕ → ℕ) (w : Awaits) (r : ℕ) → awaits.has w r ≡ true → is_some (resolved_now j r (version r)) ≡ true → resolved_by cut j r (version r) ≡ None
    → resolved_since cut j (in_versions version w) ≡ true
since_then cut j version [] r there now before = absurd (cc there)
since_then cut j version (q ∷ qs) r there now before = go (nat_eq q r) refl there (λ h. since_then cut j version qs r h now before)
  where
    test : ℕ → Bool
    test n = is_some (resolved_now j n (version n)) && not (is_some (resolved_by cut j n (version n)))

    go : (b : Bool) → nat_eq q r ≡ b → (b || awaits.has qs r) ≡ true → (awaits.has qs r ≡ true → resolved_since cut j (in_versions version qs) ≡ true)
        → resolved_since cut j (in_versions version (q ∷ qs)) ≡ true
    go true e h k =
        let same : q ≡ r = same_number q r e in
        let unseen : not (is_some (resolved_by cut j r (version r))) ≡ true = ap (λ (o : Option ℤ). not (is_some o)) before in
        let here : test r ≡ true = both_hold (is_some (resolved_now j r (version r))) (not (is_some (resolved_by cut j r (version r)))) now unseen in
        or_left (test q) (resolved_since cut j (in_versions version qs)) (subst (λ (n : ℕ). test n ≡ true) (sym same) here)
    go false e h k = or_right (test q) (resolved_since cut j (in_versions version qs)) (k h)

some_since : (cut : Cut) (j : Journal) (version : ℕ → ℕ) (ws : List Awaits) (r : ℕ) → list_any (λ w. awaits.has w r) ws ≡ true → is_some (resolved_now j r (version r)) ≡ true
    → resolved_by cut j r (version r) ≡ None → list_any (λ w. resolved_since cut j (in_versions version w)) ws ≡ true
some_since cut j version [] r there now before = absurd (cc there)
some_since cut j version (w ∷ ws) r there now before = go (awaits.has w r) refl there (λ h. some_since cut j version ws r h now before)
  where
    test : Awaits → Bool
    test a = resolved_since cut j (in_versions version a)

    go : (b : Bool) → awaits.has w r ≡ b → (b || list_any (λ w. awaits.has w r) ws) ≡ true
        → (list_any (λ w. awaits.has w r) ws ≡ true → list_any test ws ≡ true) → (test w || list_any test ws) ≡ true
    go true e h k = or_left (test w) (list_any test ws) (since_then cut j version w r e now before)
    go false e h k = or_right (test w) (list_any test ws) (k h)

-- so a commit that leaves something to retry has it pending
pub commit_retries : (tree : Node) (lanes : Lanes) (cut : Cut) (j k : Journal) (pending : Lanes)
    → ((r : ℕ) → is_awaited (Some tree) r ≡ true → resolved_by cut j r (version_of lanes cut j r) ≡ None)
    → ((r v : ℕ) → resolved_now k r v ≡ resolved_now j r v) → ((r : ℕ) → done_version k r ≡ version_of lanes cut j r)
    → (awaits_resolved lanes cut j tree ≡ true → has pending lane.Retry ≡ true) → Retries (Some tree) pending k
commit_retries tree lanes cut j k pending unseen same done retry r there now =
    let here : resolved_now k r (done_version k r) ≡ resolved_now j r (version_of lanes cut j r) = same r (done_version k r) ∙ ap (resolved_now j r) (done r) in
    retry (some_since cut j (version_of lanes cut j) (visible_awaits (Some tree)) r there (ap is_some (sym here) ∙ now) (unseen r there))

-- a resolution
pub resolution_retries : (tree : Option Node) (us : List Posted) (xs : List Resolution) (x : Resolution) (a b : Lanes)
    → ((l : Lane) → has a l ≡ true → has b l ≡ true)
    → (is_awaited tree x.resource ≡ true → done_version (record { updates = us; resolutions = xs }) x.resource ≡ length (values_in xs x.resource) → has b lane.Retry ≡ true)
    → Retries tree a (record { updates = us; resolutions = xs }) → Retries tree b (record { updates = us; resolutions = xs ++ x ∷ [] })
resolution_retries tree us xs x a b more retry h r there now = go (nat_eq x.resource r) (nat_eq (done_version (record { updates = us; resolutions = xs }) r) (length (values_in xs r))) refl refl
  where
    done : ℕ → ℕ
    done q = done_version (record { updates = us; resolutions = xs }) q

    stays : (x.resource ≡ r → done r ≡ length (values_in xs r) → ⊥) → has b lane.Retry ≡ true
    stays other = more lane.Retry (h r there (ap is_some (sym (now_stays us xs x r (done r) other)) ∙ now))

    apart : {c : Bool} → c ≡ true → c ≡ false → ⊥
    apart e f = cc (e, f)

    itself : (m n : ℕ) → m ≡ n → nat_eq m n ≡ true
    itself m n same = subst (λ (k : ℕ). nat_eq m k ≡ true) same (same_itself m)

    go : (e f : Bool) → nat_eq x.resource r ≡ e → nat_eq (done r) (length (values_in xs r)) ≡ f → has b lane.Retry ≡ true
    go true true e f =
        let same : x.resource ≡ r = same_number x.resource r e in
        retry (subst (λ (n : ℕ). is_awaited tree n ≡ true) (sym same) there)
        (subst (λ (n : ℕ). done n ≡ length (values_in xs n)) (sym same) (same_number (done r) (length (values_in xs r)) f))
    go true false e f = stays (λ same also. apart (itself (done r) (length (values_in xs r)) also) f)
    go false f e g = stays (λ same also. apart (itself x.resource r same) e)
