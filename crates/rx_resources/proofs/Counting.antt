-- What is kept of a resource, counted in the journal.
use Rattle.std.proofs.Common.{◌≡◌, ◌∙◌, sym, ap, refl, ℕ, zero, suc, ◌+◌, ◌≤◌, Bool, true, false, cond, not, ◌&&◌, ◌||◌, List, [], ◌∷◌, ◌++◌, map, filter, length, nat_eq, subst, take, ℤ, slice_get, arith}
use Rattle.std.specs.List.{AllByRecursion}
use Rattle.std.proofs.lemmas.Bool.Decides.{nat_tests}
use Rattle.std.proofs.lemmas.List.{length-map}
use Rattle.rx_base.specs.declared.cut.Cut.{Cut}
use Rattle.rx_lane.specs.Lanes.{Lanes, has}
use Rattle.rx_queue.specs.declared.entry.Standing.{Standing}
use Rattle.rx_queue.specs.declared.entry.Standing.TheVariants.{Open, Done, Owed}
use Rattle.rx_queue.specs.History.{includes, lies_before, stands_done, stands_owed}
use Rattle.rx_queue.specs.Journal.{Journal, Posted, Target, hook, resource, same_target, belongs_to, is_resource, updates_of, is_before, standing_after, marked_update, marked, version_of, done_version, values_in, Resolution, next_version, resolved_now}
use Rattle.rx_queue.specs.Journal as journal
use Rattle.rx_queue.proofs.Bridging.{updates_of-map}
use Rattle.rx_resources.specs.declared.resource.Asked.{Asked}
use Rattle.rx_resources.specs.Kept.{Kept, committed, is_included, refreshed, resolved, version_at}
use Rattle.rx_resources.specs.Stands.{AreOpenOrDone, IsKeptOf, IsOpenOrDone, NoneOwed, asked_by}

-- an update is done
abbrev is_done : Posted → Bool
is_done u = stands_done u.standing

-- an update isn't done
abbrev is_left : Posted → Bool
is_left u = not (stands_done u.standing)

-- what is left of some updates, as it is kept
abbrev left_of : List Posted → List Asked
left_of us = map asked_by (filter is_left us)

-- ---- the version that a render sees

-- a refresh is open, or done before the cut
abbrev IsFine : Cut → Posted → Standing → Type 0
IsFine cut u s = (stands_owed s ≡ false) × (stands_done s ≡ true → is_before cut u ≡ true)

module _ (lanes : Lanes) (cut : Cut) (u : Posted) (done seen : List Posted) where
  count_if : (left : List Asked) (b : Bool) → length done + length left ≡ length seen
      → length done + length (cond b (asked_by u ∷ left) left) ≡ length (cond b (u ∷ seen) seen)
  count_if left true e = omega (arith, e)
  count_if left false e = e

  count_one : (rest : List Posted) (s : Standing) → IsFine cut u s → length done + length (filter (is_included lanes cut) (map asked_by rest)) ≡ length seen
      → length (cond (stands_done s) (u ∷ done) done) + length (filter (is_included lanes cut) (map asked_by (cond (not (stands_done s)) (u ∷ rest) rest)))
      ≡ length (cond (includes lanes cut u.update s) (u ∷ seen) seen)
  count_one rest Open is e = count_if (filter (is_included lanes cut) (map asked_by rest)) (is_included lanes cut (asked_by u)) e
  count_one rest Done is e = rw (is.1 refl) (omega (arith, e))
  count_one rest Owed is e = cc

counted : (lanes : Lanes) (cut : Cut) (us : List Posted) → AllByRecursion (IsOpenOrDone cut) us
    → length (filter is_done us) + length (filter (is_included lanes cut) (left_of us)) ≡ length (filter (journal.is_included lanes cut) us)
counted lanes cut [] all = refl
counted lanes cut (u ∷ us) all =
    count_one lanes cut u (filter is_done us) (filter (journal.is_included lanes cut) us) (filter is_left us) u.standing all.0 (counted lanes cut us all.1)

-- the version that a render sees is that which the journal tells
pub seen_agrees : (lanes : Lanes) (cut : Cut) (j : Journal) (r : ℕ) (k : Kept) → IsKeptOf j r k → AreOpenOrDone cut j r → version_at lanes cut k ≡ version_of lanes cut j r
seen_agrees lanes cut j r k is all =
    ap (λ n. n + length (filter (is_included lanes cut) k.asked)) is.done
    ∙ ap (λ kept. done_version j r + length (filter (is_included lanes cut) kept)) is.asked
    ∙ counted lanes cut (updates_of (resource r) j) all

-- ---- the last version

halves : (us : List Posted) → length (filter is_done us) + length (left_of us) ≡ length (filter (λ u. true) us)
halves [] = refl
halves (u ∷ us) = go (stands_done u.standing) (halves us)
  where
    go : (b : Bool) → length (filter is_done us) + length (left_of us) ≡ length (filter (λ u. true) us)
        → length (cond b (u ∷ filter is_done us) (filter is_done us)) + length (map asked_by (cond (not b) (u ∷ filter is_left us) (filter is_left us))) ≡ suc (length (filter (λ u. true) us))
    go true e = omega (arith, e)
    go false e = omega (arith, e)

pub last_agrees : (j : Journal) (r : ℕ) (k : Kept) → IsKeptOf j r k → k.done + length k.asked ≡ journal.last_version j r
last_agrees j r k is =
    ap (λ n. n + length k.asked) is.done ∙ ap (λ kept. done_version j r + length kept) is.asked ∙ halves (updates_of (resource r) j)

-- ---- a commit

-- what a commit makes of a refresh: it is done if it was included, and else it stays
standing_is : (lanes : Lanes) (cut : Cut) (visible hidden : List ℕ) (r : ℕ) (u : Posted) → same_target (resource r) u.target ≡ true
    → standing_after lanes cut visible hidden u ≡ cond (journal.is_included lanes cut u) Done u.standing
standing_is lanes cut visible hidden r u same = by_target u.target same
  where
    by_tests : (inc before done lane : Bool) → cond (inc && (false || true)) Done (cond (before && (done && (lane && false))) Owed u.standing) ≡ cond inc Done u.standing
    by_tests true before done lane = refl
    by_tests false true true true = refl
    by_tests false true true false = refl
    by_tests false true false lane = refl
    by_tests false false done lane = refl

    by_target : (t : Target) → same_target (resource r) t ≡ true
        → cond (journal.is_included lanes cut u && (belongs_to visible t || is_resource t)) Done
        (cond (is_before cut u && (not (stands_done u.standing) && (has lanes u.update.lane && belongs_to hidden t))) Owed u.standing)
        ≡ cond (journal.is_included lanes cut u) Done u.standing
    by_target (hook i h) e = cc
    by_target (resource q) e = by_tests (journal.is_included lanes cut u) (is_before cut u) (not (stands_done u.standing)) (has lanes u.update.lane)

-- updates of this resource
abbrev AreOf : ℕ → List Posted → Type 0
AreOf r us = AllByRecursion (λ u. same_target (resource r) u.target ≡ true) us

of_this : (r : ℕ) (u : Posted) (us : List Posted) (b : Bool) → same_target (resource r) u.target ≡ b → AreOf r us → AreOf r (cond b (u ∷ us) us)
of_this r u us true e rest = (e, rest)
of_this r u us false e rest = rest

filtered : (r : ℕ) (us : List Posted) → AreOf r (filter (λ u. same_target (resource r) u.target) us)
filtered r [] = tt
filtered r (u ∷ us) = of_this r u (filter (λ v. same_target (resource r) v.target) us) (same_target (resource r) u.target) refl (filtered r us)

module _ (lanes : Lanes) (cut : Cut) (visible hidden : List ℕ) (r : ℕ) where
  abbrev marks : List Posted → List Posted
  marks us = map (marked_update lanes cut visible hidden) us

  done_if : (u v : Posted) (later seen : List Posted) (b : Bool) → length later ≡ length seen
      → length (cond (stands_done (cond b Done Open)) (v ∷ later) later) ≡ length (cond b (u ∷ seen) seen)
  done_if u v later seen true e = ap suc e
  done_if u v later seen false e = e

  done_one : (u v : Posted) (later seen : List Posted) (s : Standing) → IsFine cut u s → length later ≡ length seen
      → length (cond (stands_done (cond (includes lanes cut u.update s) Done s)) (v ∷ later) later) ≡ length (cond (includes lanes cut u.update s) (u ∷ seen) seen)
  done_one u v later seen Open is e = done_if u v later seen (is_included lanes cut (asked_by u)) e
  done_one u v later seen Done is e = rw (is.1 refl) (ap suc e)
  done_one u v later seen Owed is e = cc

  -- as many are done after the commit as it included
  done_after : (us : List Posted) → AreOf r us → AllByRecursion (IsOpenOrDone cut) us
      → length (filter is_done (marks us)) ≡ length (filter (journal.is_included lanes cut) us)
  done_after [] of all = refl
  done_after (u ∷ us) of all =
      ap (λ s. length (cond (stands_done s) (marked_update lanes cut visible hidden u ∷ filter is_done (marks us)) (filter is_done (marks us))))
      (standing_is lanes cut visible hidden r u of.0)
      ∙ done_one u (marked_update lanes cut visible hidden u) (filter is_done (marks us)) (filter (journal.is_included lanes cut) us) u.standing all.0 (done_after us of.1 all.1)

  left_if : (u v : Posted) (stays : List Asked) (rest : List Posted) (b : Bool) → stays ≡ map asked_by rest → asked_by v ≡ asked_by u
      → cond (not b) (asked_by u ∷ stays) stays ≡ map asked_by (cond (not (stands_done (cond b Done Open))) (v ∷ rest) rest)
  left_if u v stays rest true e same = e
  left_if u v stays rest false e same = ap (λ kept. asked_by u ∷ kept) e ∙ ap (λ a. a ∷ map asked_by rest) (sym same)

  left_one : (u v : Posted) (us rest : List Posted) (s : Standing) → asked_by v ≡ asked_by u → IsFine cut u s
      → filter (λ a. not (is_included lanes cut a)) (map asked_by us) ≡ map asked_by rest
      → filter (λ a. not (is_included lanes cut a)) (map asked_by (cond (not (stands_done s)) (u ∷ us) us))
      ≡ map asked_by (cond (not (stands_done (cond (includes lanes cut u.update s) Done s))) (v ∷ rest) rest)
  left_one u v us rest Open same is e =
      left_if u v (filter (λ a. not (is_included lanes cut a)) (map asked_by us)) rest (is_included lanes cut (asked_by u)) e same
  left_one u v us rest Done same is e = rw (is.1 refl) e
  left_one u v us rest Owed same is e = cc

  -- what is left after the commit is what was left and not included
  left_after : (us : List Posted) → AreOf r us → AllByRecursion (IsOpenOrDone cut) us
      → filter (λ a. not (is_included lanes cut a)) (left_of us) ≡ left_of (marks us)
  left_after [] of all = refl
  left_after (u ∷ us) of all =
      left_one u (marked_update lanes cut visible hidden u) (filter is_left us) (filter is_left (marks us)) u.standing refl all.0 (left_after us of.1 all.1)
      ∙ sym (ap (λ s. map asked_by (cond (not (stands_done s)) (marked_update lanes cut visible hidden u ∷ filter is_left (marks us)) (filter is_left (marks us))))
      (standing_is lanes cut visible hidden r u of.0))

  -- each refresh is still open, or done before the cut
  still_open_or_done : (us : List Posted) → AreOf r us → AllByRecursion (IsOpenOrDone cut) us → AllByRecursion (IsOpenOrDone cut) (marks us)
  still_open_or_done [] of all = tt
  still_open_or_done (u ∷ us) of all = (one, still_open_or_done us of.1 all.1)
    where
      by_inclusion : (b c : Bool) → journal.is_included lanes cut u ≡ (b && c) → b ≡ is_before cut u → IsOpenOrDone cut u
          → (stands_owed (cond (b && c) Done u.standing) ≡ false) × (stands_done (cond (b && c) Done u.standing) ≡ true → is_before cut u ≡ true)
      by_inclusion true true i e is = (refl, λ d. sym e)
      by_inclusion true false i e is = is
      by_inclusion false c i e is = is

      one : IsOpenOrDone cut (marked_update lanes cut visible hidden u)
      one =
          rw (standing_is lanes cut visible hidden r u of.0)
          (by_inclusion (lies_before cut u.update) (stands_done u.standing || stands_owed u.standing || has lanes u.update.lane) refl refl all.0)

  marked_updates : (j : Journal) → updates_of (resource r) (marked lanes cut visible hidden j) ≡ marks (updates_of (resource r) j)
  marked_updates j = updates_of-map (resource r) (marked_update lanes cut visible hidden) (λ u. refl) j.updates

  pub commit_kept : (j : Journal) (k : Kept) → IsKeptOf j r k → AreOpenOrDone cut j r → IsKeptOf (marked lanes cut visible hidden j) r (committed lanes cut k)
  commit_kept j k is all =
      let us = updates_of (resource r) j in
      let of : AreOf r us = filtered r j.updates in
      record {
        done =
            seen_agrees lanes cut j r k is all ∙ sym (done_after us of all) ∙ sym (ap (λ vs. length (filter is_done vs)) (marked_updates j));
        asked =
            ap (filter (λ a. not (is_included lanes cut a))) is.asked ∙ left_after us of all ∙ sym (ap left_of (marked_updates j));
        values = is.values;
      }

  pub commit_open_or_done : (j : Journal) → AreOpenOrDone cut j r → AreOpenOrDone cut (marked lanes cut visible hidden j) r
  commit_open_or_done j all =
      let us = updates_of (resource r) j in
      subst (AllByRecursion (IsOpenOrDone cut)) (sym (marked_updates j)) (still_open_or_done us (filtered r j.updates) all)

-- ---- what is accepted

filter-append : {A : Type 0} (p : A → Bool) (xs ys : List A) → filter p (xs ++ ys) ≡ filter p xs ++ filter p ys
filter-append p [] ys = refl
filter-append p (x ∷ xs) ys = go (p x) (filter-append p xs ys)
  where
    go : (b : Bool) → filter p (xs ++ ys) ≡ filter p xs ++ filter p ys → cond b (x ∷ filter p (xs ++ ys)) (filter p (xs ++ ys)) ≡ cond b (x ∷ filter p xs) (filter p xs) ++ filter p ys
    go true e = ap (λ zs. x ∷ zs) e
    go false e = e

map-append : {A B : Type 0} (f : A → B) (xs ys : List A) → map f (xs ++ ys) ≡ map f xs ++ map f ys
map-append f [] ys = refl
map-append f (x ∷ xs) ys = ap (λ zs. f x ∷ zs) (map-append f xs ys)

append-nil : {A : Type 0} (xs : List A) → xs ++ [] ≡ xs
append-nil [] = refl
append-nil (x ∷ xs) = ap (λ ys. x ∷ ys) (append-nil xs)

-- the updates of a resource with one more
more : (j : Journal) (r : ℕ) (u : Posted) (b : Bool) → same_target (resource r) u.target ≡ b
    → updates_of (resource r) (record j { updates = j.updates ++ u ∷ [] }) ≡ updates_of (resource r) j ++ cond b (u ∷ []) []
more j r u b same =
    filter-append (λ v. same_target (resource r) v.target) j.updates (u ∷ []) ∙ ap (λ c. updates_of (resource r) j ++ cond c (u ∷ []) []) same

pub refresh_kept : (j : Journal) (r : ℕ) (k : Kept) (u : Posted) → u.standing ≡ Open → same_target (resource r) u.target ≡ true → IsKeptOf j r k
    → IsKeptOf (record j { updates = j.updates ++ u ∷ [] }) r (refreshed (asked_by u) k)
refresh_kept j r k u fresh same is =
    let us = updates_of (resource r) j in
    let later = more j r u true same in
    let none : filter is_done (u ∷ []) ≡ [] = ap (λ s. cond (stands_done s) (u ∷ []) []) fresh in
    let one : filter is_left (u ∷ []) ≡ u ∷ [] = ap (λ s. cond (not (stands_done s)) (u ∷ []) []) fresh in
    record {
      done =
          is.done
          ∙ sym (ap (λ vs. length (filter is_done vs)) later ∙ ap length (filter-append is_done us (u ∷ [])) ∙ ap (λ vs. length (filter is_done us ++ vs)) none ∙ ap length (append-nil (filter is_done us)));
      asked =
          ap (λ kept. kept ++ asked_by u ∷ []) is.asked
          ∙ sym (ap left_of later ∙ ap (map asked_by) (filter-append is_left us (u ∷ [])) ∙ ap (λ vs. map asked_by (filter is_left us ++ vs)) one ∙ map-append asked_by (filter is_left us) (u ∷ []));
      values = is.values;
    }

pub others_kept : (j : Journal) (r : ℕ) (k : Kept) (u : Posted) → same_target (resource r) u.target ≡ false → IsKeptOf j r k
    → IsKeptOf (record j { updates = j.updates ++ u ∷ [] }) r k
others_kept j r k u other is =
    let same = more j r u false other ∙ append-nil (updates_of (resource r) j) in
    record {
      done = is.done ∙ sym (ap (λ vs. length (filter is_done vs)) same);
      asked = is.asked ∙ sym (ap left_of same);
      values = is.values;
    }

pub resolution_kept : (j : Journal) (r q : ℕ) (k : Kept) (x : ℤ) (b : Bool) → nat_eq q r ≡ b → IsKeptOf j r k
    → values_in (j.resolutions ++ (record { resource = q; value = x }) ∷ []) r ≡ k.values ++ cond b (x ∷ []) []
resolution_kept j r q k x b same is =
    ap (map (λ (y : Resolution). y.value)) (filter-append (λ (y : Resolution). nat_eq y.resource r) j.resolutions ((record { resource = q; value = x }) ∷ []))
    ∙ map-append (λ (y : Resolution). y.value) (filter (λ (y : Resolution). nat_eq y.resource r) j.resolutions) (cond (nat_eq q r) ((record { resource = q; value = x }) ∷ []) [])
    ∙ ap (λ ys. ys ++ map (λ (y : Resolution). y.value) (cond (nat_eq q r) ((record { resource = q; value = x }) ∷ []) [])) (sym is.values)
    ∙ ap (λ c. k.values ++ map (λ (y : Resolution). y.value) (cond c ((record { resource = q; value = x }) ∷ []) [])) same
    ∙ by_test b
  where
    by_test : (c : Bool) → k.values ++ map (λ (y : Resolution). y.value) (cond c ((record { resource = q; value = x }) ∷ []) []) ≡ k.values ++ cond c (x ∷ []) []
    by_test true = refl
    by_test false = refl

same : (n : ℕ) → nat_eq n n ≡ true
same n = grind (arith, nat_tests)

pub resolved_kept : (j : Journal) (r : ℕ) (k : Kept) (x : ℤ) → IsKeptOf j r k
    → IsKeptOf (record j { resolutions = j.resolutions ++ (record { resource = r; value = x }) ∷ [] }) r (resolved x k)
resolved_kept j r k x is =
    record { done = is.done; asked = is.asked; values = sym (resolution_kept j r r k x true (same r) is) }

pub unresolved_kept : (j : Journal) (r q : ℕ) (k : Kept) (x : ℤ) → nat_eq q r ≡ false → IsKeptOf j r k
    → IsKeptOf (record j { resolutions = j.resolutions ++ (record { resource = q; value = x }) ∷ [] }) r k
unresolved_kept j r q k x other is =
    record { done = is.done; asked = is.asked; values = sym (resolution_kept j r q k x false other is ∙ append-nil k.values) }

-- ---- values

take-all : {A : Type 0} (xs : List A) → take (length xs) xs ≡ xs
take-all [] = refl
take-all (x ∷ xs) = ap (λ ys. x ∷ ys) (take-all xs)

pub next_agrees : (j : Journal) (r : ℕ) (k : Kept) → IsKeptOf j r k → length k.values ≡ next_version j r
next_agrees j r k is = ap length is.values ∙ sym (ap (λ rs. length (values_in rs r)) (take-all j.resolutions))

pub value_agrees : (j : Journal) (r v : ℕ) (k : Kept) → IsKeptOf j r k → slice_get k.values v ≡ resolved_now j r v
value_agrees j r v k is = ap (λ xs. slice_get xs v) is.values ∙ sym (ap (λ rs. slice_get (values_in rs r) v) (take-all j.resolutions))

-- ---- lists

few : {A : Type 0} (p : A → Bool) (xs : List A) → length (filter p xs) ≤ length xs
few p [] = omega arith
few p (x ∷ xs) = go (p x) (few p xs)
  where
    go : (b : Bool) → length (filter p xs) ≤ length xs → length (cond b (x ∷ filter p xs) (filter p xs)) ≤ suc (length xs)
    go true e = omega (arith, e)
    go false e = omega (arith, e)

taken : {A : Type 0} (n : ℕ) (xs : List A) → length (take n xs) ≤ n
taken zero xs = omega arith
taken (suc n) [] = omega arith
taken (suc n) (x ∷ xs) = let e = taken n xs in omega (arith, e)

-- no more than all that are taken pass a test
pub few_taken : {A : Type 0} (p : A → Bool) (n : ℕ) (xs : List A) → length (filter p (take n xs)) ≤ n
few_taken p n xs = let a = few p (take n xs) in let b = taken n xs in omega (arith, a, b)

-- those that pass a test and those that do not are all
pub both_parts : {A : Type 0} (p : A → Bool) (xs : List A) → length (filter p xs) + length (filter (λ x. not (p x)) xs) ≡ length xs
both_parts p [] = refl
both_parts p (x ∷ xs) = go (p x) (both_parts p xs)
  where
    go : (b : Bool) → length (filter p xs) + length (filter (λ x. not (p x)) xs) ≡ length xs
        → length (cond b (x ∷ filter p xs) (filter p xs)) + length (cond (not b) (x ∷ filter (λ x. not (p x)) xs) (filter (λ x. not (p x)) xs)) ≡ suc (length xs)
    go true e = omega (arith, e)
    go false e = omega (arith, e)

-- what is kept after a commit, part by part
pub committed_is : (lanes : Lanes) (cut : Cut) (k : Kept) (n : ℕ) (left : List Asked) → n ≡ version_at lanes cut k
    → left ≡ filter (λ a. not (is_included lanes cut a)) k.asked → (record k { done = n; asked = left }) ≡ committed lanes cut k
committed_is lanes cut k n left e f =
    ap (λ (m : ℕ). record k { done = m; asked = left }) e ∙ ap (λ (l : List Asked). record k { done = version_at lanes cut k; asked = l }) f

-- ---- versions that were asked for

all_pass : {A : Type 0} (xs : List A) → length (filter (λ x. true) xs) ≡ length xs
all_pass [] = refl
all_pass (x ∷ xs) = ap suc (all_pass xs)

-- no render sees a later version than was asked for
pub seen_asked : (lanes : Lanes) (cut : Cut) (j : Journal) (r : ℕ) → version_of lanes cut j r ≤ journal.last_version j r
seen_asked lanes cut j r =
    let us = updates_of (resource r) j in
    let a = few (journal.is_included lanes cut) us in
    let b = all_pass us in
    omega (arith, a, b)

-- there are no more versions than updates
pub asked_few : (j : Journal) (r : ℕ) → journal.last_version j r ≤ length j.updates
asked_few j r =
    let a = few (λ u. same_target (resource r) u.target) j.updates in
    let b = all_pass (updates_of (resource r) j) in
    omega (arith, a, b)

-- an update of another target asks for none
pub others_asked : (j : Journal) (r : ℕ) (u : Posted) → same_target (resource r) u.target ≡ false → journal.last_version (record j { updates = j.updates ++ u ∷ [] }) r ≡ journal.last_version j r
others_asked j r u other =
    let same = more j r u false other ∙ append-nil (updates_of (resource r) j) in
    ap (λ vs. length (filter (λ v. true) vs)) same

-- neither does a commit
pub commit_asked : (lanes : Lanes) (cut : Cut) (visible hidden : List ℕ) (j : Journal) (r : ℕ) → journal.last_version (marked lanes cut visible hidden j) r ≡ journal.last_version j r
commit_asked lanes cut visible hidden j r =
    let us = updates_of (resource r) j in
    ap (λ vs. length (filter (λ v. true) vs)) (marked_updates lanes cut visible hidden r j)
    ∙ (all_pass (marks lanes cut visible hidden r us) ∙ length-map us (marked_update lanes cut visible hidden) ∙ sym (all_pass us))

-- ---- none is owed

append_all : {A : Type 0} (P : A → Type 0) (xs : List A) (x : A) → AllByRecursion P xs → P x → AllByRecursion P (xs ++ x ∷ [])
append_all P [] x all one = (one, tt)
append_all P (y ∷ ys) x all one = (all.0, append_all P ys x all.1 one)

-- an update that is open is not
pub open_owed : (j : Journal) (r : ℕ) (u : Posted) → u.standing ≡ Open → NoneOwed j r → NoneOwed (record j { updates = j.updates ++ u ∷ [] }) r
open_owed j r u fresh none = go (same_target (resource r) u.target) refl
  where
    not_owed : stands_owed u.standing ≡ false
    not_owed = ap stands_owed fresh

    go : (b : Bool) → same_target (resource r) u.target ≡ b → NoneOwed (record j { updates = j.updates ++ u ∷ [] }) r
    go true e = subst (AllByRecursion (λ v. stands_owed v.standing ≡ false)) (sym (more j r u true e)) (append_all (λ v. stands_owed v.standing ≡ false) (updates_of (resource r) j) u none not_owed)
    go false e =
        subst (AllByRecursion (λ v. stands_owed v.standing ≡ false)) (sym (more j r u false e ∙ append-nil (updates_of (resource r) j))) none

-- so none is owed after a commit
pub commit_owed : (lanes : Lanes) (cut : Cut) (visible hidden : List ℕ) (j : Journal) (r : ℕ) → AreOpenOrDone cut j r → NoneOwed (marked lanes cut visible hidden j) r
commit_owed lanes cut visible hidden j r all = go (updates_of (resource r) (marked lanes cut visible hidden j)) (commit_open_or_done lanes cut visible hidden r j all)
  where
    go : (us : List Posted) → AllByRecursion (IsOpenOrDone cut) us → AllByRecursion (λ u. stands_owed u.standing ≡ false) us
    go [] h = tt
    go (u ∷ us) h = (h.0.0, go us h.1)
