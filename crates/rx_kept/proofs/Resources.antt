-- What is kept of the resources stands for the machine's state, step by step, and tells what a render sees.
use Rattle.std.proofs.Common.{◌≡◌, ◌∙◌, sym, ap, refl, ℕ, ℤ, zero, suc, ◌+◌, ◌<◌, ◌≤◌, Bool, true, false, cond, not, Some, None, List, [], ◌∷◌, ◌++◌, map, filter, length, nat_eq, nat_lt, subst, arith}
use Rattle.std.specs.Prelude.{replicate, slice_get, slice_index_or, slice_set}
use Rattle.std.specs.List.{AllByRecursion, enumerate_from, list_any, range_with_len}
use Rattle.std.proofs.lemmas.Bool.Decides.{nat_tests}
use Rattle.std.proofs.lemmas.List.FromFn.{length-range_with_len}
use Rattle.std.proofs.lemmas.List.{get_or-replicate, get_or-set_other, get_or-set_same, length-map, length-replicate, length-set}
use Rattle.rx_base.specs.declared.cut.Cut.{Cut}
use Rattle.rx_lane.specs.declared.lane.Lane.{Lane}
use Rattle.rx_lane.specs.Lanes.{Lanes}
use Rattle.rx_ast.specs.Syntax.{Program}
use Rattle.rx_rules.specs.Names.{resources}
use Rattle.rx_elem.specs.Trees.{Node}
use Rattle.rx_elem.specs.Spots.{kept_instances, visible_instances}
use Rattle.rx_hooks.specs.Hooks.{links_with}
use Rattle.rx_queue.specs.declared.entry.Standing.TheVariants.{Open}
use Rattle.rx_queue.specs.declared.update.Op.{Op}
use Rattle.rx_queue.specs.History.{stands_owed}
use Rattle.rx_queue.specs.Journal.{Journal, Posted, Resolution, hook, resource, cut_now, done_version, last_version, resolved_now, same_target, value_in, version_of, resolutions_by}
use Rattle.rx_step.specs.declared.step.LaneWord.{LaneWord}
use Rattle.rx_step.specs.declared.step.LaneWord.TheVariants as word
use Rattle.rx_meaning.specs.Fresh.{Sight, resources_seen, version_seen, versions_seen}
use Rattle.rx_meaning.specs.Outcome.{journal_after}
use Rattle.rx_meaning.specs.Settled.{DoneBefore}
use Rattle.rx_model.specs.State.{Linked, State, linked_lanes, opening}
use Rattle.rx_model.specs.Accepting.{dispatched_for, lane_of, next_update, with_linked, with_value}
use Rattle.commit_laws.proofs.Versions.{version_at}
use Rattle.rx_hook_store.proofs.Dispatching.{linked-other, linked-own}
use Rattle.rx_resources.specs.Kept.{Kept, committed, refreshed, relinked, value_of}
use Rattle.rx_resources.specs.Kept as kept_of
use Rattle.rx_resources.specs.Seen.{seen_of, sees_another}
use Rattle.rx_resources.specs.Store.{asked_at, kept_at, linked_at, resolved_at}
use Rattle.rx_resources.specs.Stands.{AreOpenOrDone, IsKeptOf, IsOpenOrDone, NoneOwed}
use Rattle.rx_resources.proofs.Counting.{asked_few, commit_asked, commit_kept, commit_owed, last_agrees, open_owed, others_asked, others_kept, refresh_kept, resolved_kept, seen_agrees, seen_asked, unresolved_kept, value_agrees}
use Rattle.run_laws.proofs.Keeping.{now_stays}
use Rattle.rx_kept.specs.Keeping.{AreDeclared, KeepsResources}
use Rattle.rx_kept.specs.Seeing.{AsksForDeclared, resources_by}
use Rattle.rx_kept.specs.Taking.{asked_for}

-- ---- places of a list

same_number : (m n : ℕ) → nat_eq m n ≡ true → m ≡ n
same_number m n e = grind (arith, nat_tests)

at_set : (kept : List Kept) (r : ℕ) (k : Kept) → r < length kept → kept_at (slice_set kept r k) r ≡ k
at_set kept r k h = get_or-set_same kept r k kept_of.opening h

beside_set : (kept : List Kept) (r q : ℕ) (k : Kept) → nat_eq r q ≡ false → kept_at (slice_set kept r k) q ≡ kept_at kept q
beside_set kept r q k other = get_or-set_other kept r q k kept_of.opening (λ e. let same : nat_eq r q ≡ true = grind (arith, nat_tests) in let f : true ≡ false = sym same ∙ other in cc)

asked_long : (n : ℕ) (l : Lane) (r : ℕ) (kept : List Kept) → length (asked_at n l r kept) ≡ length kept
asked_long n l r kept = length-set kept r (refreshed (record { number = n; lane = l }) (kept_at kept r))

linked_long : (l : Lane) (pending : Lanes) (r : ℕ) (kept : List Kept) → length (linked_at l pending r kept) ≡ length kept
linked_long l pending r kept = length-set kept r (relinked l pending (kept_at kept r))

resolved_long : (x : ℤ) (r : ℕ) (kept : List Kept) → length (resolved_at x r kept) ≡ length kept
resolved_long x r kept = length-set kept r (kept_of.resolved x (kept_at kept r))

at_map : (f : Kept → Kept) (kept : List Kept) (r : ℕ) → r < length kept → kept_at (map f kept) r ≡ f (kept_at kept r)
at_map f [] r h = absurd (omega arith)
at_map f (k ∷ kept) zero h = refl
at_map f (k ∷ kept) (suc r) h = at_map f kept r (omega arith)

-- ---- the start

pub opening_kept : (p : Program) → KeepsResources p opening.journal opening.linked (replicate (length (resources p)) kept_of.opening)
opening_kept p =
    record {
      all = length-replicate (length (resources p)) kept_of.opening;
      each = λ r h. subst (IsKeptOf opening.journal r) (sym (at r h)) (record { done = refl; asked = refl; values = refl });
      linked = λ r h. ap (λ (k : Kept). k.linked) (at r h);
      none_owed = λ r. tt;
    }
  where
    at : (r : ℕ) → r < length (replicate (length (resources p)) kept_of.opening) → kept_at (replicate (length (resources p)) kept_of.opening) r ≡ kept_of.opening
    at r h = get_or-replicate (length (resources p)) r kept_of.opening kept_of.opening (let n = length-replicate (length (resources p)) kept_of.opening in omega (arith, h, n))

pub opening_declared : (p : Program) → AreDeclared p opening.journal
opening_declared p = record { values = λ r v late. refl; asked = λ r late. refl }

-- ---- updates

-- the journal with one update more
abbrev longer : Journal → Posted → Journal
longer j u = record j { updates = j.updates ++ u ∷ [] }

-- an update of a hook
hook_kept : (p : Program) (j : Journal) (linked : List Linked) (kept : List Kept) (u : Posted) → u.standing ≡ Open → ((r : ℕ) → same_target (resource r) u.target ≡ false) → KeepsResources p j linked kept
    → KeepsResources p (longer j u) linked kept
hook_kept p j linked kept u fresh other h =
    record {
      all = h.all;
      each = λ r lt. others_kept j r (kept_at kept r) u (other r) (h.each r lt);
      linked = h.linked;
      none_owed = λ r. open_owed j r u fresh (h.none_owed r);
    }

-- links of a hook
hook_links_kept : (p : Program) (j : Journal) (linked : List Linked) (kept : List Kept) (i k : ℕ) (lanes : Lanes) → KeepsResources p j linked kept
    → KeepsResources p j (with_linked linked (hook i k) lanes) kept
hook_links_kept p j linked kept i k lanes h =
    record {
      all = h.all;
      each = h.each;
      linked = λ r lt. h.linked r lt ∙ sym (linked-other linked (resource r) (hook i k) lanes refl);
      none_owed = h.none_owed;
    }

-- a dispatch to a hook changes nothing of resources
pub sent_kept : (p : Program) (s : State) (w : LaneWord) (i k : ℕ) (o : Op) (kept : List Kept) → KeepsResources p s.journal s.linked kept
    → KeepsResources p (dispatched_for s w (hook i k) o).journal (dispatched_for s w (hook i k) o).linked kept
sent_kept p s word.Sync i k o kept h = hook_kept p s.journal s.linked kept (next_update s.journal (hook i k) o (lane_of s word.Sync)) refl (λ r. refl) h
sent_kept p s word.Input i k o kept h = hook_kept p s.journal s.linked kept (next_update s.journal (hook i k) o (lane_of s word.Input)) refl (λ r. refl) h
sent_kept p s word.Default i k o kept h = hook_kept p s.journal s.linked kept (next_update s.journal (hook i k) o (lane_of s word.Default)) refl (λ r. refl) h
sent_kept p s word.Transition i k o kept h =
    let lanes = links_with (lane_of s word.Transition) s.schedule.pending (linked_lanes s.linked (hook i k)) in
    hook_links_kept p (longer s.journal (next_update s.journal (hook i k) o (lane_of s word.Transition))) s.linked kept i k lanes
    (hook_kept p s.journal s.linked kept (next_update s.journal (hook i k) o (lane_of s word.Transition)) refl (λ r. refl) h)

-- a journal with one update more of a hook, or of a resource of the program, asks for no other resource
longer_declared : (p : Program) (j : Journal) (u : Posted) → ((r : ℕ) → length (resources p) ≤ r → same_target (resource r) u.target ≡ false) → AreDeclared p j → AreDeclared p (longer j u)
longer_declared p j u other h =
    record { values = h.values; asked = λ r late. others_asked j r u (other r late) ∙ h.asked r late }

pub sent_declared : (p : Program) (s : State) (w : LaneWord) (i k : ℕ) (o : Op) → AreDeclared p s.journal → AreDeclared p (dispatched_for s w (hook i k) o).journal
sent_declared p s word.Sync i k o h = longer_declared p s.journal (next_update s.journal (hook i k) o (lane_of s word.Sync)) (λ r late. refl) h
sent_declared p s word.Input i k o h = longer_declared p s.journal (next_update s.journal (hook i k) o (lane_of s word.Input)) (λ r late. refl) h
sent_declared p s word.Default i k o h = longer_declared p s.journal (next_update s.journal (hook i k) o (lane_of s word.Default)) (λ r late. refl) h
sent_declared p s word.Transition i k o h = longer_declared p s.journal (next_update s.journal (hook i k) o (lane_of s word.Transition)) (λ r late. refl) h

-- ---- refreshes

asked_kept : (p : Program) (j : Journal) (linked : List Linked) (kept : List Kept) (r : ℕ) (o : Op) (l : Lane) → r < length kept → KeepsResources p j linked kept
    → KeepsResources p (longer j (next_update j (resource r) o l)) linked (asked_at (length j.updates) l r kept)
asked_kept p j linked kept r o l within h =
    record {
      all = asked_long (length j.updates) l r kept ∙ h.all;
      each = λ q lt. each q (nat_eq r q) refl (let n = asked_long (length j.updates) l r kept in omega (arith, lt, n));
      linked = λ q lt. links q (nat_eq r q) refl (let n = asked_long (length j.updates) l r kept in omega (arith, lt, n));
      none_owed = λ q. open_owed j q (next_update j (resource r) o l) refl (h.none_owed q);
    }
  where
    each : (q : ℕ) (b : Bool) → nat_eq r q ≡ b → q < length kept → IsKeptOf (longer j (next_update j (resource r) o l)) q (kept_at (asked_at (length j.updates) l r kept) q)
    each q true e lt =
        subst (λ n. IsKeptOf (longer j (next_update j (resource r) o l)) n (kept_at (asked_at (length j.updates) l r kept) n)) (same_number r q e)
        (subst (IsKeptOf (longer j (next_update j (resource r) o l)) r) (sym (at_set kept r (refreshed (record { number = length j.updates; lane = l }) (kept_at kept r)) within))
        (refresh_kept j r (kept_at kept r) (next_update j (resource r) o l) refl (grind (arith, nat_tests)) (h.each r within)))
    each q false e lt =
        subst (IsKeptOf (longer j (next_update j (resource r) o l)) q) (sym (beside_set kept r q (refreshed (record { number = length j.updates; lane = l }) (kept_at kept r)) e))
        (others_kept j q (kept_at kept q) (next_update j (resource r) o l) (grind (arith, nat_tests)) (h.each q lt))

    links : (q : ℕ) (b : Bool) → nat_eq r q ≡ b → q < length kept → (kept_at (asked_at (length j.updates) l r kept) q).linked ≡ linked_lanes linked (resource q)
    links q true e lt =
        subst (λ n. (kept_at (asked_at (length j.updates) l r kept) n).linked ≡ linked_lanes linked (resource n)) (same_number r q e)
        (ap (λ (k : Kept). k.linked) (at_set kept r (refreshed (record { number = length j.updates; lane = l }) (kept_at kept r)) within) ∙ h.linked r within)
    links q false e lt = ap (λ (k : Kept). k.linked) (beside_set kept r q (refreshed (record { number = length j.updates; lane = l }) (kept_at kept r)) e) ∙ h.linked q lt

relinked_kept : (p : Program) (j : Journal) (linked : List Linked) (kept : List Kept) (r : ℕ) (l : Lane) (pending : Lanes) → r < length kept → KeepsResources p j linked kept
    → KeepsResources p j (with_linked linked (resource r) (links_with l pending (linked_lanes linked (resource r)))) (linked_at l pending r kept)
relinked_kept p j linked kept r l pending within h =
    record {
      all = linked_long l pending r kept ∙ h.all;
      each = λ q lt. each q (nat_eq r q) refl (let n = linked_long l pending r kept in omega (arith, lt, n));
      linked = λ q lt. links q (nat_eq r q) refl (let n = linked_long l pending r kept in omega (arith, lt, n));
      none_owed = h.none_owed;
    }
  where
    each : (q : ℕ) (b : Bool) → nat_eq r q ≡ b → q < length kept → IsKeptOf j q (kept_at (linked_at l pending r kept) q)
    each q true e lt =
        let here = h.each r within in
        subst (λ n. IsKeptOf j n (kept_at (linked_at l pending r kept) n)) (same_number r q e)
        (subst (IsKeptOf j r) (sym (at_set kept r (relinked l pending (kept_at kept r)) within)) (record { done = here.done; asked = here.asked; values = here.values }))
    each q false e lt = subst (IsKeptOf j q) (sym (beside_set kept r q (relinked l pending (kept_at kept r)) e)) (h.each q lt)

    links : (q : ℕ) (b : Bool) → nat_eq r q ≡ b → q < length kept
        → (kept_at (linked_at l pending r kept) q).linked ≡ linked_lanes (with_linked linked (resource r) (links_with l pending (linked_lanes linked (resource r)))) (resource q)
    links q true e lt =
        subst (λ n. (kept_at (linked_at l pending r kept) n).linked ≡ linked_lanes (with_linked linked (resource r) (links_with l pending (linked_lanes linked (resource r)))) (resource n)) (same_number r q e)
        (ap (λ (k : Kept). k.linked) (at_set kept r (relinked l pending (kept_at kept r)) within)
        ∙ (ap (λ (ls : Lanes). links_with l pending ls) (h.linked r within) ∙ sym (linked-own linked (resource r) (links_with l pending (linked_lanes linked (resource r))))))
    links q false e lt =
        ap (λ (k : Kept). k.linked) (beside_set kept r q (relinked l pending (kept_at kept r)) e)
        ∙ (h.linked q lt ∙ sym (linked-other linked (resource q) (resource r) (links_with l pending (linked_lanes linked (resource r))) (grind (arith, nat_tests))))

pub refresh_stays : (p : Program) (s : State) (w : LaneWord) (r : ℕ) (o : Op) (kept : List Kept) → r < length kept → KeepsResources p s.journal s.linked kept
    → KeepsResources p (dispatched_for s w (resource r) o).journal (dispatched_for s w (resource r) o).linked (asked_for w (length s.journal.updates) (lane_of s w) s.schedule.pending r kept)
refresh_stays p s word.Sync r o kept within h = asked_kept p s.journal s.linked kept r o (lane_of s word.Sync) within h
refresh_stays p s word.Input r o kept within h = asked_kept p s.journal s.linked kept r o (lane_of s word.Input) within h
refresh_stays p s word.Default r o kept within h = asked_kept p s.journal s.linked kept r o (lane_of s word.Default) within h
refresh_stays p s word.Transition r o kept within h =
    let l = lane_of s word.Transition in
    relinked_kept p (longer s.journal (next_update s.journal (resource r) o l)) s.linked (asked_at (length s.journal.updates) l r kept) r l s.schedule.pending (let n = asked_long (length s.journal.updates) l r kept in omega (arith, within, n))
    (asked_kept p s.journal s.linked kept r o l within h)

pub refresh_declared : (p : Program) (s : State) (w : LaneWord) (r : ℕ) (o : Op) → r < length (resources p) → AreDeclared p s.journal → AreDeclared p (dispatched_for s w (resource r) o).journal
refresh_declared p s word.Sync r o within h = longer_declared p s.journal (next_update s.journal (resource r) o (lane_of s word.Sync)) (λ q late. grind (arith, nat_tests)) h
refresh_declared p s word.Input r o within h = longer_declared p s.journal (next_update s.journal (resource r) o (lane_of s word.Input)) (λ q late. grind (arith, nat_tests)) h
refresh_declared p s word.Default r o within h = longer_declared p s.journal (next_update s.journal (resource r) o (lane_of s word.Default)) (λ q late. grind (arith, nat_tests)) h
refresh_declared p s word.Transition r o within h = longer_declared p s.journal (next_update s.journal (resource r) o (lane_of s word.Transition)) (λ q late. grind (arith, nat_tests)) h

-- there is a number for another version
pub asked_below : (p : Program) (j : Journal) (linked : List Linked) (kept : List Kept) (r n : ℕ) → r < length kept → KeepsResources p j linked kept → length j.updates < n → kept_of.last_version (kept_at kept r) < n
asked_below p j linked kept r n within h lt =
    let a = last_agrees j r (kept_at kept r) (h.each r within) in
    let b = asked_few j r in
    omega (arith, a, b, lt)

-- ---- resolutions

-- a resource has the value of its last version
pub last_is : (p : Program) (j : Journal) (linked : List Linked) (kept : List Kept) (r : ℕ) → r < length kept → KeepsResources p j linked kept
    → value_of (kept_at kept r) (kept_of.last_version (kept_at kept r)) ≡ resolved_now j r (last_version j r)
last_is p j linked kept r within h =
    value_agrees j r (kept_of.last_version (kept_at kept r)) (kept_at kept r) (h.each r within) ∙ ap (resolved_now j r) (last_agrees j r (kept_at kept r) (h.each r within))

none_past : (ys : List ℤ) (v : ℕ) → slice_get ys v ≡ None → length ys ≤ v
none_past [] v h = omega arith
none_past (y ∷ ys) zero h = absurd (cc h)
none_past (y ∷ ys) (suc v) h = let l = none_past ys v h in omega (arith, l)

-- if the last version has no value, one that was asked for is next
pub next_asked : (k : Kept) → value_of k (kept_of.last_version k) ≡ None → length k.values ≤ kept_of.last_version k
next_asked k h = none_past k.values (kept_of.last_version k) h

pub resolution_stays : (p : Program) (s : State) (r : ℕ) (x : ℤ) (kept : List Kept) → r < length kept → KeepsResources p s.journal s.linked kept
    → KeepsResources p (with_value s r x).journal s.linked (resolved_at x r kept)
resolution_stays p s r x kept within h =
    record {
      all = resolved_long x r kept ∙ h.all;
      each = λ q lt. each q (nat_eq r q) refl (let n = resolved_long x r kept in omega (arith, lt, n));
      linked = λ q lt. links q (nat_eq r q) refl (let n = resolved_long x r kept in omega (arith, lt, n));
      none_owed = h.none_owed;
    }
  where
    each : (q : ℕ) (b : Bool) → nat_eq r q ≡ b → q < length kept → IsKeptOf (with_value s r x).journal q (kept_at (resolved_at x r kept) q)
    each q true e lt =
        subst (λ n. IsKeptOf (with_value s r x).journal n (kept_at (resolved_at x r kept) n)) (same_number r q e)
        (subst (IsKeptOf (with_value s r x).journal r) (sym (at_set kept r (kept_of.resolved x (kept_at kept r)) within)) (resolved_kept s.journal r (kept_at kept r) x (h.each r within)))
    each q false e lt =
        subst (IsKeptOf (with_value s r x).journal q) (sym (beside_set kept r q (kept_of.resolved x (kept_at kept r)) e)) (unresolved_kept s.journal q r (kept_at kept q) x e (h.each q lt))

    links : (q : ℕ) (b : Bool) → nat_eq r q ≡ b → q < length kept → (kept_at (resolved_at x r kept) q).linked ≡ linked_lanes s.linked (resource q)
    links q true e lt =
        subst (λ n. (kept_at (resolved_at x r kept) n).linked ≡ linked_lanes s.linked (resource n)) (same_number r q e)
        (ap (λ (k : Kept). k.linked) (at_set kept r (kept_of.resolved x (kept_at kept r)) within) ∙ h.linked r within)
    links q false e lt = ap (λ (k : Kept). k.linked) (beside_set kept r q (kept_of.resolved x (kept_at kept r)) e) ∙ h.linked q lt

pub resolution_declared : (p : Program) (s : State) (r : ℕ) (x : ℤ) → r < length (resources p) → AreDeclared p s.journal → AreDeclared p (with_value s r x).journal
resolution_declared p s r x within h =
    let last : Resolution = record { resource = r; value = x } in
    record {
      values = λ q v late. now_stays s.journal.updates s.journal.resolutions last q v (λ same is. let e : r ≡ q = same in omega (arith, e, late, within)) ∙ h.values q v late;
      asked = h.asked;
    }

-- ---- commits

-- each is open, or done before the cut, if what is done lies before it
pub open_or_done : (cut : Cut) (j : Journal) (r : ℕ) → DoneBefore cut j.updates → NoneOwed j r → AreOpenOrDone cut j r
open_or_done cut j r before none = go j.updates before none
  where
    go : (us : List Posted) → DoneBefore cut us → AllByRecursion (λ u. stands_owed u.standing ≡ false) (filter (λ u. same_target (resource r) u.target) us)
        → AllByRecursion (IsOpenOrDone cut) (filter (λ u. same_target (resource r) u.target) us)
    go [] h n = tt
    go (u ∷ us) h n = one (same_target (resource r) u.target) n (go us h.1)
      where
        rest : List Posted
        rest = filter (λ v. same_target (resource r) v.target) us

        one : (b : Bool) → AllByRecursion (λ v. stands_owed v.standing ≡ false) (cond b (u ∷ rest) rest)
            → (AllByRecursion (λ v. stands_owed v.standing ≡ false) rest → AllByRecursion (IsOpenOrDone cut) rest) → AllByRecursion (IsOpenOrDone cut) (cond b (u ∷ rest) rest)
        one true m later = ((m.0, h.0), later m.1)
        one false m later = later m

pub commit_stays : (p : Program) (j : Journal) (linked : List Linked) (kept : List Kept) (lanes : Lanes) (cut : Cut) (new : Node) → DoneBefore cut j.updates → KeepsResources p j linked kept
    → KeepsResources p (journal_after lanes cut new j) linked (map (committed lanes cut) kept)
commit_stays p j linked kept lanes cut new before h =
    record {
      all = length-map kept (committed lanes cut) ∙ h.all;
      each = λ r lt.
          let within : r < length kept = (let n = length-map kept (committed lanes cut) in omega (arith, lt, n)) in
          subst (IsKeptOf (journal_after lanes cut new j) r) (sym (at_map (committed lanes cut) kept r within))
          (commit_kept lanes cut (visible_instances (Some new)) (kept_instances (Some new)) r j (kept_at kept r) (h.each r within) (open_or_done cut j r before (h.none_owed r)));
      linked = λ r lt.
          let within : r < length kept = (let n = length-map kept (committed lanes cut) in omega (arith, lt, n)) in
          ap (λ (k : Kept). k.linked) (at_map (committed lanes cut) kept r within) ∙ h.linked r within;
      none_owed = λ r. commit_owed lanes cut (visible_instances (Some new)) (kept_instances (Some new)) j r (open_or_done cut j r before (h.none_owed r));
    }

pub commit_declared : (p : Program) (j : Journal) (lanes : Lanes) (cut : Cut) (new : Node) → AreDeclared p j → AreDeclared p (journal_after lanes cut new j)
commit_declared p j lanes cut new h =
    record {
      values = h.values;
      asked = λ r late. commit_asked lanes cut (visible_instances (Some new)) (kept_instances (Some new)) j r ∙ h.asked r late;
    }

-- ---- what a render sees

-- no other resource is asked for
pub asks_for_declared : (p : Program) (j : Journal) (lanes : Lanes) (cut : Cut) (seen : ℕ) → AreDeclared p j → AsksForDeclared (record { program = p; journal = j; lanes = lanes; cut = cut; seen = seen })
asks_for_declared p j lanes cut seen h r late =
    let a = seen_asked lanes cut j r in
    let b = h.asked r late in
    omega (arith, a, b)

map_agrees : {B : Type 0} (f : Kept → B) (g : ℕ → B) (kept : List Kept) (a n : ℕ) → length kept ≡ n → ((i : ℕ) → i < length kept → f (kept_at kept i) ≡ g (a + i)) → map f kept ≡ map g (range_with_len a n)
map_agrees f g [] a zero e h = refl
map_agrees f g [] a (suc n) e h = absurd (omega (arith, e))
map_agrees f g (k ∷ kept) a zero e h = absurd (omega (arith, e))
map_agrees f g (k ∷ kept) a (suc n) e h =
    let first : a + 0 ≡ a = omega arith in
    let one : f k ≡ g a = h 0 (omega arith) ∙ ap g first in
    let rest = map_agrees f g kept (a + 1) n (omega (arith, e)) (λ i lt. let at : a + suc i ≡ (a + 1) + i = omega arith in h (suc i) (omega (arith, lt)) ∙ ap g at) in
    rw (one, rest) refl

any_agrees : (f : Kept → Bool) (g : ℕ → Bool) (kept : List Kept) (a n : ℕ) → length kept ≡ n → ((i : ℕ) → i < length kept → f (kept_at kept i) ≡ g (a + i)) → list_any f kept ≡ list_any g (range_with_len a n)
any_agrees f g [] a zero e h = refl
any_agrees f g [] a (suc n) e h = absurd (omega (arith, e))
any_agrees f g (k ∷ kept) a zero e h = absurd (omega (arith, e))
any_agrees f g (k ∷ kept) a (suc n) e h =
    let first : a + 0 ≡ a = omega arith in
    let one : f k ≡ g a = h 0 (omega arith) ∙ ap g first in
    let rest = any_agrees f g kept (a + 1) n (omega (arith, e)) (λ i lt. let at : a + suc i ≡ (a + 1) + i = omega arith in h (suc i) (omega (arith, lt)) ∙ ap g at) in
    rw (one, rest) refl

values_listed : (rs : List Resolution) (version : ℕ → ℕ) (a n : ℕ) → map (λ r. value_in rs r (version r)) (range_with_len a n) ≡ map (λ x. value_in rs x.0 x.1) (enumerate_from a (map version (range_with_len a n)))
values_listed rs version a zero = refl
values_listed rs version a (suc n) = ap (λ xs. value_in rs a (version a) ∷ xs) (values_listed rs version (a + 1) n)

module _ (p : Program) (j : Journal) (linked : List Linked) (kept : List Kept) (lanes : Lanes) (h : KeepsResources p j linked kept) (before : DoneBefore (cut_now j) j.updates) where
  seen_version : (r : ℕ) → r < length kept → kept_of.version_at lanes (cut_now j) (kept_at kept r) ≡ version_of lanes (cut_now j) j r
  seen_version r lt = seen_agrees lanes (cut_now j) j r (kept_at kept r) (h.each r lt) (open_or_done (cut_now j) j r before (h.none_owed r))

  seen_value : (r : ℕ) → r < length kept → value_of (kept_at kept r) (kept_of.version_at lanes (cut_now j) (kept_at kept r)) ≡ value_in (resolutions_by (cut_now j) j) r (version_of lanes (cut_now j) j r)
  seen_value r lt =
      value_agrees j r (kept_of.version_at lanes (cut_now j) (kept_at kept r)) (kept_at kept r) (h.each r lt) ∙ ap (value_in (resolutions_by (cut_now j) j) r) (seen_version r lt)

  seen_another : (r : ℕ) → r < length kept → sees_another lanes (cut_now j) (kept_at kept r) ≡ not (nat_eq (version_of lanes (cut_now j) j r) (done_version j r))
  seen_another r lt =
      ap (λ v. not (nat_eq v (kept_at kept r).done)) (seen_version r lt) ∙ ap (λ v. not (nat_eq (version_of lanes (cut_now j) j r) v)) (h.each r lt).done

  at_zero : {B : Type 0} (g : ℕ → B) (r : ℕ) → g r ≡ g (0 + r)
  at_zero g r = let e : r ≡ 0 + r = omega arith in ap g e

  -- a render that starts now sees what is kept
  pub seen_is : (seen : ℕ) → seen_of lanes (cut_now j) kept ≡ resources_by (record { program = p; journal = j; lanes = lanes; cut = cut_now j; seen = seen })
  seen_is seen = λ i. record {
    versions = map_agrees (kept_of.version_at lanes (cut_now j)) (version_of lanes (cut_now j) j) kept 0 (length (resources p)) h.all (λ r lt. seen_version r lt ∙ at_zero (version_of lanes (cut_now j) j) r) i;
    values =
        (map_agrees (λ k. value_of k (kept_of.version_at lanes (cut_now j) k)) (λ r. value_in (resolutions_by (cut_now j) j) r (version_of lanes (cut_now j) j r)) kept 0 (length (resources p)) h.all
        (λ r lt. seen_value r lt ∙ at_zero (λ q. value_in (resolutions_by (cut_now j) j) q (version_of lanes (cut_now j) j q)) r)
        ∙ values_listed (resolutions_by (cut_now j) j) (version_of lanes (cut_now j) j) 0 (length (resources p))) i;
    refreshes =
        any_agrees (sees_another lanes (cut_now j)) (λ r. not (nat_eq (version_of lanes (cut_now j) j r) (done_version j r))) kept 0 (length (resources p)) h.all
        (λ r lt. seen_another r lt ∙ at_zero (λ q. not (nat_eq (version_of lanes (cut_now j) j q) (done_version j q))) r) i;
  }

past_end : (xs : List ℕ) (r : ℕ) → length xs ≤ r → slice_index_or xs r 0 ≡ 0
past_end [] r l = refl
past_end (x ∷ xs) zero l = absurd (omega arith)
past_end (x ∷ xs) (suc r) l = past_end xs r (omega arith)

pub versions_length : (s : Sight) → length (versions_seen s) ≡ length (resources s.program)
versions_length s = length-map _ _ ∙ length-range_with_len 0 (length (resources s.program))

listed_length : (rs : List Resolution) (k : ℕ) (versions : List ℕ) → length (map (λ x. value_in rs x.0 x.1) (enumerate_from k versions)) ≡ length versions
listed_length rs k [] = refl
listed_length rs k (v ∷ versions) = ap suc (listed_length rs (k + 1) versions)

pub values_length : (s : Sight) → length (resources_seen s) ≡ length (resources s.program)
values_length s = listed_length (resolutions_by s.cut s.journal) 0 (versions_seen s) ∙ versions_length s

-- a list of the versions that a render sees tells each of them
pub version_listed : (s : Sight) → AsksForDeclared s → (r : ℕ) → slice_index_or (versions_seen s) r 0 ≡ version_seen s r
version_listed s declared r = go (nat_lt r (length (resources s.program))) refl
  where
    go : (b : Bool) → nat_lt r (length (resources s.program)) ≡ b → slice_index_or (versions_seen s) r 0 ≡ version_seen s r
    go true e = let within : r < length (resources s.program) = grind (arith, nat_tests) in version_at (version_seen s) (length (resources s.program)) r within
    go false e =
        let late : length (resources s.program) ≤ r = grind (arith, nat_tests) in
        let long : length (versions_seen s) ≡ length (resources s.program) = versions_length s in
        past_end (versions_seen s) r (omega (arith, late, long)) ∙ sym (declared r late)
