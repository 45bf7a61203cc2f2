-- Versions of resources keep their values when more is resolved, and the test of a hidden boundary's awaits tells that none has one, and that nothing may throw anew.
use Rattle.std.specs.List.{list_any, range_with_len}
use Rattle.std.specs.Prelude.{Bool, List, None, Option, Some, [], cond, false, filter, is_some, length, map, nat_eq, nat_lt, not, refl, slice_get, slice_index_or, suc, take, true, zero, ℕ, ℤ, ◌++◌, ◌+◌, ◌<◌, ◌&&◌, ◌||◌, ◌∷◌, ◌≡◌, ◌≤◌}
use Rattle.std.proofs.Common.{ap, arith, subst, sym, ◌∙◌}
use Rattle.std.proofs.lemmas.Bool.Decides.{nat_tests}
use Rattle.rx_base.specs.Awaits.{Awaits, resource_limit}
use Rattle.rx_base.specs.AwaitsLaws.{has-awaits_where}
use Rattle.rx_base.specs.declared.cut.Cut.{Cut}
use Rattle.rx_lane.specs.Lanes.{Lanes}
use Rattle.rx_rules.specs.Bounds.{may_throw_in}
use Rattle.rx_rules.specs.Names.{resources}
use Rattle.rx_elem.specs.Elements.{Element}
use Rattle.rx_elem.specs.Trees.{Forest, node, of_boundary}
use Rattle.rx_meaning.specs.Fresh.{Sight, resources_seen, version_seen, versions_seen}
use Rattle.rx_meaning.specs.Touched.{has_new_work, instances_in, is_waiting_still, may_throw_anew, resolved_seen, sees_refresh}
use Rattle.rx_queue.specs.Journal.{Journal, Posted, Resolution, done_version, resolutions_by, resolved_by, values_at}
use Rattle.rx_susp.specs.declared.boundary.BoundaryState.TheVariants.{Hidden}
use Rattle.rx_elem.proofs.Deciding.{or_fails, same_number}
use Rattle.commit_laws.proofs.BodyLaw.{not_false}
use Rattle.commit_laws.proofs.Versions.{value_at, value_past}
use Rattle.commit_laws.specs.HiddenWaits.{later_sight}
use Rattle.rx_meaning.specs.Again.{AreUnresolved, NoNewUpdate}
use Rattle.rx_meaning.specs.Settled.{HasValuesOf}
use Rattle.rx_base.specs.Awaits as awaits

longer_got : (test : Resolution → Bool) (rs more : List Resolution) (a b : ℕ) → a ≤ b → (v : ℕ) (x : ℤ)
    → slice_get (map (λ r. r.value) (filter test (take a rs))) v ≡ Some x → slice_get (map (λ r. r.value) (filter test (take b (rs ++ more)))) v ≡ Some x
longer_got test [] more zero b l v x h = absurd (cc h)
longer_got test [] more (suc a) b l v x h = absurd (cc h)
longer_got test (r ∷ rs) more zero b l v x h = absurd (cc h)
longer_got test (r ∷ rs) more (suc a) zero l v x h = absurd (omega arith)
longer_got test (r ∷ rs) more (suc a) (suc b) l v x h = go (test r) v h (λ w. longer_got test rs more a b (omega arith) w x)
  where
    go : (o : Bool) (v : ℕ) → slice_get (map (λ r. r.value) (cond o (r ∷ filter test (take a rs)) (filter test (take a rs)))) v ≡ Some x
        → ((w : ℕ) → slice_get (map (λ r. r.value) (filter test (take a rs))) w ≡ Some x → slice_get (map (λ r. r.value) (filter test (take b (rs ++ more)))) w ≡ Some x)
        → slice_get (map (λ r. r.value) (cond o (r ∷ filter test (take b (rs ++ more))) (filter test (take b (rs ++ more))))) v ≡ Some x
    go true zero e rest = e
    go true (suc v) e rest = rest v e
    go false v e rest = rest v e

-- what had a value by an earlier cut has it by a later one, over a longer journal
pub values_stay : (j : Journal) (us : List Posted) (more : List Resolution) (cut later : Cut) → cut.resolutions ≤ later.resolutions
    → HasValuesOf (resolutions_by cut j) (resolutions_by later (record { updates = us; resolutions = j.resolutions ++ more }))
values_stay j us more cut later l r v x h = longer_got (λ z. nat_eq z.resource r) j.resolutions more cut.resolutions later.resolutions l v x h

-- with as many resolutions the same are seen, if there were so many
pub resolutions_same : (j : Journal) (us : List Posted) (more : List Resolution) (cut later : Cut) → cut.resolutions ≤ length j.resolutions → later.resolutions ≡ cut.resolutions
    → resolutions_by cut j ≡ resolutions_by later (record { updates = us; resolutions = j.resolutions ++ more })
resolutions_same j us more cut later within same = rw same (sym (taken_first j.resolutions cut.resolutions within))
  where
    taken_first : (xs : List Resolution) (n : ℕ) → n ≤ length xs → take n (xs ++ more) ≡ take n xs
    taken_first xs zero l = refl
    taken_first [] (suc n) l = absurd (omega arith)
    taken_first (x ∷ xs) (suc n) l = ap (λ (ys : List Resolution). x ∷ ys) (taken_first xs n (omega arith))

-- A later render of a program that may throw sees the resources of the last commit's if nothing may throw anew.
pub resources_again : (s : Sight) (j : Journal) (lanes : Lanes) (cut : Cut) → versions_seen s ≡ versions_seen (later_sight s j lanes cut)
    → (may_throw_in s.program ≡ true → (s.cut.resolutions ≤ cut.resolutions) × (cut.resolutions ≡ s.cut.resolutions → resolutions_by s.cut s.journal ≡ resolutions_by cut j))
    → may_throw_anew (later_sight s j lanes cut) ≡ false → may_throw_in s.program ≡ true → resources_seen s ≡ resources_seen (later_sight s j lanes cut)
resources_again s j lanes cut versions as_many calm throws =
    let none_since : nat_lt s.cut.resolutions cut.resolutions ≡ false = and_right (may_throw_in s.program) (nat_lt s.cut.resolutions cut.resolutions) throws calm in
    let least : s.cut.resolutions ≤ cut.resolutions = (as_many throws).0 in
    let equal : cut.resolutions ≡ s.cut.resolutions = grind (arith, nat_tests) in
    with_these (resolutions_by s.cut s.journal) (resolutions_by cut j) (versions_seen s) (versions_seen (later_sight s j lanes cut)) ((as_many throws).1 equal) versions
  where
    and_right : (a b : Bool) → a ≡ true → (a && b) ≡ false → b ≡ false
    and_right true b e h = h
    and_right false b e h = absurd (cc e)

    with_these : (rs qs : List Resolution) (vs ws : List ℕ) → rs ≡ qs → vs ≡ ws → values_at rs vs ≡ values_at qs ws
    with_these rs qs vs ws a b = rw (a, b) refl

pub no_value : (o : Option ℤ) → is_some o ≡ false → o ≡ None
no_value None h = refl
no_value (Some x) h = absurd (cc h)

pub among_fails : (test : ℕ → Bool) (a : List ℕ) → list_any test a ≡ false → (r : ℕ) → awaits.has a r ≡ true → test r ≡ false
among_fails test [] h r there = absurd (cc there)
among_fails test (q ∷ qs) h r there =
    let parts = or_fails (test q) (list_any test qs) h in go (nat_eq q r) refl there parts.0 (among_fails test qs parts.1 r)
  where
    go : (b : Bool) → nat_eq q r ≡ b → (b || awaits.has qs r) ≡ true → test q ≡ false → (awaits.has qs r ≡ true → test r ≡ false) → test r ≡ false
    go true e x y k = let same : q ≡ r = grind (arith, nat_tests) in subst (λ (m : ℕ). test m ≡ false) same y
    go false e x y k = k x

-- a resource has no value that a render sees if its version has none
unresolved : (t : Sight) (r : ℕ) → (r < length (resources t.program) → resolved_by t.cut t.journal r (version_seen t r) ≡ None) → slice_index_or (resources_seen t) r None ≡ None
unresolved t r h = go (nat_lt r (length (resources t.program))) refl
  where
    go : (b : Bool) → nat_lt r (length (resources t.program)) ≡ b → slice_index_or (resources_seen t) r None ≡ None
    go true e =
        let within : r < length (resources t.program) = grind (arith, nat_tests) in
        value_at (resolutions_by t.cut t.journal) (version_seen t) (length (resources t.program)) r within ∙ h within
    go false e =
        let late : length (resources t.program) ≤ r = grind (arith, nat_tests) in
        value_past (resolutions_by t.cut t.journal) (version_seen t) (length (resources t.program)) r late

-- no awaited resource is resolved by the cut in the version that the render sees: none has a value that it sees
pub awaits_unresolved : (t : Sight) (a : Awaits) → list_any (λ r. is_some (resolved_by t.cut t.journal r (version_seen t r))) a ≡ false → AreUnresolved t a
awaits_unresolved t a h r there =
    unresolved t r (λ within. no_value (resolved_by t.cut t.journal r (version_seen t r)) (among_fails (λ q. is_some (resolved_by t.cut t.journal q (version_seen t q))) a h r there))

range_fails : (test : ℕ → Bool) (k n r : ℕ) → list_any test (range_with_len k n) ≡ false → r < n → test (k + r) ≡ false
range_fails test k zero r h l = absurd (omega arith)
range_fails test k (suc n) zero h l = let e : k + 0 ≡ k = omega arith in rw e ((or_fails (test k) (list_any test (range_with_len (k + 1) n)) h).0)
range_fails test k (suc n) (suc r) h l =
    let e : (k + 1) + r ≡ k + suc r = omega arith in
    subst (λ (m : ℕ). test m ≡ false) e (range_fails test (k + 1) n r ((or_fails (test k) (list_any test (range_with_len (k + 1) n)) h).1) (omega arith))

-- a render that sees no refresh sees the versions that are done
pub versions_done : (t : Sight) → sees_refresh t ≡ false → (r : ℕ) → r < length (resources t.program) → version_seen t r ≡ done_version t.journal r
versions_done t h r within =
    let e : 0 + r ≡ r = omega arith in
    let fails : not (nat_eq (version_seen t r) (done_version t.journal r)) ≡ false =
    subst (λ (q : ℕ). not (nat_eq (version_seen t q) (done_version t.journal q)) ≡ false) e
    (range_fails (λ q. not (nat_eq (version_seen t q) (done_version t.journal q))) 0 (length (resources t.program)) r h within) in
    same_number (version_seen t r) (done_version t.journal r) (not_false (nat_eq (version_seen t r) (done_version t.journal r)) fails)

-- the same by the set of the resources whose done version is resolved, if there are no more resources than the limit
pub seen_unresolved : (t : Sight) (a : Awaits) → length (resources t.program) ≤ resource_limit → sees_refresh t ≡ false → list_any (awaits.has (resolved_seen t)) a ≡ false
    → AreUnresolved t a
seen_unresolved t a few calm h r there = unresolved t r none
  where
    none : r < length (resources t.program) → resolved_by t.cut t.journal r (version_seen t r) ≡ None
    none within =
        let small : r < resource_limit = omega arith in
        let fails : awaits.has (resolved_seen t) r ≡ false = among_fails (awaits.has (resolved_seen t)) a h r there in
        ap (resolved_by t.cut t.journal r) (versions_done t calm r within)
        ∙ no_value (resolved_by t.cut t.journal r (done_version t.journal r))
        (sym (has-awaits_where (λ q. is_some (resolved_by t.cut t.journal q (done_version t.journal q))) r small) ∙ fails)

not_either : (a b : Bool) → not (a || b) ≡ true → (a ≡ false) × (b ≡ false)
not_either true b h = absurd (cc h)
not_either false true h = absurd (cc h)
not_either false false h = (refl, refl)

-- what the test of a hidden boundary tells if the render sees no refresh: nothing that it waits for has a value, nothing that it keeps has a new update, and nothing may throw anew
pub still_waiting : (t : Sight) (e : Element) (a : Awaits) (ns fs : Forest) → length (resources t.program) ≤ resource_limit
    → sees_refresh t ≡ false → is_waiting_still t (node e (of_boundary (Hidden a)) ns fs) (Hidden a) ≡ true
    → AreUnresolved t a × NoNewUpdate t.lanes t.cut (instances_in ns) t.journal.updates × (may_throw_anew t ≡ false)
still_waiting t e a ns fs few calm h =
    let parts = not_either (list_any (awaits.has (resolved_seen t)) a) (has_new_work t (instances_in ns) || may_throw_anew t) h in
    let rest = or_fails (has_new_work t (instances_in ns)) (may_throw_anew t) parts.1 in
    (seen_unresolved t a few calm parts.0, rest.0, rest.1)
