-- A table of the versions that are waited for, and what is added to it.
use Rattle.std.specs.Prelude.{ℕ, ◌+◌, ◌<◌, ◌≤◌, min, nat_lt, Bool, true, false, ◌||◌, ◌≡◌, refl, if◌then◌else◌, List, length, Option, Some, None, slice_get, slice_index_or, slice_set}
use Rattle.std.specs.Slice.{IsItemAt}
use Rattle.std.specs.Option.{option_copied, unwrap_or}
use Rattle.std.proofs.Common.{Bor, sym, ◌∙◌, ap, arith, subst, length-set}
use Rattle.std.proofs.lemmas.Bool.Decides.{nat_tests}
use Rattle.std.proofs.lemmas.List.{get_or-set_same, get_or-set_other}
use Rattle.std.proofs.lemmas.Option.{slice_get-get_or, slice_get_past, unwrap_or-slice_get}
use borrow.Author.Count.{below_more}
use Rattle.rx_base.specs.Awaits.{Awaits, resource_limit, has, nothing}
use Rattle.rx_base.specs.Awaits as awaits
use Rattle.rx_base.specs.AwaitsLaws.{has-awaits_where}
use Rattle.rx_queue.specs.Pairs.{in_versions}
use Rattle.rx_sched.specs.Waiting.{waiting_where, kept_version, version_in, lesser}
use Rattle.rx_sched.specs.Waiting as waiting
use Rattle.rx_sched.specs.WaitingLaws.{waiting_agree, version_in-waiting_where, version_in-waiting_where_above, version_in-in_versions}

none_of_nothing : (versions : List ℕ) → waiting_where (kept_version nothing versions) ≡ waiting.nothing
unfolding waiting_where
none_of_nothing versions = refl

-- no resource, no wait
pub none_kept : (resources : Awaits) (versions : List ℕ) → resources ≡ nothing → waiting_where (kept_version resources versions) ≡ waiting.nothing
none_kept resources versions e = ap (λ s. waiting_where (kept_version s versions)) e ∙ none_of_nothing versions

-- what a table is asked for at a place
pub entry_at : (xs : List ℕ) (i : ℕ) (r : Option (Bor ℕ)) → IsItemAt xs i r → option_copied r ≡ slice_get xs i
entry_at xs i None h = sym (slice_get_past xs i h.3)
entry_at xs i (Some x) h = ap (λ y. Some y) (h.3.1 0) ∙ sym (slice_get-get_or xs i 0 h.3.0)

-- the version of a resource of the set stands in the table
pub version_read : (resources : Awaits) (versions : List ℕ) (n : ℕ) → length versions ≡ 64 → has resources n ≡ true
    → slice_get versions n ≡ version_in (waiting_where (kept_version resources versions)) n
version_read resources versions n long e = go (nat_lt n 64) refl
  where
    named : kept_version resources versions n ≡ Some (slice_index_or versions n 0)
    named = rw e refl

    go : (b : Bool) → nat_lt n 64 ≡ b → slice_get versions n ≡ version_in (waiting_where (kept_version resources versions)) n
    go true f =
        let small : n < 64 = grind (arith, nat_tests) in
        slice_get-get_or versions n 0 (omega (arith, long)) ∙ sym (version_in-waiting_where (kept_version resources versions) n small ∙ named)
    go false f =
        let past : 64 ≤ n = grind (arith, nat_tests) in
        slice_get_past versions n (omega (arith, long)) ∙ sym (version_in-waiting_where_above (kept_version resources versions) n past)

-- a resource outside of the set has none
pub no_version : (resources : Awaits) (versions : List ℕ) (n : ℕ) → has resources n ≡ false
    → None ≡ version_in (waiting_where (kept_version resources versions)) n
no_version resources versions n e = go (nat_lt n 64) refl
  where
    named : kept_version resources versions n ≡ None
    named = rw e refl

    go : (b : Bool) → nat_lt n 64 ≡ b → None ≡ version_in (waiting_where (kept_version resources versions)) n
    go true f = let small : n < 64 = grind (arith, nat_tests) in sym (version_in-waiting_where (kept_version resources versions) n small ∙ named)
    go false f = let past : 64 ≤ n = grind (arith, nat_tests) in sym (version_in-waiting_where_above (kept_version resources versions) n past)

-- the entry of a resource in the table, after waits are added
abbrev pub entry_after : (resources waits : Awaits) (versions old : List ℕ) → ℕ → ℕ
entry_after resources waits versions old k =
    if has waits k then (if has resources k then min (slice_index_or old k 0) (slice_index_or versions k 0) else slice_index_or versions k 0) else slice_index_or old k 0

-- the entries before one are those after waits are added, the others are as they were
pub record AddsWaits (resources waits : Awaits) (versions old s : List ℕ) (i : ℕ) : Type 0 where
  pub long : length s ≡ 64
  pub done : (k : ℕ) → k < i → slice_index_or s k 0 ≡ entry_after resources waits versions old k
  pub left : (k : ℕ) → i ≤ k → slice_index_or s k 0 ≡ slice_index_or old k 0

-- the version that is given for a resource
pub version_given : (versions : List ℕ) (n : ℕ) (r : Option (Bor ℕ)) (o : Option ℕ) → IsItemAt versions n r → o ≡ option_copied r → unwrap_or o 0 ≡ slice_index_or versions n 0
version_given versions n r o h e = ap (λ v. unwrap_or v 0) (e ∙ entry_at versions n r h) ∙ unwrap_or-slice_get versions n 0

entry_written : (resources waits : Awaits) (versions old s : List ℕ) (i v : ℕ) → AddsWaits resources waits versions old s i → i < 64
    → v ≡ entry_after resources waits versions old i → AddsWaits resources waits versions old (slice_set s i v) (i + 1)
entry_written resources waits versions old s i v h lt e =
    record {
      long = length-set s i v ∙ h.long;
      done = below_more (λ k. slice_index_or (slice_set s i v) k 0 ≡ entry_after resources waits versions old k) i
          (λ k less. get_or-set_other s i k v 0 (omega arith) ∙ h.done k less)
          (let inside : i < length s = omega (arith, h.long) in get_or-set_same s i v 0 inside ∙ e);
      left = λ k le. get_or-set_other s i k v 0 (omega arith) ∙ h.left k (omega arith);
    }

-- the lesser version of a resource that was waited for is written
pub lesser_written : (resources waits : Awaits) (versions old s new : List ℕ) (i v w : ℕ) → AddsWaits resources waits versions old s i → i < 64
    → has waits i ≡ true → has resources i ≡ true → v ≡ slice_index_or versions i 0 → w ≡ min (slice_index_or s i 0) v → new ≡ slice_set s i w
    → AddsWaits resources waits versions old new (i + 1)
lesser_written resources waits versions old s new i v w h lt awaited waited hv hw is =
    subst (λ t. AddsWaits resources waits versions old t (i + 1)) (sym is)
    (entry_written resources waits versions old s i w h lt
    (rw (awaited, waited) (hw ∙ ap (λ x. min x v) (h.left i (omega arith)) ∙ ap (min (slice_index_or old i 0)) hv)))

-- the version of a resource that wasn't waited for is written
pub new_written : (resources waits : Awaits) (versions old s new : List ℕ) (i v w : ℕ) → AddsWaits resources waits versions old s i → i < 64
    → has waits i ≡ true → has resources i ≡ false → v ≡ slice_index_or versions i 0 → w ≡ v → new ≡ slice_set s i w
    → AddsWaits resources waits versions old new (i + 1)
new_written resources waits versions old s new i v w h lt awaited waited hv hw is =
    subst (λ t. AddsWaits resources waits versions old t (i + 1)) (sym is)
    (entry_written resources waits versions old s i w h lt (rw (awaited, waited) (hw ∙ hv)))

-- an entry stays
pub entry_stays : (resources waits : Awaits) (versions old s new : List ℕ) (i : ℕ) → AddsWaits resources waits versions old s i
    → has waits i ≡ false → new ≡ s → AddsWaits resources waits versions old new (i + 1)
entry_stays resources waits versions old s new i h e is =
    subst (λ t. AddsWaits resources waits versions old t (i + 1)) (sym is)
    record {
      long = h.long;
      done = below_more (λ k. slice_index_or s k 0 ≡ entry_after resources waits versions old k) i h.done (rw e (h.left i (omega arith)));
      left = λ k le. h.left k (omega arith);
    }

-- all entries are written
pub waits_added : (resources waits : Awaits) (versions old s : List ℕ) (i : ℕ) → i ≡ 64 → AddsWaits resources waits versions old s i
    → waiting_where (kept_version (awaits.union resources waits) s)
    ≡ waiting.union (waiting_where (kept_version resources old)) (in_versions (λ r. slice_index_or versions r 0) waits)
waits_added resources waits versions old s i whole h = waiting_agree _ _ (λ n lt.
    ap (λ b. if b then Some (slice_index_or s n 0) else None) (has-awaits_where (λ r. has resources r || has waits r) n lt)
    ∙ both n (h.done n (omega (arith, whole))) (has resources n) refl (has waits n) refl
    ∙ sym (ap (λ v. lesser v (version_in (in_versions (λ r. slice_index_or versions r 0) waits) n)) (version_in-waiting_where (kept_version resources old) n lt)
    ∙ ap (lesser (kept_version resources old n)) (version_in-in_versions (λ r. slice_index_or versions r 0) waits n)))
  where
    both : (n : ℕ) → slice_index_or s n 0 ≡ entry_after resources waits versions old n → (b : Bool) → has resources n ≡ b → (c : Bool) → has waits n ≡ c
        → (if has resources n || has waits n then Some (slice_index_or s n 0) else None)
        ≡ lesser (kept_version resources old n) (if has waits n then Some (slice_index_or versions n 0) else None)
    both n e true hb true hc = rw (hb, hc) (let w : slice_index_or s n 0 ≡ min (slice_index_or old n 0) (slice_index_or versions n 0) = rw (hb, hc) at e in ap (λ m. Some m) w)
    both n e true hb false hc = rw (hb, hc) (let w : slice_index_or s n 0 ≡ slice_index_or old n 0 = rw hc at e in ap (λ m. Some m) w)
    both n e false hb true hc = rw (hb, hc) (let w : slice_index_or s n 0 ≡ slice_index_or versions n 0 = rw (hb, hc) at e in ap (λ m. Some m) w)
    both n e false hb false hc = rw (hb, hc) refl
