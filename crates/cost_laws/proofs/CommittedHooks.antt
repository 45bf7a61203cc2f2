-- An instance of which each included update is done has the values of its hooks that are committed.
use Rattle.std.specs.Prelude.{◌≡◌, ℕ, ◌+◌, Bool, true, false, not, ◌&&◌, cond, List, [], ◌∷◌, ℤ, Some, filter, map, refl}
use Rattle.std.specs.List.{enumerate_from, list_any}
use Rattle.std.proofs.Common.{ap}
use Rattle.rx_elem.specs.Trees.{Instance}
use Rattle.rx_elem.proofs.Deciding.{or_fails}
use Rattle.rx_queue.specs.History.{stands_done}
use Rattle.rx_queue.specs.Journal.{Posted, committed_value, hook, is_included, same_target, state_of}
use Rattle.rx_meaning.specs.Expressions.{answers_of}
use Rattle.rx_meaning.specs.Fresh.{Sight, hook_values}
use Rattle.rx_meaning.specs.Settled.{DoneBefore, done_values, known_by}
use Rattle.commit_laws.specs.Idle.{HasCommittedValues}
use Rattle.commit_laws.proofs.TakeOver.{done_is_included}
use Rattle.cost_laws.specs.Causes.{is_due, some_update}

included_is_done : (included done : Bool) → (done ≡ true → included ≡ true) → (included && not done) ≡ false → included ≡ done
included_is_done true true h k = refl
included_is_done false false h k = refl
included_is_done false true h k = absurd (cc (h refl))
included_is_done true false h k = absurd (cc k)

-- of the updates that pass a test, of which none is due, those that are included are done
same_updates : (s : Sight) (test : Posted → Bool) (us : List Posted) → DoneBefore s.cut us → list_any (is_due s) (filter test us) ≡ false
    → filter (is_included s.lanes s.cut) (filter test us) ≡ filter (λ u. stands_done u.standing) (filter test us)
same_updates s test [] h l = refl
same_updates s test (u ∷ us) h l = go (test u) l (same_updates s test us h.1)
  where
    pick : (a b : Bool) → a ≡ b → (us vs : List Posted) → us ≡ vs → cond a (u ∷ us) us ≡ cond b (u ∷ vs) vs
    pick true true e us vs k = ap (λ ws. u ∷ ws) k
    pick false false e us vs k = k
    pick true false e us vs k = absurd (cc e)
    pick false true e us vs k = absurd (cc e)

    go : (b : Bool) → list_any (is_due s) (cond b (u ∷ filter test us) (filter test us)) ≡ false
        → (list_any (is_due s) (filter test us) ≡ false → filter (is_included s.lanes s.cut) (filter test us) ≡ filter (λ u. stands_done u.standing) (filter test us))
        → filter (is_included s.lanes s.cut) (cond b (u ∷ filter test us) (filter test us)) ≡ filter (λ u. stands_done u.standing) (cond b (u ∷ filter test us) (filter test us))
    go true m rest =
        let both = or_fails (is_due s u) (list_any (is_due s) (filter test us)) m in
        pick (is_included s.lanes s.cut u) (stands_done u.standing)
        (included_is_done (is_included s.lanes s.cut u) (stands_done u.standing) (done_is_included s.lanes s.cut u h.0) both.0)
        (filter (is_included s.lanes s.cut) (filter test us)) (filter (λ u. stands_done u.standing) (filter test us)) (rest both.1)
    go false m rest = rest m

-- If no included update of an instance is still to be done, its hooks have the values that are committed.
pub same_values : (s : Sight) (n : ℕ) (initials : List ℤ) → DoneBefore s.cut s.journal.updates → some_update (is_due s) s n initials ≡ false
    → hook_values s n initials ≡ done_values s.program (known_by s) n initials
unfolding state_of committed_value
same_values s n initials done undue = from 0 initials undue
  where
    from : (k : ℕ) (xs : List ℤ) → list_any (λ h. list_any (is_due s) (filter (λ u. same_target (hook n h.0) u.target) s.journal.updates)) (enumerate_from k xs) ≡ false
        → map (λ h. state_of (answers_of s.program) s.lanes s.cut h.1 (filter (λ u. same_target (hook n h.0) u.target) s.journal.updates)) (enumerate_from k xs)
        ≡ map (λ h. committed_value (answers_of s.program) h.1 (filter (λ u. same_target (hook n h.0) u.target) s.journal.updates)) (enumerate_from k xs)
    from k [] l = refl
    from k (x ∷ xs) l =
        let both = or_fails (list_any (is_due s) (filter (λ u. same_target (hook n k) u.target) s.journal.updates))
        (list_any (λ h. list_any (is_due s) (filter (λ u. same_target (hook n h.0) u.target) s.journal.updates)) (enumerate_from (k + 1) xs)) l in
        rw (same_updates s (λ u. same_target (hook n k) u.target) s.journal.updates done both.0, from (k + 1) xs both.1) refl

-- The same for an instance with its number.
pub committed_hooks : (s : Sight) (i : Instance) (n : ℕ) → i.number ≡ Some n → DoneBefore s.cut s.journal.updates → some_update (is_due s) s n i.initials ≡ false
    → HasCommittedValues s i
committed_hooks s i n numbered done undue = rw (numbered, same_values s n i.initials done undue) refl
