-- A tree that is idle for a render stays so while updates are accepted behind the cut.
use Rattle.std.specs.List.{enumerate_from}
use Rattle.std.specs.Prelude.{Bool, List, None, Option, Some, [], cond, false, filter, map, option_map, refl, true, ℕ, ℤ, ◌+◌, ◌++◌, ◌∷◌, ◌≡◌}
use Rattle.std.proofs.Common.{arith, ap, sym, ◌∙◌}
use Rattle.std.proofs.lemmas.List.{append-nil}
use Rattle.std.proofs.lemmas.List.Elements.{filter-append}
use Rattle.rx_elem.specs.Trees.{Forest, Instance, Mark, Node, child, node, none, of_boundary, of_catcher, of_host, of_instance, plain, vacant}
use Rattle.rx_queue.specs.History.{stands_done}
use Rattle.rx_queue.specs.Journal.{Posted, Resolution, committed_value, hook, same_target, state_of}
use Rattle.rx_susp.specs.declared.boundary.BoundaryState.TheVariants.{Hidden, Shown}
use Rattle.rx_meaning.specs.Again.{AllOpen}
use Rattle.rx_meaning.specs.Expressions.{answers_of}
use Rattle.rx_meaning.specs.Fresh.{Sight, hook_values}
use Rattle.rx_meaning.specs.Settled.{done_values, known_by}
use Rattle.render_laws.proofs.LaterEntries.{longer_sees_same}
use Rattle.render_laws.specs.SameSight.{AllAfter}
use Rattle.commit_laws.specs.Idle.{AllIdle, HasCommittedValues, IsIdle, IsIdleMark}

-- open updates add nothing to what is done
none_done : (mine : Posted → Bool) (new : List Posted) → AllOpen new → filter (λ u. stands_done u.standing) (filter mine new) ≡ []
none_done mine [] h = refl
none_done mine (u ∷ us) h = go (mine u) (none_done mine us h.2)
  where
    go : (b : Bool) → filter (λ u. stands_done u.standing) (filter mine us) ≡ []
        → filter (λ u. stands_done u.standing) (cond b (u ∷ filter mine us) (filter mine us)) ≡ []
    go true k = rw (h.0) k
    go false k = k

same_done : (mine : Posted → Bool) (us new : List Posted) → AllOpen new
    → filter (λ u. stands_done u.standing) (filter mine (us ++ new)) ≡ filter (λ u. stands_done u.standing) (filter mine us)
same_done mine us new h =
    ap (filter (λ u. stands_done u.standing)) (filter-append mine us new)
    ∙ (filter-append (λ u. stands_done u.standing) (filter mine us) (filter mine new)
    ∙ (ap (λ vs. filter (λ u. stands_done u.standing) (filter mine us) ++ vs) (none_done mine new h)
    ∙ append-nil (filter (λ u. stands_done u.standing) (filter mine us))))

module _ (s : Sight) (new : List Posted) (more : List Resolution) (late : AllAfter s.cut.updates new) (opened : AllOpen new) where
  -- the same sight over the longer journal
  abbrev later : Sight
  later = record s { journal = record { updates = s.journal.updates ++ new; resolutions = s.journal.resolutions ++ more } }

  done_same : (n : ℕ) (initials : List ℤ) → done_values s.program (known_by s) n initials ≡ done_values s.program (known_by later) n initials
  unfolding committed_value
  done_same n initials = from 0 initials
    where
      from : (k : ℕ) (xs : List ℤ)
          → map (λ h. committed_value (answers_of s.program) h.1 (filter (λ u. same_target (hook n h.0) u.target) s.journal.updates)) (enumerate_from k xs)
          ≡ map (λ h. committed_value (answers_of s.program) h.1 (filter (λ u. same_target (hook n h.0) u.target) (s.journal.updates ++ new))) (enumerate_from k xs)
      from k [] = refl
      from k (x ∷ xs) = rw (same_done (λ u. same_target (hook n k) u.target) s.journal.updates new opened, from (k + 1) xs) refl

  -- the values of hooks are seen at the cut, whatever is resolved
  values_same : (n : ℕ) (initials : List ℤ) → hook_values s n initials ≡ hook_values later n initials
  unfolding state_of
  values_same = (longer_sees_same (record s { cut = record s.cut { resolutions = 0 } }) new more late (omega arith)).hooks

  committed_later : (i : Instance) → HasCommittedValues s i → HasCommittedValues later i
  committed_later i h = by_number i.number h
    where
      by_number : (n : Option ℕ)
          → option_map (λ n. hook_values s n i.initials) n ≡ option_map (λ n. done_values s.program (known_by s) n i.initials) n
          → option_map (λ n. hook_values later n i.initials) n ≡ option_map (λ n. done_values s.program (known_by later) n i.initials) n
      by_number None k = refl
      by_number (Some n) k = ap Some (sym (values_same n i.initials)) ∙ (k ∙ ap Some (done_same n i.initials))

  mark_later : (m : Mark) → IsIdleMark s m → IsIdleMark later m
  mark_later (of_instance i) h = committed_later i h
  mark_later (of_host x) h = tt
  mark_later plain h = tt
  mark_later (of_boundary Shown) h = tt
  mark_later (of_boundary (Hidden a)) h = h
  mark_later (of_catcher c) h = tt

  mutual
    -- A tree that is idle stays so.
    pub idle_later : (x : Node) → IsIdle s x → IsIdle later x
    idle_later (node e m ns fs) h = (mark_later m h.0, all_idle_later ns h.1, all_idle_later fs h.2)

    all_idle_later : (ns : Forest) → AllIdle s ns → AllIdle later ns
    all_idle_later none h = tt
    all_idle_later (vacant ns) h = all_idle_later ns h
    all_idle_later (child x ns) h = (idle_later x h.0, all_idle_later ns h.1)
