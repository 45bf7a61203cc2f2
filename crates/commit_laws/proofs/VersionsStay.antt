-- After a commit a render that sees no refresh sees the versions that the commit's render saw.
use Rattle.std.specs.List.{range_with_len}
use Rattle.std.specs.Prelude.{List, [], false, length, map, refl, suc, zero, ℕ, ◌++◌, ◌+◌, ◌<◌, ◌∷◌, ◌≡◌}
use Rattle.std.proofs.Common.{ap, arith, subst, sym, ◌∙◌}
use Rattle.rx_base.specs.declared.cut.Cut.{Cut}
use Rattle.rx_lane.specs.Lanes.{Lanes}
use Rattle.rx_rules.specs.Names.{resources}
use Rattle.rx_meaning.specs.Again.{AccountedBefore, AllOpen}
use Rattle.rx_meaning.specs.Fresh.{Sight, version_seen, versions_seen}
use Rattle.rx_meaning.specs.Settled.{DoneBefore, version_done}
use Rattle.rx_meaning.specs.Touched.{sees_refresh}
use Rattle.rx_queue.specs.History.{stands_done}
use Rattle.rx_queue.specs.Journal.{Posted, Resolution, Target, marked_update, resource}
use Rattle.commit_laws.proofs.KeptValues.{PassesLater, updates_more}
use Rattle.commit_laws.proofs.ResourceLaws.{versions_done}
use Rattle.commit_laws.proofs.Settling.{versions_are_done}
use Rattle.commit_laws.specs.HiddenWaits.{journal_since, later_sight}

-- what is done is accounted for
pub accounted_done : (cut : Cut) (us : List Posted) → AccountedBefore cut us → DoneBefore cut us
accounted_done cut [] h = tt
accounted_done cut (u ∷ us) h = (h.0.0, accounted_done cut us h.1)

none_done : (t : Target) (new : List Posted) → AllOpen new → PassesLater t (λ u. u) (λ u. stands_done u.standing) (λ u. false) new
none_done t [] h = tt
none_done t (u ∷ us) h = (λ same. h.0, none_done t us h.2)

-- open updates are no version that is done
pub open_versions : (us new : List Posted) → AllOpen new → (r : ℕ) → version_done (us ++ new) r ≡ version_done us r
open_versions us new opened r = ap length (updates_more (resource r) (λ u. stands_done u.standing) us new (none_done (resource r) new opened))

same_mapped : (f g : ℕ → ℕ) (k n : ℕ) → ((r : ℕ) → r < n → f (k + r) ≡ g (k + r)) → map f (range_with_len k n) ≡ map g (range_with_len k n)
same_mapped f g k zero h = refl
same_mapped f g k (suc n) h =
    let e : k + 0 ≡ k = omega arith in
    let first : f k ≡ g k = subst (λ (m : ℕ). f m ≡ g m) e (h 0 (omega arith)) in
    rw (first, same_mapped f g (k + 1) n (λ r l. let same : k + suc r ≡ (k + 1) + r = omega arith in subst (λ (m : ℕ). f m ≡ g m) same (h (suc r) (omega arith)))) refl

-- The versions of a commit's render are seen again.
pub versions_stay : (s : Sight) (visible kept : List ℕ) → DoneBefore s.cut s.journal.updates → (new : List Posted) → AllOpen new → (resolutions : List Resolution) (lanes : Lanes) (cut : Cut)
    → sees_refresh (later_sight s (journal_since s visible kept new resolutions) lanes cut) ≡ false
    → versions_seen s ≡ versions_seen (later_sight s (journal_since s visible kept new resolutions) lanes cut)
versions_stay s visible kept before new opened resolutions lanes cut calm =
    same_mapped (version_seen s) (version_seen later) 0 (length (resources s.program)) one
  where
    later : Sight
    later = later_sight s (journal_since s visible kept new resolutions) lanes cut

    done : (r : ℕ) → version_done later.journal.updates r ≡ version_seen s r
    done r = open_versions (map (marked_update s.lanes s.cut visible kept) s.journal.updates) new opened r ∙ versions_are_done s visible kept before r

    one : (r : ℕ) → r < length (resources s.program) → version_seen s (0 + r) ≡ version_seen later (0 + r)
    one r l =
        let e : r ≡ 0 + r = omega arith in
        subst (λ (q : ℕ). version_seen s q ≡ version_seen later q) e (sym (versions_done later calm r l ∙ done r))
