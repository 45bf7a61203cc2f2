-- A commit of a tree whose instances have the numbers of the old one's.
use Rattle.std.proofs.Common.{◌≡◌, ◌⊎◌, inl, inr, ℕ, zero, suc, ◌<◌, ◌≤◌, Bool, true, false, cond, not, ◌&&◌, ◌||◌, nat_eq, Option, Some, List, [], ◌∷◌, length, slice_get, refl, sym, ap, subst, ◌∙◌, arith}
use Rattle.std.specs.List.{list_any}
use Rattle.rx_elem.specs.Spots.{Mounted, mounted, numbers_of}
use Rattle.rx_elem.specs.Trees.{Node}
use Rattle.rx_meaning.specs.Settled.{HasOwnNumbers}
use Rattle.rx_pruned.specs.Pruned.{ArePruned}
use Rattle.prune_laws.proofs.Leaving.{left_alike}
use Rattle.rx_spots.specs.Places.{among}
use Rattle.rx_settle.specs.Found.{AreIn, AreTaken}
use Rattle.rx_settle.specs.Made.{AreMadeFor}
use Rattle.rx_settle.specs.Passes.{StayOld, has_instance, is_gone}
use Rattle.rx_settle.proofs.Making.{below_or_not}
use Rattle.rx_settle.proofs.Numbers.{has_itself, stands_once}

-- an instance has a number if the number is one of theirs
pub has_numbers : (ms : List Mounted) (n : ℕ) → has_instance ms n ≡ list_any (nat_eq n) (numbers_of ms)
has_numbers [] n = refl
has_numbers (x ∷ ms) n = ap (λ b. nat_eq n x.number || b) (has_numbers ms n)

-- those with the same numbers stay, if the old ones have numbers below the next one
pub same_stay : (next : ℕ) (old : Option Node) (new : Node) (pruned_old : Option Node) (pruned_new : Node) → ArePruned old new pruned_old pruned_new → HasOwnNumbers next old
    → numbers_of (mounted pruned_old) ≡ numbers_of (mounted (Some pruned_new)) → StayOld next (mounted pruned_old) (mounted (Some pruned_new))
same_stay next old new pruned_old pruned_new pruned own same =
    record { same = same_has; below = λ n has. go n (sym (same_has n) ∙ has) (below_or_not n next) }
  where
    same_has : (n : ℕ) → has_instance (mounted (Some pruned_new)) n ≡ has_instance (mounted pruned_old) n
    same_has n =
        has_numbers (mounted (Some pruned_new)) n ∙ (ap (λ ks. list_any (nat_eq n) ks) (sym same) ∙ sym (has_numbers (mounted pruned_old) n))

    go : (n : ℕ) → has_instance (mounted pruned_old) n ≡ true → (n < next) ⊎ (next ≤ n) → n < next
    go n has (inl lt) = lt
    go n has (inr le) =
        let left = left_alike old new pruned_old pruned_new pruned n in
        let old_is = left.old_is in
        let once = stands_once n pruned_old has in
        let here = own n in
        absurd (omega (arith, here.1 le))

module _ (first : ℕ) (before ms : List Mounted) (stay : StayOld first before ms) where
  -- none is gone
  pub stay_not_gone : (n : ℕ) → is_gone before ms n ≡ false
  stay_not_gone n = ap (λ b. has_instance before n && not b) (stay.same n) ∙ neither (has_instance before n)
    where
      neither : (b : Bool) → b && not b ≡ false
      neither true = refl
      neither false = refl

  -- and none is new
  pub none_made : AreMadeFor first ms (length ms) []
  none_made =
      record {
        all_new = λ k x at. absurd (let f : ⊥ = cc in f);
        each_has = λ k m lt at le. let below = stay.below m.number (has_itself ms k m at) in absurd (omega arith);
      }

-- ---- those that are asked for

-- the instances that are asked for are of the list
pub among_in : (asked : ℕ → Bool) (ms : List Mounted) → AreIn ms (among asked ms)
among_in asked [] k m at = absurd (let f : ⊥ = cc in f)
among_in asked (x ∷ ms) k m at = go (asked x.number) k at (λ i e. among_in asked ms i m e)
  where
    further : (j : ℕ) × (slice_get ms j ≡ Some m) → (j : ℕ) × (slice_get (x ∷ ms) j ≡ Some m)
    further w = (suc w.0, w.1)

    go : (b : Bool) (i : ℕ) → slice_get (cond b (x ∷ among asked ms) (among asked ms)) i ≡ Some m
        → ((l : ℕ) → slice_get (among asked ms) l ≡ Some m → (j : ℕ) × (slice_get ms j ≡ Some m)) → (j : ℕ) × (slice_get (x ∷ ms) j ≡ Some m)
    go true zero e rest = (zero, e)
    go true (suc i) e rest = further (rest i e)
    go false i e rest = further (rest i e)

-- if all left the set, those that are found are found of the whole list
pub taken_of_whole : (old new : ℕ → Bool) (ms fs ws vs : List Mounted) → fs ≡ among old ms → vs ≡ ws → AreTaken old new fs (length fs) ws → ((n : ℕ) → new n ≡ false)
    → AreTaken old new ms (length ms) vs
taken_of_whole old new ms fs ws vs are same h empty =
    subst (λ (xs : List Mounted). AreTaken old new ms (length ms) xs) (sym same)
    (record {
      within = λ k m at. let w = h.within k m at in among_in old ms w.0 m (subst (λ (xs : List Mounted). slice_get xs w.0 ≡ Some m) are w.1);
      apart = h.apart;
      were_in = h.were_in;
      are_out = h.are_out;
      taken = h.taken;
      passed = λ k lt m at. empty m.number;
    })
