-- What a commit does with the hooks that are kept, one instance after the other.
use Rattle.std.proofs.Common.{◌≡◌, ℕ, zero, suc, ◌+◌, ◌<◌, ◌≤◌, Bool, true, false, ◌||◌, nat_eq, Option, Some, IsSome, List, [], ◌∷◌, map, slice_get, refl, sym, ◌∙◌, subst, below_more, arith}
use Rattle.std.proofs.lemmas.Bool.Decides.{nat_tests}
use Rattle.rx_base.specs.declared.cut.Cut.{Cut}
use Rattle.rx_lane.specs.Lanes.{Lanes}
use Rattle.rx_elem.specs.Spots.{Mounted}
use Rattle.rx_hooks.specs.declared.hook.Hook.{Hook}
use Rattle.rx_hooks.specs.Hooks.{committed_hook, owed_hook}
use Rattle.rx_hook_store.proofs.Stores.{KeptBy}
use Rattle.rx_settle.specs.Passes.{AreApart, AreKept, AreSettled, ChangesWorking, has_instance}

-- ---- numbers

-- two numbers differ either way
pub other_way : (a b : ℕ) → nat_eq a b ≡ false → nat_eq b a ≡ false
other_way a b e = grind (arith, nat_tests)

pub neither : (a b : Bool) → (a || b) ≡ false → (a ≡ false) × (b ≡ false)
neither true b e = absurd (let f : ⊥ = cc in f)
neither false b e = (refl, e)

-- a number that no instance of a list has is another one than that of each
pub other_than : (ms : List Mounted) (k : ℕ) (m : Mounted) (n : ℕ) → slice_get ms k ≡ Some m → has_instance ms n ≡ false → nat_eq m.number n ≡ false
other_than [] k m n at none = absurd (let f : ⊥ = cc in f)
other_than (x ∷ ms) zero m n at none =
    let same : x ≡ m = cc in
    subst (λ (y : Mounted). nat_eq y.number n ≡ false) same (other_way n x.number (neither (nat_eq n x.number) (has_instance ms n) none).0)
other_than (x ∷ ms) (suc k) m n at none = other_than ms k m n at (neither (nat_eq n x.number) (has_instance ms n) none).1

-- ---- settling

-- the first so many instances are settled, and what is kept of the others is as before, and of all that are not in the list
pub record SettledSoFar (lanes : Lanes) (cut : Cut) (first : ℕ) (old new : KeptBy) (ms : List Mounted) (count : ℕ) : Type 0 where
  pub settled : (k : ℕ) → k < count → (m : Mounted) → slice_get ms k ≡ Some m → AreSettled lanes cut first old new m
  pub others : (k : ℕ) (m : Mounted) → count ≤ k → slice_get ms k ≡ Some m → new m.number ≡ old m.number
  pub elsewhere : (n : ℕ) → has_instance ms n ≡ false → new n ≡ old n

module _ (lanes : Lanes) (cut : Cut) (first : ℕ) where
  -- hooks are settled if they are seen so before or after
  settled_after : (m : Mounted) (old now new : KeptBy) → new m.number ≡ now m.number → AreSettled lanes cut first old now m → AreSettled lanes cut first old new m
  settled_after m old now new same h =
      record {
        shown = λ below visible. subst (λ (o : Option (List Hook)). ChangesWorking (map committed_hook) lanes cut (old m.number) o) (sym same) (h.shown below visible);
        hidden = λ below visible. subst (λ (o : Option (List Hook)). ChangesWorking (map (owed_hook lanes cut)) lanes cut (old m.number) o) (sym same) (h.hidden below visible);
      }

  settled_before : (m : Mounted) (old now new : KeptBy) → now m.number ≡ old m.number → AreSettled lanes cut first now new m → AreSettled lanes cut first old new m
  settled_before m old now new same h =
      record {
        shown = λ below visible. subst (λ (o : Option (List Hook)). ChangesWorking (map committed_hook) lanes cut o (new m.number)) same (h.shown below visible);
        hidden = λ below visible. subst (λ (o : Option (List Hook)). ChangesWorking (map (owed_hook lanes cut)) lanes cut o (new m.number)) same (h.hidden below visible);
      }

  module _ (ms : List Mounted) (apart : AreApart ms) (old now new : KeptBy) (i : ℕ) (m : Mounted) (at : slice_get ms i ≡ Some m) where
    -- one instance more is settled
    pub settle_more : SettledSoFar lanes cut first old now ms i → AreSettled lanes cut first now new m → ((n : ℕ) → nat_eq m.number n ≡ false → new n ≡ now n)
        → SettledSoFar lanes cut first old new ms (i + 1)
    settle_more so_far one others =
        record {
          settled = below_more (λ k. (x : Mounted) → slice_get ms k ≡ Some x → AreSettled lanes cut first old new x) i
              (λ k lt x there.
              settled_after x old now new (others x.number (other_way x.number m.number (apart k i x m lt there at))) (so_far.settled k lt x there))
              (λ x there.
              let same : m ≡ x = cc in
              subst (λ (y : Mounted). AreSettled lanes cut first old new y) same (settled_before m old now new (so_far.others i m (omega arith) at) one));
          others = λ k x le there. others x.number (apart i k m x (omega arith) at there) ∙ so_far.others k x (omega arith) there;
          elsewhere = λ n none. others n (other_than ms i m n at none) ∙ so_far.elsewhere n none;
        }

    -- hooks are still kept of the next instance
    pub still_kept : AreKept first old ms → SettledSoFar lanes cut first old now ms i → m.number < first → IsSome (now m.number)
    still_kept kept so_far below = subst IsSome (sym (so_far.others i m (omega arith) at)) (kept i m at below)
