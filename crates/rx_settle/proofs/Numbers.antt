-- How often a number stands among the instances of a tree, and of a tree without what stayed the same.
use Rattle.std.proofs.Common.{◌≡◌, ℕ, zero, suc, ◌+◌, ◌<◌, ◌≤◌, Bool, true, false, ◌||◌, ◌&&◌, not, cond, nat_eq, Option, Some, None, List, [], ◌∷◌, slice_get, refl, sym, ap, ◌∙◌, subst, arith}
use Rattle.std.specs.List.{list_any}
use Rattle.std.proofs.lemmas.Bool.Decides.{nat_tests}
use Rattle.rx_elem.specs.Spots.{Mounted, at_root, mounted, numbers_of, spots}
use Rattle.rx_elem.specs.Trees.{Node}
use Rattle.rx_hook_store.proofs.Stores.{same_number}
use Rattle.rx_meaning.specs.Settled.{HasOwnNumbers, times_numbered_if}
use Rattle.commit_laws.proofs.OwnNumbers.{occurs, spots_times}
use Rattle.rx_pruned.specs.Pruned.{ArePruned}
use Rattle.prune_laws.proofs.Leaving.{left_alike}
use Rattle.rx_settle.specs.Passes.{has_instance}
use Rattle.rx_settle.proofs.Apart.{all_listed}

-- ---- lists

-- an instance of a list with a number
pub record IsThere (ms : List Mounted) (n : ℕ) : Type 0 where
  pub place : ℕ
  pub instance : Mounted
  pub at : slice_get ms place ≡ Some instance
  pub number_is : instance.number ≡ n

pub is_there : (ms : List Mounted) (n : ℕ) → has_instance ms n ≡ true → IsThere ms n
is_there [] n has = absurd (let f : ⊥ = cc in f)
is_there (x ∷ ms) n has = go (nat_eq n x.number) refl has (is_there ms n)
  where
    go : (b : Bool) → nat_eq n x.number ≡ b → (b || has_instance ms n) ≡ true → (has_instance ms n ≡ true → IsThere ms n) → IsThere (x ∷ ms) n
    go true e h rest = record { place = zero; instance = x; at = refl; number_is = sym (same_number n x.number e) }
    go false e h rest = let r = rest h in record { place = suc r.place; instance = r.instance; at = r.at; number_is = r.number_is }

-- an instance of a list has its number
pub has_itself : (ms : List Mounted) (k : ℕ) (m : Mounted) → slice_get ms k ≡ Some m → has_instance ms m.number ≡ true
has_itself [] k m at = cc
has_itself (x ∷ ms) zero m at =
    let same : x ≡ m = cc in
    let itself : nat_eq m.number x.number ≡ true = (let e : x.number ≡ m.number = ap (λ (y : Mounted). y.number) same in grind (arith, nat_tests)) in
    ap (λ b. b || has_instance ms m.number) itself
has_itself (x ∷ ms) (suc k) m at = go (nat_eq m.number x.number) (has_itself ms k m at)
  where
    go : (b : Bool) → has_instance ms m.number ≡ true → (b || has_instance ms m.number) ≡ true
    go true h = refl
    go false h = h

has_once : (ms : List Mounted) (n : ℕ) → has_instance ms n ≡ true → 1 ≤ occurs n (numbers_of ms)
has_once [] n has = absurd (let f : ⊥ = cc in f)
has_once (x ∷ ms) n has = go (nat_eq n x.number) has (has_once ms n)
  where
    go : (b : Bool) → (b || has_instance ms n) ≡ true → (has_instance ms n ≡ true → 1 ≤ occurs n (numbers_of ms)) → 1 ≤ cond b 1 0 + occurs n (numbers_of ms)
    go true h rest = omega arith
    go false h rest = let r = rest h in omega arith

has_never : (ms : List Mounted) (n : ℕ) → has_instance ms n ≡ false → occurs n (numbers_of ms) ≡ 0
has_never [] n none = refl
has_never (x ∷ ms) n none = go (nat_eq n x.number) none (has_never ms n)
  where
    go : (b : Bool) → (b || has_instance ms n) ≡ false → (has_instance ms n ≡ false → occurs n (numbers_of ms) ≡ 0) → cond b 1 0 + occurs n (numbers_of ms) ≡ 0
    go true h rest = absurd (let f : ⊥ = cc in f)
    go false h rest = let r = rest h in omega arith

-- ---- trees

pub times_are : (n : ℕ) (tree : Option Node) → occurs n (numbers_of (mounted tree)) ≡ times_numbered_if n tree
times_are n None = refl
times_are n (Some x) = all_listed n (spots at_root x) ∙ spots_times n at_root x

pub stands_once : (n : ℕ) (tree : Option Node) → has_instance (mounted tree) n ≡ true → 1 ≤ times_numbered_if n tree
stands_once n tree has = omega (arith, has_once (mounted tree) n has, times_are n tree)

pub stands_never : (n : ℕ) (tree : Option Node) → has_instance (mounted tree) n ≡ false → times_numbered_if n tree ≡ 0
stands_never n tree none = sym (times_are n tree) ∙ has_never (mounted tree) n none

-- if it stands there, it is found; and if not, it is not
pub found_in : (n : ℕ) (tree : Option Node) → 1 ≤ times_numbered_if n tree → has_instance (mounted tree) n ≡ true
found_in n tree once = go (has_instance (mounted tree) n) refl
  where
    go : (b : Bool) → has_instance (mounted tree) n ≡ b → b ≡ true
    go true e = refl
    go false e = let never = stands_never n tree e in absurd (omega arith)

pub missing_in : (n : ℕ) (tree : Option Node) → times_numbered_if n tree ≡ 0 → has_instance (mounted tree) n ≡ false
missing_in n tree never = go (has_instance (mounted tree) n) refl
  where
    go : (b : Bool) → has_instance (mounted tree) n ≡ b → b ≡ false
    go false e = refl
    go true e = let once = stands_once n tree e in absurd (omega arith)

-- trees with the same instances have the same numbers
pub own_same : (next : ℕ) (tree other : Option Node) → mounted tree ≡ mounted other → HasOwnNumbers next other → HasOwnNumbers next tree
own_same next tree other same own n =
    let times : times_numbered_if n tree ≡ times_numbered_if n other =
    sym (times_are n tree) ∙ (ap (λ (ms : List Mounted). occurs n (numbers_of ms)) same ∙ times_are n other) in
    let here = own n in
    (omega (arith, here.0), λ le. times ∙ here.1 le)

-- ---- without what stayed the same

module _ (old : Option Node) (new : Node) (pruned_old : Option Node) (pruned_new : Node) (pruned : ArePruned old new pruned_old pruned_new) where
  -- the pruned new tree has numbers of its own if the whole one has
  pub pruned_own : (next : ℕ) → HasOwnNumbers next (Some new) → HasOwnNumbers next (Some pruned_new)
  pruned_own next own n =
      let left = left_alike old new pruned_old pruned_new pruned n in
      let new_is = left.new_is in
      let here = own n in
      (omega (arith, here.0), λ le. omega (arith, here.1 le))

  -- a new instance that is left out is an old one, and left out of the old tree too
  pub left_out : (next n : ℕ) → HasOwnNumbers next old → has_instance (mounted (Some new)) n ≡ true → has_instance (mounted (Some pruned_new)) n ≡ false
      → (n < next) × (has_instance (mounted pruned_old) n ≡ false)
  left_out next n own has none =
      let left = left_alike old new pruned_old pruned_new pruned n in
      let old_is = left.old_is in
      let new_is = left.new_is in
      let once = stands_once n (Some new) has in
      let never = stands_never n (Some pruned_new) none in
      let here = own n in
      (below (omega (arith)), missing_in n pruned_old (omega (arith, here.0)))
    where
      below : 1 ≤ times_numbered_if n old → n < next
      below once = grind (arith, (own n).1)

  -- an old instance that is no new one is left in the old tree
  pub left_in : (n : ℕ) → has_instance (mounted old) n ≡ true → has_instance (mounted (Some new)) n ≡ false
      → (has_instance (mounted pruned_old) n ≡ true) × (has_instance (mounted (Some pruned_new)) n ≡ false)
  left_in n has none =
      let left = left_alike old new pruned_old pruned_new pruned n in
      let old_is = left.old_is in
      let new_is = left.new_is in
      let once = stands_once n old has in
      let never = stands_never n (Some new) none in
      (found_in n pruned_old (omega arith), missing_in n (Some pruned_new) (omega arith))

-- if each old number is that of an instance of the new list, none is gone
pub none_gone : (before : List ℕ) (ms : List Mounted) → ((k n : ℕ) → slice_get before k ≡ Some n → has_instance ms n ≡ true) → (n : ℕ)
    → (list_any (nat_eq n) before && not (has_instance ms n)) ≡ false
none_gone [] ms each n = refl
none_gone (x ∷ before) ms each n = go (nat_eq n x) refl (none_gone before ms (λ k m at. each (suc k) m at) n)
  where
    go : (b : Bool) → nat_eq n x ≡ b → (list_any (nat_eq n) before && not (has_instance ms n)) ≡ false → ((b || list_any (nat_eq n) before) && not (has_instance ms n)) ≡ false
    go true e rest = ap not (subst (λ (k : ℕ). has_instance ms k ≡ true) (sym (same_number n x e)) (each zero x refl))
    go false e rest = rest
