-- The hosts that a commit places are among those that are left of the new tree, with the parents that they have in the whole one.
use Rattle.std.specs.Prelude.{◌≡◌, ℕ, Bool, true, false, ◌||◌, List, [], ◌∷◌, Option, Some, nat_eq, refl}
use Rattle.std.proofs.Common.{sym, ◌∙◌, ap, inl, inr}
use Rattle.std.proofs.lemmas.Bool.Decides.{Decides-eqb}
use Rattle.rx_elem.specs.Trees.{Node, Forest}
use Rattle.rx_elem.specs.Compare.{Past}
use Rattle.rx_elem.specs.Spots.{at_root}
use Rattle.rx_forest.specs.Hosts.{Host, hosts, has_host}
use Rattle.rx_forest.specs.HostOps.{is_placed}
use Rattle.rx_pruned.specs.Pruned.{ArePruned, first, later, Pruned, whole, cut, inside, in_place, PrunedInPlace, each, through, PrunedIn, no_more, gap, same, pair, left}
use Rattle.host_laws.specs.Commits.{AreNumbered, AreNumbered_in, from_root, placed_by}
use Rattle.host_laws.specs.Related.{AreDistinct}
use Rattle.host_laws.specs.Siblings.{HasPlacedParents}
use Rattle.host_laws.proofs.Placed.{not_placed}
use Rattle.rx_elem.specs.Compare.{above_root}
use Rattle.prune_laws.proofs.Merged.{IsIn, Merged, ended, keep, leave, kept_apart}
use Rattle.prune_laws.proofs.Parts.{left_at}

mutual
  -- each host that is left has a number
  left_numbered : {d : Bool} {o n p q : Node} → Pruned d o n p q → AreNumbered n → AreNumbered q
  left_numbered whole k = k
  left_numbered (cut on here) k = (k.0, tt, k.2)
  left_numbered (inside on keeps below) k = (k.0, all_left_numbered below k.1, k.2)
  left_numbered (in_place on lists) k = (k.0, lists_numbered lists k.1, k.2)

  lists_numbered : {d : Bool} {os ns ps qs : Forest} → PrunedInPlace d os ns ps qs → AreNumbered_in ns → AreNumbered_in qs
  lists_numbered (each wholes kept below) k = all_left_numbered below k
  lists_numbered (through bare stands lists) k = lists_numbered lists k.0.1

  all_left_numbered : {d : Bool} {ps qs : List Past} {ns ms : Forest} → PrunedIn d ps ns qs ms → AreNumbered_in ns → AreNumbered_in ms
  all_left_numbered no_more k = k
  all_left_numbered (gap more) k = all_left_numbered more k
  all_left_numbered (same more) k = (k.0, all_left_numbered more k.1)
  all_left_numbered (pair one more) k = (left_numbered one k.0, all_left_numbered more k.1)
  all_left_numbered (left here more) k = all_left_numbered more k.1

or_second : (a b : Bool) → b ≡ true → (a || b) ≡ true
or_second true b h = refl
or_second false b h = h

has_in : (g : Host) (hs : List Host) → IsIn g hs → has_host hs g.number ≡ true
has_in g [] i = absurd i
has_in g (h ∷ hs) (inl e) = let same : nat_eq h.number g.number ≡ true = (Decides-eqb h.number g.number).1 (ap (λ x. x.number) e) in rw same refl
has_in g (h ∷ hs) (inr i) = or_second (nat_eq h.number g.number) (has_host hs g.number) (has_in g hs i)

module _ (placed : List ℕ) (w : ℕ → Bool) where
  -- what is left out is not placed, so that the placed hosts are those that are kept
  merged_parents : {ks ls hs : List Host} → Merged ks ls hs → HasPlacedParents placed w ks → ((g : Host) → IsIn g ls → is_placed placed g.number ≡ false) → HasPlacedParents placed w hs
  merged_parents ended a out = tt
  merged_parents (keep h m) a out = (a.0, merged_parents m a.1 out)
  merged_parents (leave h m) a out =
      ((λ e. let o = out h (inl refl) in let no : true ≡ false = sym e ∙ o in absurd (cc)), merged_parents m a (λ g i. out g (inr i)))

  kept_parents : {ks ls hs : List Host} → Merged ks ls hs → AreDistinct hs → ((n : ℕ) → has_host ks n ≡ false → is_placed placed n ≡ false)
      → HasPlacedParents placed w ks → HasPlacedParents placed w hs
  kept_parents {ks} {ls} m d among a = merged_parents m a (λ g i. unplaced g i (has_host ks g.number) refl)
    where
      unplaced : (g : Host) → IsIn g ls → (b : Bool) → has_host ks g.number ≡ b → is_placed placed g.number ≡ false
      unplaced g i true e = let no : true ≡ false = sym (has_in g ls i) ∙ kept_apart m d g.number e in absurd (cc)
      unplaced g i false e = among g.number e

-- the parents of the placed hosts that are left are those of all placed ones
pub parents_left : (old : Option Node) (new : Node) (p : Option Node) (q : Node) (w : ℕ → Bool) → ArePruned old new p q → AreNumbered new → AreDistinct (hosts (Some new))
    → HasPlacedParents (placed_by p q) w (hosts (Some q)) → HasPlacedParents (placed_by p q) w (hosts (Some new))
parents_left old new p q w (first {n}) k d a = a
parents_left old new p q w (later {o} {n} {p = po} {q = qo} pruned) k d a =
    let l = left_at pruned at_root at_root (record { host = refl; concealed = refl }) in
    kept_parents (placed_by (Some po) qo) w l.merged_new d (λ m h. not_placed above_root (from_root (Some po)) qo at_root (left_numbered pruned k) m h) a
