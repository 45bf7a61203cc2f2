-- The root of a tree is read as the tree.
use Rattle.std.proofs.Common.{◌≡◌, ◌-◌, false, [], ◌∷◌, refl, subst, sym, ap, ◌∙◌, arith, ℕ, Option, Some, None}
use Rattle.rx_elem.specs.Trees.{Mark, Node}
use Rattle.rx_elem.specs.Trees as trees
use Rattle.rx_lists.specs.Shapes.{Shape, none, fiber}
use Rattle.rx_links.specs.Drafts.{Trees, Fits, entry, grafted}
use Rattle.rx_links.specs.Readers.{IsLinked}
use Rattle.rx_fiber.specs.Fibers.{Fiber, begun}
use Rattle.rx_fiber.specs.Reading.{AreFor, no_more, gap, next, IsFor, whole, alone, beside, IsTreeOf}
use Rattle.end_laws.specs.Trimmed.{trimmed, trimmed_if}
use Rattle.rx_read.specs.Lists.{list_of}
use Rattle.rx_read.specs.Places.{mark_in, places_in, first_node}
use Rattle.rx_read.proofs.Links.{from_draft, from_current}
use Rattle.rx_read.proofs.Trims.{tree_places}
use Rattle.rx_pruned.specs.Pruned.{Pruned, ArePruned, first, later}
use Rattle.rx_lists.specs.Shapes as shapes
use Rattle.rx_beside.specs.Children.{IsNode}

begun_root : (id : ℕ) (v : Fiber) (ks rs : Shape Fiber) (m : Mark) (y : Node) → v.place ≡ 0 → v.stage ≡ begun m → places_in 0 (fiber id v ks rs) ≡ Some y ∷ []
    → first_node (fiber id v ks rs) ≡ Some y
begun_root id v ks rs m y p e places =
    let k : mark_in v.stage ≡ Some m = ap mark_in e in
    let d : v.place - 0 ≡ 0 = omega arith in
    let h = rw (k, d) at places in
    rw k (cc)

root_by : (x : Node) (s rest : Shape Fiber) (y : Node) → IsFor 0 x s rest → places_in 0 s ≡ Some y ∷ [] → first_node s ≡ Some y
root_by _ _ rest y (whole {id = id} {v = v} {m = m} {ks = ks} is shown a) e = begun_root id v ks rest m y is.at is.stage e
root_by _ _ rest y (alone {id = id} {v = v} {m = m} {ks = ks} is hidden gone a) e = begun_root id v ks rest m y is.at is.stage e
root_by _ _ rest y (beside {id = id} {jd = jd} {v = v} {w = w} {m = m} {ks = ks} {ws = ws} is hidden some a s f) e =
    begun_root id v ks (fiber jd w ws rest) m y is.at is.stage e

-- the first fiber of the list of a tree stands for the tree
pub root_node : (x : Node) (s : Shape Fiber) → IsTreeOf (Some x) s → first_node s ≡ Some (trimmed x)
root_node x s a = by_list s a (tree_places x s a)
  where
    by_list : (s : Shape Fiber) → AreFor 0 (trees.child x trees.none) s → places_in 0 s ≡ Some (trimmed x) ∷ [] → first_node s ≡ Some (trimmed x)
    by_list s (next {rest = rest} is b) e = root_by x s rest (trimmed x) is e

-- a list that is not empty stands for a tree
pub has_tree : (o : Option Node) (s : Shape Fiber) (j : ℕ) → IsTreeOf o s → shapes.first s ≡ Some j → (y : Node) × (o ≡ Some y)
has_tree None _ j (gap no_more) e = cc
has_tree (Some y) s j a e = (y, refl)

-- one that is empty stands for none
pub no_tree : (o : Option Node) (s : Shape Fiber) → IsTreeOf o s → shapes.first s ≡ None → o ≡ None
no_tree None s a e = refl
no_tree (Some y) s a e = by_node s a e
  where
    by_first : (x : Node) (s rest : Shape Fiber) → IsFor 0 x s rest → shapes.first s ≡ None → Some y ≡ None
    by_first _ _ rest (whole is shown a) e = cc
    by_first _ _ rest (alone is hidden gone a) e = cc
    by_first _ _ rest (beside is hidden some a s f) e = cc

    by_node : (s : Shape Fiber) → AreFor 0 (trees.child y trees.none) s → shapes.first s ≡ None → Some y ≡ None
    by_node s (next {rest = rest} is b) e = by_first y s rest is e

module _ (t : Trees Fiber) (fits : Fits t) (linked : IsLinked t.current) where
  -- the root of the finished tree
  pub new_root : (r : Option ℕ) → r ≡ entry t.draft → (x : Node) → IsTreeOf (Some x) (grafted t.draft) → first_node (list_of t r) ≡ Some (trimmed x)
  new_root r e x a = ap first_node (from_draft t fits linked r e).0 ∙ root_node x (grafted t.draft) a

  -- that of the current one
  pub old_root : (o : Option ℕ) → o ≡ shapes.first t.current → (y : Node) → IsTreeOf (Some y) t.current → first_node (list_of t o) ≡ Some (trimmed y)
  old_root o e y a = ap first_node (from_current t linked o e).0 ∙ root_node y t.current a

  pub new_is : (r : ℕ) → Some r ≡ entry t.draft → (x : Node) → IsTreeOf (Some x) (grafted t.draft) → IsNode t r
  new_is r e x a = record { inside = (from_draft t fits linked (Some r) e).1; node = trimmed x; stands = new_root (Some r) e x a }

  pub old_is : (r : ℕ) → Some r ≡ shapes.first t.current → (o : Option Node) → IsTreeOf o t.current → IsNode t r
  old_is r e o a =
      let (y, is) = has_tree o t.current r a (sym e) in
      record { inside = (from_current t linked (Some r) e).1; node = trimmed y; stands = old_root (Some r) e y (subst (λ o. IsTreeOf o t.current) is a) }

-- what is left of two trees is what is left of their roots
pub first_tree : (y : Option Node) (n p : Node) (o : Option Node) → y ≡ None → Some p ≡ o → o ≡ Some n → ArePruned (trimmed_if y) n None p
first_tree y n p o e f g = let q : Some p ≡ Some n = f ∙ g in let h : p ≡ n = cc in rw (e, h) first

pub later_tree : (y : Option Node) (o n p q : Node) → y ≡ Some o → Pruned false (trimmed o) n p q → ArePruned (trimmed_if y) n (Some p) q
later_tree y o n p q e h = rw e (later h)
