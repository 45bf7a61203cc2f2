-- A render at its start, and the tree that it leaves at its end.
use Rattle.std.specs.Prelude.{◌≡◌, ℕ, [], Option, Some, None}
use Rattle.std.proofs.Common.{refl, sym, ap, ◌∙◌, subst, eq-eqb}
use Rattle.rx_ctx.specs.Contexts.{Stack}
use Rattle.rx_ctx.specs.Contexts as contexts
use Rattle.rx_elem.specs.Trees.{Node, Forest, forest}
use Rattle.rx_elem.specs.Trees as trees
use Rattle.rx_lists.specs.Shapes.{Shape, fiber, first}
use Rattle.rx_lists.specs.Shapes as shapes
use Rattle.rx_links.specs.Drafts.{taken, made, Trees, grafted, list_at}
use Rattle.rx_links.specs.Places.{top}
use Rattle.rx_meaning.specs.Fresh.{Sight, Place, default_contexts, root_element}
use Rattle.rx_meaning.specs.Fresh as fresh
use Rattle.rx_meaning.specs.Cursor.{start, ended}
use Rattle.rx_fiber.specs.Fibers.{Fiber}
use Rattle.rx_fiber.specs.Reading.{AreFor, no_more, gap, next, IsFor, whole, alone, beside, IsTreeOf, IsOld, new, of}
use Rattle.rx_fiber.specs.Surround.{IsWaiting, at_root}
use Rattle.rx_fiber.specs.Standing.{StandsAt, begins, over, bottom}

-- a node has a fiber, with which its list begins
pub record Begins (n : ℕ) (x : Node) (list rest : Shape Fiber) : Type 0 where
  pub id : ℕ
  pub value : Fiber
  pub kids : Shape Fiber
  pub later : Shape Fiber
  pub is : list ≡ fiber id value kids later

pub begun_by : (n : ℕ) (x : Node) (list rest : Shape Fiber) → IsFor n x list rest → Begins n x list rest
begun_by n x _ rest (whole {id = id} {v = v} {ks = ks} is shown a) = record { id = id; value = v; kids = ks; later = rest; is = refl }
begun_by n x _ rest (alone {id = id} {v = v} {ks = ks} is hidden none a) = record { id = id; value = v; kids = ks; later = rest; is = refl }
begun_by n x _ rest (beside {id = id} {jd = jd} {v = v} {w = w} {ks = ks} {ws = ws} is hidden some a s b) =
    record { id = id; value = v; kids = ks; later = fiber jd w ws rest; is = refl }

-- the list of a fiber that stands first in the tree
pub first_list : (c : Shape Fiber) (id : ℕ) (v : Fiber) (ks rs : Shape Fiber) → c ≡ fiber id v ks rs → list_at c id ≡ Some (fiber id v ks rs)
first_list c id v ks rs e = rw e (rw (eq-eqb id id refl) refl)

none_for : (n : ℕ) (s : Shape Fiber) → AreFor n trees.none s → s ≡ shapes.none
none_for n _ no_more = refl

-- the first fiber of the current tree is that of the tree's node
pub root_old : (c : Shape Fiber) (old : Option Node) → IsTreeOf old c → IsOld c (first c) old
root_old c None (gap a) = let e = none_for 1 c a in rw e new
root_old c (Some x) (next {rest = rest} is a) =
    let b = begun_by 0 x c rest is in
    let e : c ≡ fiber b.id b.value b.kids b.later = b.is in
    let f : first c ≡ Some b.id = ap first e in
    subst (λ o. IsOld c o (Some x)) (sym f) (of (first_list c b.id b.value b.kids b.later e ∙ ap Some (sym e)) f (next is a))

-- A render is at its start once the root's fiber is made, with no provider around it.
pub starts : (s : Sight) (old : Option Node) (t : Trees Fiber) (id : ℕ) (v : Fiber)
    → IsTreeOf old t.current → IsWaiting t.current [] [] (first t.current) v 0 (root_element s.program) → t.draft ≡ made id v (first t.current) (taken shapes.none) (taken shapes.none)
    → StandsAt t (contexts.opening (default_contexts s.program)) (Some id) (start s old)
unfolding start
starts s old t id v tree waits here = begins {k = top} here waits (root_old t.current old tree) at_root refl (bottom refl) refl

-- if no unit is left, the tree in progress is that of the node that was made, and so it is once the trees are swapped
pub swaps : (t : Trees Fiber) (st : Stack) (x : Node) → StandsAt t st None (ended (fresh.made x)) → IsTreeOf (Some x) (grafted t.draft)
swaps t st x (over tree few empty) = tree

-- a render that is over has made a node
pub ends : (t : Trees Fiber) (st : Stack) (p : Place) → StandsAt t st None (ended p) → (x : Node) × (p ≡ fresh.made x)
ends t st p (over {x = x} tree few empty) = (x, refl)
