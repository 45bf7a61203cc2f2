-- Whether a finished tree has a hidden boundary is told by its root's fiber.
use Rattle.std.proofs.Common.{◌≡◌, ℕ, Bool, false, Option, Some, refl, sym, ap, ◌∙◌}
use Rattle.std.specs.Prelude.{◌||◌, ◌∷◌, []}
use Rattle.std.proofs.Math.Bool.{or-false}
use Rattle.rx_elem.specs.Trees.{Node, forest, is_hidden}
use Rattle.rx_elem.specs.Trees as trees
use Rattle.rx_lists.specs.Shapes.{Shape, none, fiber, Holds}
use Rattle.rx_links.specs.Drafts.{Trees, Fits, Makes, entry, grafted}
use Rattle.rx_links.specs.Readers.{IsIn, IsLinked, value_of, made_value_of}
use Rattle.rx_node.specs.Hides.{hides_within, hides_in}
use Rattle.rx_fiber.specs.declared.subtree.Subtree.{Subtree}
use Rattle.rx_fiber.specs.Fibers.{Fiber, joined, own_subtree}
use Rattle.rx_fiber.specs.Reading.{AreFor, IsFor, IsTreeOf, no_more, next, whole, alone, beside}
use Rattle.rx_fiber.specs.Subtrees.{IsGathered, subtrees_of}
use Rattle.rx_read.specs.Lists.{list_of}
use Rattle.rx_read.proofs.Links.{by_value, from_draft}
use Rattle.rx_ways.proofs.Standing.{list_tells}

-- what the first fiber of a list tells of hidden boundaries
abbrev pub first_hides : Shape Fiber → Bool
first_hides none = false
first_hides (fiber id v ks rs) = v.subtree.hides

nothing_behind : (n : ℕ) (s : Shape Fiber) → AreFor n trees.none s → s ≡ none
nothing_behind _ _ no_more = refl

by_root : (x : Node) (s rest : Shape Fiber) → IsFor 0 x s rest → rest ≡ none → IsGathered s → (subtrees_of s).hides ≡ (hides_within x || false) → first_hides s ≡ hides_within x
by_root x _ rest (whole {v = v} of shown a) e g all = sym (or-false v.subtree.hides) ∙ ap (λ r. v.subtree.hides || (subtrees_of r).hides) (sym e) ∙ all ∙ or-false (hides_within x)
by_root x _ rest (alone {v = v} of hidden bare a) e g all = sym (or-false v.subtree.hides) ∙ ap (λ r. v.subtree.hides || (subtrees_of r).hides) (sym e) ∙ all ∙ or-false (hides_within x)
by_root _ _ _ (beside {v = v} {m = m} {ns = ns} {fs = fs} {ks = ks} of hidden kept a stage b) e g all =
    ap (λ (t : Subtree). t.hides) (g.0 ∙ ap (λ s. joined (own_subtree s) (subtrees_of ks)) of.stage)
    ∙ ap (λ h. h || (subtrees_of ks).hides) hidden
    ∙ ap (λ h. h || (hides_in ns || hides_in fs)) (sym hidden)

by_list : (x : Node) (s : Shape Fiber) → AreFor 0 (trees.child x trees.none) s → IsGathered s → (subtrees_of s).hides ≡ (hides_within x || false) → first_hides s ≡ hides_within x
by_list x s (next {rest = rest} is behind) g all = by_root x s rest is (nothing_behind 1 rest behind) g all

-- the first fiber of the list of a tree tells of the whole tree
pub root_hides : (x : Node) (s : Shape Fiber) → IsTreeOf (Some x) s → IsGathered s → first_hides s ≡ hides_within x
root_hides x s h g = by_list x s h g (list_tells 0 (forest (Some x ∷ [])) s h g).hides

module _ (t : Trees Fiber) (fits : Fits t) (linked : IsLinked t.current) (root : Option ℕ) (is : root ≡ entry t.draft) (gathered : IsGathered (grafted t.draft)) where
  -- the root of the tree in progress tells of it
  pub told_by_root : (x : Node) → IsTreeOf (Some x) (grafted t.draft) → first_hides (list_of t root) ≡ hides_within x
  told_by_root x h = ap first_hides (from_draft t fits linked root is).0 ∙ root_hides x (grafted t.draft) h gathered

-- so does the value of that fiber
pub root_tells : (t : Trees Fiber) → Fits t → IsLinked t.current → (id : ℕ) (v : Fiber) → IsIn t id
    → (Holds t.current id → Some v ≡ value_of t.current id) → (Makes t.draft id → Some v ≡ made_value_of t.draft id)
    → v.subtree.hides ≡ first_hides (list_of t (Some id))
root_tells t fits linked id v there held made_is = let l = by_value t fits linked id v there held made_is in ap first_hides (sym l.2.list)
