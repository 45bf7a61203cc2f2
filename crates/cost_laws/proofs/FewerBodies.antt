-- A render evaluates no more bodies than if each place were evaluated.
use Rattle.std.specs.Prelude.{ℕ, zero, suc, ◌+◌, ◌≤◌, Bool, true, false, not, ◌||◌, cond, List, [], ◌∷◌, Option}
use Rattle.std.proofs.Common.{arith}
use Rattle.rx_elem.specs.Elements.{Element}
use Rattle.rx_elem.specs.Elements as elements
use Rattle.rx_elem.specs.Trees.{Node}
use Rattle.rx_meaning.specs.Fresh.{Sight, Contexts, Renders, Place, empty, made, waits, throws, Places, all_made, one_waits, one_throws, rendered, depth_limit, default_contexts, root_element, Part, Shape, absent, waiting, throwing, one_list, two_lists, guarded, shape_of, render_part}
use Rattle.rx_meaning.specs.Counts.{Tries, unless_waits, if_waits, if_throws, if_made, try_all, each_body, one_if_component, count_part, count_shape, counted, whole}
use Rattle.rx_meaning.specs.Touched.{children_with_old}
use Rattle.render_laws.proofs.UnitBound.{if_made_nothing}
use Rattle.cost_laws.specs.Causes.{has_cause}
use Rattle.cost_laws.specs.Evaluated.{Evaluates, Flag, above_root, below_node, evaluate_shape, evaluated, once_caught, own_body, stood, whole_evaluated}
use Rattle.cost_laws.specs.Untouched.{is_element_of, is_untouched}

-- one count is at most another
abbrev pub IsLess : Tries → Tries → Type 0
IsLess f g = (e : Element) (old : Option Node) → f e old ≤ g e old

all_less : (f g : Tries) (render : Renders) → IsLess f g → (xs : List (Element × Option Node)) → try_all f render xs ≤ try_all g render xs
all_less f g render h [] = omega arith
all_less f g render h (x ∷ xs) = go (render x.0 x.1) (h x.0 x.1) (all_less f g render h xs)
  where
    go : (p : Place) → f x.0 x.1 ≤ g x.0 x.1 → try_all f render xs ≤ try_all g render xs
        → f x.0 x.1 + unless_waits p (try_all f render xs) ≤ g x.0 x.1 + unless_waits p (try_all g render xs)
    go empty a b = omega arith
    go (made n) a b = omega arith
    go (waits w) a b = omega arith
    go (throws v) a b = omega arith

-- If each place counts less, the children of a node do.
pub part_less : (f g : Contexts → Tries) (below : Contexts → Renders) → ((cs : Contexts) → IsLess (f cs) (g cs)) → (p : Part)
    → count_part f below p ≤ count_part g below p
part_less f g below h p = all_less (f p.contexts) (g p.contexts) (below p.contexts) (h p.contexts) (children_with_old p)

one_less : (b : Bool) → cond b 1 0 ≤ 1
one_less true = omega arith
one_less false = omega arith

own_less : (s : Sight) (cs : Contexts) (e : Element) (old : Option Node) → own_body s cs e old ≤ one_if_component e
own_less s cs elements.null old = omega arith
own_less s cs (elements.text t) old = omega arith
own_less s cs (elements.host n k attrs es) old = omega arith
own_less s cs (elements.comp c k ps es) old = one_less (has_cause s cs (elements.comp c k ps es) old || not (is_element_of (elements.comp c k ps es) old))
own_less s cs (elements.list marked es) old = omega arith
own_less s cs (elements.boundary k f es) old = omega arith
own_less s cs (elements.catcher k f es) old = omega arith
own_less s cs (elements.provider c k x es) old = omega arith

lists_less : (b : Bool) (ps qs : Places) (x y u v w : ℕ) → x ≤ y → u ≤ v
    → cond b 0 x + if_waits ps u ≤ w + (y + (if_made ps 0 + if_waits ps (v + if_made qs 0)))
lists_less true (all_made ns) qs x y u v w h k = omega arith
lists_less false (all_made ns) qs x y u v w h k = omega arith
lists_less true (one_waits a) qs x y u v w h k = omega arith
lists_less false (one_waits a) qs x y u v w h k = omega arith
lists_less true (one_throws t) qs x y u v w h k = omega arith
lists_less false (one_throws t) qs x y u v w h k = omega arith

-- the same of an error boundary
tries_less : (ps qs : Places) (x y u v w : ℕ) → x ≤ y → u ≤ v → x + if_throws ps u ≤ w + (y + (if_made ps 0 + if_throws ps (v + if_made qs 0)))
tries_less (all_made ns) qs x y u v w h k = omega arith
tries_less (one_waits a) qs x y u v w h k = omega arith
tries_less (one_throws t) qs x y u v w h k = omega arith

shape_less : (f : Evaluates) (g : Contexts → Tries) (below : Contexts → Renders) → ((u : Flag) (cs : Contexts) → IsLess (f u cs) (g cs))
    → (s : Sight) (u : Flag) (cs : Contexts) (e : Element) (old : Option Node) (shape : Shape)
    → evaluate_shape f below s u cs e old shape ≤ count_shape each_body g below cs e old shape
shape_less f g below h s u cs e old absent = omega arith
shape_less f g below h s u cs e old (waiting r v) = own_less s cs e old
shape_less f g below h s u cs e old (throwing x) = own_less s cs e old
shape_less f g below h s u cs e old (one_list m p) =
    omega (arith, own_less s cs e old, part_less (f (below_node u e old)) g below (h (below_node u e old)) p, if_made_nothing (render_part below p))
shape_less f g below h s u cs e old (two_lists p q) =
    lists_less (is_untouched s (stood u) e old) (render_part below p) (render_part below q)
    (count_part (f (below_node u e old)) below p) (count_part g below p) (count_part (f u) below q) (count_part g below q) (one_if_component e)
    (part_less (f (below_node u e old)) g below (h (below_node u e old)) p)
    (part_less (f u) g below (h u) q)
shape_less f g below h s u cs e old (guarded p q) =
    tries_less (render_part below p) (render_part below q)
    (count_part (f (below_node u e old)) below p) (count_part g below p) (count_part (f (once_caught u)) below q) (count_part g below q) (one_if_component e)
    (part_less (f (below_node u e old)) g below (h (below_node u e old)) p)
    (part_less (f (once_caught u)) g below (h (once_caught u)) q)

evaluated_less : (n : ℕ) (s : Sight) (u : Flag) (cs : Contexts) → IsLess (evaluated n s u cs) (counted each_body n s cs)
unfolding evaluated counted
evaluated_less zero s u cs e old = omega arith
evaluated_less (suc n) s u cs e old =
    shape_less (evaluated n s) (counted each_body n s) (rendered n s) (evaluated_less n s) s u cs e old (shape_of s cs e old)

-- A whole render evaluates at most the bodies that it would if no place were spared.
pub whole_less : (s : Sight) (old : Option Node) → whole_evaluated s old ≤ whole each_body s old
unfolding whole_evaluated whole
whole_less s old = evaluated_less depth_limit s above_root (default_contexts s.program) (root_element s.program) old
