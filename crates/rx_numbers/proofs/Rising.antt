-- The numbers that come next never fall.
use Rattle.std.proofs.Common.{◌≡◌, ℕ, ◌+◌, ◌≤◌, ◌<◌, List, [], ◌∷◌, length, get_or, drop, Option, Some, None, sym, ap, subst, ◌∙◌, arith}
use Rattle.rx_elem.specs.Elements.{Element}
use Rattle.rx_elem.specs.Numbers.{Numbers, numbered, numbered_host, numbered_in, numbered_instance, numbered_mark}
use Rattle.rx_elem.specs.Trees.{Forest, Instance, Mark, Node, child, children_of, element_of, forest, fallback_of, mark_of, node, none, of_boundary, of_catcher, of_host, of_instance, plain, vacant}
use Rattle.rx_numbers.specs.Room.{FitIn}
use Rattle.rx_numbers.proofs.Fronts.{in_front, left_from}

-- none has fallen
pub record NoneFell (before after : Numbers) : Type 0 where
  pub instance : before.instance ≤ after.instance
  pub host : before.host ≤ after.host

none_fell : (n : Numbers) → NoneFell n n
none_fell n = record { instance = omega arith; host = omega arith }

further : (a b c : Numbers) → NoneFell a b → NoneFell b c → NoneFell a c
further a b c h k = record { instance = omega (arith, h.instance, k.instance); host = omega (arith, h.host, k.host) }

-- what comes before what fits fits
pub fits_before : (a b : Numbers) → NoneFell a b → FitIn b → FitIn a
fits_before a b h k = record { instance = omega (arith, h.instance, k.instance); host = omega (arith, h.host, k.host) }

instance_rises : (next : Numbers) (i : Instance) (n : Option ℕ) → NoneFell next (numbered_instance next i n).0
instance_rises next i None = record { instance = omega arith; host = omega arith }
instance_rises next i (Some n) = none_fell next

host_rises : (next : Numbers) (n : Option ℕ) → NoneFell next (numbered_host next n).0
host_rises next None = record { instance = omega arith; host = omega arith }
host_rises next (Some n) = none_fell next

mark_rises : (next : Numbers) (m : Mark) → NoneFell next (numbered_mark next m).0
mark_rises next (of_instance i) = instance_rises next i i.number
mark_rises next (of_host n) = host_rises next n
mark_rises next (of_boundary b) = none_fell next
mark_rises next (of_catcher c) = none_fell next
mark_rises next plain = none_fell next

mutual
  tree_rises : (next : Numbers) (n : Node) → NoneFell next (numbered next n).0
  tree_rises next (node e m ns fs) =
      let own = (numbered_mark next m).0 in
      let below = (numbered_in own ns).0 in
      further next below (numbered_in below fs).0 (further next own below (mark_rises next m) (list_rises own ns)) (list_rises below fs)

  pub list_rises : (next : Numbers) (ns : Forest) → NoneFell next (numbered_in next ns).0
  list_rises next none = none_fell next
  list_rises next (vacant ns) = list_rises next ns
  list_rises next (child n ns) = further next (numbered next n).0 (numbered_in (numbered next n).0 ns).0 (tree_rises next n) (list_rises (numbered next n).0 ns)

-- the numbers behind a node's mark fit, if those behind the node do
pub mark_fits : (next : Numbers) (n : Node) (m : Mark) → m ≡ mark_of n → FitIn (numbered next n).0 → FitIn (numbered_mark next m).0
mark_fits next (node e m ns fs) x is h =
    let own = (numbered_mark next m).0 in
    let below = (numbered_in own ns).0 in
    subst (λ (y : Mark). FitIn (numbered_mark next y).0) (sym is)
    (fits_before own (numbered_in below fs).0 (further own below (numbered_in below fs).0 (list_rises own ns) (list_rises below fs)) h)

-- and those behind its children
pub children_fit : (next after : Numbers) (n : Node) (m : Mark) (ns : Forest) → m ≡ mark_of n → after ≡ (numbered_mark next m).0 → ns ≡ children_of n → FitIn (numbered next n).0
    → FitIn (numbered_in after ns).0
children_fit next after (node e m ns fs) x ys is now are h =
    let own = (numbered_mark next m).0 in
    let below = (numbered_in own ns).0 in
    let same : after ≡ own = now ∙ ap (λ (y : Mark). (numbered_mark next y).0) is in
    subst (λ (p : Numbers). FitIn (numbered_in p ys).0) (sym same)
    (subst (λ (zs : Forest). FitIn (numbered_in own zs).0) (sym are) (fits_before below (numbered_in below fs).0 (list_rises below fs) h))

-- and those behind its fallback are those behind the node
pub behind_is : (next after below : Numbers) (n : Node) (m : Mark) (ns fs : Forest) → m ≡ mark_of n → after ≡ (numbered_mark next m).0 → ns ≡ children_of n
    → below ≡ (numbered_in after ns).0 → fs ≡ fallback_of n → (numbered_in below fs).0 ≡ (numbered next n).0
behind_is next after below (node e m ns fs) x ys zs is now are down behind =
    ap (λ (p : Numbers). (numbered_in p zs).0) (down ∙ ap (λ (p : Numbers). (numbered_in p ys).0) (now ∙ ap (λ (y : Mark). (numbered_mark next y).0) is) ∙ ap (λ (us : Forest). (numbered_in (numbered_mark next m).0 us).0) are)
    ∙ ap (λ (us : Forest). (numbered_in (numbered_in (numbered_mark next m).0 ns).0 us).0) behind

-- a node with its parts numbered
pub whole_is : (next after below : Numbers) (n : Node) (e : Element) (old own : Mark) (ns fs kids falls : Forest) → e ≡ element_of n → old ≡ mark_of n → own ≡ (numbered_mark next old).1
    → after ≡ (numbered_mark next old).0 → kids ≡ children_of n → ns ≡ (numbered_in after kids).1 → below ≡ (numbered_in after kids).0 → falls ≡ fallback_of n → fs ≡ (numbered_in below falls).1
    → node e own ns fs ≡ (numbered next n).1
whole_is next after below (node e m ns fs) e' old own xs ys kids falls is_e is_old is_own now are is_xs down behind is_ys =
    let at : after ≡ (numbered_mark next m).0 = now ∙ ap (λ (y : Mark). (numbered_mark next y).0) is_old in
    let own_is : own ≡ (numbered_mark next m).1 = is_own ∙ ap (λ (y : Mark). (numbered_mark next y).1) is_old in
    let xs_is : xs ≡ (numbered_in (numbered_mark next m).0 ns).1 = is_xs ∙ ap (λ (p : Numbers). (numbered_in p kids).1) at ∙ ap (λ (us : Forest). (numbered_in (numbered_mark next m).0 us).1) are in
    let down_is : below ≡ (numbered_in (numbered_mark next m).0 ns).0 = down ∙ ap (λ (p : Numbers). (numbered_in p kids).0) at ∙ ap (λ (us : Forest). (numbered_in (numbered_mark next m).0 us).0) are in
    let ys_is : ys ≡ (numbered_in (numbered_in (numbered_mark next m).0 ns).0 fs).1 =
    is_ys ∙ ap (λ (p : Numbers). (numbered_in p falls).1) down_is ∙ ap (λ (us : Forest). (numbered_in (numbered_in (numbered_mark next m).0 ns).0 us).1) behind in
    λ i. node (is_e i) (own_is i) (xs_is i) (ys_is i)

-- and those behind the next tree of a list, if those behind the list do
pub one_fits : (next end : Numbers) (ns : List (Option Node)) (i : ℕ) (x : Option Node) (n : Node) → i < length ns → x ≡ get_or ns i x → x ≡ Some n
    → (numbered_in next (forest (drop i ns))).0 ≡ end → FitIn end → FitIn (numbered next n).0
one_fits next end ns i x n within at is so_far h =
    let rest = forest (drop (i + 1) ns) in
    let left : forest (drop i ns) ≡ child n rest = left_from ns i x within at ∙ ap (λ y. in_front (y ∷ []) rest) is in
    let behind : end ≡ (numbered_in (numbered next n).0 rest).0 = sym so_far ∙ ap (λ f. (numbered_in next f).0) left in
    fits_before (numbered next n).0 (numbered_in (numbered next n).0 rest).0 (list_rises (numbered next n).0 rest) (subst FitIn behind h)
