-- The instances of the pruned new tree are instances of the whole one.
use Rattle.std.proofs.Common.{◌≡◌, ◌⊎◌, inl, inr, ℕ, zero, suc, Option, Some, None, List, [], ◌∷◌, ◌++◌, option_and_then, option_map, slice_get, refl, sym, ◌∙◌, subst}
use Rattle.std.specs.List.{cons_option}
use Rattle.std.proofs.lemmas.List.{append-nil}
use Rattle.std.proofs.lemmas.List.Elements.{filter_map-append}
use Rattle.std.proofs.lemmas.Option.{same_Some}
use Rattle.rx_susp.specs.declared.boundary.BoundaryState.TheVariants.{Hidden, Shown}
use Rattle.rx_elem.specs.Elements.{Element}
use Rattle.rx_elem.specs.Trees.{Forest, Mark, Node, child, instance_in, node, none, of_boundary, of_catcher, of_host, of_instance, plain, vacant}
use Rattle.rx_elem.specs.Spots.{Around, Mounted, around_children, at_root, mounted, mounted_as, mounted_at, mounted_in, spots, spots_in}
use Rattle.rx_pruned.specs.Pruned.{ArePruned, Pruned, PrunedIn, PrunedInPlace, cut, each, first, gap, in_place, inside, later, left, no_more, pair, same, through, whole}
use Rattle.prune_laws.specs.LeftOut.{AreWithin, IsSameInstance}

-- ---- lists of instances

-- an instance is one of a list, but for the nearest instance above
abbrev IsIn : Mounted → List Mounted → Type 0
IsIn m ms = (j : ℕ) × (n : Mounted) × (slice_get ms j ≡ Some n) × IsSameInstance m n

in_front : (m : Mounted) (xs ys : List Mounted) → IsIn m xs → IsIn m (xs ++ ys)
in_front m [] ys (j, n, at, alike) = absurd (let f : ⊥ = cc in f)
in_front m (x ∷ xs) ys (zero, n, at, alike) = (zero, n, at, alike)
in_front m (x ∷ xs) ys (suc j, n, at, alike) = let rest = in_front m xs ys (j, n, at, alike) in (suc rest.0, rest.1, rest.2, rest.3)

behind : (m : Mounted) (xs ys : List Mounted) → IsIn m ys → IsIn m (xs ++ ys)
behind m [] ys is = is
behind m (x ∷ xs) ys is = let rest = behind m xs ys is in (suc rest.0, rest.1, rest.2, rest.3)

in_either : (m : Mounted) (xs ys : List Mounted) → IsIn m (xs ++ ys) → IsIn m xs ⊎ IsIn m ys
in_either m [] ys is = inr is
in_either m (x ∷ xs) ys (zero, n, at, alike) = inl (zero, n, at, alike)
in_either m (x ∷ xs) ys (suc j, n, at, alike) = go (in_either m xs ys (j, n, at, alike))
  where
    go : IsIn m xs ⊎ IsIn m ys → IsIn m (x ∷ xs) ⊎ IsIn m ys
    go (inl is) = inl (suc is.0, is.1, is.2, is.3)
    go (inr is) = inr is

-- two lists joined have what lists within them have
joined : (m : Mounted) (xs ys vs ws : List Mounted) → (IsIn m xs → IsIn m vs) → (IsIn m ys → IsIn m ws) → IsIn m (xs ++ ys) → IsIn m (vs ++ ws)
joined m xs ys vs ws one other is = go (in_either m xs ys is)
  where
    go : IsIn m xs ⊎ IsIn m ys → IsIn m (vs ++ ws)
    go (inl h) = in_front m vs ws (one h)
    go (inr h) = behind m vs ws (other h)

one_first : (o : Option Mounted) (ms : List Mounted) → cons_option o [] ++ ms ≡ cons_option o ms
one_first None ms = refl
one_first (Some x) ms = refl

own_first : (o p : Option Mounted) (ms ns : List Mounted) (m : Mounted) → (IsIn m (cons_option o []) → IsIn m (cons_option p [])) → (IsIn m ms → IsIn m ns)
    → IsIn m (cons_option o ms) → IsIn m (cons_option p ns)
own_first o p ms ns m own below is =
    subst (IsIn m) (one_first p ns) (joined m (cons_option o []) ms (cons_option p []) ns own below (subst (IsIn m) (sym (one_first o ms)) is))

no_instances : (m : Mounted) (ns : List Mounted) → IsIn m [] → IsIn m ns
no_instances m ns (j, n, at, alike) = absurd (let f : ⊥ = cc in f)

-- ---- nodes and lists of children

-- the instances at a node and below, and those of a list
abbrev at_node : Around → Node → List Mounted
at_node a n = mounted_at (spots a n)

abbrev at_list : Around → Forest → List Mounted
at_list a ns = mounted_at (spots_in a ns)

-- the instance of a mark, if it is one of a component
abbrev own : Around → Mark → List Mounted
own a w = cons_option (option_and_then (mounted_as a) (instance_in w)) []

-- a node with other lists
with_lists : (a b : Around) (e : Element) (w : Mark) (qs gs ns fs : Forest) (m : Mounted) → (IsIn m (own a w) → IsIn m (own b w))
    → (IsIn m (at_list (around_children a w) qs) → IsIn m (at_list (around_children b w) ns)) → (IsIn m (at_list a gs) → IsIn m (at_list b fs))
    → IsIn m (at_node a (node e w qs gs)) → IsIn m (at_node b (node e w ns fs))
with_lists a b e w qs gs ns fs m itself below beside =
    own_first (option_and_then (mounted_as a) (instance_in w)) (option_and_then (mounted_as b) (instance_in w)) (mounted_at (spots_in (around_children a w) qs ++ spots_in a gs))
    (mounted_at (spots_in (around_children b w) ns ++ spots_in b fs)) m itself
    (λ is.
    subst (IsIn m) (sym (filter_map-append mounted_in (spots_in (around_children b w) ns) (spots_in b fs)))
    (joined m (at_list (around_children a w) qs) (at_list a gs) (at_list (around_children b w) ns) (at_list b fs) below beside
    (subst (IsIn m) (filter_map-append mounted_in (spots_in (around_children a w) qs) (spots_in a gs)) is)))

-- a node with another list of children
with_children : (a : Around) (e : Element) (w : Mark) (qs ns : Forest) (m : Mounted) → (IsIn m (at_list (around_children a w) qs) → IsIn m (at_list (around_children a w) ns))
    → IsIn m (at_node a (node e w qs none)) → IsIn m (at_node a (node e w ns none))
with_children a e w qs ns m below = with_lists a a e w qs none ns none m (λ h. h) below (λ h. h)

one_more : (a b : Around) (q n : Node) (ms ns : Forest) (m : Mounted) → (IsIn m (at_node a q) → IsIn m (at_node b n)) → (IsIn m (at_list a ms) → IsIn m (at_list b ns))
    → IsIn m (at_list a (child q ms)) → IsIn m (at_list b (child n ns))
one_more a b q n ms ns m here rest is =
    subst (IsIn m) (sym (filter_map-append mounted_in (spots b n) (spots_in b ns)))
    (joined m (at_node a q) (at_list a ms) (at_node b n) (at_list b ns) here rest (subst (IsIn m) (filter_map-append mounted_in (spots a q) (spots_in a ms)) is))

-- ---- what surrounds them

visible_below : (a b : Around) → a.visible ≡ b.visible → (w : Mark) → (around_children a w).visible ≡ (around_children b w).visible
visible_below a b seen (of_instance i) = seen
visible_below a b seen (of_host None) = seen
visible_below a b seen (of_host (Some n)) = seen
visible_below a b seen (of_boundary Shown) = seen
visible_below a b seen (of_boundary (Hidden waits)) = refl
visible_below a b seen (of_catcher c) = seen
visible_below a b seen plain = seen

own_anywhere : (a b : Around) → a.visible ≡ b.visible → (w : Mark) (m : Mounted) → IsIn m (own a w) → IsIn m (own b w)
own_anywhere a b seen (of_instance i) m is = go i.number is
  where
    of_number : Around → ℕ → Mounted
    of_number c k = record { number = k; component = i.component; initials = i.initials; owner = c.owner; visible = c.visible }

    go : (o : Option ℕ) → IsIn m (cons_option (option_map (of_number a) o) []) → IsIn m (cons_option (option_map (of_number b) o) [])
    go None h = h
    go (Some k) (zero, n, at, alike) =
        let was : IsSameInstance m (of_number a k) = subst (IsSameInstance m) (sym (same_Some (of_number a k) n at)) alike in
        (zero, of_number b k, refl, record { number = was.number; component = was.component; initials = was.initials; visible = was.visible ∙ seen })
    go (Some k) (suc j, n, at, alike) = absurd (let f : ⊥ = cc in f)
own_anywhere a b seen (of_host h) m is = is
own_anywhere a b seen (of_boundary s) m is = is
own_anywhere a b seen (of_catcher c) m is = is
own_anywhere a b seen plain m is = is

mutual
  -- a tree has the same instances at two places that are both visible, or neither is
  node_anywhere : (a b : Around) → a.visible ≡ b.visible → (n : Node) (m : Mounted) → IsIn m (at_node a n) → IsIn m (at_node b n)
  node_anywhere a b seen (node e w ns fs) m =
      with_lists a b e w ns fs ns fs m (own_anywhere a b seen w m) (list_anywhere (around_children a w) (around_children b w) (visible_below a b seen w) ns m)
      (list_anywhere a b seen fs m)

  list_anywhere : (a b : Around) → a.visible ≡ b.visible → (ns : Forest) (m : Mounted) → IsIn m (at_list a ns) → IsIn m (at_list b ns)
  list_anywhere a b seen none m is = is
  list_anywhere a b seen (vacant ns) m is = list_anywhere a b seen ns m is
  list_anywhere a b seen (child n ns) m is = one_more a b n n ns ns m (node_anywhere a b seen n m) (list_anywhere a b seen ns m) is

-- what is below an instance is visible if it is
shown_below : (a : Around) (w : Mark) (n : ℕ) → option_and_then (λ i. i.number) (instance_in w) ≡ Some n → a.visible ≡ (around_children a w).visible
shown_below a (of_instance i) n is = refl
shown_below a (of_host h) n is = absurd (cc is)
shown_below a (of_boundary s) n is = absurd (cc is)
shown_below a (of_catcher c) n is = absurd (cc is)
shown_below a plain n is = absurd (cc is)

-- the instances of a list are there below an instance over it
below_instance : (a : Around) (f : Element) (w : Mark) (ns : Forest) (m : Mounted) (n : ℕ) → option_and_then (λ i. i.number) (instance_in w) ≡ Some n
    → IsIn m (at_list a ns) → IsIn m (at_list a (child (node f w ns none) none))
below_instance a f w ns m n number is =
    let inner : IsIn m (at_list (around_children a w) ns) = list_anywhere a (around_children a w) (shown_below a w n number) ns m is in
    let alone : IsIn m (mounted_at (spots_in (around_children a w) ns ++ [])) =
    subst (λ xs. IsIn m (mounted_at xs)) (sym (append-nil (spots_in (around_children a w) ns))) inner in
    let over : IsIn m (at_node a (node f w ns none)) =
    subst (IsIn m) (one_first (option_and_then (mounted_as a) (instance_in w)) (mounted_at (spots_in (around_children a w) ns ++ [])))
    (behind m (own a w) (mounted_at (spots_in (around_children a w) ns ++ [])) alone) in
    subst (λ xs. IsIn m (mounted_at xs)) (sym (append-nil (spots a (node f w ns none)))) over

-- ---- the trees

mutual
  node_within : (m : Mounted) (a : Around) {d : _} {o n p q : Node} → Pruned d o n p q → IsIn m (at_node a q) → IsIn m (at_node a n)
  node_within m a whole is = is
  node_within m a (cut {f = f} {w = w} {ns = ns} goes shown) is = with_children a f w none ns m (no_instances m (at_list (around_children a w) ns)) is
  node_within m a (inside {f = f} {w = w} {ns = ns} {qs = qs} goes gone list) is = with_children a f w qs ns m (list_within m (around_children a w) list) is
  node_within m a (in_place {f = f} {w = w} {ns = ns} {qs = qs} goes lists) is = with_children a f w qs ns m (in_place_within m (around_children a w) lists) is

  in_place_within : (m : Mounted) (a : Around) {d : _} {os ns ps qs : Forest} → PrunedInPlace d os ns ps qs → IsIn m (at_list a qs) → IsIn m (at_list a ns)
  in_place_within m a (each olds news list) is = list_within m a list is
  in_place_within m a (through {f = f} {w = w} {ns = ns} bare stands lists) is = below_instance a f w ns m bare.number bare.is (in_place_within m a lists is)

  list_within : (m : Mounted) (a : Around) {d : _} {ps : List _} {ns : Forest} {qs : List _} {ms : Forest} → PrunedIn d ps ns qs ms → IsIn m (at_list a ms) → IsIn m (at_list a ns)
  list_within m a no_more is = is
  list_within m a (gap list) is = list_within m a list is
  list_within m a (same {n = n} {ns = ns} {ms = ms} list) is = one_more a a n n ms ns m (λ h. h) (list_within m a list) is
  list_within m a (pair {n = n} {q = q} {ns = ns} {ms = ms} here list) is = one_more a a q n ms ns m (node_within m a here) (list_within m a list) is
  list_within m a (left {n = n} {ns = ns} {ms = ms} still list) is =
      subst (IsIn m) (sym (filter_map-append mounted_in (spots a n) (spots_in a ns))) (behind m (at_node a n) (at_list a ns) (list_within m a list is))

-- each instance is the same as itself
is_same : (m : Mounted) → IsSameInstance m m
is_same m = record { number = refl; component = refl; initials = refl; visible = refl }

pub are_within : (old : Option Node) (new : Node) (pruned_old : Option Node) (pruned_new : Node) → ArePruned old new pruned_old pruned_new
    → AreWithin (mounted (Some pruned_new)) (mounted (Some new))
are_within old new pruned_old pruned_new first k m at = (k, m, at, is_same m)
are_within old new pruned_old pruned_new (later h) k m at = node_within m at_root h (k, m, at, is_same m)

-- an instance is the same as another but for the nearest instance above it
pub but_for_owner : (one other : Mounted) → IsSameInstance one other → record one { owner = other.owner } ≡ other
but_for_owner one other h =
    λ i. record { number = h.number i; component = h.component i; initials = h.initials i; owner = other.owner; visible = h.visible i }
