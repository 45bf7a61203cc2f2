-- What holds of each place that a render comes to.
use Rattle.std.specs.Prelude.{ℕ, zero, suc, ◌≡◌, Bool, true, false, List, [], ◌∷◌, ◌++◌, Option, if◌then◌else◌, refl}
use Rattle.std.specs.List.{zip}
use Rattle.rx_elem.specs.Compare.{old_nodes}
use Rattle.rx_elem.specs.Elements.{Element}
use Rattle.rx_elem.specs.Trees.{Forest, Node}
use Rattle.rx_meaning.specs.Fresh.{Sight, Contexts, Renders, default_contexts, depth_limit, rendered, root_element, Part, Shape, absent, waiting, throwing, one_list, two_lists, guarded, render_part, shape_of}
use Rattle.rx_meaning.specs.Touched.{children_with_old, ends_list, is_throw, is_wait}
use Rattle.cost_laws.specs.Evaluated.{above_root, below_node, once_caught, stood}
use Rattle.cost_laws.specs.Places.{Above, Coming, Comings, above_with, come_all, come_part, come_shape, coming_here, comings, whole_comings}
use Rattle.cost_laws.specs.Untouched.{is_untouched}
use Rattle.cost_laws.proofs.Each.{Each, each_and, each_so}

-- Lists of places

-- what holds of each place at and below each child of a list
pub all_come : (P : Coming → Type 0) (come : Comings) (render : Renders) (a : Above) (cs : Contexts) (k : ℕ) (xs : List (Element × Option Node))
    → Each (λ x. (j : ℕ) → Each P (come (record a { address = j ∷ a.address }) cs x.0 x.1)) xs → Each P (come_all come render a cs k xs)
all_come P come render a cs k [] h = tt
all_come P come render a cs k (x ∷ xs) h =
    each_and P (come (record a { address = k ∷ a.address }) cs x.0 x.1) (if ends_list (render x.0 x.1) then [] else come_all come render a cs (suc k) xs)
    (h.0 k) (go (ends_list (render x.0 x.1)) (all_come P come render a cs (suc k) xs h.1))
  where
    go : (b : Bool) → Each P (come_all come render a cs (suc k) xs) → Each P (if b then [] else come_all come render a cs (suc k) xs)
    go true l = tt
    go false l = l

-- what holds of each place in a boundary's two lists
pub boundary_comes : (P : Coming → Type 0) (untouched waits : Bool) (primary second : List Coming) → (untouched ≡ false → Each P primary) → Each P second
    → Each P ((if untouched then [] else primary) ++ (if waits then second else []))
boundary_comes P true true primary second h k = k
boundary_comes P true false primary second h k = tt
boundary_comes P false true primary second h k = each_and P primary second (h refl) k
boundary_comes P false false primary second h k = each_and P primary [] (h refl) tt

-- the same of an error boundary, whose children are always tried
pub catcher_comes : (P : Coming → Type 0) (throws : Bool) (primary second : List Coming) → Each P primary → Each P second
    → Each P (primary ++ (if throws then second else []))
catcher_comes P throws primary second h k = boundary_comes P false throws primary second (λ _. h) k

-- Places

-- what is said of a place, unless nothing stands there
abbrev pub IfStands : Type 0 → Shape → Type 0
IfStands A absent = Unit {0}
IfStands A (waiting r v) = A
IfStands A (throwing x) = A
IfStands A (one_list m p) = A
IfStands A (two_lists p f) = A
IfStands A (guarded p f) = A

-- what holds in any case
pub stands_or_not : (A : Type 0) → A → (shape : Shape) → IfStands A shape
stands_or_not A h absent = tt
stands_or_not A h (waiting r v) = h
stands_or_not A h (throwing x) = h
stands_or_not A h (one_list m p) = h
stands_or_not A h (two_lists p f) = h
stands_or_not A h (guarded p f) = h

-- a fact of each new child beside its old node
abbrev pub OfPairs : (Element → Option Node → Type 0) → Type 0
OfPairs K = (old : Forest) (es : List Element) → Each (λ x. K x.0 x.1) (zip es (old_nodes old es))

-- each place where something stands beside such an old node
abbrev pub AtEach : (Element → Option Node → Type 0) → (Coming → Type 0) → Sight → Type 0
AtEach K P s = (a : Above) (cs : Contexts) (e : Element) (old : Option Node) → K e old → IfStands (P (coming_here s a cs e old)) (shape_of s cs e old)

module _ (K : Element → Option Node → Type 0) (pairs : OfPairs K) (P : Coming → Type 0) where
  part_each : (come : Comings) → ((a : Above) (cs : Contexts) (e : Element) (old : Option Node) → K e old → Each P (come a cs e old)) → (below : Contexts → Renders) (a : Above) (p : Part)
      → Each P (come_part come below a p)
  part_each come h below a p =
      all_come P come (below p.contexts) a p.contexts 0 (children_with_old p)
      (each_so (λ x. K x.0 x.1) (λ x. (j : ℕ) → Each P (come (record a { address = j ∷ a.address }) p.contexts x.0 x.1)) (λ x k j. h (record a { address = j ∷ a.address }) p.contexts x.0 x.1 k)
      (children_with_old p) (pairs p.old p.elements))

  shape_each : (come : Comings) → ((a : Above) (cs : Contexts) (e : Element) (old : Option Node) → K e old → Each P (come a cs e old)) → (below : Contexts → Renders) (s : Sight) (a : Above) (cs : Contexts) (e : Element) (old : Option Node) (shape : Shape)
      → IfStands (P (coming_here s a cs e old)) shape → Each P (come_shape come below s a cs e old shape)
  shape_each come h below s a cs e old absent here = tt
  shape_each come h below s a cs e old (waiting r v) here = (here, tt)
  shape_each come h below s a cs e old (throwing x) here = (here, tt)
  shape_each come h below s a cs e old (one_list m p) here = (here, part_each come h below (above_with a s cs e old (below_node a.flag e old)) p)
  shape_each come h below s a cs e old (two_lists p f) here =
      let b = above_with a s cs e old (below_node a.flag e old) in
      let c = above_with a s cs e old a.flag in (
        here,
        boundary_comes P (is_untouched s (stood a.flag) e old) (is_wait (render_part below p))
            (come_part come below (record b { address = 0 ∷ a.address }) p) (come_part come below (record c { address = 1 ∷ a.address }) f)
            (λ _. part_each come h below (record b { address = 0 ∷ a.address }) p) (part_each come h below (record c { address = 1 ∷ a.address }) f),
      )
  shape_each come h below s a cs e old (guarded p f) here =
      let b = above_with a s cs e old (below_node a.flag e old) in
      let c = above_with a s cs e old (once_caught a.flag) in (
        here,
        catcher_comes P (is_throw (render_part below p))
            (come_part come below (record b { address = 0 ∷ a.address }) p) (come_part come below (record c { address = 1 ∷ a.address }) f)
            (part_each come h below (record b { address = 0 ∷ a.address }) p) (part_each come h below (record c { address = 1 ∷ a.address }) f),
      )

  comings_each : (s : Sight) → AtEach K P s → (n : ℕ) (a : Above) (cs : Contexts) (e : Element) (old : Option Node) → K e old → Each P (comings n s a cs e old)
  unfolding comings
  comings_each s here zero a cs e old k = tt
  comings_each s here (suc n) a cs e old k = shape_each (comings n s) (comings_each s here n) (rendered n s) s a cs e old (shape_of s cs e old) (here a cs e old k)

  -- What holds of each place where something stands holds of all that a render comes to.
  pub whole_each : (s : Sight) (old : Option Node) → K (root_element s.program) old → AtEach K P s → Each P (whole_comings s old)
  unfolding whole_comings
  whole_each s old k here = comings_each s here depth_limit (record { address = []; below = false; flag = above_root }) (default_contexts s.program) (root_element s.program) old k

-- Nothing is wanted of a place.
pub any_pairs : OfPairs (λ e old. Unit {0})
any_pairs old es = go (zip es (old_nodes old es))
  where
    go : (xs : List (Element × Option Node)) → Each (λ x. Unit {0}) xs
    go [] = tt
    go (x ∷ xs) = (tt, go xs)
