-- A render comes to no place twice.
use Rattle.std.specs.Prelude.{◌≡◌, ℕ, zero, suc, ◌≤◌, Bool, true, false, List, [], ◌∷◌, ◌++◌, Option, filter, length, map, refl, if◌then◌else◌}
use Rattle.std.proofs.Common.{ap, append_assoc, arith, length-append, sym, ◌∙◌}
use Rattle.rx_elem.specs.Elements.{Element}
use Rattle.rx_elem.specs.Trees.{Node}
use Rattle.rx_meaning.specs.Fresh.{Sight, Contexts, Renders, default_contexts, depth_limit, rendered, root_element, Part, Shape, absent, waiting, throwing, one_list, two_lists, guarded, render_part, shape_of}
use Rattle.rx_meaning.specs.Touched.{Address, children_with_old, ends_list, is_throw, is_wait}
use Rattle.cost_laws.specs.Evaluated.{above_root, below_node, once_caught, stood}
use Rattle.cost_laws.specs.Places.{Above, AllApart, Coming, Comings, above_with, come_all, come_part, come_shape, coming_here, comings, evaluated_places, whole_comings}
use Rattle.cost_laws.specs.Untouched.{is_untouched}
use Rattle.cost_laws.proofs.Each.{Each, all_of, each_and, each_kept, each_so}

-- Addresses

-- a place lies at or below one with this address
pub record IsBelow (a b : Address) : Type 0 where
  pub way : Address
  pub is : b ≡ way ++ a

deeper : (k : ℕ) (a b : Address) → IsBelow (k ∷ a) b → IsBelow a b
deeper k a b h = record { way = h.way ++ k ∷ []; is = h.is ∙ sym (append_assoc h.way (k ∷ []) a) }

not_longer : (a : Address) (q : Address) (k : ℕ) → a ≡ q ++ k ∷ a → ⊥
not_longer a q k h = absurd (omega (arith, ap length h, length-append q (k ∷ a)))

one_child : (a q r : Address) (j k : ℕ) → q ++ j ∷ a ≡ r ++ k ∷ a → j ≡ k
one_child a [] [] j k h = cc h
one_child a [] (x ∷ r) j k h = let rest : a ≡ r ++ k ∷ a = cc h in absurd (not_longer a r k rest)
one_child a (x ∷ q) [] j k h = let rest : q ++ j ∷ a ≡ a = cc h in absurd (not_longer a q j (sym rest))
one_child a (x ∷ q) (y ∷ r) j k h = let rest : q ++ j ∷ a ≡ r ++ k ∷ a = cc h in one_child a q r j k rest

below_one_child : (a b : Address) (j k : ℕ) → IsBelow (j ∷ a) b → IsBelow (k ∷ a) b → j ≡ k
below_one_child a b j k h l = one_child a h.way l.way j k (sym h.is ∙ l.is)

-- Lists of places

-- no two of these places have one address
abbrev Apart : List Coming → Type 0
Apart [] = Unit {0}
Apart (v ∷ vs) = Each (λ w. v.address ≡ w.address → ⊥) vs × Apart vs

apart_and : (vs ws : List Coming) → Apart vs → Apart ws → Each (λ v. Each (λ w. v.address ≡ w.address → ⊥) ws) vs → Apart (vs ++ ws)
apart_and [] ws h k between = k
apart_and (v ∷ vs) ws h k between =
    (each_and (λ w. v.address ≡ w.address → ⊥) vs ws h.0 between.0, apart_and vs ws h.1 k between.1)

between_lists : (P Q : Coming → Type 0) → ((v w : Coming) → P v → Q w → v.address ≡ w.address → ⊥) → (vs ws : List Coming) → Each P vs → Each Q ws
    → Each (λ v. Each (λ w. v.address ≡ w.address → ⊥) ws) vs
between_lists P Q apart vs ws h k = each_so P (λ v. Each (λ w. v.address ≡ w.address → ⊥) ws) (λ v p. each_so Q (λ w. v.address ≡ w.address → ⊥) (λ w. apart v w p) ws k) vs h

-- a place lies below a child with this number or a later one
pub record IsBelowChild (a : Address) (from : ℕ) (v : Coming) : Type 0 where
  pub place : ℕ
  pub late : from ≤ place
  pub below : IsBelow (place ∷ a) v.address

later_child : (a : Address) (k : ℕ) (v : Coming) → IsBelowChild a (suc k) v → IsBelowChild a k v
later_child a k v h = record { place = h.place; late = omega (arith, h.late); below = h.below }

child_apart : (a : Address) (k : ℕ) (v w : Coming) → IsBelow (k ∷ a) v.address → IsBelowChild a (suc k) w → v.address ≡ w.address → ⊥
child_apart a k v w h l same =
    let there : IsBelow (k ∷ a) w.address = record { way = h.way; is = sym same ∙ h.is } in
    let one : k ≡ l.place = below_one_child a w.address k l.place there l.below in
    absurd (omega (arith, one, l.late))

here_apart : (a : Address) (k : ℕ) (w : Coming) → IsBelowChild a k w → a ≡ w.address → ⊥
here_apart a k w h same = not_longer a h.below.way h.place (same ∙ h.below.is)

-- what a place and those below it come to is apart, and lies below it
abbrev IsOnce : Comings → Type 0
IsOnce come = (a : Above) (cs : Contexts) (e : Element) (old : Option Node) → Apart (come a cs e old) × Each (λ v. IsBelow a.address v.address) (come a cs e old)

none_if : (P : List Coming → Type 0) → P [] → (b : Bool) (vs : List Coming) → P vs → P (if b then [] else vs)
none_if P none true vs h = none
none_if P none false vs h = h

some_if : (P : List Coming → Type 0) → P [] → (b : Bool) (vs : List Coming) → P vs → P (if b then vs else [])
some_if P none true vs h = h
some_if P none false vs h = none

all_once : (come : Comings) → IsOnce come → (render : Renders) (a : Above) (cs : Contexts) (k : ℕ) (xs : List (Element × Option Node))
    → Apart (come_all come render a cs k xs) × Each (IsBelowChild a.address k) (come_all come render a cs k xs)
all_once come once render a cs k [] = (tt, tt)
all_once come once render a cs k (x ∷ xs) =
    let first = come (record a { address = k ∷ a.address }) cs x.0 x.1 in
    let rest = if ends_list (render x.0 x.1) then [] else come_all come render a cs (suc k) xs in
    let here = once (record a { address = k ∷ a.address }) cs x.0 x.1 in
    let there : Apart rest × Each (IsBelowChild a.address (suc k)) rest =
    none_if (λ vs. Apart vs × Each (IsBelowChild a.address (suc k)) vs) (tt, tt) (ends_list (render x.0 x.1)) (come_all come render a cs (suc k) xs) (all_once come once render a cs (suc k) xs)
    in (
      apart_and first rest here.0 there.0
          (between_lists (λ v. IsBelow (k ∷ a.address) v.address) (IsBelowChild a.address (suc k)) (child_apart a.address k) first rest here.1 there.1),
      each_and (IsBelowChild a.address k) first rest
          (each_so (λ v. IsBelow (k ∷ a.address) v.address) (IsBelowChild a.address k) (λ v h. record { place = k; late = omega arith; below = h }) first here.1)
          (each_so (IsBelowChild a.address (suc k)) (IsBelowChild a.address k) (later_child a.address k) rest there.1),
    )

part_once : (come : Comings) → IsOnce come → (below : Contexts → Renders) (a : Above) (p : Part) → Apart (come_part come below a p) × Each (IsBelowChild a.address 0) (come_part come below a p)
part_once come once below a p = all_once come once (below p.contexts) a p.contexts 0 (children_with_old p)

-- a place itself, with what lies below its children
with_children : (a : Address) (v : Coming) (vs : List Coming) → v.address ≡ a → Apart vs → Each (IsBelowChild a 0) vs
    → Apart (v ∷ vs) × Each (λ w. IsBelow a w.address) (v ∷ vs)
with_children a v vs here apart below = (
  (each_so (IsBelowChild a 0) (λ w. v.address ≡ w.address → ⊥) (λ w h same. here_apart a 0 w h (sym here ∙ same)) vs below, apart),
  (record { way = []; is = here }, each_so (IsBelowChild a 0) (λ w. IsBelow a w.address) (λ w h. deeper h.place a w.address h.below) vs below),
)

-- below a list of a boundary
in_list : (a : Address) (k : ℕ) (vs : List Coming) → Each (IsBelowChild (k ∷ a) 0) vs → Each (λ v. IsBelow (k ∷ a) v.address) vs
in_list a k vs h = each_so (IsBelowChild (k ∷ a) 0) (λ v. IsBelow (k ∷ a) v.address) (λ v l. deeper l.place (k ∷ a) v.address l.below) vs h

two_apart : (a : Address) (vs ws : List Coming) → Apart vs × Each (λ v. IsBelow (0 ∷ a) v.address) vs → Apart ws × Each (λ v. IsBelow (1 ∷ a) v.address) ws
    → Apart (vs ++ ws) × Each (IsBelowChild a 0) (vs ++ ws)
two_apart a vs ws h k = (
  apart_and vs ws h.0 k.0
      (between_lists (λ v. IsBelow (0 ∷ a) v.address) (IsBelowChild a 1) (child_apart a 0) vs ws h.1
      (each_so (λ v. IsBelow (1 ∷ a) v.address) (IsBelowChild a 1) (λ v l. record { place = 1; late = omega arith; below = l }) ws k.1)),
  each_and (IsBelowChild a 0) vs ws
      (each_so (λ v. IsBelow (0 ∷ a) v.address) (IsBelowChild a 0) (λ v l. record { place = 0; late = omega arith; below = l }) vs h.1)
      (each_so (λ v. IsBelow (1 ∷ a) v.address) (IsBelowChild a 0) (λ v l. record { place = 1; late = omega arith; below = l }) ws k.1),
)

shape_once : (come : Comings) → IsOnce come → (below : Contexts → Renders) (s : Sight) (a : Above) (cs : Contexts) (e : Element) (old : Option Node) (shape : Shape)
    → Apart (come_shape come below s a cs e old shape) × Each (λ v. IsBelow a.address v.address) (come_shape come below s a cs e old shape)
shape_once come once below s a cs e old absent = (tt, tt)
shape_once come once below s a cs e old (waiting r v) = with_children a.address (coming_here s a cs e old) [] refl tt tt
shape_once come once below s a cs e old (throwing x) = with_children a.address (coming_here s a cs e old) [] refl tt tt
shape_once come once below s a cs e old (one_list m p) =
    let b = above_with a s cs e old (below_node a.flag e old) in
    let part = part_once come once below b p in
    with_children a.address (coming_here s a cs e old) (come_part come below b p) refl part.0 part.1
shape_once come once below s a cs e old (two_lists p f) =
    let b = above_with a s cs e old (below_node a.flag e old) in
    let c = above_with a s cs e old a.flag in
    let primary = come_part come below (record b { address = 0 ∷ a.address }) p in
    let second = come_part come below (record c { address = 1 ∷ a.address }) f in
    let tried = if is_untouched s (stood a.flag) e old then [] else primary in
    let fallen = if is_wait (render_part below p) then second else [] in
    let first = part_once come once below (record b { address = 0 ∷ a.address }) p in
    let next = part_once come once below (record c { address = 1 ∷ a.address }) f in
    let left : Apart tried × Each (λ v. IsBelow (0 ∷ a.address) v.address) tried =
    none_if (λ vs. Apart vs × Each (λ v. IsBelow (0 ∷ a.address) v.address) vs) (tt, tt) (is_untouched s (stood a.flag) e old) primary (first.0, in_list a.address 0 primary first.1)
    in
    let right : Apart fallen × Each (λ v. IsBelow (1 ∷ a.address) v.address) fallen =
    some_if (λ vs. Apart vs × Each (λ v. IsBelow (1 ∷ a.address) v.address) vs) (tt, tt) (is_wait (render_part below p)) second (next.0, in_list a.address 1 second next.1)
    in
    let both = two_apart a.address tried fallen left right in
    with_children a.address (coming_here s a cs e old) (tried ++ fallen) refl both.0 both.1
shape_once come once below s a cs e old (guarded p f) =
    let b = above_with a s cs e old (below_node a.flag e old) in
    let c = above_with a s cs e old (once_caught a.flag) in
    let primary = come_part come below (record b { address = 0 ∷ a.address }) p in
    let second = come_part come below (record c { address = 1 ∷ a.address }) f in
    let fallen = if is_throw (render_part below p) then second else [] in
    let first = part_once come once below (record b { address = 0 ∷ a.address }) p in
    let next = part_once come once below (record c { address = 1 ∷ a.address }) f in
    let right : Apart fallen × Each (λ v. IsBelow (1 ∷ a.address) v.address) fallen =
    some_if (λ vs. Apart vs × Each (λ v. IsBelow (1 ∷ a.address) v.address) vs) (tt, tt) (is_throw (render_part below p)) second (next.0, in_list a.address 1 second next.1)
    in
    let both = two_apart a.address primary fallen (first.0, in_list a.address 0 primary first.1) right in
    with_children a.address (coming_here s a cs e old) (primary ++ fallen) refl both.0 both.1

comings_once : (n : ℕ) (s : Sight) → IsOnce (comings n s)
unfolding comings
comings_once zero s a cs e old = (tt, tt)
comings_once (suc n) s a cs e old = shape_once (comings n s) (comings_once n s) (rendered n s) s a cs e old (shape_of s cs e old)

apart_kept : (test : Coming → Bool) (vs : List Coming) → Apart vs → Apart (filter test vs)
apart_kept test [] h = tt
apart_kept test (v ∷ vs) h = go (test v) (apart_kept test vs h.1)
  where
    go : (b : Bool) → Apart (filter test vs) → Apart (if b then v ∷ filter test vs else filter test vs)
    go true k = (each_kept (λ w. v.address ≡ w.address → ⊥) test vs h.0, k)
    go false k = k

of_addresses : (P : Address → Type 0) (vs : List Coming) → Each (λ v. P v.address) vs → Each P (map (λ v. v.address) vs)
of_addresses P [] h = tt
of_addresses P (v ∷ vs) h = (h.0, of_addresses P vs h.1)

apart_addresses : (vs : List Coming) → Apart vs → AllApart (map (λ v. v.address) vs)
apart_addresses [] h = tt
apart_addresses (v ∷ vs) h =
    (all_of (λ b. v.address ≡ b → ⊥) (map (λ w. w.address) vs) (of_addresses (λ b. v.address ≡ b → ⊥) vs h.0), apart_addresses vs h.1)

-- The places whose bodies are evaluated are all different.
pub places_once : (s : Sight) (old : Option Node) → AllApart (evaluated_places s old)
unfolding whole_comings
places_once s old =
    apart_addresses (filter (λ v. v.evaluated) (whole_comings s old))
    (apart_kept (λ v. v.evaluated) (whole_comings s old)
    (comings_once depth_limit s (record { address = []; below = false; flag = above_root }) (default_contexts s.program) (root_element s.program) old).0)
