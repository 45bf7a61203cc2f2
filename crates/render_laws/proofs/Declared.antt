-- Each component that an element names is declared, or the program has no component and renders nothing.
use Rattle.std.specs.Prelude.{◌≡◌, ◌⊎◌, ℕ, zero, suc, ◌<◌, ◌≤◌, true, List, [], ◌∷◌, map, Option, Some, None, is_some, length, position, slice_get, unwrap_or, bytes_eq, refl}
use Rattle.std.proofs.Common.{arith, inl, inr}
use Rattle.std.proofs.lemmas.List.{length-map}
use Rattle.std.proofs.lemmas.List.Quantifiers.{position-Some}
use Rattle.rx_base.specs.Values.{Name}
use Rattle.rx_ast.specs.Syntax.{Program, Component, components}
use Rattle.rx_rules.specs.Names.{component_number, component_at, root_name}
use Rattle.rx_rules.specs.Bounds.{node_bound}
use Rattle.rx_elem.specs.Trees.{Node}
use Rattle.rx_meaning.specs.Fresh.{Sight, empty, rendered, fresh, root_element, default_contexts}
use Rattle.rx_rules.specs.Keys.{KeysApart}
use Rattle.rx_meaning.specs.Counts.{whole, counted}
use Rattle.render_laws.proofs.Coming.{IsDeclared}
use Rattle.render_laws.proofs.FitRender.{IsPlain}
use Rattle.render_laws.proofs.TryLaw.{begun_with}

there_at : (xs : List Component) (k : ℕ) → k < length xs → is_some (slice_get xs k) ≡ true
there_at [] k h = absurd (omega arith)
there_at (x ∷ xs) zero h = refl
there_at (x ∷ xs) (suc k) h = there_at xs k (omega arith)

-- a number among the names of components is that of one
number_there : (x : Component) (xs : List Component) (name : Name)
    → is_some (slice_get (x ∷ xs) (unwrap_or (position (bytes_eq name) (map (λ c. c.name) (x ∷ xs))) 0)) ≡ true
number_there x xs name = go (position (bytes_eq name) (map (λ c. c.name) (x ∷ xs))) refl
  where
    go : (i : Option ℕ) → position (bytes_eq name) (map (λ c. c.name) (x ∷ xs)) ≡ i → is_some (slice_get (x ∷ xs) (unwrap_or i 0)) ≡ true
    go None same = refl
    go (Some k) same =
        let at = position-Some (bytes_eq name) (map (λ c. c.name) (x ∷ xs)) k [] same in
        there_at (x ∷ xs) k (omega (arith, at.0, length-map (x ∷ xs) (λ c. c.name)))

-- a program that has a component has one for each number that a name gets
all_declared : (p : Program) (x : Component) (xs : List Component) → components p ≡ x ∷ xs → (name : Name) → IsDeclared p (component_number p name)
all_declared p x xs same name = rw same (number_there x xs name)

-- keys stand apart in a program, which has a component or none
pub plain_or_empty : (p : Program) → KeysApart p → IsPlain p ⊎ ((c : ℕ) → component_at p c ≡ None)
plain_or_empty p apart = go (components p) refl
  where
    go : (xs : List Component) → components p ≡ xs → IsPlain p ⊎ ((c : ℕ) → component_at p c ≡ None)
    go [] same = inr (λ c. rw same refl)
    go (x ∷ xs) same = inl (apart, all_declared p x xs same)

nothing_at : (n : ℕ) (s : Sight) (old : Option Node) → component_at s.program (component_number s.program root_name) ≡ None
    → rendered (suc n) s (default_contexts s.program) (root_element s.program) old ≡ empty
unfolding rendered
nothing_at n s old h = rw h refl

-- a program without a component renders nothing
pub empty_gives : (s : Sight) → ((c : ℕ) → component_at s.program c ≡ None) → (old : Option Node) → fresh s old ≡ empty
unfolding fresh
empty_gives s none old = nothing_at 255 s old (none (component_number s.program root_name))

one_at : (m n : ℕ) (s : Sight) (old : Option Node) → component_at s.program (component_number s.program root_name) ≡ None
    → counted (begun_with m) (suc n) s (default_contexts s.program) (root_element s.program) old ≡ m
unfolding counted
one_at m n s old h = rw h refl

-- it begins one place at most
pub empty_begins : (m : ℕ) (s : Sight) → ((c : ℕ) → component_at s.program c ≡ None) → (old : Option Node) → whole (begun_with m) s old ≡ m
unfolding whole
empty_begins m s none old = one_at m 255 s old (none (component_number s.program root_name))

-- the bound counts the root
pub root_counts : (p : Program) → 1 ≤ node_bound p
unfolding node_bound
root_counts p = omega arith
