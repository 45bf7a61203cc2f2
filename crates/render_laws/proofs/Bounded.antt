-- The bound on nodes: of trees, of what renders give and begin, and of their units.
use Rattle.std.specs.Prelude.{◌≡◌, ◌⊎◌, ℕ, ◌*◌, ◌≤◌, Option, Some, None, length}
use Rattle.std.proofs.Common.{arith, inl, inr, sym, subst, ◌∙◌}
use Rattle.rx_ast.specs.Syntax.{Program}
use Rattle.rx_rules.specs.Names.{component_at}
use Rattle.rx_rules.specs.Bounds.{node_bound}
use Rattle.rx_rules.specs.Versions.{node_limit}
use Rattle.rx_elem.specs.Trees.{Node}
use Rattle.rx_elem.specs.Spots.{node_count}
use Rattle.rx_meaning.specs.Fresh.{Sight, empty, made, fresh, IsTree, none_yet, given}
use Rattle.rx_meaning.specs.Touched.{visits}
use Rattle.rx_rules.specs.Keys.{KeysApart}
use Rattle.rx_meaning.specs.Counts.{each_unit, each_begun, whole}
use Rattle.render_laws.proofs.FitRender.{IsPlain}
use Rattle.render_laws.proofs.RootLaws.{given_bounded, tree_bounded}
use Rattle.render_laws.proofs.TryLaw.{begun_with, begun_bounded}
use Rattle.render_laws.proofs.UnitBound.{units_twice_begun}
use Rattle.render_laws.proofs.VisitCounts.{places_are_visits}
use Rattle.render_laws.proofs.Declared.{plain_or_empty, empty_gives, empty_begins, root_counts}

with_bound : (m : ℕ) → m ≤ 1 → (s : Sight) → node_bound s.program ≤ node_limit s.program → (old : Option Node)
    → IsPlain s.program ⊎ ((c : ℕ) → component_at s.program c ≡ None) → whole (begun_with m) s old ≤ node_bound s.program
with_bound m one s small old (inl plain) = begun_bounded m one s plain small old
with_bound m one s small old (inr none) = omega (arith, one, empty_begins m s none old, root_counts s.program)

-- A render begins no more places than the bound.
pub begun_within : (s : Sight) → KeysApart s.program → node_bound s.program ≤ node_limit s.program → (old : Option Node) → whole each_begun s old ≤ node_bound s.program
begun_within s apart small old = with_bound 1 (omega arith) s small old (plain_or_empty s.program apart)

-- It comes to no more places either.
pub visits_within : (s : Sight) → KeysApart s.program → node_bound s.program ≤ node_limit s.program → (old : Option Node) → length (visits s old) ≤ node_bound s.program
visits_within s apart small old =
    omega (arith, places_are_visits s old, with_bound 0 (omega arith) s small old (plain_or_empty s.program apart))

-- A render takes at most two units for each node that the bound allows.
pub units_within : (s : Sight) → KeysApart s.program → node_bound s.program ≤ node_limit s.program → (old : Option Node) → whole each_unit s old ≤ 2 * node_bound s.program
units_within s apart small old = omega (arith, units_twice_begun s old, begun_within s apart small old)

not_made : (n : Node) → empty ≡ made n → ⊥
not_made n h = cc

none_made : (s : Sight) (p : Program) → s.program ≡ p → ((c : ℕ) → component_at p c ≡ None) → (old : Option Node) (n : Node) → fresh s old ≡ made n → ⊥
none_made s p same none old n h =
    not_made n (sym (empty_gives s (subst (λ (q : Program). (c : ℕ) → component_at q c ≡ None) (sym same) none) old) ∙ h)

-- What a render gives against a tree of the program has no more nodes than the bound.
pub given_within : (s : Sight) (p : Program) → s.program ≡ p → KeysApart p → node_bound p ≤ node_limit p → (old : Option Node) → IsTree p old → (new : Node) → fresh s old ≡ made new
    → node_count (Some new) ≤ node_bound p
given_within s p same apart small old t new h = go (plain_or_empty p apart)
  where
    go : IsPlain p ⊎ ((c : ℕ) → component_at p c ≡ None) → node_count (Some new) ≤ node_bound p
    go (inl plain) = given_bounded s p same plain small old t new h
    go (inr none) = absurd (none_made s p same none old new h)

-- A tree of the program has no more nodes than the bound.
pub tree_within : (p : Program) → KeysApart p → node_bound p ≤ node_limit p → (tree : Option Node) → IsTree p tree → node_count tree ≤ node_bound p
tree_within p apart small tree t = go (plain_or_empty p apart) tree t
  where
    go : IsPlain p ⊎ ((c : ℕ) → component_at p c ≡ None) → (tree : Option Node) → IsTree p tree → node_count tree ≤ node_bound p
    go (inl plain) tree t = tree_bounded p plain small tree t
    go (inr none) tree none_yet = omega arith
    go (inr none) tree (given s old n next same t h) = absurd (none_made s p same none old n h)
