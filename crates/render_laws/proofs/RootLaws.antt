-- Each tree that commits lead to has no more nodes than the bound.
use Rattle.std.specs.Prelude.{◌≡◌, ℕ, suc, ◌+◌, ◌≤◌, true, false, List, [], ◌∷◌, ◌++◌, Option, Some, None, refl}
use Rattle.std.proofs.Common.{arith, ap, sym, subst}
use Rattle.rx_ast.specs.Syntax.{Program}
use Rattle.rx_rules.specs.Names.{component_number, root_name}
use Rattle.rx_rules.specs.Bounds.{node_bound, component_levels}
use Rattle.rx_rules.specs.Versions.{node_limit}
use Rattle.rx_rules.proofs.Limits.{limits_nodes}
use Rattle.rx_elem.specs.Elements.{Element}
use Rattle.rx_elem.specs.Identity.{Identity, identities}
use Rattle.rx_elem.specs.Trees.{Node, node, Forest, none, vacant, child, elements_in}
use Rattle.rx_elem.specs.Spots.{at_root, node_count}
use Rattle.rx_elem.specs.Numbers.{Numbers, numbered, numbered_in, numbered_mark}
use Rattle.rx_meaning.specs.Fresh.{Sight, Contexts, Place, made, rendered, root_element, default_contexts, fresh, IsTree, none_yet, given}
use Rattle.render_laws.proofs.Plans.{Alts, nil, alt, Plan, no_plan, body_size, body_plan, body_total, alts_size}
use Rattle.render_laws.proofs.Coming.{Comes, here}
use Rattle.render_laws.proofs.Fitting.{allowed, Fits, FitsEach, FitsOld, plans_of}
use Rattle.render_laws.proofs.FitLists.{Result}
use Rattle.render_laws.proofs.FitRender.{IsPlain, rendered_fits}
use Rattle.render_laws.proofs.Room.{fits_count, spots_count}
use Rattle.rx_elem.proofs.Numbering.{numbered_element}

-- Numbers change nothing

numbered_elements : (c : Numbers) (ns : Forest) → elements_in (numbered_in c ns).1 ≡ elements_in ns
numbered_elements c none = refl
numbered_elements c (vacant ns) = ap (λ es. elements_in (vacant none) ++ es) (numbered_elements c ns)
numbered_elements c (child n ns) =
    let a = numbered_element c n in
    let b = numbered_elements (numbered c n).0 ns in
    cc

mutual
  numbered_fits : (a : Alts) (c : Numbers) (n : Node) → Fits a n → Fits a (numbered c n).1
  numbered_fits a c (node e m ns fs) h =
      let own = numbered_mark c m in
      let mid = (numbered_in own.0 ns).0 in (
        h.0,
        (
          h.1.0,
          h.1.1,
          subst (λ (es : List Element). FitsEach (plans_of true a) h.1.0 (identities es) (numbered_in own.0 ns).1) (sym (numbered_elements own.0 ns))
              (numbered_each (plans_of true a) h.1.0 (identities (elements_in ns)) own.0 ns h.1.2),
        ),
        (
          h.2.0,
          h.2.1,
          subst (λ (es : List Element). FitsEach (plans_of false a) h.2.0 (identities es) (numbered_in mid fs).1) (sym (numbered_elements mid fs))
              (numbered_each (plans_of false a) h.2.0 (identities (elements_in fs)) mid fs h.2.2),
        ),
      )

  numbered_each : (ps : List Plan) (us : List (List Identity)) (ids : List Identity) (c : Numbers) (ns : Forest)
      → FitsEach ps us ids ns → FitsEach ps us ids (numbered_in c ns).1
  numbered_each ps us ids c none h = h
  numbered_each ps us [] c (vacant ns) h = numbered_each ps us [] c ns h
  numbered_each ps us (i ∷ ids) c (vacant ns) h = numbered_each ps us ids c ns h
  numbered_each ps us [] c (child n ns) h = h
  numbered_each ps us (i ∷ ids) c (child n ns) h =
      (numbered_fits (allowed ps us i) c n h.0, numbered_each ps us ids (numbered c n).0 ns h.1)

-- The root

-- the root's only alternative, with so many levels
abbrev pub root_alts : ℕ → Program → Alts
root_alts n p = alt (body_plan n p (component_number p root_name) no_plan) no_plan nil

pub root_comes : (n : ℕ) (p : Program) → IsPlain p → Comes n p (root_alts n p) (root_element p)
root_comes n p plain = (n, no_plan, no_plan, omega arith, here, omega arith, tt, plain.1 root_name)

root_fits : (n : ℕ) (s : Sight) → IsPlain s.program → (cs : Contexts) (old : Option Node) → FitsOld (root_alts (suc n) s.program) old
    → Result (root_alts (suc n) s.program) (root_element s.program) (rendered (suc n) s cs (root_element s.program) old)
root_fits n s apart cs old fits = rendered_fits n s apart cs (root_alts (suc n) s.program) (root_element s.program) old (root_comes (suc n) s.program apart) fits

made_fits : (a : Alts) (e : Element) (r : Place) (n : Node) → Result a e r → r ≡ made n → Fits a n
made_fits a e r n h same = (subst (λ (x : Place). Result a e x) same h).0

gives_fits_at : (n : ℕ) (s : Sight) (p : Program) → s.program ≡ p → IsPlain p → (cs : Contexts) (old : Option Node) (new : Node)
    → FitsOld (root_alts (suc n) p) old → rendered (suc n) s cs (root_element s.program) old ≡ made new → Fits (root_alts (suc n) p) new
gives_fits_at n s p same apart cs old new fits g =
    subst (λ (q : Program). IsPlain q → FitsOld (root_alts (suc n) q) old → Fits (root_alts (suc n) q) new) same
    (λ a f. made_fits (root_alts (suc n) s.program) (root_element s.program) (rendered (suc n) s cs (root_element s.program) old) new
    (root_fits n s a cs old f) g) apart fits

-- what a render gives fits against an old tree that fits
pub gives_fits : (s : Sight) (p : Program) → s.program ≡ p → IsPlain p → (old : Option Node) (new : Node) → fresh s old ≡ made new → FitsOld (root_alts component_levels p) old
    → Fits (root_alts component_levels p) new
unfolding fresh
gives_fits s p same plain old new g fits = gives_fits_at 255 s p same plain (default_contexts s.program) old new fits g

-- a tree of the program fits
pub tree_fits : (p : Program) (old : Option Node) → IsPlain p → IsTree p old → FitsOld (root_alts component_levels p) old
tree_fits p old plain none_yet = tt
tree_fits p old plain (given s before n next same t g) =
    numbered_fits (root_alts component_levels p) next n (gives_fits s p same plain before n g (tree_fits p before plain t))

pub root_size : (n : ℕ) (p : Program) → alts_size (root_alts n p) ≡ 1 + (body_size n p (component_number p root_name)).own
root_size n p = omega (arith, body_total n p (component_number p root_name) no_plan)

fits_bounded : (n : ℕ) (p : Program) (bound : ℕ) → 1 + (body_size n p (component_number p root_name)).own ≤ bound
    → (new : Node) → Fits (root_alts n p) new → node_count (Some new) ≤ bound
fits_bounded n p bound h new fits = omega (arith, spots_count at_root new, fits_count (root_alts n p) new fits, root_size n p)

-- The bound, if it is within the limit, is not held.
pub bound_is_own : (p : Program) → node_bound p ≤ node_limit p → 1 + (body_size component_levels p (component_number p root_name)).own ≤ node_bound p
unfolding node_bound
bound_is_own p h = omega (arith, limits_nodes p)

-- What a render gives against a tree of the program has no more nodes than the bound.
pub given_bounded : (s : Sight) (p : Program) → s.program ≡ p → IsPlain p → node_bound p ≤ node_limit p → (old : Option Node) → IsTree p old → (new : Node) → fresh s old ≡ made new
    → node_count (Some new) ≤ node_bound p
given_bounded s p same plain small old t new g =
    fits_bounded component_levels p (node_bound p) (bound_is_own p small) new (gives_fits s p same plain old new g (tree_fits p old plain t))

-- A tree of the program has no more nodes than the bound.
pub tree_bounded : (p : Program) → IsPlain p → node_bound p ≤ node_limit p → (tree : Option Node) → IsTree p tree → node_count tree ≤ node_bound p
tree_bounded p plain small tree t = go tree (tree_fits p tree plain t)
  where
    go : (tree : Option Node) → FitsOld (root_alts component_levels p) tree → node_count tree ≤ node_bound p
    go None h = omega arith
    go (Some n) h = fits_bounded component_levels p (node_bound p) (bound_is_own p small) n h
