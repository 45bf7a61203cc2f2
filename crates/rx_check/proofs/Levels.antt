-- If declarations are few, no component nests deeper than the greatest number of levels.
use Rattle.std.proofs.Common.{◌≡◌, ◌≤◌, None, ap, ◌∙◌, arith, length}
use Rattle.rx_ast.specs.Syntax.{Program, as_component}
use Rattle.rx_rules.specs.Names.{component_number, root_name}
use Rattle.rx_rules.specs.Bounds.{body_by, component_levels, node_bound, depth_bound}
use Rattle.rx_mentions.specs.declared.count.Count.TheVariants as count
use Rattle.rx_figures.specs.Costs.{held_sum}
use Rattle.rx_figures.specs.Figures.{figures, nesting_levels}
use Rattle.rx_figures.specs.declared.figures.Figures.{Figures}
use Rattle.rx_figures.proofs.Figured.{bound-figured, depth-figured}
use Rattle.rx_check.specs.Refusals.{first_some, count_refusals}
use Rattle.rx_check.proofs.Accepting.{counts-none, not-over}
use Rattle.rx_check.proofs.Limited.{fewer}

levels-few : (p : Program) → length p.declarations ≤ 256 → nesting_levels p ≡ component_levels
levels-few p h = omega (arith, h, fewer as_component p.declarations)

-- the declarations are few if no count is refused
pub few-declared : (p : Program) → first_some (count_refusals p) ≡ None → length p.declarations ≤ 256
few-declared p h = not-over 256 (length p.declarations) (counts-none p h count.Declarations)

-- the node bound from the figures of the root
pub nodes-known : (p : Program) (f : Figures) → f ≡ body_by (figures p) (nesting_levels p) p (component_number p root_name) → length p.declarations ≤ 256 → held_sum 1 f.own ≡ node_bound p
nodes-known p f e h =
    ap (λ g. held_sum 1 g.own) e
    ∙ (ap (λ n. held_sum 1 (body_by (figures p) n p (component_number p root_name)).own) (levels-few p h) ∙ bound-figured p)

-- and the depth bound
pub depth-known : (p : Program) (f : Figures) → f ≡ body_by (figures p) (nesting_levels p) p (component_number p root_name) → length p.declarations ≤ 256 → held_sum 1 f.levels ≡ depth_bound p
depth-known p f e h =
    ap (λ g. held_sum 1 g.levels) e
    ∙ (ap (λ n. held_sum 1 (body_by (figures p) n p (component_number p root_name)).levels) (levels-few p h) ∙ depth-figured p)
