-- Why a program is refused.
use Rattle.std.specs.Prelude.{List, [], ◌∷◌, Option, Some, None, option_map, cond}
use Rattle.rx_base.specs.Values.{Name}
use Rattle.rx_ast.specs.Syntax.{Program}
use Rattle.rx_order.specs.Graphs.{first}
use Rattle.rx_check.specs.Limits.{limit_of}
use Rattle.rx_check.specs.Checks.{repeats, unknowns, misfits, function_cycles, component_cycles, outside_uses, outside_throws, is_rooted, count_over, nodes_over}
use Rattle.rx_figures.specs.Costs.{cost_over}
use Rattle.rx_mentions.specs.declared.count.Count.{Count}
use Rattle.rx_mentions.specs.declared.count.Count.TheVariants as count
use Rattle.rx_check.specs.declared.refusal.Refusal.{Refusal}
use Rattle.rx_check.specs.declared.refusal.Refusal.TheVariants as refusal

-- the first that there is
abbrev pub first_some : {A : Type 0} → List (Option A) → Option A
first_some [] = None
first_some (None ∷ os) = first_some os
first_some (Some x ∷ os) = Some x

-- what is refused with a name: the first of these
abbrev pub refused_name : (Name → Refusal) → List Name → Option Refusal
refused_name told names = option_map told (first names)

-- what is refused for a count over its limit
abbrev pub refused_count : Program → Count → Option Refusal
refused_count p w = option_map (λ n. refusal.Count w n (limit_of p w)) (count_over p w)

-- what is refused for the root
abbrev pub refused_root : Program → Option Refusal
refused_root p = cond (is_rooted p) None (Some refusal.NoApp)

-- the checks of names
abbrev pub name_refusals : Program → List (Option Refusal)
name_refusals p =
    refused_name refusal.Duplicate (repeats p)
    ∷ refused_name refusal.Unknown (unknowns p)
    ∷ refused_name refusal.Arity (misfits p)
    ∷ []

-- the checks of cycles, of resources and throws outside of a boundary, and of the root
abbrev pub way_refusals : Program → List (Option Refusal)
way_refusals p =
    refused_name refusal.FunctionCycle (function_cycles p)
    ∷ refused_name refusal.ComponentCycle (component_cycles p)
    ∷ refused_name refusal.UseOutside (outside_uses p)
    ∷ refused_name refusal.ThrowOutside (outside_throws p)
    ∷ refused_root p
    ∷ []

-- the checks of counts
abbrev pub count_refusals : Program → List (Option Refusal)
count_refusals p =
    refused_count p count.Name
    ∷ refused_count p count.Text
    ∷ refused_count p count.Declarations
    ∷ refused_count p count.Parameters
    ∷ refused_count p count.Statements
    ∷ refused_count p count.Attributes
    ∷ refused_count p count.Dependencies
    ∷ refused_count p count.List
    ∷ refused_count p count.Resources
    ∷ refused_count p count.Depth
    ∷ []

-- the checks of nodes and costs
abbrev pub size_refusals : Program → List (Option Refusal)
size_refusals p = option_map refusal.TreeBound (nodes_over p) ∷ option_map refusal.Cost (cost_over p) ∷ []

-- all checks in their order
abbrev pub refusals : Program → List (Option Refusal)
refusals p =
    first_some (name_refusals p) ∷ first_some (way_refusals p) ∷ first_some (count_refusals p) ∷ first_some (size_refusals p) ∷ []

-- the refusal of a program, if it is refused: that of the first check that refuses it
unfoldable pub refusal_of : Program → Option Refusal
refusal_of p = first_some (refusals p)
