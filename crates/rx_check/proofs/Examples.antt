-- Two programs on which readings of the checks differ.
use Rattle.std.proofs.Common.{◌≡◌, true, false, List, [], ◌∷◌, Some, None, refl}
use Rattle.std.specs.Prelude.{codes}
use Rattle.rx_ast.specs.Syntax as syntax
use Rattle.rx_ast.specs.Syntax.{Program, Component, Parameter, Statement, Slot}
use Rattle.rx_base.specs.Values.{Name}
use Rattle.rx_rules.specs.Bounds.{node_bound, depth_bound}
use Rattle.rx_mentions.specs.Mentions.{mentions}
use Rattle.rx_order.specs.Graphs.{leads_to}
use Rattle.rx_figures.specs.Costs.{declaration_cost, function_cost}
use Rattle.rx_rules.specs.Bounds.{body_by}
use Rattle.rx_check.specs.Refusals.{refusal_of}
use Rattle.rx_check.specs.declared.refusal.Refusal.TheVariants as refusal

-- a component that returns one slot
abbrev component : Name → List Parameter → List Statement → Slot → syntax.Declaration
component name parameters statements body =
    syntax.of_component (record { name = name; memo = false; braces = true; parameters = parameters; statements = statements; body = syntax.single body })

-- an element without attributes around these
abbrev around : Slot → syntax.Slots → Slot
around s ss = syntax.host (codes "p") [] syntax.by_tag (syntax.slot s ss)

-- function Z({p, children}) { return <p>{p ? null : p ? null : <i key={1}/>}<b key={2}/></p>; } function App() { return null; }
abbrev key_in_earlier_branch : Program
key_in_earlier_branch = record {
  second = false;
  declarations =
      component (codes "Z") (syntax.integer (codes "p") ∷ syntax.given_children ∷ []) []
      (around
      (syntax.choice (syntax.variable (codes "p")) syntax.null
      (syntax.choice (syntax.variable (codes "p")) syntax.null (syntax.host (codes "i") (syntax.key (syntax.number 1) ∷ []) syntax.at_once syntax.no_slots)))
      (syntax.slot (syntax.host (codes "b") (syntax.key (syntax.number 2) ∷ []) syntax.at_once syntax.no_slots) syntax.no_slots))
      ∷ component (codes "App") [] [] syntax.null
      ∷ [];
}

-- a key in a branch within a branch is one of its place
pub second_key : refusal_of key_in_earlier_branch ≡ Some (refusal.Duplicate (codes "key"))
unfolding refusal_of mentions
second_key = refl

-- function W() { const u = use("r"); return null; } function H({children}) { return null; }
-- function F({children}) { return <H>{children}</H>; } function App() { return <F><W/></F>; }
abbrev dropped_children : Program
dropped_children = record {
  second = false;
  declarations =
      component (codes "W") [] (syntax.use_resource (codes "u") (codes "r") ∷ []) syntax.null
      ∷ component (codes "H") (syntax.given_children ∷ []) [] syntax.null
      ∷ component (codes "F") (syntax.given_children ∷ []) [] (syntax.comp (codes "H") [] syntax.by_tag (syntax.slot syntax.children syntax.no_slots))
      ∷ component (codes "App") [] []
      (syntax.comp (codes "F") [] syntax.by_tag (syntax.slot (syntax.comp (codes "W") [] syntax.at_once syntax.no_slots) syntax.no_slots))
      ∷ [];
}

-- children that are not placed make nothing wait
pub accepted_children : refusal_of dropped_children ≡ None
unfolding refusal_of mentions leads_to node_bound depth_bound body_by declaration_cost function_cost
accepted_children = refl

pub three_nodes : node_bound dropped_children ≡ 3
unfolding node_bound body_by
three_nodes = refl

pub five_levels : depth_bound dropped_children ≡ 5
unfolding depth_bound body_by
five_levels = refl
