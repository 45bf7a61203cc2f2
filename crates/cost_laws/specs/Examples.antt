-- Renders of three programs whose components are given equal props and children again.
use Rattle.std.specs.Prelude.{true, false, pos, [], ◌∷◌, codes}
use Rattle.rx_lane.specs.Lanes.{Lanes, one}
use Rattle.rx_lane.specs.declared.lane.Lane.TheVariants as lane
use Rattle.rx_ast.specs.declared.expr.Operator.TheVariants as operator
use Rattle.rx_ast.specs.Syntax.{number, variable, chain, link, no_links, host, comp, provider, unkeyed, at_once, by_tag, braces, enclosed, number_of, repeated, key, computed, Slot, slot, no_slots, single, state, use_resource, context, boundary, integer, of_context, of_component, Program}
use Rattle.cost_laws.specs.Moments.{AsMany, Moment, at_first, rendered_at, set_at}

-- a component that shows its prop, in `<i>`
abbrev cell : Slot
cell = host (codes "i") [] by_tag (slot (enclosed braces (number_of (variable (codes "v")))) no_slots)

-- `<div>{w}{for (k < 5, 5) <Cell key={k} v={k < v}/>}</div>`
abbrev list_of_cells : Slot
list_of_cells =
    host (codes "div") [] by_tag
    (slot (enclosed braces (number_of (variable (codes "w"))))
    (slot (enclosed braces (repeated (codes "k") (number 5) 5
    (comp (codes "Cell") (key (variable (codes "k")) ∷ computed (codes "v") (chain (variable (codes "k")) (link operator.Less (variable (codes "v")) no_links)) ∷ []) at_once no_slots))) no_slots))

-- five cells, of which each is told whether its number is less than a state of `App`; and another state of `App`
abbrev pub cells : Program
cells =
    record {
      second = false;
      declarations =
          of_component (record { name = codes "Cell"; memo = false; braces = true; parameters = integer (codes "v") ∷ []; statements = []; body = single cell })
          ∷ of_component (record {
            name = codes "App";
            memo = false;
            braces = false;
            parameters = [];
            statements = state (codes "v") (codes "setV") (number 0) ∷ state (codes "w") (codes "setW") (number 0) ∷ [];
            body = single list_of_cells;
          })
          ∷ [];
    }

-- `<div><Theme.Provider value={t}><Mid/></Theme.Provider><Leaf/></div>`
abbrev two_leaves : Slot
two_leaves =
    host (codes "div") [] by_tag
    (slot (provider (codes "Theme") unkeyed (variable (codes "t")) by_tag (slot (comp (codes "Mid") [] at_once no_slots) no_slots))
    (slot (comp (codes "Leaf") [] at_once no_slots) no_slots))

-- a reader of a context below a provider whose value is a state of `App`, and one beside it
abbrev pub leaves : Program
leaves =
    record {
      second = false;
      declarations =
          of_context (record { name = codes "Theme"; negative = false; number = 1 })
          ∷ of_component (record {
            name = codes "Leaf";
            memo = false;
            braces = false;
            parameters = [];
            statements = context (codes "t") (codes "Theme") ∷ [];
            body = single (host (codes "b") [] by_tag (slot (enclosed braces (number_of (variable (codes "t")))) no_slots));
          })
          ∷ of_component (record { name = codes "Mid"; memo = false; braces = false; parameters = []; statements = []; body = single (comp (codes "Leaf") [] at_once no_slots) })
          ∷ of_component (record { name = codes "App"; memo = false; braces = false; parameters = []; statements = state (codes "t") (codes "setT") (number 2) ∷ []; body = single two_leaves })
          ∷ [];
    }

-- `<C.Provider value={t}><C.Provider value={1}><Suspense fallback={<i/>}><User/></Suspense></C.Provider></C.Provider>`
abbrev two_providers : Slot
two_providers =
    provider (codes "C") unkeyed (variable (codes "t")) by_tag
    (slot (provider (codes "C") unkeyed (number 1) by_tag
    (slot (boundary unkeyed (host (codes "i") [] at_once no_slots) by_tag (slot (comp (codes "User") [] at_once no_slots) no_slots)) no_slots)) no_slots)

-- a boundary that waits, below a provider whose value is always the same, below one of the same context whose value is a state of `App`
abbrev pub shielded : Program
shielded =
    record {
      second = false;
      declarations =
          of_context (record { name = codes "C"; negative = false; number = 1 })
          ∷ of_component (record {
            name = codes "User";
            memo = false;
            braces = false;
            parameters = [];
            statements = use_resource (codes "u") (codes "r") ∷ [];
            body = single (host (codes "b") [] by_tag (slot (enclosed braces (number_of (variable (codes "u")))) no_slots));
          })
          ∷ of_component (record { name = codes "App"; memo = false; braces = false; parameters = []; statements = state (codes "t") (codes "setT") (number 2) ∷ []; body = single two_providers })
          ∷ [];
    }

-- the lanes of a first render, and of an update
abbrev pub first_lanes : Lanes
first_lanes = one lane.Default

abbrev pub sync : Lanes
sync = one lane.Sync

-- an update of the other state of `App`, behind the first commit
abbrev pub other_state : Moment
other_state = set_at 1 1 (pos 7) lane.Sync (rendered_at cells first_lanes at_first)

-- then one of which the first cell is told
abbrev pub one_told : Moment
one_told = set_at 1 0 (pos 1) lane.Sync (rendered_at cells sync other_state)

-- then one of which the others are told
abbrev pub others_told : Moment
others_told = set_at 1 0 (pos 5) lane.Sync (rendered_at cells sync one_told)

-- an update of the value that the provider gives
abbrev pub other_value : Moment
other_value = set_at 1 0 (pos 3) lane.Sync (rendered_at leaves first_lanes at_first)

-- an update of the value that the outer provider gives
abbrev pub outer_value : Moment
outer_value = set_at 1 0 (pos 3) lane.Sync (rendered_at shielded first_lanes at_first)

-- At the first render each component is evaluated. A state that no cell is told evaluates `App` alone, and another one the cells that are told something new. A new value of a context evaluates its reader, and not the component between. One that an inner provider hides from a boundary that waits doesn't try it again.
pub record EqualInputsSpare : Type 0 where
  pub mounted : AsMany cells first_lanes at_first 6
  pub none_told : AsMany cells sync other_state 1
  pub first_told : AsMany cells sync one_told 2
  pub four_told : AsMany cells sync others_told 5
  pub read : AsMany leaves first_lanes at_first 4
  pub read_anew : AsMany leaves sync other_value 2
  pub hidden_value : AsMany shielded sync outer_value 1
