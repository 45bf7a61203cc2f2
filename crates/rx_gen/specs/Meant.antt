-- What the generated input means: its program, and the steps of its script.
use Rattle.std.specs.Prelude.{ℕ, ◌/◌, ◌%◌, true, false, List, [], ◌∷◌, ◌++◌, nat_eq, pos, codes, if◌then◌else◌}
use Rattle.std.specs.List.{flat_map, range_with_len}
use Rattle.rx_ast.specs.declared.expr.Operator.TheVariants.{Add}
use Rattle.rx_ast.specs.Syntax.{number, variable, chain, no_links, link, key, computed, at_once, by_tag, braces, number_of, repeated, host, comp, enclosed, no_slots, slot, single, state, integer, Function, Component, of_function, of_component, Program}
use Rattle.rx_step.specs.declared.step.LaneWord.{LaneWord}
use Rattle.rx_step.specs.declared.step.LaneWord.TheVariants as word
use Rattle.rx_step.specs.declared.step.Dispatch.TheVariants as dispatch
use Rattle.rx_step.specs.declared.step.Step.{Step}
use Rattle.rx_step.specs.declared.step.Step.TheVariants as step
use Rattle.rx_step.specs.Steps.{Path}
use Rattle.rx_gen.specs.Generated.{choice, is_flushed, program_text, script_text}

-- the input of a generated run: the generated program, and a script of so many rounds
abbrev pub generated_input : (rounds : ℕ) → List ℕ
generated_input n = program_text ++ codes "---\n" ++ script_text n

-- function add(s, a) { return s + a; }
abbrev pub add : Function
add =
    record {
      name = codes "add";
      parameters = codes "s" ∷ codes "a" ∷ [];
      lines = [];
      answer = chain (variable (codes "s")) (link Add (variable (codes "a")) no_links);
    }

-- function Cell({i}) { const [v, setV] = useState(i); return <b>{v}</b>; }
abbrev pub a_cell : Component
a_cell =
    record {
      name = codes "Cell";
      memo = false;
      braces = true;
      parameters = integer (codes "i") ∷ [];
      statements = state (codes "v") (codes "setV") (variable (codes "i")) ∷ [];
      body = single (host (codes "b") [] by_tag (slot (enclosed braces (number_of (variable (codes "v")))) no_slots));
    }

-- function App() { const [n, setN] = useState(32); return <main>{for (i < n, 64) <Cell key={i} i={i}/>}</main>; }
abbrev pub all_cells : Component
all_cells =
    record {
      name = codes "App";
      memo = false;
      braces = false;
      parameters = [];
      statements = state (codes "n") (codes "setN") (number 32) ∷ [];
      body = single (host (codes "main") [] by_tag (slot (enclosed braces (repeated (codes "i") (variable (codes "n")) 64 (comp (codes "Cell") (key (variable (codes "i")) ∷ computed (codes "i") (variable (codes "i")) ∷ []) at_once no_slots))) no_slots));
    }

-- the program: a list of cells, each with a state of its own and a key
unfoldable pub generated_program : Program
generated_program = record { second = false; declarations = of_function add ∷ of_component a_cell ∷ of_component all_cells ∷ [] }

-- the lane that is chosen
abbrev pub chosen_lane : (choice : ℕ) → LaneWord
chosen_lane q =
    if nat_eq (q % 4) 0 then word.Sync else if nat_eq (q % 4) 1 then word.Input else if nat_eq (q % 4) 2 then word.Default else word.Transition

-- the path to the root
abbrev pub to_root : Path
to_root = (codes "App", 0) ∷ []

-- the path to a cell
abbrev pub to_cell : (cell : ℕ) → Path
to_cell k = (codes "App", 0) ∷ (codes "Cell", k) ∷ []

-- how many cells there are is set
abbrev pub resized : (choice : ℕ) → Step
resized q = step.Dispatch (dispatch.Set word.Sync to_root (codes "n") (pos (q % 65)))

-- a cell's state is added to
abbrev pub added : (choice : ℕ) → Step
added q = step.Dispatch (dispatch.Call (chosen_lane q) (to_cell (q / 4 % 40)) (codes "v") (codes "add") (pos (q % 1000)))

-- the steps of a round
abbrev pub round_steps : (rounds round choice : ℕ) → List Step
round_steps n j q = (if nat_eq (j % 8) 0 then resized q ∷ [] else []) ++ added q ∷ (if is_flushed n j then step.Flush ∷ [] else [])

-- the steps of the script: the first render, then the rounds
unfoldable pub generated_steps : (rounds : ℕ) → List Step
generated_steps n = step.Flush ∷ flat_map (λ j. round_steps n j (choice n j)) (range_with_len 1 n)
