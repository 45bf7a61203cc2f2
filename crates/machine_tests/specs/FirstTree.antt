-- A program with one hook, and its first tree.
use Rattle.std.specs.Prelude.{[], ◌∷◌, false, codes, pos, Some, None}
use Rattle.rx_ast.specs.Syntax.{Program, null, number, of_component, single, state}
use Rattle.rx_elem.specs.Elements as elements
use Rattle.rx_elem.specs.Trees.{Node, node, none, of_instance}

-- function App() { const [n, setN] = useState(5); return null; }
abbrev pub counter : Program
counter =
    record {
      second = false;
      declarations =
          of_component (record { name = codes "App"; memo = false; braces = false; parameters = []; statements = state (codes "n") (codes "setN") (number 5) ∷ []; body = single null })
          ∷ [];
    }

-- its first tree is the instance of App, with the first number
abbrev pub first_tree : Node
first_tree =
    node (elements.comp 0 None [] elements.none)
    (of_instance (record { number = Some 1; component = 0; initials = pos 5 ∷ []; reads = []; versions = []; effects = [] })) none none
