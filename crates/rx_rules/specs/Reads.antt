-- Contexts that are read are declared.
use Rattle.std.specs.Prelude.{◌≡◌, ℕ, true, List, [], ◌∷◌, Some, length, nat_lt}
use Rattle.rx_ast.specs.Syntax.{Statement, state, reducer, transition, context, use_resource, constant, effect, throw_if, Component, Program, contexts}
use Rattle.rx_rules.specs.Names.{component_at, context_number}

-- a context that a statement reads is one of the program's
abbrev pub IsDeclared : Program → Statement → Type 0
IsDeclared p (state x setter e) = Unit {0}
IsDeclared p (reducer x setter f e) = Unit {0}
IsDeclared p (transition x starter) = Unit {0}
IsDeclared p (context x c) = nat_lt (context_number p c) (length (contexts p)) ≡ true
IsDeclared p (use_resource x r) = Unit {0}
IsDeclared p (constant x e) = Unit {0}
IsDeclared p (effect layout label es) = Unit {0}
IsDeclared p (throw_if e) = Unit {0}

-- the contexts that statements read are the program's
abbrev pub AllDeclared : Program → List Statement → Type 0
AllDeclared p [] = Unit {0}
AllDeclared p (s ∷ ss) = IsDeclared p s × AllDeclared p ss

-- each context that a component reads is declared, as the checks of a program say
abbrev pub ReadsDeclared : Program → Type 0
ReadsDeclared p = (c : ℕ) (d : Component) → component_at p c ≡ Some d → AllDeclared p d.statements
