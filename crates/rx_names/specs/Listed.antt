-- The names of a program, listed.
use Rattle.std.specs.Prelude.{◌≡◌, List, [], ◌∷◌, ◌++◌, map, cond}
use Rattle.rx_base.specs.Values.{Name}
use Rattle.rx_ast.specs.Syntax.{Program, functions, contexts}
use Rattle.rx_rules.specs.Names.{has_name, component_names, resources}
use Rattle.rx_names.specs.declared.listing.Listing.{Listing}

-- the names that are declared as functions, in the order of the text
abbrev pub function_names : Program → List Name
function_names p = map (λ f. f.name) (functions p)

-- the names that are declared as contexts, in the order of the text
abbrev pub context_names : Program → List Name
context_names p = map (λ c. c.name) (contexts p)

-- names with one more, if it is not one of them
abbrev pub with_name : List Name → Name → List Name
with_name names name = cond (has_name names name) names (names ++ name ∷ [])

-- the listing is that of the program
pub record IsListed (p : Program) (l : Listing) : Type 0 where
  pub components_are : l.components ≡ component_names p
  pub functions_are : l.functions ≡ function_names p
  pub contexts_are : l.contexts ≡ context_names p
  pub resources_are : l.resources ≡ resources p
