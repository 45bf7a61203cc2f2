-- The name of a component by its number.
use Rattle.std.proofs.Common.{◌≡◌, ℕ, ◌≤◌, ◌<◌, [], List, length, get_or, sym, ap, refl, ◌∙◌, Option, Some, None}
use Rattle.std.specs.Prelude.{option_map, slice_get}
use Rattle.std.specs.Option.{option_map_or}
use Rattle.std.proofs.lemmas.Option.{slice_get-get_or, slice_get-map, slice_get_past}
use Rattle.rx_base.specs.Values.{Name}
use Rattle.rx_ast.specs.Syntax.{Component, Program, components}
use Rattle.rx_rules.specs.Names.{component_at, component_names}
use Rattle.rx_model.specs.State.{name_of}

-- a component's name stands at its number
name-there : (p : Program) (c : ℕ) (o : Option Name) → slice_get (component_names p) c ≡ o → option_map_or (λ x. x) o [] ≡ name_of p c
name-there p c o is = ap (λ (r : Option Name). option_map_or (λ x. x) r []) (sym is ∙ slice_get-map (λ (d : Component). d.name) (components p) c) ∙ go (component_at p c)
  where
    go : (r : Option Component) → option_map_or (λ x. x) (option_map (λ d. d.name) r) [] ≡ option_map_or (λ d. d.name) r []
    go None = refl
    go (Some d) = refl

-- the name that is read at a number
pub name-at : (p : Program) (c : ℕ) (ns : List Name) (x : Name) → ns ≡ component_names p → c < length ns → x ≡ get_or ns c x → x ≡ name_of p c
name-at p c ns x are inside is =
    name-there p c (Some x) (ap (λ (ys : List Name). slice_get ys c) (sym are) ∙ slice_get-get_or ns c x inside ∙ ap (λ (y : Name). Some y) (sym is))

-- if there is none, it is empty
pub name-past : (p : Program) (c : ℕ) (ns : List Name) → ns ≡ component_names p → length ns ≤ c → [] ≡ name_of p c
name-past p c ns are past = name-there p c None (ap (λ (ys : List Name). slice_get ys c) (sym are) ∙ slice_get_past ns c past)
