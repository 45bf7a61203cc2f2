-- Elements that fit a program.
use Rattle.std.specs.Prelude.{◌≡◌, ◌<◌, length, option_map, Some}
use Rattle.rx_ast.specs.Syntax.{Program, contexts}
use Rattle.rx_rules.specs.Names.{component_at, prop_names}
use Rattle.rx_elem.specs.Elements.{Element, Elements}
use Rattle.rx_elem.specs.Elements as elements

-- An element fits a program: each component that it has, and that stands below it, is one of the program's and has one prop for each integer parameter, and each provider is of a context of the program.
abbrev mutual
  pub IsDrawn : Program → Element → Type 0
  IsDrawn p elements.null = Unit {0}
  IsDrawn p (elements.text t) = Unit {0}
  IsDrawn p (elements.host n k attrs es) = AreDrawn p es
  IsDrawn p (elements.comp c k ps es) = (option_map (λ d. length (prop_names d)) (component_at p c) ≡ Some (length ps)) × AreDrawn p es
  IsDrawn p (elements.list marked es) = AreDrawn p es
  IsDrawn p (elements.boundary k f es) = IsDrawn p f × AreDrawn p es
  IsDrawn p (elements.catcher k f es) = IsDrawn p f × AreDrawn p es
  IsDrawn p (elements.provider c k x es) = (c < length (contexts p)) × AreDrawn p es

  -- each element of a list fits
  pub AreDrawn : Program → Elements → Type 0
  AreDrawn p elements.none = Unit {0}
  AreDrawn p (elements.more e es) = IsDrawn p e × AreDrawn p es
