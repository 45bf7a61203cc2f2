-- How deep an element's places nest.
use Rattle.std.specs.Prelude.{ℕ, ◌+◌, ◌≤◌, max}
use Rattle.rx_ast.specs.Syntax.{Program}
use Rattle.rx_rules.specs.Bounds.{body_by, levels}
use Rattle.rx_elem.specs.Elements.{Element, Elements, gathered}
use Rattle.rx_elem.specs.Elements as elements
use Rattle.rx_meaning.specs.Fresh.{Part}

-- how many levels of places an element has, from how many the bodies of components have
abbrev mutual
  pub element_depth : (ℕ → ℕ) → Element → ℕ
  element_depth depths elements.null = 0
  element_depth depths (elements.text t) = 1
  element_depth depths (elements.host n k attrs es) = 1 + elements_depth depths es
  element_depth depths (elements.comp c k ps es) = 1 + (depths c + elements_depth depths es)
  element_depth depths (elements.list marked es) = 1 + elements_depth depths es
  element_depth depths (elements.boundary k f es) = 1 + max (elements_depth depths es) (element_depth depths f)
  element_depth depths (elements.catcher k f es) = 1 + max (elements_depth depths es) (element_depth depths f)
  element_depth depths (elements.provider c k x es) = 1 + elements_depth depths es

  -- the greatest of the elements
  pub elements_depth : (ℕ → ℕ) → Elements → ℕ
  elements_depth depths elements.none = 0
  elements_depth depths (elements.more e es) = max (element_depth depths e) (elements_depth depths es)

-- how many levels the body of a component has, if components nest at most so deep
abbrev pub body_depth : ℕ → Program → ℕ → ℕ
body_depth n p = body_by levels n p

-- a place of this element needs no more levels
abbrev pub Fits : ℕ → Program → Element → Type 0
Fits n p e = element_depth (body_depth n p) e ≤ n

-- the places of a list of children need no more levels
abbrev pub PartFits : ℕ → Program → Part → Type 0
PartFits n p t = elements_depth (body_depth n p) (gathered t.elements) ≤ n
