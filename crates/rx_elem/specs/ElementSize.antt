-- How many elements there are in an element.
use Rattle.std.specs.Prelude.{ℕ, suc, ◌+◌, ◌^◌, ◌-◌, min}
use Rattle.rx_elem.specs.Elements.{Element, null, text, host, comp, list, boundary, catcher, provider, Elements, none, more}

-- an element and those below it
abbrev mutual
  pub size : Element → ℕ
  size null = 1
  size (text t) = 1
  size (host n k attrs es) = suc (size_in es)
  size (comp c k ps es) = suc (size_in es)
  size (list mark es) = suc (size_in es)
  size (boundary k f es) = suc (size f + size_in es)
  size (catcher k f es) = suc (size f + size_in es)
  size (provider c k x es) = suc (size_in es)

  -- those of a list and below
  pub size_in : Elements → ℕ
  size_in none = 0
  size_in (more e es) = size e + size_in es

-- a count, held at the greatest number of 64 bits
abbrev pub held : ℕ → ℕ
held n = min n (2 ^ 64 - 1)
