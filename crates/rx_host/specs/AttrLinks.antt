-- The attributes that links lead through.
use Rattle.std.specs.Prelude.{List, [], ◌∷◌}
use Rattle.rx_elem.specs.declared.attr.Attr.{Attr}
use Rattle.rx_host.specs.declared.attrs.Link.{Link}
use Rattle.rx_host.specs.declared.attrs.Link.TheVariants.{End, More}

-- the attributes from a link on
abbrev pub linked : Link → List Attr
linked End = []
linked (More a rest) = a ∷ rest.value
