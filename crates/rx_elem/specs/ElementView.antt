-- An element of the code as plain data.
use Rattle.rx_elem.specs.Elements.{Element, gathered}
use Rattle.rx_elem.specs.Elements as elements
use Rattle.rx_elem.specs.declared.element.ElementKind.{ElementKind}
use Rattle.rx_elem.specs.declared.element.ElementKind.TheVariants.{Null, Text, Host, Comp, List, Boundary, Catch, Provider}

-- what is in an element
abbrev pub element_seen : ElementKind → Element
element_seen Null = elements.null
element_seen (Text t) = elements.text t
element_seen (Host name key attrs es) = elements.host name key attrs.items (gathered es.items)
element_seen (Comp c key props es) = elements.comp c key props (gathered es.items)
element_seen (List marked es) = elements.list marked (gathered es.items)
element_seen (Boundary key fallback es) = elements.boundary key fallback (gathered es.items)
element_seen (Catch key fallback es) = elements.catcher key fallback (gathered es.items)
element_seen (Provider c key given es) = elements.provider c key given (gathered es.items)
