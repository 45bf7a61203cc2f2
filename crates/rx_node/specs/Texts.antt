-- Lists that have texts alone.
use Rattle.std.specs.Prelude.{Bool, true, false, ◌&&◌}
use Rattle.rx_elem.specs.Elements.{Element, null, text, host, comp, list, boundary, catcher, provider}
use Rattle.rx_elem.specs.Trees.{Node, node, Forest, none, vacant, child, is_host}

-- an element is a text
abbrev pub is_text_element : Element → Bool
is_text_element null = false
is_text_element (text s) = true
is_text_element (host n k attrs es) = false
is_text_element (comp n k ps es) = false
is_text_element (list m es) = false
is_text_element (boundary k e es) = false
is_text_element (catcher k e es) = false
is_text_element (provider c k v es) = false

-- a list has no place
abbrev pub is_bare : Forest → Bool
is_bare none = true
is_bare (vacant ns) = false
is_bare (child n ns) = false

-- a node is that of a text, with nothing below it
abbrev pub is_text : Node → Bool
is_text (node e m ns fs) = is_text_element e && (is_host m && (is_bare ns && is_bare fs))

-- each place of a list has such a node
abbrev pub are_texts : Forest → Bool
are_texts none = true
are_texts (vacant ns) = false
are_texts (child n ns) = is_text n && are_texts ns
