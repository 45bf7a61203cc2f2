-- Text in HTML, and what a page shows of it.
use Rattle.std.specs.Prelude.{ℕ, ◌==◌, Bool, ◌||◌, [], ◌∷◌, ◌++◌, Option, Some, None, codes, bytes_eq, flat_map, if◌then◌else◌}
use Rattle.std.specs.List.{list_any}
use Rattle.rx_base.specs.Values.{Text}

-- what stands for a byte: an entity for each of the five that HTML gives a meaning, and else the byte itself
abbrev pub escaped_byte : ℕ → Text
escaped_byte b =
    if b == 38 then codes "&amp;"
    else if b == 60 then codes "&lt;"
    else if b == 62 then codes "&gt;"
    else if b == 34 then codes "&quot;"
    else if b == 39 then codes "&#39;"
    else b ∷ []

-- a text with each of its bytes escaped
abbrev pub escaped : Text → Text
escaped text = flat_map escaped_byte text

-- a byte that begins or ends a tag, or the value of an attribute
abbrev pub is_mark : ℕ → Bool
is_mark b = b == 60 || b == 62 || b == 34 || b == 39

-- one of these bytes stands in a text
abbrev pub has_mark : Text → Bool
has_mark text = list_any is_mark text

-- what an entity shows, by what stands between `&` and `;`; one that is none of the five is shown as it stands
abbrev pub entity_shown : Text → Text
entity_shown name =
    if bytes_eq name (codes "amp") then codes "&"
    else if bytes_eq name (codes "lt") then codes "<"
    else if bytes_eq name (codes "gt") then codes ">"
    else if bytes_eq name (codes "quot") then codes "\""
    else if bytes_eq name (codes "#39") then codes "'"
    else codes "&" ++ name ++ codes ";"

-- what text in HTML shows, read byte by byte: outside of an entity, or with so much of one behind its `&`
abbrev pub shown_from : (entity : Option Text) → Text → Text
shown_from None [] = []
shown_from None (b ∷ html) = if b == 38 then shown_from (Some []) html else b ∷ shown_from None html
shown_from (Some name) [] = codes "&" ++ name
shown_from (Some name) (b ∷ html) = if b == 59 then entity_shown name ++ shown_from None html else shown_from (Some (name ++ b ∷ [])) html

-- what text in HTML shows
abbrev pub shown : Text → Text
shown html = shown_from None html
