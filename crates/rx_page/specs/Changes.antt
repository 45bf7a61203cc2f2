-- How a text changes.
use Rattle.std.specs.Prelude.{ℕ, ◌≡◌, ◌==◌, ◌||◌, List, [], ◌∷◌, ◌++◌, codes, decimal, flat_map, length, nat_le, if◌then◌else◌}
use Rattle.std.specs.List.{count_by}
use Rattle.rx_base.specs.Values.{Text}
use Rattle.rx_page.specs.declared.tag.Tag.{Tag}
use Rattle.rx_page.specs.declared.tag.Tag.TheVariants as tag
use Rattle.rx_page.specs.Escaping.{escaped}
use Rattle.rx_page.specs.Elements.{element}

-- a piece of a comparison of two texts: what stays, what goes, or what comes
pub data Piece : Type 0 where
  stays : Text → Piece
  goes : Text → Piece
  comes : Text → Piece

-- what the old text has of a piece
abbrev pub before : Piece → Text
before (stays t) = t
before (goes t) = t
before (comes t) = []

-- what the new text has of a piece
abbrev pub after : Piece → Text
after (stays t) = t
after (goes t) = []
after (comes t) = t

-- Pieces compare two texts: those that stay or go are the old one, and those that stay or come the new one.
pub record Compares (old new : Text) (pieces : List Piece) : Type 0 where
  pub old_is : old ≡ flat_map before pieces
  pub new_is : new ≡ flat_map after pieces

-- how many lines end in a text
abbrev pub lines_in : Text → ℕ
lines_in text = count_by (λ b. b == 10) text

-- what stays: as it is up to 400 bytes, and else the number of its lines
abbrev pub stays_html : Text → Text
stays_html text =
    if length text == 0 then []
    else if nat_le (length text) 400 || lines_in text == 0 then element tag.Span [] (escaped text)
    else element tag.Small [] (escaped (codes "lines as before: " ++ decimal (lines_in text) ++ codes "\n"))

-- what goes or comes, behind a word that says so
abbrev pub marked : Tag → (word text : Text) → Text
marked name word text = if length text == 0 then [] else element name [] (element tag.Strong [] (escaped word) ++ escaped text)

-- a piece as a page shows it
abbrev pub piece_html : Piece → Text
piece_html (stays t) = stays_html t
piece_html (goes t) = marked tag.Deleted (codes "gone ") t
piece_html (comes t) = marked tag.Inserted (codes "new ") t

-- HTML gets the pieces of a comparison of two texts, in their order.
pub record PutsChanges (old new html_old html_new : Text) : Type 0 where
  pub pieces : List Piece
  pub compares : Compares old new pieces
  pub is : html_new ≡ html_old ++ flat_map piece_html pieces
