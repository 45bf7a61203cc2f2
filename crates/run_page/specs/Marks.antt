-- The marks of a step on the timeline.
use Rattle.std.specs.Prelude.{◌==◌, Bool, [], ◌∷◌, ◌++◌, codes, nat_eq, if◌then◌else◌}
use Rattle.std.specs.List.{starts_with}
use Rattle.rx_base.specs.Values.{Text}
use Rattle.rx_page.specs.declared.tag.Tag.TheVariants as tag
use Rattle.rx_page.specs.declared.tag.AttributeName.TheVariants as name
use Rattle.rx_page.specs.Escaping.{escaped}
use Rattle.rx_page.specs.Elements.{attribute, element}
use Rattle.run_page.specs.Views.{View}

-- a mark of a kind, with its words, behind a space
abbrev pub mark : (kind words : Text) → Text
mark kind words = escaped (codes " ") ++ element tag.Mark (attribute name.Class kind) (escaped words)

-- the mark of a line of a report: one that tells of a commit or of a deferred render has one
abbrev pub line_mark : (line : Text) → Text
line_mark line =
    if starts_with nat_eq line (codes "commit ") then mark (codes "commit") line
    else if starts_with nat_eq line (codes "defer ") then mark (codes "defer") line
    else []

-- the marks of the lines of a text, read byte by byte, with what was read of a line so far
abbrev pub marks_from : (line : Text) → Text → Text
marks_from line [] = line_mark line
marks_from line (b ∷ text) = if b == 10 then line_mark line ++ marks_from [] text else marks_from (line ++ b ∷ []) text

-- the mark of a turn that yields
abbrev pub yield_mark : (yields : Bool) → Text
yield_mark yields = if yields then mark (codes "yield") (codes "yield") else []

-- the marks of a step: its commits and deferred renders in their order, and a yield
abbrev pub marks : View → Text
marks v = marks_from [] v.lines ++ yield_mark v.yields
