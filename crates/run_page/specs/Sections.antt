-- The section of a step.
use Rattle.std.specs.Prelude.{ℕ, Bool, ◌==◌, ◌&&◌, [], ◌++◌, length, bytes_eq, nat_lt, codes, decimal, if◌then◌else◌}
use Rattle.rx_base.specs.Values.{Text}
use Rattle.rx_page.specs.declared.tag.Tag.TheVariants as tag
use Rattle.rx_page.specs.declared.tag.AttributeName.TheVariants as name
use Rattle.rx_page.specs.Escaping.{escaped}
use Rattle.rx_page.specs.Elements.{attribute, element}
use Rattle.run_page.specs.Views.{View}
use Rattle.run_page.specs.Facts.{table}

-- a text, or a word if there is none
abbrev pub or_none : Text → Text
or_none text = if length text == 0 then codes "none" else text

-- a pane: a caption, and below it a text as it stands
abbrev pub pane : (caption text : Text) → Text
pane caption text =
    element tag.Figure [] (element tag.Caption [] (escaped caption) ++ element tag.Preformatted [] (escaped (or_none text)))

-- a pane with a sentence
abbrev pub note : (caption words : Text) → Text
note caption words =
    element tag.Figure [] (element tag.Caption [] (escaped caption) ++ element tag.Paragraph [] (escaped words))

-- a text that is not shown twice
abbrev pub is_long : Text → Bool
is_long text = nat_lt 400 (length text)

-- one text is another that is long
abbrev pub repeats : (text other : Text) → Bool
repeats text other = is_long text && bytes_eq text other

-- the lines that a step writes. If they are long, and those of the tree or of the hooks, it says so.
abbrev pub lines_pane : View → Text
lines_pane v =
    if repeats v.lines v.tree then note (codes "Lines of the report") (codes "Those of the tree of hosts, which is shown below.")
    else if repeats v.lines v.hooks then note (codes "Lines of the report") (codes "Those of the hooks, which are shown below.")
    else pane (codes "Lines of the report") v.lines

-- the heading of a section
abbrev pub heading : (number : ℕ) → (title : Text) → Text
heading number title =
    element tag.Heading (attribute name.Id (codes "title-" ++ decimal number))
    (escaped (codes "Step " ++ decimal number ++ codes ": ") ++ element tag.Code [] (escaped title))

-- the attributes of a section: where links lead, and which heading it has
abbrev pub section_attributes : (number : ℕ) → Text
section_attributes number =
    attribute name.Id (codes "step-" ++ decimal number) ++ attribute name.LabelledBy (codes "title-" ++ decimal number) ++ attribute name.TabIndex (codes "-1")

-- a section with its number, its title and its content
abbrev pub section : (number : ℕ) → (title content : Text) → Text
section number title content = element tag.Section (section_attributes number) (heading number title ++ content)

-- the content of a section: the lines, the table, the tree and the hooks
abbrev pub content : View → (tree hooks : Text) → Text
content v tree hooks = lines_pane v ++ table v.facts ++ tree ++ hooks
