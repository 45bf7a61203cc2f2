-- Elements of HTML, and what is well nested.
use Rattle.std.specs.Prelude.{[], ◌++◌, codes}
use Rattle.rx_base.specs.Values.{Text}
use Rattle.rx_page.specs.declared.tag.Tag.{Tag}
use Rattle.rx_page.specs.declared.tag.Tag.TheVariants as tag
use Rattle.rx_page.specs.declared.tag.AttributeName.{AttributeName}
use Rattle.rx_page.specs.declared.tag.AttributeName.TheVariants as attribute_name
use Rattle.rx_page.specs.Escaping.{escaped}

-- the name of an element
abbrev pub tag_text : Tag → Text
tag_text tag.Document = codes "html"
tag_text tag.Head = codes "head"
tag_text tag.Title = codes "title"
tag_text tag.Style = codes "style"
tag_text tag.Body = codes "body"
tag_text tag.TopHeading = codes "h1"
tag_text tag.Navigation = codes "nav"
tag_text tag.Main = codes "main"
tag_text tag.Division = codes "div"
tag_text tag.Script = codes "script"
tag_text tag.Section = codes "section"
tag_text tag.Heading = codes "h2"
tag_text tag.Figure = codes "figure"
tag_text tag.Caption = codes "figcaption"
tag_text tag.Preformatted = codes "pre"
tag_text tag.Code = codes "code"
tag_text tag.Paragraph = codes "p"
tag_text tag.OrderedList = codes "ol"
tag_text tag.Item = codes "li"
tag_text tag.Link = codes "a"
tag_text tag.Details = codes "details"
tag_text tag.Summary = codes "summary"
tag_text tag.Table = codes "table"
tag_text tag.TableCaption = codes "caption"
tag_text tag.Row = codes "tr"
tag_text tag.HeaderCell = codes "th"
tag_text tag.Cell = codes "td"
tag_text tag.Span = codes "span"
tag_text tag.Small = codes "small"
tag_text tag.Strong = codes "b"
tag_text tag.Inserted = codes "ins"
tag_text tag.Deleted = codes "del"
tag_text tag.Mark = codes "mark"

-- the name of an attribute
abbrev pub attribute_text : AttributeName → Text
attribute_text attribute_name.Id = codes "id"
attribute_text attribute_name.Class = codes "class"
attribute_text attribute_name.Href = codes "href"
attribute_text attribute_name.LabelledBy = codes "aria-labelledby"
attribute_text attribute_name.TabIndex = codes "tabindex"
attribute_text attribute_name.Lang = codes "lang"
attribute_text attribute_name.Scope = codes "scope"
attribute_text attribute_name.Start = codes "start"
attribute_text attribute_name.Charset = codes "charset"
attribute_text attribute_name.NameOf = codes "name"
attribute_text attribute_name.HttpEquiv = codes "http-equiv"
attribute_text attribute_name.Content = codes "content"

-- an attribute: a space, its name, and its value, escaped and between quotes
abbrev pub attribute : AttributeName → (value : Text) → Text
attribute name value = codes " " ++ attribute_text name ++ codes "=\"" ++ escaped value ++ codes "\""

-- an element: its open tag with its attributes, its content, and its close tag
abbrev pub element : Tag → (attributes content : Text) → Text
element tag attributes content =
    codes "<" ++ tag_text tag ++ attributes ++ codes ">" ++ content ++ codes "</" ++ tag_text tag ++ codes ">"

-- a tag of the head that tells something about the page, and has no content
abbrev pub meta : (attributes : Text) → Text
meta attributes = codes "<meta" ++ attributes ++ codes ">"

-- attributes, one behind the other
pub data AreAttributes : Text → Type 0 where
  no_attribute : AreAttributes []
  one_more : (before : Text) (name : AttributeName) (value : Text) → AreAttributes before → AreAttributes (before ++ attribute name value)

-- HTML is well nested: it is escaped texts, elements and tags without content, one behind the other, and so is the content of each element
pub data IsNested : Text → Type 0 where
  nothing : IsNested []
  with_text : (before text : Text) → IsNested before → IsNested (before ++ escaped text)
  with_element : (before : Text) (tag : Tag) (attributes content : Text)
      → IsNested before → AreAttributes attributes → IsNested content → IsNested (before ++ element tag attributes content)
  with_meta : (before attributes : Text) → IsNested before → AreAttributes attributes → IsNested (before ++ meta attributes)
  joined : (before more : Text) → IsNested before → IsNested more → IsNested (before ++ more)
