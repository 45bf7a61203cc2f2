-- The frame of a page.
use Rattle.std.specs.Prelude.{[], ◌++◌, codes}
use Rattle.rx_base.specs.Values.{Text}
use Rattle.rx_page.specs.declared.tag.Tag.{Tag}
use Rattle.rx_page.specs.declared.tag.Tag.TheVariants as tag
use Rattle.rx_page.specs.declared.tag.AttributeName.TheVariants as name
use Rattle.rx_page.specs.Escaping.{escaped}
use Rattle.rx_page.specs.Elements.{attribute, element, meta}
use Rattle.run_page.specs.declared.frame.TheConstants.{INTRODUCTION, KEYS, POLICY, SCRIPT, STYLE}

-- an element without attributes, which holds a text
abbrev pub words : Tag → Text → Text
words kind text = element kind [] (escaped text)

-- what a page takes from elsewhere: nothing
abbrev pub policy : Text
policy = meta (attribute name.HttpEquiv (codes "Content-Security-Policy") ++ attribute name.Content POLICY.now)

-- the head: the encoding, the width, what may be loaded, the title, and the style
abbrev pub head : Text
head =
    meta (attribute name.Charset (codes "utf-8"))
    ++ meta (attribute name.NameOf (codes "viewport") ++ attribute name.Content (codes "width=device-width, initial-scale=1"))
    ++ policy
    ++ words tag.Title (codes "A run, step by step")
    ++ words tag.Style STYLE.now

-- the input, as it stands, which is opened by a click
abbrev pub details : (input : Text) → Text
details input = element tag.Details [] (words tag.Summary (codes "The input") ++ words tag.Preformatted input)

-- the script of the run as a timeline: a list of links, numbered from 0
abbrev pub timeline : (links : Text) → Text
timeline links =
    element tag.Navigation (attribute name.LabelledBy (codes "script"))
    (element tag.Heading (attribute name.Id (codes "script")) (escaped (codes "Script and timeline"))
    ++ element tag.OrderedList (attribute name.Start (codes "0")) links)

-- the timeline beside the sections
abbrev pub columns : (links sections : Text) → Text
columns links sections = element tag.Division (attribute name.Class (codes "columns")) (timeline links ++ element tag.Main [] sections)

-- the body: what the page is, the input, the timeline beside the sections, and the page's own script
abbrev pub body : (input links sections : Text) → Text
body input links sections =
    words tag.TopHeading (codes "A run, step by step")
    ++ words tag.Paragraph INTRODUCTION.now
    ++ element tag.Paragraph (attribute name.Class (codes "keys")) (escaped KEYS.now)
    ++ details input
    ++ columns links sections
    ++ words tag.Script SCRIPT.now

-- the head and the body of a page
abbrev pub document : (input links sections : Text) → Text
document input links sections =
    element tag.Document (attribute name.Lang (codes "en")) (element tag.Head [] head ++ element tag.Body [] (body input links sections))

-- a page
abbrev pub page : (input links sections : Text) → Text
page input links sections = codes "<!DOCTYPE html>\n" ++ document input links sections
