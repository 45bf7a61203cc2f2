-- The links and sections of a page.
use Rattle.std.specs.Prelude.{ℕ, ◌≡◌, ◌+◌, List, [], ◌∷◌, ◌++◌, codes, decimal}
use Rattle.rx_base.specs.Values.{Text}
use Rattle.rx_page.specs.declared.tag.Tag.TheVariants as tag
use Rattle.rx_page.specs.declared.tag.AttributeName.TheVariants as name
use Rattle.rx_page.specs.Escaping.{escaped}
use Rattle.rx_page.specs.Elements.{attribute, element}
use Rattle.run_page.specs.Views.{View}
use Rattle.run_page.specs.Marks.{marks}
use Rattle.run_page.specs.Sections.{content, section}
use Rattle.run_page.specs.Told.{Told, Tells, nothing_told}

-- The links and the sections of the steps so far, how many there are, and the tree and the hooks that were told last.
pub record Book : Type 0 where
  pub links : Text
  pub sections : Text
  pub count : ℕ
  pub tree : Told
  pub hooks : Told

-- no step yet
abbrev pub empty_book : Book
empty_book = record { links = []; sections = []; count = 0; tree = nothing_told; hooks = nothing_told }

-- the place of a step on the timeline: a link to its section, and its marks
abbrev pub link : (number : ℕ) → View → Text
link number v =
    element tag.Item [] (element tag.Link (attribute name.Href (codes "#step-" ++ decimal number)) (element tag.Code [] (escaped v.title)) ++ marks v)

-- One step more: its link, and its section, which tells the tree and the hooks.
pub record Adds (v : View) (old new : Book) : Type 0 where
  pub tree_pane : Text
  pub hooks_pane : Text
  pub tree : Tells (codes "tree") (codes "Tree of hosts") old.count old.tree v.tree new.tree tree_pane
  pub hooks : Tells (codes "hooks") (codes "Hooks") old.count old.hooks v.hooks new.hooks hooks_pane
  pub links : new.links ≡ old.links ++ link old.count v
  pub sections : new.sections ≡ old.sections ++ section old.count v.title (content v tree_pane hooks_pane)
  pub count : new.count ≡ old.count + 1

-- These views, from that before the first step on, were added one behind the other.
pub data AreTold : List View → Book → Type 0 where
  none : AreTold [] empty_book
  one_more : (before : List View) (old : Book) (v : View) (new : Book) → AreTold before old → Adds v old new → AreTold (before ++ v ∷ []) new
