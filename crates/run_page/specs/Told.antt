-- A text that changes from step to step, and how each step tells it.
use Rattle.std.specs.Prelude.{ℕ, ◌≡◌, List, [], ◌++◌, codes, decimal, flat_map}
use Rattle.rx_base.specs.Values.{Text}
use Rattle.rx_page.specs.declared.tag.Tag.TheVariants as tag
use Rattle.rx_page.specs.declared.tag.AttributeName.TheVariants as name
use Rattle.rx_page.specs.Escaping.{escaped}
use Rattle.rx_page.specs.Elements.{attribute, element}
use Rattle.rx_page.specs.Changes.{Piece, Compares, piece_html}

-- the text that was told last, and the step that told it
pub record Told : Type 0 where
  pub text : Text
  pub step : ℕ

-- nothing was told yet
abbrev pub nothing_told : Told
nothing_told = record { text = []; step = 0 }

-- a pane of a kind, with its caption
abbrev pub kind_pane : (kind caption content : Text) → Text
kind_pane kind caption content = element tag.Figure (attribute name.Class kind) (element tag.Caption [] (escaped caption) ++ content)

-- a link to the section of a step
abbrev pub step_link : (step : ℕ) → Text
step_link step = element tag.Link (attribute name.Href (codes "#step-" ++ decimal step)) (escaped (codes "step " ++ decimal step))

-- what is as it was told last: a link to the step that told it
abbrev pub same_pane : (kind caption : Text) → (step : ℕ) → Text
same_pane kind caption step =
    kind_pane kind caption (element tag.Paragraph [] (escaped (codes "As after ") ++ step_link step ++ escaped (codes ".")))

-- what may have changed: the pieces of a comparison with what was told last
abbrev pub changed_pane : (kind caption : Text) → List Piece → Text
changed_pane kind caption pieces = kind_pane kind caption (element tag.Preformatted [] (flat_map piece_html pieces))

-- HTML gets the pane of a text that may have changed.
pub record PutsChanged (kind caption old new html_old html_new : Text) : Type 0 where
  pub pieces : List Piece
  pub compares : Compares old new pieces
  pub is : html_new ≡ html_old ++ changed_pane kind caption pieces

-- A step tells a text: that it is the one that was told last, or how that one changes. Only a text that is the same may be told as such.
pub data Tells (kind caption : Text) (number : ℕ) (old : Told) : Text → Told → (html : Text) → Type 0 where
  as_before : (text : Text) → text ≡ old.text → Tells kind caption number old text old (same_pane kind caption old.step)
  as_pieces : (text : Text) (pieces : List Piece) → Compares old.text text pieces
      → Tells kind caption number old text (record { text = text; step = number }) (changed_pane kind caption pieces)

-- HTML gets the pane of a text that a step tells.
pub record PutsTold (kind caption : Text) (number : ℕ) (text : Text) (old new : Told) (html_old html_new : Text) : Type 0 where
  pub pane : Text
  pub tells : Tells kind caption number old text new pane
  pub is : html_new ≡ html_old ++ pane
