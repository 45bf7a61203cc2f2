-- The page of a run.
use Rattle.std.specs.Prelude.{◌≡◌, false, List, [], ◌∷◌, codes}
use Rattle.rx_base.specs.Values.{Text}
use Rattle.rx_ast.specs.Syntax.{Program}
use Rattle.rx_step.specs.declared.step.Step.{Step}
use Rattle.rx_model.specs.State.{State, opening}
use Rattle.run_page.specs.Views.{View}
use Rattle.run_page.specs.Books.{Book, AreTold}
use Rattle.run_page.specs.Frames.{page as page_of}
use Rattle.fiber_view.specs.Shown.{AreShown, Shows, shown_options}

-- the title of the section before the first step
abbrev pub start_title : Text
start_title = codes "before the first"

-- A book has the section of the state before the first step, and the sections of all steps of a run from the start.
pub record IsBook (p : Program) (steps : List Step) (book : Book) : Type 0 where
  pub first : View
  pub views : List View
  pub after : State
  pub starts : Shows p shown_options start_title [] false opening first
  pub are : AreShown p shown_options opening steps views after
  pub told : AreTold (first ∷ views) book

-- A page of an input that is accepted with these steps: the input, and the links and sections of a run.
pub record IsPage (p : Program) (steps : List Step) (input page : Text) : Type 0 where
  pub book : Book
  pub shows : IsBook p steps book
  pub is : page ≡ page_of input book.links book.sections
