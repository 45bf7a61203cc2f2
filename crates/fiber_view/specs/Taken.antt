-- Steps that a root takes, and the views of them.
use Rattle.std.specs.Prelude.{List, ◌++◌}
use Rattle.rx_ast.specs.Syntax.{Program}
use Rattle.rx_step.specs.declared.step.Step.{Step}
use Rattle.rx_lines.specs.Lines.{Options}
use Rattle.rx_model.specs.State.{State}
use Rattle.rx_model.specs.Stretch.{Stretch}
use Rattle.rx_model.specs.Machine.{StepTo}
use Rattle.rx_root.specs.Paying.{Pays}
use Rattle.rx_root.specs.Rooted.{Rooted}
use Rattle.rx_root.specs.Stands.{Stands}
use Rattle.run_page.specs.Views.{View}
use Rattle.run_page.specs.Books.{Book, AreTold}
use Rattle.fiber_view.specs.Shown.{AreShown, ShowsStep}

-- A root takes a step, and a view shows it.
pub record TakesAndShows (p : Program) (o : Options) (s : State) (x : Step) (v : View) (root : Rooted) : Type 0 where
  pub taken : Stretch
  pub takes : StepTo Pays p s x taken
  pub stands : Stands p taken.after root
  pub shows : ShowsStep p o x taken v

-- Behind the views that a book has, it gets those of these steps.
pub record Continues (p : Program) (o : Options) (s : State) (steps : List Step) (before : List View) (book : Book) : Type 0 where
  pub views : List View
  pub after : State
  pub are : AreShown p o s steps views after
  pub told : AreTold (before ++ views) book
