-- What the end of a render writes first.
use Rattle.std.proofs.Common.{◌≡◌, ◌+◌, List, [], ◌∷◌, refl}
use Rattle.rx_elem.specs.Numbers.{numbered}
use Rattle.rx_elem.specs.Trees.{Node}
use Rattle.rx_lines.specs.Lines.{Counts, Line, committed, deferred}
use Rattle.rx_meaning.specs.Outcome.{Outcome, commit, defer, outcome}
use Rattle.rx_model.specs.State.{Progress, State}
use Rattle.rx_model.specs.Committing.{ended_by}
use Rattle.choice_laws.specs.Telling.{IsFinishOf, SaysThatItIsFinished, commits, defers}

-- the end of a render, whatever becomes of it, writes first that it is finished
by_outcome : (s : State) (g : Progress) (counts : Counts) (o : Outcome) → (f : Line) × (rest : List Line) × IsFinishOf g.lanes counts f × ((ended_by s g counts o).lines ≡ f ∷ rest)
by_outcome s g counts (commit new) = (committed (s.commits + 1) g.lanes counts (numbered s.numbers new).1, _, commits (s.commits + 1) (numbered s.numbers new).1, refl)
by_outcome s g counts (defer waits) = (deferred g.lanes counts, [], defers, refl)

pub says_first : (s : State) (g : Progress) (counts : Counts) (tree : Node) → SaysThatItIsFinished s g counts tree
says_first s g counts tree = by_outcome s g counts (outcome g.lanes s.tree tree)
