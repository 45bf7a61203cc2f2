-- What each state of a run has for taking over, for trying a hidden boundary again or not, and for the next commit.
use Rattle.std.specs.Prelude.{IfSome, List, None, Option, Some, [], length, ℕ, ◌++◌, ◌<◌, ◌∷◌, ◌≡◌, ◌≤◌}
use Rattle.rx_ast.specs.Syntax.{Program}
use Rattle.rx_base.specs.declared.cut.Cut.{Cut}
use Rattle.rx_elem.specs.Numbers.{Numbers}
use Rattle.rx_elem.specs.Trees.{Node, element_of}
use Rattle.rx_meaning.specs.Fresh.{Sight, default_contexts, depth_limit, root_element}
use Rattle.rx_meaning.specs.Outcome.{journal_after}
use Rattle.rx_lane.specs.Lanes.{Lanes}
use Rattle.rx_model.specs.Committing.{sight_of}
use Rattle.rx_model.specs.State.{Progress, State}
use Rattle.rx_queue.specs.Journal.{Journal, Posted, Resolution, resolutions_by}
use Rattle.rx_meaning.specs.Again.{AccountedBefore, AllOpen}
use Rattle.commit_laws.specs.HiddenWaits.{HiddenWaits, IfNumbered}
use Rattle.rx_meaning.specs.Settled.{DoneBefore, HasValuesOf, IfReadsHold, IfSettled, IsSound, known_by, version_done}

-- updates are numbered below this
abbrev pub NumbersBelow : ℕ → List Posted → Type 0
NumbersBelow n [] = Unit {0}
NumbersBelow n (u ∷ us) = (u.update.number < n) × NumbersBelow n us

-- what a render with these lanes at this cut sees, if the last commit saw so many resolutions
abbrev pub sight_at : Program → Journal → Lanes → Cut → (seen : ℕ) → Sight
sight_at p j lanes cut seen = record { program = p; journal = j; lanes = lanes; cut = cut; seen = seen }

-- The last commit, which gave this tree: at what it saw each visible hidden boundary waited for what it awaits, and the journal is what it left and what came since.
pub record LastCommit (p : Program) (j : Journal) (cut : Cut) (tree : Node) : Type 0 where
  pub lanes : Lanes
  pub journal : Journal
  -- how many resolutions the commit before it saw
  pub seen : ℕ
  pub accounted : AccountedBefore cut journal.updates
  pub within : cut.resolutions ≤ length journal.resolutions
  pub waits : HiddenWaits depth_limit (sight_at p journal lanes cut seen) (default_contexts p) tree
  pub new : List Posted
  pub opened : AllOpen new
  pub updates_are : j.updates ≡ (journal_after lanes cut tree journal).updates ++ new
  pub more : List Resolution
  pub resolutions_are : j.resolutions ≡ journal.resolutions ++ more

-- the last commit of a tree that may be missing
abbrev pub IfCommitted : Program → Journal → Cut → Option Node → Type 0
IfCommitted p j cut None = Unit {0}
IfCommitted p j cut (Some n) = LastCommit p j cut n

-- the root's element stands at the root
abbrev pub IfRooted : Program → Option Node → Type 0
IfRooted p None = Unit {0}
IfRooted p (Some n) = element_of n ≡ root_element p

-- What holds of a journal and the committed tree, by the resolutions that the last commit saw, and its cut.
pub record Carries (p : Program) (j : Journal) (numbers : Numbers) (tree : Option Node) (known : List Resolution) (last : Cut) : Type 0 where
  pub below : NumbersBelow (length j.updates) j.updates
  pub sound : IsSound p (record { updates = j.updates; resolutions = known }) numbers.instance tree
  pub seen : HasValuesOf known j.resolutions
  pub numbered : IfNumbered tree
  pub rooted : IfRooted p tree
  pub updates_before : last.updates ≤ length j.updates
  pub resolutions_before : last.resolutions ≤ length j.resolutions
  pub committed : IfCommitted p j last tree

-- What holds of a render, by the resolutions that the last commit saw and its cut.
pub record RendersOn (p : Program) (j : Journal) (known : List Resolution) (last : Cut) (lanes : Lanes) (cut : Cut) : Type 0 where
  pub updates_grow : last.updates ≤ cut.updates
  pub resolutions_grow : last.resolutions ≤ cut.resolutions
  pub updates_before : cut.updates ≤ length j.updates
  pub resolutions_before : cut.resolutions ≤ length j.resolutions
  pub accounted : AccountedBefore cut j.updates
  pub more : HasValuesOf known (resolutions_by cut j)

-- what holds of a state, which tells how many resolutions the last commit saw, and of the render that is in progress
abbrev pub IsCarried : Program → State → Type 0
IsCarried p s =
    (known : List Resolution) × (last : Cut) × Carries p s.journal s.numbers s.tree known last × IfSome s.progress (λ g. RendersOn p s.journal known last g.lanes g.cut) × (s.seen ≡ last.resolutions)

-- the old tree of a render in progress is settled for what the render sees, what is done lies before its cut, and its reads hold for the versions that are done
abbrev pub RestsOnSettled : Program → State → Type 0
RestsOnSettled p s =
    (g : Progress) → s.progress ≡ Some g
    → IfSettled p (known_by (sight_of p s g)) s.tree × DoneBefore g.cut s.journal.updates × IfReadsHold (version_done s.journal.updates) (default_contexts p) s.tree
