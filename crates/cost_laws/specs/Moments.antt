-- What a root has come to between two renders, as far as they are concerned.
use Rattle.std.specs.Prelude.{◌≡◌, ℕ, ℤ, [], ◌∷◌, ◌++◌, Option, Some, None, length}
use Rattle.rx_lane.specs.Lanes.{Lanes}
use Rattle.rx_lane.specs.declared.lane.Lane.{Lane}
use Rattle.rx_ast.specs.Syntax.{Program}
use Rattle.rx_elem.specs.Numbers.{Numbers, numbered}
use Rattle.rx_elem.specs.Trees.{Node}
use Rattle.rx_queue.specs.declared.entry.Standing.TheVariants.{Open}
use Rattle.rx_queue.specs.declared.update.Op.TheVariants as op
use Rattle.rx_queue.specs.Journal.{Journal, cut_now, hook}
use Rattle.rx_meaning.specs.Fresh.{Sight, Place, empty, made, waits, throws, fresh}
use Rattle.rx_meaning.specs.Outcome.{journal_after}
use Rattle.rx_meaning.specs.Touched.{dirty_places}
use Rattle.cost_laws.specs.Evaluated.{whole_evaluated}

-- the committed tree, the numbers that come next, the journal, and how many resolutions the last commit saw
pub record Moment : Type 0 where
  pub tree : Option Node
  pub numbers : Numbers
  pub journal : Journal
  pub seen : ℕ

-- nothing is shown yet, and nothing was accepted
abbrev pub at_first : Moment
at_first = record { tree = None; numbers = record { instance = 1; host = 1 }; journal = record { updates = []; resolutions = [] }; seen = 0 }

-- what a render with these lanes sees
abbrev pub seen_at : Program → Lanes → Moment → Sight
seen_at p lanes m = record { program = p; journal = m.journal; lanes = lanes; cut = cut_now m.journal; seen = m.seen }

-- a commit of a tree whose new nodes have their numbers
abbrev pub committed_as : Lanes → Moment → Numbers × Node → Moment
committed_as lanes m fixed =
    record { tree = Some fixed.1; numbers = fixed.0; journal = journal_after lanes (cut_now m.journal) fixed.1 m.journal; seen = (cut_now m.journal).resolutions }

-- a commit of what a render gives, if that is a tree
abbrev pub committed : Lanes → Moment → Place → Moment
committed lanes m empty = m
committed lanes m (made n) = committed_as lanes m (numbered m.numbers n)
committed lanes m (waits a) = m
committed lanes m (throws x) = m

-- the moment after a commit of a render with these lanes
abbrev pub rendered_at : Program → Lanes → Moment → Moment
rendered_at p lanes m = committed lanes m (fresh (seen_at p lanes m) m.tree)

-- the moment after an update that sets a hook of an instance
abbrev pub set_at : (instance number : ℕ) → ℤ → Lane → Moment → Moment
set_at i n x lane m =
    record m {
      journal = record m.journal {
        updates = m.journal.updates ++ record { target = hook i n; update = record { number = length m.journal.updates; op = op.Set x; lane = lane }; standing = Open } ∷ [];
      };
    }

-- a render with these lanes evaluates so many bodies, and as many places are dirty
abbrev pub AsMany : Program → Lanes → Moment → ℕ → Type 0
AsMany p lanes m n = (whole_evaluated (seen_at p lanes m) m.tree ≡ n) × (length (dirty_places (seen_at p lanes m) m.tree) ≡ n)
