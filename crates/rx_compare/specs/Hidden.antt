-- What the boundaries wait for that a render hides, and what becomes of it.
use Rattle.std.specs.Prelude.{List, [], ◌∷◌, Option, Some, unwrap_or, if◌then◌else◌}
use Rattle.rx_base.specs.Awaits.{Awaits, nothing, union}
use Rattle.rx_elem.specs.Trees.{Node, mark_of, awaits_in}
use Rattle.rx_elem.specs.Compare.{Change}
use Rattle.rx_meaning.specs.Outcome as meaning
use Rattle.rx_meaning.specs.Outcome.{hides_shown}
use Rattle.rx_compare.specs.declared.outcome.Outcome.{Outcome}
use Rattle.rx_compare.specs.declared.outcome.Outcome.TheVariants.{Commit, Defer}

-- what all the boundaries wait for that these changes hide, with those before, if there is one
abbrev pub hidden_after : (before : Option Awaits) → List Change → Option Awaits
hidden_after before [] = before
hidden_after before (c ∷ cs) =
    hidden_after (if hides_shown c then Some (union (unwrap_or before nothing) (awaits_in (mark_of c.new))) else before) cs

-- what becomes of a render of this tree
abbrev pub outcome_seen : Node → Outcome → meaning.Outcome
outcome_seen new Commit = meaning.commit new
outcome_seen new (Defer awaits) = meaning.defer awaits
