use Rattle.std.proofs.Common.{◌∙◌, Option, Some, None, ap}
use Rattle.rx_elem.specs.Trees.{Node}
use Rattle.rx_elem.specs.Compare.{compare_trees}
use Rattle.rx_changes.specs.Found.{Found, found_in}
use Rattle.rx_commit.proofs.Beside.{outcome-of}
use Rattle.rx_commit.proofs.deferring.deferral.Goals as goal

pub returns-in-Commit : goal.returns-in-Commit
returns-in-Commit c = λ old new beside present.
    let b = c.args.beside.now in
    let found = c.in_ok-changes.ensures ∙ ap (λ (t : Option Node). found_in (compare_trees t b.pruned_new)) c.as_ref-pruned.ensures.value in
    outcome-of old new b beside present c.args.lanes None (c.in-Commit.ensures b.pruned_old b.pruned_new (ap (λ (x : Found). x.hidden) found))

pub returns : goal.returns
returns c = λ old new beside present.
    let b = c.args.beside.now in
    let found = c.in_ok-changes.ensures ∙ ap (λ (t : Option Node). found_in (compare_trees t b.pruned_new)) c.as_ref-pruned.ensures.value in
    outcome-of old new b beside present c.args.lanes (Some c.in-Defer.awaits) (c.in-Defer.ensures b.pruned_old b.pruned_new (ap (λ (x : Found). x.hidden) found))
