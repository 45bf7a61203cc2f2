use Rattle.std.proofs.Common.{◌≡◌, ◌∙◌, ap, false}
use Rattle.std.specs.Option.{option_copied}
use Rattle.rx_elem.specs.Compare.{Past, above_root, change_of}
use Rattle.rx_elem.specs.Spots.{at_root}
use Rattle.rx_changes.specs.Found.{with_node}
use Rattle.rx_changes.specs.StepView.{step_seen}
use Rattle.rx_changes.proofs.Walking.{compare-step}
use Rattle.rx_changes.proofs.walk.changes_between.Goals as goal

pub returns : goal.returns
returns c =
    let past : Past = record { old = option_copied c.args.old; moved = false } in
    let new = c.args.new.now in
    let is : step_seen at_root c.new.result ≡ change_of above_root past new = c.new.ensures.is at_root ∙ ap (λ a. change_of a past new) c.root.ensures.above in
    c.in_ok-add_node.ensures at_root
    ∙ (λ i. with_node ((c.new.ensures.logs ∙ c.root.ensures.logs) i) (compare-step above_root past new (step_seen at_root c.new.result) is i) (c.new-found.ensures i))
