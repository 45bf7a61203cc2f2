use Rattle.std.proofs.Common.{◌++◌, ◌∙◌, [], ◌∷◌, ap, sym, arith}
use Rattle.rx_node.proofs.Listing.{height-get}
use Rattle.rx_compare.specs.ComparedView.{around_seen}
use Rattle.rx_changes.specs.Phases.{phase_seen}
use Rattle.rx_changes.proofs.Growing.{grown, none_more}
use Rattle.rx_changes.proofs.Logged.{old_lines, old_lines-append, old_lines-one}
use Rattle.rx_changes.proofs.past.+old.Goals as goal
use Rattle.rx_changes.proofs.past.+old.Goals.{add_old_list-in-Some+in_ok-add_old, add_old_list-in_default}

pub add_old_list-add_old-requires : goal.add_old_list-add_old-requires
add_old_list-add_old-requires t c =
    (omega (arith, c.decreases, height-get c.args.nodes.now c.loop-place.place c.in-Some.node _ c.loop-place-test.true (sym c.in-Some.is ∙ c.index-nodes-place.is)), tt)

pub add_old_list-loop-place-preserved : goal.add_old_list-loop-place-preserved
add_old_list-loop-place-preserved t c =
    let p = phase_seen c.args.phase in
    let a = around_seen c.args.around in
    let before = c.loop-place.lines.items in
    let after = c.match-nodes-place.lines.items in
    let x = c.index-nodes-place.result in
    grown (old_lines p a) (old_lines-append p a) c.args.nodes.now c.loop-place.place x c.args.lines.now.items before after
    c.loop-place-test.true c.index-nodes-place.is c.loop-place.invariant
    (elim c.match-nodes-place.branch [
      | add_old_list-in-Some+in_ok-add_old w ↦
          ap (λ v. v.items) w.lines-is
          ∙ w.in_ok-add_old.ensures
          ∙ ap (λ ls. before ++ ls) (old_lines-one p a w.in-Some.node)
          ∙ ap (λ y. before ++ old_lines p a (y ∷ [])) (sym w.in-Some.is)
      | add_old_list-in_default w ↦ none_more before after (old_lines p a (x ∷ [])) (ap (λ v. v.items) w.lines-is) (ap (λ y. old_lines p a (y ∷ [])) w.in_default.is)
    ])
