use Rattle.std.proofs.Common.{ap, ◌∙◌, ◌++◌}
use Rattle.rx_host_ops.specs.Beside.{beside, change_of, mark_of}
use Rattle.rx_host_ops.proofs.InPlace.{ops_in_place}
use Rattle.rx_host_ops.proofs.between.ops_in_place.Goals as goal

pub returns : goal.returns
returns c d =
    let old = c.args.old.now in
    let new = c.args.new.now in
    c.in_ok-add_all_marks.ensures
    ∙ ap (λ ops. ops ++ beside mark_of old new) (c.in_ok-add_all_changes.ensures ∙ ap (λ ops. ops ++ beside change_of old new) c.new-ops.ensures.items)
    ∙ ops_in_place old new c.requires d
