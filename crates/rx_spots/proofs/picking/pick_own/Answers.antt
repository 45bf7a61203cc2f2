use Rattle.std.proofs.Common.{◌++◌, ap, sym, ◌∙◌}
use Rattle.rx_set.specs.Sets.{holds}
use Rattle.rx_node.specs.MarkView.{instance_seen, mark_seen}
use Rattle.rx_spots.proofs.Among.{among-own}
use Rattle.rx_spots.proofs.picking.pick_own.Goals as goal

pub returns-in_ok-push : goal.returns-in_ok-push
returns-in_ok-push c a owner visible =
    let asked = holds c.args.asked.now in
    let own =
    among-own asked a (mark_seen c.args.mark.now) (instance_seen c.in-Instance.instance) c.in-Some.number c.in_ok-below.field-0 (ap mark_seen c.in-Instance.is) c.in-Some.is
    (c.in_ok-below.ensures a owner visible) (sym c.has.ensures ∙ c.if-has.true) in
    c.in_ok-push.ensures.items ∙ ap (λ ms. c.args.found.now.items ++ ms) (sym own)
