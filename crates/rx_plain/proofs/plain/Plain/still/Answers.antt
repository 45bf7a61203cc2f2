use Rattle.std.proofs.Common.{◌≡◌, cond, sym, ap, ◌∙◌}
use Rattle.rx_lane.specs.Lanes.{Lanes, no_lanes, one, union, intersection}
use Rattle.rx_lane.specs.declared.lane.Lane.TheVariants.{Retry}
use Rattle.rx_elem.specs.Trees.{Node}
use Rattle.rx_queue.specs.Journal.{version_of}
use Rattle.rx_meaning.specs.Outcome.{awaits_resolved}
use Rattle.rx_plain.specs.Plained.{Going}
use Rattle.rx_plain.proofs.Committing.{still_as, within_reach}
use Rattle.rx_plain.proofs.plain.Plain.still.Goals as goal
use Rattle.rx_plain.proofs.plain.Plain.still.Goals.{then-is_resolved_since, else-is_resolved_since}

pub returns : goal.returns
returns c s g x k e =
    let p = c.args.checked.now in
    let retry : c.if-is_resolved_since.retry ≡ cond c.is_resolved_since.result (one Retry) no_lanes =
    elim c.if-is_resolved_since.branch [
      | then-is_resolved_since w ↦ w.retry-is ∙ w.one-retry.ensures ∙ sym (ap (λ b. cond b (one Retry) no_lanes) w.if-is_resolved_since.true)
      | else-is_resolved_since w ↦ w.retry-is ∙ w.none-retry.ensures ∙ sym (ap (λ b. cond b (one Retry) no_lanes) w.if-is_resolved_since.false)
    ] in
    let waits : c.is_resolved_since.result ≡ awaits_resolved g.lanes g.cut s.journal x =
    c.is_resolved_since.ensures s g k
    ∙ c.awaited.ensures.resolved (version_of g.lanes g.cut s.journal) g.cut s.journal (within_reach p c.program.ensures.accepted s k.declared)
    ∙ ap (λ (n : Node). awaits_resolved g.lanes g.cut s.journal n) e
    ∙ c.ends_are_not_read.ensures.resolved g.lanes g.cut s.journal x in
    c.union.ensures
    ∙ ap (λ (both : Lanes). union both c.if-is_resolved_since.retry) (c.intersection-later.ensures ∙ ap (λ (y : Going). intersection y.lanes y.later) c.going.view_is ∙ ap (λ (ls : Lanes). intersection ls c.args.going.now.later) k.goes_on.lanes)
    ∙ ap (λ (ls : Lanes). union (intersection g.lanes c.args.going.now.later) ls) retry
    ∙ still_as s g x c.args.going.now.later c.is_resolved_since.result k.goes_on.later waits
