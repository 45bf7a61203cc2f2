use Rattle.std.proofs.Common.{◌≡◌, cond, sym, ap, ◌∙◌}
use Rattle.rx_lane.specs.Lanes.{Lanes, no_lanes, one, union, intersection}
use Rattle.rx_lane.specs.declared.lane.Lane.TheVariants.{Retry}
use Rattle.rx_root.specs.Rooted.{Rooted}
use Rattle.rx_root.proofs.CommitReady.{still_as}
use Rattle.rx_root.proofs.root.Root.still.Goals as goal
use Rattle.rx_root.proofs.root.Root.still.Goals.{then-branch, else-branch}

pub returns : goal.returns
returns c p s g tree k there =
    let retry : c.if-branch.retry ≡ cond c.in_ok-has_retry.field-0 (one Retry) no_lanes =
    elim c.if-branch.branch [
      | then-branch w ↦ w.retry-is ∙ w.one-retry.ensures ∙ sym (ap (λ b. cond b (one Retry) no_lanes) w.if-branch.true)
      | else-branch w ↦ w.retry-is ∙ w.none-retry.ensures ∙ sym (ap (λ b. cond b (one Retry) no_lanes) w.if-branch.false)
    ] in
    let lanes = c.lanes.ensures ∙ ap (λ (v : Rooted). v.rendering.lanes) c.self.view_is ∙ k.lanes in
    c.union.ensures
    ∙ ap (λ (both : Lanes). union both c.if-branch.retry)
    (c.intersection-later.ensures ∙ ap (λ (ls : Lanes). intersection ls c.self.inside.later) lanes ∙ ap (λ (v : Rooted). intersection g.lanes v.later) c.self.view_is)
    ∙ ap (λ (ls : Lanes). union (intersection g.lanes c.args.self.now.later) ls) retry
    ∙ still_as s g tree c.args.self.now.later c.in_ok-has_retry.field-0 k.later (c.in_ok-has_retry.ensures p s g tree k there)
