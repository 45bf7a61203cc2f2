use Rattle.std.proofs.Common.{◌∙◌, ap, arith, ◌-◌, ◌+◌, refl, sym}
use Rattle.rx_sched.specs.Links.{links_on}
use Rattle.rx_sched.proofs.Following.{last_round}
use Rattle.rx_sched.proofs.Reach.{next_round, rounds_done}
use Rattle.rx_sched.proofs.links.Links.reached.Goals as goal

pub loop-round-init : goal.loop-round-init
loop-round-init c = refl

pub loop-round-preserved : goal.loop-round-preserved
loop-round-preserved c =
    ap (links_on (20 - (c.loop-round._round + 1)) c.args.self.now c.args.pending) c.one_link_on-more.ensures
    ∙ next_round c.loop-round._round c.args.self.now c.args.pending c.loop-round.found (omega arith)
    ∙ c.loop-round.invariant

pub returns : goal.returns
returns c = rounds_done c.loop-round._round c.args.self.now c.args.pending c.loop-round.found _ (omega arith) c.loop-round.invariant

pub returns-then-within : goal.returns-then-within
returns-then-within c =
    last_round c.loop-round._round c.args.self.now c.args.pending c.loop-round.found c.one_link_on-more.result _ (omega arith) c.one_link_on-more.ensures
    (sym c.within.ensures ∙ c.if-within.true) c.loop-round.invariant
