use Rattle.std.proofs.Common.{◌∙◌}
use Rattle.std.proofs.lemmas.Result.{on_ok_weaker}
use Rattle.rx_elem.specs.Numbers.{numbered}
use Rattle.rx_render.proofs.settle.settle_whole.Goals as goal

pub returns-clause-settled : goal.returns-clause-settled
returns-clause-settled c =
    on_ok_weaker c.settle_all.result
    (λ told s g x h.
    told s g x (rw (c.as_ref.ensures.value ∙ c.in_ok-old.ensures s.tree h.current, c.in_ok-new.ensures (numbered s.numbers x).1 h.finished) h.settling))
    c.settle_all.ensures.settled
