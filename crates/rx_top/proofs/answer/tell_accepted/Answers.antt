use Rattle.std.proofs.Common.{◌∙◌, ap, subst}
use Rattle.rx_io.specs.Whole.{AppendsPart}
use Rattle.rx_rules.specs.Bounds.{node_bound}
use Rattle.rx_top.specs.Outcome.{accepted_line}
use Rattle.rx_top.proofs.answer.tell_accepted.Goals as goal

pub returns-in-Ok-clause-lost : goal.returns-in-Ok-clause-lost
returns-in-Ok-clause-lost g c h =
    let line = c.deref.ensures.value ∙ c.in-Ok.ensures ∙ ap (λ n. accepted_line n c.depth.result c.args.count) c.bound.ensures
    ∙ ap (λ d. accepted_line (node_bound c.args.checked.now) d c.args.count) c.depth.ensures in
    subst (λ l. AppendsPart (g.K.Sink.written c.args.out.now) (g.K.Sink.written c.tell.new.out) l) line (c.tell.ensures.lost h)
