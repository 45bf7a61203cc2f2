use Rattle.std.proofs.Common.{◌∙◌, sym, ap}
use Rattle.rx_set.specs.Sets.{holds}
use Rattle.rx_set.proofs.set.NumberSet.add.Goals as goal

pub note_next-requires-clause-none : goal.note_next-requires-clause-none
note_next-requires-clause-none c = ap (λ l. holds l c.args.number) (c.deref.ensures.value ∙ c.self.view_is) ∙ sym c.has.ensures ∙ c.if-has.false
