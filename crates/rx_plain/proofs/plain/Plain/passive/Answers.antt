use Rattle.std.proofs.Common.{◌∙◌, ap}
use Rattle.rx_sched.specs.Events.{no_event}
use Rattle.rx_plain.specs.Plained.{Plained}
use Rattle.rx_plain.proofs.Taken.{passive_done}
use Rattle.rx_plain.proofs.plain.Plain.passive.Goals as goal

pub returns-clause-rest : goal.returns-clause-rest
returns-clause-rest c =
    (λ i. record (c.self.view_is i) { event = c.new-self-inside.ensures i }) ∙ ap (λ (v : Plained). record v { event = no_event }) c.in_ok-flush_passive.ensures.ended

pub returns-clause-done : goal.returns-clause-done
returns-clause-done c p s h = passive_done p s c.args.self.now _ c.args.log.now c.flush_passive.new.log h (returns-clause-rest c) c.in_ok-flush_passive.ensures.written
