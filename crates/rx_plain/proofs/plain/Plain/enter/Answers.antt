use Rattle.std.proofs.Common.{◌∙◌, ap}
use Rattle.rx_model.specs.Accepting.{event_of}
use Rattle.rx_plain.specs.Plained.{Plained}
use Rattle.rx_plain.proofs.Sending.{within_stands}
use Rattle.rx_plain.proofs.plain.Plain.enter.Goals as goal

pub returns-clause-event : goal.returns-clause-event
returns-clause-event c =
    let d = c.args.dispatch.now in
    (λ i. record (c.self.view_is i) { event = (c.dispatch_event-self-inside.ensures ∙ ap (λ (r : Plained). event_of d r.event) c.self.view_is) i })

pub returns-clause-stands : goal.returns-clause-stands
returns-clause-stands c p s h = within_stands p s c.args.dispatch.now c.args.self.now _ h (returns-clause-event c)
