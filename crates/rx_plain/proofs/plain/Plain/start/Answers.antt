use Rattle.std.proofs.Common.{◌∙◌, Some, List, ap}
use Rattle.rx_resources.specs.Kept.{Kept}
use Rattle.rx_resources.specs.Seen.{seen_of}
use Rattle.rx_plain.specs.Plained.{Plained}
use Rattle.rx_plain.proofs.Turning.{started_stands}
use Rattle.rx_plain.proofs.plain.Plain.start.Goals as goal

pub returns-clause-starts : goal.returns-clause-starts
returns-clause-starts c p s h none set =
    let v = c.args.self.now in
    let view = c.self.view_is ∙ c.in_ok-flush_passive.ensures.ended in
    started_stands p s c.args.lanes v _ (record { updates = c.self.inside.updates; resolutions = c.self.inside.resolutions }) c.in_ok-seen.seen c.none.result h none set
    (λ i. record { updates = (ap (λ (w : Plained). w.updates) view) i; resolutions = (ap (λ (w : Plained). w.resolutions) view) i })
    (c.in_ok-seen.ensures ∙ ap (λ (ks : List Kept). seen_of c.args.lanes (record { updates = c.self.inside.updates; resolutions = c.self.inside.resolutions }) ks) (ap (λ (w : Plained). w.resources) view))
    c.none.ensures
    (λ i. record (view i) { going = Some (record { lanes = c.args.lanes; cut = record { updates = c.self.inside.updates; resolutions = c.self.inside.resolutions }; seen = c.in_ok-seen.seen; units = 0; later = c.none.result }) })
