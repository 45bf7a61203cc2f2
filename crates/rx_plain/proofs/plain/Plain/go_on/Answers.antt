use Rattle.std.proofs.Common.{◌∙◌, ap}
use Rattle.std.specs.Prelude.{option_map}
use Rattle.rx_plain.specs.Plained.{Plained}
use Rattle.rx_plain.specs.Taking.{with_units}
use Rattle.rx_plain.proofs.Turning.{further_stands}
use Rattle.rx_plain.proofs.plain.Plain.go_on.Goals as goal

pub returns-clause-goes_on : goal.returns-clause-goes_on
returns-clause-goes_on c p s g bodies h few reached =
    let going = c.further.ensures ∙ ap (option_map (with_units c.args.units)) (c.take.ensures.value ∙ ap (λ (v : Plained). v.going) c.self.view_is) in
    further_stands p s g c.args.self.now _ c.args.units bodies h few reached (λ i. record (c.self.view_is i) { going = going i })
