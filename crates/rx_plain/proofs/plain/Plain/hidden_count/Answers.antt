use Rattle.std.proofs.Common.{◌-◌, ◌^◌, ℕ, ◌∙◌, Option, ap}
use Rattle.std.specs.Prelude.{min}
use Rattle.rx_elem.specs.Spots.{hidden_count}
use Rattle.rx_elem.specs.Trees.{Node}
use Rattle.rx_plain.specs.Plained.{Plained}
use Rattle.rx_plain.proofs.Reading.{all_hidden}
use Rattle.rx_plain.proofs.plain.Plain.hidden_count.Goals as goal

pub returns : goal.returns
returns c p s bounded h =
    let tree = c.as_ref.ensures.value ∙ ap (λ (v : Plained). v.tree) c.self.view_is ∙ h.tree in
    all_hidden p bounded s h.reached c.hidden_count.result
    (c.hidden_count.ensures ∙ ap (λ (t : Option Node). min (hidden_count t) (2 ^ 32 - 1)) tree ∙ ap (λ (n : ℕ). min n (2 ^ 32 - 1)) (c.ends_are_not_read.ensures.hidden s.tree))
