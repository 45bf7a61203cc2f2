use Rattle.render_laws.proofs.Bounded.{tree_within, given_within}
use Rattle.render_laws.proofs.laws.nodes_are_bounded.Goals as goal

pub returns : goal.returns
returns c =
    record {
      committed = λ p tree apart small t. tree_within p apart small tree t;
      rendered = λ p s old new same apart small t h. given_within s p same apart small old t new h;
    }
