use Rattle.std.specs.Prelude.{◌≡◌, ◌∷◌, []}
use Rattle.std.specs.List.{zip}
use Rattle.rx_eval.proofs.Calls.{two_bound}
use Rattle.rx_eval.proofs.evaluator.Evaluator.answer.Goals as goal

pub returns-in-len2-up : goal.returns-in-len2-up
returns-in-len2-up c =
    let bound : zip c.args.function.now.parameters (c.args.state ∷ c.args.argument ∷ []) ≡ c.with-in-len2-up.result =
    rw (c.with-in-len2-up.ensures, c.with-bound.ensures, c.new-none.ensures, ← c.parameters.ensures)
    (two_bound c.parameters.result.now c.first-item-2.result c.second-item.result c.args.state c.args.argument c.in-len2-up.len_at_least c.first-item-2.is c.second-item.is) in
    rw bound c.behind-in-len2-up.ensures
