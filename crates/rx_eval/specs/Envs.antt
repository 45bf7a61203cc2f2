-- The values of names, on the stack of calls.
use Rattle.std.specs.Prelude.{[], ◌∷◌}
use Rattle.rx_meaning.specs.Expressions.{Env}
use Rattle.rx_eval.specs.declared.env.Bound.{Bound}
use Rattle.rx_eval.specs.declared.env.Bound.TheVariants as bound

-- the values of names, as the definitions have them
abbrev pub env_of : Bound → Env
env_of bound.Nothing = []
env_of (bound.Value x v rest) = (x.now, v) ∷ rest.now
