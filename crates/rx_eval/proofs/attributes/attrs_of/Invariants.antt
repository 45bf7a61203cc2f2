use Rattle.std.proofs.Common.{◌≡◌, ◌++◌, drop}
use Rattle.std.specs.Prelude.{filter_map}
use Rattle.rx_meaning.specs.Body.{attr_in}
use Rattle.rx_eval.proofs.attributes.attrs_of.Given as goal

-- what was given so far, and what is given behind it
abbrev pub invariant-loop-attribute : goal.invariant-loop-attribute
invariant-loop-attribute l = l.attrs.items ++ filter_map (attr_in l.evaluator l.env) (drop l.attribute-index l.attributes) ≡ filter_map (attr_in l.evaluator l.env) l.attributes
