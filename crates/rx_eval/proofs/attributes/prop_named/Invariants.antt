use Rattle.std.proofs.Common.{◌≡◌, drop}
use Rattle.rx_meaning.specs.Body.{prop_named}
use Rattle.rx_eval.proofs.attributes.prop_named.Given as goal

-- the parameter is looked for among the attributes that are left
abbrev pub invariant-loop-attribute : goal.invariant-loop-attribute
invariant-loop-attribute l = prop_named l.evaluator l.env (drop l.attribute-index l.attributes) l.name ≡ prop_named l.evaluator l.env l.attributes l.name
