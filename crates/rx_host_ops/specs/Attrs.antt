-- The attributes that a list of handles stands for, and what becomes of each.
use Rattle.std.specs.Prelude.{ℕ, not, List, [], ◌∷◌, map, is_none, if◌then◌else◌}
use Rattle.std.specs.Borrow.{Bor}
use Rattle.rx_elem.specs.declared.attr.Attr.{Attr}
use Rattle.rx_forest.specs.declared.op.HostOp.{HostOp}
use Rattle.rx_forest.specs.declared.op.HostOp.TheVariants as op
use Rattle.rx_forest.specs.HostOps.{attr_named, has_attr}

-- what handles stand for
abbrev pub seen : List (Bor Attr) → List Attr
seen = map (λ r. r.now)

-- an old attribute is taken away, if it isn't among the new ones
abbrev pub unsets : (host : ℕ) → (new : List Attr) → Attr → List HostOp
unsets n new a = if is_none (attr_named new a.name) then op.UnsetAttr n a.name ∷ [] else []

-- a new attribute is given its value, if it isn't among the old ones with that value
abbrev pub sets : (host : ℕ) → (old : List Attr) → Attr → List HostOp
sets n old a = if not (has_attr old a) then op.SetAttr n a.name a.value ∷ [] else []
