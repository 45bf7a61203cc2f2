-- What a body gives, as the definitions have it.
use Rattle.std.specs.Prelude.{List, ℤ, Option, Some, None}
use Rattle.std.specs.Borrow.{Bor}
use Rattle.rx_ast.specs.Syntax as syntax
use Rattle.rx_ast.specs.Syntax.{Slots, no_slots, body_slots}
use Rattle.rx_meaning.specs.Body as body
use Rattle.rx_eval.specs.declared.body.Body.{Body}
use Rattle.rx_eval.specs.declared.body.Body.TheVariants as given

-- what a body gives
abbrev pub body_seen : Body → body.Body
body_seen (given.Wait r v) = body.wait r v
body_seen (given.Throw x) = body.throw x
body_seen (given.Ready elements effects initials reads versions) =
    body.ready elements.items effects.items initials reads.items versions.items

-- the initial values of hooks that a body gives, if it is ready
abbrev pub initials_of : body.Body → Option (List ℤ)
initials_of (body.wait r v) = None
initials_of (body.throw x) = None
initials_of (body.ready es effects initials reads versions) = Some initials

-- the slots that are returned; none if they are not wanted
abbrev pub returned_slots : Option (Bor syntax.Body) → Slots
returned_slots None = no_slots
returned_slots (Some b) = body_slots b.now
