-- Which number a fiber lacks.
use Rattle.std.specs.Prelude.{ℕ, Option, None, Some}
use Rattle.rx_elem.specs.Trees.{Mark, of_instance, of_host, of_boundary, of_catcher, plain}
use Rattle.rx_fiber.specs.Fibers.{Stage, waiting, begun, trying, guarding, fallback}
use Rattle.rx_read.specs.declared.numbering.Lack.{Lack}
use Rattle.rx_read.specs.declared.numbering.Lack.TheVariants.{Nothing, Instance, Host}

-- this, if there is no number
abbrev pub without : Lack → Option ℕ → Lack
without lack None = lack
without lack (Some n) = Nothing

-- what a mark lacks
abbrev pub mark_lacks : Mark → Lack
mark_lacks (of_instance i) = without Instance i.number
mark_lacks (of_host n) = without Host n
mark_lacks (of_boundary b) = Nothing
mark_lacks (of_catcher c) = Nothing
mark_lacks plain = Nothing

-- what a fiber of this stage lacks
abbrev pub stage_lacks : Stage → Lack
stage_lacks (waiting c) = Nothing
stage_lacks (begun m) = mark_lacks m
stage_lacks (trying c) = Nothing
stage_lacks guarding = Nothing
stage_lacks (fallback a) = Nothing
