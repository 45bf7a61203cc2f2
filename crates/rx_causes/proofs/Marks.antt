-- What the current fiber of a node tells of it.
use Rattle.std.specs.Prelude.{◌≡◌, ℕ, Option, Some, None, option_and_then, option_map}
use Rattle.std.proofs.Common.{refl, ap, ◌∙◌}
use Rattle.rx_elem.specs.Trees.{Node, mark_of, caught_in, host_number, instance_in, old_caught}
use Rattle.rx_lists.specs.Shapes.{Shape}
use Rattle.rx_links.specs.Drafts.{list_at}
use Rattle.rx_links.specs.Readers.{value_in}
use Rattle.rx_meaning.specs.Fresh.{old_instance, old_host}
use Rattle.rx_fiber.specs.Fibers.{Fiber}
use Rattle.rx_fiber.specs.Reading.{IsFor, whole, alone, beside, IsOld, new, of, next}
use Rattle.rx_causes.specs.Marks.{begun_mark, mark_at}

node_mark : (c : Shape Fiber) (j n : ℕ) (x : Node) (s rest : Shape Fiber) → IsFor n x s rest → list_at c j ≡ Some s → mark_at c (Some j) ≡ Some (mark_of x)
node_mark c j n _ _ rest (whole is shown a) here = ap (λ l. option_and_then (λ v. begun_mark v.stage) (value_in l)) here ∙ ap begun_mark is.stage
node_mark c j n _ _ rest (alone is hidden gone a) here = ap (λ l. option_and_then (λ v. begun_mark v.stage) (value_in l)) here ∙ ap begun_mark is.stage
node_mark c j n _ _ rest (beside is hidden some a s b) here = ap (λ l. option_and_then (λ v. begun_mark v.stage) (value_in l)) here ∙ ap begun_mark is.stage

-- its mark is that of the node
pub mark_is : (c : Shape Fiber) (o : Option ℕ) (old : Option Node) → IsOld c o old → mark_at c o ≡ option_map mark_of old
mark_is c _ _ new = refl
mark_is c _ _ (of {j = j} {n = n} {x = x} {s = s} here leads (next {rest = rest} is a)) = node_mark c j n x s rest is here

host_is : (old : Option Node) → option_and_then host_number (option_map mark_of old) ≡ old_host old
host_is None = refl
host_is (Some x) = refl

instance_is : (old : Option Node) → option_and_then instance_in (option_map mark_of old) ≡ old_instance old
instance_is None = refl
instance_is (Some x) = refl

caught_is : (old : Option Node) → option_and_then caught_in (option_map mark_of old) ≡ old_caught old
caught_is None = refl
caught_is (Some x) = refl

-- so is what it had caught
pub old_caught_is : (c : Shape Fiber) (o : Option ℕ) (old : Option Node) → IsOld c o old → option_and_then caught_in (mark_at c o) ≡ old_caught old
old_caught_is c o old is = ap (option_and_then caught_in) (mark_is c o old is) ∙ caught_is old

-- so are its numbers
pub old_host_is : (c : Shape Fiber) (o : Option ℕ) (old : Option Node) → IsOld c o old → option_and_then host_number (mark_at c o) ≡ old_host old
old_host_is c o old is = ap (option_and_then host_number) (mark_is c o old is) ∙ host_is old

pub old_instance_is : (c : Shape Fiber) (o : Option ℕ) (old : Option Node) → IsOld c o old → option_and_then instance_in (mark_at c o) ≡ old_instance old
old_instance_is c o old is = ap (option_and_then instance_in) (mark_is c o old is) ∙ instance_is old
