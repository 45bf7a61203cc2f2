-- What an old node has by its current fiber: its element, and what it hides.
use Rattle.std.specs.Prelude.{◌≡◌, ℕ, false, Option, Some, option_map, option_and_then}
use Rattle.std.specs.Option.{option_map_or}
use Rattle.std.proofs.Common.{refl, sym, ap, ◌∙◌}
use Rattle.rx_elem.specs.Elements.{Element}
use Rattle.rx_elem.specs.Trees.{Node, element_of, is_hidden}
use Rattle.rx_lists.specs.Shapes.{Shape}
use Rattle.rx_links.specs.Drafts.{list_at}
use Rattle.rx_links.specs.Readers.{value_in, value_of}
use Rattle.rx_fiber.specs.Fibers.{Fiber, Stage, waiting, begun, trying, guarding, fallback}
use Rattle.rx_fiber.specs.Reading.{IsFor, whole, alone, beside, IsOld, new, of, next}
use Rattle.rx_fiber.specs.Surround.{IsElementOf}
use Rattle.rx_causes.specs.Marks.{mark_at, begun_mark}
use Rattle.rx_children.specs.Origins.{StoodIn}
use Rattle.rx_fiber.specs.OldLists.{hides_in}

-- the element of an old node
pub node_element : (c : Shape Fiber) (j n : ℕ) (x : Node) (s rest : Shape Fiber) → IsFor n x s rest → list_at c j ≡ Some s → option_map (λ v. v.element) (value_in (list_at c j)) ≡ Some (element_of x)
node_element c j n _ _ rest (whole is shown a) here = ap (λ l. option_map (λ v. v.element) (value_in l)) here ∙ ap Some is.element
node_element c j n _ _ rest (alone is hidden gone a) here = ap (λ l. option_map (λ v. v.element) (value_in l)) here ∙ ap Some is.element
node_element c j n _ _ rest (beside is hidden some a s b) here = ap (λ l. option_map (λ v. v.element) (value_in l)) here ∙ ap Some is.element

-- it is that of its current fiber
pub stood_in : (c : Shape Fiber) (o : Option ℕ) (old : Option Node) (e : Element) → IsOld c o old → IsElementOf c o e → StoodIn old e
stood_in c _ _ e new same = cc
stood_in c _ _ e (of {j = j} {n = n} {x = x} {s = s} here leads (next {rest = rest} is a)) same = sym (node_element c j n x s rest is here) ∙ same

-- a stage hides what its mark hides
hides_as : (s : Stage) → option_map_or is_hidden (begun_mark s) false ≡ hides_in s
hides_as (waiting c) = refl
hides_as (begun m) = refl
hides_as (trying c) = refl
hides_as guarding = refl
hides_as (fallback a) = refl

pub mark_hides : (c : Shape Fiber) (o : Option ℕ) (v : Fiber) → option_and_then (value_of c) o ≡ Some v → option_map_or is_hidden (mark_at c o) false ≡ hides_in v.stage
mark_hides c o v e = ap (λ x. option_map_or is_hidden (option_and_then (λ (v : Fiber). begun_mark v.stage) x) false) e ∙ hides_as v.stage
