-- What stands at a place once its fiber is begun.
use Rattle.std.specs.Prelude.{◌≡◌, ℕ, ℤ, Bool, true, false, Option}
use Rattle.rx_elem.specs.Trees.{Node, Mark, elements_in, children_if, is_hidden}
use Rattle.rx_links.specs.Drafts.{Trees, old_of}
use Rattle.rx_links.specs.Readers.{list_from}
use Rattle.rx_meaning.specs.Fresh.{Contexts, Part, part, Shape, waiting, throwing, one_list}
use Rattle.rx_fiber.specs.Fibers.{Fiber, as_cloned, as_matched, begun}
use Rattle.rx_fiber.specs.OldLists.{primary_list, matched, old_elements, old_fibers}
use Rattle.rx_causes.specs.Marks.{mark_at, keeps_children}
use Rattle.rx_children.specs.Nodes.{HasOpened}
use Rattle.rx_children.specs.declared.node.Begun.{Begun}
use Rattle.rx_children.specs.declared.node.Begun.TheVariants.{Suspended, Thrown}

-- what stands there is a node with one list, in these contexts, and its fiber is begun beside the old one's children
pub record IsOpened (steady : Bool) (generation : ℕ) (shape : Shape) (cs : Contexts) (old : Option Node) (before after : Trees Fiber) (p : ℕ) (answer : Begun) : Type 0 where
  pub mark : Mark
  pub list : Part
  pub shape_is : shape ≡ one_list mark list
  pub contexts : list.contexts ≡ cs
  pub was : list.old ≡ children_if old
  pub shown : is_hidden mark ≡ false
  pub opened : HasOpened (as_matched steady generation) before after p (begun mark) list.elements (matched (primary_list (list_from before.current (old_of before.draft p))) list.elements) answer

-- what stands there is a node with the children of the old one, and its fiber, whose element is given again, is begun over clones of these
pub record IsKept (again steady : Bool) (shape : Shape) (cs : Contexts) (old : Option Node) (before after : Trees Fiber) (p : ℕ) (answer : Begun) : Type 0 where
  pub mark : Mark
  pub shape_is : shape ≡ one_list mark (part cs (elements_in (children_if old)) (children_if old))
  pub shown : is_hidden mark ≡ false
  pub keeps : keeps_children again (mark_at before.current (old_of before.draft p)) ≡ true
  pub opened : HasOpened (as_cloned steady) before after p (begun mark) (old_elements (primary_list (list_from before.current (old_of before.draft p)))) (old_fibers (primary_list (list_from before.current (old_of before.draft p)))) answer

-- A component's place is begun, whether its element is given again or not: its body waits or throws, and no fiber is changed, or its node is begun, anew or over clones of the children of its old one.
pub data HasShape (again steady : Bool) (generation : ℕ) (shape : Shape) (cs : Contexts) (old : Option Node) (before after : Trees Fiber) (p : ℕ) (answer : Begun) : Type 0 where
  waits : (r v : ℕ) → shape ≡ waiting r v → after ≡ before → answer ≡ Suspended r → HasShape again steady generation shape cs old before after p answer
  throws : (x : ℤ) → shape ≡ throwing x → after ≡ before → answer ≡ Thrown x → HasShape again steady generation shape cs old before after p answer
  opens : IsOpened steady generation shape cs old before after p answer → HasShape again steady generation shape cs old before after p answer
  keeps : IsKept again steady shape cs old before after p answer → HasShape again steady generation shape cs old before after p answer
