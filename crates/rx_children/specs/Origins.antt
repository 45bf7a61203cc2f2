-- What is known of a place that begins beside its old node, and what is a cause to begin it.
use Rattle.std.specs.Prelude.{◌≡◌, ℕ, Bool, true, false, not, ◌&&◌, List, Option, Some, ◌⊎◌, option_and_then, option_map}
use Rattle.rx_elem.specs.Trees.{Node, element_of}
use Rattle.rx_hooks.specs.declared.hook.Hook.{Hook}
use Rattle.rx_lists.specs.Shapes.{Shape}
use Rattle.rx_links.specs.Drafts.{Trees, old_of}
use Rattle.rx_links.specs.Readers.{made_value_of, value_of}
use Rattle.rx_meaning.specs.Fresh.{Contexts}
use Rattle.rx_fiber.specs.Fibers.{Fiber, generation_of, is_cloned, is_visible}
use Rattle.rx_fiber.specs.OldLists.{hides_in}
use Rattle.rx_fiber.specs.Subtrees.{subtree_at}
use Rattle.rx_fiber.specs.Surround.{IsElementOf}
use Rattle.rx_causes.specs.Idle.{HasCauseIn}
use Rattle.rx_causes.specs.declared.scene.Scene.{Scene}
use Rattle.rx_elem.specs.Elements.{Element, kind_of, same_kind}

-- The current fiber of one that waits is shown, is of its element's kind, and hides nothing. So the children of that one are shown, and those of the fiber will stand below providers of the same contexts.
pub record IsSteady (current : Shape Fiber) (o : Option ℕ) (v : Fiber) : Type 0 where
  pub visible : is_visible v.stage ≡ true
  pub old : Fiber
  pub old_is : option_and_then (value_of current) o ≡ Some old
  pub shown : hides_in old.stage ≡ false
  pub kind : same_kind (kind_of v.element) (kind_of old.element) ≡ true

-- a test tells whether a place is steady
abbrev pub TellsSteady : Shape Fiber → Option ℕ → Fiber → Bool → Type 0
TellsSteady current o v b = (b ≡ true → IsSteady current o v) × (IsSteady current o v → b ≡ true)

-- the element of a place's fiber is that of the current fiber for which it was made, given again; or it is equal to that, and a component's
pub record IsAgain (component : Bool) (current : Shape Fiber) (o : Option ℕ) (v : Fiber) : Type 0 where
  pub generation : component ≡ false → generation_of v.stage ≡ 0
  pub same : IsElementOf current o v.element

-- a test tells whether it is
abbrev pub TellsAgain : (component : Bool) → Shape Fiber → Option ℕ → Fiber → Bool → Type 0
TellsAgain component current o v b = (b ≡ true → IsAgain component current o v) × (IsAgain component current o v → b ≡ true)

-- if the fiber of a place is a clone, its element is given again
abbrev pub KnowsClone : Trees Fiber → ℕ → Type 0
KnowsClone t p = (v : Fiber) → Some v ≡ made_value_of t.draft p → is_cloned v.stage ≡ true → IsAgain false t.current (old_of t.draft p) v

-- this element stands in an old node
abbrev pub StoodIn : Option Node → Element → Type 0
StoodIn old e = option_map element_of old ≡ Some e

-- There is a cause to begin a place whose element is given again: the tree of its old node leads to one; or it is not known to be shown or a context may have another value there, and an instance at or below the old node reads a context; or that is so or some resource has another version, and an instance there reads a resource.
abbrev pub HasCauseToBegin : Scene → (kept : ℕ → Option (List Hook)) → Contexts → (component stood : Bool) → Shape Fiber → Option ℕ → Type 0
HasCauseToBegin scene kept cs component stood current o =
    HasCauseIn scene kept cs component current o
    ⊎ (((stood ≡ false) × ((subtree_at current o).reads ≡ true)) ⊎ (((stood && not scene.refreshes) ≡ false) × ((subtree_at current o).uses ≡ true)))
