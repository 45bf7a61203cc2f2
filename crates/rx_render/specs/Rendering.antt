-- A render in progress, as contracts see it.
use Rattle.std.specs.Prelude.{◌≡◌, ℕ, ◌-◌, Bool, List, Option, Some, None}
use Rattle.rx_base.specs.Awaits.{Awaits}
use Rattle.rx_base.specs.declared.cut.Cut.{Cut}
use Rattle.rx_lane.specs.Lanes.{Lanes}
use Rattle.rx_ast.specs.Syntax.{Program}
use Rattle.rx_ctx.specs.Contexts.{Stack}
use Rattle.rx_elem.specs.Elements.{Element}
use Rattle.rx_elem.specs.Trees.{Node}
use Rattle.rx_lists.specs.Shapes as shapes
use Rattle.rx_links.specs.Drafts.{Trees, taken}
use Rattle.rx_meaning.specs.Fresh.{Contexts, Place, waits}
use Rattle.rx_meaning.specs.Cursor.{Open, Frame, Cursor, at_place, at_end, ended}
use Rattle.rx_model.specs.Turns.{unit_bound}
use Rattle.rx_fiber.specs.Fibers.{Fiber}
use Rattle.rx_fiber.specs.Standing.{StandsAt}
use Rattle.rx_hook_store.specs.Store.{Kept}
use Rattle.rx_ways.specs.Ways.{Ways}
use Rattle.rx_resources.specs.Seen.{Resources}
use Rattle.rx_render.specs.declared.at.At.{At}
use Rattle.rx_render.specs.declared.at.At.TheVariants.{Begins, Completes, Over}

-- The program, the current tree of fibers and the one in progress, the hooks, and what the render sees: the contexts at the place that it has come to, the resources, its lanes and its cut, and the ways on which it may find a cause. Then what the next unit does, and the units and bodies so far; how many resolutions the last commit saw, and whether something may throw anew.
pub record Rendering : Type 0 where
  pub program : Program
  pub trees : Trees Fiber
  pub hooks : Kept
  pub contexts : Stack
  pub resources : Resources
  pub lanes : Lanes
  pub cut : Cut
  pub ways : Ways
  pub at : At
  pub units : ℕ
  pub bodies : ℕ
  pub seen : ℕ
  pub throws : Bool

-- a fact that is asked if a unit is left
abbrev pub IfLeft : At → Type 0 → Type 0
IfLeft (Begins id) A = A
IfLeft (Completes id) A = A
IfLeft Over A = Unit {0}

-- how many units are left at most, of so many in all
abbrev pub units_left : At → (bound units : ℕ) → ℕ
units_left (Begins id) bound units = bound - units
units_left (Completes id) bound units = bound - units
units_left Over bound units = 0

-- how many units of a render are left at most
abbrev pub left_of : Rendering → ℕ
left_of v = units_left v.at (unit_bound v.program) v.units

-- nothing is in progress
pub record HasNoRender (v : Rendering) : Type 0 where
  pub over : v.at ≡ Over
  pub empty : v.trees.draft ≡ taken shapes.none

-- The trees, the stack and what the next unit does say where a render stands. It may be over with a wait, if no boundary stands above: no program that is accepted comes there.
pub data ComesTo (t : Trees Fiber) (st : Stack) : At → Cursor → Type 0 where
  to_place : {id levels : ℕ} {fs : List Frame} {cs : Contexts} {e : Element} {old : Option Node}
      → StandsAt t st (Some id) (at_place levels fs cs e old) → ComesTo t st (Begins id) (at_place levels fs cs e old)
  to_end : {id levels : ℕ} {fs : List Frame} {o : Open} {done : List (Option Node)}
      → StandsAt t st (Some id) (at_end levels fs o done) → ComesTo t st (Completes id) (at_end levels fs o done)
  to_tree : {p : Place} → StandsAt t st None (ended p) → ComesTo t st Over (ended p)
  to_wait : {a : Awaits} → ComesTo t st Over (ended (waits a))
