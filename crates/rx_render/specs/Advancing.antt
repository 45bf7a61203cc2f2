-- What a unit needs and what it leaves, by the parts of a rendering.
use Rattle.std.specs.Prelude.{◌≡◌, ◌≤◌, ℕ, ℤ, suc, Bool, true, false, List, [], ◌∷◌, Option, Some, length}
use Rattle.rx_base.specs.Awaits.{Awaits}
use Rattle.rx_ast.specs.Syntax.{contexts}
use Rattle.rx_ctx.specs.Contexts.{Stack, values_at}
use Rattle.rx_susp.specs.declared.boundary.BoundaryState.TheVariants.{Hidden}
use Rattle.rx_elem.specs.Elements.{Element, Elements, Key, boundary}
use Rattle.rx_elem.specs.Trees.{Node, node, Forest, of_boundary, element_of}
use Rattle.rx_hooks.specs.declared.hook.Hook.{Hook}
use Rattle.rx_lists.specs.Shapes.{Shape}
use Rattle.rx_links.specs.Drafts.{Trees}
use Rattle.rx_links.specs.Readers.{IsLinked}
use Rattle.rx_meaning.specs.Again.{AllValuesAgree, AreUnresolved}
use Rattle.rx_meaning.specs.Fresh.{Sight, Contexts, part, shape_of, throwing}
use Rattle.rx_meaning.specs.Counts.{each_body, next_counts}
use Rattle.rx_meaning.specs.Cursor.{Frame, falling, Cursor, at_place, at_end, ended, open_part, arrive, is_null, unit, HasLevel}
use Rattle.rx_meaning.specs.Settled.{IfSettled, known_by}
use Rattle.rx_meaning.specs.Touched.{may_throw_anew, sees_refresh}
use Rattle.commit_laws.specs.Idle.{IsIdle, IsIdleMark}
use Rattle.commit_laws.specs.WaitsAgain.{without_lanes}
use Rattle.rx_fiber.specs.Fibers.{Fiber}
use Rattle.rx_fiber.specs.Reading.{IsOld}
use Rattle.rx_fiber.specs.Standing.{StandsAt}
use Rattle.rx_fiber.specs.Subtrees.{IsGathered}
use Rattle.rx_fiber.specs.Stood.{StandsSame}
use Rattle.rx_fiber.specs.Surround.{given_along}
use Rattle.rx_fiber.specs.Unwound.{is_guarded}
use Rattle.rx_complete.specs.Ends.{IsAtEnd}
use Rattle.rx_complete.specs.declared.completing.Next.{Next}
use Rattle.rx_complete.specs.declared.completing.Next.TheVariants.{Sibling, Parent, Done}
use Rattle.draw_laws.specs.Drawn.{IsDrawn}
use Rattle.rx_causes.specs.declared.scene.Scene.{Scene}
use Rattle.rx_causes.specs.Scenes.{IsSceneOf}
use Rattle.rx_causes.specs.Hidden.{GivesHooksIf}
use Rattle.rx_ways.specs.Ways.{CoversIf, is_way}
use Rattle.rx_begin.specs.Beginning.{ReadsTheSame}
use Rattle.rx_fallback.specs.declared.opening.Opened.{Opened}
use Rattle.rx_fallback.specs.declared.opening.Opened.TheVariants.{First, Empty}
use Rattle.rx_render.specs.declared.at.At.{At}
use Rattle.rx_render.specs.declared.at.At.TheVariants.{Begins, Completes, Over}
use Rattle.cost_laws.specs.Left.{Flags}
use Rattle.rx_render.specs.Rendering.{ComesTo}
use Rattle.rx_render.specs.Costing.{CausesAt, HasFlags, Paid}

-- what the next unit does after a node that is completed
abbrev pub at_after : Next → At
at_after (Sibling id) = Begins id
at_after (Parent id) = Completes id
at_after Done = Over

-- what it does after a fallback that is opened
abbrev pub at_opened : Opened → At
at_opened (First id) = Begins id
at_opened (Empty id) = Completes id

-- The render stands at a place of this fiber, at which it sees this scene, the hooks give it the values of all instances of the old node, and that is settled, and idle if it stands on no way: what stands there is an element that the program draws and for which there is a node.
pub record CanBegin (scene : Scene) (kept : ℕ → Option (List Hook)) (t : Trees Fiber) (st : Stack) (q : ℕ) : Type 0 where
  pub sight : Sight
  pub sees : IsSceneOf scene sight
  pub levels : ℕ
  pub frames : List Frame
  pub contexts_are : Contexts
  pub element : Element
  pub old : Option Node
  pub stands : StandsAt t st (Some q) (at_place (suc levels) frames contexts_are element old)
  pub there : is_null element ≡ false
  pub drawn : IsDrawn scene.checked.now element
  pub gives : GivesHooksIf sight kept old
  pub settled : IfSettled sight.program (known_by sight) old
  pub covers : CoversIf (is_way scene.ways.now) (IsIdleMark sight) old
  -- what throws there is below an error boundary that tries its children
  pub caught : (x : ℤ) → shape_of sight contexts_are element old ≡ throwing x → is_guarded frames ≡ true
  pub each : length (values_at st) ≡ length (contexts scene.checked.now)
  -- the current tree's fibers keep what is at or below them
  pub gathered : IsGathered t.current

-- a unit can be done
abbrev pub IsReadyAt : Scene → (kept : ℕ → Option (List Hook)) → Trees Fiber → Stack → At → Type 0
IsReadyAt scene kept t st (Begins id) = CanBegin scene kept t st id
IsReadyAt scene kept t st (Completes id) = IsAtEnd t st id
IsReadyAt scene kept t st Over = ⊥

-- the hooks give the values of all instances of the old node at the place of a cursor, and that is settled, and idle if it stands on no way
abbrev pub GivesAt : Sight → (way : ℕ → Bool) → (kept : ℕ → Option (List Hook)) → Cursor → Type 0
GivesAt s way kept (at_place levels fs cs e old) = GivesHooksIf s kept old × IfSettled s.program (known_by s) old × CoversIf way (IsIdleMark s) old
GivesAt s way kept (at_end levels fs o done) = Unit {0}
GivesAt s way kept (ended p) = Unit {0}

-- Where a render comes in one unit that evaluates so many bodies: where the unit of its cursor comes, past the attempt of a hidden boundary, or past a whole subtree. The last two evaluate none. The boundary's current fiber is shown, and each context has the same value as there, no resource has another version than the last commit showed, nothing that it awaits has a value, and nothing is new for what it keeps; the subtree read what the render gives where it stands, and it is idle.
pub data Goes (s : Sight) (current : Shape Fiber) (bodies : ℕ) : (before after : Cursor) → Type 0 where
  by_unit : {c : Cursor} → bodies ≤ next_counts each_body s c → Goes s current bodies c (unit s c)
  past_attempt : {n : ℕ} {fs : List Frame} {cs : Contexts} {key : Key} {f : Element} {es : Elements} {a : Awaits} {ns kept : Forest} {o : Option ℕ}
      → bodies ≡ 0 → IsLinked current → StandsSame current (given_along fs) o → IsOld current o (Some (node (boundary key f es) (of_boundary (Hidden a)) ns kept))
      → sees_refresh s ≡ false → may_throw_anew s ≡ false → AreUnresolved s a → AllValuesAgree (without_lanes s) s ns
      → Goes s current bodies (at_place (suc n) fs cs (boundary key f es) (Some (node (boundary key f es) (of_boundary (Hidden a)) ns kept)))
      (open_part n fs (falling (boundary key f es) (Some (node (boundary key f es) (of_boundary (Hidden a)) ns kept)) a) (part cs (f ∷ []) kept))
  past_subtree : {n : ℕ} {fs : List Frame} {cs : Contexts} {e : Element} {x : Node} {o : Option ℕ}
      → bodies ≡ 0 → IsLinked current → ReadsTheSame s current (given_along fs) cs o x → IsOld current o (Some x) → element_of x ≡ e → IsIdle s x
      → Goes s current bodies (at_place (suc n) fs cs e (Some x)) (arrive (suc n) fs (Some x))

-- what the parts come to from a cursor, with so many bodies; and what these cost, if the hooks tell which causes there are
pub record ComesFrom (s : Sight) (way : ℕ → Bool) (kept : ℕ → Option (List Hook)) (before : Trees Fiber) (from : At) (c : Cursor) (bodies : ℕ) (after : Trees Fiber) (st : Stack) (at : At) : Type 0 where
  pub next : Cursor
  pub goes : Goes s before.current bodies c next
  pub comes : ComesTo after st at next
  pub paid : (us : Flags) → CausesAt s way kept c → HasFlags before from us → Paid s before.current bodies us c next after at

-- the same from each cursor that they may stand for
abbrev pub Advances : Sight → (way : ℕ → Bool) → (kept : ℕ → Option (List Hook)) → (before : Trees Fiber) → Stack → At → (bodies : ℕ) → (after : Trees Fiber) → Stack → At → Type 0
Advances s way kept t st at bodies new st' at' = (c : Cursor) → ComesTo t st at c → HasLevel c → GivesAt s way kept c → ComesFrom s way kept t at c bodies new st' at'
