-- A place begins.
use Rattle.std.specs.Prelude.{◌≡◌, ℕ, ℤ, suc, Bool, true, false, List, [], ◌∷◌, Option, Some, None, ◌⊎◌}
use Rattle.rx_base.specs.Awaits.{Awaits, one}
use Rattle.rx_ast.specs.Syntax.{Program}
use Rattle.rx_ctx.specs.Contexts.{Stack}
use Rattle.rx_elem.specs.Elements.{Element, Elements, Key}
use Rattle.rx_elem.specs.Elements as elements
use Rattle.rx_elem.specs.Trees.{Forest, Node, element_of, node, of_boundary, fallback_if}
use Rattle.rx_susp.specs.declared.boundary.BoundaryState.TheVariants.{Hidden}
use Rattle.rx_hooks.specs.declared.hook.Hook.{Hook}
use Rattle.rx_lists.specs.Shapes as shapes
use Rattle.rx_links.specs.Drafts.{taken, Trees, old_of}
use Rattle.rx_links.specs.Readers.{made_value_of}
use Rattle.rx_meaning.specs.Again.{AllValuesAgree, AreUnresolved}
use Rattle.rx_meaning.specs.Fresh.{Sight, Contexts, Shape, absent, guarded, one_list, part, shape_of, throwing, two_lists, version_seen, waiting}
use Rattle.rx_meaning.specs.Settled.{IfSettled, known_by}
use Rattle.rx_meaning.specs.Touched.{may_throw_anew, sees_refresh}
use Rattle.rx_meaning.specs.Cursor.{Frame, falling, at_place, is_null, open_part, unit, unwind, unwind_throw}
use Rattle.commit_laws.specs.Idle.{IsIdle, IsIdleMark}
use Rattle.commit_laws.specs.WaitsAgain.{without_lanes}
use Rattle.rx_ways.specs.Ways.{CoversIf}
use Rattle.rx_fiber.specs.Fibers.{Fiber}
use Rattle.rx_fiber.specs.Passed.{IsPassed}
use Rattle.rx_fiber.specs.Reading.{IsOld}
use Rattle.rx_fiber.specs.Stood.{StandsSame}
use Rattle.rx_fiber.specs.Surround.{fallback_in, given_along}
use Rattle.rx_fiber.specs.Standing.{StandsAt, is_stood}
use Rattle.rx_fiber.specs.Unwound.{IsWithin, IsLeftAt}
use Rattle.draw_laws.specs.Drawn.{IsDrawn}
use Rattle.rx_causes.specs.Hidden.{KeepsHooksIf, GivesHooksIf}
use Rattle.rx_causes.specs.Reads.{ContextsHold, VersionsHold}
use Rattle.rx_children.specs.Again.{HasOldFallback}
use Rattle.rx_children.specs.declared.node.Begun.{Begun}
use Rattle.rx_children.specs.declared.node.Begun.TheVariants.{Child, Leaf, Suspended, Taken, Thrown}
use Rattle.rx_children.specs.declared.node.Begun.TheVariants as answers
use Rattle.rx_children.specs.Units.{IsPlace, IsEnd}

-- The render stands at a place of this fiber, which begins next: what stands there is an element that the program draws and for which there is a node, and hooks are kept of all instances of its old node.
pub data IsAtPlace (p : Program) (kept : ℕ → Option (List Hook)) (t : Trees Fiber) (st : Stack) (q : ℕ) : Type 0 where
  stands : {n : ℕ} {fs : List Frame} {cs : Contexts} {e : Element} {old : Option Node}
      → StandsAt t st (Some q) (at_place (suc n) fs cs e old) → is_null e ≡ false → IsDrawn p e → KeepsHooksIf kept old → IsAtPlace p kept t st q

-- The place is that of a hidden boundary, with its element and where it stood, as its fiber tells, which waits still for these: its children are not tried, and its fallback opens next.
pub record IsHiddenAgain (s : Sight) (t : Trees Fiber) (st : Stack) (new : Trees Fiber) (st' : Stack) (p n : ℕ) (fs : List Frame) (cs : Contexts) (e : Element) (old : Option Node) (a : Awaits) : Type 0 where
  pub key : Key
  pub fallback : Element
  pub given : Elements
  pub boundary : e ≡ elements.boundary key fallback given
  pub kept : Forest
  pub shown : Forest
  pub was : old ≡ Some (node e (of_boundary (Hidden a)) kept shown)
  pub unresolved : AreUnresolved s a
  pub versions : sees_refresh s ≡ false
  pub calm : may_throw_anew s ≡ false
  pub agree : AllValuesAgree (without_lanes s) s kept
  pub old_is : IsOld t.current (old_of t.draft p) old
  pub stood : StandsSame t.current (given_along fs) (old_of t.draft p)
  pub told : (v : Fiber) → Some v ≡ made_value_of t.draft p → is_stood st v.stage ≡ true
  pub left : IsLeftAt new st' p (taken shapes.none) a (open_part n fs (falling e old a) (part cs (fallback_in e ∷ []) (fallback_if old)))
  pub again : HasOldFallback new.current (given_along left.frames) left.old left.node left.value.element

-- What is rendered of an old tree read what a render gives at a place: the tree is shown, and stands where each context has the same value, or read those that are given here; and it stands so, and no resource has another version than the last commit showed, or it read the versions that the render sees.
pub record ReadsTheSame (s : Sight) (current : shapes.Shape Fiber) (ws : List (ℕ × ℤ)) (cs : Contexts) (o : Option ℕ) (x : Node) : Type 0 where
  pub contexts : StandsSame current ws o ⊎ ContextsHold cs x
  pub versions : (StandsSame current ws o × (sees_refresh s ≡ false)) ⊎ VersionsHold (version_seen s) x

-- The place is that of a clone whose old node is idle, and read what the render gives here: its old children are taken over, and it is done.
pub record IsTakenOver (s : Sight) (t new : Trees Fiber) (st' : Stack) (p : ℕ) (fs : List Frame) (cs : Contexts) (e : Element) (old : Option Node) : Type 0 where
  pub node : Node
  pub was : old ≡ Some node
  pub same : element_of node ≡ e
  pub idle : IsIdle s node
  pub old_is : IsOld t.current (old_of t.draft p) old
  pub reads : ReadsTheSame s t.current (given_along fs) cs (old_of t.draft p) node
  pub passed : IsPassed new st' p fs node

-- what stands there has a list of children, or two
abbrev pub HasLists : Shape → Type 0
HasLists absent = ⊥
HasLists (waiting r v) = ⊥
HasLists (throwing x) = ⊥
HasLists (one_list m p) = Unit {0}
HasLists (two_lists p f) = Unit {0}
HasLists (guarded p f) = Unit {0}

-- What a unit leaves that begins the place of a fiber: the render stands at the first child, or at the fiber's end; or a body waits or throws, and all is as it was; or a hidden boundary waits still; or old children are taken over.
abbrev pub HasBegun : Sight → (before : Trees Fiber) → Stack → (after : Trees Fiber) → Stack → (at : ℕ) → (levels : ℕ) → List Frame → Contexts → Element → Option Node → Begun → Type 0
HasBegun s t st new st' p n fs cs e old (Child id) =
    StandsAt new st' (Some id) (unit s (at_place (suc n) fs cs e old)) × IsPlace (unit s (at_place (suc n) fs cs e old)) × HasLists (shape_of s cs e old)
HasBegun s t st new st' p n fs cs e old Leaf =
    StandsAt new st' (Some p) (unit s (at_place (suc n) fs cs e old)) × IsEnd (unit s (at_place (suc n) fs cs e old)) × HasLists (shape_of s cs e old)
HasBegun s t st new st' p n fs cs e old (Suspended r) =
    ((v : ℕ) × (shape_of s cs e old ≡ waiting r v))
    × (unit s (at_place (suc n) fs cs e old) ≡ unwind (suc n) fs (one r))
    × (new ≡ t)
    × (st' ≡ st)
    × IsWithin new st' p fs
HasBegun s t st new st' p n fs cs e old (Thrown x) =
    (shape_of s cs e old ≡ throwing x)
    × (unit s (at_place (suc n) fs cs e old) ≡ unwind_throw (suc n) fs x)
    × (new ≡ t)
    × (st' ≡ st)
    × IsWithin new st' p fs
HasBegun s t st new st' p n fs cs e old (answers.Hidden a) = IsHiddenAgain s t st new st' p n fs cs e old a
HasBegun s t st new st' p n fs cs e old Taken = IsTakenOver s t new st' p fs cs e old

-- whether old children are taken over
abbrev pub is_taken : Begun → Bool
is_taken (Child id) = false
is_taken Leaf = false
is_taken (Suspended r) = false
is_taken (Thrown x) = false
is_taken (answers.Hidden a) = false
is_taken Taken = true

-- whether the fiber is begun over children of its own, or over none
abbrev pub is_opened : Begun → Bool
is_opened (Child id) = true
is_opened Leaf = true
is_opened (Suspended r) = false
is_opened (Thrown x) = false
is_opened (answers.Hidden a) = false
is_opened Taken = false

-- what is waited for still, if a hidden boundary is not tried
abbrev pub awaited_again : Begun → Option Awaits
awaited_again (Child id) = None
awaited_again Leaf = None
awaited_again (Suspended r) = None
awaited_again (Thrown x) = None
awaited_again (answers.Hidden a) = Some a
awaited_again Taken = None

-- the same, from each cursor at which the render may stand, over an old node that is settled, and idle below each instance that stands on no way
abbrev pub BeginsPlace : Sight → (way : ℕ → Bool) → (kept : ℕ → Option (List Hook)) → (before : Trees Fiber) → Stack → (after : Trees Fiber) → Stack → (at : ℕ) → Begun → Type 0
BeginsPlace s way kept t st new st' p b =
    (n : ℕ) (fs : List Frame) (cs : Contexts) (e : Element) (old : Option Node)
    → StandsAt t st (Some p) (at_place (suc n) fs cs e old) → GivesHooksIf s kept old → IfSettled s.program (known_by s) old → CoversIf way (IsIdleMark s) old → HasBegun s t st new st' p n fs cs e old b
