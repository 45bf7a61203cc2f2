-- What the kept hooks tell of the causes at a place, and what the beginning of a place tells of the bodies that it evaluates.
use Rattle.std.specs.Prelude.{◌≡◌, ℕ, Bool, true, false, not, List, Option, Some, None, IsSome, is_some, option_and_then}
use Rattle.rx_base.specs.Awaits.{Awaits}
use Rattle.rx_elem.specs.Trees.{Node, children_of, instance_in, mark_of, of_boundary}
use Rattle.rx_ctx.specs.Contexts.{Stack}
use Rattle.rx_susp.specs.declared.boundary.BoundaryState.TheVariants.{Hidden}
use Rattle.rx_hooks.specs.declared.hook.Hook.{Hook}
use Rattle.rx_links.specs.Drafts.{Trees, old_of}
use Rattle.rx_links.specs.Readers.{made_value_of}
use Rattle.rx_meaning.specs.Fresh.{Contexts, Sight}
use Rattle.rx_fiber.specs.Fibers.{Fiber}
use Rattle.rx_fiber.specs.declared.stage.Origin.{Origin}
use Rattle.rx_fiber.specs.Standing.{is_stood}
use Rattle.rx_fiber.specs.Surround.{IsElementOf}
use Rattle.rx_meaning.specs.Again.{AreUnresolved}
use Rattle.rx_meaning.specs.Touched.{may_throw_anew, sees_refresh}
use Rattle.commit_laws.specs.Each as marks
use Rattle.rx_ways.specs.Ways.{Covers}
use Rattle.rx_causes.specs.Hidden.{ForEachIn, HasCauseToTry}
use Rattle.rx_causes.specs.Idle.{Rests}
use Rattle.rx_causes.specs.Marks.{EachBut, mark_at}
use Rattle.rx_causes.specs.Scenes.{IsSceneOf, TellsCalm, TellsNews}
use Rattle.rx_causes.specs.declared.scene.Scene.{Scene}
use Rattle.cost_laws.specs.Causes.{is_called, waits_still}
use Rattle.cost_laws.specs.Undue.{IsUndue}
use Rattle.rx_children.specs.Nodes.{parts_in}
use Rattle.rx_begin.specs.Kids.{HasKids}
use Rattle.rx_children.specs.Origins.{TellsAgain, TellsSteady}
use Rattle.rx_begin.specs.Others.{IsCauseToTry}

-- Kept hooks tell which causes an old node has: whether its component is called; of a hidden boundary, that something new has come for it, and that nothing has; and of which instances in its tree no update is due.
pub record TellsCauses (s : Sight) (kept : ℕ → Option (List Hook)) (x : Node) : Type 0 where
  pub called : (scene : Scene) (cs : Contexts) (calm : Bool) → IsSceneOf scene s → TellsCalm scene kept cs (instance_in (mark_of x)) calm → is_called s cs (instance_in (mark_of x)) ≡ not calm
  pub tried : (scene : Scene) (a : Awaits) → IsSceneOf scene s → mark_of x ≡ of_boundary (Hidden a) → HasCauseToTry scene kept a x → waits_still s (Some x) ≡ false
  pub waits : (a : Awaits) → mark_of x ≡ of_boundary (Hidden a) → sees_refresh s ≡ false → may_throw_anew s ≡ false → AreUnresolved s a → ForEachIn (λ i. TellsNews kept s.lanes s.cut i false) (children_of x) → waits_still s (Some x) ≡ true
  pub undue : (way : ℕ → Bool) → EachBut way (Rests kept s.lanes s.cut) x → Covers way (IsUndue s) x → marks.ForEach (IsUndue s) x

-- the same if there may be none
abbrev pub TellsIf : Sight → (kept : ℕ → Option (List Hook)) → Option Node → Type 0
TellsIf s kept None = Unit {0}
TellsIf s kept (Some x) = TellsCauses s kept x

-- The beginning of the place of a fiber tells whether it evaluated a body: that of no component evaluates none, and that of a component its body, unless its element is equal to the current one, and its instance is calm.
pub record TellsBody (scene : Scene) (kept : ℕ → Option (List Hook)) (t : Trees Fiber) (cs : Contexts) (id : ℕ) (evaluated : Bool) : Type 0 where
  pub none : (v : Fiber) → Some v ≡ made_value_of t.draft id → parts_in v.element ≡ None → evaluated ≡ false
  pub some : (v : Fiber) → Some v ≡ made_value_of t.draft id → IsSome (parts_in v.element) → (again : Bool) × TellsAgain (is_some (parts_in v.element)) t.current (old_of t.draft id) v again
      × (again ≡ true → TellsCalm scene kept cs (option_and_then instance_in (mark_at t.current (old_of t.draft id))) (not evaluated)) × (again ≡ false → evaluated ≡ true)

-- A hidden boundary's children are tried only for a cause, if its element is that of the current fiber, and that is shown, and no context has another value at the place.
abbrev pub TellsTries : Scene → (kept : ℕ → Option (List Hook)) → Trees Fiber → Stack → (id : ℕ) → Type 0
TellsTries scene kept t st id =
    (v : Fiber) → Some v ≡ made_value_of t.draft id → parts_in v.element ≡ None → IsElementOf t.current (old_of t.draft id) v.element → is_stood st v.stage ≡ true → IsCauseToTry scene kept t id

-- A fiber is begun over these children: their old ones are visible exactly if the fiber is steady.
pub record OpensKids (t new : Trees Fiber) (id : ℕ) : Type 0 where
  pub value : Fiber
  pub is : Some value ≡ made_value_of t.draft id
  pub origin : Origin
  pub steadiness : TellsSteady t.current (old_of t.draft id) value origin.visible
  pub kids : HasKids origin t new id
  pub current : new.current ≡ t.current
