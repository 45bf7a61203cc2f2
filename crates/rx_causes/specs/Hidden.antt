-- When a boundary that is hidden in the committed tree waits still, and what it keeps has no news.
use Rattle.std.specs.Prelude.{◌≡◌, ℕ, ℤ, true, false, List, Option, Some, None, ◌⊎◌, IsSome, option_and_then, slice_index_or}
use Rattle.rx_base.specs.Awaits.{Awaits, has}
use Rattle.rx_base.specs.declared.cut.Cut.{Cut}
use Rattle.rx_lane.specs.Lanes.{Lanes}
use Rattle.rx_elem.specs.Trees.{Forest, Instance, Node, children_if, children_of, instance_in, mark_of, of_boundary}
use Rattle.rx_susp.specs.declared.boundary.BoundaryState.TheVariants.{Hidden}
use Rattle.rx_queue.specs.History.{Answers}
use Rattle.rx_hooks.specs.declared.hook.Hook.{Hook}
use Rattle.rx_hooks.specs.Hooks.{HookHistory, HooksStandFor}
use Rattle.rx_lists.specs.Shapes.{Shape}
use Rattle.rx_meaning.specs.Again.{AllValuesAgree, AreUnresolved}
use Rattle.rx_meaning.specs.Fresh.{Sight, values_of}
use Rattle.rx_meaning.specs.Touched.{may_throw_anew, sees_refresh}
use Rattle.commit_laws.specs.Each as each
use Rattle.commit_laws.specs.WaitsAgain.{without_lanes}
use Rattle.rx_fiber.specs.Fibers.{Fiber, Stage}
use Rattle.rx_fiber.specs.Reading.{IsOld}
use Rattle.rx_hook_store.specs.Gives.{has_news_in}
use Rattle.rx_causes.specs.declared.scene.Scene.{Scene}
use Rattle.rx_causes.specs.Marks.{EachFiber, SomeFiber, SomeNodeIn, begun_mark}
use Rattle.rx_causes.specs.Scenes.{GivesHooks, KeepsHooks, TellsNews, number_in}

-- The instances of a tree

-- this holds of what each node of a tree has for its instance
abbrev pub ForEach : (Option Instance → Type 0) → Node → Type 0
ForEach P x = each.ForEach (λ m. P (instance_in m)) x

-- the same for the trees of a list
abbrev pub ForEachIn : (Option Instance → Type 0) → Forest → Type 0
ForEachIn P ns = each.ForEachIn (λ m. P (instance_in m)) ns

-- it holds of what some node of the trees of a list has for its instance
abbrev pub ForSomeIn : (Option Instance → Type 0) → Forest → Type 0
ForSomeIn P ns = SomeNodeIn (λ m. P (instance_in m)) ns

-- hooks are kept of each instance of some trees that has a number
abbrev pub KeepsHooksIn : (kept : ℕ → Option (List Hook)) → Forest → Type 0
KeepsHooksIn kept ns = ForEachIn (KeepsHooks kept) ns

-- they give the values that the render sees
abbrev pub GivesHooksIn : Sight → (kept : ℕ → Option (List Hook)) → Forest → Type 0
GivesHooksIn s kept ns = ForEachIn (GivesHooks s kept) ns

-- hooks are kept of each instance of an old tree that may be missing, and has a number
abbrev pub KeepsHooksIf : (kept : ℕ → Option (List Hook)) → Option Node → Type 0
KeepsHooksIf kept None = Unit {0}
KeepsHooksIf kept (Some x) = ForEach (KeepsHooks kept) x

-- they give the values that the render sees
abbrev pub GivesHooksIf : Sight → (kept : ℕ → Option (List Hook)) → Option Node → Type 0
GivesHooksIf s kept None = Unit {0}
GivesHooksIf s kept (Some x) = ForEach (GivesHooks s kept) x

-- The instances of a list of fibers

-- what a fiber of this stage has for its instance
abbrev pub instance_at : Stage → Option Instance
instance_at stage = option_and_then instance_in (begun_mark stage)

-- this holds of what each fiber of a list, and each below, has for its instance
abbrev pub ForEachFiber : (Option Instance → Type 0) → Shape Fiber → Type 0
ForEachFiber P s = EachFiber (λ m. P (option_and_then instance_in m)) s

-- it holds of what some fiber has for its instance
abbrev pub ForSomeFiber : (Option Instance → Type 0) → Shape Fiber → Type 0
ForSomeFiber P s = SomeFiber (λ m. P (option_and_then instance_in m)) s

-- News

-- an included update in the kept hooks of an instance is neither done nor owed
pub record HasNews (kept : ℕ → Option (List Hook)) (lanes : Lanes) (cut : Cut) (i : Option Instance) : Type 0 where
  pub number : ℕ
  pub is_numbered : number_in i ≡ Some number
  pub news : (answers : Answers) (hooks : List Hook) (histories : List HookHistory) → kept number ≡ Some hooks → HooksStandFor answers hooks histories → has_news_in lanes cut histories ≡ true

-- an instance, if it is there, has the values that a render without lanes sees
abbrev pub HasSameValues : Sight → Option Instance → Type 0
HasSameValues s i = (j : Instance) → i ≡ Some j → values_of (without_lanes s) j ≡ values_of s j

-- Each included update in the kept hooks of an instance is done or owed; so it has the values that a render without lanes sees, for each render with these lanes at this cut to which the hooks give its values.
pub record HasNoNews (kept : ℕ → Option (List Hook)) (lanes : Lanes) (cut : Cut) (i : Option Instance) : Type 0 where
  pub tells : TellsNews kept lanes cut i false
  pub same : (s : Sight) → s.lanes ≡ lanes → s.cut ≡ cut → GivesHooks s kept i → HasSameValues s i

-- Boundaries

-- one of these resources has a value
pub record HasValueOf (resources : List (Option ℤ)) (a : Awaits) : Type 0 where
  pub resource : ℕ
  pub awaited : has a resource ≡ true
  pub value : IsSome (slice_index_or resources resource None)

-- A current fiber stands for an old node, if it is there, and hooks are kept of each instance of what that keeps.
pub record KeepsOld (kept : ℕ → Option (List Hook)) (current : Shape Fiber) (o : Option ℕ) : Type 0 where
  pub node : Option Node
  pub was : IsOld current o node
  pub keeps : KeepsHooksIn kept (children_if node)

-- The old node is a boundary that is hidden and waits for these, of which none has a value; no resource has another version than the last commit showed; nothing may throw anew; and each instance of what it keeps has the values that a render without lanes sees.
pub record WaitsStill (s : Sight) (a : Awaits) (old : Node) : Type 0 where
  pub hidden : mark_of old ≡ of_boundary (Hidden a)
  pub unresolved : AreUnresolved s a
  pub versions : sees_refresh s ≡ false
  pub calm : may_throw_anew s ≡ false
  pub same : AllValuesAgree (without_lanes s) s (children_of old)

-- there is a cause to try its children again: a resource of the program has another version, something may throw anew, one of those that it waits for has a value, or an instance of what it keeps has news
abbrev pub HasCauseToTry : Scene → (kept : ℕ → Option (List Hook)) → Awaits → Node → Type 0
HasCauseToTry scene kept a old =
    (scene.refreshes ≡ true) ⊎ ((scene.throws ≡ true) ⊎ (HasValueOf scene.resources.now a ⊎ ForSomeIn (HasNews kept scene.lanes scene.cut) (children_of old)))
