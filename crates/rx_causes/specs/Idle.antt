-- When the old children of a clone are taken over: nothing in the tree of its old node has a cause to be rendered.
use Rattle.std.specs.Prelude.{◌≡◌, ℕ, Bool, true, false, List, Option, Some, None, ◌⊎◌, IsSome}
use Rattle.std.specs.Option.{option_map_or}
use Rattle.rx_base.specs.declared.cut.Cut.{Cut}
use Rattle.rx_lane.specs.Lanes.{Lanes}
use Rattle.rx_elem.specs.Trees.{Instance, Mark, Node, instance_in, mark_of, of_boundary, of_catcher, of_host, of_instance, plain}
use Rattle.rx_susp.specs.Boundary.{hides}
use Rattle.rx_queue.specs.History.{Answers}
use Rattle.rx_hooks.specs.declared.hook.Hook.{Hook}
use Rattle.rx_hooks.specs.Hooks.{HookHistory, HooksStandFor}
use Rattle.rx_lists.specs.Shapes.{Shape}
use Rattle.rx_meaning.specs.Fresh.{Contexts, Sight}
use Rattle.commit_laws.specs.Idle.{HasCommittedValues}
use Rattle.rx_fiber.specs.Fibers.{Fiber}
use Rattle.rx_fiber.specs.Reading.{IsOld}
use Rattle.rx_hook_store.specs.Gives.{has_work_in}
use Rattle.rx_ways.specs.Ways.{is_way}
use Rattle.rx_causes.specs.declared.scene.Scene.{Scene}
use Rattle.rx_causes.specs.Marks.{SomeNode, stands_on_way}
use Rattle.rx_causes.specs.Scenes.{GivesHooks, TellsWork, read_another}
use Rattle.rx_causes.specs.Hidden.{KeepsHooksIf}

-- Causes

-- an instance has no number yet, or an included update in its kept hooks is not done
pub data HasWork (kept : ℕ → Option (List Hook)) (lanes : Lanes) (cut : Cut) (i : Instance) : Type 0 where
  unnumbered : i.number ≡ None → HasWork kept lanes cut i
  works : (n : ℕ) → i.number ≡ Some n
      → ((answers : Answers) (hooks : List Hook) (histories : List HookHistory) → kept n ≡ Some hooks → HooksStandFor answers hooks histories → has_work_in lanes cut histories ≡ true)
      → HasWork kept lanes cut i

-- a node has a cause to be rendered, by its mark: its instance has work, or it is a hidden boundary
abbrev pub HasCause : (kept : ℕ → Option (List Hook)) → Lanes → Cut → Mark → Type 0
HasCause kept lanes cut (of_instance i) = HasWork kept lanes cut i
HasCause kept lanes cut (of_host h) = ⊥
HasCause kept lanes cut (of_boundary b) = hides b ≡ true
HasCause kept lanes cut (of_catcher c) = ⊥
HasCause kept lanes cut plain = ⊥

-- the same of a fiber; that of a fallback has no mark, and stands behind a hidden boundary
abbrev pub HasCauseAt : (kept : ℕ → Option (List Hook)) → Lanes → Cut → Option Mark → Type 0
HasCauseAt kept lanes cut None = ⊥
HasCauseAt kept lanes cut (Some m) = HasCause kept lanes cut m

-- a fiber leads to a cause, by its mark: its instance stands on a way, or it has one itself
abbrev pub LeadsAt : (way : ℕ → Bool) → (kept : ℕ → Option (List Hook)) → Lanes → Cut → Option Mark → Type 0
LeadsAt way kept lanes cut m = (stands_on_way way m ≡ true) ⊎ HasCauseAt kept lanes cut m

-- An instance has a number, and no included update in its kept hooks is not done; so it has the committed values for each render with these lanes at this cut to which the hooks give its values.
pub record HasNoWork (kept : ℕ → Option (List Hook)) (lanes : Lanes) (cut : Cut) (i : Instance) : Type 0 where
  pub number : ℕ
  pub is_numbered : i.number ≡ Some number
  pub tells : TellsWork kept lanes cut (Some i) false
  pub values : (s : Sight) → s.lanes ≡ lanes → s.cut ≡ cut → GivesHooks s kept (Some i) → HasCommittedValues s i

-- a node has no cause
abbrev pub HasNoCause : (kept : ℕ → Option (List Hook)) → Lanes → Cut → Mark → Type 0
HasNoCause kept lanes cut (of_instance i) = HasNoWork kept lanes cut i
HasNoCause kept lanes cut (of_host h) = Unit {0}
HasNoCause kept lanes cut (of_boundary b) = hides b ≡ false
HasNoCause kept lanes cut (of_catcher c) = Unit {0}
HasNoCause kept lanes cut plain = Unit {0}

-- neither has a fiber
abbrev pub HasNoCauseAt : (kept : ℕ → Option (List Hook)) → Lanes → Cut → Option Mark → Type 0
HasNoCauseAt kept lanes cut None = Unit {0}
HasNoCauseAt kept lanes cut (Some m) = HasNoCause kept lanes cut m

-- a node rests, by its mark: an instance has a number, and no included update in its kept hooks is not done
abbrev pub Rests : (kept : ℕ → Option (List Hook)) → Lanes → Cut → Mark → Type 0
Rests kept lanes cut (of_instance i) = IsSome i.number × TellsWork kept lanes cut (Some i) false
Rests kept lanes cut (of_host h) = Unit {0}
Rests kept lanes cut (of_boundary b) = Unit {0}
Rests kept lanes cut (of_catcher c) = Unit {0}
Rests kept lanes cut plain = Unit {0}

-- The old node of a clone

-- its instance read a context that has another value here, or a resource that the render sees in another version; a component's place counts so if it has none
abbrev pub is_anew : Scene → (component : Bool) → Contexts → Option Instance → Bool
is_anew scene component cs i = option_map_or (read_another scene cs) i component

-- a current fiber stands for an old node, if it is there, and hooks are kept of each instance of its tree
pub record KeepsTree (kept : ℕ → Option (List Hook)) (current : Shape Fiber) (o : Option ℕ) : Type 0 where
  pub node : Option Node
  pub was : IsOld current o node
  pub keeps : KeepsHooksIf kept node

-- there is a cause to begin a clone's place: its old node reads anew, or one of its tree leads to a cause
abbrev pub HasCauseIn : Scene → (kept : ℕ → Option (List Hook)) → Contexts → (component : Bool) → Shape Fiber → Option ℕ → Type 0
HasCauseIn scene kept cs component current o =
    (x : Node) → IsOld current o (Some x) → (is_anew scene component cs (instance_in (mark_of x)) ≡ true)
    ⊎ SomeNode (λ m. LeadsAt (is_way scene.ways.now) kept scene.lanes scene.cut (Some m)) x
