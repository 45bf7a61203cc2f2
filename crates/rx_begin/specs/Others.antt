-- What the place of an element of no component leaves that is begun.
use Rattle.std.specs.Prelude.{◌≡◌, ℕ, ℤ, Bool, true, false, List, [], ◌∷◌, Option, Some, None, if◌then◌else◌, option_and_then}
use Rattle.rx_base.specs.Awaits.{Awaits}
use Rattle.rx_ctx.specs.Contexts.{Stack}
use Rattle.rx_elem.specs.Elements.{Element}
use Rattle.rx_elem.specs.Trees.{Node, caught_in, children_of, host_number, mark_of, of_boundary, of_catcher}
use Rattle.rx_catch.specs.declared.state.CatchState.TheVariants.{Caught}
use Rattle.rx_susp.specs.declared.boundary.BoundaryState.TheVariants.{Hidden}
use Rattle.rx_hooks.specs.declared.hook.Hook.{Hook}
use Rattle.rx_links.specs.Drafts.{Trees, old_of, valued}
use Rattle.rx_links.specs.Readers.{list_from}
use Rattle.rx_meaning.specs.Fresh.{Sight}
use Rattle.rx_fiber.specs.Fibers.{Fiber, as_cloned, as_matched, begun}
use Rattle.rx_fiber.specs.declared.stage.Origin.{Origin}
use Rattle.rx_fiber.specs.FiberView.{changed}
use Rattle.rx_fiber.specs.declared.stage.StageChange.TheVariants as change
use Rattle.rx_fiber.specs.OldLists.{fallback_list, primary_list, matched, old_elements, old_fibers}
use Rattle.rx_fiber.specs.Reading.{IsOld}
use Rattle.rx_fiber.specs.Stood.{gives_another}
use Rattle.rx_fiber.specs.Surround.{IsElementOf, fallback_in, is_catcher}
use Rattle.rx_causes.specs.declared.scene.Scene.{Scene}
use Rattle.rx_causes.specs.Marks.{mark_at, keeps_children}
use Rattle.rx_causes.specs.Scenes.{IsSceneOf}
use Rattle.rx_causes.specs.Hidden.{GivesHooksIn, HasCauseToTry, WaitsStill}
use Rattle.rx_children.specs.Nodes.{HasOpened, begun_stage, begun_children, begun_stack}
use Rattle.rx_children.specs.declared.node.Begun.{Begun}
use Rattle.rx_children.specs.declared.node.Begun.TheVariants as answers

-- the value that an error boundary had caught, if the element of a made fiber is one's and its old node had
abbrev pub caught_before : Trees Fiber → (p : ℕ) → Element → Option ℤ
caught_before t p e = if is_catcher e then option_and_then caught_in (mark_at t.current (old_of t.draft p)) else None

-- The fiber is begun over clones of its old node's children, or over its own, matched with those; that of an error boundary that had caught a value over clones of its old fallback, or over its fallback, matched with that.
pub data HasBegunNode (t : Trees Fiber) (st : Stack) (new : Trees Fiber) (st' : Stack) (p : ℕ) (e : Element) (origin : Origin) (again steady : Bool) (generation : ℕ) (b : Begun) : Type 0 where
  keeps : caught_before t p e ≡ None → keeps_children again (mark_at t.current (old_of t.draft p)) ≡ true
      → HasOpened (as_cloned steady) t new p (begun_stage e origin (option_and_then host_number (mark_at t.current (old_of t.draft p))))
      (old_elements (primary_list (list_from t.current (old_of t.draft p)))) (old_fibers (primary_list (list_from t.current (old_of t.draft p)))) b
      → st' ≡ begun_stack e (gives_another t.current (old_of t.draft p) e) st → HasBegunNode t st new st' p e origin again steady generation b
  opens : caught_before t p e ≡ None → keeps_children again (mark_at t.current (old_of t.draft p)) ≡ false
      → HasOpened (as_matched steady generation) t new p (begun_stage e origin (option_and_then host_number (mark_at t.current (old_of t.draft p)))) (begun_children e)
      (matched (primary_list (list_from t.current (old_of t.draft p))) (begun_children e)) b
      → st' ≡ begun_stack e (gives_another t.current (old_of t.draft p) e) st → HasBegunNode t st new st' p e origin again steady generation b
  keeps_caught : {x : ℤ} → caught_before t p e ≡ Some x → again ≡ true
      → HasOpened (as_cloned steady) t new p (begun (of_catcher (Caught x)))
      (old_elements (fallback_list (list_from t.current (old_of t.draft p)))) (old_fibers (fallback_list (list_from t.current (old_of t.draft p)))) b
      → st' ≡ st → HasBegunNode t st new st' p e origin again steady generation b
  opens_caught : {x : ℤ} → caught_before t p e ≡ Some x → again ≡ false
      → HasOpened (as_matched steady generation) t new p (begun (of_catcher (Caught x))) (fallback_in e ∷ [])
      (matched (fallback_list (list_from t.current (old_of t.draft p))) (fallback_in e ∷ [])) b
      → st' ≡ st → HasBegunNode t st new st' p e origin again steady generation b

-- The fiber is begun so; or its old node is a hidden boundary that waits still, and it comes to try its children, of which none is made.
pub data HasBegunOther (scene : Scene) (kept : ℕ → Option (List Hook)) (t : Trees Fiber) (st : Stack) (new : Trees Fiber) (st' : Stack) (p : ℕ) (e : Element) (origin : Origin) (stood again steady : Bool) (generation : ℕ) : Begun → Type 0 where
  begins : {b : Begun} → HasBegunNode t st new st' p e origin again steady generation b → HasBegunOther scene kept t st new st' p e origin stood again steady generation b
  hides : {a : Awaits} → IsElementOf t.current (old_of t.draft p) e → stood ≡ true → mark_at t.current (old_of t.draft p) ≡ Some (of_boundary (Hidden a))
      → ((s : Sight) (x : Node) → IsSceneOf scene s → IsOld t.current (old_of t.draft p) (Some x) → GivesHooksIn s kept (children_of x) → WaitsStill s a x)
      → new ≡ record t { draft = valued p (changed (change.Try origin)) t.draft } → st' ≡ st → HasBegunOther scene kept t st new st' p e origin stood again steady generation (answers.Hidden a)

-- if the old node is a hidden boundary, there is a cause to try its children again
abbrev pub IsCauseToTry : Scene → (kept : ℕ → Option (List Hook)) → Trees Fiber → ℕ → Type 0
IsCauseToTry scene kept t p = (x : Node) (a : Awaits) → IsOld t.current (old_of t.draft p) (Some x) → mark_of x ≡ of_boundary (Hidden a) → HasCauseToTry scene kept a x
