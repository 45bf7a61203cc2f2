-- How many fibers there are along a render.
use Rattle.std.specs.Prelude.{◌≡◌, ℕ, ◌+◌, ◌*◌, ◌≤◌, Option, Some, None, refl}
use Rattle.std.proofs.Common.{arith, ap, subst}
use Rattle.rx_ast.specs.Syntax.{Program}
use Rattle.rx_rules.specs.Bounds.{node_bound}
use Rattle.rx_rules.specs.Versions.{node_limit}
use Rattle.rx_rules.specs.Keys.{KeysApart}
use Rattle.rx_ctx.specs.Contexts.{Stack}
use Rattle.rx_elem.specs.Trees.{Node}
use Rattle.rx_elem.specs.Spots.{node_count}
use Rattle.rx_lists.specs.Shapes.{Shape, size}
use Rattle.rx_lists.specs.Shapes as shapes
use Rattle.rx_links.specs.Drafts.{Trees, taken, made_size}
use Rattle.rx_meaning.specs.Fresh.{Sight, IsTree}
use Rattle.rx_meaning.specs.Cursor.{Cursor, StandsAtNode}
use Rattle.rx_model.specs.State.{State, Progress}
use Rattle.rx_model.specs.Committing.{sight_of}
use Rattle.rx_model.specs.Laws.{IsBounded}
use Rattle.rx_fiber.specs.Fibers.{Fiber}
use Rattle.rx_fiber.specs.Reading.{IsTreeOf}
use Rattle.rx_fiber.specs.Standing.{StandsAt}
use Rattle.render_laws.specs.InProgress.{InProgress}
use Rattle.room_laws.specs.Reached.{IsReached}
use Rattle.rx_render.specs.declared.at.At.{At}
use Rattle.rx_render.specs.Rendering.{Rendering, ComesTo, to_place, to_end, to_tree, to_wait}
use Rattle.rx_render.specs.Renders.{HasCome, IsUnderWay, Renders}
use Rattle.rx_render.proofs.Ending.{no_wait}

-- the fibers of both trees have room where a render stands
abbrev pub BothHaveRoom : Type 0
BothHaveRoom =
    (p : Program) (tree : Option Node) (t : Trees Fiber) (st : Stack) (at : Option ℕ) (c : Cursor) → KeysApart p → node_bound p ≤ node_limit p → IsTree p tree
    → IsTreeOf tree t.current → IsReached p tree c → StandsAtNode c → StandsAt t st at c → size t.current + made_size t.draft ≤ 3 * node_bound p

-- those of the current tree do
abbrev pub CurrentHasRoom : Type 0
CurrentHasRoom = (tree : Option Node) (s : Shape Fiber) → IsTreeOf tree s → size s ≤ 2 * node_count tree

-- no tree of a program has more nodes than the bound
abbrev pub TreesAreSmall : Type 0
TreesAreSmall = (p : Program) (tree : Option Node) → KeysApart p → node_bound p ≤ node_limit p → IsTree p tree → node_count tree ≤ node_bound p

module _ (room : BothHaveRoom) (p : Program) (bounded : IsBounded p) (s : Sight) (same : s.program ≡ p) (tree : Option Node) (is : IsTree p tree) (units bodies : ℕ) (t : Trees Fiber) (current : IsTreeOf tree t.current) (st : Stack) where
  stands_few : (at : Option ℕ) (c : Cursor) → InProgress s tree units bodies c → IsReached s.program tree c → StandsAt t st at c → size t.current + made_size t.draft ≤ 3 * node_bound p
  stands_few at c goes reached stands =
      room p tree t st at c bounded.apart bounded.small is current (subst (λ q. IsReached q tree c) same reached) goes.stands stands

  comes_few : (at : At) (c : Cursor) → ComesTo t st at c → InProgress s tree units bodies c → IsReached s.program tree c → size t.current + made_size t.draft ≤ 3 * node_bound p
  comes_few _ c (to_place {id = id} h) goes reached = stands_few (Some id) c goes reached h
  comes_few _ c (to_end {id = id} h) goes reached = stands_few (Some id) c goes reached h
  comes_few _ c (to_tree h) goes reached = stands_few None c goes reached h
  comes_few _ _ (to_wait {a = a}) goes reached = absurd (no_wait p bounded s tree same units bodies a goes)

-- if a render has come so far, there are at most three fibers for each node of the bound
come_few : BothHaveRoom → (s : Sight) (tree : Option Node) (v : Rendering) → IsBounded v.program → s.program ≡ v.program → IsTree v.program tree → IsTreeOf tree v.trees.current → HasCome s tree v
    → size v.trees.current + made_size v.trees.draft ≤ 3 * node_bound v.program
come_few room s tree v bounded same is current come =
    comes_few room v.program bounded s same tree is v.units v.bodies v.trees current v.contexts v.at come.cursor come.comes come.goes come.reached

-- so if a render of the machine is in progress
pub renders_few : BothHaveRoom → (v : Rendering) → IsBounded v.program → (st : State) (g : Progress) → Renders v.program st g v → IsTree v.program st.tree
    → size v.trees.current + made_size v.trees.draft ≤ 3 * node_bound v.program
renders_few room v bounded st g r is = come_few room (sight_of v.program st g) st.tree v bounded refl is r.current r.come

-- and if one is under way
pub way_few : BothHaveRoom → (v : Rendering) → IsBounded v.program → (way : IsUnderWay v) → IsTree v.program way.tree
    → size v.trees.current + made_size v.trees.draft ≤ 3 * node_bound v.program
way_few room v bounded way is = come_few room way.sight way.tree v bounded way.sees.program is way.current way.come

-- if nothing is in progress, at most two
pub idle_few : CurrentHasRoom → TreesAreSmall → (v : Rendering) → IsBounded v.program → (tree : Option Node) → v.trees.draft ≡ taken shapes.none → IsTreeOf tree v.trees.current
    → IsTree v.program tree → size v.trees.current + made_size v.trees.draft ≤ 2 * node_bound v.program
idle_few few small v bounded tree empty current is =
    omega (arith, ap made_size empty, few tree v.trees.current current, small v.program tree bounded.apart bounded.small is)
