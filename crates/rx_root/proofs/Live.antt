-- How many fibers there are in a state.
use Rattle.std.specs.Prelude.{◌≡◌, ℕ, ◌*◌, ◌≤◌, Option, Some, None}
use Rattle.std.proofs.Common.{arith}
use Rattle.rx_ast.specs.Syntax.{Program}
use Rattle.rx_rules.specs.Bounds.{node_bound}
use Rattle.rx_elem.specs.Trees.{Node}
use Rattle.rx_lists.specs.Shapes.{none}
use Rattle.rx_links.specs.Drafts.{taken}
use Rattle.rx_meaning.specs.Fresh.{IsTree}
use Rattle.rx_model.specs.State.{State, Progress}
use Rattle.run_laws.proofs.RunTrees.{reached_tree}
use Rattle.rx_fiber.specs.Reading.{IsTreeOf}
use Rattle.rx_render.specs.Rendering.{Rendering}
use Rattle.rx_render.specs.Renders.{Renders}
use Rattle.rx_root.specs.Rooted.{Rooted}
use Rattle.rx_root.specs.Stands.{Stands, HasProgress}

-- a number of fibers is within the bound while a render is in progress
abbrev pub FewRendered : Program → Rendering → ℕ → Type 0
FewRendered p v n = (s : State) (g : Progress) → Renders p s g v → IsTree p s.tree → n ≤ 3 * node_bound p

-- and while none is
abbrev pub FewAtRest : Program → Rendering → ℕ → Type 0
FewAtRest p v n = (tree : Option Node) → v.trees.draft ≡ taken none → IsTreeOf tree v.trees.current → IsTree p tree → n ≤ 2 * node_bound p

-- so it is in each state
pub few : (p : Program) (v : Rooted) (n : ℕ) → FewRendered p v.rendering n → FewAtRest p v.rendering n → (s : State) → Stands p s v → n ≤ 3 * node_bound p
few p v n rendered rests s h = go s.progress h.progress
  where
    go : (o : Option Progress) → HasProgress p s o v → n ≤ 3 * node_bound p
    go None idle = let most = rests s.tree idle.empty h.current (reached_tree p s h.reached) in omega (arith, most)
    go (Some g) on = rendered s g on.renders (reached_tree p s h.reached)
