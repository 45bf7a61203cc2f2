use Rattle.std.proofs.Common.{◌≡◌, ◌≤◌, ◌∙◌, sym, ap, subst, arith}
use Rattle.rx_elem.specs.Spots.{node_count}
use Rattle.rx_links.specs.Drafts.{Trees}
use Rattle.rx_fiber.specs.Fibers.{Fiber}
use Rattle.rx_fiber.specs.Reading.{IsTreeOf}
use Rattle.rx_rules.specs.Versions.{greatest_node_limit}
use Rattle.rx_model.specs.Laws.{IsBounded}
use Rattle.rx_root.specs.Rooted.{Rooted}
use Rattle.rx_root.proofs.Lines.{few_nodes}
use Rattle.rx_root.proofs.root.Root.nodes.Goals as goal

pub returns : goal.returns
returns c s h =
    let fibers : c.fibers.result.now ≡ c.args.self.now.rendering.trees = c.fibers.ensures.trees ∙ ap (λ (v : Rooted). v.rendering.trees) c.self.view_is in
    let current = subst (λ (t : Trees Fiber). IsTreeOf s.tree t.current) (sym fibers) h.current in
    let program = ap (λ (v : Rooted). v.rendering.program) c.self.view_is in
    let few : node_count s.tree ≤ greatest_node_limit = few_nodes c.args.self.now.rendering.program (subst IsBounded program c.facts.ensures.bounded) s h.reached in
    omega (arith, c.node_count.ensures s.tree current, few)
