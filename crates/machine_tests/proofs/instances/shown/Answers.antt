use Rattle.std.proofs.Common.{sym, subst}
use Rattle.rx_links.specs.Drafts.{Trees}
use Rattle.rx_fiber.specs.Fibers.{Fiber}
use Rattle.rx_fiber.specs.Reading.{IsTreeOf, gap, no_more}
use Rattle.rx_fiber.specs.Subtrees.{IsGathered}
use Rattle.rx_model.specs.State.{opening}
use Rattle.machine_tests.proofs.instances.shown.Goals as goal

pub show_hooks-requires-clause-gathered : goal.show_hooks-requires-clause-gathered
show_hooks-requires-clause-gathered c = subst (λ (t : Trees Fiber). IsGathered t.current) (sym c.new-tree.ensures) tt

pub show_hooks-requires-clause-keeps : goal.show_hooks-requires-clause-keeps
show_hooks-requires-clause-keeps c =
    (opening, (subst (λ (t : Trees Fiber). IsTreeOf opening.tree t.current) (sym c.new-tree.ensures) (gap no_more), c.new-hooks.ensures.opening c.args.checked.now))
