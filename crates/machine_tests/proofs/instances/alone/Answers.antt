use Rattle.std.proofs.Common.{◌≡◌, refl, sym, subst}
use Rattle.rx_links.specs.Drafts.{Trees, grafted}
use Rattle.rx_fiber.specs.Fibers.{Fiber, joined, nothing, own_subtree}
use Rattle.rx_fiber.specs.Subtrees.{IsGathered}
use Rattle.machine_tests.proofs.instances.alone.Goals as goal

-- the fiber keeps what it tells of itself, and nothing is below it
pub returns : goal.returns
returns c =
    let below = subst (λ b. c.change.new.self.subtree ≡ joined (own_subtree c.change.new.self.stage) b) c.nothing.ensures (subst (λ (v : Fiber). v.subtree ≡ joined (own_subtree v.stage) c.nothing.result) (sym c.change.ensures) refl) in
    subst (λ (t : Trees Fiber). IsGathered t.current) (sym c.swap.ensures)
    (subst (λ (t : Trees Fiber). IsGathered (grafted t.draft)) (sym c.in_ok-start.ensures.ok) (below, tt, tt))
