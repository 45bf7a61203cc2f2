use Rattle.std.proofs.Common.{refl, sym, ap, ◌∙◌, subst}
use Rattle.rx_links.specs.Drafts.{grafted}
use Rattle.rx_fiber.specs.Subtrees.{IsGathered}
use Rattle.rx_beside.specs.Alike.{AllTakeAlike}
use Rattle.rx_render.specs.contracts.renderer.Renderer.{the_view}
use Rattle.rx_render.proofs.Going.{ended_rendering, over_gathered}
use Rattle.rx_render.proofs.renderer.Renderer.commit.Goals as goal

pub invariant_of-self : goal.invariant_of-self
invariant_of-self c =
    let over = ap (λ v. v.at) c.self.view_is ∙ c.requires in
    ended_rendering (the_view c.self.inside) _ c.self.invariant refl refl
    (subst (λ t. IsGathered t.current) (sym c.swap.ensures) (over_gathered (the_view c.self.inside) c.self.invariant over))
    (subst (λ t. IsGathered (grafted t.draft)) (sym c.swap.ensures) tt) (subst (λ t. AllTakeAlike t.current t.draft) (sym c.swap.ensures) tt)
