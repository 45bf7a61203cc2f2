use Rattle.std.specs.Prelude.{◌<◌, ◌+◌, ◌^◌}
use Rattle.std.proofs.Common.{refl, sym, ap, ◌∙◌, subst}
use Rattle.rx_links.specs.Drafts.{grafted, made_size}
use Rattle.rx_read.specs.NumbersView.{numbers_seen}
use Rattle.rx_fiber.specs.Subtrees.{IsGathered}
use Rattle.rx_render.specs.contracts.renderer.Renderer.{the_view}
use Rattle.rx_beside.specs.Alike.{AllTakeAlike}
use Rattle.rx_render.proofs.Alike.{numbered_alike}
use Rattle.rx_render.proofs.Gathering.{numbered_gathered}
use Rattle.rx_render.proofs.Going.{over_gathered, over_rendering}
use Rattle.rx_render.proofs.Sizes.{has_room}
use Rattle.rx_render.proofs.renderer.Renderer.number.Goals as goal

pub number_made-requires-clause-instances : goal.number_made-requires-clause-instances
number_made-requires-clause-instances c =
    subst (λ v. c.args.next.instance + made_size v.trees.draft < 2 ^ 64) (sym c.self.view_is) (has_room c.args.next.instance c.args.self.now.trees.draft c.requires.instances c.requires.few)

pub number_made-requires-clause-hosts : goal.number_made-requires-clause-hosts
number_made-requires-clause-hosts c =
    subst (λ v. c.args.next.host + made_size v.trees.draft < 2 ^ 64) (sym c.self.view_is) (has_room c.args.next.host c.args.self.now.trees.draft c.requires.hosts c.requires.few)

pub invariant_of-self : goal.invariant_of-self
invariant_of-self c =
    let over = ap (λ v. v.at) c.self.view_is ∙ c.requires.over in
    over_rendering (the_view c.self.inside) _ c.self.invariant refl over (ap (λ t. t.current) c.number_made.ensures.draft)
    (subst (λ t. IsGathered (grafted t.draft)) (sym c.number_made.ensures.draft)
    (numbered_gathered (numbers_seen c.args.next) (the_view c.self.inside).trees.draft (over_gathered (the_view c.self.inside) c.self.invariant over)))
    (subst (λ t. AllTakeAlike t.current t.draft) (sym c.number_made.ensures.draft)
    (numbered_alike (the_view c.self.inside).trees.current (numbers_seen c.args.next) (the_view c.self.inside).trees.draft c.self.invariant.gathering.1))
