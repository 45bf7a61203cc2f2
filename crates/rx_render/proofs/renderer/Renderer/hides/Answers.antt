use Rattle.std.proofs.Common.{◌≡◌, false, None, Some, sym, ap, ◌∙◌, subst}
use Rattle.rx_elem.specs.Trees.{Node}
use Rattle.rx_links.specs.Drafts.{grafted}
use Rattle.rx_node.specs.Hides.{hides_within}
use Rattle.rx_fiber.specs.Reading.{IsTreeOf}
use Rattle.rx_read.specs.Lists.{list_of}
use Rattle.rx_read.proofs.Links.{from_draft}
use Rattle.rx_render.specs.Rendering.{Rendering}
use Rattle.rx_render.specs.contracts.renderer.Renderer.{the_view}
use Rattle.rx_render.proofs.Going.{over_gathered}
use Rattle.rx_render.proofs.RootTells.{first_hides, root_tells, told_by_root}
use Rattle.rx_render.proofs.renderer.Renderer.hides.Goals as goal

pub value-requires : goal.value-requires
value-requires c =
    (from_draft (the_view c.self.inside).trees c.facts.ensures.fits c.facts.ensures.linked (Some c.in-Some.root) (sym c.in-Some.is ∙ c.in_progress.ensures)).1

pub returns-in-Some : goal.returns-in-Some
returns-in-Some c =
    let v = the_view c.self.inside in
    subst (λ (w : Rendering). (x : Node) → IsTreeOf (Some x) (grafted w.trees.draft) → c.subtree.result.hides ≡ hides_within x) c.self.view_is
    (λ x h.
    ap (λ s. s.hides) c.subtree.ensures
    ∙ root_tells v.trees c.facts.ensures.fits c.facts.ensures.linked c.in-Some.root c.value.result.now
    (from_draft v.trees c.facts.ensures.fits c.facts.ensures.linked (Some c.in-Some.root) (sym c.in-Some.is ∙ c.in_progress.ensures)).1
    c.value.ensures.current c.value.ensures.made
    ∙ told_by_root v.trees c.facts.ensures.fits c.facts.ensures.linked (Some c.in-Some.root) (sym c.in-Some.is ∙ c.in_progress.ensures)
    (over_gathered v c.self.invariant (ap (λ w. w.at) c.self.view_is ∙ c.requires.over)) x h)

pub returns-in-None : goal.returns-in-None
returns-in-None c =
    let v = the_view c.self.inside in
    subst (λ (w : Rendering). (x : Node) → IsTreeOf (Some x) (grafted w.trees.draft) → false ≡ hides_within x) c.self.view_is
    (told_by_root v.trees c.facts.ensures.fits c.facts.ensures.linked None (sym c.in-None.is ∙ c.in_progress.ensures)
    (over_gathered v c.self.invariant (ap (λ w. w.at) c.self.view_is ∙ c.requires.over)))
