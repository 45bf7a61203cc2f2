use Rattle.std.specs.Prelude.{is_some}
use Rattle.std.proofs.Common.{◌≡◌, ◌∙◌, ap, subst, Bool}
use Rattle.rx_fiber.specs.Fibers.{Fiber}
use Rattle.rx_links.specs.Drafts.{old_of}
use Rattle.rx_children.specs.Nodes.{parts_in}
use Rattle.rx_children.specs.Origins.{TellsAgain}
use Rattle.rx_children.proofs.Nodes.{bare_made}
use Rattle.rx_children.proofs.Origins.{same_fiber}
use Rattle.rx_begin.proofs.before.is_as_before.Goals as goal

pub returns : goal.returns
returns c v here =
    let tree = c.args.tree.now in
    let same : c.value.result.now ≡ v = same_fiber tree c.args.at c.value.result.now v (c.value.ensures.made (bare_made tree c.args.at c.place_facts.ensures c.requires.bare)) here in
    let called : c.is_component-component.result ≡ is_some (parts_in v.element) = c.is_component-component.ensures ∙ ap (λ e. is_some (parts_in e)) (c.element.ensures ∙ ap (λ (u : Fiber). u.element) same) in
    subst (λ (b : Bool). TellsAgain b tree.current (old_of tree.draft c.args.at) v c.is_again.result) called (c.is_again.ensures v here)
