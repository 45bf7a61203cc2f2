use Rattle.std.proofs.Common.{ap, ◌∙◌}
use Rattle.rx_children.proofs.Results.{if_ok}
use Rattle.rx_fallback.proofs.Falling.{put_so}
use Rattle.rx_fallback.proofs.opening.put_fallback.Goals as goal

pub returns-clause-put : goal.returns-clause-put
returns-clause-put c =
    if_ok c.child_behind.result _ _
    (λ id is.
    put_so c.args.tree.now c.child_behind.new.self c.args.at id c.new.result c.args.old c.args.awaits c.value-fiber.result.now c.place_facts.ensures is
    (ap (λ v. v.stage) c.new.ensures) (c.value-fiber.ensures.made c.requires.made) (ap (λ v. v.element) c.new.ensures ∙ (c.in_ok-element.ensures ∙ c.element.ensures)))
    c.child_behind.ensures.ok
