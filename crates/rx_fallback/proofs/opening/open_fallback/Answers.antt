use Rattle.std.proofs.Common.{ap, inr, subst, sym, ◌∙◌, [], ◌∷◌}
use Rattle.rx_meaning.specs.Generations.{own_generation}
use Rattle.rx_fiber.specs.Fibers.{as_matched, generation_of, origin_of}
use Rattle.rx_fallback.specs.Opening.{HasFallbackKids}
use Rattle.rx_fiber.specs.Surround.{fallback_in}
use Rattle.rx_children.proofs.Results.{if_ok}
use Rattle.rx_children.proofs.Nodes.{bare_made}
use Rattle.rx_fallback.proofs.Falling.{left_bare, left_clone, left_element, left_origin}
use Rattle.rx_children.proofs.Origins.{same_fiber}
use Rattle.rx_fallback.proofs.opening.open_fallback.Goals as goal

pub is_again-again-requires-clause-clone : goal.is_again-again-requires-clause-clone
is_again-again-requires-clause-clone c = left_clone c.args.tree.now c.args.at c.args.awaits c.requires c.place_facts.ensures

pub value-fiber-requires : goal.value-fiber-requires
value-fiber-requires c = inr (bare_made c.args.tree.now c.args.at c.place_facts.ensures (left_bare c.args.tree.now c.args.at c.args.awaits c.requires))

pub returns-clause-opened : goal.returns-clause-opened
returns-clause-opened c =
    if_ok c.fall.result _ _
    (λ f h st d l.
    h st d l (
      c.deref.ensures.value ∙ (c.in_ok-fallback.ensures ∙ ap (λ x. fallback_in x ∷ []) (c.element.ensures
          ∙ left_element c.args.tree.now st c.args.at c.args.awaits d l c.place_facts.ensures c.value-fiber.result.now
          (c.value-fiber.ensures.made (bare_made c.args.tree.now c.args.at c.place_facts.ensures (left_bare c.args.tree.now c.args.at c.args.awaits c.requires))))),
      λ so.
          l.stands (sym (ap (λ x. x.visible) (c.origin-origin.ensures
          ∙ left_origin c.args.tree.now st c.args.at c.args.awaits d l c.place_facts.ensures c.value-fiber.result.now
          (c.value-fiber.ensures.made (bare_made c.args.tree.now c.args.at c.place_facts.ensures (left_bare c.args.tree.now c.args.at c.args.awaits c.requires))))) ∙ so),
    ))
    c.fall.ensures.opened

pub returns-clause-kids : goal.returns-clause-kids
returns-clause-kids c =
    if_ok c.fall.result _ _
    (λ f h v here.
    let own = c.origin-origin.ensures
    ∙ ap (λ u. origin_of u.stage) (same_fiber c.args.tree.now c.args.at c.value-fiber.result.now v
    (c.value-fiber.ensures.made (bare_made c.args.tree.now c.args.at c.place_facts.ensures (left_bare c.args.tree.now c.args.at c.args.awaits c.requires))) here) in (
      c.is_again-again.result,
      c.is_again-again.ensures v here,
      subst (λ x. HasFallbackKids (as_matched x (own_generation c.is_again-again.result (generation_of v.stage))) c.args.tree.now c.fall.new.tree c.args.at f) (ap (λ x. x.visible) own)
          (subst (λ n. HasFallbackKids (as_matched c.origin-origin.result.visible n) c.args.tree.now c.fall.new.tree c.args.at f)
          (c.own_generation-generation.ensures ∙ ap (λ x. own_generation c.is_again-again.result x.generation) own)
          h),
    ))
    c.fall.ensures.kids
