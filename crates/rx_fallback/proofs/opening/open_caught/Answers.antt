use Rattle.std.proofs.Common.{inr, refl, sym, ap, subst, ◌∙◌, [], ◌∷◌}
use Rattle.rx_fiber.specs.Surround.{fallback_in}
use Rattle.rx_fallback.specs.Opening.{HasOpenedAs}
use Rattle.rx_children.proofs.Nodes.{bare_made}
use Rattle.rx_fallback.proofs.Catching.{catch_bare, catch_beside, caught_element, caught_kids, caught_stands}
use Rattle.rx_fallback.proofs.opening.open_caught.Goals as goal

pub value-requires : goal.value-requires
value-requires c = inr (bare_made c.args.tree.now c.args.at c.place_facts.ensures (catch_bare c.args.tree.now c.args.at c.requires))

pub open_list-requires-clause-beside : goal.open_list-requires-clause-beside
open_list-requires-clause-beside c = catch_beside c.args.tree.now c.args.at c.requires

pub returns-clause-opened : goal.returns-clause-opened
returns-clause-opened c st d l =
    let made = bare_made c.args.tree.now c.args.at c.place_facts.ensures (catch_bare c.args.tree.now c.args.at c.requires) in
    subst (λ f. HasOpenedAs c.open_list.new.tree st d f) (sym c.opened_at.ensures)
    (caught_stands c.args.tree.now st c.args.at c.args.value d l c.facts.ensures.linked c.open_list.new.tree _ _ c.in_ok-first.first c.in_ok-first.ensures.opened
    (c.deref.ensures.value ∙ (c.in_ok-fallback.ensures ∙ ap (λ e. fallback_in e ∷ []) (c.element.ensures ∙ caught_element c.args.tree.now st c.args.at c.args.value d l c.facts.ensures.linked c.place_facts.ensures c.value.result.now (c.value.ensures.made made)))) refl)

pub returns-clause-kids : goal.returns-clause-kids
returns-clause-kids c = caught_kids c.args.tree.now c.open_list.new.tree c.args.at c.args.value _ c.in_ok-first.first c.opened_at.result c.in_ok-first.ensures.opened c.opened_at.ensures
