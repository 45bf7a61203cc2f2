use Rattle.std.proofs.Common.{sym, ap, ◌∙◌, subst, ◌≡◌}
use Rattle.rx_lists.specs.Shapes.{first, Holds}
use Rattle.rx_links.specs.Readers.{rest_of}
use Rattle.rx_fiber.proofs.OldReads.{some_held}
use Rattle.rx_children.proofs.Behind.{IsClonedUpTo, none_cloned, all_cloned, can_stand, more_cloned}
use Rattle.rx_children.proofs.clones.clone_children.Goals as goal

pub cloning-init : goal.cloning-init
cloning-init c = none_cloned c.args.visible c.args.tree.now c.args.at c.args.first_old c.requires.held

pub clone_next-requires-clause-stands : goal.clone_next-requires-clause-stands
clone_next-requires-clause-stands c =
    can_stand c.args.visible c.args.tree.now c.cloning.tree c.args.at c.args.first_old c.facts.ensures.linked c.in-Some.id c.cloning.so_far.last c.cloning.so_far.place
    (subst (λ o. IsClonedUpTo c.args.visible c.args.tree.now c.cloning.tree c.args.at c.args.first_old o c.cloning.so_far.last c.cloning.so_far.place) c.in-Some.is c.cloning.invariant) c.place_facts.ensures c.requires.beside

pub cloning-preserved : goal.cloning-preserved
cloning-preserved c =
    let held = some_held c.args.tree.now.current c.cloning.next c.in-Some.id c.cloning.invariant.held c.in-Some.is in
    let same : c.clone_next.new.tree.current ≡ c.args.tree.now.current = c.in_ok-so_far.ensures.current ∙ c.cloning.invariant.current in
    more_cloned c.args.visible c.args.tree.now c.cloning.tree c.args.at c.args.first_old c.facts.ensures.linked c.in-Some.id c.cloning.so_far.last c.cloning.so_far.place
    (subst (λ o. IsClonedUpTo c.args.visible c.args.tree.now c.cloning.tree c.args.at c.args.first_old o c.cloning.so_far.last c.cloning.so_far.place) c.in-Some.is c.cloning.invariant) c.place_facts.ensures
    c.clone_next.new.tree c.next_sibling-next.result
    (c.next_sibling-next.ensures.current (subst (λ s. Holds s c.in-Some.id) (sym same) held) ∙ ap (λ s. first (rest_of s c.in-Some.id)) same)
    c.in_ok-so_far.so_far.last c.in_ok-so_far.so_far.place c.in_ok-so_far.ensures.gone

pub returns-clause-made : goal.returns-clause-made
returns-clause-made c =
    all_cloned c.args.visible c.args.tree.now c.cloning.tree c.args.at c.args.first_old c.facts.ensures.linked c.cloning.next c.cloning.so_far.last c.cloning.so_far.place c.requires.held c.cloning.invariant c.in_default.is
