use Rattle.std.proofs.Common.{ap, ◌∙◌}
use Rattle.rx_links.specs.Drafts.{kids_under}
use Rattle.rx_fiber.specs.Subtrees.{subtrees_of}
use Rattle.rx_children.proofs.Nodes.{bare_made}
use Rattle.rx_children.proofs.Taking.{bare_is, took_made}
use Rattle.rx_fallback.proofs.Falling.{kept_so}
use Rattle.rx_fallback.proofs.opening.keep_primary.Goals as goal

pub take_over-requires : goal.take_over-requires
take_over-requires c = bare_is c.args.tree.now c.args.at c.place_facts.ensures c.requires

pub mark_made-requires : goal.mark_made-requires
mark_made-requires c = took_made c.args.tree.now c.take_over.new.self c.args.at c.place_facts.ensures c.take_over.ensures c.requires c.place_facts-2.ensures

pub returns-clause-kept : goal.returns-clause-kept
returns-clause-kept c =
    kept_so c.args.tree.now c.take_over.new.self c.args.at c.place_facts.ensures c.take_over.ensures c.mark_made.new.self c.args.awaits c.kids_subtree-below.result
    (c.kids_subtree-below.ensures
    ∙ ap (λ o. subtrees_of (kids_under c.args.tree.now.current o)) (c.alternate.ensures.made (bare_made c.args.tree.now c.args.at c.place_facts.ensures c.requires)))
    c.place_facts-2.ensures c.mark_made.ensures
