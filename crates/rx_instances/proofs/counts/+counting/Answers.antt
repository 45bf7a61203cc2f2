use Rattle.std.proofs.Common.{◌≡◌, Some, refl, sym, ap, ◌∙◌}
use Rattle.rx_links.specs.Readers.{list_from}
use Rattle.rx_fiber.specs.declared.subtree.Subtree.{Subtree}
use Rattle.rx_instances.specs.CountedFibers.{counted_first}
use Rattle.rx_instances.proofs.Passed.{passed_counted, untold}
use Rattle.rx_instances.proofs.counts.+counting.Goals as goal

pub count_at-returns-then-not-subtree : goal.count_at-returns-then-not-subtree
count_at-returns-then-not-subtree t c =
    let current = c.args.tree.now.current in
    let none : counted_first c.args.only_hidden (list_from current (Some c.args.id)) ≡ 0 =
    ap (λ b. counted_first b (list_from current (Some c.args.id))) c.if-only_hidden.true
    ∙ passed_counted current c.facts.ensures.linked (c.requires.gathered c.if-only_hidden.true) c.args.id c.requires.held c.value-fiber.result.now (c.value-fiber.ensures.current c.requires.held)
    (untold _ _ (ap (λ (x : Subtree). x.hides) c.subtree.ensures) c.if-not-subtree.true) in
    rw none refl
