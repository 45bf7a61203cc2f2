use Rattle.std.proofs.Common.{sym, ap, ◌∙◌, arith}
use Rattle.rx_fiber.specs.declared.subtree.Subtree.{Subtree}
use Rattle.rx_fiber.proofs.OldReads.{rest_held, some_held}
use Rattle.rx_links.specs.Readers.{list_from}
use Rattle.rx_instances.specs.AwaitedFibers.{stage_awaits, waits_list}
use Rattle.rx_instances.proofs.Awaiting.{first_waits, passed_awaits, visible_smaller, whole_end, whole_more, whole_start}
use Rattle.rx_instances.proofs.Counting.{rest_smaller}
use Rattle.rx_instances.proofs.Passed.{untold}
use Rattle.rx_instances.proofs.awaits.+awaiting.Goals as goal

pub awaits_at-returns-then-not-subtree : goal.awaits_at-returns-then-not-subtree
awaits_at-returns-then-not-subtree t c =
    let current = c.args.tree.now.current in
    c.none.ensures
    ∙ passed_awaits current c.facts.ensures.linked c.args.id c.requires.held c.value-fiber.result.now (c.value-fiber.ensures.current c.requires.held) c.requires.gathered
    (untold _ _ (ap (λ (x : Subtree). x.hides) c.subtree.ensures) c.if-not-subtree.true)

pub awaits_at-returns : goal.awaits_at-returns
awaits_at-returns t c =
    let current = c.args.tree.now.current in
    c.union.ensures
    ∙ first_waits current c.facts.ensures.linked c.args.id c.requires.held c.value-fiber.result.now (c.value-fiber.ensures.current c.requires.held) c.visible_child.result _ _
    c.visible_child.ensures.list (c.stage_awaits-own.ensures ∙ ap stage_awaits c.stage.ensures) c.awaits_in.ensures

pub awaits_at-awaits_in-requires : goal.awaits_at-awaits_in-requires
awaits_at-awaits_in-requires t c =
    let current = c.args.tree.now.current in
    let smaller =
    visible_smaller current c.facts.ensures.linked c.args.id c.requires.held c.value-fiber.result.now (c.value-fiber.ensures.current c.requires.held) c.visible_child.result
    c.visible_child.ensures.list in
    (omega (arith, c.decreases, smaller), (c.visible_child.ensures.held, c.requires.gathered))

pub awaits_in-siblings-init : goal.awaits_in-siblings-init
awaits_in-siblings-init t c = record {
  held = c.requires.held;
  whole = whole_start (waits_list (list_from c.args.tree.now.current c.args.first)) _ c.none-awaits.ensures;
  within = omega arith;
}

pub awaits_in-siblings-preserved : goal.awaits_in-siblings-preserved
awaits_in-siblings-preserved t c =
    let current = c.args.tree.now.current in
    let linked = c.facts.ensures.linked in
    let i = c.in-Some.id in
    let h = some_held current c.siblings.next i c.siblings.invariant.held c.in-Some.is in
    let beyond = c.next_sibling-next.ensures.current h in
    let smaller = rest_smaller current linked i c.siblings.next c.next_sibling-next.result h c.in-Some.is beyond in
    record {
      held = rw beyond (rest_held current linked i h);
      whole =
          whole_more current linked i h _ c.siblings.next c.next_sibling-next.result c.siblings.awaits c.awaits_at.result _ c.in-Some.is beyond c.awaits_at.ensures c.union-awaits.ensures
          c.siblings.invariant.whole;
      within = omega (arith, c.siblings.invariant.within, smaller);
    }

pub awaits_in-returns : goal.awaits_in-returns
awaits_in-returns t c = whole_end c.args.tree.now.current _ c.siblings.next c.siblings.awaits c.in_default.is c.siblings.invariant.whole
