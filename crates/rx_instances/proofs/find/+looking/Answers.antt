use Rattle.std.proofs.Common.{ℕ, List, None, sym, ap, ◌∙◌, subst, arith}
use Rattle.rx_links.specs.Readers.{list_from}
use Rattle.rx_fiber.specs.declared.subtree.Subtree.{Subtree}
use Rattle.rx_fiber.proofs.OldReads.{rest_held, some_held}
use Rattle.rx_instances.specs.NearFibers.{Counts, near_fibers}
use Rattle.rx_instances.proofs.Counting.{counts-nothing, leads-found, leads-more, leads-nowhere, rest_smaller}
use Rattle.rx_instances.proofs.Passed.{passed_near, untold}
use Rattle.rx_instances.proofs.find.+looking.Goals as goal

pub look_at-returns-then-not-subtree-clause-counts : goal.look_at-returns-then-not-subtree-clause-counts
look_at-returns-then-not-subtree-clause-counts t c =
    let none =
    passed_near c.args.tree.now.current c.facts.ensures.linked c.requires.gathered c.args.id c.requires.held c.value-fiber.result.now (c.value-fiber.ensures.current c.requires.held) c.args.checked.now
    c.args.name.now (untold _ _ (ap (λ (x : Subtree). x.instances) c.subtree.ensures) c.if-not-subtree.true) in
    subst (λ (is : List ℕ). Counts is None c.args.left.now c.args.left.now) (sym none) (counts-nothing c.args.left.now)

pub look_in-returns-in-Some-look_at-clause-counts : goal.look_in-returns-in-Some-look_at-clause-counts
look_in-returns-in-Some-look_at-clause-counts t c =
    let current = c.args.tree.now.current in
    let all = near_fibers c.args.checked.now c.args.name.now (list_from current c.args.first) in
    leads-found c.args.checked.now c.args.name.now current c.facts.ensures.linked c.siblings.next c.in-Some.id c.in-Some-look_at.found all c.args.left.now c.siblings.left
    c.look_at.new.left (some_held current c.siblings.next c.in-Some.id c.siblings.invariant.held c.in-Some.is) c.in-Some.is c.siblings.invariant.leads c.in-Some-look_at.ensures.counts

pub look_in-siblings-preserved : goal.look_in-siblings-preserved
look_in-siblings-preserved t c =
    let current = c.args.tree.now.current in
    let linked = c.facts.ensures.linked in
    let i = c.in-Some.id in
    let h = some_held current c.siblings.next i c.siblings.invariant.held c.in-Some.is in
    let all = near_fibers c.args.checked.now c.args.name.now (list_from current c.args.first) in
    let beyond = c.next_sibling-next.ensures.current h in
    let smaller = rest_smaller current linked i c.siblings.next c.next_sibling-next.result h c.in-Some.is beyond in
    record {
      held = rw beyond (rest_held current linked i h);
      leads =
          leads-more c.args.checked.now c.args.name.now current linked c.siblings.next c.next_sibling-next.result i all c.args.left.now c.siblings.left c.look_at.new.left h c.in-Some.is beyond
          c.siblings.invariant.leads c.in_default-look_at.ensures.counts;
      within = omega (arith, c.siblings.invariant.within, smaller);
    }

pub look_in-returns-clause-counts : goal.look_in-returns-clause-counts
look_in-returns-clause-counts t c =
    let current = c.args.tree.now.current in
    let all = near_fibers c.args.checked.now c.args.name.now (list_from current c.args.first) in
    leads-nowhere c.args.checked.now c.args.name.now current c.facts.ensures.linked c.siblings.next all c.args.left.now c.siblings.left c.in_default.is c.siblings.invariant.leads
