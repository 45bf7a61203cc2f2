use Rattle.std.proofs.Common.{◌<◌, Some, inr, sym, ap, ◌∙◌, subst, arith}
use Rattle.rx_lists.proofs.Frames.{some-at}
use Rattle.rx_links.specs.Drafts.{made_size}
use Rattle.rx_read.specs.Numbering.{numbered_draft, made_from, relisted_from, AreHeld}
use Rattle.rx_read.specs.NumbersView.{numbers_seen}
use Rattle.rx_read.proofs.Growing.{first_held}
use Rattle.rx_read.proofs.Relisted.{own_room, still_made, below_room, below_smaller, node_numbers, node_trees, node_made, rest_makes, rest_numbers, rest_smaller, rest_trees}
use Rattle.rx_read.proofs.numbering.+number.Goals as goal

pub number_list-number_node-numbers-requires : goal.number_list-number_node-numbers-requires
number_list-number_node-numbers-requires t c =
    let trees = c.numbering.tree in
    let i = c.in-Some.id in
    let n = numbers_seen c.numbering.numbers in
    let m = some-at _ _ _ c.numbering.invariant.made c.in-Some.is in
    let size = ap (λ o. made_size (made_from trees.draft o)) c.in-Some.is in
    let all = subst (λ o. AreHeld (numbered_draft n (made_from trees.draft o)).0) c.in-Some.is (subst AreHeld (sym c.numbering.invariant.next) c.requires.room) in
    (omega (arith, c.decreases, c.numbering.invariant.within, size), (m, first_held n (made_from trees.draft (Some i)) all))

pub number_list-next_sibling-at-requires : goal.number_list-next_sibling-at-requires
number_list-next_sibling-at-requires t c =
    let trees = c.numbering.tree in
    let i = c.in-Some.id in
    let n = numbers_seen c.numbering.numbers in
    let m = some-at _ _ _ c.numbering.invariant.made c.in-Some.is in
    let after = c.number_node-numbers.new.tree in
    inr (node_made trees after c.facts.ensures.fits c.facts-in-Some.ensures.fits i m n (numbers_seen c.number_node-numbers.result) c.number_node-numbers.ensures.trees c.number_node-numbers.ensures.next)

pub number_list-numbering-smaller : goal.number_list-numbering-smaller
number_list-numbering-smaller t c =
    let trees = c.numbering.tree in
    let i = c.in-Some.id in
    let n = numbers_seen c.numbering.numbers in
    let m = some-at _ _ _ c.numbering.invariant.made c.in-Some.is in
    let after = c.number_node-numbers.new.tree in
    let sibling = c.next_sibling-at.ensures.made (node_made trees after c.facts.ensures.fits c.facts-in-Some.ensures.fits i m n (numbers_seen c.number_node-numbers.result) c.number_node-numbers.ensures.trees c.number_node-numbers.ensures.next) in
    subst (λ o. made_size (made_from after.draft c.next_sibling-at.result) < made_size (made_from trees.draft o)) (sym c.in-Some.is) (rest_smaller trees after c.facts.ensures.fits c.facts-in-Some.ensures.fits i m n (numbers_seen c.number_node-numbers.result) c.number_node-numbers.ensures.trees c.number_node-numbers.ensures.next c.next_sibling-at.result sibling)

pub number_list-numbering-preserved : goal.number_list-numbering-preserved
number_list-numbering-preserved t c =
    let trees = c.numbering.tree in
    let i = c.in-Some.id in
    let n = numbers_seen c.numbering.numbers in
    let m = some-at _ _ _ c.numbering.invariant.made c.in-Some.is in
    let after = c.number_node-numbers.new.tree in
    let sibling = c.next_sibling-at.ensures.made (node_made trees after c.facts.ensures.fits c.facts-in-Some.ensures.fits i m n (numbers_seen c.number_node-numbers.result) c.number_node-numbers.ensures.trees c.number_node-numbers.ensures.next) in
    let smaller = subst (λ o. made_size (made_from after.draft c.next_sibling-at.result) < made_size (made_from trees.draft o)) (sym c.in-Some.is) (rest_smaller trees after c.facts.ensures.fits c.facts-in-Some.ensures.fits i m n (numbers_seen c.number_node-numbers.result) c.number_node-numbers.ensures.trees c.number_node-numbers.ensures.next c.next_sibling-at.result sibling) in
    record {
      made = rest_makes trees after c.facts.ensures.fits c.facts-in-Some.ensures.fits i m n (numbers_seen c.number_node-numbers.result) c.number_node-numbers.ensures.trees c.number_node-numbers.ensures.next c.next_sibling-at.result sibling;
      trees =
          rest_trees trees after c.facts.ensures.fits c.facts-in-Some.ensures.fits i m n (numbers_seen c.number_node-numbers.result) c.number_node-numbers.ensures.trees c.number_node-numbers.ensures.next c.next_sibling-at.result sibling
          ∙ ap (λ o. record trees { draft = relisted_from o (λ d. (numbered_draft n d).1) trees.draft }) (sym c.in-Some.is)
          ∙ c.numbering.invariant.trees;
      next =
          rest_numbers trees after c.facts.ensures.fits c.facts-in-Some.ensures.fits i m n (numbers_seen c.number_node-numbers.result) c.number_node-numbers.ensures.trees c.number_node-numbers.ensures.next c.next_sibling-at.result sibling
          ∙ ap (λ o. (numbered_draft n (made_from trees.draft o)).0) (sym c.in-Some.is)
          ∙ c.numbering.invariant.next;
      within = omega (arith, c.numbering.invariant.within, smaller);
    }

pub number_node-number_fiber-behind-requires-clause-room : goal.number_node-number_fiber-behind-requires-clause-room
number_node-number_fiber-behind-requires-clause-room t c = own_room c.args.tree.now c.facts.ensures.fits c.args.id c.requires.made (numbers_seen c.args.next) c.requires.room

pub number_node-made_child-child-requires : goal.number_node-made_child-child-requires
number_node-made_child-child-requires t c =
    let trees = c.args.tree.now in
    let n = numbers_seen c.args.next in
    still_made trees c.number_fiber-behind.new.tree c.facts.ensures.fits c.facts-2.ensures.fits c.args.id c.requires.made n (numbers_seen c.number_fiber-behind.result) c.number_fiber-behind.ensures.value c.number_fiber-behind.ensures.next

pub number_node-number_list-requires : goal.number_node-number_list-requires
number_node-number_list-requires t c =
    let trees = c.args.tree.now in
    let n = numbers_seen c.args.next in
    let smaller = below_smaller trees c.number_fiber-behind.new.tree c.facts.ensures.fits c.facts-2.ensures.fits c.args.id c.requires.made n (numbers_seen c.number_fiber-behind.result) c.number_fiber-behind.ensures.value c.number_fiber-behind.ensures.next c.made_child-child.result c.made_child-child.ensures.entry in
    (omega (arith, c.decreases, smaller), (c.made_child-child.ensures.made, below_room trees c.number_fiber-behind.new.tree c.facts.ensures.fits c.facts-2.ensures.fits c.args.id c.requires.made n (numbers_seen c.number_fiber-behind.result) c.number_fiber-behind.ensures.value c.number_fiber-behind.ensures.next c.made_child-child.result c.made_child-child.ensures.entry c.requires.room))

pub number_node-returns-clause-trees : goal.number_node-returns-clause-trees
number_node-returns-clause-trees t c =
    let trees = c.args.tree.now in
    let n = numbers_seen c.args.next in
    node_trees trees c.number_fiber-behind.new.tree c.facts.ensures.fits c.facts-2.ensures.fits c.args.id c.requires.made n (numbers_seen c.number_fiber-behind.result) c.number_fiber-behind.ensures.value c.number_fiber-behind.ensures.next c.made_child-child.result c.made_child-child.ensures.entry c.number_list.new.tree (numbers_seen c.number_list.result) c.number_list.ensures.trees c.number_list.ensures.next

pub number_node-returns-clause-next : goal.number_node-returns-clause-next
number_node-returns-clause-next t c =
    let trees = c.args.tree.now in
    let n = numbers_seen c.args.next in
    node_numbers trees c.number_fiber-behind.new.tree c.facts.ensures.fits c.facts-2.ensures.fits c.args.id c.requires.made n (numbers_seen c.number_fiber-behind.result) c.number_fiber-behind.ensures.value c.number_fiber-behind.ensures.next c.made_child-child.result c.made_child-child.ensures.entry c.number_list.new.tree (numbers_seen c.number_list.result) c.number_list.ensures.trees c.number_list.ensures.next
