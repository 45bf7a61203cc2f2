use Rattle.std.proofs.Common.{◌≡◌, ◌+◌, ◌*◌, ◌≤◌, Some, IfSome}
use Rattle.rx_links.specs.Drafts.{Makes, made_size}
use Rattle.rx_read.specs.Numbering.{numbered_draft, made_from, relisted_from}
use Rattle.rx_read.specs.NumbersView.{numbers_seen}
use Rattle.rx_read.proofs.numbering.+number.Given as goal

abbrev pub decreases-number_node : goal.decreases-number_node
decreases-number_node l = 2 * made_size (made_from l.tree.now.draft (Some l.id))

abbrev pub decreases-number_list : goal.decreases-number_list
decreases-number_list l = 2 * made_size (made_from l.tree.now.draft l.first) + 1

-- once the rest of the list has its numbers all of it has
abbrev pub invariant-number_list-numbering : goal.invariant-number_list-numbering
invariant-number_list-numbering l = record {
  made : IfSome l.at (Makes l.tree.draft);
  trees :
      record l.tree { draft = relisted_from l.at (λ d. (numbered_draft (numbers_seen l.numbers) d).1) l.tree.draft }
      ≡ record l.initial.tree { draft = relisted_from l.initial.at (λ d. (numbered_draft (numbers_seen l.initial.numbers) d).1) l.initial.tree.draft };
  next :
      (numbered_draft (numbers_seen l.numbers) (made_from l.tree.draft l.at)).0
      ≡ (numbered_draft (numbers_seen l.initial.numbers) (made_from l.initial.tree.draft l.initial.at)).0;
  within : made_size (made_from l.tree.draft l.at) ≤ made_size (made_from l.initial.tree.draft l.initial.at);
}

abbrev pub decreases-number_list-numbering : goal.decreases-number_list-numbering
decreases-number_list-numbering l = made_size (made_from l.tree.draft l.at)
