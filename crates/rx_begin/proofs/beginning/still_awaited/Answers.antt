use Rattle.rx_links.specs.Drafts.{old_of}
use Rattle.rx_begin.proofs.Hiding.{hides_there}
use Rattle.rx_begin.proofs.Kids.{not_both}
use Rattle.rx_begin.proofs.beginning.still_awaited.Goals as goal

pub returns-then-not-is_hidden_again-clause-tries : goal.returns-then-not-is_hidden_again-clause-tries
returns-then-not-is_hidden_again-clause-tries c element stood none x a was is =
    absurd
    (not_both c.is_hidden_again.result c.if-not-is_hidden_again.true
    (c.is_hidden_again.ensures.all element (hides_there c.args.tree.now.current (old_of c.args.tree.now.draft c.args.at) x a was is)))
