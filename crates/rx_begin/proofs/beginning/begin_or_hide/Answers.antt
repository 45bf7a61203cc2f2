use Rattle.std.proofs.Common.{refl}
use Rattle.rx_begin.specs.Others.{begins, hides}
use Rattle.rx_begin.specs.Beginning.{awaited_again}
use Rattle.rx_children.proofs.Results.{if_ok}
use Rattle.rx_begin.proofs.Kids.{is_none, node_waits_not}
use Rattle.rx_begin.proofs.beginning.begin_or_hide.Goals as goal

pub begin_other-requires-clause-was : goal.begin_other-requires-clause-was
begin_other-requires-clause-was c = (c.requires.kept.node, c.requires.kept.was)

pub returns-in-Some-clause-begun : goal.returns-in-Some-clause-begun
returns-in-Some-clause-begun c = hides c.in-Some.ensures.same c.in-Some.ensures.stood c.in-Some.ensures.hidden c.in-Some.ensures.waits c.mark_made.ensures refl

pub returns-in-None-clause-begun : goal.returns-in-None-clause-begun
returns-in-None-clause-begun c = if_ok c.begin_other.result _ _ (λ b h. begins h) c.begin_other.ensures.begun

pub returns-in-None-clause-news : goal.returns-in-None-clause-news
returns-in-None-clause-news c =
    if_ok c.begin_other.result _ _
    (λ b h is.
    absurd (is_none (awaited_again b) (node_waits_not c.args.tree.now c.begin_other.new.tree c.args.contexts.now c.begin_other.new.contexts c.args.at c.args.element.now c.args.place.origin c.args.place.again c.args.place.steady c.args.place.generation b h) is))
    c.begin_other.ensures.begun

pub returns-in-None-clause-tries : goal.returns-in-None-clause-tries
returns-in-None-clause-tries c =
    if_ok c.begin_other.result _ _ (λ b is same stood none. c.in-None.ensures.tries same stood refl) c.begin_other.ensures.begun
