use Rattle.std.proofs.Common.{Some, sym, ◌∙◌}
use Rattle.rx_read.proofs.Relisted.{child_in, child_made, child_taken, not_same}
use Rattle.rx_read.proofs.numbering.made_child.Goals as goal

pub parent-requires : goal.parent-requires
parent-requires c =
    let t = c.args.tree.now in
    let leads = sym c.in_ok-child.was ∙ c.first_child.ensures.made c.requires in
    child_in t c.facts.ensures.fits c.facts.ensures.linked c.args.id c.requires c.in_ok-child.child leads

pub returns-in_err-parent-clause-entry : goal.returns-in_err-parent-clause-entry
returns-in_err-parent-clause-entry c =
    let t = c.args.tree.now in
    let leads = sym c.in_ok-child.was ∙ c.first_child.ensures.made c.requires in
    c.from_residual-in_err-parent.ensures
    ∙ child_taken t c.facts.ensures.fits c.facts.ensures.linked c.args.id c.requires c.in_ok-child.child leads c.parent.result c.parent.ensures.current c.parent.ensures.made
    (λ e. let q = sym c.in_err-parent.was ∙ e in cc)

pub returns-then-same-clause-entry : goal.returns-then-same-clause-entry
returns-then-same-clause-entry c =
    let t = c.args.tree.now in
    let leads = sym c.in_ok-child.was ∙ c.first_child.ensures.made c.requires in
    let made = child_made t c.facts.ensures.fits c.facts.ensures.linked c.args.id c.requires c.in_ok-child.child leads c.in_ok-parent.parent c.in_ok-parent.ensures.current c.in_ok-parent.ensures.made (sym c.same.ensures ∙ c.if-same.true) in
    made.0

pub returns-then-same-clause-made : goal.returns-then-same-clause-made
returns-then-same-clause-made c =
    let t = c.args.tree.now in
    let leads = sym c.in_ok-child.was ∙ c.first_child.ensures.made c.requires in
    let made = child_made t c.facts.ensures.fits c.facts.ensures.linked c.args.id c.requires c.in_ok-child.child leads c.in_ok-parent.parent c.in_ok-parent.ensures.current c.in_ok-parent.ensures.made (sym c.same.ensures ∙ c.if-same.true) in
    made.1

pub returns-else-same-clause-entry : goal.returns-else-same-clause-entry
returns-else-same-clause-entry c =
    let t = c.args.tree.now in
    let leads = sym c.in_ok-child.was ∙ c.first_child.ensures.made c.requires in
    child_taken t c.facts.ensures.fits c.facts.ensures.linked c.args.id c.requires c.in_ok-child.child leads (Some c.in_ok-parent.parent) c.in_ok-parent.ensures.current c.in_ok-parent.ensures.made
    (not_same c.in_ok-parent.parent c.args.id (sym c.same.ensures ∙ c.if-same.false))
