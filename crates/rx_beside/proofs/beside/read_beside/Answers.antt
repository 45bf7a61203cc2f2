use Rattle.std.proofs.Common.{Some, None, sym, ◌∙◌, subst}
use Rattle.end_laws.specs.Trimmed.{trimmed}
use Rattle.rx_fiber.specs.Reading.{IsTreeOf}
use Rattle.rx_beside.proofs.Roots.{has_tree, no_tree, new_root, old_root, new_is, old_is, first_tree, later_tree}
use Rattle.rx_beside.proofs.beside.read_beside.Goals as goal

pub unreachable-requires : goal.unreachable-requires
unreachable-requires c =
    let r = new_root c.args.tree.now c.facts.ensures.fits c.facts.ensures.linked None (sym c.in_default.is ∙ c.in_progress.ensures) c.requires.finished.0 c.requires.finished.1 in
    cc

pub read_node-requires : goal.read_node-requires
read_node-requires c = new_is c.args.tree.now c.facts.ensures.fits c.facts.ensures.linked c.in-Some.new (sym c.in-Some.is ∙ c.in_progress.ensures) c.requires.finished.0 c.requires.finished.1

pub returns-in_default-current : goal.returns-in_default-current
returns-in_default-current c = λ y x a b.
    let t = c.args.tree.now in
    first_tree y (trimmed x) c.in_ok-read_node.field-0 _ (no_tree y t.current a (sym c.current.ensures ∙ c.in_default-current.is)) c.in_ok-read_node.ensures
    (new_root t c.facts.ensures.fits c.facts.ensures.linked (Some c.in-Some.new) (sym c.in-Some.is ∙ c.in_progress.ensures) x b)

pub read_roots-requires-clause-was : goal.read_roots-requires-clause-was
read_roots-requires-clause-was c =
    old_is c.args.tree.now c.facts.ensures.fits c.facts.ensures.linked c.in-Some-current.old (sym c.in-Some-current.is ∙ c.current.ensures) c.requires.current.0 c.requires.current.1

pub read_roots-requires-clause-is : goal.read_roots-requires-clause-is
read_roots-requires-clause-is c = new_is c.args.tree.now c.facts.ensures.fits c.facts.ensures.linked c.in-Some.new (sym c.in-Some.is ∙ c.in_progress.ensures) c.requires.finished.0 c.requires.finished.1

pub returns : goal.returns
returns c = λ y x a b.
    let t = c.args.tree.now in
    let leads = sym c.in-Some-current.is ∙ c.current.ensures in
    let (o, e) = has_tree y t.current c.in-Some-current.old a (sym leads) in
    later_tree y o (trimmed x) c.in_ok-roots.roots.old c.in_ok-roots.roots.new e
    (c.in_ok-roots.ensures (trimmed o) (trimmed x)
    (old_root t c.facts.ensures.fits c.facts.ensures.linked (Some c.in-Some-current.old) leads o (subst (λ o. IsTreeOf o t.current) e a))
    (new_root t c.facts.ensures.fits c.facts.ensures.linked (Some c.in-Some.new) (sym c.in-Some.is ∙ c.in_progress.ensures) x b))
