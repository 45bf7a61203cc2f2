use Rattle.std.proofs.Common.{sym, ◌∙◌}
use Rattle.rx_fiber.proofs.OldReads.{some_held, kids_held, rest_held}
use Rattle.rx_fiber.proofs.old.old_fallback.Goals as goal

pub returns-then-begins_fallback-clause-held : goal.returns-then-begins_fallback-clause-held
returns-then-begins_fallback-clause-held c =
    let h = some_held c.args.tree.now.current c.args.old c.in_ok-id.id c.requires c.in_ok-id.was in
    let k =
    some_held c.args.tree.now.current _ c.in_ok-behind.field-0 (rest_held c.args.tree.now.current c.facts.ensures.linked c.in_ok-id.id h)
    (sym (c.next_sibling-behind.ensures.current h) ∙ c.in_ok-behind.was) in
    rw (c.first_child.ensures.current k) (kids_held c.args.tree.now.current c.facts.ensures.linked c.in_ok-behind.field-0 k)

pub returns-clause-held : goal.returns-clause-held
returns-clause-held c =
    let h = some_held c.args.tree.now.current c.args.old c.in_ok-id.id c.requires c.in_ok-id.was in
    rw (c.first_child-2.ensures.current h) (kids_held c.args.tree.now.current c.facts.ensures.linked c.in_ok-id.id h)
