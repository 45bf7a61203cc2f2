use Rattle.std.proofs.Common.{◌≡◌, ◌-◌, ◌++◌, length, None, is_some, sym, ap, ◌∙◌, arith}
use Rattle.rx_fiber.specs.OldLists.{filled}
use Rattle.rx_read.specs.Places.{mark_in}
use Rattle.rx_read.proofs.Links.{by_value}
use Rattle.rx_beside.specs.Children.{IsNode, IsMadeIn}
use Rattle.rx_beside.proofs.Here.{not_added, added, all_added, is_node}
use Rattle.rx_beside.proofs.children.add_fiber.Goals as goal

pub returns-in_ok-push-clause-places : goal.returns-in_ok-push-clause-places
returns-in_ok-push-clause-places c =
    let t = c.args.tree.now in
    let v = c.value-fiber.result.now in
    let xs = c.args.fibers.now.items in
    let l = by_value t c.facts.ensures.fits c.facts.ensures.linked c.args.id v c.requires c.value-fiber.ensures.current c.value-fiber.ensures.made in
    let count : c.saturating_sub.result ≡ v.place - length xs = omega arith in
    added t c.args.id v _ _ l.2 xs _ _ (ap (λ s. is_some (mark_in s)) (sym c.stage.ensures) ∙ sym c.is_begun.ensures ∙ c.if-is_begun.true)
    (c.in_ok-fill.ensures ∙ ap (λ k. xs ++ filled k None) count) c.in_ok-push.ensures.items

pub returns-in_ok-push-clause-nodes : goal.returns-in_ok-push-clause-nodes
returns-in_ok-push-clause-nodes c before =
    let t = c.args.tree.now in
    let v = c.value-fiber.result.now in
    let xs = c.args.fibers.now.items in
    let l = by_value t c.facts.ensures.fits c.facts.ensures.linked c.args.id v c.requires c.value-fiber.ensures.current c.value-fiber.ensures.made in
    let count : c.saturating_sub.result ≡ v.place - length xs = omega arith in
    let begun = ap (λ s. is_some (mark_in s)) (sym c.stage.ensures) ∙ sym c.is_begun.ensures ∙ c.if-is_begun.true in
    all_added t c.args.id v _ _ l.2 xs _ _ begun (c.in_ok-fill.ensures ∙ ap (λ k. xs ++ filled k None) count) c.in_ok-push.ensures.items
    (IsNode t) (is_node t c.args.id v _ _ l.2 c.requires begun) before

pub returns-in_ok-push-clause-made : goal.returns-in_ok-push-clause-made
returns-in_ok-push-clause-made c first this before =
    let t = c.args.tree.now in
    let v = c.value-fiber.result.now in
    let xs = c.args.fibers.now.items in
    let l = by_value t c.facts.ensures.fits c.facts.ensures.linked c.args.id v c.requires c.value-fiber.ensures.current c.value-fiber.ensures.made in
    let count : c.saturating_sub.result ≡ v.place - length xs = omega arith in
    let begun = ap (λ s. is_some (mark_in s)) (sym c.stage.ensures) ∙ sym c.is_begun.ensures ∙ c.if-is_begun.true in
    all_added t c.args.id v _ _ l.2 xs _ _ begun (c.in_ok-fill.ensures ∙ ap (λ k. xs ++ filled k None) count) c.in_ok-push.ensures.items
    (IsMadeIn t first) this before

pub returns-else-is_begun-clause-places : goal.returns-else-is_begun-clause-places
returns-else-is_begun-clause-places c =
    let t = c.args.tree.now in
    let v = c.value-fiber.result.now in
    let l = by_value t c.facts.ensures.fits c.facts.ensures.linked c.args.id v c.requires c.value-fiber.ensures.current c.value-fiber.ensures.made in
    not_added t c.args.id v _ _ l.2 c.args.fibers.now.items (ap (λ s. is_some (mark_in s)) (sym c.stage.ensures) ∙ sym c.is_begun.ensures ∙ c.if-is_begun.false)
