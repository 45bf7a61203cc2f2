use Rattle.std.proofs.Common.{◌≡◌, ◌++◌, ◌∷◌, [], Some, cond, is_some, nat_eq, drop, sym, ap, ◌∙◌, arith}
use Rattle.rx_forest.specs.declared.op.HostOp.TheVariants as op
use Rattle.rx_forest.specs.HostOps.{is_placed, placements}
use Rattle.rx_host_ops.specs.Tables.{entry_in}
use Rattle.rx_host_ops.proofs.Behind.{behind-placed, behind-other}
use Rattle.rx_host_ops.proofs.placing.placements.Goals as goal

pub loop-place-preserved-in-Continue-branch-3 : goal.loop-place-preserved-in-Continue-branch-3
loop-place-preserved-in-Continue-branch-3 c =
    let h = c.index-hosts-place.result in
    let number : c.number-host.result ≡ h.number = cc in
    let parent : c.parent-parent.result ≡ h.parent = cc in
    behind-placed c.args.placed.now c.args.hosts.now c.loop-place.place h c.loop-place.ops.items c.push.new.self.items (entry_in c.loop-place.standing) c.get-before.result
    c.loop-place-test.true c.loop-place.auto.place c.index-hosts-place.is
    (ap (is_placed c.args.placed.now) (sym number) ∙ sym (c.in_ok-placed.ensures c.number-host.result) ∙ sym (ap is_some c.get.ensures) ∙ sym c.is_some.ensures ∙ c.if-is_some.true)
    (c.get-before.ensures ∙ ap (entry_in c.loop-place.standing) parent)
    (c.in_ok-push.ensures.items
    ∙ ap (λ n. c.loop-place.ops.items ++ op.Place n c.parent-parent.result c.get-before.result ∷ []) number
    ∙ ap (λ q. c.loop-place.ops.items ++ op.Place h.number q c.get-before.result ∷ []) parent)
    c.loop-place.invariant

pub loop-place-preserved : goal.loop-place-preserved
loop-place-preserved c =
    let h = c.index-hosts-place.result in
    let number : c.number-host.result ≡ h.number = cc in
    let parent : c.parent-parent.result ≡ h.parent = cc in
    behind-other c.args.placed.now c.args.hosts.now c.loop-place.place h c.loop-place.ops.items (entry_in c.loop-place.standing) (entry_in c.put.new.self)
    c.loop-place-test.true c.loop-place.auto.place c.index-hosts-place.is
    (ap (is_placed c.args.placed.now) (sym number) ∙ sym (c.in_ok-placed.ensures c.number-host.result) ∙ sym (ap is_some c.get.ensures) ∙ sym c.is_some.ensures ∙ c.if-is_some.false)
    (λ q. c.in_ok-put.ensures q
    ∙ ap (λ p. cond (nat_eq p q) (Some c.number-host.result) (entry_in c.loop-place.standing q)) parent
    ∙ ap (λ n. cond (nat_eq h.parent q) (Some n) (entry_in c.loop-place.standing q)) number)
    c.loop-place.invariant

pub returns : goal.returns
returns c =
    let first : c.loop-place.place ≡ 0 = omega (arith, c.loop-place-test.false) in
    c.reverse.ensures.items ∙ c.loop-place.invariant.0 ∙ ap (λ k. placements c.args.placed.now (drop k c.args.hosts.now)) first
