use Rattle.std.proofs.Common.{◌≡◌, ℕ, ◌<◌, min, ap, sym, ◌∙◌, length, arith}
use Rattle.rx_hook_store.specs.Store.{kept_hooks}
use Rattle.rx_model.specs.State.{committed_values}
use Rattle.rx_mounts.proofs.Showing.{length-committed, next-value, take-least}
use Rattle.rx_mounts.proofs.hooks.values_of.Goals as goal

pub committed-requires : goal.committed-requires
committed-requires c =
    let p = c.requires.0 in
    let s = c.requires.1.0 in
    let m = c.args.instance.now in
    let kept = kept_hooks c.args.hooks.now in
    let below : c.reading.place < length m.initials = omega (arith, c.reading-test.true, c.min-count.ensures, ap length (c.as_slice.ensures ∙ c.initials.ensures)) in
    let keeps = c.hooks_are_there.ensures.mounted p s kept c.requires.1.1.keeps c.requires.1.1.place m c.requires.1.1.is_there in
    rw c.number.ensures (c.hooks_are_there.ensures.hook p s kept m.number c.reading.place m.initials below keeps)

pub reading-preserved : goal.reading-preserved
reading-preserved c = λ p s k.
    let m = c.args.instance.now in
    let told = c.committed.ensures.states p s k.place m k.keeps k.is_there (sym c.number.ensures) in
    next-value (committed_values p s.journal m) c.reading.place c.committed.result c.reading.values.items c.push.new.self.items told (c.reading.invariant p s k) c.in_ok-push.ensures.items

pub returns : goal.returns
returns c = λ p s k.
    let m = c.args.instance.now in
    let at : c.reading.place ≡ c.min-count.result = omega (arith, c.reading-test.false, c.reading.auto.place-end) in
    let size = length-committed p s.journal m ∙ sym (ap length (c.as_slice.ensures ∙ c.initials.ensures)) in
    c.reading.invariant p s k
    ∙ take-least (committed_values p s.journal m) c.reading.place c.args.most (at ∙ c.min-count.ensures ∙ ap (λ (n : ℕ). min n c.args.most) (sym size))
