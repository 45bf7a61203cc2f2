use Rattle.std.proofs.Common.{ap, ◌≡◌, ◌≤◌, arith, take}
use Rattle.rx_resources.specs.Kept.{Kept, is_included}
use Rattle.rx_resources.proofs.Counting.{few_taken}
use Rattle.rx_resources.proofs.resource.Resource.version.Goals as goal

pub overflow_add-version : goal.overflow_add-version
overflow_add-version c =
    let few = few_taken (is_included c.args.lanes c.args.cut) c.loop-asked.asked-index c.deref-asked-items.result.now in
    let here : c.self.inside.done ≡ c.args.self.now.done = ap (λ (k : Kept). k.done) c.self.view_is in
    omega (arith, few, here, c.loop-asked.invariant, c.self.invariant.0, c.self.invariant.1, c.loop-asked-test.true, c.deref-asked-items.ensures.len)
