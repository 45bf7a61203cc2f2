use Rattle.std.proofs.Common.{◌≡◌, ◌∙◌, ap, sym}
use Rattle.rx_hooks.proofs.Steps.{stepped-all, stepped-more}
use Rattle.rx_resources.specs.Kept.{Kept, committed}
use Rattle.rx_resources.proofs.Lists.{all_mapped}
use Rattle.rx_resources.proofs.store.commit_all.Goals as goal

pub committing-preserved : goal.committing-preserved
committing-preserved c =
    stepped-more (λ (x y : Kept). y ≡ committed c.args.lanes c.args.cut x) c.committing.resource-index c.args.resources.now c.committing.resources c.resource-item.result c.commit.new.self
    c.committing-test.true c.committing.invariant c.resource-item.is
    (c.commit.ensures ∙ ap (committed c.args.lanes c.args.cut) (sym c.resource-item.is))

pub returns : goal.returns
returns c =
    all_mapped (committed c.args.lanes c.args.cut) c.args.resources.now c.committing.resources
    (stepped-all (λ (x y : Kept). y ≡ committed c.args.lanes c.args.cut x) c.committing.resource-index c.args.resources.now c.committing.resources c.committing-test.false c.committing.invariant)
