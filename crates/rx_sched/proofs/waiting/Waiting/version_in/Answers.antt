use Rattle.std.proofs.Common.{◌∙◌, ap, sym}
use Rattle.rx_sched.specs.Waiting.{version_in}
use Rattle.rx_sched.proofs.Waits.{entry_at, version_read, no_version}
use Rattle.rx_sched.proofs.waiting.Waiting.version_in.Goals as goal

pub returns-then-has : goal.returns-then-has
returns-then-has c =
    c.copied.ensures
    ∙ entry_at c.self.inside.versions c.args.resource c.get.result c.get.ensures.lookup
    ∙ version_read c.self.inside.resources c.self.inside.versions c.args.resource c.self.invariant (sym c.has.ensures ∙ c.if-has.true)
    ∙ ap (λ s. version_in s c.args.resource) c.self.view_is

pub returns-else-has : goal.returns-else-has
returns-else-has c =
    no_version c.self.inside.resources c.self.inside.versions c.args.resource (sym c.has.ensures ∙ c.if-has.false)
    ∙ ap (λ s. version_in s c.args.resource) c.self.view_is
