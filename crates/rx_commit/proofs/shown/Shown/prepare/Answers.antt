use Rattle.std.proofs.Common.{◌∙◌, ap, arith}
use Rattle.std.proofs.lemmas.Grind.{common_steps}
use Rattle.rx_host.specs.Kept.{forest_kept}
use Rattle.rx_commit.proofs.Committed.{made-here}
use Rattle.rx_commit.proofs.shown.Shown.prepare.Goals as goal

pub returns-clause-ready : goal.returns-clause-ready
returns-clause-ready c = λ old passive new shows is_commit leaves prepares.
    let stands = c.in_ok-reserve.ensures.same ∙ ap (λ v. forest_kept v.hosts) c.self.view_is ∙ shows.hosts_are in
    record {
      room = grind (arith, common_steps);
      made = made-here old new (forest_kept c.reserve.new.self) c.in_ok-prepared.prepared.ops stands prepares.ops_are is_commit leaves;
    }
