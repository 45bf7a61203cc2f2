use Rattle.rx_dispatch.proofs.Named.{few-hooks, few-names}
use Rattle.rx_dispatch.proofs.names.hooks_at.Goals as goal

pub returns-in-Some-clause-few : goal.returns-in-Some-clause-few
returns-in-Some-clause-few c =
    few-names c.hook_names.result _ c.hook_names.ensures
    (few-hooks c.args.checked.now c.in-Some.ensures.accepted c.args.component c.in-Some.found.now c.in-Some.ensures.found)
