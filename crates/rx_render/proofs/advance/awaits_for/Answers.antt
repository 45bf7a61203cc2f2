use Rattle.std.proofs.Common.{◌∙◌}
use Rattle.rx_render.proofs.Advancing.{one_beyond}
use Rattle.rx_render.proofs.advance.awaits_for.Goals as goal

pub returns-else-resource-lt-RESOURCE_LIMIT : goal.returns-else-resource-lt-RESOURCE_LIMIT
returns-else-resource-lt-RESOURCE_LIMIT c = c.none.ensures ∙ one_beyond c.args.resource c.if-resource-lt-RESOURCE_LIMIT.false
