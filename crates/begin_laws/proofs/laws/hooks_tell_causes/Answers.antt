use Rattle.begin_laws.proofs.Hooks.{hooks_tell}
use Rattle.begin_laws.proofs.laws.hooks_tell_causes.Goals as goal

pub returns : goal.returns
returns c = hooks_tell
