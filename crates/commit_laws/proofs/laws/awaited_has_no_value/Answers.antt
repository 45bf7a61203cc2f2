use Rattle.rx_elem.specs.Numbers.{numbered}
use Rattle.std.specs.Prelude.{Some}
use Rattle.rx_meaning.specs.Outcome.{visible_awaits}
use Rattle.commit_laws.proofs.NewlyHidden.{awaited_open, committed_open, deferred_open}
use Rattle.commit_laws.proofs.laws.awaited_has_no_value.Goals as goal

pub returns : goal.returns
returns c =
    record {
      committed = λ s old new from deep gives r there. awaited_open s (visible_awaits (Some (numbered from new).1)) (committed_open s old new from deep gives) r there;
      deferred = deferred_open;
    }
