use Rattle.std.proofs.Common.{refl}
use Rattle.rx_hook_store.proofs.Numbered.{links_committed, links_dispatched, links_later, mounted_below}
use Rattle.rx_hook_store.proofs.laws.links_are_below.Goals as goal

pub returns : goal.returns
returns c =
    record {
      start = λ k i le. refl;
      dispatch = links_dispatched;
      mounted = mounted_below;
      commit = links_committed;
      other = links_later;
    }
