use Rattle.machine_examples.proofs.SyncComputed.{all_sync_premises, sync_premises}
use Rattle.machine_examples.proofs.examples.sync.Goals as goal

pub returns : goal.returns
returns c = record { premises = sync_premises; all_sync = all_sync_premises }
