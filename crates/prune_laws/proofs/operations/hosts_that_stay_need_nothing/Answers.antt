use Rattle.prune_laws.proofs.Staying.{left_distinct, placed_need_others, staying_need_nothing}
use Rattle.prune_laws.proofs.operations.hosts_that_stay_need_nothing.Goals as goal

pub returns : goal.returns
returns c = record { operations = staying_need_nothing; placing = placed_need_others; distinct = left_distinct }
