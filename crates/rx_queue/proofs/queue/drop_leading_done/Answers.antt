use Rattle.std.proofs.Common.{arith}
use Rattle.std.proofs.lemmas.Grind.{common_steps}
use Rattle.std.proofs.lemmas.List.Sums.{prefix_len-le-length}
use Rattle.rx_queue.specs.History.{is_done}
use Rattle.rx_queue.proofs.queue.drop_leading_done.Goals as goal

pub overflow_sub-left : goal.overflow_sub-left
overflow_sub-left c = grind (arith, common_steps, prefix_len-le-length is_done c.args.entries.now.items)

pub rotate_left-requires : goal.rotate_left-requires
rotate_left-requires c = grind (arith, common_steps, prefix_len-le-length is_done c.args.entries.now.items)
