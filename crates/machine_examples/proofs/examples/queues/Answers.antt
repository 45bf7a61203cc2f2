use Rattle.machine_examples.proofs.QueuesComputed.{rebased, over_a_value, reducer_rebased, input_with_default, lanes_go_round}
use Rattle.machine_examples.proofs.examples.queues.Goals as goal

pub returns : goal.returns
returns c = record { rebased = rebased; over_a_value = over_a_value; reducer_rebased = reducer_rebased; input_with_default = input_with_default; lanes_go_round = lanes_go_round }
