-- Each example of `Queues` by computing the run.
use Rattle.std.proofs.Common.{false, refl}
use Rattle.std.specs.Fmt.{digits}
use Rattle.rx_base.specs.Awaits.{awaits_where}
use Rattle.rx_lane.specs.Lanes.{lanes_where}
use Rattle.rx_rules.specs.Bounds.{body_by, node_bound}
use Rattle.rx_sched.specs.Links.{linked_by, links_among, one_link_on, links_on}
use Rattle.rx_sched.specs.Deadlines.{timed}
use Rattle.rx_queue.specs.Journal.{state_of, committed_value}
use Rattle.rx_meaning.specs.Body.{body_of}
use Rattle.rx_meaning.specs.Fresh.{rendered, fresh}
use Rattle.rx_forest.specs.HostOps.{host_ops}
use Rattle.rx_lines.specs.Lines.{report_bytes}
use Rattle.machine_examples.specs.Programs.{appending, reducing}
use Rattle.machine_examples.specs.Queues.{Rebased, rebased_script, rebased_report, OverAValue, over_a_value_script, over_a_value_report, ReducerRebased, reducer_rebased_script, reducer_rebased_report, InputWithDefault, input_with_default_script, input_with_default_report, LanesGoRound, lanes_go_round_script, lanes_go_round_report}
use Rattle.machine_examples.proofs.Chosen.{written}

pub rebased : Rebased
unfolding digits awaits_where lanes_where body_by node_bound linked_by links_among one_link_on links_on timed state_of committed_value body_of rendered fresh host_ops report_bytes
rebased = written appending rebased_script false rebased_report refl

pub over_a_value : OverAValue
unfolding digits awaits_where lanes_where body_by node_bound linked_by links_among one_link_on links_on timed state_of committed_value body_of rendered fresh host_ops report_bytes
over_a_value = written appending over_a_value_script false over_a_value_report refl

pub reducer_rebased : ReducerRebased
unfolding digits awaits_where lanes_where body_by node_bound linked_by links_among one_link_on links_on timed state_of committed_value body_of rendered fresh host_ops report_bytes
reducer_rebased = written reducing reducer_rebased_script false reducer_rebased_report refl

pub input_with_default : InputWithDefault
unfolding digits awaits_where lanes_where body_by node_bound linked_by links_among one_link_on links_on timed state_of committed_value body_of rendered fresh host_ops report_bytes
input_with_default = written appending input_with_default_script false input_with_default_report refl

pub lanes_go_round : LanesGoRound
unfolding digits awaits_where lanes_where body_by node_bound linked_by links_among one_link_on links_on timed state_of committed_value body_of rendered fresh host_ops report_bytes
lanes_go_round = written appending lanes_go_round_script false lanes_go_round_report refl
