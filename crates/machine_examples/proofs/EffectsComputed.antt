-- Each example of `Effects` by computing the run.
use Rattle.std.proofs.Common.{false, refl}
use Rattle.std.specs.Fmt.{digits}
use Rattle.rx_base.specs.Awaits.{awaits_where}
use Rattle.rx_lane.specs.Lanes.{lanes_where}
use Rattle.rx_rules.specs.Bounds.{body_by, node_bound}
use Rattle.rx_sched.specs.Links.{linked_by, links_among, one_link_on, links_on}
use Rattle.rx_sched.specs.Deadlines.{timed}
use Rattle.rx_queue.specs.Journal.{state_of, committed_value}
use Rattle.rx_meaning.specs.Body.{body_of}
use Rattle.rx_meaning.specs.Fresh.{rendered, fresh}
use Rattle.rx_forest.specs.HostOps.{host_ops}
use Rattle.rx_lines.specs.Lines.{report_bytes}
use Rattle.machine_examples.specs.Programs.{effects_of_kids}
use Rattle.machine_examples.specs.Effects.{ChangeAndRemoval, change_and_removal_script, change_and_removal_report, SyncRunsPassive, sync_runs_passive_script, sync_runs_passive_report, DefaultIsNotSliced, default_is_not_sliced_script, default_is_not_sliced_report}
use Rattle.machine_examples.proofs.Chosen.{written}

pub change_and_removal : ChangeAndRemoval
unfolding digits awaits_where lanes_where body_by node_bound linked_by links_among one_link_on links_on timed state_of committed_value body_of rendered fresh host_ops report_bytes
change_and_removal = written effects_of_kids change_and_removal_script false change_and_removal_report refl

pub sync_runs_passive : SyncRunsPassive
unfolding digits awaits_where lanes_where body_by node_bound linked_by links_among one_link_on links_on timed state_of committed_value body_of rendered fresh host_ops report_bytes
sync_runs_passive = written effects_of_kids sync_runs_passive_script false sync_runs_passive_report refl

pub default_is_not_sliced : DefaultIsNotSliced
unfolding digits awaits_where lanes_where body_by node_bound linked_by links_among one_link_on links_on timed state_of committed_value body_of rendered fresh host_ops report_bytes
default_is_not_sliced = written effects_of_kids default_is_not_sliced_script false default_is_not_sliced_report refl
