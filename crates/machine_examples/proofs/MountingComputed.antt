-- Each example of `Mounting` by computing the run.
use Rattle.std.proofs.Common.{false, refl}
use Rattle.std.specs.Fmt.{digits}
use Rattle.rx_base.specs.Awaits.{awaits_where}
use Rattle.rx_lane.specs.Lanes.{lanes_where}
use Rattle.rx_rules.specs.Bounds.{body_by, node_bound}
use Rattle.rx_sched.specs.Links.{linked_by, links_among, one_link_on, links_on}
use Rattle.rx_sched.specs.Deadlines.{timed}
use Rattle.rx_queue.specs.Journal.{state_of, committed_value}
use Rattle.rx_meaning.specs.Body.{body_of}
use Rattle.rx_meaning.specs.Fresh.{rendered, fresh}
use Rattle.rx_forest.specs.HostOps.{host_ops}
use Rattle.rx_lines.specs.Lines.{report_bytes}
use Rattle.machine_examples.specs.Programs.{two_counters, switch, sums}
use Rattle.machine_examples.specs.Mounting.{NoScript, no_script_script, no_script_report, MountAndSet, mount_and_set_script, mount_and_set_report, Remount, remount_script, remount_report, Unmounted, unmounted_script, unmounted_report, Wrapping, wrapping_script, wrapping_report}
use Rattle.machine_examples.proofs.Chosen.{written}

pub no_script : NoScript
unfolding digits awaits_where lanes_where body_by node_bound linked_by links_among one_link_on links_on timed state_of committed_value body_of rendered fresh host_ops report_bytes
no_script = written two_counters no_script_script false no_script_report refl

pub mount_and_set : MountAndSet
unfolding digits awaits_where lanes_where body_by node_bound linked_by links_among one_link_on links_on timed state_of committed_value body_of rendered fresh host_ops report_bytes
mount_and_set = written two_counters mount_and_set_script false mount_and_set_report refl

pub remount : Remount
unfolding digits awaits_where lanes_where body_by node_bound linked_by links_among one_link_on links_on timed state_of committed_value body_of rendered fresh host_ops report_bytes
remount = written switch remount_script false remount_report refl

pub unmounted : Unmounted
unfolding digits awaits_where lanes_where body_by node_bound linked_by links_among one_link_on links_on timed state_of committed_value body_of rendered fresh host_ops report_bytes
unmounted = written switch unmounted_script false unmounted_report refl

pub wrapping : Wrapping
unfolding digits awaits_where lanes_where body_by node_bound linked_by links_among one_link_on links_on timed state_of committed_value body_of rendered fresh host_ops report_bytes
wrapping = written sums wrapping_script false wrapping_report refl
