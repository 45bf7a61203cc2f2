-- Each example of `Boundaries` by computing the run.
use Rattle.std.proofs.Common.{false, true, refl}
use Rattle.std.specs.Fmt.{digits}
use Rattle.rx_base.specs.Awaits.{awaits_where}
use Rattle.rx_lane.specs.Lanes.{lanes_where}
use Rattle.rx_rules.specs.Bounds.{body_by, node_bound}
use Rattle.rx_sched.specs.Links.{linked_by, links_among, one_link_on, links_on}
use Rattle.rx_sched.specs.Deadlines.{timed}
use Rattle.rx_queue.specs.Journal.{state_of, committed_value}
use Rattle.rx_meaning.specs.Body.{body_of}
use Rattle.rx_meaning.specs.Fresh.{rendered, fresh}
use Rattle.rx_forest.specs.HostOps.{host_ops}
use Rattle.rx_lines.specs.Lines.{report_bytes}
use Rattle.machine_examples.specs.Programs.{users, late_users, nested_boundaries, boxes, boxes_with_effects}
use Rattle.machine_examples.specs.Boundaries.{FirstWait, first_wait_script, first_wait_report, LaterResolution, later_resolution_script, later_resolution_report, ResolvedTwice, resolved_twice_script, resolved_twice_report, WaitingFallback, waiting_fallback_script, waiting_fallback_report, HiddenHosts, hidden_hosts_script, hidden_hosts_report, HidingAndShowing, hiding_and_showing_script, hiding_and_showing_report}
use Rattle.machine_examples.proofs.Chosen.{written}

pub first_wait : FirstWait
unfolding digits awaits_where lanes_where body_by node_bound linked_by links_among one_link_on links_on timed state_of committed_value body_of rendered fresh host_ops report_bytes
first_wait = written users first_wait_script false first_wait_report refl

pub later_resolution : LaterResolution
unfolding digits awaits_where lanes_where body_by node_bound linked_by links_among one_link_on links_on timed state_of committed_value body_of rendered fresh host_ops report_bytes
later_resolution = written late_users later_resolution_script false later_resolution_report refl

pub resolved_twice : ResolvedTwice
unfolding digits awaits_where lanes_where body_by node_bound linked_by links_among one_link_on links_on timed state_of committed_value body_of rendered fresh host_ops report_bytes
resolved_twice = written users resolved_twice_script false resolved_twice_report refl

pub waiting_fallback : WaitingFallback
unfolding digits awaits_where lanes_where body_by node_bound linked_by links_among one_link_on links_on timed state_of committed_value body_of rendered fresh host_ops report_bytes
waiting_fallback = written nested_boundaries waiting_fallback_script false waiting_fallback_report refl

pub hidden_hosts : HiddenHosts
unfolding digits awaits_where lanes_where body_by node_bound linked_by links_among one_link_on links_on timed state_of committed_value body_of rendered fresh host_ops report_bytes
hidden_hosts = written boxes hidden_hosts_script true hidden_hosts_report refl

pub hiding_and_showing : HidingAndShowing
unfolding digits awaits_where lanes_where body_by node_bound linked_by links_among one_link_on links_on timed state_of committed_value body_of rendered fresh host_ops report_bytes
hiding_and_showing = written boxes_with_effects hiding_and_showing_script false hiding_and_showing_report refl
