-- Each example of `Transitions` by computing the run.
use Rattle.std.proofs.Common.{false, refl}
use Rattle.std.specs.Fmt.{digits}
use Rattle.rx_base.specs.Awaits.{awaits_where}
use Rattle.rx_lane.specs.Lanes.{lanes_where}
use Rattle.rx_rules.specs.Bounds.{body_by, node_bound}
use Rattle.rx_sched.specs.Links.{linked_by, links_among, one_link_on, links_on}
use Rattle.rx_sched.specs.Deadlines.{timed}
use Rattle.rx_sched.specs.Waiting.{waiting_where}
use Rattle.rx_queue.specs.Journal.{state_of, committed_value}
use Rattle.rx_meaning.specs.Body.{body_of}
use Rattle.rx_meaning.specs.Fresh.{rendered, fresh}
use Rattle.rx_forest.specs.HostOps.{host_ops}
use Rattle.rx_lines.specs.Lines.{report_bytes}
use Rattle.machine_examples.specs.Programs.{boxes}
use Rattle.machine_examples.specs.Transitions.{Owed, owed_script, owed_report, Deferred, deferred_script, deferred_report, DeferredThenResolved, deferred_then_resolved_script, deferred_then_resolved_report, NewDeadline, new_deadline_script, new_deadline_report, Linked, linked_script, linked_report}
use Rattle.machine_examples.proofs.Chosen.{written}

pub owed : Owed
unfolding digits awaits_where lanes_where body_by node_bound linked_by links_among one_link_on links_on timed state_of committed_value body_of rendered fresh host_ops report_bytes
owed = written boxes owed_script false owed_report refl

pub deferred : Deferred
unfolding digits awaits_where lanes_where body_by node_bound linked_by links_among one_link_on links_on timed state_of committed_value body_of rendered fresh host_ops report_bytes
deferred = written boxes deferred_script false deferred_report refl

pub deferred_then_resolved : DeferredThenResolved
unfolding digits awaits_where waiting_where lanes_where body_by node_bound linked_by links_among one_link_on links_on timed state_of committed_value body_of rendered fresh host_ops report_bytes
deferred_then_resolved = written boxes deferred_then_resolved_script false deferred_then_resolved_report refl

pub new_deadline : NewDeadline
unfolding digits awaits_where waiting_where lanes_where body_by node_bound linked_by links_among one_link_on links_on timed state_of committed_value body_of rendered fresh host_ops report_bytes
new_deadline = written boxes new_deadline_script false new_deadline_report refl

pub linked : Linked
unfolding digits awaits_where lanes_where body_by node_bound linked_by links_among one_link_on links_on timed state_of committed_value body_of rendered fresh host_ops report_bytes
linked = written boxes linked_script false linked_report refl
