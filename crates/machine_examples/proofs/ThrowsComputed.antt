-- Each example of `Throws` by computing the run.
use Rattle.std.proofs.Common.{false, refl}
use Rattle.std.specs.Fmt.{digits}
use Rattle.rx_base.specs.Awaits.{awaits_where}
use Rattle.rx_lane.specs.Lanes.{lanes_where}
use Rattle.rx_rules.specs.Bounds.{body_by, node_bound}
use Rattle.rx_sched.specs.Links.{linked_by, links_among, one_link_on, links_on}
use Rattle.rx_sched.specs.Deadlines.{timed}
use Rattle.rx_queue.specs.Journal.{state_of, committed_value}
use Rattle.rx_meaning.specs.Body.{body_of}
use Rattle.rx_meaning.specs.Fresh.{rendered, fresh}
use Rattle.rx_forest.specs.HostOps.{host_ops}
use Rattle.rx_lines.specs.Lines.{report_bytes}
use Rattle.machine_examples.specs.Programs.{throwing, late_throwing}
use Rattle.machine_examples.specs.Throws.{Caught, caught_script, caught_report, CaughtAnew, caught_anew_script, caught_anew_report, CaughtLate, caught_late_script, caught_late_report}
use Rattle.machine_examples.proofs.Chosen.{written}

pub caught : Caught
unfolding digits awaits_where lanes_where body_by node_bound linked_by links_among one_link_on links_on timed state_of committed_value body_of rendered fresh host_ops report_bytes
caught = written throwing caught_script false caught_report refl

pub caught_anew : CaughtAnew
unfolding digits awaits_where lanes_where body_by node_bound linked_by links_among one_link_on links_on timed state_of committed_value body_of rendered fresh host_ops report_bytes
caught_anew = written throwing caught_anew_script false caught_anew_report refl

pub caught_late : CaughtLate
unfolding digits awaits_where lanes_where body_by node_bound linked_by links_among one_link_on links_on timed state_of committed_value body_of rendered fresh host_ops report_bytes
caught_late = written late_throwing caught_late_script false caught_late_report refl
