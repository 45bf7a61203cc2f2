-- Each example of `Slices` by computing the run.
use Rattle.std.proofs.Common.{false, refl}
use Rattle.std.specs.Fmt.{digits}
use Rattle.rx_base.specs.Awaits.{awaits_where}
use Rattle.rx_lane.specs.Lanes.{lanes_where}
use Rattle.rx_rules.specs.Bounds.{body_by, node_bound}
use Rattle.rx_sched.specs.Links.{linked_by, links_among, one_link_on, links_on}
use Rattle.rx_sched.specs.Deadlines.{timed}
use Rattle.rx_queue.specs.Journal.{state_of, committed_value}
use Rattle.rx_meaning.specs.Body.{body_of}
use Rattle.rx_meaning.specs.Fresh.{rendered, fresh}
use Rattle.rx_forest.specs.HostOps.{host_ops}
use Rattle.rx_lines.specs.Lines.{report_bytes}
use Rattle.machine_examples.specs.Programs.{appending, cells}
use Rattle.machine_examples.specs.Slices.{MustFinish, must_finish_script, must_finish_report, Yields, yields_script, yields_report, Interrupted, interrupted_script, interrupted_report, NotInterrupted, not_interrupted_script, not_interrupted_report, Expired, expired_script, expired_report, NotExpired, not_expired_script, not_expired_report}
use Rattle.machine_examples.proofs.Chosen.{written}

pub must_finish : MustFinish
unfolding digits awaits_where lanes_where body_by node_bound linked_by links_among one_link_on links_on timed state_of committed_value body_of rendered fresh host_ops report_bytes
must_finish = written appending must_finish_script false must_finish_report refl

pub yields : Yields
unfolding digits awaits_where lanes_where body_by node_bound linked_by links_among one_link_on links_on timed state_of committed_value body_of rendered fresh host_ops report_bytes
yields = written appending yields_script false yields_report refl

pub interrupted : Interrupted
unfolding digits awaits_where lanes_where body_by node_bound linked_by links_among one_link_on links_on timed state_of committed_value body_of rendered fresh host_ops report_bytes
interrupted = written cells interrupted_script false interrupted_report refl

pub not_interrupted : NotInterrupted
unfolding digits awaits_where lanes_where body_by node_bound linked_by links_among one_link_on links_on timed state_of committed_value body_of rendered fresh host_ops report_bytes
not_interrupted = written cells not_interrupted_script false not_interrupted_report refl

pub expired : Expired
unfolding digits awaits_where lanes_where body_by node_bound linked_by links_among one_link_on links_on timed state_of committed_value body_of rendered fresh host_ops report_bytes
expired = written cells expired_script false expired_report refl

pub not_expired : NotExpired
unfolding digits awaits_where lanes_where body_by node_bound linked_by links_among one_link_on links_on timed state_of committed_value body_of rendered fresh host_ops report_bytes
not_expired = written cells not_expired_script false not_expired_report refl
