-- Each example of `Children` by computing the run.
use Rattle.std.proofs.Common.{false, true, refl}
use Rattle.std.specs.Fmt.{digits}
use Rattle.rx_base.specs.Awaits.{awaits_where}
use Rattle.rx_lane.specs.Lanes.{lanes_where}
use Rattle.rx_rules.specs.Bounds.{body_by, node_bound}
use Rattle.rx_sched.specs.Links.{linked_by, links_among, one_link_on, links_on}
use Rattle.rx_sched.specs.Deadlines.{timed}
use Rattle.rx_queue.specs.Journal.{state_of, committed_value}
use Rattle.rx_meaning.specs.Body.{body_of}
use Rattle.rx_meaning.specs.Fresh.{rendered, fresh}
use Rattle.rx_forest.specs.HostOps.{host_ops}
use Rattle.rx_lines.specs.Lines.{report_bytes}
use Rattle.machine_examples.specs.Programs.{attributes_of_a_host, rotating, equal_items}
use Rattle.machine_examples.specs.Children.{Attributes, attributes_script, attributes_report, Rotated, rotated_script, rotated_report, EqualKeys, equal_keys_script, equal_keys_report}
use Rattle.machine_examples.proofs.Chosen.{written}

pub attributes : Attributes
unfolding digits awaits_where lanes_where body_by node_bound linked_by links_among one_link_on links_on timed state_of committed_value body_of rendered fresh host_ops report_bytes
attributes = written attributes_of_a_host attributes_script true attributes_report refl

pub rotated : Rotated
unfolding digits awaits_where lanes_where body_by node_bound linked_by links_among one_link_on links_on timed state_of committed_value body_of rendered fresh host_ops report_bytes
rotated = written rotating rotated_script true rotated_report refl

pub equal_keys : EqualKeys
unfolding digits awaits_where lanes_where body_by node_bound linked_by links_among one_link_on links_on timed state_of committed_value body_of rendered fresh host_ops report_bytes
equal_keys = written equal_items equal_keys_script false equal_keys_report refl
