-- Each example of `Contexts` by computing the run.
use Rattle.std.proofs.Common.{false, refl}
use Rattle.std.specs.Fmt.{digits}
use Rattle.rx_base.specs.Awaits.{awaits_where}
use Rattle.rx_lane.specs.Lanes.{lanes_where}
use Rattle.rx_rules.specs.Bounds.{body_by, node_bound}
use Rattle.rx_sched.specs.Links.{linked_by, links_among, one_link_on, links_on}
use Rattle.rx_sched.specs.Deadlines.{timed}
use Rattle.rx_queue.specs.Journal.{state_of, committed_value}
use Rattle.rx_meaning.specs.Body.{body_of}
use Rattle.rx_meaning.specs.Fresh.{rendered, fresh}
use Rattle.rx_forest.specs.HostOps.{host_ops}
use Rattle.rx_lines.specs.Lines.{report_bytes}
use Rattle.machine_examples.specs.Programs.{themes, placing_twice}
use Rattle.machine_examples.specs.Contexts.{InsideAndOutside, inside_and_outside_script, inside_and_outside_report, PlacedTwice, placed_twice_script, placed_twice_report}
use Rattle.machine_examples.proofs.Chosen.{written}

pub inside_and_outside : InsideAndOutside
unfolding digits awaits_where lanes_where body_by node_bound linked_by links_among one_link_on links_on timed state_of committed_value body_of rendered fresh host_ops report_bytes
inside_and_outside = written themes inside_and_outside_script false inside_and_outside_report refl

pub placed_twice : PlacedTwice
unfolding digits awaits_where lanes_where body_by node_bound linked_by links_among one_link_on links_on timed state_of committed_value body_of rendered fresh host_ops report_bytes
placed_twice = written placing_twice placed_twice_script false placed_twice_report refl
