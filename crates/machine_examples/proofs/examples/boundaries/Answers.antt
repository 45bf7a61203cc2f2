use Rattle.machine_examples.proofs.BoundariesComputed.{first_wait, later_resolution, resolved_twice, waiting_fallback, hidden_hosts, hiding_and_showing}
use Rattle.machine_examples.proofs.examples.boundaries.Goals as goal

pub returns : goal.returns
returns c = record { first_wait = first_wait; later_resolution = later_resolution; resolved_twice = resolved_twice; waiting_fallback = waiting_fallback; hidden_hosts = hidden_hosts; hiding_and_showing = hiding_and_showing }
