-- The examples of `Examples` by computing the renders.
use Rattle.std.specs.Prelude.{refl}
use Rattle.std.specs.Fmt.{digits}
use Rattle.rx_base.specs.Awaits.{awaits_where}
use Rattle.rx_lane.specs.Lanes.{lanes_where}
use Rattle.rx_queue.specs.Journal.{committed_value, state_of}
use Rattle.rx_meaning.specs.Body.{body_of}
use Rattle.rx_meaning.specs.Fresh.{fresh, rendered}
use Rattle.rx_meaning.specs.Touched.{visited, visits}
use Rattle.cost_laws.specs.Evaluated.{evaluated, whole_evaluated}
use Rattle.cost_laws.specs.Examples.{EqualInputsSpare, cells, first_lanes, leaves, one_told, other_state, other_value, others_told, outer_value, shielded, sync}
use Rattle.cost_laws.specs.Moments.{AsMany, at_first}

mounted : AsMany cells first_lanes at_first 6
unfolding digits awaits_where lanes_where state_of committed_value body_of rendered fresh visited visits evaluated whole_evaluated
mounted = (refl, refl)

none_told : AsMany cells sync other_state 1
unfolding digits awaits_where lanes_where state_of committed_value body_of rendered fresh visited visits evaluated whole_evaluated
none_told = (refl, refl)

first_told : AsMany cells sync one_told 2
unfolding digits awaits_where lanes_where state_of committed_value body_of rendered fresh visited visits evaluated whole_evaluated
first_told = (refl, refl)

four_told : AsMany cells sync others_told 5
unfolding digits awaits_where lanes_where state_of committed_value body_of rendered fresh visited visits evaluated whole_evaluated
four_told = (refl, refl)

read : AsMany leaves first_lanes at_first 4
unfolding digits awaits_where lanes_where state_of committed_value body_of rendered fresh visited visits evaluated whole_evaluated
read = (refl, refl)

read_anew : AsMany leaves sync other_value 2
unfolding digits awaits_where lanes_where state_of committed_value body_of rendered fresh visited visits evaluated whole_evaluated
read_anew = (refl, refl)

hidden_value : AsMany shielded sync outer_value 1
unfolding digits awaits_where lanes_where state_of committed_value body_of rendered fresh visited visits evaluated whole_evaluated
hidden_value = (refl, refl)

pub inputs_spare : EqualInputsSpare
inputs_spare = record { mounted = mounted; none_told = none_told; first_told = first_told; four_told = four_told; read = read; read_anew = read_anew; hidden_value = hidden_value }
