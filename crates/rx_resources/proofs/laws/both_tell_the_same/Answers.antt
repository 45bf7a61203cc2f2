use Rattle.rx_resources.proofs.Counting.{seen_agrees, last_agrees, next_agrees, value_agrees}
use Rattle.rx_resources.proofs.laws.both_tell_the_same.Goals as goal

pub returns-clause-seen : goal.returns-clause-seen
returns-clause-seen c = seen_agrees

pub returns-clause-last : goal.returns-clause-last
returns-clause-last c = last_agrees

pub returns-clause-next : goal.returns-clause-next
returns-clause-next c = next_agrees

pub returns-clause-value : goal.returns-clause-value
returns-clause-value c = value_agrees
