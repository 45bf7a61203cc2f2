use Rattle.rx_top.proofs.Verified.{is-verified, joined-verified}
use Rattle.rx_top.proofs.laws.what_is_reported_is_verified.Goals as goal

pub returns-clause-parts : goal.returns-clause-parts
returns-clause-parts c = is-verified

pub returns-clause-joined : goal.returns-clause-joined
returns-clause-joined c = joined-verified c.a_mark_parts_an_input.ensures
