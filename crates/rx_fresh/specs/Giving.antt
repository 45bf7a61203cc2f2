-- What a body gives that is shared, as the definitions have it.
use Rattle.rx_meaning.specs.Body as body
use Rattle.rx_fresh.specs.declared.given.Ready.{Ready}
use Rattle.rx_fresh.specs.declared.given.Given.{Given}
use Rattle.rx_fresh.specs.declared.given.Given.TheVariants as given

-- what a body gives that is ready
abbrev pub ready_seen : Ready → body.Body
ready_seen r = body.ready r.elements.value.items r.effects.value.items r.initials.value r.reads.value.items r.versions.value.items

-- what a body gives
abbrev pub given_seen : Given → body.Body
given_seen (given.Wait r v) = body.wait r v
given_seen (given.Throw x) = body.throw x
given_seen (given.Ready r) = ready_seen r
