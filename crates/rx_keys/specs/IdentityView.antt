-- An identity of the code as plain data.
use Rattle.rx_elem.specs.Identity as identity
use Rattle.rx_keys.specs.declared.identity.Identity.{Identity}
use Rattle.rx_keys.specs.declared.identity.Identity.TheVariants.{Key, Index}

-- the identity of a child
abbrev pub identity_seen : Identity → identity.Identity
identity_seen (Key k o) = identity.at_key k o
identity_seen (Index i) = identity.at_index i
