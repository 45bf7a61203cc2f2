-- The operations of each host.
use Rattle.std.specs.Prelude.{false, not, ◌&&◌, List, [], ◌∷◌, if◌then◌else◌}
use Rattle.std.specs.Option.{option_map_or}
use Rattle.rx_forest.specs.declared.op.HostOp.{HostOp}
use Rattle.rx_forest.specs.declared.op.HostOp.TheVariants as op
use Rattle.rx_forest.specs.Hosts.{Host, has_host, host_numbered}
use Rattle.rx_forest.specs.HostOps.{is_gone, goes_with_parent, creation, content_ops, hiding_ops, bare}

-- an old host is removed, if it is gone and its parent isn't
abbrev pub removal_of : (old new : List Host) → Host → List HostOp
removal_of old new h = if is_gone new h && not (goes_with_parent old new h) then op.Remove h.number ∷ [] else []

-- a new host is made, if it is no old one
abbrev pub creation_of : (old : List Host) → Host → List HostOp
creation_of old h = if not (has_host old h.number) then creation h.number h.content ∷ [] else []

-- the changes of a new host's content
abbrev pub contents_of : (old : List Host) → Host → List HostOp
contents_of old h = content_ops h.number (option_map_or (λ g. g.content) (host_numbered old h.number) (bare h.content)) h.content

-- the change of a new host's mark
abbrev pub hiding_of : (old : List Host) → Host → List HostOp
hiding_of old h = hiding_ops h.number (option_map_or (λ g. g.hidden) (host_numbered old h.number) false) h.hidden
