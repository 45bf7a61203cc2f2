-- The operations of hosts that stand where they stood.
use Rattle.std.specs.Prelude.{ℕ, List, [], ◌∷◌, ◌++◌, map}
use Rattle.rx_forest.specs.declared.op.HostOp.{HostOp}
use Rattle.rx_forest.specs.Hosts.{Host}
use Rattle.rx_forest.specs.HostOps.{content_ops, hiding_ops}

-- the numbers of hosts
abbrev pub numbers_in : List Host → List ℕ
numbers_in = map (λ h. h.number)

-- what each new host gives beside the old one at its place
abbrev pub beside : (Host → Host → List HostOp) → (old new : List Host) → List HostOp
beside f (g ∷ old) (h ∷ new) = f g h ++ beside f old new
beside f _ _ = []

-- the changes of what a host is, beside what it was
abbrev pub change_of : (old new : Host) → List HostOp
change_of g h = content_ops h.number g.content h.content

-- the change of a host's mark
abbrev pub mark_of : (old new : Host) → List HostOp
mark_of g h = hiding_ops h.number g.hidden h.hidden
