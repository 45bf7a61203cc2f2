-- All operations, kind by kind.
use Rattle.std.proofs.Common.{◌≡◌, ℕ, not, ◌&&◌, List, [], ◌++◌, ap, ◌∙◌}
use Rattle.std.specs.List.{flat_map}
use Rattle.rx_forest.specs.declared.op.HostOp.{HostOp}
use Rattle.rx_forest.specs.declared.op.HostOp.TheVariants as op
use Rattle.rx_forest.specs.Hosts.{Host, has_host}
use Rattle.rx_forest.specs.HostOps.{creation, goes_with_parent, is_gone, placements, removals, creations, contents, hidings}
use Rattle.rx_host_ops.specs.Among.{ops_among}
use Rattle.rx_host_ops.specs.Each.{contents_of, creation_of, hiding_of, removal_of}
use Rattle.rx_host_ops.proofs.Lists.{flat_map-filter}

removals-each : (old new : List Host) → flat_map (removal_of old new) old ≡ removals old new
removals-each old new = flat_map-filter (λ h. is_gone new h && not (goes_with_parent old new h)) (λ h. op.Remove h.number) old

creations-each : (old new : List Host) → flat_map (creation_of old) new ≡ creations old new
creations-each old new = flat_map-filter (λ h. not (has_host old h.number)) (λ h. creation h.number h.content) new

-- each kind added behind the one before makes all
pub among-all : (old new all : List Host) (placed : List ℕ) (o n : List Host) (placing r c p t h : List HostOp) → o ≡ old → n ≡ new → placing ≡ placements placed all
    → r ≡ [] ++ flat_map (removal_of o n) old → c ≡ r ++ flat_map (creation_of o) new → p ≡ c ++ placing → t ≡ p ++ flat_map (contents_of o) new → h ≡ t ++ flat_map (hiding_of o) new
    → h ≡ ops_among old new all placed
among-all old new all placed o n placing r c p t h eo en ep er ec eq et eh =
    eh
    ∙ ap (λ xs. xs ++ flat_map (hiding_of o) new) (et ∙ ap (λ xs. xs ++ flat_map (contents_of o) new) (eq ∙ ap (λ xs. xs ++ placing) (ec ∙ ap (λ xs. xs ++ flat_map (creation_of o) new) er)))
    ∙ ap (λ x. flat_map (removal_of x n) old ++ flat_map (creation_of x) new ++ placing ++ flat_map (contents_of x) new ++ flat_map (hiding_of x) new) eo
    ∙ ap (λ x. flat_map (removal_of old x) old ++ flat_map (creation_of old) new ++ placing ++ contents old new ++ hidings old new) en
    ∙ ap (λ x. x ++ flat_map (creation_of old) new ++ placing ++ contents old new ++ hidings old new) (removals-each old new)
    ∙ ap (λ x. removals old new ++ x ++ placing ++ contents old new ++ hidings old new) (creations-each old new)
    ∙ ap (λ x. removals old new ++ creations old new ++ x ++ contents old new ++ hidings old new) ep
