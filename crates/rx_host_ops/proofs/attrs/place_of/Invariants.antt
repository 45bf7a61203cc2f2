use Rattle.std.proofs.Common.{◌≡◌, ◌++◌, take, drop}
use Rattle.rx_elem.specs.declared.attr.Attr.{Attr}
use Rattle.rx_forest.specs.Hosts.{with_attr}
use Rattle.rx_host_ops.specs.Attrs.{seen}
use Rattle.rx_host_ops.proofs.attrs.place_of.Given as goal

-- an attribute of this name goes behind those so far
abbrev pub invariant-loop-place : goal.invariant-loop-place
invariant-loop-place l = (a : Attr) → a.name ≡ l.name → with_attr a (seen l.attrs) ≡ seen (take l.place l.attrs) ++ with_attr a (seen (drop l.place l.attrs))
