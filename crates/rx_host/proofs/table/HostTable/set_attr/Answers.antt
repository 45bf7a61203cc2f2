use Rattle.std.specs.Prelude.{IsSome, Some, refl, Option}
use Rattle.std.proofs.Common.{sym, subst}
use Rattle.rx_forest.specs.Forests.{with_body, with_value}
use Rattle.rx_host.specs.declared.entry.HostEntry.{HostEntry}
use Rattle.rx_host.specs.declared.table.HostTable.{HostTable}
use Rattle.rx_host.proofs.Viewed.{changes-view}
use Rattle.rx_host.proofs.table.HostTable.set_attr.Goals as goal

pub returns-in-Some-clause-changes : goal.returns-in-Some-clause-changes
returns-in-Some-clause-changes c =
    let e : HostEntry = c.in-Some.entry.now in
    let d : HostEntry = record e { view = c.set_attr.new.self } in
    let old : HostTable = c.args.self.now in
    let new : HostTable = record old { hosts = c.get_mut.follows.lender d } in
    let was = sym c.in-Some.ensures.value in
    let there = subst (λ (o : Option HostEntry). IsSome o) (sym was) refl in
    let written = c.get_mut.follows.holds d in
    changes-view old new c.args.host e c.set_attr.new.self (with_body (with_value c.args.name (Some c.args.value))) was (written.3 there).0 c.set_attr.ensures.held refl refl written.2 written.6
