use Rattle.std.specs.Prelude.{IsSome, refl, Option}
use Rattle.std.proofs.Common.{sym, subst}
use Rattle.rx_forest.specs.Forests.{with_body, with_letters}
use Rattle.rx_host.specs.declared.entry.HostEntry.{HostEntry}
use Rattle.rx_host.specs.declared.table.HostTable.{HostTable}
use Rattle.rx_host.proofs.Viewed.{changes-view}
use Rattle.rx_host.proofs.table.HostTable.set_letters.Goals as goal

pub returns-in-Some : goal.returns-in-Some
returns-in-Some c =
    let e : HostEntry = c.in-Some.entry.now in
    let d : HostEntry = record e { view = c.set_letters.new.self } in
    let old : HostTable = c.args.self.now in
    let new : HostTable = record old { hosts = c.get_mut.follows.lender d } in
    let was = sym c.in-Some.ensures.value in
    let there = subst (λ (o : Option HostEntry). IsSome o) (sym was) refl in
    let written = c.get_mut.follows.holds d in
    changes-view old new c.args.host e c.set_letters.new.self (with_body (with_letters c.args.text)) was (written.3 there).0 c.set_letters.ensures refl refl written.2 written.6
