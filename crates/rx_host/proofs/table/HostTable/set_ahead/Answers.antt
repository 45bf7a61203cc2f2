use Rattle.std.specs.Prelude.{ℕ, nat_eq, IsSome, refl, Option}
use Rattle.std.specs.HashMap.{get}
use Rattle.std.proofs.Common.{sym, subst}
use Rattle.rx_host.specs.declared.entry.HostEntry.{HostEntry}
use Rattle.rx_host.specs.Linking.{host_in}
use Rattle.rx_host.proofs.Numbers.{not-same}
use Rattle.rx_host.proofs.Tabled.{last-written}
use Rattle.rx_host.proofs.table.HostTable.set_ahead.Goals as goal

pub returns-in-Some-get_mut-2-clause-links : goal.returns-in-Some-get_mut-2-clause-links
returns-in-Some-get_mut-2-clause-links c spot =
    let e : HostEntry = c.in-Some-get_mut-2.entry.now in
    let d : HostEntry = record e { last = c.args.link } in
    let was = sym c.in-Some-get_mut-2.ensures.value in
    let there = subst (λ (o : Option HostEntry). IsSome o) (sym was) refl in
    let new = λ (q : ℕ). get nat_eq (c.get_mut-in-None-2.follows.lender d) q in
    let other = not-same c.args.parent 0 c.if-parent-eq0.false in
    rw c.in-None.is
    (last-written (host_in c.args.self.now) new c.args.self.now.first c.args.self.now.last c.args.parent e d other was ((c.get_mut-in-None-2.follows.holds d).3 there).0 refl refl refl refl)
