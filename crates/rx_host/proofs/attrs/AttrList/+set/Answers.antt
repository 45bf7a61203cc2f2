use Rattle.std.proofs.Common.{sym}
use Rattle.rx_host.proofs.Attributes.{one-by-name, first-by-name, later-by-name}
use Rattle.rx_host.proofs.attrs.AttrList.+set.Goals as goal

pub push-requires-clause-by_name : goal.push-requires-clause-by_name
push-requires-clause-by_name t c = rw c.in-End.is (one-by-name c.args.name c.args.value)

pub push-requires-in-Less-clause-by_name : goal.push-requires-in-Less-clause-by_name
push-requires-in-Less-clause-by_name t c =
    let less = rw (c.text.ensures, c.text-in-More.ensures) at c.in-Less.ensures in
    let sorted = rw c.in-More.is at c.self.invariant in
    first-by-name c.args.name c.args.value c.in-More.attr c.in-More.rest.value (sym less) sorted

pub invariant_of-self-in-Greater : goal.invariant_of-self-in-Greater
invariant_of-self-in-Greater t c =
    let greater = rw (c.text.ensures, c.text-in-More.ensures) at c.in-Greater.ensures in
    let sorted = rw c.in-More.is at c.self.invariant in
    rw (c.set.ensures.attrs, c.deref_mut.ensures.value) (later-by-name c.args.name c.args.value c.in-More.attr c.in-More.rest.value (sym greater) sorted)
