use Rattle.std.proofs.Common.{arith, ap, length}
use Rattle.rx_keys.proofs.Finding.{length-identities}
use Rattle.rx_keys.proofs.known.Known.new.Goals as goal

pub table_of-requires : goal.table_of-requires
table_of-requires c = omega (arith, ap length c.deref.ensures.value, length-identities c.in_ok-ids.ids.items c.args.children.now c.in_ok-ids.ensures)
