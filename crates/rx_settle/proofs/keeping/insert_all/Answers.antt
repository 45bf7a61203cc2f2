use Rattle.std.proofs.Common.{◌∙◌, ap, arith, length, length-append}
use Rattle.rx_hook_store.specs.Store.{kept_hooks}
use Rattle.rx_settle.proofs.Making.{inserted}
use Rattle.rx_settle.proofs.keeping.insert_all.Goals as goal

pub inserting-preserved : goal.inserting-preserved
inserting-preserved c = record {
  same = λ n.
      inserted c.inserting.made.items c.pop.new.self.items c.in-Some.new (kept_hooks c.inserting.store) (kept_hooks c.insert.new.self) c.in-Some.ensures.items c.insert.ensures.kept n
      ∙ c.inserting.invariant.same n;
  room = (let room = c.inserting.invariant.room in let spare = c.insert.ensures.spare in omega (arith, simp length-append at (ap length c.in-Some.ensures.items)));
}
