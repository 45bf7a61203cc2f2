use Rattle.std.proofs.Common.{refl, arith, rules}
use Rattle.std.proofs.lemmas.Option.{slice_get_read}
use Rattle.rx_hook_store.specs.Store.{kept_hooks}
use Rattle.rx_settle.specs.Found.{seen}
use Rattle.rx_settle.proofs.Found.{seen_at, seen_within}
use Rattle.rx_settle.proofs.Kept.{settle_more, still_kept}
use Rattle.rx_settle.proofs.keeping.settle_each.Goals as goal

pub settle_one-requires : goal.settle_one-requires
settle_one-requires c =
    still_kept c.args.lanes c.args.cut c.args.first (seen c.args.instances.now) c.requires.apart (kept_hooks c.args.store.now) (kept_hooks c.settling.store) (kept_hooks c.settling.store)
    c.settling.instance-index c.instance-item.result.now
    (seen_at c.args.instances.now c.settling.instance-index _ (slice_get_read c.args.instances.now _ c.settling.instance-index c.instance-item.result refl c.settling-test.true c.instance-item.is))
    c.requires.kept c.settling.invariant.so_far

pub settling-preserved : goal.settling-preserved
settling-preserved c = record {
  so_far =
      settle_more c.args.lanes c.args.cut c.args.first (seen c.args.instances.now) c.requires.apart (kept_hooks c.args.store.now) (kept_hooks c.settling.store) (kept_hooks c.settle_one.new.store)
      c.settling.instance-index c.instance-item.result.now
      (seen_at c.args.instances.now c.settling.instance-index _ (slice_get_read c.args.instances.now _ c.settling.instance-index c.instance-item.result refl c.settling-test.true c.instance-item.is))
      c.settling.invariant.so_far c.settle_one.ensures.settled c.settle_one.ensures.others;
  spare = search rules;
}

pub returns-clause-settled : goal.returns-clause-settled
returns-clause-settled c k m at =
    let within = seen_within c.args.instances.now k m at in
    c.settling.invariant.so_far.settled k (omega arith) m at
