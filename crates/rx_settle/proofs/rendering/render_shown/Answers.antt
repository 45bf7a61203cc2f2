use Rattle.std.proofs.Common.{◌∙◌, refl, arith, rules}
use Rattle.std.proofs.lemmas.Option.{slice_get_read}
use Rattle.rx_hook_store.specs.Store.{kept_hooks}
use Rattle.rx_settle.specs.Found.{seen}
use Rattle.rx_settle.proofs.Found.{seen_at, seen_within}
use Rattle.rx_settle.proofs.Again.{render_more}
use Rattle.rx_settle.proofs.Kept.{other_than}
use Rattle.rx_settle.proofs.rendering.render_shown.Goals as goal

pub render_one-requires : goal.render_one-requires
render_one-requires c below =
    c.rendering.invariant.so_far.goes_on.there _
    (c.requires.kept c.rendering.instance-index c.instance-item.result.now
    (seen_at c.args.instances.now c.rendering.instance-index _ (slice_get_read c.args.instances.now _ c.rendering.instance-index c.instance-item.result refl c.rendering-test.true c.instance-item.is)) below)

pub rendering-preserved : goal.rendering-preserved
rendering-preserved c = record {
  so_far =
      render_more c.args.checked.now c.args.lanes c.args.cut c.args.first (kept_hooks c.args.store.now) (kept_hooks c.rendering.store) (kept_hooks c.render_one.new.store)
      (seen c.args.instances.now) c.requires.apart c.rendering.instance-index c.instance-item.result.now
      (seen_at c.args.instances.now c.rendering.instance-index _ (slice_get_read c.args.instances.now _ c.rendering.instance-index c.instance-item.result refl c.rendering-test.true c.instance-item.is))
      c.rendering.invariant.so_far c.render_one.ensures.keeps c.in_ok-render_one.ensures.rendered c.render_one.ensures.others;
  spare = search rules;
}

pub returns-clause-rendered : goal.returns-clause-rendered
returns-clause-rendered c k m at =
    let within = seen_within c.args.instances.now k m at in
    c.rendering.invariant.so_far.rendered k (omega arith) m at

pub returns-in_err-render_one-clause-others : goal.returns-in_err-render_one-clause-others
returns-in_err-render_one-clause-others c n none =
    c.render_one.ensures.others n
    (other_than (seen c.args.instances.now) c.rendering.instance-index c.instance-item.result.now n
    (seen_at c.args.instances.now c.rendering.instance-index _ (slice_get_read c.args.instances.now _ c.rendering.instance-index c.instance-item.result refl c.rendering-test.true c.instance-item.is))
    none)
    ∙ c.rendering.invariant.so_far.elsewhere n none
