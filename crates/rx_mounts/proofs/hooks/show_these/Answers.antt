use Rattle.std.proofs.Common.{◌∙◌, sym}
use Rattle.rx_hook_store.specs.Store.{kept_hooks}
use Rattle.rx_lines.specs.Lines as report
use Rattle.rx_model.specs.State.{state_line}
use Rattle.rx_mounts.proofs.Showing.{one-line, one-of}
use Rattle.rx_writing.proofs.Behind.{with_lines-one}
use Rattle.rx_mounts.proofs.hooks.show_these.Goals as goal

pub showing-init : goal.showing-init
showing-init c = λ s k. c.in_ok-state_head.ensures.written ∙ sym (with_lines-one c.args.log.now report.state_head)

pub show_one-requires : goal.show_one-requires
show_one-requires c = (
  c.requires.0,
  one-of c.args.checked.now c.requires.0 (kept_hooks c.args.hooks.now) c.args.all.now c.requires.1 c.showing.instance-index c.instance-item.result c.showing-test.true c.instance-item.is,
)

pub showing-preserved : goal.showing-preserved
showing-preserved c = λ s k.
    let p = c.args.checked.now in
    let all = c.args.all.now in
    let one = one-of p s (kept_hooks c.args.hooks.now) all k c.showing.instance-index c.instance-item.result c.showing-test.true c.instance-item.is in
    one-line c.args.log.now c.showing.log c.show_one.new.log report.state_head (state_line p s.journal) all c.showing.instance-index c.instance-item.result
    c.showing-test.true c.instance-item.is (c.showing.invariant s k) (c.in_ok-show_one.ensures.ok s one)
