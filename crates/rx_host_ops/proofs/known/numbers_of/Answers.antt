use Rattle.std.proofs.Common.{◌∙◌, ap, nat_eq}
use Rattle.std.proofs.lemmas.List.{take_all}
use Rattle.std.specs.List.{list_any}
use Rattle.rx_host_ops.specs.Tables.{entry_in}
use Rattle.rx_host_ops.proofs.Finding.{more-numbers}
use Rattle.rx_host_ops.proofs.known.numbers_of.Goals as goal

pub loop-number-preserved : goal.loop-number-preserved
loop-number-preserved c n =
    more-numbers c.args.numbers.now c.loop-number.number-index n (entry_in c.loop-number.known n) (entry_in c.put.new.self n) c.loop-number-test.true
    (c.in_ok-put.ensures n) (c.loop-number.invariant n)

pub returns : goal.returns
returns c n = c.loop-number.invariant n ∙ ap (list_any (nat_eq n)) (take_all c.loop-number.number-index c.args.numbers.now c.loop-number-test.false)
