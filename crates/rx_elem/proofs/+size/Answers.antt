use Rattle.std.proofs.Common.{arith}
use Rattle.rx_elem.proofs.Pairs.{depth-get, size_in-end}
use Rattle.rx_elem.proofs.+size.Goals as goal

pub walks::size_of_all-size-requires : goal.walks::size_of_all-size-requires
walks::size_of_all-size-requires t c =
    (omega (arith, depth-get c.args.elements.now c.loop-element.element-index c.element-item.result c.loop-element-test.true c.element-item.is), tt)

pub walks::size_of_all-returns : goal.walks::size_of_all-returns
walks::size_of_all-returns t c = omega (arith, size_in-end c.args.elements.now c.loop-element.element-index c.loop-element-test.false)
