use Rattle.std.proofs.Common.{◌≡◌, length, take, subst, sym, ◌∙◌, arith}
use Rattle.std.proofs.lemmas.List.{take_all}
use Rattle.rx_host_ops.specs.Beside.{numbers_in}
use Rattle.rx_host_ops.proofs.InPlace.{numbers-more}
use Rattle.rx_host_ops.proofs.between.have_same_numbers.Goals as goal

pub comparing-preserved : goal.comparing-preserved
comparing-preserved c =
    let old = c.args.old.now in
    let new = c.args.new.now in
    let even : length old ≡ length new = c.comparing.invariant.0 in (
      even,
      numbers-more old new c.comparing.place c.index-old-place.result c.index-new-place.result (omega (arith, even, c.comparing-test.true)) c.comparing-test.true
          c.index-old-place.is c.index-new-place.is (sym c.number.ensures ∙ c.if-number.false ∙ c.number-in-comparing.ensures) c.comparing.invariant.1,
    )

pub returns : goal.returns
returns c e =
    let old = c.args.old.now in
    let new = c.args.new.now in
    let k = c.comparing.place in
    subst (λ xs. numbers_in xs ≡ numbers_in new) (take_all k old (omega (arith, c.comparing.invariant.0, c.comparing-test.false)))
    (subst (λ ys. numbers_in (take k old) ≡ numbers_in ys) (take_all k new (omega (arith, c.comparing-test.false))) c.comparing.invariant.1)
