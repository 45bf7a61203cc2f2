use Rattle.std.proofs.Common.{◌∙◌, ap, sym, arith, map}
use Rattle.std.proofs.lemmas.List.{take_all}
use Rattle.rx_elem.specs.Elements.{key_of}
use Rattle.rx_compare.specs.Matched.{element_at}
use Rattle.rx_compare.proofs.Places.{map-element_at}
use Rattle.rx_fresh.proofs.lists.have_keys_of.Goals as goal

pub returns : goal.returns
returns c = λ _.
    let old = c.args.old.now in
    let new = c.args.new.now in
    ap (map key_of) (sym (map-element_at old))
    ∙ ap (λ ns. map key_of (map element_at ns)) (sym (take_all c.loop-place.place old (omega (arith, c.loop-place-test.false, c.loop-place.invariant.0))))
    ∙ c.loop-place.invariant.1
    ∙ ap (map key_of) (take_all c.loop-place.place new (omega (arith, c.loop-place-test.false)))
