use Rattle.std.proofs.Common.{inr, sym, ◌∙◌, subst}
use Rattle.rx_elem.specs.Trees.{element_of}
use Rattle.rx_compare.specs.InPlace.{IsInPlace}
use Rattle.rx_read.proofs.Links.{by_value}
use Rattle.rx_beside.proofs.Here.{element_is, is_node, stands_at}
use Rattle.rx_beside.proofs.Standing.{old_held}
use Rattle.rx_beside.proofs.pairs.stand_alone.Goals as goal

pub returns-clause-alone : goal.returns-clause-alone
returns-clause-alone c =
    let t = c.args.tree.now in
    let fits = c.facts.ensures.fits in
    let linked = c.facts.ensures.linked in
    let old = c.args.pair.now.old in
    let new = c.args.pair.now.new in
    let made = c.requires.made in
    let l = by_value t fits linked old c.value-was.result.now c.requires.old c.value-was.ensures.current c.value-was.ensures.made in
    let k = by_value t fits linked new c.value-is.result.now (inr made) c.value-is.ensures.current c.value-is.ensures.made in
    let was = c.stand_first.ensures.old c.if-not-stand_first.false in
    let is = c.stand_first.ensures.new c.if-not-stand_first.false in
    record {
      pair = record {
        made = made;
        old = c.requires.is_for;
        was = is_node t old _ _ _ l.2 c.requires.old was.1;
        is = is_node t new _ _ _ k.2 (inr made) is.1;
      };
      stands = λ o n had has.
          subst (λ x. IsInPlace x (element_of n)) (element_is t old _ _ _ l.2 o had)
          (subst (IsInPlace c.value-was.result.now.element) (element_is t new _ _ _ k.2 n has) (c.stand_first.ensures.same c.if-not-stand_first.false));
      old_places = c.are_last.ensures.old c.if-not-are_last.false 0 ∙ stands_at t old _ _ _ l.2 0 (sym was.0) was.1 0;
      new_places = c.are_last.ensures.new c.if-not-are_last.false 0 ∙ stands_at t new _ _ _ k.2 0 (sym is.0) is.1 0;
    }

pub returns-clause-bare : goal.returns-clause-bare
returns-clause-bare c e =
    let t = c.args.tree.now in
    let old = c.args.pair.now.old in
    let new = c.args.pair.now.new in
    record {
      was = c.value-was.result.now;
      is = c.value-is.result.now;
      old = c.value-was.ensures.current (old_held t c.facts.ensures.fits c.facts.ensures.linked new c.requires.made old c.requires.is_for);
      new = c.value-is.ensures.made c.requires.made;
      are = c.are_bare.ensures e;
    }
