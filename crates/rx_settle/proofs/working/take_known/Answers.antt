use Rattle.std.proofs.Common.{◌≡◌, ℕ, List, false, cond, refl, sym, ap, subst, ◌∙◌, ◌+◌, nat_eq}
use Rattle.rx_set.specs.Sets.{holds}
use Rattle.std.proofs.lemmas.List.{map-append}
use Rattle.std.proofs.lemmas.Option.{slice_get_read}
use Rattle.rx_elem.specs.Spots.{Mounted}
use Rattle.rx_settle.specs.Found.{AreTaken, seen}
use Rattle.rx_settle.proofs.Found.{pass_more, take_more}
use Rattle.rx_settle.proofs.working.take_known.Goals as goal
use Rattle.rx_settle.proofs.working.take_known.Goals.{then-take_number+in_ok-push, else-take_number}

pub finding-preserved : goal.finding-preserved
finding-preserved c =
    let instance = c.instance-item.result in
    let old = holds c.args.numbers.now in
    let now = holds c.finding.numbers in
    let new = holds c.take_number.new.numbers in
    let at = slice_get_read c.args.instances.now _ c.finding.instance-index instance refl c.finding-test.true c.instance-item.is in
    let is = c.number.ensures in
    let updates : (n : ℕ) → new n ≡ cond (nat_eq instance.number n) false (now n) = λ n. c.take_number.ensures.others n ∙ ap (λ k. cond (nat_eq k n) false (now n)) is in
    let test = ap now (sym is) ∙ sym c.take_number.ensures.was in
    let found = λ (xs : List Mounted). AreTaken old new c.args.instances.now (c.finding.instance-index + 1) xs in
    elim c.if-take_number.branch [
      | then-take_number+in_ok-push w ↦
          subst found (sym (ap (λ v. seen v.items) w.found-is ∙ (ap seen w.in_ok-push.ensures.items ∙ map-append (λ r. r.now) c.finding.found.items _)))
          (take_more old now new c.args.instances.now c.finding.instance-index instance at (seen c.finding.found.items) c.finding.invariant updates (test ∙ w.if-take_number.true))
      | else-take_number w ↦
          subst found (sym (ap (λ v. seen v.items) w.found-is))
          (pass_more old now new c.args.instances.now c.finding.instance-index instance at (seen c.finding.found.items) c.finding.invariant updates (test ∙ w.if-take_number.false))
    ]
