use Rattle.std.proofs.Common.{◌≡◌, ℕ, ◌<◌, ◌≤◌, true, Some, length, get_or, slice_get, refl, ap, sym, ◌∙◌, arith, below_more}
use Rattle.std.proofs.lemmas.Option.{same_Some, slice_get-get_or, slice_get_read, slice_get_within}
use Rattle.rx_settle.specs.Passes.{has_instance}
use Rattle.rx_settle.proofs.Numbers.{has_itself}
use Rattle.rx_settle.proofs.gone.stand_as_before.Goals as goal

pub comparing-preserved : goal.comparing-preserved
comparing-preserved c =
    let before = c.args.before.now in
    let instances = c.args.instances.now in
    let place = c.comparing.place in
    let old : ℕ = get_or before place 0 in
    let new = c.index-instances-place.result in
    let fewer : length before ≤ length instances = c.comparing.invariant.0 in
    let test : place < length before = c.comparing-test.true in
    let within : place < length instances = omega (arith, fewer, test) in
    let number : old ≡ new.number = c.if-before-place.false ∙ c.number.ensures in
    let there : has_instance instances old ≡ true =
    ap (has_instance instances) number ∙ has_itself instances place new (slice_get_read instances _ place new refl within c.index-instances-place.is) in (
      fewer,
      below_more (λ k. (n : ℕ) → slice_get before k ≡ Some n → has_instance instances n ≡ true) place c.comparing.invariant.1
          (λ n at.
          let same : old ≡ n = same_Some _ _ (sym (slice_get-get_or before place 0 test) ∙ at) in
          ap (has_instance instances) (sym same) ∙ there),
    )

pub returns : goal.returns
returns c e k n at =
    let within = slice_get_within c.args.before.now k n at in
    c.comparing.invariant.1 k (omega (arith, within, c.comparing-test.false)) n at
