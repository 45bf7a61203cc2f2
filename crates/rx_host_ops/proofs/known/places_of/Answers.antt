use Rattle.std.proofs.Common.{◌≡◌, ℕ, ◌∙◌, ◌-◌, Option, Some, ap, cond, nat_eq, drop, arith}
use Rattle.std.specs.List.{position_from}
use Rattle.rx_host_ops.specs.Tables.{entry_in}
use Rattle.rx_host_ops.proofs.Finding.{more-places}
use Rattle.rx_host_ops.proofs.known.places_of.Goals as goal

pub loop-place-preserved : goal.loop-place-preserved
loop-place-preserved c n =
    let host = c.index-hosts-place.result in
    let place : ℕ = c.loop-place.place - 1 in
    c.in_ok-put.ensures n
    ∙ ap (λ m. cond (nat_eq m n) (Some place) (entry_in c.loop-place.places n)) c.number.ensures
    ∙ ap (λ (o : Option ℕ). cond (nat_eq host.number n) (Some place) o) (c.loop-place.invariant n)
    ∙ more-places (λ h. nat_eq h.number n) c.args.hosts.now c.loop-place.place place host
    (omega (arith, c.loop-place-test.true)) (omega (arith, c.loop-place-test.true, c.loop-place.auto.place)) c.index-hosts-place.is

pub returns : goal.returns
returns c =
    let first : c.loop-place.place ≡ 0 = omega (arith, c.loop-place-test.false) in
    record { at = λ n. c.loop-place.invariant n ∙ ap (λ k. position_from (λ h. nat_eq h.number n) k (drop k c.args.hosts.now)) first }
