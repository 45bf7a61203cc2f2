use Rattle.std.proofs.Common.{◌≡◌, ◌+◌, ◌-◌, ◌≤◌, ◌<◌, ℕ, Bool, true, List, [], ◌∷◌, is_some, length, get_or, drop, sym, ap, ◌∙◌, subst, arith}
use Rattle.rx_forest.specs.Hosts.{Host}
use Rattle.rx_forest.specs.HostOps.{is_placed}
use Rattle.host_laws.specs.Siblings.{HasPlacedParents}
use Rattle.rx_set.specs.Sets.{holds}
use Rattle.rx_host_ops.proofs.Lists.{front}
use Rattle.rx_host_ops.proofs.placing.placed_parents.Goals as goal

more : (placed : List ℕ) (p q : ℕ → Bool) → ((n : ℕ) → p n ≡ true → q n ≡ true) → (hs : List Host) → HasPlacedParents placed p hs → HasPlacedParents placed q hs
more placed p q f [] a = tt
more placed p q f (h ∷ hs) a = ((λ e. f h.parent (a.0 e)), more placed p q f hs a.1)

step : (placed : List ℕ) (p q : ℕ → Bool) (hs : List Host) (k : ℕ) (h : Host) → 0 < k → k ≤ length hs → h ≡ get_or hs (k - 1) h
    → (is_placed placed h.number ≡ true → q h.parent ≡ true) → ((n : ℕ) → p n ≡ true → q n ≡ true)
    → HasPlacedParents placed p (drop k hs) → HasPlacedParents placed q (drop (k - 1) hs)
step placed p q hs k h some within is own others a =
    let next : k ≡ (k - 1) + 1 = omega (arith, some) in
    subst (HasPlacedParents placed q) (sym (front hs (k - 1) h (omega (arith, some, within)) is))
    (own, subst (λ j. HasPlacedParents placed q (drop j hs)) next (more placed p q others (drop k hs) a))

pub loop-place-preserved : goal.loop-place-preserved
loop-place-preserved c =
    let h = c.index-hosts-place.result in
    step c.args.placed.now (holds c.loop-place.parents) (holds c.add_parent.new.parents) c.args.hosts.now c.loop-place.place h
    c.loop-place-test.true c.loop-place.auto.place c.index-hosts-place.is
    (λ e. c.in_ok-add_parent.ensures.own (c.in_ok-placed.ensures h.number ∙ e)) c.in_ok-add_parent.ensures.others c.loop-place.invariant
