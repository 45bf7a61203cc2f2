use Rattle.std.proofs.Common.{◌≡◌, ℕ, ◌+◌, ◌++◌, ◌∷◌, [], List, length, map, take, drop, sym, subst, ap, ◌∙◌, arith, append_assoc}
use Rattle.std.proofs.lemmas.List.{length-take, map-append}
use Rattle.rx_elem.specs.Elements.{Element}
use Rattle.rx_elem.specs.Identity.{Identity, identities_after}
use Rattle.rx_keys.specs.Found.{CountsKeys}
use Rattle.rx_keys.specs.IdentityView.{identity_seen}
use Rattle.rx_keys.proofs.Counting.{back, front}
use Rattle.rx_keys.proofs.identity.identities.Goals as goal

pub loop-place-preserved : goal.loop-place-preserved
loop-place-preserved c =
    let children = c.args.children.now in
    let place = c.loop-place.place in
    let child = c.index-children-place.result in
    let ids = c.loop-place.ids.items in
    let size : length (take place children) ≡ place = omega (arith, c.loop-place-test.true, length-take place children) in
    let so_far : take (place + 1) children ≡ take place children ++ child ∷ [] = back children place child c.loop-place-test.true c.index-children-place.is in
    let left : List Identity = identities_after (take place children ++ child ∷ []) (drop (place + 1) children) in (
      c.loop-place.invariant.0
          ∙ ap (λ (es : List Element). map identity_seen ids ++ identities_after (take place children) es) (front children place child c.loop-place-test.true c.index-children-place.is)
          ∙ ap (λ (i : Identity). map identity_seen ids ++ i ∷ left) (sym (c.in_ok-id.ensures.identity (take place children) size c.loop-place.invariant.1))
          ∙ sym (append_assoc (map identity_seen ids) (identity_seen c.in_ok-id.id ∷ []) left)
          ∙ ap (λ (is : List Identity). is ++ left) (sym (ap (map identity_seen) c.in_ok-push.ensures.items ∙ map-append identity_seen ids (c.in_ok-id.id ∷ [])))
          ∙ ap (λ (es : List Element). map identity_seen c.push.new.self.items ++ identities_after es (drop (place + 1) children)) (sym so_far),
      subst (CountsKeys c.next_identity.new.counts) (sym so_far) (c.in_ok-id.ensures.counted (take place children) c.loop-place.invariant.1),
    )
