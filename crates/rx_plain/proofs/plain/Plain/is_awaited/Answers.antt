use Rattle.std.proofs.Common.{◌≡◌, ◌<◌, ◌∙◌, Option, sym, ap, arith, length, nat_eq, ◌&&◌}
use Rattle.rx_base.specs.Awaits.{Awaits, has, resource_limit}
use Rattle.rx_base.specs.AwaitsLaws.{has-awaits_where}
use Rattle.rx_check.proofs.Limited.{few-resources}
use Rattle.rx_elem.specs.Trees.{Node}
use Rattle.rx_meaning.specs.Outcome.{is_awaited}
use Rattle.rx_queue.specs.Journal.{done_version, next_version}
use Rattle.rx_resources.specs.Kept.{Kept}
use Rattle.rx_resources.specs.Store.{kept_at}
use Rattle.rx_resources.proofs.Counting.{next_agrees}
use Rattle.rx_spots.specs.Waits.{all_awaited}
use Rattle.rx_plain.specs.Plained.{Plained}
use Rattle.rx_plain.proofs.plain.Plain.is_awaited.Goals as goal

pub returns-then-has : goal.returns-then-has
returns-then-has c s h =
    let v = c.args.self.now in
    let r = c.args.resource in
    let few = few-resources c.args.checked.now c.program.ensures.accepted in
    let all = h.resources.all in
    let within : r < length v.resources = c.requires in
    let lt : r < resource_limit = omega (arith, few, within, all) in
    let tree = c.as_ref.ensures.value ∙ ap (λ (x : Plained). x.tree) c.self.view_is ∙ h.tree in
    let waits : c.has.result ≡ is_awaited s.tree r =
    c.has.ensures
    ∙ (ap (λ (a : Awaits). has a r) (c.awaited.ensures.are ∙ ap (λ (t : Option Node). all_awaited t) tree) ∙ has-awaits_where _ r lt)
    ∙ c.ends_are_not_read.ensures.awaited s.tree r in
    let kept : c.get-kept.result.now ≡ kept_at v.resources r = c.get-kept.ensures ∙ ap (λ (x : Plained). kept_at x.resources r) c.self.view_is in
    let is = h.resources.each r within in
    let done : c.done.result ≡ done_version s.journal r = c.done.ensures ∙ ap (λ (k : Kept). k.done) kept ∙ is.done in
    let next : c.next.result ≡ next_version s.journal r = c.next.ensures ∙ ap (λ (k : Kept). length k.values) kept ∙ next_agrees s.journal r (kept_at v.resources r) is in
    (λ i. nat_eq (done i) (next i)) ∙ sym (ap (λ b. b && nat_eq (done_version s.journal r) (next_version s.journal r)) (sym waits ∙ c.if-has.true))

pub returns-else-has : goal.returns-else-has
returns-else-has c s h =
    let v = c.args.self.now in
    let r = c.args.resource in
    let few = few-resources c.args.checked.now c.program.ensures.accepted in
    let all = h.resources.all in
    let within : r < length v.resources = c.requires in
    let lt : r < resource_limit = omega (arith, few, within, all) in
    let tree = c.as_ref.ensures.value ∙ ap (λ (x : Plained). x.tree) c.self.view_is ∙ h.tree in
    let waits : c.has.result ≡ is_awaited s.tree r =
    c.has.ensures
    ∙ (ap (λ (a : Awaits). has a r) (c.awaited.ensures.are ∙ ap (λ (t : Option Node). all_awaited t) tree) ∙ has-awaits_where _ r lt)
    ∙ c.ends_are_not_read.ensures.awaited s.tree r in
    c.if-has.false ∙ sym (ap (λ b. b && nat_eq (done_version s.journal r) (next_version s.journal r)) (sym waits ∙ c.if-has.false))
