use Rattle.std.proofs.Common.{rules, ap, ◌∙◌, sym, ◌≡◌, ◌+◌, arith, length, filter, not}
use Rattle.std.proofs.lemmas.Fn.{filter_same}
use Rattle.rx_resources.specs.Kept.{Kept, is_included, version_at, committed}
use Rattle.rx_resources.proofs.Counting.{both_parts, committed_is}
use Rattle.rx_resources.proofs.resource.Resource.commit.Goals as goal

pub invariant_of-self : goal.invariant_of-self
invariant_of-self c =
    let kept = filter_same _ (λ a. not (is_included c.args.lanes c.args.cut a)) _ (λ x b f' k. search rules) _ _ c.retain.ensures.filtered in
    let left = ap length kept in
    let parts = both_parts (is_included c.args.lanes c.args.cut) c.self.inside.asked.items in
    let seen : c.version-self-inside.result ≡ c.self.inside.done + length (filter (is_included c.args.lanes c.args.cut) c.self.inside.asked.items) =
    c.version-self-inside.ensures ∙ sym (ap (λ (k : Kept). version_at c.args.lanes c.args.cut k) c.self.view_is) in
    omega (arith, left, parts, seen, c.self.invariant.0, c.self.invariant.1)

pub returns : goal.returns
returns c =
    let kept = filter_same _ (λ a. not (is_included c.args.lanes c.args.cut a)) _ (λ x b f' k. search rules) _ _ c.retain.ensures.filtered in
    let seen = c.version-self-inside.ensures ∙ sym (ap (λ (k : Kept). version_at c.args.lanes c.args.cut k) c.self.view_is) in
    committed_is c.args.lanes c.args.cut (record { done = c.self.inside.done; asked = c.self.inside.asked.items; values = c.self.inside.values.items; linked = c.self.inside.linked })
    c.version-self-inside.result c.retain.new.self.items seen kept
    ∙ ap (λ (k : Kept). committed c.args.lanes c.args.cut k) c.self.view_is
