use Rattle.std.proofs.Common.{ap, sym, ◌∙◌, subst}
use Rattle.rx_check.specs.Accepted.{IsAccepted}
use Rattle.rx_model.specs.Committing.{sight_of}
use Rattle.rx_resources.specs.Kept.{Kept}
use Rattle.std.specs.Prelude.{List}
use Rattle.rx_root.specs.Rooted.{Rooted}
use Rattle.rx_kept.specs.Keeping.{KeepsResources}
use Rattle.rx_kept.proofs.ResolvedSince.{all_seen, as_many_values, as_many_versions, few_kept, news_is}
use Rattle.rx_root.proofs.root.Root.is_resolved_since.Goals as goal

pub is_new-requires-clause-few : goal.is_new-requires-clause-few
is_new-requires-clause-few c =
    let k = c.requires.knows in
    let kept = subst (λ (ks : List Kept). KeepsResources c.requires.program c.requires.state.journal c.requires.state.linked ks) (sym (ap (λ (v : Rooted). v.resources) c.self.view_is)) k.resources in
    few_kept c.requires.program c.requires.state c.requires.progress c.self.inside.resources kept (subst IsAccepted k.program c.facts.ensures.accepted)

pub is_new-requires-clause-versions : goal.is_new-requires-clause-versions
is_new-requires-clause-versions c =
    let k = c.requires.knows in
    let kept = subst (λ (ks : List Kept). KeepsResources c.requires.program c.requires.state.journal c.requires.state.linked ks) (sym (ap (λ (v : Rooted). v.resources) c.self.view_is)) k.resources in
    as_many_versions c.requires.program c.requires.state c.requires.progress c.self.inside.resources kept c.resources.result.now (all_seen (sight_of c.requires.program c.requires.state c.requires.progress) c.resources.result.now (c.resources.ensures ∙ ap (λ (v : Rooted). v.rendering.resources) c.self.view_is ∙ k.seen))

pub is_new-requires-clause-values : goal.is_new-requires-clause-values
is_new-requires-clause-values c =
    let k = c.requires.knows in
    let kept = subst (λ (ks : List Kept). KeepsResources c.requires.program c.requires.state.journal c.requires.state.linked ks) (sym (ap (λ (v : Rooted). v.resources) c.self.view_is)) k.resources in
    as_many_values c.requires.program c.requires.state c.requires.progress c.self.inside.resources kept c.resources.result.now (all_seen (sight_of c.requires.program c.requires.state c.requires.progress) c.resources.result.now (c.resources.ensures ∙ ap (λ (v : Rooted). v.rendering.resources) c.self.view_is ∙ k.seen))

pub returns : goal.returns
returns c p s g k =
    let kept = subst (λ (ks : List Kept). KeepsResources p s.journal s.linked ks) (sym (ap (λ (v : Rooted). v.resources) c.self.view_is)) k.resources in
    news_is p s g c.self.inside.resources kept c.args.waits.now c.resources.result.now c.is_new.result (all_seen (sight_of p s g) c.resources.result.now (c.resources.ensures ∙ ap (λ (v : Rooted). v.rendering.resources) c.self.view_is ∙ k.seen))
    k.declared c.is_new.ensures.some c.is_new.ensures.none
