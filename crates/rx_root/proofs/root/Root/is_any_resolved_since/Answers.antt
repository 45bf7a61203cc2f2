use Rattle.std.proofs.Common.{ap, sym, ◌∙◌, subst}
use Rattle.std.specs.Prelude.{List}
use Rattle.rx_model.specs.Committing.{sight_of}
use Rattle.rx_resources.specs.Kept.{Kept}
use Rattle.rx_root.specs.Rooted.{Rooted}
use Rattle.rx_kept.specs.Keeping.{KeepsResources}
use Rattle.rx_kept.proofs.ResolvedSince.{all_seen, as_many_values, as_many_versions, none_new}
use Rattle.rx_root.proofs.root.Root.is_any_resolved_since.Goals as goal

pub is_any_new-requires-clause-versions : goal.is_any_new-requires-clause-versions
is_any_new-requires-clause-versions c =
    let k = c.requires.knows in
    let kept = subst (λ (ks : List Kept). KeepsResources c.requires.program c.requires.state.journal c.requires.state.linked ks) (sym (ap (λ (v : Rooted). v.resources) c.self.view_is)) k.resources in
    as_many_versions c.requires.program c.requires.state c.requires.progress c.self.inside.resources kept c.resources.result.now (all_seen (sight_of c.requires.program c.requires.state c.requires.progress) c.resources.result.now (c.resources.ensures ∙ ap (λ (v : Rooted). v.rendering.resources) c.self.view_is ∙ k.seen))

pub is_any_new-requires-clause-values : goal.is_any_new-requires-clause-values
is_any_new-requires-clause-values c =
    let k = c.requires.knows in
    let kept = subst (λ (ks : List Kept). KeepsResources c.requires.program c.requires.state.journal c.requires.state.linked ks) (sym (ap (λ (v : Rooted). v.resources) c.self.view_is)) k.resources in
    as_many_values c.requires.program c.requires.state c.requires.progress c.self.inside.resources kept c.resources.result.now (all_seen (sight_of c.requires.program c.requires.state c.requires.progress) c.resources.result.now (c.resources.ensures ∙ ap (λ (v : Rooted). v.rendering.resources) c.self.view_is ∙ k.seen))

pub returns : goal.returns
returns c p s g k none =
    let kept = subst (λ (ks : List Kept). KeepsResources p s.journal s.linked ks) (sym (ap (λ (v : Rooted). v.resources) c.self.view_is)) k.resources in
    none_new p s g c.self.inside.resources kept c.resources.result.now (all_seen (sight_of p s g) c.resources.result.now (c.resources.ensures ∙ ap (λ (v : Rooted). v.rendering.resources) c.self.view_is ∙ k.seen)) k.declared
    (c.is_any_new.ensures.none none)
