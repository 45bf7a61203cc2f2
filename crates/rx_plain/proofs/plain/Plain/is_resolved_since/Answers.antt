use Rattle.std.proofs.Common.{ap, sym, subst}
use Rattle.std.specs.Prelude.{List}
use Rattle.rx_model.specs.Committing.{sight_of}
use Rattle.rx_resources.specs.Kept.{Kept}
use Rattle.rx_plain.specs.Plained.{Going, Plained}
use Rattle.rx_kept.specs.Keeping.{KeepsResources}
use Rattle.rx_kept.specs.Seeing.{AreSeen}
use Rattle.rx_kept.proofs.ResolvedSince.{as_many_values, as_many_versions, few_kept, news_is}
use Rattle.rx_plain.proofs.plain.Plain.is_resolved_since.Goals as goal

pub is_new-requires-clause-few : goal.is_new-requires-clause-few
is_new-requires-clause-few c =
    let k = c.requires.knows in
    let p = c.args.checked.now in
    let kept = subst (λ (ks : List Kept). KeepsResources p c.requires.state.journal c.requires.state.linked ks) (sym (ap (λ (v : Plained). v.resources) c.self.view_is)) k.resources in
    few_kept p c.requires.state c.requires.progress c.self.inside.resources kept c.program.ensures.accepted

pub is_new-requires-clause-versions : goal.is_new-requires-clause-versions
is_new-requires-clause-versions c =
    let k = c.requires.knows in
    let p = c.args.checked.now in
    let kept = subst (λ (ks : List Kept). KeepsResources p c.requires.state.journal c.requires.state.linked ks) (sym (ap (λ (v : Plained). v.resources) c.self.view_is)) k.resources in
    as_many_versions p c.requires.state c.requires.progress c.self.inside.resources kept c.going.inside.seen (subst (λ (x : Going). AreSeen (sight_of p c.requires.state c.requires.progress) x.seen) (sym c.going.view_is) k.goes_on.seen)

pub is_new-requires-clause-values : goal.is_new-requires-clause-values
is_new-requires-clause-values c =
    let k = c.requires.knows in
    let p = c.args.checked.now in
    let kept = subst (λ (ks : List Kept). KeepsResources p c.requires.state.journal c.requires.state.linked ks) (sym (ap (λ (v : Plained). v.resources) c.self.view_is)) k.resources in
    as_many_values p c.requires.state c.requires.progress c.self.inside.resources kept c.going.inside.seen (subst (λ (x : Going). AreSeen (sight_of p c.requires.state c.requires.progress) x.seen) (sym c.going.view_is) k.goes_on.seen)

pub returns : goal.returns
returns c s g k =
    let p = c.args.checked.now in
    let kept = subst (λ (ks : List Kept). KeepsResources p s.journal s.linked ks) (sym (ap (λ (v : Plained). v.resources) c.self.view_is)) k.resources in
    news_is p s g c.self.inside.resources kept c.args.waits.now c.going.inside.seen c.is_new.result (subst (λ (x : Going). AreSeen (sight_of p s g) x.seen) (sym c.going.view_is) k.goes_on.seen)
    k.declared c.is_new.ensures.some c.is_new.ensures.none
