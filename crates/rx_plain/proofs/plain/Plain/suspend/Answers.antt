use Rattle.std.proofs.Common.{◌≡◌, ℕ, List, ◌∙◌, ap, sym}
use Rattle.std.specs.Prelude.{slice_index_or}
use Rattle.rx_queue.specs.Pairs.{in_versions}
use Rattle.rx_sched.specs.Schedule.{Schedule, after_deferral}
use Rattle.rx_model.specs.Committing.{schedule_deferred}
use Rattle.rx_plain.specs.declared.plain.Going.TheInside.{Inside}
use Rattle.rx_plain.specs.Plained.{Going, Plained}
use Rattle.rx_kept.proofs.ResolvedSince.{not_suspended, suspended, waits_seen}
use Rattle.rx_plain.proofs.plain.Plain.suspend.Goals as goal

pub returns-then-is_resolved_since-clause-deferred : goal.returns-then-is_resolved_since-clause-deferred
returns-then-is_resolved_since-clause-deferred c s g k schedule now =
    let p = c.args.checked.now in
    let yes = sym (c.is_resolved_since.ensures s g k) ∙ c.if-is_resolved_since.true in
    ap (λ (x : Schedule). record c.args.self.now { schedule = x }) (schedule ∙ sym (not_suspended p s g c.args.waits.now yes))

pub returns-clause-deferred : goal.returns-clause-deferred
returns-clause-deferred c s g k schedule now =
    let p = c.args.checked.now in
    let none = sym (c.is_resolved_since.ensures s g k) ∙ c.if-is_resolved_since.false in
    let versions : c.deref.result.now ≡ c.args.going.now.seen.versions = c.deref.ensures.value ∙ ap (λ (x : Inside). x.seen.versions) c.going-inside.view_is ∙ ap (λ (x : Going). x.seen.versions) c.going.view_is in
    let waits =
    ap (λ (all : List ℕ). in_versions (λ r. slice_index_or all r 0) c.args.waits.now) versions ∙ waits_seen p s g c.args.waits.now c.args.going.now.seen k.goes_on.seen k.declared in
    let before = ap (λ (v : Plained). v.schedule) c.self.view_is ∙ schedule in
    let clock = ap (λ (v : Plained). v.now) c.self.view_is ∙ now in
    let deferred : c.deferred.new.self ≡ schedule_deferred s g c.args.waits.now =
    c.deferred.ensures ∙ (λ i. after_deferral (before i) ((ap (λ (x : Inside). x.lanes) c.going-inside.view_is ∙ ap (λ (x : Going). x.lanes) c.going.view_is ∙ k.goes_on.lanes) i) (waits i) (clock i)) ∙ sym (suspended p s g c.args.waits.now none) in
    ap (λ (v : Plained). record v { schedule = c.deferred.new.self }) c.self.view_is ∙ ap (λ (x : Schedule). record c.args.self.now { schedule = x }) deferred
