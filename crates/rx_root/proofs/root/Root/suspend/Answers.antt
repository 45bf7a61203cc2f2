use Rattle.std.proofs.Common.{◌≡◌, ℕ, List, ◌∙◌, ap, sym}
use Rattle.std.specs.Prelude.{slice_index_or}
use Rattle.rx_queue.specs.Pairs.{in_versions}
use Rattle.rx_sched.specs.Schedule.{Schedule, after_deferral}
use Rattle.rx_model.specs.Committing.{schedule_deferred, sight_of}
use Rattle.rx_resources.specs.Seen.{Resources}
use Rattle.rx_root.specs.Rooted.{Rooted}
use Rattle.rx_kept.proofs.ResolvedSince.{all_seen, not_suspended, suspended, waits_seen}
use Rattle.rx_root.proofs.root.Root.suspend.Goals as goal

pub returns-then-is_resolved_since : goal.returns-then-is_resolved_since
returns-then-is_resolved_since c p s g k schedule now =
    let yes = sym (c.is_resolved_since.ensures p s g k) ∙ c.if-is_resolved_since.true in
    ap (λ (x : Schedule). record c.args.self.now { schedule = x }) (schedule ∙ sym (not_suspended p s g c.args.waits.now yes))

pub returns : goal.returns
returns c p s g k schedule now =
    let none = sym (c.is_resolved_since.ensures p s g k) ∙ c.if-is_resolved_since.false in
    let seen = all_seen (sight_of p s g) c.resources.result.now (c.resources.ensures ∙ ap (λ (v : Rooted). v.rendering.resources) c.self.view_is ∙ k.seen) in
    let versions : c.deref.result.now ≡ c.resources.result.now.versions = c.deref.ensures.value ∙ ap (λ (x : Resources). x.versions) c.behind-self.view_is in
    let waits =
    ap (λ (all : List ℕ). in_versions (λ r. slice_index_or all r 0) c.args.waits.now) versions ∙ waits_seen p s g c.args.waits.now c.resources.result.now seen k.declared in
    let lanes = c.lanes.ensures ∙ ap (λ (v : Rooted). v.rendering.lanes) c.self.view_is ∙ k.lanes in
    let before = ap (λ (v : Rooted). v.schedule) c.self.view_is ∙ schedule in
    let clock = ap (λ (v : Rooted). v.now) c.self.view_is ∙ now in
    let deferred : c.deferred.new.self ≡ schedule_deferred s g c.args.waits.now =
    c.deferred.ensures ∙ (λ i. after_deferral (before i) (lanes i) (waits i) (clock i)) ∙ sym (suspended p s g c.args.waits.now none) in
    ap (λ (v : Rooted). record v { schedule = c.deferred.new.self }) c.self.view_is ∙ ap (λ (x : Schedule). record c.args.self.now { schedule = x }) deferred
