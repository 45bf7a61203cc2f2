use Rattle.rx_sched.specs.declared.event.Event.{Event}
use Rattle.std.proofs.Common.{◌≡◌, ◌<◌, ◌∙◌, ap, sym, subst, ℕ, length, refl}
use Rattle.rx_lane.specs.Lanes.{Lanes}
use Rattle.rx_queue.specs.declared.update.Update.{Update}
use Rattle.rx_queue.specs.Journal.{hook}
use Rattle.rx_sched.specs.Schedule.{Schedule}
use Rattle.rx_model.specs.State.{linked_lanes}
use Rattle.rx_model.specs.Accepting.{lane_of}
use Rattle.rx_model.specs.HooksOf.{KeepsAllHooks}
use Rattle.rx_model.specs.Laws.{IsBounded}
use Rattle.rx_hook_store.specs.Store.{kept_hooks}
use Rattle.rx_hook_store.specs.Changing.{lanes_linked}
use Rattle.rx_hook_store.specs.Rendered.{KeepsInstance}
use Rattle.rx_render.specs.Rendering.{Rendering}
use Rattle.rx_render.specs.Renders.{Renders, with_hooks}
use Rattle.rx_root.specs.Rooted.{Rooted}
use Rattle.rx_root.specs.Taking.{root_accepted}
use Rattle.rx_kept.specs.Taking.{claimed_by}
use Rattle.rx_kept.proofs.Resources.{sent_declared, sent_kept}
use Rattle.rx_root.proofs.Sending.{number_below, sent_stands, unsent_stands}
use Rattle.rx_root.proofs.root.Root.send.Goals as goal

pub returns-in-Ok-clause-ok : goal.returns-in-Ok-clause-ok
returns-in-Ok-clause-ok c s k m h at same reached =
    let v = c.args.self.now in
    let p = v.rendering.program in
    let i = c.args.sent.instance in
    let place = c.args.sent.place in
    let op = c.args.sent.op in
    let w = c.args.word in
    let lane = c.lane-lane.result in
    let view = c.self-2.view_is ∙ c.lane-lane.ensures.claims in
    let rendering = ap (λ (r : Rooted). r.rendering) view in
    let updates : c.self-2.inside.updates ≡ length s.journal.updates = ap (λ (r : Rooted). r.updates) view ∙ h.updates in
    let lane_is : lane ≡ lane_of s w = c.lane-lane.ensures.lane s h.schedule h.event in
    let here : c.pending-pending.result ≡ v.schedule.pending = c.pending-pending.ensures ∙ ap (λ (r : Rooted). r.schedule.pending) c.self.view_is in
    let pending : c.pending-pending.result ≡ s.schedule.pending = here ∙ ap (λ (x : Schedule). x.pending) h.schedule in
    let keeps = subst (λ (r : Rendering). KeepsAllHooks p s (kept_hooks r.hooks)) (sym rendering) h.keeps in
    let instance = subst (λ (n : ℕ). KeepsInstance p s (kept_hooks c.self-2.inside.renderer.hooks) n m.initials) same
    (c.hooks_are_there.ensures.mounted p s (kept_hooks c.self-2.inside.renderer.hooks) keeps k m at) in
    let u : Update = record { number = c.self-2.inside.updates; op = op; lane = lane } in
    let bounded = subst IsBounded (ap (λ (r : Rooted). r.rendering.program) c.self.view_is) c.facts.ensures.bounded in
    let below : i < s.numbers.instance = subst (λ (n : ℕ). n < s.numbers.instance) same (number_below p bounded s h.reached k m at) in
    sent_stands p s v (hook i place) op c.dispatch.new.self v.resources c.in-Ok.linked lane c.accept.new.self h
    (c.in-Ok.ensures.same ∙ ap (λ (r : Rendering). with_hooks r c.dispatch.new.self.hooks) rendering)
    w u lane_is refl
    (c.in-Ok.ensures.links p s m.initials instance ∙ ap (λ (q : Lanes). lanes_linked w u q (linked_lanes s.linked (hook i place))) here)
    (c.in-Ok.ensures.states p s updates lane_is pending keeps)
    (λ g on. c.in-Ok.ensures.renders p s g updates lane_is pending (subst (λ (r : Rendering). Renders p s g r) (sym rendering) on))
    (c.links_are_below.ensures.dispatch s w i place op below h.below)
    reached
    (sent_kept p s w i place op v.resources h.resources)
    (sent_declared p s w i place op h.declared)
    (c.accept.ensures ∙ ap (λ (r : Rooted). root_accepted c.in-Ok.linked lane (record r { rendering = c.dispatch.new.self })) view)

pub returns-in-Err-clause-err : goal.returns-in-Err-clause-err
returns-in-Err-clause-err c s h =
    let v = c.args.self.now in
    let p = v.rendering.program in
    let view = c.self-2.view_is ∙ c.lane-lane.ensures.claims in
    let rendering = ap (λ (r : Rooted). r.rendering) view in
    let back = c.forget_lane.ensures v.schedule
    (λ is none. c.lane-lane.ensures.transition is (sym (ap (λ (r : Rooted). r.event.lane) view) ∙ none))
    (ap (λ (r : Rooted). r.schedule) view ∙ ap (λ (e : Event). claimed_by c.args.word e v.schedule) (sym (ap (λ (r : Rooted). r.event) view))) in
    unsent_stands p s v c.dispatch.new.self c.forget_lane.new.self h
    (c.in-Err.ensures.same ∙ ap (λ (r : Rendering). with_hooks r c.dispatch.new.self.hooks) rendering)
    (λ n. c.in-Err.ensures.err n ∙ ap (λ (r : Rendering). kept_hooks r.hooks n) rendering)
    (λ g on. c.in-Err.ensures.stays p s g (subst (λ (r : Rendering). Renders p s g r) (sym rendering) on))
    (back ∙ ap (λ (r : Rooted). record r { rendering = c.dispatch.new.self; schedule = v.schedule }) view)
