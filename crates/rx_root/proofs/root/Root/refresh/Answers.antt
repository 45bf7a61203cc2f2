use Rattle.rx_sched.specs.declared.event.Event.{Event}
use Rattle.std.proofs.Common.{◌≡◌, ◌<◌, ◌∙◌, ap, sym, subst, List, length, refl, arith}
use Rattle.rx_queue.specs.declared.update.Op.TheVariants.{Refresh}
use Rattle.rx_queue.specs.declared.update.Update.{Update}
use Rattle.rx_queue.specs.Journal.{resource}
use Rattle.rx_sched.specs.Schedule.{Schedule}
use Rattle.rx_model.specs.State.{linked_lanes}
use Rattle.rx_model.specs.Accepting.{dispatched_for, lane_of}
use Rattle.rx_hook_store.specs.Store.{kept_hooks}
use Rattle.rx_hook_store.specs.Changing.{lanes_linked}
use Rattle.rx_hook_store.proofs.Dispatching.{keeps_refreshed}
use Rattle.rx_hook_store.proofs.Numbered.{links_refreshed}
use Rattle.rx_resources.specs.Kept.{Kept}
use Rattle.rx_resources.specs.Store.{kept_at}
use Rattle.rx_root.specs.Rooted.{Rooted}
use Rattle.rx_root.specs.Stands.{Stands}
use Rattle.rx_kept.specs.Keeping.{KeepsResources}
use Rattle.rx_root.specs.Taking.{root_accepted}
use Rattle.rx_kept.specs.Taking.{asked_for, claimed_by}
use Rattle.rx_kept.proofs.Resources.{refresh_declared, refresh_stays}
use Rattle.rx_root.proofs.Sending.{refresh_goes, sent_stands}
use Rattle.rx_root.proofs.root.Root.refresh.Goals as goal

pub returns-in-Ok-clause-ok : goal.returns-in-Ok-clause-ok
returns-in-Ok-clause-ok c s h reached =
    let v = c.args.self.now in
    let p = v.rendering.program in
    let r = c.args.resource in
    let w = c.args.word in
    let lane = c.lane-lane.result in
    let claims = c.lane-lane.ensures.claims in
    let updates : c.lane-lane.new.self.updates ≡ length s.journal.updates = ap (λ (x : Rooted). x.updates) claims ∙ h.updates in
    let resources : c.lane-lane.new.self.resources ≡ v.resources = ap (λ (x : Rooted). x.resources) claims in
    let lane_is : lane ≡ lane_of s w = c.lane-lane.ensures.lane s h.schedule h.event in
    let here : c.pending-pending.result ≡ v.schedule.pending = c.pending-pending.ensures ∙ ap (λ (x : Rooted). x.schedule.pending) c.self.view_is in
    let pending : c.pending-pending.result ≡ s.schedule.pending = here ∙ ap (λ (x : Schedule). x.pending) h.schedule in
    let u : Update = record { number = c.lane-lane.new.self.updates; op = Refresh; lane = lane } in
    let kept : List Kept = asked_for w c.lane-lane.new.self.updates lane c.pending-pending.result r c.lane-lane.new.self.resources in
    let kept_is : asked_for w (length s.journal.updates) (lane_of s w) s.schedule.pending r v.resources ≡ kept = (λ i. asked_for w (sym updates i) (sym lane_is i) (sym pending i) r (sym resources i)) in
    let within : r < length v.resources = c.requires.within in
    let links : (kept_at c.lane-lane.new.self.resources r).linked ≡ linked_lanes s.linked (resource r) = ap (λ (ks : List Kept). (kept_at ks r).linked) resources ∙ h.resources.linked r within in
    sent_stands p s v (resource r) Refresh v.rendering kept c.in-Ok.linked lane c.accept.new.self h refl
    w u lane_is refl
    (c.in-Ok.ensures.linked ∙ (λ i. lanes_linked w u (here i) (links i)))
    (keeps_refreshed p s w r Refresh (kept_hooks v.rendering.hooks) h.keeps)
    (λ g on. refresh_goes p s w r g v.rendering on)
    (links_refreshed s w r Refresh h.below)
    reached
    (subst (λ (ks : List Kept). KeepsResources p (dispatched_for s w (resource r) Refresh).journal (dispatched_for s w (resource r) Refresh).linked ks) kept_is (refresh_stays p s w r Refresh v.resources within h.resources))
    (refresh_declared p s w r Refresh (let all = h.resources.all in omega (arith, all, within)) h.declared)
    (c.accept.ensures ∙ ap (λ (x : Rooted). root_accepted c.in-Ok.linked lane x) (c.in-Ok.ensures.asked ∙ ap (λ (x : Rooted). record x { resources = kept }) claims))

pub returns-in-Err-clause-err : goal.returns-in-Err-clause-err
returns-in-Err-clause-err c s h =
    let v = c.args.self.now in
    let p = v.rendering.program in
    let view = c.in-Err.ensures.same ∙ c.lane-lane.ensures.claims in
    let back = c.forget_lane.ensures v.schedule
    (λ is none. c.lane-lane.ensures.transition is (sym (ap (λ (r : Rooted). r.event.lane) view) ∙ none))
    (ap (λ (r : Rooted). r.schedule) view ∙ ap (λ (e : Event). claimed_by c.args.word e v.schedule) (sym (ap (λ (r : Rooted). r.event) view))) in
    subst (λ (r : Rooted). Stands p s r) (sym (back ∙ ap (λ (r : Rooted). record r { schedule = v.schedule }) view)) h
