use Rattle.std.proofs.Common.{◌≡◌, ◌<◌, ◌+◌, ◌∙◌, ap, sym, subst, List, length, refl, arith}
use Rattle.rx_queue.specs.declared.update.Op.TheVariants.{Refresh}
use Rattle.rx_queue.specs.declared.update.Update.{Update}
use Rattle.rx_queue.specs.Journal.{resource}
use Rattle.rx_sched.specs.Schedule.{Schedule}
use Rattle.rx_model.specs.State.{linked_lanes}
use Rattle.rx_model.specs.Accepting.{dispatched_for, lane_of}
use Rattle.rx_hook_store.specs.Store.{kept_hooks}
use Rattle.rx_hook_store.specs.Changing.{lanes_linked}
use Rattle.rx_hook_store.proofs.Dispatching.{keeps_refreshed}
use Rattle.rx_hook_store.proofs.Numbered.{links_refreshed}
use Rattle.rx_resources.specs.Kept.{Kept}
use Rattle.rx_resources.specs.Store.{kept_at}
use Rattle.rx_plain.specs.Plained.{Plained}
use Rattle.rx_kept.specs.Keeping.{KeepsResources}
use Rattle.rx_plain.specs.Taking.{accepted_by}
use Rattle.rx_kept.specs.Taking.{asked_for}
use Rattle.rx_kept.proofs.Resources.{refresh_declared, refresh_stays}
use Rattle.rx_plain.proofs.Sending.{accepted_rest, sent_stands}
use Rattle.rx_plain.proofs.plain.Plain.refresh.Goals as goal

pub returns-clause-ok : goal.returns-clause-ok
returns-clause-ok c p s h reached =
    let v = c.args.self.now in
    let r = c.args.resource in
    let w = c.args.word in
    let lane = c.lane-lane.result in
    let claims = c.lane-lane.ensures.claims in
    let updates : c.lane-lane.new.self.updates ≡ length s.journal.updates = ap (λ (x : Plained). x.updates) claims ∙ h.updates in
    let resources : c.lane-lane.new.self.resources ≡ v.resources = ap (λ (x : Plained). x.resources) claims in
    let lane_is : lane ≡ lane_of s w = c.lane-lane.ensures.lane s h.schedule h.event in
    let here : c.pending-pending.result ≡ v.schedule.pending = c.pending-pending.ensures ∙ ap (λ (x : Plained). x.schedule.pending) c.self.view_is in
    let pending : c.pending-pending.result ≡ s.schedule.pending = here ∙ ap (λ (x : Schedule). x.pending) h.schedule in
    let u : Update = record { number = c.lane-lane.new.self.updates; op = Refresh; lane = lane } in
    let kept : List Kept = asked_for w c.lane-lane.new.self.updates lane c.pending-pending.result r c.lane-lane.new.self.resources in
    let kept_is : asked_for w (length s.journal.updates) (lane_of s w) s.schedule.pending r v.resources ≡ kept = (λ i. asked_for w (sym updates i) (sym lane_is i) (sym pending i) r (sym resources i)) in
    let within : r < length v.resources = c.requires.within in
    let links : (kept_at c.lane-lane.new.self.resources r).linked ≡ linked_lanes s.linked (resource r) = ap (λ (ks : List Kept). (kept_at ks r).linked) resources ∙ h.resources.linked r within in
    sent_stands p s v (resource r) Refresh v.hooks kept c.in_ok-linked.linked lane c.accept.new.self h
    w u lane_is refl
    (c.in_ok-linked.ensures.linked ∙ (λ i. lanes_linked w u (here i) (links i)))
    (keeps_refreshed p s w r Refresh (kept_hooks v.hooks) h.keeps)
    (links_refreshed s w r Refresh h.below)
    reached
    (subst (λ (ks : List Kept). KeepsResources p (dispatched_for s w (resource r) Refresh).journal (dispatched_for s w (resource r) Refresh).linked ks) kept_is (refresh_stays p s w r Refresh v.resources within h.resources))
    (refresh_declared p s w r Refresh (let all = h.resources.all in omega (arith, all, within)) h.declared)
    (c.accept.ensures ∙ ap (λ (x : Plained). accepted_by c.in_ok-linked.linked lane x) (c.in_ok-linked.ensures.asked ∙ ap (λ (x : Plained). record x { resources = kept }) claims))

pub returns-clause-rest : goal.returns-clause-rest
returns-clause-rest c =
    let v = c.args.self.now in
    let new = c.accept.new.self in
    let lane = c.lane-lane.result in
    let w = c.lane-lane.new.self in
    let kept : List Kept = asked_for c.args.word w.updates lane c.pending-pending.result c.args.resource w.resources in
    let is = accepted_rest c.in_ok-linked.linked lane _ new
    (c.accept.ensures ∙ ap (λ (x : Plained). accepted_by c.in_ok-linked.linked lane x) (c.in_ok-linked.ensures.asked ∙ ap (λ (x : Plained). record x { resources = kept }) c.lane-lane.ensures.claims)) in
    is ∙ ap (λ (ks : List Kept). record v { resources = ks; schedule = new.schedule; updates = v.updates + 1; event = new.event; going = new.going }) (sym (ap (λ (r : Plained). r.resources) is))
