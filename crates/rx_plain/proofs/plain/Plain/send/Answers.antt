use Rattle.std.proofs.Common.{◌≡◌, ◌<◌, ◌+◌, ◌∙◌, ap, sym, subst, ℕ, length, refl}
use Rattle.rx_lane.specs.Lanes.{Lanes}
use Rattle.rx_queue.specs.declared.update.Update.{Update}
use Rattle.rx_queue.specs.Journal.{hook}
use Rattle.rx_sched.specs.Schedule.{Schedule}
use Rattle.rx_model.specs.State.{linked_lanes}
use Rattle.rx_model.specs.Accepting.{lane_of}
use Rattle.rx_model.specs.HooksOf.{KeepsAllHooks}
use Rattle.rx_hook_store.specs.Store as hooks
use Rattle.rx_hook_store.specs.Store.{kept_hooks}
use Rattle.rx_hook_store.specs.Changing.{lanes_linked}
use Rattle.rx_hook_store.specs.Rendered.{KeepsInstance}
use Rattle.rx_plain.specs.Plained.{Plained}
use Rattle.rx_plain.specs.Taking.{accepted_by}
use Rattle.rx_kept.proofs.Resources.{sent_declared, sent_kept}
use Rattle.rx_plain.proofs.Sending.{accepted_rest, number_below, sent_stands}
use Rattle.rx_plain.proofs.plain.Plain.send.Goals as goal

pub returns-clause-ok : goal.returns-clause-ok
returns-clause-ok c p s k m bounded h at same reached =
    let v = c.args.self.now in
    let i = c.args.instance in
    let place = c.args.place in
    let op = c.args.op in
    let w = c.args.word in
    let lane = c.lane-lane.result in
    let view = c.self-2.view_is ∙ c.lane-lane.ensures.claims in
    let hooks_are = ap (λ (r : Plained). r.hooks) view in
    let updates : c.self-2.inside.updates ≡ length s.journal.updates = ap (λ (r : Plained). r.updates) view ∙ h.updates in
    let lane_is : lane ≡ lane_of s w = c.lane-lane.ensures.lane s h.schedule h.event in
    let here : c.pending-pending.result ≡ v.schedule.pending = c.pending-pending.ensures ∙ ap (λ (r : Plained). r.schedule.pending) c.self.view_is in
    let pending : c.pending-pending.result ≡ s.schedule.pending = here ∙ ap (λ (x : Schedule). x.pending) h.schedule in
    let keeps = subst (λ (r : hooks.Kept). KeepsAllHooks p s (kept_hooks r)) (sym hooks_are) h.keeps in
    let instance = subst (λ (n : ℕ). KeepsInstance p s (kept_hooks c.self-2.inside.hooks) n m.initials) same
    (c.hooks_are_there.ensures.mounted p s (kept_hooks c.self-2.inside.hooks) keeps k m at) in
    let u : Update = record { number = c.self-2.inside.updates; op = op; lane = lane } in
    let below : i < s.numbers.instance = subst (λ (n : ℕ). n < s.numbers.instance) same (number_below p bounded s h.reached k m at) in
    sent_stands p s v (hook i place) op c.dispatch.new.self v.resources c.in_ok-linked.linked lane c.accept.new.self h
    w u lane_is refl
    (c.in_ok-linked.ensures.links p s m.initials instance ∙ ap (λ (q : Lanes). lanes_linked w u q (linked_lanes s.linked (hook i place))) here)
    (c.in_ok-linked.ensures.states p s updates lane_is pending keeps)
    (c.links_are_below.ensures.dispatch s w i place op below h.below)
    reached
    (sent_kept p s w i place op v.resources h.resources)
    (sent_declared p s w i place op h.declared)
    (c.accept.ensures ∙ ap (λ (r : Plained). accepted_by c.in_ok-linked.linked lane (record r { hooks = c.dispatch.new.self })) view)

pub returns-clause-rest : goal.returns-clause-rest
returns-clause-rest c =
    let v = c.args.self.now in
    let store = c.dispatch.new.self in
    let new = c.accept.new.self in
    let view = c.self-2.view_is ∙ c.lane-lane.ensures.claims in
    let is = accepted_rest c.in_ok-linked.linked c.lane-lane.result _ new (c.accept.ensures ∙ ap (λ (r : Plained). accepted_by c.in_ok-linked.linked c.lane-lane.result (record r { hooks = store })) view) in
    is ∙ ap (λ (x : hooks.Kept). record v { hooks = x; schedule = new.schedule; updates = v.updates + 1; event = new.event; going = new.going }) (sym (ap (λ (r : Plained). r.hooks) is))
