use Rattle.std.proofs.Common.{refl, sym, ap, subst}
use Rattle.rx_model.specs.Breaking.{BreaksOff}
use Rattle.rx_model.specs.Machine.{StepTo}
use Rattle.rx_step.specs.declared.step.Step.TheVariants as step
use Rattle.rx_root.specs.Paying.{Pays}
use Rattle.rx_root.specs.Rooted.{Rooted}
use Rattle.rx_root.specs.Stands.{Stands}
use Rattle.rx_root.proofs.Broken.{aside_program, aside_some, nothing_taken, on_err, on_err_both, room_less, step_as}
use Rattle.rx_root.proofs.Taken.{event_taken, passive_taken, tick_taken}
use Rattle.rx_root.proofs.TurnsTaken.{on_ok}
use Rattle.rx_root.proofs.root.Root.step.Goals as goal

pub returns-in-Dispatch-clause-ok : goal.returns-in-Dispatch-clause-ok
returns-in-Dispatch-clause-ok g c =
    on_ok c.take_dispatch.result _ _
    (λ f s h. step_as (λ z. StepTo Pays c.args.self.now.rendering.program s z) c.args.self.now.rendering.program (step.Dispatch c.in-Dispatch.dispatch) c.args.step.now c.take_dispatch.new.self c.args.log.now c.take_dispatch.new.log c.args.steps.now c.args.steps.now c.in-Dispatch.is
    (f s c.args.steps.now h))
    c.take_dispatch.ensures.ok

pub returns-in-Dispatch-clause-broken : goal.returns-in-Dispatch-clause-broken
returns-in-Dispatch-clause-broken g c =
    on_err c.take_dispatch.result _ _
    (λ f s h. step_as (λ z. BreaksOff Pays c.args.self.now.rendering.program s z) c.args.self.now.rendering.program (step.Dispatch c.in-Dispatch.dispatch) c.args.step.now c.take_dispatch.new.self c.args.log.now c.take_dispatch.new.log c.args.steps.now c.args.steps.now c.in-Dispatch.is
    (f s c.args.steps.now h))
    c.take_dispatch.ensures.broken

pub returns-in-Dispatch-clause-stands : goal.returns-in-Dispatch-clause-stands
returns-in-Dispatch-clause-stands g c =
    aside_some c.take_dispatch.result c.args.self.now.rendering.program c.requires.stands.0 c.args.self.now c.take_dispatch.new.self _ _ c.args.log.now c.take_dispatch.new.log c.requires.stands.1 c.take_dispatch.ensures.ok c.take_dispatch.ensures.broken

pub returns-in-Dispatch-clause-program : goal.returns-in-Dispatch-clause-program
returns-in-Dispatch-clause-program g c =
    aside_program c.take_dispatch.result c.args.self.now.rendering.program c.requires.stands.0 c.args.self.now c.take_dispatch.new.self _ _ c.args.log.now c.take_dispatch.new.log c.requires.stands.1 c.take_dispatch.ensures.ok c.take_dispatch.ensures.broken

pub returns-in-Resolve-clause-ok : goal.returns-in-Resolve-clause-ok
returns-in-Resolve-clause-ok g c =
    on_ok c.take_resolution.result _ _
    (λ f s h. step_as (λ z. StepTo Pays c.args.self.now.rendering.program s z) c.args.self.now.rendering.program (step.Resolve c.in-Resolve.name c.in-Resolve.value) c.args.step.now c.take_resolution.new.self c.args.log.now c.take_resolution.new.log c.args.steps.now c.args.steps.now c.in-Resolve.is
    (f s c.args.steps.now h))
    c.take_resolution.ensures.ok

pub returns-in-Resolve-clause-broken : goal.returns-in-Resolve-clause-broken
returns-in-Resolve-clause-broken g c =
    on_err c.take_resolution.result _ _
    (λ f s h. step_as (λ z. BreaksOff Pays c.args.self.now.rendering.program s z) c.args.self.now.rendering.program (step.Resolve c.in-Resolve.name c.in-Resolve.value) c.args.step.now c.take_resolution.new.self c.args.log.now c.take_resolution.new.log c.args.steps.now c.args.steps.now c.in-Resolve.is
    (f s c.args.steps.now h))
    c.take_resolution.ensures.broken

pub returns-in-Resolve-clause-stands : goal.returns-in-Resolve-clause-stands
returns-in-Resolve-clause-stands g c =
    aside_some c.take_resolution.result c.args.self.now.rendering.program c.requires.stands.0 c.args.self.now c.take_resolution.new.self _ _ c.args.log.now c.take_resolution.new.log c.requires.stands.1 c.take_resolution.ensures.ok c.take_resolution.ensures.broken

pub returns-in-Resolve-clause-program : goal.returns-in-Resolve-clause-program
returns-in-Resolve-clause-program g c =
    aside_program c.take_resolution.result c.args.self.now.rendering.program c.requires.stands.0 c.args.self.now c.take_resolution.new.self _ _ c.args.log.now c.take_resolution.new.log c.requires.stands.1 c.take_resolution.ensures.ok c.take_resolution.ensures.broken

pub returns-in-State-clause-ok : goal.returns-in-State-clause-ok
returns-in-State-clause-ok g c =
    on_ok c.take_states.result _ _
    (λ f s h. step_as (λ z. StepTo Pays c.args.self.now.rendering.program s z) c.args.self.now.rendering.program step.State c.args.step.now c.take_states.new.self c.args.log.now c.take_states.new.log c.args.steps.now c.args.steps.now c.in-State.is
    (f s c.args.steps.now h))
    c.take_states.ensures.ok

pub returns-in-State-clause-broken : goal.returns-in-State-clause-broken
returns-in-State-clause-broken g c =
    on_err c.take_states.result _ _
    (λ f s h. step_as (λ z. BreaksOff Pays c.args.self.now.rendering.program s z) c.args.self.now.rendering.program step.State c.args.step.now c.take_states.new.self c.args.log.now c.take_states.new.log c.args.steps.now c.args.steps.now c.in-State.is
    (f s c.args.steps.now h))
    c.take_states.ensures.broken

pub returns-in-State-clause-stands : goal.returns-in-State-clause-stands
returns-in-State-clause-stands g c =
    aside_some c.take_states.result c.args.self.now.rendering.program c.requires.stands.0 c.args.self.now c.take_states.new.self _ _ c.args.log.now c.take_states.new.log c.requires.stands.1 c.take_states.ensures.ok c.take_states.ensures.broken

pub returns-in-State-clause-program : goal.returns-in-State-clause-program
returns-in-State-clause-program g c =
    aside_program c.take_states.result c.args.self.now.rendering.program c.requires.stands.0 c.args.self.now c.take_states.new.self _ _ c.args.log.now c.take_states.new.log c.requires.stands.1 c.take_states.ensures.ok c.take_states.ensures.broken

pub returns-in-Tree-clause-ok : goal.returns-in-Tree-clause-ok
returns-in-Tree-clause-ok g c =
    on_ok c.take_tree.result _ _
    (λ f s h. step_as (λ z. StepTo Pays c.args.self.now.rendering.program s z) c.args.self.now.rendering.program step.Tree c.args.step.now c.take_tree.new.self c.args.log.now c.take_tree.new.log c.args.steps.now c.args.steps.now c.in-Tree.is
    (f s c.args.steps.now h))
    c.take_tree.ensures.ok

pub returns-in-Tree-clause-broken : goal.returns-in-Tree-clause-broken
returns-in-Tree-clause-broken g c =
    on_err c.take_tree.result _ _
    (λ f s h. step_as (λ z. BreaksOff Pays c.args.self.now.rendering.program s z) c.args.self.now.rendering.program step.Tree c.args.step.now c.take_tree.new.self c.args.log.now c.take_tree.new.log c.args.steps.now c.args.steps.now c.in-Tree.is
    (f s c.args.steps.now h))
    c.take_tree.ensures.broken

pub returns-in-Tree-clause-stands : goal.returns-in-Tree-clause-stands
returns-in-Tree-clause-stands g c =
    aside_some c.take_tree.result c.args.self.now.rendering.program c.requires.stands.0 c.args.self.now c.take_tree.new.self _ _ c.args.log.now c.take_tree.new.log c.requires.stands.1 c.take_tree.ensures.ok c.take_tree.ensures.broken

pub returns-in-Tree-clause-program : goal.returns-in-Tree-clause-program
returns-in-Tree-clause-program g c =
    aside_program c.take_tree.result c.args.self.now.rendering.program c.requires.stands.0 c.args.self.now c.take_tree.new.self _ _ c.args.log.now c.take_tree.new.log c.requires.stands.1 c.take_tree.ensures.ok c.take_tree.ensures.broken

pub returns-in-Work-clause-ok : goal.returns-in-Work-clause-ok
returns-in-Work-clause-ok g c =
    on_ok c.work.result _ _
    (λ f s h. step_as (λ z. StepTo Pays c.args.self.now.rendering.program s z) c.args.self.now.rendering.program (step.Work c.in-Work.budget) c.args.step.now c.work.new.self c.args.log.now c.work.new.log c.args.steps.now c.work.new.steps c.in-Work.is (f s h))
    c.work.ensures.ok

pub returns-in-Work-clause-broken : goal.returns-in-Work-clause-broken
returns-in-Work-clause-broken g c =
    on_err c.work.result _ _
    (λ f s h. step_as (λ z. BreaksOff Pays c.args.self.now.rendering.program s z) c.args.self.now.rendering.program (step.Work c.in-Work.budget) c.args.step.now c.work.new.self c.args.log.now c.work.new.log c.args.steps.now c.work.new.steps c.in-Work.is (f s h))
    c.work.ensures.broken

pub returns-in-Flush-clause-ok : goal.returns-in-Flush-clause-ok
returns-in-Flush-clause-ok g c =
    on_ok c.flush.result _ _
    (λ f s h. step_as (λ z. StepTo Pays c.args.self.now.rendering.program s z) c.args.self.now.rendering.program step.Flush c.args.step.now c.flush.new.self c.args.log.now c.flush.new.log c.args.steps.now c.flush.new.steps c.in-Flush.is (f s h))
    c.flush.ensures.ok

pub returns-in-Flush-clause-broken : goal.returns-in-Flush-clause-broken
returns-in-Flush-clause-broken g c =
    on_err c.flush.result _ _
    (λ f s h. step_as (λ z. BreaksOff Pays c.args.self.now.rendering.program s z) c.args.self.now.rendering.program step.Flush c.args.step.now c.flush.new.self c.args.log.now c.flush.new.log c.args.steps.now c.flush.new.steps c.in-Flush.is (f s h))
    c.flush.ensures.broken

pub returns-in-FlushSync-clause-ok : goal.returns-in-FlushSync-clause-ok
returns-in-FlushSync-clause-ok g c =
    on_ok c.flush_sync.result _ _
    (λ f s h. step_as (λ z. StepTo Pays c.args.self.now.rendering.program s z) c.args.self.now.rendering.program step.FlushSync c.args.step.now c.flush_sync.new.self c.args.log.now c.flush_sync.new.log c.args.steps.now c.flush_sync.new.steps c.in-FlushSync.is (f s h))
    c.flush_sync.ensures.ok

pub returns-in-FlushSync-clause-broken : goal.returns-in-FlushSync-clause-broken
returns-in-FlushSync-clause-broken g c =
    on_err c.flush_sync.result _ _
    (λ f s h. step_as (λ z. BreaksOff Pays c.args.self.now.rendering.program s z) c.args.self.now.rendering.program step.FlushSync c.args.step.now c.flush_sync.new.self c.args.log.now c.flush_sync.new.log c.args.steps.now c.flush_sync.new.steps c.in-FlushSync.is (f s h))
    c.flush_sync.ensures.broken

pub returns-in-Tick-clause-ok : goal.returns-in-Tick-clause-ok
returns-in-Tick-clause-ok g c = λ s h.
    step_as (λ z. StepTo Pays c.args.self.now.rendering.program s z) c.args.self.now.rendering.program (step.Tick c.in-Tick.time) c.args.step.now c.tick.new.self c.args.log.now c.args.log.now c.args.steps.now c.args.steps.now c.in-Tick.is
    (tick_taken c.args.self.now.rendering.program s c.in-Tick.time c.tick.new.self c.args.log.now c.args.steps.now (c.tick.ensures.after s h))

pub returns-in-Tick-clause-program : goal.returns-in-Tick-clause-program
returns-in-Tick-clause-program g c = ap (λ (v : Rooted). v.rendering.program) c.tick.ensures.changes

pub returns-in-Tick-clause-left : goal.returns-in-Tick-clause-left
returns-in-Tick-clause-left g c = λ k h. c.tick.ensures.room k (room_less c.args.self.now k h)

pub returns-in-Event-clause-ok : goal.returns-in-Event-clause-ok
returns-in-Event-clause-ok g c = λ s h.
    step_as (λ z. StepTo Pays c.args.self.now.rendering.program s z) c.args.self.now.rendering.program step.Event c.args.step.now c.end_event.new.self c.args.log.now c.args.log.now c.args.steps.now c.args.steps.now c.in-Event.is
    (event_taken c.args.self.now.rendering.program s c.end_event.new.self c.args.log.now c.args.steps.now (c.end_event.ensures.after s h))

pub returns-in-Event-clause-program : goal.returns-in-Event-clause-program
returns-in-Event-clause-program g c = ap (λ (v : Rooted). v.rendering.program) c.end_event.ensures.changes

pub returns-in-Event-clause-left : goal.returns-in-Event-clause-left
returns-in-Event-clause-left g c = λ k h. c.end_event.ensures.room k (room_less c.args.self.now k h)

pub returns-in-Passive-clause-ok : goal.returns-in-Passive-clause-ok
returns-in-Passive-clause-ok g c =
    on_ok c.passive.result _ _
    (λ f s h. step_as (λ z. StepTo Pays c.args.self.now.rendering.program s z) c.args.self.now.rendering.program step.Passive c.args.step.now c.passive.new.self c.args.log.now c.passive.new.log c.args.steps.now c.args.steps.now c.in-Passive.is
    (passive_taken c.args.self.now.rendering.program s c.passive.new.self c.args.log.now c.passive.new.log c.args.steps.now (f s h)))
    c.passive.ensures.ok

pub returns-in-Passive-clause-broken : goal.returns-in-Passive-clause-broken
returns-in-Passive-clause-broken g c =
    on_err_both c.passive.result _ _ _
    (λ same unchanged s h. step_as (λ z. BreaksOff Pays c.args.self.now.rendering.program s z) c.args.self.now.rendering.program step.Passive c.args.step.now c.passive.new.self c.args.log.now c.passive.new.log c.args.steps.now c.args.steps.now c.in-Passive.is
    (nothing_taken (BreaksOff Pays c.args.self.now.rendering.program s step.Passive) c.args.self.now.rendering.program s c.passive.new.self c.args.log.now c.passive.new.log c.args.steps.now refl (subst (λ (v : Rooted). Stands c.args.self.now.rendering.program s v) (sym same) h) unchanged))
    c.passive.ensures.same c.passive.ensures.unchanged

pub returns-in-Passive-clause-left : goal.returns-in-Passive-clause-left
returns-in-Passive-clause-left g c = λ k h. c.passive.ensures.room k (room_less c.args.self.now k h)
