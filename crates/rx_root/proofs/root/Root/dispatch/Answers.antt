use Rattle.std.proofs.Common.{◌≡◌, ◌∙◌, ap, refl, sym, subst, ℕ, suc, length, Ok, Err}
use Rattle.rx_ast.specs.Syntax.{Program}
use Rattle.rx_sched.specs.declared.event.Event.{Event}
use Rattle.rx_step.specs.declared.step.Step.TheVariants as step
use Rattle.rx_model.specs.State.{State}
use Rattle.rx_model.specs.Accepting.{dispatched, enqueued, within}
use Rattle.rx_root.specs.Rooted.{Rooted}
use Rattle.rx_root.specs.Stands.{Stands}
use Rattle.rx_kept.specs.Taking.{CanTake}
use Rattle.rx_root.proofs.Broken.{for_some, room_same}
use Rattle.rx_root.proofs.Dispatches.{none_before}
use Rattle.rx_root.proofs.Taken.{without_stands}
use Rattle.rx_root.proofs.root.Root.dispatch.Goals as goal

pub enqueue-requires-clause-stands : goal.enqueue-requires-clause-stands
enqueue-requires-clause-stands c =
    for_some c.args.self.now.rendering.program (within c.args.dispatch.now c.requires.stands.0) c.enter.new.self (c.enter.ensures.stands c.requires.stands.0 c.requires.stands.1)

pub enqueue-requires-clause-fits : goal.enqueue-requires-clause-fits
enqueue-requires-clause-fits c =
    subst (λ (r : Rooted). CanTake r.rendering.program (step.Dispatch c.args.dispatch.now)) (sym c.enter.ensures.event) c.requires.fits

pub enqueue-requires-clause-room : goal.enqueue-requires-clause-room
enqueue-requires-clause-room c =
    let is = c.enter.ensures.event in
    room_same c.args.self.now c.enter.new.self (ap (λ (r : Rooted). r.updates) is) (ap (λ (r : Rooted). r.resolutions) is) (ap (λ (r : Rooted). r.commits) is) (ap (λ (r : Rooted). r.numbers) is) 1 c.requires.room

pub returns-in-Ok-clause-ok : goal.returns-in-Ok-clause-ok
returns-in-Ok-clause-ok c s h =
    let d = c.args.dispatch.now in
    let n : ℕ = c.in-Ok.number in
    subst (λ (p : Program). (t : State) → Stands p t c.enter.new.self → (n ≡ length t.journal.updates) × Stands p (enqueued p t d).after c.enqueue.new.self)
    (ap (λ (r : Rooted). r.rendering.program) c.enter.ensures.event) c.in-Ok.ensures.ok (within d s) (c.enter.ensures.stands s h)

pub returns-in-Ok-clause-no_instance : goal.returns-in-Ok-clause-no_instance
returns-in-Ok-clause-no_instance c s h =
    none_before {T = ℕ} (Ok c.in-Ok.number) c.args.self.now.rendering.program s c.args.dispatch.now c.enter.new.self (c.enter.ensures.stands s h)
    (ap (λ (r : Rooted). r.rendering.program) c.enter.ensures.event) c.in-Ok.ensures.no_instance

pub returns-in-Ok-clause-stands : goal.returns-in-Ok-clause-stands
returns-in-Ok-clause-stands c =
    let p = c.args.self.now.rendering.program in
    let s = c.requires.stands.0 in
    for_some p (dispatched p s c.args.dispatch.now).after c.enqueue.new.self (returns-in-Ok-clause-ok c s c.requires.stands.1).1

pub returns-in-Ok-clause-left : goal.returns-in-Ok-clause-left
returns-in-Ok-clause-left c k h =
    let is = c.enter.ensures.event in
    c.in-Ok.ensures.left k
    (room_same c.args.self.now c.enter.new.self (ap (λ (r : Rooted). r.updates) is) (ap (λ (r : Rooted). r.resolutions) is) (ap (λ (r : Rooted). r.commits) is) (ap (λ (r : Rooted). r.numbers) is) (suc k) h)

pub returns-in-Err-NoInstance-clause-no_instance : goal.returns-in-Err-NoInstance-clause-no_instance
returns-in-Err-NoInstance-clause-no_instance c s h =
    let told = none_before {T = ℕ} (Err c.in-Err-NoInstance.field-0) c.args.self.now.rendering.program s c.args.dispatch.now c.enter.new.self (c.enter.ensures.stands s h)
    (ap (λ (r : Rooted). r.rendering.program) c.enter.ensures.event) c.in-Err-NoInstance.ensures.no_instance in
    (λ is. told.0 (ap (λ e. Err e) c.in-Err-NoInstance.field-0-is), λ none. refl)

pub returns-in-Err-NoInstance-clause-refused : goal.returns-in-Err-NoInstance-clause-refused
returns-in-Err-NoInstance-clause-refused c is s h =
    subst (λ (r : Rooted). Stands c.args.self.now.rendering.program (within c.args.dispatch.now s) r) (sym (c.in-Err-NoInstance.ensures.same (ap (λ e. Err e) c.in-Err-NoInstance.field-0-is))) (c.enter.ensures.stands s h)

pub returns-in-Err-NoInstance-clause-stands : goal.returns-in-Err-NoInstance-clause-stands
returns-in-Err-NoInstance-clause-stands c =
    let s = c.requires.stands.0 in
    for_some c.args.self.now.rendering.program (within c.args.dispatch.now s) c.enqueue.new.self (returns-in-Err-NoInstance-clause-refused c refl s c.requires.stands.1)

pub returns-in-Err-OutOfMemory-clause-no_instance : goal.returns-in-Err-OutOfMemory-clause-no_instance
returns-in-Err-OutOfMemory-clause-no_instance c s h =
    let told = none_before {T = ℕ} (Err c.in-Err-OutOfMemory.field-0) c.args.self.now.rendering.program s c.args.dispatch.now c.enter.new.self (c.enter.ensures.stands s h)
    (ap (λ (r : Rooted). r.rendering.program) c.enter.ensures.event) c.in-Err-OutOfMemory.ensures.no_instance in
    let other = c.in-Err-OutOfMemory.field-0-is in
    (λ is. absurd (cc), λ none. absurd (let same = told.1 none in cc (other, same)))

pub returns-in-Err-OutOfMemory-clause-memory : goal.returns-in-Err-OutOfMemory-clause-memory
returns-in-Err-OutOfMemory-clause-memory c is s h =
    let v = c.args.self.now in
    let p = v.rendering.program in
    let d = c.args.dispatch.now in
    let w = c.enqueue.new.self in
    let stood = subst (λ (q : Program). (t : State) → Stands q t c.enter.new.self → Stands q t w) (ap (λ (r : Rooted). r.rendering.program) c.enter.ensures.event)
    c.in-Err-OutOfMemory.ensures.err (within d s) (c.enter.ensures.stands s h) in
    without_stands p s d v w _ h stood
    (ap (λ (r : Rooted). record r { event = c.self.inside.event }) c.self-2.view_is ∙ ap (λ (e : Event). record w { event = e }) (ap (λ (r : Rooted). r.event) c.self.view_is))

pub returns-in-Err-OutOfMemory-clause-stands : goal.returns-in-Err-OutOfMemory-clause-stands
returns-in-Err-OutOfMemory-clause-stands c =
    for_some c.args.self.now.rendering.program c.requires.stands.0 _ (returns-in-Err-OutOfMemory-clause-memory c refl c.requires.stands.0 c.requires.stands.1)

pub returns-in-Err-OutOfMemory-clause-left : goal.returns-in-Err-OutOfMemory-clause-left
returns-in-Err-OutOfMemory-clause-left c k h =
    let is = c.enter.ensures.event in
    let view = c.self-2.view_is in
    room_same c.enqueue.new.self _ (ap (λ (r : Rooted). r.updates) view) (ap (λ (r : Rooted). r.resolutions) view) (ap (λ (r : Rooted). r.commits) view) (ap (λ (r : Rooted). r.numbers) view) k
    (c.in-Err-OutOfMemory.ensures.left k
    (room_same c.args.self.now c.enter.new.self (ap (λ (r : Rooted). r.updates) is) (ap (λ (r : Rooted). r.resolutions) is) (ap (λ (r : Rooted). r.commits) is) (ap (λ (r : Rooted). r.numbers) is) (suc k) h))
