use Rattle.std.proofs.Common.{◌≡◌, ◌<◌, ◌∙◌, ℕ, true, List, ap, sym, subst, length}
use Rattle.std.specs.Option.{IsSomeAnd}
use Rattle.std.proofs.lemmas.Result.{on_ok_weaker}
use Rattle.rx_base.specs.Values.{Name}
use Rattle.rx_rules.specs.Names.{has_name}
use Rattle.rx_hooks.specs.declared.hook.Hook.{Hook}
use Rattle.rx_hook_store.specs.Store.{kept_hooks}
use Rattle.rx_model.specs.Accepting.{op_of}
use Rattle.rx_model.specs.State.{hook_number, hooks_at}
use Rattle.rx_queue.specs.declared.update.Op.TheVariants as op
use Rattle.rx_step.specs.Steps.{hook_name}
use Rattle.rx_plain.proofs.Runnable.{runnable_bounded}
use Rattle.rx_plain.proofs.Sending.{first_stands, has_place, hook_kept, is_there, other_stands, second_stands, still_there, state_sent}
use Rattle.rx_plain.proofs.plain.Plain.send_to.Goals as goal

pub send-requires-clause-hook : goal.send-requires-clause-hook
send-requires-clause-hook c =
    let p = c.args.checked.now in
    let d = c.args.dispatch.now in
    let m = c.args.found.now in
    let v = c.args.self.now in
    let e = c.requires.found in
    let s = e.0 in
    let h = e.1 in
    let there = is_there p s d m e.2 in
    let place = c.hook_place-place.result in
    let below = subst (λ (n : ℕ). has_name (hooks_at p n) (hook_name d) ≡ true → place < length (hooks_at p n)) c.component.ensures
    (subst (λ (x : Name). has_name (hooks_at p c.component.result) x ≡ true → place < length (hooks_at p c.component.result)) c.dispatch_hook.ensures c.hook_place-place.ensures.below) in
    subst (λ (n : ℕ). IsSomeAnd (kept_hooks v.hooks n) (λ (hooks : List Hook). place < length hooks)) (sym c.number-number.ensures)
    (hook_kept p s v there.0 m place h there.1 (has_place p s d m place c.program.ensures.accepted h.reached c.requires.fits e.2 below))

pub send-requires-then-is_start-clause-hook : goal.send-requires-then-is_start-clause-hook
send-requires-then-is_start-clause-hook c =
    let p = c.args.checked.now in
    let d = c.args.dispatch.now in
    let m = c.args.found.now in
    let v = c.args.self.now in
    let bounded = runnable_bounded p c.program.ensures.runnable in
    let e = c.requires.found in
    let s = e.0 in
    let h = e.1 in
    let place = c.hook_place-place.result in
    let below = subst (λ (n : ℕ). has_name (hooks_at p n) (hook_name d) ≡ true → place < length (hooks_at p n)) c.component.ensures
    (subst (λ (x : Name). has_name (hooks_at p c.component.result) x ≡ true → place < length (hooks_at p c.component.result)) c.dispatch_hook.ensures c.hook_place-place.ensures.below) in
    let hook_is = c.hook_place-place.ensures.number ∙ ap (λ (n : ℕ). hook_number p n c.dispatch_hook.result.now) c.component.ensures ∙ ap (hook_number p m.component) c.dispatch_hook.ensures in
    let op_is = c.dispatch_op-op.ensures ∙ ap (λ (n : ℕ). op_of p n d) c.component-2.ensures in
    let first = first_stands p bounded s d m h.reached e.2 c.number-number.result place c.number-number.ensures hook_is c.dispatch_word.result c.dispatch_op-op.result v c.send.new.self h c.dispatch_word.ensures op_is
    c.in_ok-send.ensures.ok in
    let there = still_there p bounded s d m h.reached e.2 c.number-number.result place c.number-number.ensures hook_is in
    subst (λ (n : ℕ). IsSomeAnd (kept_hooks c.send.new.self.hooks n) (λ (hooks : List Hook). place < length hooks)) (sym c.number-number.ensures)
    (hook_kept p (state_sent p s d m) c.send.new.self there.0 m place first there.1 (has_place p s d m place c.program.ensures.accepted h.reached c.requires.fits e.2 below))

pub returns-then-is_start-clause-ok : goal.returns-then-is_start-clause-ok
returns-then-is_start-clause-ok c =
    on_ok_weaker c.send-then-is_start.result
    (λ sends s h here.
    let p = c.args.checked.now in
    let d = c.args.dispatch.now in
    let m = c.args.found.now in
    let v = c.args.self.now in
    let bounded = runnable_bounded p c.program.ensures.runnable in
    let place = c.hook_place-place.result in
    let hook_is = c.hook_place-place.ensures.number ∙ ap (λ (n : ℕ). hook_number p n c.dispatch_hook.result.now) c.component.ensures ∙ ap (hook_number p m.component) c.dispatch_hook.ensures in
    let op_is = c.dispatch_op-op.ensures ∙ ap (λ (n : ℕ). op_of p n d) c.component-2.ensures in
    let first = first_stands p bounded s d m h.reached here c.number-number.result place c.number-number.ensures hook_is c.dispatch_word.result c.dispatch_op-op.result v c.send.new.self h c.dispatch_word.ensures op_is
    c.in_ok-send.ensures.ok in
    second_stands p bounded s d m h.reached here c.number-number.result place c.number-number.ensures hook_is _ c.send.new.self c.send-then-is_start.new.self first (sym c.is_start.ensures ∙ c.if-is_start.true)
    (ap op.Set c.of.ensures) sends)
    c.send-then-is_start.ensures.ok

pub returns-clause-ok : goal.returns-clause-ok
returns-clause-ok c s h here =
    let p = c.args.checked.now in
    let d = c.args.dispatch.now in
    let m = c.args.found.now in
    let v = c.args.self.now in
    let bounded = runnable_bounded p c.program.ensures.runnable in
    let place = c.hook_place-place.result in
    let hook_is = c.hook_place-place.ensures.number ∙ ap (λ (n : ℕ). hook_number p n c.dispatch_hook.result.now) c.component.ensures ∙ ap (hook_number p m.component) c.dispatch_hook.ensures in
    let op_is = c.dispatch_op-op.ensures ∙ ap (λ (n : ℕ). op_of p n d) c.component-2.ensures in
    let first = first_stands p bounded s d m h.reached here c.number-number.result place c.number-number.ensures hook_is c.dispatch_word.result c.dispatch_op-op.result v c.send.new.self h c.dispatch_word.ensures op_is
    c.in_ok-send.ensures.ok in
    other_stands p bounded s d m h.reached here c.number-number.result place c.number-number.ensures hook_is c.send.new.self first (sym c.is_start.ensures ∙ c.if-is_start.false)
