use Rattle.std.proofs.Common.{◌<◌, pos, ap, refl, sym, subst, length, List}
use Rattle.std.specs.Option.{IsSomeAnd}
use Rattle.rx_hooks.specs.declared.hook.Hook.{Hook}
use Rattle.rx_hook_store.specs.Store.{kept_hooks}
use Rattle.rx_hook_store.proofs.Dispatching.{tree_dispatched}
use Rattle.rx_queue.specs.declared.update.Op.TheVariants as op
use Rattle.rx_queue.specs.Journal.{hook}
use Rattle.rx_step.specs.declared.step.LaneWord.TheVariants as word
use Rattle.rx_step.specs.Steps.{word_of}
use Rattle.rx_root.specs.Rooted.{Rooted}
use Rattle.rx_root.specs.Stands.{Stands}
use Rattle.rx_root.specs.Taking.{state_sent}
use Rattle.rx_root.proofs.Broken.{any_err}
use Rattle.rx_root.proofs.Sending.{for_after, hook_kept, lies_behind, room_stands, sends}
use Rattle.rx_root.proofs.Taken.{sent_reached, start_stands, unset_reached}
use Rattle.rx_root.proofs.root.Root.send_start.Goals as goal

pub reserve-requires : goal.reserve-requires
reserve-requires c =
    let v = c.args.self.now in
    let sent = c.args.sent in
    subst (λ (r : Rooted). IsSomeAnd (kept_hooks r.rendering.hooks sent.instance) (λ (hooks : List Hook). sent.place < length hooks)) (sym c.self.view_is)
    (hook_kept v.rendering.program c.requires.target.0 v c.args.dispatch.now sent c.requires.target.1 c.requires.target.2)

pub returns-in_err-reserve-clause-err : goal.returns-in_err-reserve-clause-err
returns-in_err-reserve-clause-err c =
    any_err c.from_residual.result _
    (λ s h. room_stands c.args.self.now.rendering.program s c.args.self.now c.self.inside.renderer c.reserve.new.self _ h (ap (λ (r : Rooted). r.rendering) c.self.view_is)
    c.reserve.ensures.same c.reserve.ensures.states c.reserve.ensures.renders (ap (λ (r : Rooted). record r { rendering = c.reserve.new.self }) c.self.view_is))

pub send-requires-clause-hook : goal.send-requires-clause-hook
send-requires-clause-hook c =
    let v = c.args.self.now in
    let p = v.rendering.program in
    let s = c.requires.target.0 in
    let w : Rooted = record v { rendering = c.reserve.new.self } in
    hook_kept p s w c.args.dispatch.now c.args.sent
    (room_stands p s v c.self.inside.renderer c.reserve.new.self w c.requires.target.1 (ap (λ (r : Rooted). r.rendering) c.self.view_is) c.reserve.ensures.same c.reserve.ensures.states c.reserve.ensures.renders refl)
    c.requires.target.2

pub send-requires-2-clause-hook : goal.send-requires-2-clause-hook
send-requires-2-clause-hook c =
    let v = c.args.self.now in
    let p = v.rendering.program in
    let d = c.args.dispatch.now in
    let sent = c.args.sent in
    let s = c.requires.target.0 in
    let h = c.requires.target.1 in
    let is = c.requires.target.2 in
    let first : Stands p (state_sent s d sent) c.send.new.self =
    sends p s d sent _ c.send.new.self c.dispatch_word.result (word_of d) sent.op sent.op c.dispatch_word.ensures refl
    (room_stands p s v c.self.inside.renderer c.reserve.new.self _ h (ap (λ (r : Rooted). r.rendering) c.self.view_is) c.reserve.ensures.same c.reserve.ensures.states c.reserve.ensures.renders
    (ap (λ (r : Rooted). record r { rendering = c.reserve.new.self }) c.self.view_is))
    is (sent_reached p s d sent h.reached is) c.in-Ok.ensures.ok in
    hook_kept p (state_sent s d sent) c.send.new.self d sent first (for_after p s (state_sent s d sent) d sent (tree_dispatched s (word_of d) (hook sent.instance sent.place) sent.op) is)

pub send-requires-2-clause-behind : goal.send-requires-2-clause-behind
send-requires-2-clause-behind c =
    let v = c.args.self.now in
    let p = v.rendering.program in
    let d = c.args.dispatch.now in
    let sent = c.args.sent in
    let s = c.requires.target.0 in
    let h = c.requires.target.1 in
    let is = c.requires.target.2 in
    lies_behind p (state_sent s d sent) c.send.new.self
    (sends p s d sent _ c.send.new.self c.dispatch_word.result (word_of d) sent.op sent.op c.dispatch_word.ensures refl
    (room_stands p s v c.self.inside.renderer c.reserve.new.self _ h (ap (λ (r : Rooted). r.rendering) c.self.view_is) c.reserve.ensures.same c.reserve.ensures.states c.reserve.ensures.renders
    (ap (λ (r : Rooted). record r { rendering = c.reserve.new.self }) c.self.view_is))
    is (sent_reached p s d sent h.reached is) c.in-Ok.ensures.ok)

pub returns-clause-ok : goal.returns-clause-ok
returns-clause-ok c s h is =
    let v = c.args.self.now in
    let p = v.rendering.program in
    let d = c.args.dispatch.now in
    let sent = c.args.sent in
    let first : Stands p (state_sent s d sent) c.send.new.self =
    sends p s d sent _ c.send.new.self c.dispatch_word.result (word_of d) sent.op sent.op c.dispatch_word.ensures refl
    (room_stands p s v c.self.inside.renderer c.reserve.new.self _ h (ap (λ (r : Rooted). r.rendering) c.self.view_is) c.reserve.ensures.same c.reserve.ensures.states c.reserve.ensures.renders
    (ap (λ (r : Rooted). record r { rendering = c.reserve.new.self }) c.self.view_is))
    is (sent_reached p s d sent h.reached is) c.in-Ok.ensures.ok in
    start_stands p s d sent c.send-2.new.self c.requires.start
    (sends p (state_sent s d sent) d sent c.send.new.self c.send-2.new.self word.Transition word.Transition _ (op.Set (pos 0)) refl (ap op.Set c.of.ensures)
    first (for_after p s (state_sent s d sent) d sent (tree_dispatched s (word_of d) (hook sent.instance sent.place) sent.op) is)
    (unset_reached p s d sent h.reached is) c.in-Ok-send.ensures.ok)
