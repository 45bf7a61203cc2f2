use Rattle.std.proofs.Common.{◌≡◌, ◌<◌, ◌∙◌, ap, length, subst, sym, arith}
use Rattle.std.proofs.lemmas.Result.{on_ok_weaker}
use Rattle.rx_hooks.specs.declared.hook.Hook.{Hook}
use Rattle.rx_hooks.specs.Hooks.{HookStandsFor, room_at, sent}
use Rattle.rx_hooks.proofs.Lists.{room-at, room-set, stand-changed_at}
use Rattle.rx_hooks.proofs.hooks.Hooks.push.Goals as goal

pub returns-clause-ok : goal.returns-clause-ok
returns-clause-ok c =
    let hooks = c.self.inside.hooks.items in
    let within : c.args.hook < length hooks = rw c.self.view_is c.requires in
    let old = c.index_mut-hook.result.now in
    let new : Hook = record { queue = c.push.new.self; processed = old.processed; linked = old.linked } in
    on_ok_weaker c.push.result
    (λ one answers histories stand. stand-changed_at answers hooks histories c.args.hook (sent c.args.update) old new within (rw c.self.view_is stand)
    (λ history s.
    let here = subst (λ (k : Hook). HookStandsFor answers k history) (sym c.index_mut-hook.ensures.value) s in
    record {
      queue_is = one answers history.updates here.queue_is;
      last_is = c.push.ensures.last answers history.updates old.processed here.last_is;
      linked_is = here.linked_is;
    }))
    c.push.ensures.ok

pub returns-clause-succeeds : goal.returns-clause-succeeds
returns-clause-succeeds c has =
    let hooks = c.self.inside.hooks.items in
    let within : c.args.hook < length hooks = rw c.self.view_is c.requires in
    let old = c.index_mut-hook.result.now in
    let is : room_at c.args.hook hooks ≡ old.queue.room = room-at hooks c.args.hook old within ∙ ap (λ (k : Hook). k.queue.room) (sym c.index_mut-hook.ensures.value) in
    let there : 0 < room_at c.args.hook hooks = rw c.self.view_is has in
    c.push.ensures.succeeds (omega arith)

pub returns-clause-room : goal.returns-clause-room
returns-clause-room c =
    let hooks = c.self.inside.hooks.items in
    let within : c.args.hook < length hooks = rw c.self.view_is c.requires in
    let old = c.index_mut-hook.result.now in
    let new : Hook = record { queue = c.push.new.self; processed = old.processed; linked = old.linked } in
    let was : room_at c.args.hook hooks ≡ old.queue.room = room-at hooks c.args.hook old within ∙ ap (λ (k : Hook). k.queue.room) (sym c.index_mut-hook.ensures.value) in
    let is = room-set hooks c.args.hook new within in
    rw (← c.self.view_is) (omega (arith, c.push.ensures.room))
