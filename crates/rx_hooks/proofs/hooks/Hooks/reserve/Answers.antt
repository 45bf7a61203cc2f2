use Rattle.std.proofs.Common.{◌<◌, length, subst, sym}
use Rattle.std.proofs.lemmas.Result.{on_ok_weaker}
use Rattle.rx_hooks.specs.declared.hook.Hook.{Hook}
use Rattle.rx_hooks.specs.Hooks.{HookStandsFor}
use Rattle.rx_hooks.proofs.Lists.{room-set, stand-as_at}
use Rattle.rx_hooks.proofs.hooks.Hooks.reserve.Goals as goal

pub returns-clause-ok : goal.returns-clause-ok
returns-clause-ok c =
    let hooks = c.self.inside.hooks.items in
    let within : c.args.hook < length hooks = rw c.self.view_is c.requires in
    let old = c.index_mut-hook.result.now in
    let new : Hook = record { queue = c.reserve.new.self; processed = old.processed; linked = old.linked } in
    on_ok_weaker c.reserve.result (λ one. rw (room-set hooks c.args.hook new within) one) c.reserve.ensures.ok

pub returns-clause-same : goal.returns-clause-same
returns-clause-same c answers histories =
    let hooks = c.self.inside.hooks.items in
    let within : c.args.hook < length hooks = rw c.self.view_is c.requires in
    let old = c.index_mut-hook.result.now in
    let new : Hook = record { queue = c.reserve.new.self; processed = old.processed; linked = old.linked } in
    rw (← c.self.view_is)
    (stand-as_at answers hooks histories c.args.hook old new within
    (λ history. (
      λ s.
          let here = subst (λ (k : Hook). HookStandsFor answers k history) (sym c.index_mut-hook.ensures.value) s in
          record { queue_is = (c.reserve.ensures.same answers history.updates).0 here.queue_is; last_is = here.last_is; linked_is = here.linked_is },
      λ s.
          subst (λ (k : Hook). HookStandsFor answers k history) c.index_mut-hook.ensures.value
          (record { queue_is = (c.reserve.ensures.same answers history.updates).1 s.queue_is; last_is = s.last_is; linked_is = s.linked_is }),
    )))
