use Rattle.std.proofs.Common.{◌≡◌, ◌<◌, ◌∙◌, ap, length, subst, sym}
use Rattle.rx_lane.specs.Lanes.{Lanes, intersection, union}
use Rattle.rx_hooks.specs.declared.hook.Hook.{Hook}
use Rattle.rx_hooks.specs.Hooks.{HookStandsFor, links_with, relinked}
use Rattle.rx_hooks.proofs.Lists.{room-same, stand-at, stand-changed_at}
use Rattle.rx_hooks.proofs.hooks.Hooks.transition.Goals as goal

pub returns-clause-stands : goal.returns-clause-stands
returns-clause-stands c answers histories stand =
    let hooks = c.self.inside.hooks.items in
    let within : c.args.hook < length hooks = rw c.self.view_is c.requires in
    let old = c.index_mut-hook.result.now in
    let new : Hook = record { queue = old.queue; processed = old.processed; linked = c.union-linked.result } in
    let links : c.union-linked.result ≡ links_with c.args.lane c.args.pending old.linked =
    c.union-linked.ensures ∙ ap (λ (l : Lanes). union l c.one.result) c.intersection.ensures ∙ ap (λ (l : Lanes). union (intersection old.linked c.args.pending) l) c.one.ensures in
    stand-changed_at answers hooks histories c.args.hook (relinked c.args.lane c.args.pending) old new within (rw c.self.view_is stand)
    (λ history s.
    let here = subst (λ (k : Hook). HookStandsFor answers k history) (sym c.index_mut-hook.ensures.value) s in
    record {
      queue_is = here.queue_is;
      last_is = here.last_is;
      linked_is = links ∙ ap (λ (l : Lanes). links_with c.args.lane c.args.pending l) here.linked_is;
    })

pub returns-clause-linked : goal.returns-clause-linked
returns-clause-linked c answers histories history stand at =
    let hooks = c.self.inside.hooks.items in
    let old = c.index_mut-hook.result.now in
    let links : c.union-linked.result ≡ links_with c.args.lane c.args.pending old.linked =
    c.union-linked.ensures ∙ ap (λ (l : Lanes). union l c.one.result) c.intersection.ensures ∙ ap (λ (l : Lanes). union (intersection old.linked c.args.pending) l) c.one.ensures in
    let s = stand-at answers hooks histories c.args.hook old history (rw c.self.view_is stand) at in
    let here = subst (λ (k : Hook). HookStandsFor answers k history) (sym c.index_mut-hook.ensures.value) s in
    links ∙ ap (λ (l : Lanes). links_with c.args.lane c.args.pending l) here.linked_is

pub returns-clause-room : goal.returns-clause-room
returns-clause-room c place =
    let hooks = c.self.inside.hooks.items in
    let within : c.args.hook < length hooks = rw c.self.view_is c.requires in
    let old = c.index_mut-hook.result.now in
    let new : Hook = record { queue = old.queue; processed = old.processed; linked = c.union-linked.result } in
    rw (← c.self.view_is) (room-same hooks c.args.hook place old new within (ap (λ (k : Hook). k.queue.room) (sym c.index_mut-hook.ensures.value)))
