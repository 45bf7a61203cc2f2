use Rattle.std.specs.Prelude.{◌≡◌, ◌+◌, ◌<◌, ◌≤◌, ℤ, List, IfOk, IsOk}
use Rattle.std.proofs.Common.{subst}
use Rattle.rx_ast.specs.Syntax.{Program}
use Rattle.rx_queue.specs.Journal.{hook}
use Rattle.rx_model.specs.State.{State, linked_lanes}
use Rattle.rx_hook_store.specs.Store.{hook_room, kept_hooks}
use Rattle.rx_hook_store.specs.Changing.{lanes_linked}
use Rattle.rx_hook_store.specs.Rendered.{KeepsInstance}
use Rattle.rx_render.specs.contracts.renderer.Renderer.{the_view}
use Rattle.rx_render.proofs.Sending.{then_rendering, then_states, then_renders, then_stays}
use Rattle.rx_render.proofs.renderer.Renderer.dispatch.Goals as goal

pub invariant_of-self : goal.invariant_of-self
invariant_of-self c =
    then_rendering c.dispatch.result c.args.self.now (the_view c.self.inside) c.self.view_is c.dispatch.new.self c.args.word c.args.update c.args.pending c.args.place c.args.instance
    c.dispatch.ensures.ok c.dispatch.ensures.err c.requires.behind c.self.invariant

pub returns-clause-states : goal.returns-clause-states
returns-clause-states c =
    then_states c.dispatch.result c.args.self.now (the_view c.self.inside) c.self.view_is c.dispatch.new.self c.args.word c.args.update c.args.pending c.args.place c.args.instance
    c.dispatch.ensures.states

pub returns-clause-links : goal.returns-clause-links
returns-clause-links c =
    subst (λ v. IfOk c.dispatch.result (λ lanes. (p : Program) (s : State) (initials : List ℤ) → KeepsInstance p s (kept_hooks v.hooks) c.args.instance initials
    → lanes ≡ lanes_linked c.args.word c.args.update c.args.pending (linked_lanes s.linked (hook c.args.instance c.args.place)))) c.self.view_is
    c.dispatch.ensures.links

pub returns-clause-renders : goal.returns-clause-renders
returns-clause-renders c =
    then_renders c.dispatch.result c.args.self.now (the_view c.self.inside) c.self.view_is c.dispatch.new.self c.args.word c.args.update c.args.pending c.args.place c.args.instance
    c.dispatch.ensures.states

pub returns-clause-stays : goal.returns-clause-stays
returns-clause-stays c =
    then_stays c.dispatch.result c.args.self.now (the_view c.self.inside) c.self.view_is c.dispatch.new.self c.args.word c.args.update c.args.pending c.args.place c.args.instance
    c.dispatch.ensures.err

pub returns-clause-succeeds : goal.returns-clause-succeeds
returns-clause-succeeds c =
    subst (λ v. 0 < hook_room c.args.instance c.args.place (kept_hooks v.hooks) → IsOk c.dispatch.result) c.self.view_is c.dispatch.ensures.succeeds

pub returns-clause-room : goal.returns-clause-room
returns-clause-room c =
    subst (λ v. hook_room c.args.instance c.args.place (kept_hooks v.hooks) ≤ hook_room c.args.instance c.args.place (kept_hooks c.dispatch.new.self) + 1) c.self.view_is
    c.dispatch.ensures.room
