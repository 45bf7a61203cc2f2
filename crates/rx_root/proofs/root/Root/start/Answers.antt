use Rattle.std.proofs.Common.{◌≡◌, refl, sym, ap, subst}
use Rattle.rx_base.specs.declared.cut.Cut.{Cut}
use Rattle.rx_lane.specs.Lanes.{Lanes}
use Rattle.rx_model.specs.State.{State}
use Rattle.rx_render.specs.Rendering.{Rendering}
use Rattle.rx_resources.specs.Seen.{Resources}
use Rattle.rx_model.specs.Committing.{passive_run}
use Rattle.rx_check.specs.Accepted.{IsAccepted}
use Rattle.rx_model.specs.Laws.{IsBounded}
use Rattle.rx_render.specs.Renders.{IsStartOf}
use Rattle.rx_root.specs.Rooted.{Rooted}
use Rattle.rx_root.specs.Stands.{Stands}
use Rattle.rx_root.specs.contracts.root.Root.{the_view}
use Rattle.rx_kept.proofs.TurnReached.{reached_passive}
use Rattle.rx_root.proofs.TurnStands.{can_start, started_as}
use Rattle.rx_commit.specs.Shown.{Shown}
use Rattle.rx_root.proofs.Broken.{any_err, none_broken, passive_broken}
use Rattle.rx_root.proofs.root.Root.start.Goals as goal

-- a render can start with what it sees of the resources, by what the root keeps
with_seen : (after : State) (lanes : Lanes) (cut : Cut) (v : Rendering) {seen known : Resources} → seen ≡ known → IsStartOf after lanes cut known v → IsStartOf after lanes cut seen v
with_seen after lanes cut v same is = subst (λ (seen : Resources). IsStartOf after lanes cut seen v) (sym same) is

pub start-requires : goal.start-requires
start-requires c =
    let p = c.requires.program in
    let s = c.requires.state in
    let h = subst (λ (v : Rooted). Stands p s v) (sym c.self.view_is) c.requires.stands in
    let is = can_start p (subst IsAccepted c.requires.stands.program c.facts.ensures.accepted) (subst IsBounded c.requires.stands.program c.facts.ensures.bounded) s (the_view c.self.inside) c.args.lanes h (reached_passive p s c.requires.stands.reached c.requires.between) in
    record {
      state = (passive_run s).after;
      is = with_seen (passive_run s).after c.args.lanes (record { updates = c.self.inside.updates; resolutions = c.self.inside.resolutions }) c.self.inside.renderer
          c.in_ok-seen.ensures is;
    }

pub returns-clause-starts : goal.returns-clause-starts
returns-clause-starts c p s i none set =
    let v = the_view c.self.inside in
    let h = subst (λ (x : Rooted). Stands p s x) (sym c.self.view_is) i in
    let reached = reached_passive p s h.reached none in
    let is =
    with_seen (passive_run s).after c.args.lanes (record { updates = c.self.inside.updates; resolutions = c.self.inside.resolutions }) c.self.inside.renderer
    c.in_ok-seen.ensures (can_start p (subst IsAccepted i.program c.facts.ensures.accepted) (subst IsBounded i.program c.facts.ensures.bounded) s v c.args.lanes h reached) in
    let on = c.in_ok-start.ensures in
    started_as p s v c.args.lanes c.start.new.self c.flush_passive.new.self c.none-self-inside.result h reached set on.program on.current on.hooks (on.started (passive_run s).after is) on.units on.bodies
    on.left c.in_ok-flush_passive.ensures.ended c.none-self-inside.ensures

pub returns-in_err-flush_passive-clause-broken : goal.returns-in_err-flush_passive-clause-broken
returns-in_err-flush_passive-clause-broken c =
    any_err c.from_residual.result _
    (λ p s i none.
    let v = the_view c.self.inside in
    let h = subst (λ (x : Rooted). Stands p s x) (sym c.self.view_is) i in
    none_broken p s v _ c.args.log.now c.flush_passive.new.log h (ap (λ (x : Shown). record v { shown = x }) c.in_err-flush_passive.ensures.same) c.in_err-flush_passive.ensures.unchanged)

pub returns-in_err-seen-clause-broken : goal.returns-in_err-seen-clause-broken
returns-in_err-seen-clause-broken c =
    any_err c.from_residual-in_err-seen.result _
    (λ p s i none.
    let v = the_view c.self.inside in
    let h = subst (λ (x : Rooted). Stands p s x) (sym c.self.view_is) i in
    passive_broken p s v _ v.rendering c.flush_passive.new.self c.args.log.now c.flush_passive.new.log h none refl refl refl refl refl c.in_ok-flush_passive.ensures.ended
    c.in_ok-flush_passive.ensures.written)

pub returns-in_err-start-clause-broken : goal.returns-in_err-start-clause-broken
returns-in_err-start-clause-broken c =
    any_err c.from_residual-in_err-start.result _
    (λ p s i none.
    let v = the_view c.self.inside in
    let h = subst (λ (x : Rooted). Stands p s x) (sym c.self.view_is) i in
    let on = c.in_err-start.ensures in
    passive_broken p s v _ c.start.new.self c.flush_passive.new.self c.args.log.now c.flush_passive.new.log h none refl on.program on.current on.seen on.hooks c.in_ok-flush_passive.ensures.ended
    c.in_ok-flush_passive.ensures.written)
