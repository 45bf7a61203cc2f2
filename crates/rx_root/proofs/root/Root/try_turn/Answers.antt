use Rattle.std.proofs.Common.{◌+◌, ◌≤◌, sym, ap, ◌∙◌, subst}
use Rattle.rx_ast.specs.Syntax.{Program}
use Rattle.rx_model.specs.Turns.{unit_bound}
use Rattle.rx_effect.specs.EffectLog.{Passive}
use Rattle.rx_model.specs.Committing.{passive_run, starting}
use Rattle.rx_writing.specs.Written.{passive_lines, with_lines}
use Rattle.rx_root.proofs.TurnsTaken.{stands_some, keep_leads, start_leads, on_ok, takes_none, takes_on, takes_start}
use Rattle.rx_kept.proofs.Choosing.{keeps_some, start_is_set}
use Rattle.rx_root.proofs.Broken.{any_err, kept_broken, on_err_both, start_broken, started_broken}
use Rattle.rx_root.proofs.root.Root.try_turn.Goals as goal

pub go_on-requires-clause-goes_on : goal.go_on-requires-clause-goes_on
go_on-requires-clause-goes_on g c =
    let is = c.requires.stands in
    let k = keeps_some is.state (sym (c.in-Keep.ensures is.program is.state is.stands)) in
    record { program = is.program; state = is.state; progress = k.0; stands = stands_some is.program is.state k.0 c.args.self.now k.1 is.stands }

pub go_on-requires-in-Start-clause-goes_on : goal.go_on-requires-in-Start-clause-goes_on
go_on-requires-in-Start-clause-goes_on g c =
    let is = c.requires.stands in
    let lanes = c.in-Start.lanes in
    let set = start_is_set is.state lanes (sym (c.in-Start.ensures is.program is.state is.stands)) in
    record {
      program = is.program;
      state = (passive_run is.state).after;
      progress = starting is.state lanes;
      stands = c.in_ok-start-in-Start.ensures.starts is.program is.state is.stands is.between set;
    }

pub returns-in-None-clause-takes : goal.returns-in-None-clause-takes
returns-in-None-clause-takes g c = λ p s h none. takes_none p s c.args.budget c.args.self.now c.args.log.now c.args.steps.now h (sym (c.in-None.ensures p s h))

pub returns-in-Keep-clause-takes : goal.returns-in-Keep-clause-takes
returns-in-Keep-clause-takes g c =
    on_ok c.go_on.result _ _
    (λ a p s h none.
    let e = sym (c.in-Keep.ensures p s h) in
    let k = keeps_some s e in
    takes_on p s k.0 c.args.budget c.go_on.new.self c.args.log.now c.go_on.new.log c.args.steps.now c.go_on.new.steps e k.1
    (a p s k.0 (stands_some p s k.0 c.args.self.now k.1 h) (keep_leads p s k.0 c.args.budget h.reached none e k.1))) c.go_on.ensures.takes

pub returns-in_ok-start-in-Start-clause-takes : goal.returns-in_ok-start-in-Start-clause-takes
returns-in_ok-start-in-Start-clause-takes g c =
    on_ok c.go_on-in-Start.result _ _
    (λ a p s h none.
    let lanes = c.in-Start.lanes in
    let e = sym (c.in-Start.ensures p s h) in
    takes_start p s lanes c.args.budget c.go_on-in-Start.new.self c.args.log.now c.start.new.log c.go_on-in-Start.new.log c.args.steps.now c.go_on-in-Start.new.steps e
    (c.in_ok-start-in-Start.ensures.written ∙ ap (λ (q : Passive). with_lines c.args.log.now (passive_lines q)) h.shows.passive_is)
    (a p (passive_run s).after (starting s lanes) (c.in_ok-start-in-Start.ensures.starts p s h none (start_is_set s lanes e)) (start_leads p s lanes c.args.budget h.reached none e)))
    c.go_on-in-Start.ensures.takes

pub returns-in-Keep-clause-broken : goal.returns-in-Keep-clause-broken
returns-in-Keep-clause-broken g c =
    on_err_both c.go_on.result _ _ _
    (λ up same p s h none.
    let e = sym (c.in-Keep.ensures p s h) in
    let k = keeps_some s e in
    kept_broken p s k.0 c.args.self.now c.go_on.new.self c.args.log.now c.go_on.new.log e (stands_some p s k.0 c.args.self.now k.1 h) up same) c.go_on.ensures.gave_up c.go_on.ensures.unchanged

pub returns-in_err-start-in-Start-clause-broken : goal.returns-in_err-start-in-Start-clause-broken
returns-in_err-start-in-Start-clause-broken g c =
    any_err c.from_residual.result _
    (λ p s h none.
    start_broken p s c.in-Start.lanes c.start.new.self c.args.log.now c.start.new.log (sym (c.in-Start.ensures p s h)) (c.in_err-start-in-Start.ensures.broken p s h none))

pub returns-in_ok-start-in-Start-clause-broken : goal.returns-in_ok-start-in-Start-clause-broken
returns-in_ok-start-in-Start-clause-broken g c =
    on_err_both c.go_on-in-Start.result _ _ _
    (λ up same p s h none.
    let lanes = c.in-Start.lanes in
    let e = sym (c.in-Start.ensures p s h) in
    started_broken p s lanes (starting s lanes) c.start.new.self c.go_on-in-Start.new.self c.args.log.now c.go_on-in-Start.new.log e
    (c.in_ok-start-in-Start.ensures.starts p s h none (start_is_set s lanes e))
    (same ∙ c.in_ok-start-in-Start.ensures.written ∙ ap (λ (q : Passive). with_lines c.args.log.now (passive_lines q)) h.shows.passive_is) up)
    c.go_on-in-Start.ensures.gave_up c.go_on-in-Start.ensures.unchanged

pub returns-in_ok-start-in-Start-clause-few : goal.returns-in_ok-start-in-Start-clause-few
returns-in_ok-start-in-Start-clause-few g c =
    let is = c.requires.stands in
    let set = start_is_set is.state c.in-Start.lanes (sym (c.in-Start.ensures is.program is.state is.stands)) in
    let begun = c.in_ok-start-in-Start.ensures.starts is.program is.state is.stands is.between set in
    subst (λ (q : Program). c.go_on-in-Start.new.steps ≤ c.args.steps.now + unit_bound q) (begun.program ∙ sym is.stands.program) c.go_on-in-Start.ensures.few
