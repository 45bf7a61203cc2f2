use Rattle.std.proofs.Common.{◌+◌, ◌<◌, ◌^◌, sym, ap, ◌∙◌, subst}
use Rattle.rx_lane.specs.Lanes.{has, lanes_where}
use Rattle.rx_ast.specs.Syntax.{Program}
use Rattle.rx_elem.specs.Numbers.{numbered}
use Rattle.rx_model.specs.Committing.{committed_state}
use Rattle.rx_model.specs.HooksOf.{KeepsAllHooks}
use Rattle.rx_hook_store.specs.Store.{kept_hooks}
use Rattle.rx_commit.specs.Shown.{Shown}
use Rattle.rx_commit.specs.Written.{lines_of}
use Rattle.rx_writing.specs.Written.{with_lines}
use Rattle.rx_render.specs.Settling.{IsAtHand}
use Rattle.rx_root.specs.Rooted.{Rooted}
use Rattle.rx_root.specs.Turning.{IsPreparedFor, counts_of}
use Rattle.rx_root.proofs.Broken.{any_err, prepared_rest, unprepared_gave_up, unsettled_gave_up}
use Rattle.rx_root.proofs.root.Root.prepare.Goals as goal

pub settle-requires-clause-room : goal.settle-requires-clause-room
settle-requires-clause-room c = subst (λ (v : Rooted). v.commits + 1 < 2 ^ 64) (sym c.in_ok-prepared.ensures.rest) c.requires.room

pub settle-requires-clause-over : goal.settle-requires-clause-over
settle-requires-clause-over c = ap (λ (v : Rooted). v.rendering.at) c.in_ok-prepared.ensures.rest ∙ c.requires.over

pub settle-requires-clause-prepares : goal.settle-requires-clause-prepares
settle-requires-clause-prepares c =
    let f = c.requires.can_show in
    (f.old, f.new, (c.in_ok-prepared.ensures.ready f.old f.passive f.new f.follows).prepares)

pub settle-requires-clause-at_hand : goal.settle-requires-clause-at_hand
settle-requires-clause-at_hand c =
    let h = c.requires.at_hand in
    (h.0, h.1, h.2, subst (λ (v : Rooted). IsAtHand h.0 h.1 h.2 c.args.first c.args.beside.now v.rendering) (sym c.in_ok-prepared.ensures.rest) h.3)

pub returns-clause-ready : goal.returns-clause-ready
returns-clause-ready c old passive new f =
    subst (λ (y : Shown). IsPreparedFor old new y c.in_ok-prepared.prepared) (sym (ap (λ (z : Rooted). z.shown) c.in_ok-settle.ensures.rest)) (c.in_ok-prepared.ensures.ready old passive new f)

pub returns-clause-settled : goal.returns-clause-settled
returns-clause-settled c s g x h =
    subst (λ (q : Program). KeepsAllHooks q (committed_state s g (numbered s.numbers x)) (kept_hooks c.settle.new.self.rendering.hooks)) (ap (λ (v : Rooted). v.rendering.program) c.in_ok-prepared.ensures.rest)
    (c.in_ok-settle.ensures.settled s g x (subst (λ (v : Rooted). IsAtHand s g x c.args.first c.args.beside.now v.rendering) (sym c.in_ok-prepared.ensures.rest) h))

pub returns-clause-written : goal.returns-clause-written
returns-clause-written c old passive new f =
    c.in_ok-settle.ensures.written old new (c.in_ok-prepared.ensures.ready old passive new f).prepares
    ∙ ap (λ (z : Rooted). with_lines c.args.log.now (lines_of (z.commits + 1) (lanes_where (has z.rendering.lanes)) (counts_of z) old new)) c.in_ok-prepared.ensures.rest

pub returns-clause-rest : goal.returns-clause-rest
returns-clause-rest c = prepared_rest c.args.self.now c.prepare_shown.new.self c.settle.new.self c.in_ok-prepared.ensures.rest c.in_ok-settle.ensures.rest

pub returns-in_err-settle-clause-rest : goal.returns-in_err-settle-clause-rest
returns-in_err-settle-clause-rest c = prepared_rest c.args.self.now c.prepare_shown.new.self c.settle.new.self c.in_ok-prepared.ensures.rest c.in_err-settle.ensures.rest

pub returns-in_err-settle-clause-gave_up : goal.returns-in_err-settle-clause-gave_up
returns-in_err-settle-clause-gave_up c =
    any_err c.from_residual-in_err-settle.result _
    (unsettled_gave_up c.args.self.now c.prepare_shown.new.self c.settle.new.self c.in_ok-prepared.ensures.rest c.in_ok-prepared.ensures.same c.in_err-settle.ensures.rest c.in_err-settle.ensures.keeps)

pub returns-in_err-prepared-clause-gave_up : goal.returns-in_err-prepared-clause-gave_up
returns-in_err-prepared-clause-gave_up c =
    any_err c.from_residual.result _ (unprepared_gave_up c.args.self.now c.prepare_shown.new.self c.in_err-prepared.ensures.rest c.in_err-prepared.ensures.same)
