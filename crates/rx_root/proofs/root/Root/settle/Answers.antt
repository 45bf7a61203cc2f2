use Rattle.std.proofs.Common.{ℕ, ◌+◌, sym, ap, ◌∙◌, subst}
use Rattle.rx_lane.specs.Lanes.{Lanes, has, lanes_where}
use Rattle.rx_ast.specs.Syntax.{Program}
use Rattle.rx_elem.specs.Numbers.{numbered}
use Rattle.rx_model.specs.Committing.{committed_state}
use Rattle.rx_model.specs.HooksOf.{KeepsAllHooks}
use Rattle.rx_hook_store.specs.Store.{kept_hooks}
use Rattle.rx_commit.specs.Written.{lines_of}
use Rattle.rx_writing.specs.Written.{with_lines}
use Rattle.rx_render.specs.Settling.{IsAtHand}
use Rattle.rx_root.specs.Rooted.{Rooted}
use Rattle.rx_root.specs.Turning.{counts_of}
use Rattle.rx_root.specs.contracts.root.Root.{the_view}
use Rattle.rx_root.proofs.Broken.{cut_again, err_as, ok_as, on_err, settled_keeps}
use Rattle.rx_root.proofs.TurnsTaken.{on_ok}
use Rattle.rx_root.proofs.root.Root.settle.Goals as goal

pub settle-settled-requires-clause-over : goal.settle-settled-requires-clause-over
settle-settled-requires-clause-over c = ap (λ (v : Rooted). v.rendering.at) c.self.view_is ∙ c.requires.over

pub settle-settled-requires-clause-at_hand : goal.settle-settled-requires-clause-at_hand
settle-settled-requires-clause-at_hand c =
    let h = c.requires.at_hand in
    (h.0, h.1, h.2, subst (λ (v : Rooted). IsAtHand h.0 h.1 h.2 c.args.first c.args.beside.now v.rendering) (sym c.self.view_is) h.3)

pub returns-clause-settled : goal.returns-clause-settled
returns-clause-settled c =
    ok_as c.cut_back.result c.settle-settled.result _ _ c.cut_back.ensures.same
    (λ settled s g x h.
    subst (λ (q : Program). KeepsAllHooks q (committed_state s g (numbered s.numbers x)) (kept_hooks c.settle-settled.new.self.hooks)) (ap (λ (v : Rooted). v.rendering.program) c.self.view_is)
    (settled s g x (subst (λ (v : Rooted). IsAtHand s g x c.args.first c.args.beside.now v.rendering) (sym c.self.view_is) h)))
    c.settle-settled.ensures.settled

pub returns-clause-written : goal.returns-clause-written
returns-clause-written c =
    on_ok c.cut_back.result _ _
    (λ kept old new h.
    let log = c.args.log.now in
    let n = c.self.inside.commits + 1 in
    kept ∙ c.in_ok-write.ensures.written old new h
    ∙ ap (λ (ls : Lanes). with_lines log (lines_of n (lanes_where (has ls)) (record { units = c.units.result; bodies = c.bodies.result }) old new)) c.lanes.ensures
    ∙ ap (λ (k : ℕ). with_lines log (lines_of n (lanes_where (has (the_view c.self.inside).rendering.lanes)) (record { units = k; bodies = c.bodies.result }) old new)) c.units.ensures
    ∙ ap (λ (k : ℕ). with_lines log (lines_of n (lanes_where (has (the_view c.self.inside).rendering.lanes)) (record { units = (the_view c.self.inside).rendering.units; bodies = k }) old new)) c.bodies.ensures
    ∙ ap (λ (z : Rooted). with_lines log (lines_of (z.commits + 1) (lanes_where (has z.rendering.lanes)) (counts_of z) old new)) c.self.view_is)
    c.cut_back.ensures.kept

pub returns-clause-keeps : goal.returns-clause-keeps
returns-clause-keeps c =
    err_as c.cut_back.result c.settle-settled.result _ _ c.cut_back.ensures.same
    (λ keeps. settled_keeps c.args.self.now (the_view c.self.inside).rendering c.settle-settled.new.self (ap (λ (v : Rooted). v.rendering) c.self.view_is) c.settle-settled.ensures.same keeps)
    c.settle-settled.ensures.err

pub returns-clause-unchanged : goal.returns-clause-unchanged
returns-clause-unchanged c =
    let p = c.requires.prepares in
    on_err c.cut_back.result _ _ (λ cut. cut ∙ cut_again c.args.log.now c.write.new.log c.len-len.result _ (c.in_ok-write.ensures.written p.0 p.1 p.2) c.len-len.ensures) c.cut_back.ensures.cut
