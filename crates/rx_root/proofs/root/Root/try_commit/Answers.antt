use Rattle.std.proofs.Common.{◌≡◌, ◌+◌, map, sym, ap, ◌∙◌, subst, arith}
use Rattle.rx_check.specs.Accepted.{IsAccepted}
use Rattle.rx_elem.specs.Numbers.{numbered}
use Rattle.rx_model.specs.Laws.{IsBounded}
use Rattle.rx_render.specs.Rendering.{Rendering}
use Rattle.rx_resources.specs.Kept.{committed}
use Rattle.rx_root.specs.Rooted.{Rooted}
use Rattle.rx_root.specs.Turning.{counts_of}
use Rattle.rx_root.specs.contracts.root.Root.{the_view}
use Rattle.rx_root.proofs.Broken.{any_err, gave_up_same, numbered_gave_up}
use Rattle.rx_root.proofs.CommitStands.{numbered_knows, numbered_over, at_hand_of, follows_of, HasCommitted, commit_stands, commit_written}
use Rattle.rx_root.proofs.root.Root.try_commit.Goals as goal

pub still-requires-clause-over : goal.still-requires-clause-over
still-requires-clause-over c =
    let e = c.requires.end in
    numbered_over e.program e.state e.progress e.tree c.args.self.now c.number.new.self e.stands (c.in_ok-beside.ensures.numbers e.program e.state e.progress e.tree e.stands)

pub still-requires-clause-finished : goal.still-requires-clause-finished
still-requires-clause-finished c =
    let e = c.requires.end in
    ((numbered e.state.numbers e.tree).1, (c.in_ok-beside.ensures.numbers e.program e.state e.progress e.tree e.stands).there)

pub still-requires-clause-since : goal.still-requires-clause-since
still-requires-clause-since c =
    let e = c.requires.end in
    record {
      program = e.program;
      state = e.state;
      progress = e.progress;
      knows = numbered_knows e.program e.state e.progress e.tree c.args.self.now c.number.new.self e.stands (c.in_ok-beside.ensures.numbers e.program e.state e.progress e.tree e.stands);
    }

pub prepare-requires-clause-room : goal.prepare-requires-clause-room
prepare-requires-clause-room c =
    let e = c.requires.end in
    let n = c.in_ok-beside.ensures.numbers e.program e.state e.progress e.tree e.stands in
    let same : c.number.new.self.commits ≡ c.args.self.now.commits = ap (λ (v : Rooted). v.commits) n.rest in
    omega (arith, same, c.requires.room.commits)

pub prepare-requires-clause-over : goal.prepare-requires-clause-over
prepare-requires-clause-over c =
    let e = c.requires.end in
    numbered_over e.program e.state e.progress e.tree c.args.self.now c.number.new.self e.stands (c.in_ok-beside.ensures.numbers e.program e.state e.progress e.tree e.stands)

pub prepare-requires-clause-at_hand : goal.prepare-requires-clause-at_hand
prepare-requires-clause-at_hand c =
    let e = c.requires.end in
    let n = c.in_ok-beside.ensures.numbers e.program e.state e.progress e.tree e.stands in (
      e.state,
      e.progress,
      e.tree,
      at_hand_of e.program e.state e.progress e.tree c.args.self.now c.number.new.self e.stands n (subst IsBounded e.stands.program c.facts.ensures.bounded) c.in_ok-beside.beside
          (c.in_ok-beside.ensures.beside e.program e.state e.progress e.tree e.stands) c.self.inside.numbers.instance (ap (λ (v : Rooted). v.numbers.instance) c.self.view_is),
    )

pub prepare-requires-clause-can_show : goal.prepare-requires-clause-can_show
prepare-requires-clause-can_show c =
    let e = c.requires.end in
    let n = c.in_ok-beside.ensures.numbers e.program e.state e.progress e.tree e.stands in
    record {
      old = e.state.tree;
      passive = e.state.passive;
      new = (numbered e.state.numbers e.tree).1;
      follows = follows_of e.program e.state e.progress e.tree c.args.self.now c.number.new.self e.stands n (subst IsBounded e.stands.program c.facts.ensures.bounded) c.in_ok-beside.beside
          (c.in_ok-beside.ensures.beside e.program e.state e.progress e.tree e.stands) (subst IsAccepted e.stands.program c.facts.ensures.accepted);
    }

pub show-requires-clause-room : goal.show-requires-clause-room
show-requires-clause-room c =
    let e = c.requires.end in
    let n = c.in_ok-beside.ensures.numbers e.program e.state e.progress e.tree e.stands in
    let same : c.prepare.new.self.commits ≡ c.args.self.now.commits = ap (λ (v : Rooted). v.commits) c.in_ok-prepared.ensures.rest ∙ ap (λ (v : Rooted). v.commits) n.rest in
    omega (arith, same, c.requires.room.commits)

pub show-requires-clause-ready : goal.show-requires-clause-ready
show-requires-clause-ready c =
    let e = c.requires.end in
    let n = c.in_ok-beside.ensures.numbers e.program e.state e.progress e.tree e.stands in
    record {
      old = e.state.tree;
      new = (numbered e.state.numbers e.tree).1;
      is = c.in_ok-prepared.ensures.ready e.state.tree e.state.passive (numbered e.state.numbers e.tree).1
          (follows_of e.program e.state e.progress e.tree c.args.self.now c.number.new.self e.stands n (subst IsBounded e.stands.program c.facts.ensures.bounded) c.in_ok-beside.beside
          (c.in_ok-beside.ensures.beside e.program e.state e.progress e.tree e.stands) (subst IsAccepted e.stands.program c.facts.ensures.accepted));
    }

pub returns-in_err-beside-clause-gave_up : goal.returns-in_err-beside-clause-gave_up
returns-in_err-beside-clause-gave_up c = any_err c.from_residual.result _ (numbered_gave_up c.args.self.now c.number.new.self c.number.new.self c.number.ensures.rest (gave_up_same c.number.new.self))

pub returns-in_err-still-clause-gave_up : goal.returns-in_err-still-clause-gave_up
returns-in_err-still-clause-gave_up c = any_err c.from_residual-in_err-still.result _ (numbered_gave_up c.args.self.now c.number.new.self c.number.new.self c.in_ok-beside.ensures.rest (gave_up_same c.number.new.self))

pub returns-in_err-prepared-clause-gave_up : goal.returns-in_err-prepared-clause-gave_up
returns-in_err-prepared-clause-gave_up c = any_err c.from_residual-in_err-prepared.result _ (numbered_gave_up c.args.self.now c.number.new.self c.prepare.new.self c.in_ok-beside.ensures.rest c.in_err-prepared.ensures.gave_up)

pub returns-clause-done : goal.returns-clause-done
returns-clause-done c p s g tree h reached =
    let v = c.args.self.now in
    let x = c.number.new.self in
    let w = c.prepare.new.self.rendering in
    let y = the_view c.self-2.inside in
    let n = c.in_ok-beside.ensures.numbers p s g tree h in
    let bounded = subst IsBounded h.program c.facts.ensures.bounded in
    let beside = c.in_ok-beside.ensures.beside p s g tree h in
    let follows = follows_of p s g tree v x h n bounded c.in_ok-beside.beside beside (subst IsAccepted h.program c.facts.ensures.accepted) in
    let at_hand = at_hand_of p s g tree v x h n bounded c.in_ok-beside.beside beside c.self.inside.numbers.instance (ap (λ (z : Rooted). z.numbers.instance) c.self.view_is) in
    let settled = ap (λ (z : Rooted). z.rendering) c.in_ok-prepared.ensures.rest in
    let is_shown =
    c.self-2.view_is ∙ c.show.ensures.rest
    ∙ ap (λ (z : Rooted). record z { shown = c.show.new.self.shown; commits = z.commits + 1 }) c.in_ok-prepared.ensures.rest
    ∙ ap (λ (r : Rendering). record x { rendering = r; shown = c.show.new.self.shown; commits = x.commits + 1 }) (sym settled) in
    let lanes_are : c.lanes-lanes.result ≡ g.lanes = c.lanes-lanes.ensures ∙ ap (λ (z : Rooted). z.rendering.lanes) c.self.view_is ∙ h.progress.renders.lanes in
    let cut_is : c.cut.result ≡ g.cut =
    c.cut.ensures ∙ ap (λ (z : Rooted). z.rendering.cut) is_shown ∙ ap (λ (r : Rendering). r.cut) settled ∙ ap (λ (z : Rooted). z.rendering.cut) n.rest ∙ h.progress.renders.cut in
    let has_committed : HasCommitted s g tree x w c.show.new.self.shown y c.commit-2.new.self c.finished.new.self c.commit.new.self =
    record {
      settled = settled;
      is_shown = is_shown;
      is_last = c.commit-2.ensures;
      lanes = c.lanes-lanes.result;
      still = c.in_ok-still.still;
      is_schedule = c.finished.ensures;
      lanes_are = lanes_are;
      is_kept = c.commit.ensures ∙ (λ i. map (committed (lanes_are i) (cut_is i)) y.resources);
      still_is = c.in_ok-still.ensures p s g (numbered s.numbers tree).1 (numbered_knows p s g tree v x h n) n.there;
    } in
    record {
      stands = commit_stands p s g tree v x h n w c.show.new.self.shown y c.commit-2.new.self c.finished.new.self c.commit.new.self has_committed (counts_of v) reached
          (c.in_ok-prepared.ensures.settled s g tree at_hand)
          (c.show.ensures.shown s.tree (numbered s.numbers tree).1 (c.in_ok-prepared.ensures.ready s.tree s.passive (numbered s.numbers tree).1 follows));
      written = commit_written p s g tree v x h n c.args.log.now c.prepare.new.log
          (c.in_ok-prepared.ensures.written s.tree s.passive (numbered s.numbers tree).1 follows);
    }
