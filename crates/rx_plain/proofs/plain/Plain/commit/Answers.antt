use Rattle.std.proofs.Common.{◌+◌, ◌∙◌, ap}
use Rattle.rx_elem.specs.Numbers.{Numbers, numbered}
use Rattle.rx_lines.specs.Lines.{Counts}
use Rattle.rx_model.specs.Committing.{committed_as}
use Rattle.rx_plain.specs.Doing.{IsCommitting}
use Rattle.rx_plain.specs.Plained.{Going, Plained}
use Rattle.rx_plain.proofs.Committing.{committed_is, committed_stands, few_nodes, knows_since, numbers_fit, room_after, same_next, same_numbered, settling_of}
use Rattle.rx_plain.proofs.Runnable.{runnable_bounded}
use Rattle.rx_plain.specs.contracts.plain.Plain.{the_view}
use Rattle.rx_plain.proofs.plain.Plain.commit.Goals as goal

pub number_new-requires : goal.number_new-requires
number_new-requires c =
    let p = c.args.checked.now in
    let v = c.args.self.now in
    let e = c.requires.at_end in
    numbers_fit e.state.numbers _ e.gives v e.stands.numbers (same_next c.ends_are_not_numbered.ensures v.numbers e.state.numbers c.args.tree.now e.gives e.stands.numbers e.is)
    (few_nodes p (runnable_bounded p c.program.ensures.runnable) e.state e.progress e.gives e.stands.reached e.rendered) c.requires.room

pub settle-requires : goal.settle-requires
settle-requires c =
    let p = c.args.checked.now in
    let v = c.args.self.now in
    let e = c.requires.at_end in
    let w = c.show_commit.new.self in
    let tree = ap (λ (x : Plained). x.tree) c.in_ok-show_commit.ensures.rest ∙ ap (λ (x : Plained). x.tree) c.in_ok-next.ensures.next in
    let hooks = ap (λ (x : Plained). x.hooks) c.in_ok-show_commit.ensures.rest ∙ ap (λ (x : Plained). x.hooks) c.in_ok-next.ensures.next in
    record {
      state = e.state;
      progress = e.progress;
      rendered = e.gives;
      is = settling_of p e.state e.progress e.gives v c.args.going.now w.tree c.in_ok-next.next c.self.inside.numbers.instance w.hooks (runnable_bounded p c.program.ensures.runnable) e.stands e.rendered tree hooks
          (c.in_ok-next.ensures.tree ∙ same_numbered c.ends_are_not_numbered.ensures v.numbers e.state.numbers c.args.tree.now e.gives e.stands.numbers e.is)
          (ap (λ (x : Plained). x.numbers.instance) c.self.view_is);
    }

pub returns-clause-done : goal.returns-clause-done
returns-clause-done c s g x h rendered is reached =
    let p = c.args.checked.now in
    let v = c.args.self.now in
    let counts : Counts = record { units = c.args.units; bodies = c.args.bodies } in
    let fixed = numbered s.numbers x in
    let one = c.number_new.new.self in
    let two = c.show_commit.new.self in
    let three = c.settle.new.self in
    let ends = c.ends_are_not_numbered.ensures in
    let numbers = c.in_ok-next.ensures.next in
    let new_is = c.in_ok-next.ensures.tree ∙ same_numbered ends v.numbers s.numbers c.args.tree.now x h.numbers is in
    let at_hand : IsCommitting s g fixed.1 c.in_ok-next.next c.args.going.now one =
    record {
      old = ap (λ (w : Plained). w.tree) numbers ∙ h.tree;
      commits = ap (λ (w : Plained). w.commits) numbers ∙ h.commits;
      lanes = h.progress.lanes;
      lanes_are_set = h.progress.lanes_are_set;
      new = new_is;
    } in
    let tree = ap (λ (w : Plained). w.tree) c.in_ok-show_commit.ensures.rest ∙ ap (λ (w : Plained). w.tree) numbers in
    let hooks = ap (λ (w : Plained). w.hooks) c.in_ok-show_commit.ensures.rest ∙ ap (λ (w : Plained). w.hooks) numbers in
    let keeps = c.in_ok-settle.ensures.settled s g x
    (settling_of p s g x v c.args.going.now two.tree c.in_ok-next.next c.self.inside.numbers.instance two.hooks (runnable_bounded p c.program.ensures.runnable) h rendered tree hooks new_is
    (ap (λ (w : Plained). w.numbers.instance) c.self.view_is)) in
    let knows = knows_since p s g v one c.args.going.now h (ap (λ (w : Plained). w.resources) numbers) in
    let render : Going = record { lanes = c.going.inside.lanes; cut = c.going.inside.cut; seen = c.going.inside.seen; units = c.going.inside.units; later = c.going.inside.later } in
    record {
      stands = committed_stands p s g counts x three.hooks v _ c.args.going.now h c.requires.idle reached keeps
          (committed_is s g fixed v one two three (the_view c.self-2.inside) render (committed_as s g counts fixed).after.passive c.commit.new.self c.finished.new.self c.still-still.result c.in_ok-next.next
          (numbers ∙ ap (λ (n : Numbers). record v { numbers = n }) (same_next ends v.numbers s.numbers c.args.tree.now x h.numbers is))
          (c.in_ok-show_commit.ensures.left s g fixed at_hand) c.settle.ensures.rest c.self-2.view_is c.commit.ensures c.finished.ensures
          (ap (λ (y : Going). y.lanes) c.going.view_is ∙ h.progress.lanes) (ap (λ (y : Going). y.cut) c.going.view_is ∙ h.progress.cut)
          (c.still-still.ensures s g fixed.1 knows new_is) new_is);
      written = c.in_ok-show_commit.ensures.written s g fixed at_hand;
    }

pub returns-clause-leaves : goal.returns-clause-leaves
returns-clause-leaves c =
    let p = c.args.checked.now in
    let v = c.args.self.now in
    let e = c.requires.at_end in
    let chain = c.self-2.view_is ∙ c.settle.ensures.rest in
    let rest = c.in_ok-show_commit.ensures.rest in
    let next = c.in_ok-next.ensures.next in
    room_after e.state.numbers _ e.gives v _ e.stands.numbers (same_next c.ends_are_not_numbered.ensures v.numbers e.state.numbers c.args.tree.now e.gives e.stands.numbers e.is)
    (few_nodes p (runnable_bounded p c.program.ensures.runnable) e.state e.progress e.gives e.stands.reached e.rendered)
    (ap (λ (w : Plained). w.numbers) chain ∙ ap (λ (w : Plained). w.numbers) rest ∙ ap (λ (w : Plained). w.numbers) next)
    (ap (λ (w : Plained). w.commits + 1) chain ∙ ap (λ (w : Plained). w.commits + 1) rest ∙ ap (λ (w : Plained). w.commits + 1) next)
    (ap (λ (w : Plained). w.updates) chain ∙ ap (λ (w : Plained). w.updates) rest ∙ ap (λ (w : Plained). w.updates) next)
    (ap (λ (w : Plained). w.resolutions) chain ∙ ap (λ (w : Plained). w.resolutions) rest ∙ ap (λ (w : Plained). w.resolutions) next)
