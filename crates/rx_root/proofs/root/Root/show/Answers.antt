use Rattle.std.proofs.Common.{Some, sym, ap, ◌∙◌, subst}
use Rattle.rx_lane.specs.Lanes.{Lanes}
use Rattle.rx_elem.specs.Compare.{compare_trees}
use Rattle.rx_effect.specs.EffectLog.{passive_of}
use Rattle.rx_commit.specs.Shown.{CanCommit, Shows}
use Rattle.rx_root.specs.Rooted.{Rooted}
use Rattle.rx_root.specs.Turning.{IsPreparedFor, passive_left}
use Rattle.rx_root.proofs.root.Root.show.Goals as goal

pub commit-requires : goal.commit-requires
commit-requires c = subst (λ (v : Rooted). CanCommit v.shown c.args.prepared) (sym c.self.view_is) c.requires.ready.is.can_commit

pub returns-clause-shown : goal.returns-clause-shown
returns-clause-shown c old new f =
    let before = subst (λ (v : Rooted). IsPreparedFor old new v.shown c.args.prepared) (sym c.self.view_is) f in
    let lanes = c.lanes.ensures ∙ ap (λ (v : Rooted). v.rendering.lanes) c.self.view_is in
    let after = c.commit.ensures old new before.hosts_are before.commits before.prepares in
    subst (λ (ls : Lanes). Shows (Some new) (passive_left ls (passive_of (compare_trees old new))) c.end_passive_of.new.shown) lanes
    (c.end_passive_of.ensures (Some new) (passive_of (compare_trees old new)) after)
