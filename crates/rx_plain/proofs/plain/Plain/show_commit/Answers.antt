use Rattle.std.proofs.Common.{◌+◌, ◌++◌, ◌∙◌, ℕ, Option, ap, sym}
use Rattle.std.proofs.lemmas.Result.{on_ok_weaker}
use Rattle.rx_lane.specs.declared.lane.Lane.TheVariants as lane
use Rattle.rx_lane.specs.Lanes.{Lanes, has, lanes_where}
use Rattle.rx_effect.specs.EffectLog.{Passive}
use Rattle.rx_elem.specs.Compare.{compare_trees}
use Rattle.rx_elem.specs.Trees.{Node}
use Rattle.rx_changes.specs.Found.{Found, found_in}
use Rattle.rx_plain.specs.Plained.{Going, Plained}
use Rattle.rx_plain.proofs.Committing.{caught-trimmed, layout-trimmed, passive-trimmed, sync_written}
use Rattle.rx_plain.proofs.plain.Plain.show_commit.Goals as goal

abbrev passive_in : Found → Passive
passive_in f = record { destroyed = f.passive.destroyed; created = f.passive.created }

pub returns-then-has-clause-written : goal.returns-then-has-clause-written
returns-then-has-clause-written c =
    on_ok_weaker c.flush_passive.result
    (λ more s g fixed h.
    let v = c.args.self.now in
    let next = c.args.next.now in
    let tree = c.as_ref.ensures.value ∙ ap (λ (w : Plained). w.tree) c.self.view_is in
    let found = c.in_ok-layout.ensures ∙ ap (λ (t : Option Node). found_in (compare_trees t next)) tree in
    let own = c.in_ok-write_commit.ensures s g fixed.1 (ap (λ (n : ℕ). n + 1) (ap (λ (w : Plained). w.commits) c.self.view_is ∙ h.commits)) (ap (λ (x : Going). lanes_where (has x.lanes)) c.going.view_is ∙ ap (λ (ls : Lanes). lanes_where (has ls)) h.lanes ∙ sym h.lanes_are_set)
    (c.deref.ensures.value ∙ ap (λ (f : Found). f.caught) found ∙ caught-trimmed s.tree fixed.1 v.tree next h.old h.new)
    (ap (λ (f : Found). f.layout.destroyed ++ f.layout.created) found ∙ layout-trimmed s.tree fixed.1 v.tree next h.old h.new) in
    sync_written s g (record { units = c.args.units; bodies = c.args.bodies }) fixed c.args.log.now c.write_commit.new.log c.flush_passive.new.log _
    (ap (λ (ls : Lanes). has ls lane.Sync) (sym h.lanes) ∙ sym (ap (λ (x : Going). has x.lanes lane.Sync) c.going.view_is) ∙ sym c.has.ensures ∙ c.if-has.true)
    (ap passive_in found ∙ passive-trimmed s.tree fixed.1 v.tree next h.old h.new) own more)
    c.flush_passive.ensures.written
