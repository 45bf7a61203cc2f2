use Rattle.std.proofs.Common.{ap, ◌∙◌}
use Rattle.rx_root.specs.Rooted.{Rooted}
use Rattle.rx_root.specs.Turning.{counts_of}
use Rattle.rx_root.specs.contracts.root.Root.{the_view}
use Rattle.rx_root.proofs.TurnStands.{knows_at_end, deferred_stands, deferred_written}
use Rattle.rx_root.proofs.root.Root.defer.Goals as goal

pub returns-clause-done : goal.returns-clause-done
returns-clause-done c p s g tree h reached =
    let v = c.args.self.now in
    record {
      stands = deferred_stands p s g (counts_of v) tree c.args.waits v (the_view c.self-2.inside) c.discard.new.self h reached
          (c.self-2.view_is ∙ c.suspend.ensures p s g (knows_at_end p s g tree v h) h.schedule h.now) c.discard.ensures;
      written = deferred_written c.args.log.now c.defer_line.new.self c.lanes-lanes.result c.units.result c.bodies.result g (counts_of v) c.in_ok-defer_line.ensures.written
          (c.lanes-lanes.ensures ∙ ap (λ (x : Rooted). x.rendering.lanes) c.self.view_is ∙ h.progress.renders.lanes) h.progress.lanes_are_set
          (c.units.ensures ∙ ap (λ (x : Rooted). x.rendering.units) c.self.view_is) (c.bodies.ensures ∙ ap (λ (x : Rooted). x.rendering.bodies) c.self.view_is);
    }
