-- The kept facts, in each state that can be reached.
use Rattle.std.specs.Prelude.{◌<◌, ◌≤◌, IfSome, None, Option, Some}
use Rattle.rx_ast.specs.Syntax.{Program}
use Rattle.rx_model.specs.Kept.{AreNumbered, IsSet, NoUpdateIsLost, RenderIsDue, ResolvedAreRetried, SuspendedAreWaiting, ValuesAreAskedFor}
use Rattle.rx_model.specs.Laws.{IsBounded, IsReached, KeptFacts}
use Rattle.rx_model.specs.State.{Progress, State}
use Rattle.rx_model.specs.Turns.{unit_bound}
use Rattle.rx_model.proofs.Reached.{reached-can}
use Rattle.run_laws.proofs.DueLanes.{DueIn}
use Rattle.run_laws.proofs.KeptRuns.{Keeps, reached_keeps}
use Rattle.run_laws.proofs.RunTrees.{reached_bounded, renders_bounded}

module _ (p : Program) (bounded : IsBounded p) (s : State) (reached : IsReached p s) where
  keeps : Keeps s
  keeps = reached_keeps p bounded.shallow bounded.declared s reached

  pub pending_set : IsSet s.schedule.pending
  pending_set = keeps.0

  pub all_numbered : AreNumbered s
  all_numbered = keeps.1

  pub none_lost : NoUpdateIsLost s
  none_lost = keeps.2

  pub suspended_waiting : SuspendedAreWaiting s
  suspended_waiting = record { pending = keeps.3.0; transitions = keeps.3.1; nothing = keeps.3.2; unresolved = keeps.3.3 }

  pub resolved_retried : ResolvedAreRetried s
  resolved_retried = keeps.4

  pub values_asked : ValuesAreAskedFor s
  values_asked = keeps.6

  pub due : IfSome s.progress (RenderIsDue p s)
  due = go s.progress keeps.5 (reached-can p s reached).due
    where
      go : (x : Option Progress) → IfSome x (λ g. DueIn s.schedule g.lanes) → IfSome x (λ g. (g.bodies ≤ g.units) × (g.units < unit_bound p)) → IfSome x (RenderIsDue p s)
      go None d u = tt
      go (Some g) d u = record { pending = d.0; not_suspended = d.1; bodies = u.0; units = u.1 }

-- all of them
pub kept_facts : (p : Program) → KeptFacts p
kept_facts p bounded s reached =
    record {
      pending_are_set = pending_set p bounded s reached;
      updates_are_numbered = all_numbered p bounded s reached;
      no_update_is_lost = none_lost p bounded s reached;
      render_is_due = due p bounded s reached;
      suspended_are_waiting = suspended_waiting p bounded s reached;
      resolved_are_retried = resolved_retried p bounded s reached;
      values_are_asked_for = values_asked p bounded s reached;
      tree_is_bounded = reached_bounded p bounded s reached;
      renders_are_bounded = renders_bounded p bounded s reached;
    }
