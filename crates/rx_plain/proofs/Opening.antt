-- What the plain machine stands for before the first render.
use Rattle.rx_sched.specs.declared.event.Event.{Event}
use Rattle.rx_sched.specs.Events.{no_event}
use Rattle.std.proofs.Common.{◌≡◌, ℕ, None, List, length, refl, sym, subst}
use Rattle.std.specs.Prelude.{replicate}
use Rattle.rx_ast.specs.Syntax.{Program}
use Rattle.rx_rules.specs.Names.{resources}
use Rattle.rx_sched.specs.Schedule.{Schedule, opening_schedule}
use Rattle.rx_effect.specs.EffectLog.{Passive, no_passive}
use Rattle.rx_model.specs.State.{opening}
use Rattle.rx_model.specs.HooksOf.{KeepsAllHooks}
use Rattle.rx_model.proofs.Reached.{start-reached}
use Rattle.rx_resources.specs.Kept.{Kept}
use Rattle.rx_resources.specs.Kept as kept_of
use Rattle.rx_hook_store.specs.Store as hooks
use Rattle.rx_fresh.specs.Evaluated.{AreEvaluated, Evaluation}
use Rattle.rx_hook_store.specs.Store.{kept_hooks}
use Rattle.rx_hook_store.specs.Commits.{LinksBelow}
use Rattle.rx_plain.specs.Plained.{Plained}
use Rattle.rx_plain.specs.Stands.{StandsFor}
use Rattle.rx_kept.specs.Keeping.{KeepsResources}
use Rattle.rx_kept.proofs.Resources.{opening_declared, opening_kept}

-- the machine before its first render
abbrev pub opening_plain : hooks.Kept → List (ℕ × Evaluation) → Schedule → List Kept → Event → Passive → Plained
opening_plain store evaluations schedule kept event passive =
    record {
      tree = None;
      hooks = store;
      evaluations = evaluations;
      schedule = schedule;
      commits = 0;
      seen = 0;
      updates = 0;
      resolutions = 0;
      resources = kept;
      now = 0;
      event = event;
      numbers = record { instance = 1; host = 1 };
      passive = passive;
      going = None;
    }

-- it stands for the opening state
pub opening_stands : (p : Program) (store : hooks.Kept) (evaluations : List (ℕ × Evaluation)) (schedule : Schedule) (kept : List Kept) (event : Event) (passive : Passive) → KeepsAllHooks p opening (kept_hooks store) → AreEvaluated p evaluations
    → schedule ≡ opening_schedule → kept ≡ replicate (length (resources p)) kept_of.opening → event ≡ no_event → passive ≡ no_passive → LinksBelow opening
    → StandsFor p opening (opening_plain store evaluations schedule kept event passive)
opening_stands p store evaluations schedule kept event passive keeps evaluated first are ends none below =
    record {
      reached = start-reached p;
      tree = refl;
      keeps = keeps;
      below = below;
      evaluated = evaluated;
      schedule = first;
      commits = refl;
      seen = refl;
      updates = refl;
      resolutions = refl;
      resources = subst (KeepsResources p opening.journal opening.linked) (sym are) (opening_kept p);
      now = refl;
      event = ends;
      numbers = refl;
      passive = none;
      declared = opening_declared p;
      progress = tt;
    }
