-- What a root stands for before its first render.
use Rattle.rx_sched.specs.declared.event.Event.{Event}
use Rattle.rx_sched.specs.Events.{no_event}
use Rattle.std.proofs.Common.{◌≡◌, None, List, length, refl, sym, subst}
use Rattle.std.specs.Prelude.{replicate}
use Rattle.rx_lane.specs.Lanes.{Lanes}
use Rattle.rx_ast.specs.Syntax.{Program}
use Rattle.rx_rules.specs.Names.{resources}
use Rattle.rx_lists.specs.Shapes.{Shape, none}
use Rattle.rx_sched.specs.Schedule.{Schedule, opening_schedule}
use Rattle.rx_effect.specs.EffectLog.{no_passive}
use Rattle.rx_model.specs.State.{opening}
use Rattle.rx_model.specs.HooksOf.{KeepsAllHooks}
use Rattle.rx_model.specs.Laws.{IsReached}
use Rattle.rx_model.proofs.Reached.{start-reached}
use Rattle.rx_resources.specs.Kept.{Kept}
use Rattle.rx_resources.specs.Kept as kept_of
use Rattle.rx_fiber.specs.Fibers.{Fiber}
use Rattle.rx_fiber.specs.Reading.{IsTreeOf, gap, no_more}
use Rattle.rx_hook_store.specs.Store.{kept_hooks}
use Rattle.rx_hook_store.specs.Commits.{LinksBelow}
use Rattle.rx_commit.specs.Shown.{Shown, Shows}
use Rattle.rx_render.specs.Rendering.{HasNoRender, Rendering}
use Rattle.rx_root.specs.Rooted.{Rooted}
use Rattle.rx_root.specs.Stands.{Stands}
use Rattle.rx_kept.specs.Keeping.{KeepsResources}
use Rattle.rx_kept.proofs.Resources.{opening_declared, opening_kept}

-- no list stands for no tree
no_tree : (current : Shape Fiber) → current ≡ none → IsTreeOf None current
no_tree current same = subst (λ s. IsTreeOf None s) (sym same) (gap no_more)

opening_reached : (p : Program) → IsReached p opening
opening_reached p = start-reached p

-- a root before its first render
abbrev pub opening_root : Rendering → Shown → Schedule → List Kept → Event → Lanes → Rooted
opening_root rd shown schedule kept event later =
    record {
      rendering = rd;
      shown = shown;
      schedule = schedule;
      commits = 0;
      updates = 0;
      resolutions = 0;
      resources = kept;
      now = 0;
      event = event;
      numbers = record { instance = 1; host = 1 };
      later = later;
    }

-- it stands for the opening state
pub opening_stands : (p : Program) (rd : Rendering) (shown : Shown) (schedule : Schedule) (kept : List Kept) (event : Event) (later : Lanes) → rd.program ≡ p → rd.trees.current ≡ none → rd.seen ≡ 0
    → KeepsAllHooks rd.program opening (kept_hooks rd.hooks) → HasNoRender rd → Shows None no_passive shown → schedule ≡ opening_schedule → kept ≡ replicate (length (resources p)) kept_of.opening → event ≡ no_event → LinksBelow opening
    → Stands p opening (opening_root rd shown schedule kept event later)
opening_stands p rd shown schedule kept event later same current seen keeps idle shows first are ends below =
    record {
      reached = opening_reached p;
      program = same;
      current = no_tree rd.trees.current current;
      seen = seen;
      numbered = (None, no_tree rd.trees.current current, tt);
      keeps = subst (λ q. KeepsAllHooks q opening (kept_hooks rd.hooks)) same keeps;
      below = below;
      shows = shows;
      schedule = first;
      commits = refl;
      updates = refl;
      resolutions = refl;
      resources = subst (KeepsResources p opening.journal opening.linked) (sym are) (opening_kept p);
      now = refl;
      event = ends;
      numbers = refl;
      declared = opening_declared p;
      progress = idle;
    }
