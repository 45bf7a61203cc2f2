-- The first render of a program without resources can start.
use Rattle.std.specs.Prelude.{◌≡◌, false, [], None, refl}
use Rattle.std.proofs.Common.{sym, subst, arith}
use Rattle.rx_base.specs.declared.cut.Cut.{Cut}
use Rattle.rx_lane.specs.Lanes.{Lanes}
use Rattle.rx_rules.specs.Names.{resources}
use Rattle.rx_lists.specs.Shapes.{none}
use Rattle.rx_model.specs.State.{opening}
use Rattle.rx_model.specs.HooksOf.{KeepsAllHooks}
use Rattle.rx_fiber.specs.Reading.{IsTreeOf, gap, no_more}
use Rattle.rx_hook_store.specs.Store.{kept_hooks}
use Rattle.rx_render.specs.Rendering.{Rendering}
use Rattle.rx_resources.specs.Seen.{Resources}
use Rattle.rx_render.specs.Renders.{CanStart}

pub first_starts : (lanes : Lanes) (cut : Cut) (seen : Resources) (v : Rendering) → v.trees.current ≡ none → KeepsAllHooks v.program opening (kept_hooks v.hooks) → v.seen ≡ 0
    → resources v.program ≡ [] → cut ≡ record { updates = 0; resolutions = 0 } → seen ≡ record { versions = []; values = []; refreshes = false } → CanStart lanes cut seen v
first_starts lanes cut seen v current keeps none_seen no_resources at empty =
    record {
      state = opening;
      is = record {
        current = subst (IsTreeOf None) (sym current) (gap no_more);
        keeps = keeps;
        done = tt;
        cut_is = at;
        seen = none_seen;
        resources_are = rw (empty, no_resources) refl;
        declared = λ r late. refl;
        settled = tt;
        rooted = tt;
        waits = tt;
        reads = tt;
        numbered = tt;
        apart = (0, λ n. (omega arith, λ h. refl));
      };
    }
