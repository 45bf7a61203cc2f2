-- What a new tree changes beside the old one, as plain data.
use Rattle.std.specs.Prelude.{ℕ, ℤ, Bool, List, [], ◌++◌, Option, None, filter_map, if◌then◌else◌}
use Rattle.rx_base.specs.Awaits.{Awaits}
use Rattle.rx_elem.specs.Trees.{mark_of, is_hidden}
use Rattle.rx_elem.specs.Compare.{Change, Compared, AllCompared, changes, changes_in}
use Rattle.rx_effect.specs.EffectLog.{Phase, layout, passive, destroyed_by_hiding, destroyed, destroyed_all, created, created_all}
use Rattle.rx_effect.specs.declared.log.LogLine.{LogLine}
use Rattle.rx_forest.specs.HostOps.{placed_hosts}
use Rattle.rx_meaning.specs.Outcome.{caught_anew}
use Rattle.rx_compare.specs.Hidden.{hidden_after}

-- the effects of one kind that are destroyed, and those that are created
pub record Lines : Type 0 where
  pub destroyed : List LogLine
  pub created : List LogLine

-- what is found of a new tree beside the old one: the effects of both kinds, the hosts that are placed, the values that error boundaries catch anew, and what the boundaries wait for that are hidden, if there is one
pub record Found : Type 0 where
  pub layout : Lines
  pub passive : Lines
  pub placed : List ℕ
  pub caught : List ℤ
  pub hidden : Option Awaits

-- no effects
abbrev pub no_lines : Lines
no_lines = record { destroyed = []; created = [] }

-- nothing
abbrev pub nothing_found : Found
nothing_found = record { layout = no_lines; passive = no_lines; placed = []; caught = []; hidden = None }

-- the effects of one kind that a comparison destroys and creates
abbrev pub lines_of : Phase → Compared → Lines
lines_of phase c = record { destroyed = destroyed phase c; created = created phase c }

-- what is found of a comparison
abbrev pub found_in : Compared → Found
found_in c =
    record {
      layout = lines_of layout c;
      passive = lines_of passive c;
      placed = placed_hosts (changes c);
      caught = filter_map caught_anew (changes c);
      hidden = hidden_after None (changes c);
    }

-- effects, with others behind those that are destroyed and behind those that are created
abbrev pub and_lines : Lines → (destroyed created : List LogLine) → Lines
and_lines ls destroyed created = record { destroyed = ls.destroyed ++ destroyed; created = ls.created ++ created }

-- what is found, with what changes tell by themselves
abbrev pub with_changes : List Change → Found → Found
with_changes cs f =
    record {
      layout = f.layout;
      passive = f.passive;
      placed = f.placed ++ placed_hosts cs;
      caught = f.caught ++ filter_map caught_anew cs;
      hidden = hidden_after f.hidden cs;
    }

-- what is found, with effects of each phase that are destroyed and created
abbrev pub with_effects : (destroyed created : Phase → List LogLine) → Found → Found
with_effects destroyed created f =
    record {
      layout = and_lines f.layout (destroyed layout) (created layout);
      passive = and_lines f.passive (destroyed passive) (created passive);
      placed = f.placed;
      caught = f.caught;
      hidden = f.hidden;
    }

-- no effects of any phase
abbrev pub no_effects : Phase → List LogLine
no_effects phase = []

-- effects that are logged, or aren't
abbrev pub logged : (logs : Bool) → (Phase → List LogLine) → Phase → List LogLine
logged logs effects phase = if logs then effects phase else []

-- what a node's children destroy if it hides them
abbrev pub hiding : Change → Phase → List LogLine
hiding c phase = if is_hidden (mark_of c.new) then destroyed_by_hiding phase c.was_visible c.old else []

-- what is found, with that of a node and all below it. What a hidden boundary keeps logs nothing.
abbrev pub with_node : (logs : Bool) → Compared → Found → Found
with_node logs c f = with_effects (logged logs (λ phase. destroyed phase c)) (logged logs (λ phase. created phase c)) (with_changes (changes c) f)

-- the same of the nodes of a list
abbrev pub with_list : (logs : Bool) → AllCompared → Found → Found
with_list logs cs f = with_effects (logged logs (λ phase. destroyed_all phase cs)) (logged logs (λ phase. created_all phase cs)) (with_changes (changes_in cs) f)
