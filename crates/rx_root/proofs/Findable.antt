-- In the tree that is committed each instance has a number of its own.
use Rattle.std.proofs.Common.{◌≡◌, Option, Some, None, refl, sym, ap}
use Rattle.std.specs.Prelude.{option_map}
use Rattle.std.proofs.lemmas.Option.{none-some, same_Some}
use Rattle.rx_ast.specs.Syntax.{Program}
use Rattle.rx_elem.specs.Spots.{Mounted}
use Rattle.commit_laws.specs.HiddenWaits.{IfNumbered}
use Rattle.rx_meaning.specs.Settled.{HasOwnNumbers}
use Rattle.rx_model.specs.State.{State}
use Rattle.rx_model.specs.Laws.{IsBounded, IsReached}
use Rattle.rx_instances.specs.declared.find.Found.{Found}
use Rattle.rx_instances.specs.Nearest.{Told, found_as}
use Rattle.rx_instances.specs.NearFibers.{told_in}
use Rattle.run_laws.proofs.AlongRuns.{reached_carries}

-- in each state that a run comes to
pub state_numbered : (p : Program) → IsBounded p → (s : State) → IsReached p s → IfNumbered s.tree × HasOwnNumbers s.numbers.instance s.tree
state_numbered p bounded s reached =
    let carried = reached_carries p bounded.shallow bounded.declared s reached in (carried.2.numbered, carried.2.sound.own_numbers)

-- what is told of an instance that was found is told of the one that a path leads to
pub found_one : (o : Option Mounted) (f : Found) → Some (told_in f) ≡ option_map found_as o → (m : Mounted) × (o ≡ Some m) × (f.number ≡ m.number) × (f.component ≡ m.component)
found_one None f is = absurd (none-some (told_in f) (sym is))
found_one (Some m) f is = let same = same_Some (told_in f) (found_as m) is in (m, refl, ap (λ (g : Told). g.number) same, ap (λ (g : Told). g.component) same)

pub found_none : (o : Option Mounted) → None ≡ option_map found_as o → o ≡ None
found_none None is = refl
found_none (Some m) is = absurd (none-some (found_as m) is)
