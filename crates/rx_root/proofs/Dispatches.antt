-- What a dispatch promises, by what it is for.
use Rattle.std.proofs.Common.{◌≡◌, true, Result, Ok, Err, subst}
use Rattle.std.specs.Prelude.{◌↔◌, IsErrOf, OnErr, bytes_eq, is_some, position}
use Rattle.rx_ast.specs.Syntax.{Program}
use Rattle.rx_rules.specs.Names.{resources}
use Rattle.rx_step.specs.declared.step.Dispatch.{Dispatch}
use Rattle.rx_step.specs.declared.step.Dispatch.TheVariants as dispatch
use Rattle.rx_step.specs.declared.step.Step.TheVariants as step
use Rattle.rx_step.specs.Steps.{hook_name}
use Rattle.rx_dispatch.specs.Kinds.{is_refresh}
use Rattle.rx_model.specs.State.{State}
use Rattle.rx_model.specs.Accepting.{within}
use Rattle.rx_root.specs.declared.errors.DispatchError.{DispatchError}
use Rattle.rx_root.specs.declared.errors.DispatchError.TheVariants.{NoInstance, OutOfMemory}
use Rattle.rx_root.specs.Rooted.{Rooted}
use Rattle.rx_root.specs.Stands.{Stands}
use Rattle.rx_root.specs.Taking.{HasNoInstance}
use Rattle.rx_kept.specs.Taking.{CanTake}
use Rattle.rx_root.proofs.Taken.{none_within}

-- a refresh only fails if out of memory
pub not_no_instance : {T : Type 0} (r : Result T DispatchError) → OnErr r (r ≡ Err OutOfMemory) → IsErrOf r NoInstance → ⊥
not_no_instance (Ok x) h is = cc
not_no_instance (Err e) h is = cc

-- a refresh that can be taken is one of a resource of the program
pub refresh_fits : (p : Program) (d : Dispatch) → is_refresh d ≡ true → CanTake p (step.Dispatch d) → is_some (position (bytes_eq (hook_name d)) (resources p)) ≡ true
refresh_fits p (dispatch.Set w path name x) e can = absurd (cc e)
refresh_fits p (dispatch.Call w path name f x) e can = absurd (cc e)
refresh_fits p (dispatch.Send w path name x) e can = absurd (cc e)
refresh_fits p (dispatch.Start w path name) e can = absurd (cc e)
refresh_fits p (dispatch.Refresh w name) e can = can.0

-- what is told of an instance that is not there holds of the state before the event of the dispatch too
pub none_before : {T : Type 0} (r : Result T DispatchError) (p : Program) (s : State) (d : Dispatch) (w : Rooted) → Stands p (within d s) w → w.rendering.program ≡ p
    → ((t : State) → Stands w.rendering.program t w → IsErrOf r NoInstance ↔ HasNoInstance w.rendering.program t d) → IsErrOf r NoInstance ↔ HasNoInstance p s d
none_before r p s d w h same told =
    subst (λ (A : Type 0). IsErrOf r NoInstance ↔ A) (none_within p s d)
    (subst (λ (q : Program). (t : State) → Stands q t w → IsErrOf r NoInstance ↔ HasNoInstance q t d) same told (within d s) h)
