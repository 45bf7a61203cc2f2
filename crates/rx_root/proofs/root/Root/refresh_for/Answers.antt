use Rattle.std.proofs.Common.{◌≡◌, ◌∙◌, ap, sym, subst, arith, true}
use Rattle.std.specs.Prelude.{bytes_eq, is_some, position}
use Rattle.rx_base.specs.Values.{Name}
use Rattle.rx_rules.specs.Names.{resource_number, resources}
use Rattle.rx_step.specs.Steps.{hook_name}
use Rattle.rx_root.specs.Rooted.{Rooted}
use Rattle.rx_root.proofs.Broken.{any_err}
use Rattle.rx_root.proofs.Dispatches.{refresh_fits}
use Rattle.rx_kept.proofs.Resources.{asked_below}
use Rattle.rx_root.proofs.Taken.{refresh_stands}
use Rattle.rx_model.proofs.Reached.{refreshes-reach}
use Rattle.rx_root.proofs.root.Root.refresh_for.Goals as goal

pub refresh-requires-clause-within : goal.refresh-requires-clause-within
refresh-requires-clause-within c =
    let v = c.args.self.now in
    let fits = subst (λ (n : Name). is_some (position (bytes_eq n) (resources v.rendering.program)) ≡ true) (sym c.dispatch_hook.ensures) (refresh_fits v.rendering.program c.args.dispatch.now c.requires.refresh c.requires.fits) in
    let lt = c.resource-resource.ensures.below fits in
    let all = c.requires.stands.1.resources.all in
    omega (arith, lt, all)

pub refresh-requires-clause-asked : goal.refresh-requires-clause-asked
refresh-requires-clause-asked c =
    let v = c.args.self.now in
    let s = c.requires.stands.0 in
    let h = c.requires.stands.1 in
    let few = c.requires.room.updates in
    let are = h.updates in
    asked_below v.rendering.program s.journal s.linked v.resources c.resource-resource.result _ (refresh-requires-clause-within c) h.resources (omega (arith, few, are))

pub returns-clause-ok : goal.returns-clause-ok
returns-clause-ok c s h =
    let v = c.args.self.now in
    let p = v.rendering.program in
    let d = c.args.dispatch.now in
    let r = c.resource-resource.result in
    let number : r ≡ resource_number p (hook_name d) = c.resource-resource.ensures.number ∙ ap (resource_number p) c.dispatch_hook.ensures in (
      ap (λ (x : Rooted). x.updates) c.self.view_is ∙ h.updates,
      refresh_stands p s d c.dispatch_word.result r c.refresh.new.self c.requires.refresh c.dispatch_word.ensures number
          (c.in_ok-refresh.ensures.ok s h (refreshes-reach p s c.dispatch_word.result r h.reached)),
    )

pub returns-in_err-refresh-clause-err : goal.returns-in_err-refresh-clause-err
returns-in_err-refresh-clause-err c = any_err c.from_residual.result _ c.in_err-refresh.ensures.err
