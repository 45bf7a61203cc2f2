use Rattle.std.proofs.Common.{◌≡◌, ◌∙◌, ap, sym, subst, arith, true}
use Rattle.std.specs.Prelude.{bytes_eq, is_some, position}
use Rattle.std.proofs.lemmas.Result.{on_ok_weaker}
use Rattle.rx_base.specs.Values.{Name}
use Rattle.rx_rules.specs.Names.{resource_number, resources}
use Rattle.rx_step.specs.Steps.{hook_name}
use Rattle.rx_model.specs.Stretch.{Stretch}
use Rattle.rx_model.proofs.Reached.{refreshes-reach}
use Rattle.rx_plain.specs.Plained.{Plained}
use Rattle.rx_plain.specs.Stands.{StandsFor}
use Rattle.rx_kept.proofs.Resources.{asked_below}
use Rattle.rx_plain.proofs.Sending.{refresh_fits, refresh_step, room_left}
use Rattle.rx_plain.proofs.plain.Plain.refresh_for.Goals as goal

pub refresh-requires-clause-within : goal.refresh-requires-clause-within
refresh-requires-clause-within c =
    let p = c.args.checked.now in
    let fits = subst (λ (n : Name). is_some (position (bytes_eq n) (resources p)) ≡ true) (sym c.dispatch_hook.ensures) (refresh_fits p c.args.dispatch.now c.requires.refresh c.requires.fits) in
    let lt = c.resource_number-resource.ensures.below fits in
    let all = c.requires.stands.1.resources.all in
    omega (arith, lt, all)

pub refresh-requires-clause-asked : goal.refresh-requires-clause-asked
refresh-requires-clause-asked c =
    let v = c.args.self.now in
    let s = c.requires.stands.0 in
    let h = c.requires.stands.1 in
    let few = c.requires.room.updates in
    let are = h.updates in
    asked_below c.args.checked.now s.journal s.linked v.resources c.resource_number-resource.result _ (refresh-requires-clause-within c) h.resources (omega (arith, few, are))

pub returns-clause-ok : goal.returns-clause-ok
returns-clause-ok c =
    on_ok_weaker c.refresh.result
    (λ ok s h.
    let p = c.args.checked.now in
    let d = c.args.dispatch.now in
    let r = c.resource_number-resource.result in
    let number : r ≡ resource_number p (hook_name d) = c.resource_number-resource.ensures.number ∙ ap (resource_number p) c.dispatch_hook.ensures in
    subst (λ (x : Stretch). StandsFor p x.after c.refresh.new.self) (refresh_step p s d c.dispatch_word.result r c.requires.refresh c.dispatch_word.ensures number)
    (ok p s h (refreshes-reach p s c.dispatch_word.result r h.reached)))
    c.refresh.ensures.ok

pub returns-clause-left : goal.returns-clause-left
returns-clause-left c =
    on_ok_weaker c.refresh.result
    (λ is k. room_left c.args.self.now c.refresh.new.self 1 (omega arith) (ap (λ (v : Plained). v.updates) is) (ap (λ (v : Plained). v.resolutions) is) (ap (λ (v : Plained). v.commits) is) (ap (λ (v : Plained). v.numbers) is) k)
    c.refresh.ensures.rest
