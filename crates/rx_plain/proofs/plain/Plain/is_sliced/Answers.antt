use Rattle.std.proofs.Common.{◌∙◌, Option, ap, sym, subst}
use Rattle.rx_sched.specs.Schedule.{is_sliced}
use Rattle.rx_plain.specs.Plained.{Going, Plained}
use Rattle.rx_plain.specs.Stands.{HasProgress}
use Rattle.std.specs.Prelude.{Some}
use Rattle.rx_plain.proofs.plain.Plain.is_sliced.Goals as goal

pub returns-in-Some : goal.returns-in-Some
returns-in-Some c p s g h =
    let going = sym (ap (λ (v : Plained). v.going) c.self.view_is) ∙ c.in-Some.is in
    let on = subst (λ (o : Option Going). HasProgress p s (Some g) o) going h.progress in
    let schedule = ap (λ (v : Plained). v.schedule) c.self.view_is ∙ h.schedule in
    let now = ap (λ (v : Plained). v.now) c.self.view_is ∙ h.now in
    c.sliced.ensures ∙ (λ i. is_sliced (schedule i) ((ap (λ (x : Going). x.lanes) c.going.view_is ∙ on.lanes) i) (now i))

pub returns-in-None : goal.returns-in-None
returns-in-None c p s g h =
    let going = sym (ap (λ (v : Plained). v.going) c.self.view_is) ∙ c.in-None.is in
    absurd (subst (λ (o : Option Going). HasProgress p s (Some g) o) going h.progress)
