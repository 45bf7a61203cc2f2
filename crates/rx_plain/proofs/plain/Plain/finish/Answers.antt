use Rattle.std.proofs.Common.{◌∙◌, Some, ap, sym, subst}
use Rattle.std.proofs.lemmas.Result.{on_ok_weaker}
use Rattle.rx_plain.specs.Plained.{Plained}
use Rattle.rx_plain.specs.Stands.{StandsWith}
use Rattle.rx_plain.proofs.Committing.{leaves_same}
use Rattle.rx_plain.specs.contracts.plain.Plain.{the_view}
use Rattle.rx_plain.proofs.plain.Plain.finish.Goals as goal

pub end_render-requires-clause-at_end : goal.end_render-requires-clause-at_end
end_render-requires-clause-at_end c =
    let p = c.args.checked.now in
    let e = c.requires.at_end in
    let taken = sym c.take.ensures.value ∙ c.in-Some.is in
    let same = sym c.self.view_is ∙ (λ i. record (the_view c.self.inside) { going = taken i }) in
    record {
      state = e.state;
      progress = e.progress;
      gives = e.gives;
      stands = subst (λ (w : Plained). StandsWith p e.state (Some e.progress) w) same e.stands;
      rendered = e.rendered;
      is = c.in_ok-next.ensures ∙ e.is;
    }

pub returns-clause-done : goal.returns-clause-done
returns-clause-done c =
    on_ok_weaker c.end_render.result
    (λ done s g x h gives is reached.
    let p = c.args.checked.now in
    let taken = sym c.take.ensures.value ∙ c.in-Some.is in
    let same = sym c.self.view_is ∙ (λ i. record (the_view c.self.inside) { going = taken i }) in
    done s g x (subst (λ (w : Plained). StandsWith p s (Some g) w) same h) gives (c.in_ok-next.ensures ∙ is) reached)
    c.end_render.ensures.done

pub returns-clause-leaves : goal.returns-clause-leaves
returns-clause-leaves c =
    on_ok_weaker c.end_render.result
    (leaves_same c.args.self.now _ c.end_render.new.self (ap (λ (w : Plained). w.numbers) c.self.view_is) (ap (λ (w : Plained). w.commits) c.self.view_is) (ap (λ (w : Plained). w.updates) c.self.view_is) (ap (λ (w : Plained). w.resolutions) c.self.view_is))
    c.end_render.ensures.leaves
