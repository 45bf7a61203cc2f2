use Rattle.std.proofs.Common.{◌∙◌, ap, sym, subst}
use Rattle.std.specs.Option.{option_copied}
use Rattle.std.specs.Prelude.{IsSome}
use Rattle.std.proofs.lemmas.Result.{IfOk-weaker}
use Rattle.rx_meaning.specs.Fresh.{default_contexts, depth_limit, rendered, root_element}
use Rattle.rx_hook_store.specs.Gives.{GivesValues}
use Rattle.rx_hook_store.specs.Store.{kept_hooks}
use Rattle.draw_laws.specs.Drawn.{IsDrawn}
use Rattle.draw_laws.proofs.Known.{root_fits}
use Rattle.draw_laws.proofs.MadeTrees.{old_from}
use Rattle.rx_fresh.proofs.Shapes.{whole}
use Rattle.rx_fresh.proofs.render.fresh.Goals as goal

pub render_place-requires-clause-drawn : goal.render_place-requires-clause-drawn
render_place-requires-clause-drawn g c =
    subst (IsDrawn c.args.shot.now.checked.now) (sym c.in_ok-root.ensures) (root_fits c.args.shot.now.checked.now c.program.ensures.accepted.rooted)

pub render_place-requires-clause-kept : goal.render_place-requires-clause-kept
render_place-requires-clause-kept g c = old_from (λ n initials. IsSome (kept_hooks c.args.hooks.now n)) (option_copied c.args.old) c.requires.kept

pub returns-clause-place : goal.returns-clause-place
returns-clause-place g c =
    IfOk-weaker c.render_place.result _ _ (λ x h s is gives.
    h s is (old_from (λ n initials. GivesValues s (kept_hooks c.args.hooks.now) n initials) (option_copied c.args.old) gives)
    ∙ (λ i. rendered depth_limit s ((c.deref.ensures.value ∙ c.in_ok-contexts.ensures) i) (c.in_ok-root.ensures i) (option_copied c.args.old))
    ∙ ap (λ p. rendered depth_limit s (default_contexts p) (root_element p) (option_copied c.args.old)) (sym is.program)
    ∙ whole s (option_copied c.args.old))
    c.render_place.ensures.place
