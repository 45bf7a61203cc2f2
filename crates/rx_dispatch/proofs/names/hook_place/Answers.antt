use Rattle.std.proofs.Common.{◌<◌, ap, sym, ◌∙◌, subst, length, ℕ}
use Rattle.std.specs.Prelude.{option_map, unwrap_or}
use Rattle.rx_base.specs.Values.{Name}
use Rattle.rx_check.specs.Tables.{hook_named}
use Rattle.rx_model.specs.State.{hooks_at}
use Rattle.rx_dispatch.specs.Kinds.{number_in}
use Rattle.rx_dispatch.proofs.Named.{number-named, place-below}
use Rattle.rx_dispatch.proofs.names.hook_place.Goals as goal

pub returns-in-Some-clause-number : goal.returns-in-Some-clause-number
returns-in-Some-clause-number c =
    let p = c.args.checked.now in
    let found = sym c.in-Some.is ∙ c.hook.ensures ∙ ap (λ (n : Name). hook_named p c.args.component n) c.text.ensures in
    c.number_in.ensures ∙ ap (λ o. unwrap_or (option_map number_in o) 0) found ∙ number-named p c.args.component c.args.name.now

pub returns-in-Some-clause-below : goal.returns-in-Some-clause-below
returns-in-Some-clause-below c = λ known.
    let P : ℕ → Type 0 = λ n. n < length (hooks_at c.args.checked.now c.args.component) in
    subst P (sym (returns-in-Some-clause-number c)) (place-below (hooks_at c.args.checked.now c.args.component) c.args.name.now known)

pub returns-in-None-clause-number : goal.returns-in-None-clause-number
returns-in-None-clause-number c =
    let p = c.args.checked.now in
    let found = sym c.in-None.is ∙ c.hook.ensures ∙ ap (λ (n : Name). hook_named p c.args.component n) c.text.ensures in
    ap (λ o. unwrap_or (option_map number_in o) 0) found ∙ number-named p c.args.component c.args.name.now

pub returns-in-None-clause-below : goal.returns-in-None-clause-below
returns-in-None-clause-below c = λ known.
    let P : ℕ → Type 0 = λ n. n < length (hooks_at c.args.checked.now c.args.component) in
    subst P (sym (returns-in-None-clause-number c)) (place-below (hooks_at c.args.checked.now c.args.component) c.args.name.now known)
