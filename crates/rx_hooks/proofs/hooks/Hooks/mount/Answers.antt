use Rattle.std.proofs.Common.{◌≡◌, ◌+◌, ◌++◌, ◌∷◌, [], ◌∙◌, List, ap, length, map, refl, subst, sym, take, ℤ}
use Rattle.std.proofs.lemmas.List.{length-map, map-append, take_all, take_more}
use Rattle.rx_hooks.specs.declared.hook.Hook.{Hook}
use Rattle.rx_queue.specs.History.{Answers}
use Rattle.rx_hooks.specs.Hooks.{HookHistory, HookStandsFor, HooksStandFor, mounted}
use Rattle.rx_hooks.proofs.Lists.{stand-length, stand-push}
use Rattle.rx_hooks.proofs.hooks.Hooks.mount.Goals as goal

pub mounting-preserved : goal.mounting-preserved
mounting-preserved c answers =
    let initials = c.args.initials.now in
    let i = c.mounting.initial-index in
    let x = c.initial-item.result in
    let hook : Hook = record { queue = c.new.result; processed = record { value = x; base = x }; linked = c.none.result } in
    let one : HookStandsFor answers hook (mounted x) = record {
      queue_is = c.new.ensures answers;
      last_is = record { value_is = refl; base_is = refl; done_included = tt };
      linked_is = c.none.ensures;
    } in
    let more : map mounted (take i initials) ++ mounted x ∷ [] ≡ map mounted (take (i + 1) initials) =
    ap (λ (y : ℤ). map mounted (take i initials) ++ mounted y ∷ []) c.initial-item.is
    ∙ sym (ap (λ (l : List ℤ). map mounted l) (take_more initials i x c.mounting-test.true) ∙ map-append mounted (take i initials) _) in
    subst (λ (l : List Hook). HooksStandFor answers l (map mounted (take (i + 1) initials))) (sym c.in_ok-push.ensures.items)
    (subst (λ (l : List HookHistory). HooksStandFor answers (c.mounting.hooks.items ++ hook ∷ []) l) more
    (stand-push answers c.mounting.hooks.items (map mounted (take i initials)) hook (mounted x) (c.mounting.invariant answers) one))

pub returns-clause-count : goal.returns-clause-count
returns-clause-count c =
    let initials = c.args.initials.now in
    let i = c.mounting.initial-index in
    let answers : Answers = λ f state x. state in
    sym (stand-length answers c.mounting.hooks.items (map mounted (take i initials)) (c.mounting.invariant answers))
    ∙ length-map (take i initials) mounted ∙ ap (λ (l : List ℤ). length l) (take_all i initials c.mounting-test.false)
