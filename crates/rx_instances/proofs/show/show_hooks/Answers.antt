use Rattle.std.proofs.Common.{◌∙◌}
use Rattle.std.proofs.lemmas.Result.{on_ok_weaker}
use Rattle.rx_instances.proofs.show.show_hooks.Goals as goal

pub show_hooks-requires : goal.show_hooks-requires
show_hooks-requires c =
    let s = c.requires.keeps.0 in
    (s, record { are = c.deref.ensures.value ∙ c.in_ok-all.ensures s.tree c.requires.keeps.1.0; keeps = c.requires.keeps.1.1 })

pub returns-clause-ok : goal.returns-clause-ok
returns-clause-ok c =
    on_ok_weaker c.show_hooks.result
    (λ ok s stands keeps. ok s (record { are = c.deref.ensures.value ∙ c.in_ok-all.ensures s.tree stands; keeps = keeps }))
    c.show_hooks.ensures.ok
