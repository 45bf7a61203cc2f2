use Rattle.std.proofs.Common.{◌∙◌, Option, ap, sym, subst}
use Rattle.std.proofs.lemmas.Result.{on_ok_weaker}
use Rattle.rx_elem.specs.Spots.{mounted}
use Rattle.rx_elem.specs.Trees.{Node}
use Rattle.rx_hook_store.specs.Store as hooks
use Rattle.rx_hook_store.specs.Store.{kept_hooks}
use Rattle.rx_model.specs.HooksOf.{KeepsAllHooks}
use Rattle.rx_plain.specs.Plained.{Plained}
use Rattle.rx_plain.proofs.plain.Plain.states.Goals as goal

pub show_hooks-requires : goal.show_hooks-requires
show_hooks-requires c =
    let s = c.requires.0 in
    let h = c.requires.1 in
    let tree = c.as_ref.ensures.value ∙ ap (λ (v : Plained). v.tree) c.self.view_is ∙ h.tree in (
      s,
      record {
        are = c.deref.ensures.value ∙ c.in_ok-all.ensures ∙ ap (λ (t : Option Node). mounted t) tree ∙ c.ends_are_not_read.ensures.mounted s.tree;
        keeps = subst (λ (k : hooks.Kept). KeepsAllHooks c.args.checked.now s (kept_hooks k)) (sym (ap (λ (v : Plained). v.hooks) c.self.view_is)) h.keeps;
      },
    )

pub returns-clause-ok : goal.returns-clause-ok
returns-clause-ok c =
    on_ok_weaker c.show_hooks.result
    (λ ok s h.
    let tree = c.as_ref.ensures.value ∙ ap (λ (v : Plained). v.tree) c.self.view_is ∙ h.tree in
    ok s
    (record {
      are = c.deref.ensures.value ∙ c.in_ok-all.ensures ∙ ap (λ (t : Option Node). mounted t) tree ∙ c.ends_are_not_read.ensures.mounted s.tree;
      keeps = subst (λ (k : hooks.Kept). KeepsAllHooks c.args.checked.now s (kept_hooks k)) (sym (ap (λ (v : Plained). v.hooks) c.self.view_is)) h.keeps;
    }))
    c.show_hooks.ensures.ok
