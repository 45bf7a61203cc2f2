use Rattle.std.proofs.Common.{◌∙◌, Option, ap, sym, subst}
use Rattle.std.specs.Option.{option_copied}
use Rattle.std.proofs.lemmas.Result.{on_ok_weaker}
use Rattle.rx_elem.specs.Trees.{Node}
use Rattle.rx_hook_store.specs.Store as hooks
use Rattle.rx_hook_store.specs.Store.{kept_hooks}
use Rattle.rx_settle.specs.Settling.{CanSettle, IsSettlingOf}
use Rattle.rx_plain.specs.Plained.{Going, Plained}
use Rattle.rx_plain.proofs.plain.Plain.settle.Goals as goal

pub settle_all-requires : goal.settle_all-requires
settle_all-requires c =
    let x = c.args.going.now in
    let tree = c.as_ref-old.ensures.value ∙ ap (λ (w : Plained). w.tree) c.self.view_is in
    subst (λ (y : Going). CanSettle c.args.checked.now (kept_hooks c.self.inside.hooks) (option_copied c.as_ref-old.result) c.args.next.now c.args.first y.lanes y.cut) (sym c.going.view_is)
    (subst (λ (t : Option Node). CanSettle c.args.checked.now (kept_hooks c.self.inside.hooks) t c.args.next.now c.args.first x.lanes x.cut) (sym tree)
    (subst (λ (k : hooks.Kept). CanSettle c.args.checked.now (kept_hooks k) c.args.self.now.tree c.args.next.now c.args.first x.lanes x.cut) (sym (ap (λ (w : Plained). w.hooks) c.self.view_is)) c.requires))

pub returns-clause-settled : goal.returns-clause-settled
returns-clause-settled c =
    on_ok_weaker c.settle_all.result
    (λ settled s g n is.
    let x = c.args.going.now in
    let tree = c.as_ref-old.ensures.value ∙ ap (λ (w : Plained). w.tree) c.self.view_is in
    settled s g n
    (subst (λ (y : Going). IsSettlingOf c.args.checked.now (kept_hooks c.self.inside.hooks) (option_copied c.as_ref-old.result) c.args.next.now c.args.first y.lanes y.cut s g n) (sym c.going.view_is)
    (subst (λ (t : Option Node). IsSettlingOf c.args.checked.now (kept_hooks c.self.inside.hooks) t c.args.next.now c.args.first x.lanes x.cut s g n) (sym tree)
    (subst (λ (k : hooks.Kept). IsSettlingOf c.args.checked.now (kept_hooks k) c.args.self.now.tree c.args.next.now c.args.first x.lanes x.cut s g n) (sym (ap (λ (w : Plained). w.hooks) c.self.view_is)) is))))
    c.settle_all.ensures.settled
