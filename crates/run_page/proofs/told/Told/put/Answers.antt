use Rattle.std.proofs.Common.{◌≡◌, ◌∙◌, ◌++◌, sym, subst}
use Rattle.std.specs.Prelude.{OnOk}
use Rattle.std.specs.Cmp.Lexicographic.{same_text}
use Rattle.rx_base.specs.Values.{Text}
use Rattle.run_page.specs.Told.{Told, PutsChanged, PutsTold, same_pane}
use Rattle.run_page.proofs.Puts.{on-ok}
use Rattle.run_page.proofs.Telling.{told-same, told-changed}
use Rattle.run_page.proofs.told.Told.put.Goals as goal

pub returns-then-eq : goal.returns-then-eq
returns-then-eq c =
    let inside : Told = record { text = c.self.inside.text.items; step = c.self.inside.step } in
    let same : c.args.text.now ≡ inside.text = same_text _ _ (sym c.if-eq.true ∙ c.eq.ensures) ∙ c.as_slice.ensures.value in
    subst (λ (t : Told). OnOk c.put_same.result (PutsTold c.args.kind.now c.args.caption.now c.args.number c.args.text.now t t c.args.html.now c.put_same.new.html)) c.self.view_is
    (on-ok c.put_same.result (c.put_same.new.html ≡ c.args.html.now ++ same_pane c.args.kind.now c.args.caption.now inside.step)
    (PutsTold c.args.kind.now c.args.caption.now c.args.number c.args.text.now inside inside c.args.html.now c.put_same.new.html)
    (λ is. told-same c.args.kind.now c.args.caption.now c.args.number c.args.text.now inside c.args.html.now c.put_same.new.html same is)
    c.put_same.ensures)

pub returns : goal.returns
returns c =
    let inside : Told = record { text = c.self.inside.text.items; step = c.self.inside.step } in
    let text : Text = c.args.text.now in
    let puts : PutsChanged c.args.kind.now c.args.caption.now inside.text text c.args.html.now c.put_changed.new.html =
    subst (λ (t : Text). PutsChanged c.args.kind.now c.args.caption.now t text c.args.html.now c.put_changed.new.html) c.deref.ensures.value c.in_ok-put_changed.ensures in
    subst (λ (t : Told). PutsTold c.args.kind.now c.args.caption.now c.args.number text t (record { text = c.in_ok-told.told.items; step = c.args.number }) c.args.html.now c.put_changed.new.html) c.self.view_is
    (subst (λ (t : Text). PutsTold c.args.kind.now c.args.caption.now c.args.number text inside (record { text = t; step = c.args.number }) c.args.html.now c.put_changed.new.html) (sym c.in_ok-told.ensures.items)
    (told-changed c.args.kind.now c.args.caption.now c.args.number text inside c.args.html.now c.put_changed.new.html puts))
