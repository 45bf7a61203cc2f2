use Rattle.std.proofs.Common.{◌≡◌, ◌∙◌, ap}
use Rattle.std.proofs.lemmas.List.{take_all}
use Rattle.rx_base.specs.Values.{Text}
use Rattle.rx_page.specs.Escaping.{escaped, has_mark, shown}
use Rattle.rx_page.proofs.Back.{escaped-unmarked, escaped-shown}
use Rattle.rx_page.proofs.escaping.escape.Goals as goal

pub returns-clause-unmarked : goal.returns-clause-unmarked
returns-clause-unmarked c =
    let whole : c.bytes.html.items ≡ escaped c.args.text.now = c.bytes.invariant ∙ ap (λ (t : Text). escaped t) (take_all _ _ c.bytes-test.false) in
    ap (λ (t : Text). has_mark t) whole ∙ escaped-unmarked c.args.text.now

pub returns-clause-back : goal.returns-clause-back
returns-clause-back c =
    let whole : c.bytes.html.items ≡ escaped c.args.text.now = c.bytes.invariant ∙ ap (λ (t : Text). escaped t) (take_all _ _ c.bytes-test.false) in
    ap (λ (t : Text). shown t) whole ∙ escaped-shown c.args.text.now
