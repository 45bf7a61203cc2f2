use Rattle.std.proofs.Common.{◌∙◌, ◌++◌, ap}
use Rattle.rx_base.specs.Values.{Text}
use Rattle.run_page.specs.Frames.{document}
use Rattle.run_page.proofs.frame.page.Goals as goal

pub returns : goal.returns
returns c =
    let whole : Text = document c.args.input.now c.args.book.now.links c.args.book.now.sections in
    c.in_ok-extend_from_slice.ensures.items ∙ ap (λ (t : Text). c.in_ok-page.page.items ++ t) (c.bytes-2.ensures ∙ c.in_ok-document.ensures) ∙ ap (λ (t : Text). t ++ whole) c.in_ok-page.ensures.items
