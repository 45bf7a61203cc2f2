use Rattle.std.proofs.Common.{◌∙◌, sym}
use Rattle.rx_script.specs.Lines.{◌◂◌, lane_of, refresh_form, resolve_form}
use Rattle.rx_script.specs.Words.{integer_of, resource_of}
use Rattle.rx_script.proofs.Forms.{first-of-three, second-of-three}
use Rattle.rx_script.proofs.form.three_words.Goals as goal

pub returns-in-Some : goal.returns-in-Some
returns-in-Some c = λ p.
    first-of-three p (resolve_form c.args.word.now ◂ resource_of c.args.second.now ◂ integer_of c.args.third.now)
    (refresh_form c.args.word.now ◂ lane_of c.args.second.now ◂ resource_of c.args.third.now)
    c.in-Some.form (sym c.in-Some.is ∙ c.in_ok-form.ensures p)

pub returns-in-None : goal.returns-in-None
returns-in-None c =
    second-of-three (resolve_form c.args.word.now ◂ resource_of c.args.second.now ◂ integer_of c.args.third.now)
    (refresh_form c.args.word.now ◂ lane_of c.args.second.now ◂ resource_of c.args.third.now)
    c.refresh_line.result (λ p. sym c.in-None.is ∙ c.in_ok-form.ensures p) c.refresh_line.ensures
