use Rattle.rx_script.proofs.Forms.{five-words, six-words, more-words}
use Rattle.rx_script.proofs.form.read_form.Goals as goal

pub returns-in_ok-place-in-len5-clause-read : goal.returns-in_ok-place-in-len5-clause-read
returns-in_ok-place-in-len5-clause-read c =
    five-words c.args.paths.now c.args.words.now _ _ _ _ _ c.in_ok-place-in-len5.place _ c.in-len5.len_at_least c.in-len5.len_below c.in_ok-place-in-len5.ensures.read c.value_line.ensures

pub returns-in_ok-lower-in-len6-clause-read : goal.returns-in_ok-lower-in-len6-clause-read
returns-in_ok-lower-in-len6-clause-read c =
    six-words c.args.paths.now c.args.words.now _ _ _ _ _ _ c.in_ok-place-in-len6.place c.in_ok-lower-in-len6.field-0 _ c.in-len6.len_at_least c.in-len6.len_below c.in_ok-place-in-len6.ensures.read c.in_ok-lower-in-len6.ensures c.call_line.ensures

pub returns-in_default-clause-read : goal.returns-in_default-clause-read
returns-in_default-clause-read c = more-words c.args.paths.now c.args.words.now c.in_default.len_at_least
