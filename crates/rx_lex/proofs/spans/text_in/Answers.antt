use Rattle.std.proofs.Common.{sym, ◌∙◌}
use Rattle.rx_lex.proofs.Cuts.{as_text_is, as_text_none}
use Rattle.rx_lex.proofs.spans.text_in.Goals as goal

pub returns-in-Ok : goal.returns-in-Ok
returns-in-Ok c = let r = c.in-Ok.ensures.cases in r.0 ∙ sym (as_text_is c.args.bytes.now r.1)

pub returns-in-Err : goal.returns-in-Err
returns-in-Err c = let r = c.in-Err.ensures.cases in sym (as_text_none c.args.bytes.now r.0)
