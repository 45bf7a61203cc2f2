use Rattle.rx_accept.proofs.BadScripts.{bad-judged}
use Rattle.rx_accept.proofs.accepting.judge.Goals as goal

pub returns-in_ok-script_line-in-Err-read_script-clause-judged : goal.returns-in_ok-script_line-in-Err-read_script-clause-judged
returns-in_ok-script_line-in-Err-read_script-clause-judged c =
    bad-judged (record { program = c.args.text.now; script = c.args.script.now }) c.in-Ok.checked c.in-Err-read_script.error c.in_ok-script_line-in-Err-read_script.field-0.items
    c.in-Ok.ensures c.in-Err-read_script.ensures.read c.in_ok-script_line-in-Err-read_script.ensures
