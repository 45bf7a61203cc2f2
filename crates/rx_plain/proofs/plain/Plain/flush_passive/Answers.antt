use Rattle.std.proofs.Common.{◌∙◌, ap, map}
use Rattle.rx_effect.specs.EffectLog.{passive_log}
use Rattle.rx_lines.specs.Lines.{logged}
use Rattle.rx_writing.specs.Written.{with_lines}
use Rattle.rx_plain.specs.Plained.{Plained}
use Rattle.rx_plain.proofs.plain.Plain.flush_passive.Goals as goal

pub returns-clause-written : goal.returns-clause-written
returns-clause-written c = c.in_ok-add_lines.ensures.written ∙ ap (λ (v : Plained). with_lines c.args.log.now (map logged (passive_log v.passive))) c.self.view_is
