use Rattle.std.proofs.Common.{◌+◌, take, sym, ap, ◌∙◌, drop-drop}
use Rattle.rx_lex.specs.Spans.{as_text, bytes_at}
use Rattle.rx_lex.proofs.spans.Rest.content.Goals as goal

pub returns : goal.returns
returns c =
    c.text_in.ensures ∙ ap as_text (c.bytes_at.ensures ∙ ap (bytes_at c.args.len (c.args.place + 1)) c.as_bytes.ensures.value ∙ ap (take c.args.len) (sym (drop-drop 1 c.args.place c.args.self.text.now)))
