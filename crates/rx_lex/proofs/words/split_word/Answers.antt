use Rattle.std.proofs.Common.{◌≡◌, take, drop, subst}
use Rattle.std.specs.Str.{IsCharBoundary}
use Rattle.std.specs.List.{prefix_len}
use Rattle.rx_lex.specs.Tokens.{is_word_byte, IsRun, IsRunEnd}
use Rattle.rx_lex.proofs.Runs.{run_front, run_rest, ascii_run_ends, word_is_ascii}
use Rattle.rx_lex.proofs.words.split_word.Goals as goal

pub split_at-requires : goal.split_at-requires
split_at-requires c =
    let len : prefix_len is_word_byte c.args.text.now ≡ c.word_len.result = cc in
    subst (IsCharBoundary c.args.text.now) len (ascii_run_ends is_word_byte word_is_ascii c.args.text.now c.utf8.text)

pub returns-clause-run : goal.returns-clause-run
returns-clause-run c =
    let front : take (prefix_len is_word_byte c.args.text.now) c.args.text.now ≡ c.split_at.result.0.now = cc in
    subst (IsRun is_word_byte) front (run_front is_word_byte c.args.text.now)

pub returns-clause-end : goal.returns-clause-end
returns-clause-end c =
    let rest : drop (prefix_len is_word_byte c.args.text.now) c.args.text.now ≡ c.split_at.result.1.now = cc in
    subst (IsRunEnd is_word_byte) rest (run_rest is_word_byte c.args.text.now)
