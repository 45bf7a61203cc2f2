use Rattle.std.proofs.Common.{◌≡◌, ◌++◌, take, drop, subst, sym, ap, ◌∙◌, take-append-drop}
use Rattle.std.specs.Str.{IsCharBoundary}
use Rattle.std.specs.List.{prefix_len}
use Rattle.rx_lex.specs.Tokens.{is_in_line, IsRunEnd}
use Rattle.rx_lex.proofs.Runs.{run_front, run_rest, run_before_ascii_ends, line_end_is_ascii}
use Rattle.rx_lex.proofs.gaps.after_line.Goals as goal

pub split_at-requires : goal.split_at-requires
split_at-requires c =
    let len : prefix_len is_in_line c.args.text.now ≡ c.line_len.result = cc in
    subst (IsCharBoundary c.args.text.now) len (run_before_ascii_ends is_in_line line_end_is_ascii c.args.text.now)

pub returns : goal.returns
returns c =
    let text = c.args.text.now in
    let rest : drop (prefix_len is_in_line text) text ≡ c.split_at.result.1.now = cc in (
      take (prefix_len is_in_line text) text,
      sym (take-append-drop (prefix_len is_in_line text) text) ∙ ap (λ l. take (prefix_len is_in_line text) text ++ l) rest,
      run_front is_in_line text,
      subst (IsRunEnd is_in_line) rest (run_rest is_in_line text),
    )
