-- Lines behind those of a report.
use Rattle.std.proofs.Common.{◌≡◌, List, [], ◌∷◌, ◌++◌, sym, ap, ◌∙◌, append_assoc}
use Rattle.std.proofs.lemmas.List.{append-nil}
use Rattle.std.proofs.lemmas.Grind.{flat_map-append}
use Rattle.rx_base.specs.Values.{Text}
use Rattle.rx_lines.specs.Lines.{Line, Options, Written, line_bytes, report_bytes, with_line}
use Rattle.rx_writing.specs.Written.{with_lines}

with_bytes : Written → Text → Written
with_bytes r bytes = record { options = r.options; bytes = bytes }

-- no line more
pub with_none : (r : Written) → with_lines r [] ≡ r
unfolding report_bytes
with_none r = ap (λ (bytes : Text). record { options = r.options; bytes = bytes }) (append-nil r.bytes)

-- one line more
pub with_one : (r : Written) (l : Line) → with_line r l ≡ with_lines r (l ∷ [])
unfolding report_bytes
with_one r l = ap (λ (bytes : Text). record { options = r.options; bytes = r.bytes ++ bytes }) (sym (append-nil (line_bytes r.options l)))

bytes_both : (o : Options) (first rest : List Line) → report_bytes o (first ++ rest) ≡ report_bytes o first ++ report_bytes o rest
unfolding report_bytes
bytes_both o first rest = flat_map-append (line_bytes o) first rest

-- lines and those behind them
pub with_both : (r : Written) (first rest : List Line) → with_lines (with_lines r first) rest ≡ with_lines r (first ++ rest)
with_both r first rest =
    ap (λ (bytes : Text). record { options = r.options; bytes = bytes })
    (append_assoc r.bytes (report_bytes r.options first) (report_bytes r.options rest) ∙ ap (λ (bytes : Text). r.bytes ++ bytes) (sym (bytes_both r.options first rest)))
