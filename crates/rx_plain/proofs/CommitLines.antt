-- The lines of a commit.
use Rattle.std.proofs.Common.{◌≡◌, ℤ, false, List, [], ◌∷◌, ◌++◌, map, sym, ap, ◌∙◌}
use Rattle.std.specs.List.{AllByRecursion}
use Rattle.rx_effect.specs.declared.log.LogLine.{LogLine}
use Rattle.rx_forest.specs.declared.op.HostOp.{HostOp}
use Rattle.rx_lines.specs.Lines.{Line, Written, caught, is_printed, logged, operated, with_line}
use Rattle.rx_writing.specs.Written.{with_lines}
use Rattle.rx_writing.proofs.Behind.{not_printed, with_lines-append, with_lines-cons}

-- operations are not printed
unprinted : (r : Written) (ops : List HostOp) → r.options.ops ≡ false → AllByRecursion (λ l. is_printed r.options.ops l ≡ false) (map operated ops)
unprinted r [] e = tt
unprinted r (op ∷ ops) e = (e, unprinted r ops e)

-- a line, then operations that are not printed, then what is caught, and then effects
pub commit-parts : (r a m c : Written) (l : Line) (ops : List HostOp) (vs ws : List ℤ) (log ys : List LogLine) → r.options.ops ≡ false → ws ≡ vs → ys ≡ log → a ≡ with_line r l
    → m ≡ with_lines a (map caught ws) → c ≡ with_lines m (map logged ys) → c ≡ with_lines r (l ∷ (map operated ops ++ (map caught vs ++ map logged log)))
commit-parts r a m c l ops vs ws log ys none v e f q h =
    h
    ∙ ap (λ (ls : List LogLine). with_lines m (map logged ls)) e
    ∙ ap (λ (w : Written). with_lines w (map logged log)) (q ∙ ap (λ (zs : List ℤ). with_lines a (map caught zs)) v)
    ∙ sym (with_lines-append a (map caught vs) (map logged log))
    ∙ ap (λ (w : Written). with_lines w (map caught vs ++ map logged log)) (f ∙ sym (not_printed (with_line r l) (map operated ops) (unprinted (with_line r l) ops none)))
    ∙ sym (with_lines-append (with_line r l) (map operated ops) (map caught vs ++ map logged log))
    ∙ sym (with_lines-cons r l (map operated ops ++ (map caught vs ++ map logged log)))
