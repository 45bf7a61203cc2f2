-- What is written begins a program.
use Rattle.std.proofs.Common.{◌≡◌, ℕ, List, [], ◌∷◌, ◌++◌, take, drop, sym, ap, ◌∙◌, append_assoc, take-append-drop}
use Rattle.rx_lex.specs.declared.token.Kind.{Kind}
use Rattle.rx_lex.specs.declared.token.Kind.TheVariants.{End}
use Rattle.rx_ast.specs.Syntax.{Program}
use Rattle.rx_print.specs.Printing.{program_tokens}
use Rattle.rx_print.specs.Levels.{IsGrammatical, BeginsProgram}

-- a part of a program's tokens from their front
pub begins_program : (p : Program) (ks : List Kind) → ks ≡ program_tokens p → IsGrammatical p → (n : ℕ) → BeginsProgram (take n ks)
begins_program p ks e h n =
    let whole = take-append-drop n ks in
    (p, drop n ks ++ End ∷ [], h, ap (λ l. l ++ End ∷ []) (sym e ∙ sym whole) ∙ append_assoc (take n ks) (drop n ks) (End ∷ []))
