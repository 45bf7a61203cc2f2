-- Tokens that begin a statement or a declaration.
use Rattle.std.proofs.Common.{◌≡◌, ◌||◌, List, [], ◌∷◌, refl}
use Rattle.rx_lex.specs.declared.token.Keyword.TheVariants as word
use Rattle.rx_lex.specs.declared.token.Kind.{Kind}
use Rattle.rx_grammar.specs.Steps.{next, is_word}
use Rattle.rx_grammar.specs.Reading.{is_statement, is_declaration}

pub statement_next : (ts : List Kind) → next is_statement ts ≡ (next (is_word word.Const) ts || (next (is_word word.ThrowIf) ts || (next (is_word word.UseEffect) ts || next (is_word word.UseLayoutEffect) ts)))
statement_next [] = refl
statement_next (k ∷ ts) = refl

pub declaration_next : (ts : List Kind) → next is_declaration ts ≡ (next (is_word word.Const) ts || next (is_word word.Function) ts)
declaration_next [] = refl
declaration_next (k ∷ ts) = refl
