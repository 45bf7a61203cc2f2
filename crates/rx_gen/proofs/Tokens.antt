-- The tokens of the generated program.
use Rattle.std.proofs.Common.{false, ◌≡◌, true, List, [], ◌∷◌, refl, subst, ◌++◌, lit<}
use Rattle.std.specs.Prelude.{codes}
use Rattle.std.specs.Fmt.{digits}
use Rattle.std.specs.Str.{IsUtf8, is_utf8, chars}
use Rattle.std.specs.Char.{encode_utf8}
use Rattle.std.proofs.lemmas.Str.{IsUtf8-from_is_utf8}
use Rattle.rx_base.specs.Values.{Text}
use Rattle.rx_lex.specs.declared.token.Keyword.TheVariants as keyword
use Rattle.rx_lex.specs.declared.token.Sign.TheVariants as sign
use Rattle.rx_lex.specs.declared.token.Kind.TheVariants.{Upper, Lower, Number, Word, Mark, End}
use Rattle.rx_lex.specs.declared.token.Token.{Token}
use Rattle.rx_lex.specs.Tokens.{AreTokensOf, CoversTo, Piece, Between, Meant, Blank, greatest_number, kinds, tokens_from}
use Rattle.rx_print.specs.Levels.{IsGrammatical}
use Rattle.rx_print.specs.Printing.{program_tokens}
use Rattle.rx_accept.specs.Programs.{IsSoundText, ended}
use Rattle.rx_gen.specs.Generated.{program_text}
use Rattle.rx_gen.specs.Meant.{generated_program}
use Rattle.rx_gen.proofs.Covering.{text_of, all_fit, covers}
use Rattle.rx_gen.proofs.Checked.{none_refused}

-- the pieces of the program's text
abbrev pub pieces : List Piece
pieces =
    Meant (Word keyword.Function) ∷ Between (Blank 32) ∷ Meant (Lower (codes "add")) ∷ Meant (Mark sign.OpenParen) ∷ Meant (Lower (codes "s")) ∷ Meant (Mark sign.Comma) ∷ Between (Blank 32) ∷ Meant (Lower (codes "a")) ∷ Meant (Mark sign.CloseParen) ∷ Between (Blank 32) ∷ Meant (Mark sign.OpenBrace) ∷ Between (Blank 32) ∷ Meant (Word keyword.Return) ∷ Between (Blank 32) ∷ Meant (Lower (codes "s")) ∷ Between (Blank 32) ∷ Meant (Mark sign.Plus) ∷ Between (Blank 32) ∷ Meant (Lower (codes "a")) ∷ Meant (Mark sign.Semicolon) ∷ Between (Blank 32) ∷ Meant (Mark sign.CloseBrace) ∷ Between (Blank 10)
    ∷ Meant (Word keyword.Function) ∷ Between (Blank 32) ∷ Meant (Upper (codes "Cell")) ∷ Meant (Mark sign.OpenParen) ∷ Meant (Mark sign.OpenBrace) ∷ Meant (Lower (codes "i")) ∷ Meant (Mark sign.CloseBrace) ∷ Meant (Mark sign.CloseParen) ∷ Between (Blank 32) ∷ Meant (Mark sign.OpenBrace) ∷ Between (Blank 10)
    ∷ Between (Blank 32) ∷ Between (Blank 32) ∷ Meant (Word keyword.Const) ∷ Between (Blank 32) ∷ Meant (Mark sign.OpenBracket) ∷ Meant (Lower (codes "v")) ∷ Meant (Mark sign.Comma) ∷ Between (Blank 32) ∷ Meant (Lower (codes "setV")) ∷ Meant (Mark sign.CloseBracket) ∷ Between (Blank 32) ∷ Meant (Mark sign.Equals) ∷ Between (Blank 32) ∷ Meant (Word keyword.UseState) ∷ Meant (Mark sign.OpenParen) ∷ Meant (Lower (codes "i")) ∷ Meant (Mark sign.CloseParen) ∷ Meant (Mark sign.Semicolon) ∷ Between (Blank 10)
    ∷ Between (Blank 32) ∷ Between (Blank 32) ∷ Meant (Word keyword.Return) ∷ Between (Blank 32) ∷ Meant (Mark sign.Less) ∷ Meant (Lower (codes "b")) ∷ Meant (Mark sign.Greater) ∷ Meant (Mark sign.OpenBrace) ∷ Meant (Lower (codes "v")) ∷ Meant (Mark sign.CloseBrace) ∷ Meant (Mark sign.Less) ∷ Meant (Mark sign.Slash) ∷ Meant (Lower (codes "b")) ∷ Meant (Mark sign.Greater) ∷ Meant (Mark sign.Semicolon) ∷ Between (Blank 10)
    ∷ Meant (Mark sign.CloseBrace) ∷ Between (Blank 10)
    ∷ Meant (Word keyword.Function) ∷ Between (Blank 32) ∷ Meant (Upper (codes "App")) ∷ Meant (Mark sign.OpenParen) ∷ Meant (Mark sign.CloseParen) ∷ Between (Blank 32) ∷ Meant (Mark sign.OpenBrace) ∷ Between (Blank 10)
    ∷ Between (Blank 32) ∷ Between (Blank 32) ∷ Meant (Word keyword.Const) ∷ Between (Blank 32) ∷ Meant (Mark sign.OpenBracket) ∷ Meant (Lower (codes "n")) ∷ Meant (Mark sign.Comma) ∷ Between (Blank 32) ∷ Meant (Lower (codes "setN")) ∷ Meant (Mark sign.CloseBracket) ∷ Between (Blank 32) ∷ Meant (Mark sign.Equals) ∷ Between (Blank 32) ∷ Meant (Word keyword.UseState) ∷ Meant (Mark sign.OpenParen) ∷ Meant (Number 32) ∷ Meant (Mark sign.CloseParen) ∷ Meant (Mark sign.Semicolon) ∷ Between (Blank 10)
    ∷ Between (Blank 32) ∷ Between (Blank 32) ∷ Meant (Word keyword.Return) ∷ Between (Blank 32) ∷ Meant (Mark sign.Less) ∷ Meant (Lower (codes "main")) ∷ Meant (Mark sign.Greater) ∷ Meant (Mark sign.OpenBrace) ∷ Meant (Word keyword.For) ∷ Between (Blank 32) ∷ Meant (Mark sign.OpenParen) ∷ Meant (Lower (codes "i")) ∷ Between (Blank 32) ∷ Meant (Mark sign.Less) ∷ Between (Blank 32) ∷ Meant (Lower (codes "n")) ∷ Meant (Mark sign.Comma) ∷ Between (Blank 32) ∷ Meant (Number 64) ∷ Meant (Mark sign.CloseParen) ∷ Between (Blank 32) ∷ Meant (Mark sign.Less) ∷ Meant (Upper (codes "Cell")) ∷ Between (Blank 32) ∷ Meant (Word keyword.Key) ∷ Meant (Mark sign.Equals) ∷ Meant (Mark sign.OpenBrace) ∷ Meant (Lower (codes "i")) ∷ Meant (Mark sign.CloseBrace) ∷ Between (Blank 32) ∷ Meant (Lower (codes "i")) ∷ Meant (Mark sign.Equals) ∷ Meant (Mark sign.OpenBrace) ∷ Meant (Lower (codes "i")) ∷ Meant (Mark sign.CloseBrace) ∷ Meant (Mark sign.Slash) ∷ Meant (Mark sign.Greater) ∷ Meant (Mark sign.CloseBrace) ∷ Meant (Mark sign.Less) ∷ Meant (Mark sign.Slash) ∷ Meant (Lower (codes "main")) ∷ Meant (Mark sign.Greater) ∷ Meant (Mark sign.Semicolon) ∷ Between (Blank 10)
    ∷ Meant (Mark sign.CloseBrace) ∷ Between (Blank 10)
    ∷ []

its_text : text_of pieces ≡ program_text
unfolding program_text digits
its_text = refl

they_fit : all_fit pieces ≡ true
unfolding digits
they_fit = refl

abbrev pub tokens : List Token
tokens = tokens_from 0 pieces

covered : AreTokensOf tokens program_text
covered = (pieces, subst (λ (t : Text). CoversTo (greatest_number false) pieces t []) its_text (covers pieces they_fit), refl)

valid : is_utf8 program_text ≡ true
unfolding is_utf8 chars encode_utf8 program_text
valid = refl

utf8 : IsUtf8 program_text
utf8 = IsUtf8-from_is_utf8 program_text valid

grammatical : IsGrammatical generated_program
unfolding generated_program
grammatical = (
  (tt, (1, lit< tt, (λ e. cc), tt, (refl, tt, tt))),
  (
    (tt, (tt, tt), (lit< tt, tt, tt, ((refl, (refl, tt)), tt))),
    ((refl, (tt, tt), (lit< tt, tt, tt, ((refl, (refl, lit< tt, tt, (lit< tt, (tt, (tt, tt)), refl, tt))), tt))), tt),
  ),
)

written : kinds (ended program_text tokens) ≡ program_tokens generated_program ++ End ∷ []
unfolding generated_program
written = refl

-- the text is that of the program, and the program meets every check
pub sound_text : IsSoundText generated_program program_text
sound_text =
    record {
      its_text = record { tokens = tokens; covers = record { utf8 = utf8; covered = covered }; written = (grammatical, written) };
      meets_all = none_refused;
    }
