-- From the text of a program to a program that meets every check, and why a text is refused.
use Rattle.std.specs.Prelude.{◌≡◌, ◌++◌, List, [], ◌∷◌, length, Some, None}
use Rattle.std.specs.Str.{IsUtf8, IsValidUpTo}
use Rattle.rx_base.specs.Values.{Text}
use Rattle.rx_lex.specs.declared.token.Token.{Token}
use Rattle.rx_lex.specs.Tokens.{AreTokensOf, IsFirstUncovered, end_mark, kinds}
use Rattle.rx_ast.specs.Syntax.{Program}
use Rattle.rx_print.specs.Levels.{HasTokens}
use Rattle.rx_parse.specs.Faults.{IsFirstFault}
use Rattle.rx_check.specs.Refusals.{refusal_of}
use Rattle.rx_accept.specs.declared.cause.Cause.{Cause}
use Rattle.rx_accept.specs.declared.cause.Cause.TheVariants.{NotUtf8, NoToken, NoProgram, Unmet, OutOfMemory}

-- the tokens of a text, with the mark of the end at its length
abbrev pub ended : Text → List Token → List Token
ended text ts = ts ++ end_mark (length text) ∷ []

-- the text is UTF-8, and these tokens cover it
pub record IsCoveredBy (text : Text) (ts : List Token) : Type 0 where
  pub utf8 : IsUtf8 text
  pub covered : AreTokensOf ts text

-- the text is that of this program
pub record IsTextOf (p : Program) (text : Text) : Type 0 where
  pub tokens : List Token
  pub covers : IsCoveredBy text tokens
  pub written : HasTokens p (kinds (ended text tokens))

-- the text is that of this program, and the program meets every check
pub record IsSoundText (p : Program) (text : Text) : Type 0 where
  pub its_text : IsTextOf p text
  pub meets_all : refusal_of p ≡ None

-- The text is refused for this cause: the first sequence of bytes that is not UTF-8; else the first place that no token covers; else the first token with which no program goes on; else the first check that the program does not meet.
abbrev pub IsCause : Text → Cause → Type 0
IsCause text (NotUtf8 at) = IsValidUpTo text at
IsCause text (NoToken at) = IsUtf8 text × IsFirstUncovered at text
IsCause text (NoProgram at) = (ts : List Token) × IsCoveredBy text ts × IsFirstFault at (ended text ts)
IsCause text (Unmet refusal) = (p : Program) × IsTextOf p text × (refusal_of p ≡ Some refusal)
IsCause text OutOfMemory = ⊥
