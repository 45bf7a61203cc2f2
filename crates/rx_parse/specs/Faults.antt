-- When tokens are refused.
use Rattle.std.specs.Prelude.{◌≡◌, ◌≢◌, ℕ, List, [], ◌∷◌, ◌++◌, All}
use Rattle.rx_lex.specs.declared.token.Kind.TheVariants.{End}
use Rattle.rx_lex.specs.declared.token.Token.{Token}
use Rattle.rx_lex.specs.Tokens.{kinds, end_mark}
use Rattle.rx_print.specs.Levels.{BeginsProgram}
use Rattle.rx_parse.specs.declared.error.ParseError.{ParseError}
use Rattle.rx_parse.specs.declared.error.ParseError.TheVariants.{Syntax, OutOfMemory}

-- the tokens end with an end mark, and none stands before it
abbrev pub IsEnded : List Token → Type 0
IsEnded ts = (front : List Token) × (at : ℕ) × All (λ k. k ≢ End) (kinds front) × (ts ≡ front ++ end_mark at ∷ [])

-- the tokens before this place begin a program, and those up to and with the one at it begin none
pub record IsFirstFault (at : ℕ) (ts : List Token) : Type 0 where
  pub before : List Token
  pub token : Token
  pub after : List Token
  pub split : ts ≡ before ++ token ∷ after
  pub place : token.place ≡ at
  pub begins : BeginsProgram (kinds before)
  pub stops : BeginsProgram (kinds before ++ token.kind ∷ []) → ⊥

-- a refusal names the first place with which no program goes on; being out of memory says nothing of the tokens
abbrev pub IsFault : ParseError → List Token → Type 0
IsFault (Syntax at) ts = IsFirstFault at ts
IsFault OutOfMemory ts = Unit {0}
