-- When the tokens of a text are refused.
use Rattle.std.specs.Prelude.{ℕ, List}
use Rattle.rx_lex.specs.declared.error.LexError.{LexError}
use Rattle.rx_lex.specs.declared.error.LexError.TheVariants.{Lex, OutOfMemory}
use Rattle.rx_lex.specs.Tokens.{IsFirstUncovered}

-- a refusal names the first place that no token covers; `OutOfMemory` says nothing of the text
abbrev pub IsFault : LexError → List ℕ → Type 0
IsFault (Lex at) text = IsFirstUncovered at text
IsFault OutOfMemory text = Unit {0}
