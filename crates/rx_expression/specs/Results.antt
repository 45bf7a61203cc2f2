-- What a function of the parser returns, beside what is read there.
use Rattle.std.specs.Prelude.{◌≡◌, List, ◌++◌, Result, Ok, Err}
use Rattle.rx_lex.specs.declared.token.Kind.{Kind}
use Rattle.rx_grammar.specs.Steps.{Read, ◌>>=◌}
use Rattle.rx_expression.specs.declared.fault.Fault.{Fault}
use Rattle.rx_expression.specs.declared.fault.Fault.TheVariants as fault

-- the fault of a reading; being out of memory says nothing of the tokens
abbrev pub Fails : {A : Type 0} → Fault → Read A → Type 0
Fails fault.OutOfMemory read = Unit {0}
Fails (fault.Syntax left) read = read ≡ Err left

-- what was returned, seen so, is what is read, unless memory ran out
abbrev pub Gives : {X A : Type 0} → (X → A × List Kind) → Result X Fault → Read A → Type 0
Gives view (Ok x) read = read ≡ Ok (view x)
Gives view (Err e) read = Fails e read

-- items that are read already, in front of those that are read here
abbrev pub in_front : {A : Type 0} → List A → Read (List A) → Read (List A)
in_front xs read = read >>= λ y. Ok (xs ++ y.0, y.1)
