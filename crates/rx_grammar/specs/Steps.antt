-- The steps of reading: what is read at the front of a list of tokens with the tokens behind it, or how many tokens are left at the first fault.
use Rattle.std.specs.Prelude.{ℕ, zero, suc, Bool, true, false, if◌then◌else◌, List, [], ◌∷◌, length, Option, Some, None, Result, Ok, Err}
use Rattle.std.specs.Str.{bytes_eq}
use Rattle.rx_base.specs.Values.{Name}
use Rattle.rx_lex.specs.declared.token.Keyword.{Keyword}
use Rattle.rx_lex.specs.declared.token.Sign.{Sign}
use Rattle.rx_lex.specs.declared.token.Kind.{Kind}
use Rattle.rx_lex.specs.declared.token.Kind.TheVariants.{Upper, Lower, Number, Text, Word, Mark, End}
use Rattle.rx_lex.specs.Tokens.{same_sign, same_keyword}

-- what is read, and the tokens behind it, or how many are left at the fault
abbrev pub Read : Type 0 → Type 0
Read A = Result (A × List Kind) ℕ

infixl 10 ◌>>=◌
-- one step, and what is read behind it
abbrev pub ◌>>=◌ : {A B : Type 0} → Read A → (A × List Kind → Read B) → Read B
(Ok x) >>= f = f x
(Err e) >>= f = Err e

-- a fault at the front of these tokens
abbrev pub fault_at : {A : Type 0} → List Kind → Read A
fault_at ts = Err (length ts)

-- whether the next token passes the test
abbrev pub next : (Kind → Bool) → List Kind → Bool
next f [] = false
next f (k ∷ ts) = f k

-- a token, if there is one
abbrev pub taken_as : {A : Type 0} → Option A → (ts behind : List Kind) → Read A
taken_as (Some x) ts behind = Ok (x, behind)
taken_as None ts behind = fault_at ts

-- the next token, as what is taken from it
abbrev pub taken : {A : Type 0} → (Kind → Option A) → List Kind → Read A
taken g [] = fault_at []
taken g (k ∷ ts) = taken_as (g k) (k ∷ ts) ts

-- whether a token is this sign
abbrev pub is_mark : Sign → Kind → Bool
is_mark s (Mark t) = same_sign t s
is_mark s k = false

-- whether a token is this reserved word
abbrev pub is_word : Keyword → Kind → Bool
is_word w (Word v) = same_keyword v w
is_word w k = false

-- whether a token is the end mark
abbrev pub is_end : Kind → Bool
is_end End = true
is_end k = false

-- whether a token is a name in small letters
abbrev pub is_lower : Kind → Bool
is_lower (Lower x) = true
is_lower k = false

-- whether a token is a text
abbrev pub is_text : Kind → Bool
is_text (Text x) = true
is_text k = false

-- nothing if the test holds
abbrev pub where_true : Bool → Option (Unit {0})
where_true true = Some tt
where_true false = None

-- this sign
abbrev pub as_mark : Sign → Kind → Option (Unit {0})
as_mark s k = where_true (is_mark s k)

-- this reserved word
abbrev pub as_word : Keyword → Kind → Option (Unit {0})
as_word w k = where_true (is_word w k)

-- the end mark
abbrev pub as_end : Kind → Option (Unit {0})
as_end k = where_true (is_end k)

-- a name in small letters
abbrev pub as_lower : Kind → Option Name
as_lower (Lower x) = Some x
as_lower k = None

-- a name that begins with a capital letter
abbrev pub as_upper : Kind → Option Name
as_upper (Upper x) = Some x
as_upper k = None

-- a number
abbrev pub as_number : Kind → Option ℕ
as_number (Number n) = Some n
as_number k = None

-- a text
abbrev pub as_text : Kind → Option Name
as_text (Text x) = Some x
as_text k = None

-- whether a token is this name in small letters
abbrev pub is_lower_name : Name → Kind → Bool
is_lower_name x (Lower y) = bytes_eq y x
is_lower_name x k = false

-- whether a token is this name with a capital letter
abbrev pub is_upper_name : Name → Kind → Bool
is_upper_name x (Upper y) = bytes_eq y x
is_upper_name x k = false

-- this name in small letters
abbrev pub as_lower_name : Name → Kind → Option (Unit {0})
as_lower_name x k = where_true (is_lower_name x k)

-- this name with a capital letter
abbrev pub as_upper_name : Name → Kind → Option (Unit {0})
as_upper_name x k = where_true (is_upper_name x k)

-- items as long as the next token passes the test: at most so many
abbrev pub many : {A : Type 0} → (Kind → Bool) → (List Kind → Read A) → ℕ → List Kind → Read (List A)
many f item zero ts = Ok ([], ts)
many f item (suc n) ts = if next f ts then (item ts >>= λ x. many f item n x.1 >>= λ y. Ok (x.0 ∷ y.0, y.1)) else Ok ([], ts)

-- all items as long as the next token passes the test
abbrev pub all_of : {A : Type 0} → (Kind → Bool) → (List Kind → Read A) → List Kind → Read (List A)
all_of f item ts = many f item (length ts) ts

-- one level further in, if one is left
abbrev pub within : {I A : Type 0} → Option I → List Kind → (I → Read A) → Read A
within None ts f = fault_at ts
within (Some i) ts f = f i

-- the item that a step read, and those behind it; or none, if it read the end
abbrev pub until_with : {A : Type 0} → Option A → List Kind → (List Kind → Read (List A)) → Read (List A)
until_with None ts others = Ok ([], ts)
until_with (Some a) ts others = others ts >>= λ y. Ok (a ∷ y.0, y.1)

-- items up to and with their end: at most so many
abbrev pub until : {A : Type 0} → (List Kind → Read (Option A)) → (List Kind → Read (Unit {0})) → ℕ → List Kind → Read (List A)
until step end zero ts = end ts >>= λ x. Ok ([], x.1)
until step end (suc n) ts = step ts >>= λ x. until_with x.0 x.1 (until step end n)

-- all items up to and with their end
abbrev pub until_end : {A : Type 0} → (List Kind → Read (Option A)) → (List Kind → Read (Unit {0})) → List Kind → Read (List A)
until_end step end ts = until step end (suc (length ts)) ts
