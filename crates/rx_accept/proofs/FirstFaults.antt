-- The first token with which no program goes on is one token, and tokens that a program has hold none.
use Rattle.std.proofs.Common.{◌≡◌, ℕ, List, [], ◌∷◌, ◌++◌, ap, sym, ◌∙◌, subst, append_assoc}
use Rattle.std.proofs.lemmas.List.{map-append}
use Rattle.rx_lex.specs.declared.token.Kind.{Kind}
use Rattle.rx_lex.specs.declared.token.Token.{Token}
use Rattle.rx_lex.specs.Tokens.{kinds}
use Rattle.rx_ast.specs.Syntax.{Program}
use Rattle.rx_print.specs.Levels.{BeginsProgram, HasTokens}
use Rattle.rx_parse.specs.Faults.{IsFirstFault}

-- where two tokens stand in one list: at one place, or the first before the second, or behind it
pub data Order (xs : List Token) (x : Token) (ys : List Token) (y : Token) : Type 0 where
  same : x ≡ y → Order xs x ys y
  before : (more : List Token) → ys ≡ xs ++ x ∷ more → Order xs x ys y
  behind : (more : List Token) → xs ≡ ys ++ y ∷ more → Order xs x ys y

later : (z : Token) (xs : List Token) (x : Token) (ys : List Token) (y : Token) → Order xs x ys y → Order (z ∷ xs) x (z ∷ ys) y
later z xs x ys y (same e) = same e
later z xs x ys y (before more e) = before more (ap (λ l. z ∷ l) e)
later z xs x ys y (behind more e) = behind more (ap (λ l. z ∷ l) e)

order_of : (xs : List Token) (x : Token) (xa ys : List Token) (y : Token) (ya : List Token) → xs ++ x ∷ xa ≡ ys ++ y ∷ ya → Order xs x ys y
order_of [] x xa [] y ya e = same cc
order_of [] x xa (z ∷ ys) y ya e = let head : x ≡ z = cc in before ys (ap (λ t. t ∷ ys) (sym head))
order_of (z ∷ xs) x xa [] y ya e = let head : z ≡ y = cc in behind xs (ap (λ t. t ∷ xs) head)
order_of (z ∷ xs) x xa (w ∷ ys) y ya e =
    let head : z ≡ w = cc in
    let tail : xs ++ x ∷ xa ≡ ys ++ y ∷ ya = cc in
    subst (λ t. Order (z ∷ xs) x (t ∷ ys) y) head (later z xs x ys y (order_of xs x xa ys y ya tail))

-- a part from the front of what begins a program begins one
begins-front : (front more : List Kind) → BeginsProgram (front ++ more) → BeginsProgram front
begins-front front more b = (b.0, more ++ b.1, b.2, b.3 ∙ append_assoc front more b.1)

-- the tokens up to and with a token, and those behind it
kinds_around : (xs : List Token) (x : Token) (more : List Token) → kinds (xs ++ x ∷ more) ≡ (kinds xs ++ x.kind ∷ []) ++ kinds more
kinds_around xs x more = map-append (λ t. t.kind) xs (x ∷ more) ∙ sym (append_assoc (kinds xs) (x.kind ∷ []) (kinds more))

-- a first fault stands in front of no token that goes on
not-before : (xs : List Token) (x : Token) (ys more : List Token) → ys ≡ xs ++ x ∷ more → BeginsProgram (kinds ys) → BeginsProgram (kinds xs ++ x.kind ∷ [])
not-before xs x ys more is begins =
    begins-front (kinds xs ++ x.kind ∷ []) (kinds more) (subst BeginsProgram (ap kinds is ∙ kinds_around xs x more) begins)

pub first_fault-one : (at other : ℕ) (ts : List Token) → IsFirstFault at ts → IsFirstFault other ts → at ≡ other
first_fault-one at other ts f g = by_order (order_of f.before f.token f.after g.before g.token g.after (sym f.split ∙ g.split)) where
  by_order : Order f.before f.token g.before g.token → at ≡ other
  by_order (same e) = sym f.place ∙ ap (λ t. t.place) e ∙ g.place
  by_order (before more e) = absurd (f.stops (not-before f.before f.token g.before more e g.begins))
  by_order (behind more e) = absurd (g.stops (not-before g.before g.token f.before more e f.begins))

pub no_fault : (at : ℕ) (ts : List Token) (p : Program) → IsFirstFault at ts → HasTokens p (kinds ts) → ⊥
no_fault at ts p f has = f.stops (p, kinds f.after, has.0, sym has.1 ∙ ap kinds f.split ∙ kinds_around f.before f.token f.after)
