-- Where reading stops.
use Rattle.std.specs.Prelude.{◌≡◌, ℕ, suc, List, [], ◌∷◌, ◌++◌, length}
use Rattle.rx_lex.specs.declared.token.Kind.{Kind}
use Rattle.rx_print.specs.Levels.{BeginsProgram}

-- so many tokens are left at the first one with which no program goes on
pub record StopsFirst (ks : List Kind) (left : ℕ) : Type 0 where
  pub before : List Kind
  pub token : Kind
  pub after : List Kind
  pub split : ks ≡ before ++ token ∷ after
  pub count : suc (length after) ≡ left
  pub begins : BeginsProgram before
  pub stops : BeginsProgram (before ++ token ∷ []) → ⊥
