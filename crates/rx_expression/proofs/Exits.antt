-- What is read at the exits of a function, step by step.
use Rattle.std.proofs.Common.{◌≡◌, ℕ, zero, suc, ◌-◌, ◌<◌, Ok, List, sym, ap, ◌∙◌, subst, arith}
use Rattle.rx_lex.specs.declared.token.Sign.TheVariants as sign
use Rattle.rx_lex.specs.declared.token.Kind.{Kind}
use Rattle.rx_ast.specs.Syntax.{Expr, grouped}
use Rattle.rx_grammar.specs.Steps.{Read, ◌>>=◌, within}
use Rattle.rx_grammar.specs.Reading.{sign_at, Inner, inner_at, expr_with, operand_with, expr_at, group_at, choice_at}
use Rattle.rx_expression.specs.declared.fault.Fault.{Fault}
use Rattle.rx_expression.specs.declared.fault.Fault.TheVariants.{Syntax, OutOfMemory}
use Rattle.rx_expression.specs.Results.{Fails}

pub fails_at : {A B : Type 0} (e : Fault) (r : Read A) (f : A × List Kind → Read B) → Fails e r → Fails e (r >>= f)
fails_at OutOfMemory r f h = tt
fails_at (Syntax n) r f h = ap (λ r. r >>= f) h

pub fails_behind : {A B : Type 0} (e : Fault) (r : Read A) (x : A × List Kind) (f : A × List Kind → Read B) → r ≡ Ok x → Fails e (f x) → Fails e (r >>= f)
fails_behind e r x f ok h = subst (λ r. Fails e (r >>= f)) (sym ok) h

pub reads_behind : {A B : Type 0} (r : Read A) (x : A × List Kind) (f : A × List Kind → Read B) (y : B × List Kind) → r ≡ Ok x → f x ≡ Ok y → (r >>= f) ≡ Ok y
reads_behind r x f y ok h = ap (λ r. r >>= f) ok ∙ h

abbrev inner_of : ℕ → Inner
inner_of n = record { expr = expr_with (inner_at n); operand = operand_with (inner_at n) }

in_level : {A : Type 0} (n : ℕ) (ts : List Kind) (f : Inner → Read A) → 0 < n → within (inner_at n) ts f ≡ f (inner_of (n - 1))
in_level zero ts f lt = absurd (omega arith)
in_level (suc n) ts f lt = let pred : n ≡ suc n - 1 = omega arith in ap (λ m. f (inner_of m)) pred

module _ (n : ℕ) (ts us : List Kind) (x : Expr × List Kind) (lt : 0 < n) where
  pub group_fails : (e : Fault) → sign_at sign.OpenParen ts ≡ Ok (tt, us) → expr_at (n - 1) us ≡ Ok x → Fails e (sign_at sign.CloseParen x.1) → Fails e (group_at (inner_at n) ts)
  group_fails e first inner h =
      subst (λ r. Fails e r) (sym (in_level n ts _ lt))
      (fails_behind e (sign_at sign.OpenParen ts) (tt, us) _ first (fails_behind e (expr_at (n - 1) us) x _ inner (fails_at e (sign_at sign.CloseParen x.1) _ h)))

  pub group_reads : (vs : List Kind) → sign_at sign.OpenParen ts ≡ Ok (tt, us) → expr_at (n - 1) us ≡ Ok x → sign_at sign.CloseParen x.1 ≡ Ok (tt, vs) → group_at (inner_at n) ts ≡ Ok (grouped x.0, vs)
  group_reads vs first inner last =
      in_level n ts _ lt
      ∙ reads_behind (sign_at sign.OpenParen ts) (tt, us) _ (grouped x.0, vs) first (reads_behind (expr_at (n - 1) us) x _ (grouped x.0, vs) inner (ap (λ r. r >>= λ c. Ok (grouped x.0, c.1)) last))

  pub choice_colon_fails : (t : Expr) (e : Fault) → sign_at sign.Question ts ≡ Ok (tt, us) → expr_at (n - 1) us ≡ Ok x → Fails e (sign_at sign.Colon x.1) → Fails e (choice_at (inner_at n) t ts)
  choice_colon_fails t e first inner h =
      subst (λ r. Fails e r) (sym (in_level n ts _ lt))
      (fails_behind e (sign_at sign.Question ts) (tt, us) _ first (fails_behind e (expr_at (n - 1) us) x _ inner (fails_at e (sign_at sign.Colon x.1) _ h)))

  pub choice_second_fails : (t : Expr) (e : Fault) (vs : List Kind) → sign_at sign.Question ts ≡ Ok (tt, us) → expr_at (n - 1) us ≡ Ok x → sign_at sign.Colon x.1 ≡ Ok (tt, vs) → Fails e (expr_at (n - 1) vs) → Fails e (choice_at (inner_at n) t ts)
  choice_second_fails t e vs first inner colon h =
      subst (λ r. Fails e r) (sym (in_level n ts _ lt))
      (fails_behind e (sign_at sign.Question ts) (tt, us) _ first (fails_behind e (expr_at (n - 1) us) x _ inner (fails_behind e (sign_at sign.Colon x.1) (tt, vs) _ colon (fails_at e (expr_at (n - 1) vs) _ h))))
