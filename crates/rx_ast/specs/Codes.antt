-- How the logic stores an expression.
use Rattle.std.specs.Prelude.{◌≡◌, ℕ, List, refl}
use Rattle.std.specs.Coded.{Coded, coded_ℕ, coded_list}
use base.Stored.{Gv, gnil, gnum, gcons}
use mathlib.Core.Path.{ap}
use Rattle.rx_ast.specs.declared.expr.Prefix.{Prefix}
use Rattle.rx_ast.specs.declared.expr.Prefix.TheVariants as prefix
use Rattle.rx_ast.specs.declared.expr.Operator.{Operator}
use Rattle.rx_ast.specs.declared.expr.Operator.TheVariants as operator
use Rattle.rx_ast.specs.Syntax.{Expr, number, variable, grouped, prefixed, chain, chosen, called, Links, no_links, link, Exprs, no_exprs, expr}

abbrev pub head : Gv → Gv
head gnil = gnil
head (gnum n) = gnil
head (gcons a b) = a

abbrev pub tail : Gv → Gv
tail gnil = gnil
tail (gnum n) = gnil
tail (gcons a b) = b

abbrev pub value : Gv → ℕ
value gnil = 0
value (gnum n) = n
value (gcons a b) = 0

abbrev pub text : Coded (List ℕ)
text = coded_list coded_ℕ

abbrev prefix_number : Prefix → ℕ
prefix_number prefix.Not = 0
prefix_number prefix.Negative = 1

prefix_one : (o p : Prefix) → prefix_number o ≡ prefix_number p → o ≡ p
prefix_one prefix.Not prefix.Not e = refl
prefix_one prefix.Negative prefix.Negative e = refl
prefix_one _ _ e = cc

abbrev operator_number : Operator → ℕ
operator_number operator.Or = 0
operator_number operator.And = 1
operator_number operator.Equal = 2
operator_number operator.NotEqual = 3
operator_number operator.Less = 4
operator_number operator.LessOrEqual = 5
operator_number operator.Greater = 6
operator_number operator.GreaterOrEqual = 7
operator_number operator.Add = 8
operator_number operator.Subtract = 9
operator_number operator.Multiply = 10
operator_number operator.Divide = 11
operator_number operator.Remainder = 12

operator_one : (o p : Operator) → operator_number o ≡ operator_number p → o ≡ p
operator_one operator.Or operator.Or e = refl
operator_one operator.And operator.And e = refl
operator_one operator.Equal operator.Equal e = refl
operator_one operator.NotEqual operator.NotEqual e = refl
operator_one operator.Less operator.Less e = refl
operator_one operator.LessOrEqual operator.LessOrEqual e = refl
operator_one operator.Greater operator.Greater e = refl
operator_one operator.GreaterOrEqual operator.GreaterOrEqual e = refl
operator_one operator.Add operator.Add e = refl
operator_one operator.Subtract operator.Subtract e = refl
operator_one operator.Multiply operator.Multiply e = refl
operator_one operator.Divide operator.Divide e = refl
operator_one operator.Remainder operator.Remainder e = refl
operator_one _ _ e = cc

abbrev mutual
  pub stored : Expr → Gv
  stored (number n) = gcons (gnum 0) (gnum n)
  stored (variable x) = gcons (gnum 1) (text.code x)
  stored (grouped e) = gcons (gnum 2) (stored e)
  stored (prefixed o e) = gcons (gnum 3) (gcons (gnum (prefix_number o)) (stored e))
  stored (chain e ls) = gcons (gnum 4) (gcons (stored e) (stored_links ls))
  stored (chosen c a b) = gcons (gnum 5) (gcons (stored c) (gcons (stored a) (stored b)))
  stored (called f es) = gcons (gnum 6) (gcons (text.code f) (stored_exprs es))

  pub stored_links : Links → Gv
  stored_links no_links = gnil
  stored_links (link o e ls) = gcons (gnum (operator_number o)) (gcons (stored e) (stored_links ls))

  pub stored_exprs : Exprs → Gv
  stored_exprs no_exprs = gnil
  stored_exprs (expr e es) = gcons (stored e) (stored_exprs es)

mutual
  pub stored_one : (x y : Expr) → stored x ≡ stored y → x ≡ y
  stored_one (number m) (number n) p = ap (λ g. number (value (tail g))) p
  stored_one (variable x) (variable y) p = ap variable (text.inj x y (ap tail p))
  stored_one (grouped d) (grouped e) p = ap grouped (stored_one d e (ap tail p))
  stored_one (prefixed o d) (prefixed q e) p =
      λ i. prefixed (prefix_one o q (ap (λ g. value (head (tail g))) p) i) (stored_one d e (ap (λ g. tail (tail g)) p) i)
  stored_one (chain d ks) (chain e ls) p =
      λ i. chain (stored_one d e (ap (λ g. head (tail g)) p) i) (stored_links_one ks ls (ap (λ g. tail (tail g)) p) i)
  stored_one (chosen a b c) (chosen d e f) p =
      λ i. chosen (stored_one a d (ap (λ g. head (tail g)) p) i) (stored_one b e (ap (λ g. head (tail (tail g))) p) i)
      (stored_one c f (ap (λ g. tail (tail (tail g))) p) i)
  stored_one (called f es) (called h fs) p =
      λ i. called (text.inj f h (ap (λ g. head (tail g)) p) i) (stored_exprs_one es fs (ap (λ g. tail (tail g)) p) i)
  stored_one _ _ p = cc

  pub stored_links_one : (x y : Links) → stored_links x ≡ stored_links y → x ≡ y
  stored_links_one no_links no_links p = refl
  stored_links_one (link o d ks) (link q e ls) p =
      λ i. link (operator_one o q (ap (λ g. value (head g)) p) i) (stored_one d e (ap (λ g. head (tail g)) p) i)
      (stored_links_one ks ls (ap (λ g. tail (tail g)) p) i)
  stored_links_one _ _ p = cc

  pub stored_exprs_one : (x y : Exprs) → stored_exprs x ≡ stored_exprs y → x ≡ y
  stored_exprs_one no_exprs no_exprs p = refl
  stored_exprs_one (expr e es) (expr f fs) p = λ i. expr (stored_one e f (ap head p) i) (stored_exprs_one es fs (ap tail p) i)
  stored_exprs_one _ _ p = cc

abbrev pub expr_code : Coded Expr
expr_code = record { code = stored; inj = stored_one }
