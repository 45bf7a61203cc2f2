-- The laws of reading expressions.
use Rattle.std.proofs.Common.{◌≡◌, ◌≢◌, ℕ, zero, suc, ◌+◌, ◌-◌, ◌<◌, ◌≤◌, ◌==◌, Bool, true, false, cond, ◌⊎◌, inl, inr, ⊎_elim, Option, Some, None, Ok, List, [], ◌∷◌, ◌++◌, refl, sym, ap, ◌∙◌, subst, append-nil, eqb-true, eq-eqb, arith}
use Rattle.std.proofs.lemmas.Bool.{false≢true}
use Rattle.rx_base.specs.Values.{Name}
use Rattle.rx_lex.specs.declared.token.Sign.{Sign}
use Rattle.rx_lex.specs.declared.token.Sign.TheVariants as sign
use Rattle.rx_lex.specs.declared.token.Kind.{Kind}
use Rattle.rx_lex.specs.declared.token.Kind.TheVariants.{Lower, Number, Mark}
use Rattle.rx_ast.specs.declared.expr.Prefix.{Prefix}
use Rattle.rx_ast.specs.declared.expr.Prefix.TheVariants as prefix
use Rattle.rx_ast.specs.declared.expr.Operator.{Operator}
use Rattle.rx_ast.specs.declared.expr.Operator.TheVariants as operator
use Rattle.rx_ast.specs.declared.expr.Link.{Link}
use Rattle.rx_ast.specs.ExprView.{links_of}
use Rattle.rx_ast.specs.Syntax.{Expr, number, variable, grouped, prefixed, chain, chosen, called, Links, no_links, link, Exprs, no_exprs, expr, exprs_of, exprs}
use Rattle.rx_print.specs.Printing.{prefix_sign, operator_sign, in_parentheses, expr_tokens, links_tokens, exprs_tokens, more_exprs_tokens}
use Rattle.rx_print.specs.Levels.{operand_line, or_line, whole_line, operator_line, ExprFits, LinksFit, ExprsFit}
use Rattle.rx_grammar.specs.Steps.{◌>>=◌, taken, as_number, is_mark, is_lower}
use Rattle.rx_grammar.specs.Reading.{behind_comma, sign_operator, on_line, as_operator, is_some, is_operator, Inner, prefixed_at, group_at, call_at, named_at, operand_with, link_at, chain_of, line_with, choice_at, expr_with, inner_at, expr_at, line_at}
use Rattle.rx_grammar.proofs.Readings.{kind_rank, sign_rank, Reads, said}
use Rattle.rx_grammar.proofs.Combine.{pure, seq, after, alt, inside, Then, Or, Of, Starts, Misses, avoids, avoids_nothing, IsToken}
use Rattle.rx_grammar.proofs.Many.{Row, row, Loop, loop}
use Rattle.rx_grammar.proofs.Lists.{Comma, Commas, list, list_loop}
use Rattle.rx_grammar.proofs.Tokens.{mark, lower, numeral, mark_ranked, sign_ranked, is_mark_is}

-- an expression of a line of the grammar with so many levels left
abbrev pub ExprL : (line levels : ℕ) → Expr → List Kind → Type 0
ExprL k n e p = ExprFits e k n × (p ≡ expr_tokens e)

-- a token that begins an operand
abbrev pub begins_operand : Kind → Bool
begins_operand (Number n) = true
begins_operand (Lower x) = true
begins_operand (Mark sign.Not) = true
begins_operand (Mark sign.Minus) = true
begins_operand (Mark sign.OpenParen) = true
begins_operand k = false

pub expr_begins : (e : Expr) → (k : Kind) × (v : List Kind) × (expr_tokens e ≡ k ∷ v) × (begins_operand k ≡ true)
expr_begins (number n) = (Number n, [], refl, refl)
expr_begins (variable x) = (Lower x, [], refl, refl)
expr_begins (grouped e) = (Mark sign.OpenParen, _, refl, refl)
expr_begins (prefixed prefix.Not e) = (Mark sign.Not, _, refl, refl)
expr_begins (prefixed prefix.Negative e) = (Mark sign.Minus, _, refl, refl)
expr_begins (chain e ls) = let w = expr_begins e in (w.0, w.1 ++ links_tokens ls, ap (λ z. z ++ links_tokens ls) w.2, w.3)
expr_begins (chosen c a b) =
    let w = expr_begins c in
    let more = Mark sign.Question ∷ (expr_tokens a ++ (Mark sign.Colon ∷ expr_tokens b)) in
    (w.0, w.1 ++ more, ap (λ z. z ++ more) w.2, w.3)
expr_begins (called f es) = (Lower f, _, refl, refl)

pub other_sign : (s : Sign) → begins_operand (Mark s) ≡ false → (k : Kind) → begins_operand k ≡ true → is_mark s k ≡ false
other_sign s bad k good = by_test (is_mark s k) refl
  where
    by_test : (b : Bool) → is_mark s k ≡ b → b ≡ false
    by_test true e = absurd (false≢true (sym bad ∙ ap begins_operand (sym (is_mark_is s k e)) ∙ good))
    by_test false e = refl

pub expr_misses : (s : Sign) (k n : ℕ) → begins_operand (Mark s) ≡ false → Misses (is_mark s) (ExprL k n)
expr_misses s k n bad e p h = let w = expr_begins e in (w.0, w.1, h.1 ∙ w.2, other_sign s bad w.0 w.3)

-- what is read one level further in
pub record Deeper (i : Inner) (n : ℕ) : Type 0 where
  pub left : 0 < n
  pub expr : Reads i.expr (ExprL whole_line (n - 1)) 1 9 true
  pub operand : Reads i.operand (ExprL operand_line (n - 1)) 1 2 true

-- so many levels are left
pub record Level (o : Option Inner) (n : ℕ) : Type 0 where
  pub some : (i : Inner) → o ≡ Some i → Deeper i n
  pub none : o ≡ None → n ≡ 0

-- expressions behind commas
pub exprs_to : (n : ℕ) (es : List Expr) (p : List Kind) → Row (Comma (ExprL whole_line n)) es p → ExprsFit (exprs_of es) n × (p ≡ more_exprs_tokens (exprs_of es))
exprs_to n [] p h = (tt, h)
exprs_to n (e ∷ es) p (u, v, g, (w, f, l), h) =
    let others = exprs_to n es v h in
    ((l.0, others.0), let a = l.1 in let b = others.1 in cc)

pub exprs_back : (n : ℕ) (es : List Expr) (p : List Kind) → ExprsFit (exprs_of es) n → p ≡ more_exprs_tokens (exprs_of es) → Row (Comma (ExprL whole_line n)) es p
exprs_back n [] p fit e = e
exprs_back n (e ∷ es) p fit g =
    (Mark sign.Comma ∷ expr_tokens e, more_exprs_tokens (exprs_of es), g, (expr_tokens e, refl, (fit.0, refl)), exprs_back n es (more_exprs_tokens (exprs_of es)) fit.1 refl)

pub commas_to : (n : ℕ) (es : List Expr) (p : List Kind) → Commas (ExprL whole_line n) es p → ExprsFit (exprs_of es) n × (p ≡ exprs_tokens (exprs_of es))
commas_to n [] p h = (tt, h)
commas_to n (e ∷ es) p (u, v, g, l, h) =
    let others = exprs_to n es v h in
    ((l.0, others.0), let a = l.1 in let b = others.1 in cc)

pub commas_back : (n : ℕ) (es : List Expr) (p : List Kind) → ExprsFit (exprs_of es) n → p ≡ exprs_tokens (exprs_of es) → Commas (ExprL whole_line n) es p
commas_back n [] p fit e = e
commas_back n (e ∷ es) p fit g =
    (expr_tokens e, more_exprs_tokens (exprs_of es), g, (fit.0, refl), exprs_back n es (more_exprs_tokens (exprs_of es)) fit.1 refl)

pub exprs_of-exprs : (es : Exprs) → exprs_of (exprs es) ≡ es
exprs_of-exprs no_exprs = refl
exprs_of-exprs (expr e es) = ap (expr e) (exprs_of-exprs es)

-- a call behind its name
abbrev Arguments : ℕ → Name → Expr → List Kind → Type 0
Arguments n f t p = (es : Exprs) × (t ≡ called f es) × (0 < n) × ExprsFit es (n - 1) × (p ≡ in_parentheses (exprs_tokens es))

abbrev Named : ℕ → Expr → List Kind → Type 0
Named n = Or (Of (λ (w : Name × Exprs). called w.0 w.1) (ExprL operand_line n)) (Of variable (ExprL operand_line n))

-- what an operand is
abbrev Operand : ℕ → Expr → List Kind → Type 0
Operand n = Or (Of (prefixed prefix.Not) (ExprL operand_line n)) (Or (Of (prefixed prefix.Negative) (ExprL operand_line n)) (Or (Of grouped (ExprL operand_line n)) (Or (Named n) (Of number (ExprL operand_line n)))))

operand_to : (n : ℕ) (t : Expr) (p : List Kind) → Operand n t p → ExprL operand_line n t p
operand_to n t p (inl (e, made, l)) = subst (λ z. ExprL operand_line n z p) (sym made) l
operand_to n t p (inr (inl (e, made, l))) = subst (λ z. ExprL operand_line n z p) (sym made) l
operand_to n t p (inr (inr (inl (e, made, l)))) = subst (λ z. ExprL operand_line n z p) (sym made) l
operand_to n t p (inr (inr (inr (inl (inl (w, made, l)))))) = subst (λ z. ExprL operand_line n z p) (sym made) l
operand_to n t p (inr (inr (inr (inl (inr (x, made, l)))))) = subst (λ z. ExprL operand_line n z p) (sym made) l
operand_to n t p (inr (inr (inr (inr (v, made, l))))) = subst (λ z. ExprL operand_line n z p) (sym made) l

operand_back : (n : ℕ) (t : Expr) (p : List Kind) → ExprL operand_line n t p → Operand n t p
operand_back n (number v) p l = inr (inr (inr (inr (v, refl, l))))
operand_back n (variable x) p l = inr (inr (inr (inl (inr (x, refl, l)))))
operand_back n (grouped e) p l = inr (inr (inl (e, refl, l)))
operand_back n (prefixed prefix.Not e) p l = inl (e, refl, l)
operand_back n (prefixed prefix.Negative e) p l = inr (inl (e, refl, l))
operand_back n (chain e ls) p l = absurd (omega (arith, l.0.1))
operand_back n (chosen c a b) p l = absurd (omega (arith, l.0.0))
operand_back n (called f es) p l = inr (inr (inr (inl (inl ((f, es), refl, l)))))

-- a link of the line behind this one
abbrev pub LinkL : ℕ → ℕ → Link → List Kind → Type 0
LinkL k n l p = (operator_line l.operator ≡ suc k) × ExprFits l.operand k n × (p ≡ Mark (operator_sign l.operator) ∷ expr_tokens l.operand)

links_to : (k n : ℕ) (ls : List Link) (p : List Kind) → Row (LinkL k n) ls p → LinksFit (links_of ls) k n × (p ≡ links_tokens (links_of ls))
links_to k n [] p h = (tt, h)
links_to k n (l ∷ ls) p (u, v, g, w, h) =
    let others = links_to k n ls v h in
    ((w.0, w.1, others.0), let a = w.2 in let b = others.1 in cc)

abbrev links_list : Links → List Link
links_list no_links = []
links_list (link o e ls) = record { operator = o; operand = e } ∷ links_list ls

links_of-list : (ls : Links) → links_of (links_list ls) ≡ ls
links_of-list no_links = refl
links_of-list (link o e ls) = ap (link o e) (links_of-list ls)

links_back : (k n : ℕ) (ls : Links) → LinksFit ls k n → Row (LinkL k n) (links_list ls) (links_tokens ls)
links_back k n no_links fit = refl
links_back k n (link o e ls) fit = (Mark (operator_sign o) ∷ expr_tokens e, links_tokens ls, refl, (fit.0, fit.1, refl), links_back k n ls fit.2)

-- an expression of a line stands on the next one too
looser : (t : Expr) (k n : ℕ) → k < whole_line → ExprFits t k n → ExprFits t (suc k) n
looser (number v) k n lt h = tt
looser (variable x) k n lt h = tt
looser (grouped e) k n lt h = h
looser (prefixed o e) k n lt h = h
looser (chain e ls) k n lt h = (h.0, omega (arith, h.1), h.2, h.3, h.4)
looser (chosen c a b) k n lt h = absurd (omega (arith, h.0))
looser (called f es) k n lt h = h

chain_to : (k n : ℕ) (e : Expr) (ls : List Link) (u v : List Kind) → k < or_line → ExprL k n e u → Row (LinkL k n) ls v → ExprL (suc k) n (chain_of e ls) (u ++ v)
chain_to k n e [] u v lt l h = (looser e k n (omega arith) l.0, ap (λ z. u ++ z) h ∙ append-nil u ∙ l.1)
chain_to k n e (m ∷ ls) u v lt l h =
    let links = links_to k n (m ∷ ls) v h in
    ((k, omega arith, (λ e. cc), l.0, links.0), λ i. l.1 i ++ links.1 i)

same_or_below : (j k : ℕ) → j < suc k → (j ≡ k) ⊎ (j < k)
same_or_below j k lt = by_test (j == k) refl
  where
    by_test : (b : Bool) → (j == k) ≡ b → (j ≡ k) ⊎ (j < k)
    by_test true e = inl (eqb-true j k e)
    by_test false e = inr (let ne : j ≢ k = λ s. false≢true (sym e ∙ eq-eqb j k s) in omega arith)

-- the operand of a line and the links behind it
abbrev Split : ℕ → ℕ → Expr → List Kind → Type 0
Split k n t p = (e : Expr) × (ls : List Link) × (v : List Kind) × (t ≡ chain_of e ls) × (p ≡ expr_tokens e ++ v) × ExprFits e k n × Row (LinkL k n) ls v

alone : (k n : ℕ) (t : Expr) (p : List Kind) → ExprFits t k n → p ≡ expr_tokens t → Split k n t p
alone k n t p fit e = (t, [], [], refl, e ∙ sym (append-nil (expr_tokens t)), fit, refl)

chain_whole : (e : Expr) (ls : Links) → ls ≢ no_links → chain e ls ≡ chain_of e (links_list ls)
chain_whole e no_links some = absurd (some refl)
chain_whole e (link o x ls) some = ap (λ z. chain e (link o x z)) (sym (links_of-list ls))

split_line : (k n : ℕ) (t : Expr) (p : List Kind) → k < or_line → ExprL (suc k) n t p → Split k n t p
split_line k n (number v) p lt l = alone k n (number v) p tt l.1
split_line k n (variable x) p lt l = alone k n (variable x) p tt l.1
split_line k n (grouped e) p lt l = alone k n (grouped e) p l.0 l.1
split_line k n (prefixed o e) p lt l = alone k n (prefixed o e) p l.0 l.1
split_line k n (chain e ls) p lt l = ⊎_elim
    (λ s. (e, links_list ls, links_tokens ls, chain_whole e ls l.0.2, l.1, subst (λ j. ExprFits e j n) s l.0.3, links_back k n ls (subst (λ j. LinksFit ls j n) s l.0.4)))
    (λ s. alone k n (chain e ls) p (l.0.0, s, l.0.2, l.0.3, l.0.4) l.1)
    (same_or_below l.0.0 k l.0.1)
split_line k n (chosen c a b) p lt l = absurd (omega (arith, l.0.0))
split_line k n (called f es) p lt l = alone k n (called f es) p l.0 l.1

-- the operators
operator_of_sign : (o : Operator) → sign_operator (operator_sign o) ≡ Some o
operator_of_sign operator.Or = refl
operator_of_sign _ = refl

sign_of_operator : (s : Sign) (o : Operator) → sign_operator s ≡ Some o → s ≡ operator_sign o
sign_of_operator sign.Or o h = let e : operator.Or ≡ o = cc in ap operator_sign e
sign_of_operator sign.And o h = let e : operator.And ≡ o = cc in ap operator_sign e
sign_of_operator sign.Same o h = let e : operator.Equal ≡ o = cc in ap operator_sign e
sign_of_operator sign.NotSame o h = let e : operator.NotEqual ≡ o = cc in ap operator_sign e
sign_of_operator sign.Less o h = let e : operator.Less ≡ o = cc in ap operator_sign e
sign_of_operator sign.LessEqual o h = let e : operator.LessOrEqual ≡ o = cc in ap operator_sign e
sign_of_operator sign.Greater o h = let e : operator.Greater ≡ o = cc in ap operator_sign e
sign_of_operator sign.GreaterEqual o h = let e : operator.GreaterOrEqual ≡ o = cc in ap operator_sign e
sign_of_operator sign.Plus o h = let e : operator.Add ≡ o = cc in ap operator_sign e
sign_of_operator sign.Minus o h = let e : operator.Subtract ≡ o = cc in ap operator_sign e
sign_of_operator sign.Star o h = let e : operator.Multiply ≡ o = cc in ap operator_sign e
sign_of_operator sign.Slash o h = let e : operator.Divide ≡ o = cc in ap operator_sign e
sign_of_operator sign.Percent o h = let e : operator.Remainder ≡ o = cc in ap operator_sign e
sign_of_operator _ o h = absurd (let b : ⊥ = cc in b)

operator_rank : (o : Operator) → sign_rank (operator_sign o) ≡ operator_line o + 2
operator_rank operator.Or = refl
operator_rank _ = refl

operator_line_small : (o : Operator) → operator_line o < whole_line
operator_line_small operator.Or = omega arith
operator_line_small _ = omega arith

operator_on : (k : ℕ) → 0 < k → k < whole_line → (o : Operator) × (operator_line o ≡ k)
operator_on zero some lt = absurd (omega arith)
operator_on (suc zero) some lt = (operator.Multiply, omega arith)
operator_on (suc (suc zero)) some lt = (operator.Add, omega arith)
operator_on (suc (suc (suc zero))) some lt = (operator.Less, omega arith)
operator_on (suc (suc (suc (suc zero)))) some lt = (operator.Equal, omega arith)
operator_on (suc (suc (suc (suc (suc zero))))) some lt = (operator.And, omega arith)
operator_on (suc (suc (suc (suc (suc (suc zero)))))) some lt = (operator.Or, omega arith)
operator_on (suc (suc (suc (suc (suc (suc (suc k))))))) some lt = absurd (omega arith)

on_line_is : (k : ℕ) (p : Option Operator) (x : Operator) → on_line k p ≡ Some x → (p ≡ Some x) × (operator_line x ≡ k)
on_line_is k None x h = absurd (let b : ⊥ = cc in b)
on_line_is k (Some o) x h = by_test (operator_line o == k) refl h
  where
    by_test : (b : Bool) → (operator_line o == k) ≡ b → cond b (Some o) None ≡ Some x → (◌≡◌ {A = Option Operator} (Some o) (Some x)) × (operator_line x ≡ k)
    by_test true e h = let s : o ≡ x = cc in (ap Some s, ap operator_line (sym s) ∙ eqb-true (operator_line o) k e)
    by_test false e h = absurd (let b : ⊥ = cc in b)

as_operator_is : (k : ℕ) (t : Kind) (x : Operator) → as_operator k t ≡ Some x → (t ≡ Mark (operator_sign x)) × (operator_line x ≡ k)
as_operator_is k (Mark s) x h = let w = on_line_is k (sign_operator s) x h in (ap Mark (sign_of_operator s x w.0), w.1)
as_operator_is k _ x h = absurd (let b : ⊥ = cc in b)

makes_operator : (k : ℕ) (o : Operator) → operator_line o ≡ k → as_operator k (Mark (operator_sign o)) ≡ Some o
makes_operator k o e = ap (on_line k) (operator_of_sign o) ∙ ap (λ b. cond b (Some o) None) (eq-eqb (operator_line o) k e)

infix_operator : (k : ℕ) → 0 < k → k < whole_line → IsToken (as_operator k) (λ o. Mark (operator_sign o)) (λ o. operator_line o ≡ k) (k + 2)
infix_operator k some lt = record {
  makes = makes_operator k;
  is = as_operator_is k;
  ranked = λ o of. omega (arith, operator_rank o);
  inner = λ o. refl;
  one = operator_on k some lt;
}

some_is : (k : ℕ) (t : Kind) (r : Option Operator) → as_operator k t ≡ r → is_operator k t ≡ true → (o : Operator) × (as_operator k t ≡ Some o)
some_is k t None e h = absurd (let b : ⊥ = cc in b)
some_is k t (Some o) e h = (o, e)

pub operator_ranked : (k : ℕ) (t : Kind) → is_operator k t ≡ true → kind_rank t ≤ k + 2
operator_ranked k t h =
    let w = some_is k t (as_operator k t) refl h in
    let is = as_operator_is k t w.0 w.1 in
    omega (arith, ap kind_rank is.0, operator_rank w.0, is.1)

module _ (o : Option Inner) (n : ℕ) (lev : Level o n) where
  prefixed_reads : (q : Prefix) → Reads (prefixed_at o q) (Of (prefixed q) (ExprL operand_line n)) 1 2 false
  prefixed_reads q = inside o
      (λ i e. let g = lev.some i e in
      said (Of (prefixed q) (ExprL operand_line n)) 1 2 (after (mark (prefix_sign q)) (λ s. seq g.operand (λ e. pure (prefixed q e) 2) (omega arith)) (omega arith)) (sign_ranked (prefix_sign q)) (omega arith)
      (λ t p h. (h.4.0, h.4.5.0, ((g.left, h.4.4.0), let nil = append-nil (expr_tokens h.4.0) in cc)))
      (λ t p l. (tt, expr_tokens l.0, l.2.1, tt, (l.0, expr_tokens l.0, [], sym (append-nil (expr_tokens l.0)), (l.2.0.1, refl), (l.1, refl)))))
      (λ e a p l. absurd (omega (arith, lev.none e, l.2.0.0)))

  group_reads : Reads (group_at o) (Of grouped (ExprL operand_line n)) 1 2 false
  group_reads = inside o
      (λ i e. let g = lev.some i e in
      said (Of grouped (ExprL operand_line n)) 1 2 (after (mark sign.OpenParen) (λ s. seq g.expr (λ e. after (mark sign.CloseParen) (λ c. pure (grouped e) 0) (omega arith)) (omega arith)) (omega arith)) (omega arith) (omega arith)
      (λ t p h. (h.4.0, h.4.5.4.0, ((g.left, h.4.4.0), cc)))
      (λ t p l. (tt, _, l.2.1, tt, (l.0, expr_tokens l.0, Mark sign.CloseParen ∷ [], refl, (l.2.0.1, refl), (tt, [], refl, tt, (l.1, refl))))))
      (λ e a p l. absurd (omega (arith, lev.none e, l.2.0.0)))

  call_reads : (f : Name) → Reads (call_at o f) (Arguments n f) 2 2 false
  call_reads f = inside o
      (λ i e. let g = lev.some i e in
      said (Arguments n f) 2 2 (after (mark sign.OpenParen) (λ s. seq (list sign.CloseParen g.expr (omega arith) (omega arith) (omega arith) (expr_misses sign.CloseParen whole_line (n - 1) refl)) (λ es. pure (called f (exprs_of es)) 0) (omega arith)) (omega arith)) (omega arith) (omega arith)
      (λ t p h.
      let c = commas_to (n - 1) h.4.0 h.4.4.0 h.4.4.2 in
      let nil = append-nil (exprs_tokens (exprs_of h.4.0) ++ Mark sign.CloseParen ∷ []) in
      (exprs_of h.4.0, h.4.5.0, g.left, c.0, let d = c.1 in cc))
      (λ t p l.
      let same = exprs_of-exprs l.0 in
      let made : t ≡ called f (exprs_of (exprs l.0)) = l.1 ∙ ap (called f) (sym same) in (
        tt,
        exprs_tokens l.0 ++ Mark sign.CloseParen ∷ [],
        l.4,
        tt,
        (
          exprs l.0,
          exprs_tokens l.0 ++ Mark sign.CloseParen ∷ [],
          [],
          sym (append-nil (exprs_tokens l.0 ++ Mark sign.CloseParen ∷ [])),
          (exprs_tokens l.0, refl, commas_back (n - 1) (exprs l.0) (exprs_tokens l.0) (subst (λ z. ExprsFit z (n - 1)) (sym same) l.3) (ap exprs_tokens (sym same))),
          (made, refl),
        ),
      )))
      (λ e a p l. absurd (omega (arith, lev.none e, l.2)))

  named_reads : Reads (named_at o) (Named n) 1 2 true
  named_reads = said (Named n) 1 2
      (after lower (λ x. alt (is_mark sign.OpenParen) (call_reads x)
      (said (λ c q. (c ≡ variable x) × (q ≡ [])) 2 2 (pure (variable x) 2) (omega arith) (omega arith) (λ a p h. h) (λ a p h. h))
      (λ t p l. (Mark sign.OpenParen, _, l.4, refl))
      (avoids_nothing (is_mark sign.OpenParen) (variable x) 2 (mark_ranked sign.OpenParen 2 (omega arith)))) (omega arith)) (omega arith) (omega arith)
      (λ t p h. ⊎_elim
      (λ w. inl ((h.0, w.0), w.1, ((w.2, w.3), let e = w.4 in cc)))
      (λ w. inr (h.0, w.0, (tt, let e = w.1 in cc)))
      h.4)
      (λ t p l. ⊎_elim
      (λ w. (w.0.0, _, w.2.1, tt, inl (w.0.1, w.1, w.2.0.0, w.2.0.1, refl)))
      (λ w. (w.0, [], w.2.1, tt, inr (w.1, refl)))
      l)

  number_reads : Reads (λ ts. taken as_number ts >>= λ v. Ok (number v.0, v.1)) (Of number (ExprL operand_line n)) 1 2 true
  number_reads = said (Of number (ExprL operand_line n)) 1 2 (after numeral (λ v. pure (number v) 0) (omega arith)) (omega arith) (omega arith)
      (λ t p h. (h.0, h.4.0, (tt, h.2 ∙ ap (λ z. Number h.0 ∷ z) h.4.1)))
      (λ t p l. (l.0, [], l.2.1, tt, (l.1, refl)))

  named_starts : Starts is_lower (Named n)
  named_starts t p (inl (w, made, l)) = (Lower w.0, _, l.1, refl)
  named_starts t p (inr (x, made, l)) = (Lower x, [], l.1, refl)

  -- what stands behind each test
  abbrev AtLower : Expr → List Kind → Type 0
  AtLower = Or (Named n) (Of number (ExprL operand_line n))

  abbrev AtGroup : Expr → List Kind → Type 0
  AtGroup = Or (Of grouped (ExprL operand_line n)) AtLower

  lower_misses : (s : Sign) → Misses (is_mark s) AtLower
  lower_misses s t p (inl (inl (w, made, l))) = (Lower w.0, _, l.1, refl)
  lower_misses s t p (inl (inr (x, made, l))) = (Lower x, [], l.1, refl)
  lower_misses s t p (inr (v, made, l)) = (Number v, [], l.1, refl)

  group_misses : (s : Sign) → is_mark s (Mark sign.OpenParen) ≡ false → Misses (is_mark s) AtGroup
  group_misses s bad t p (inl (e, made, l)) = (Mark sign.OpenParen, _, l.1, bad)
  group_misses s bad t p (inr l) = lower_misses s t p l

  negative_misses : Misses (is_mark sign.Not) (Or (Of (prefixed prefix.Negative) (ExprL operand_line n)) AtGroup)
  negative_misses t p (inl (e, made, l)) = (Mark sign.Minus, _, l.1, refl)
  negative_misses t p (inr l) = group_misses sign.Not refl t p l

  pub operand_reads : Reads (operand_with o) (ExprL operand_line n) 1 2 true
  unfolding operand_with
  operand_reads = said (ExprL operand_line n) 1 2
      (alt (is_mark sign.Not) (prefixed_reads prefix.Not)
      (alt (is_mark sign.Minus) (prefixed_reads prefix.Negative)
      (alt (is_mark sign.OpenParen) group_reads
      (alt is_lower named_reads number_reads named_starts
      (avoids is_lower (Of number (ExprL operand_line n)) 2 (λ t p l. (Number l.0, [], l.2.1, refl))))
      (λ t p l. (Mark sign.OpenParen, _, l.2.1, refl))
      (avoids (is_mark sign.OpenParen) AtLower 2 (lower_misses sign.OpenParen)))
      (λ t p l. (Mark sign.Minus, _, l.2.1, refl))
      (avoids (is_mark sign.Minus) AtGroup 2 (group_misses sign.Minus refl)))
      (λ t p l. (Mark sign.Not, _, l.2.1, refl))
      (avoids (is_mark sign.Not) (Or (Of (prefixed prefix.Negative) (ExprL operand_line n)) AtGroup) 2 negative_misses))
      (omega arith) (omega arith) (operand_to n) (operand_back n)

  link_reads : (k : ℕ) → k < or_line → Reads (line_with k o) (ExprL k n) 1 (k + 2) true → Reads (link_at (suc k) (line_with k o)) (LinkL k n) (k + 3) (k + 2) true
  link_reads k lt h = said (LinkL k n) (k + 3) (k + 2)
      (after (infix_operator (suc k) (omega arith) (omega arith)) (λ p. seq h (λ e. pure {A = Link} (record { operator = p; operand = e }) (k + 2)) (omega arith)) (omega arith)) (omega arith) (omega arith)
      (λ l p t.
      let made = t.4.5.0 in
      let nil = append-nil (expr_tokens t.4.0) in
      let written : p ≡ Mark (operator_sign t.0) ∷ expr_tokens t.4.0 = let a = t.4.4.1 in cc in
      subst (λ z. LinkL k n z p) (sym made) (t.3, t.4.4.0, written))
      (λ l p t. (l.operator, expr_tokens l.operand, t.2, t.0, (l.operand, expr_tokens l.operand, [], sym (append-nil (expr_tokens l.operand)), (t.1, refl), (refl, refl))))

  link_starts : (k : ℕ) → Starts (is_operator (suc k)) (LinkL k n)
  link_starts k l p t = (Mark (operator_sign l.operator), expr_tokens l.operand, t.2, ap is_some (makes_operator (suc k) l.operator t.0))

  pub line_reads : (k : ℕ) → k < whole_line → Reads (line_with k o) (ExprL k n) 1 (k + 2) true
  unfolding line_with
  line_reads zero lt = said (ExprL zero n) 1 (zero + 2) operand_reads (omega arith) (omega arith) (λ t p l. l) (λ t p l. l)
  line_reads (suc k) lt =
      let below = line_reads k (omega arith) in
      let small : k < or_line = omega arith in
      said (ExprL (suc k) n) 1 (suc k + 2)
      (seq below (λ e. seq (row (is_operator (suc k)) (k + 3) (k + 3) (link_reads k small below) (link_starts k) (omega arith) (omega arith) (omega arith) (omega arith) (λ t h. let r = operator_ranked (suc k) t h in omega arith)) (λ ls. pure (chain_of e ls) (k + 3)) (omega arith)) (omega arith))
      (omega arith) (omega arith)
      (λ t p h.
      let w = chain_to k n h.0 h.5.0 h.1 h.5.1 small h.4 h.5.4 in
      let made = h.5.5.0 in
      let nil = append-nil h.5.1 in
      let split : p ≡ h.1 ++ h.5.1 = cc in
      subst (λ z. ExprL (suc k) n z p) (sym made) (w.0, split ∙ w.1))
      (λ t p l.
      let s = split_line k n t p small l in
      (s.0, expr_tokens s.0, s.2, s.4, (s.5, refl), (s.1, s.2, [], sym (append-nil s.2), s.6, (s.3, refl))))

  -- what stands behind a test
  abbrev Choice : Expr → Expr → List Kind → Type 0
  Choice c t p = (a : Expr) × (b : Expr) × (t ≡ chosen c a b) × (0 < n) × ExprFits a whole_line (n - 1) × ExprFits b whole_line (n - 1) × (p ≡ Mark sign.Question ∷ (expr_tokens a ++ Mark sign.Colon ∷ expr_tokens b))

  choice_reads : (c : Expr) → Reads (choice_at o c) (Choice c) 9 9 false
  choice_reads c = inside o
      (λ i e. let g = lev.some i e in
      said (Choice c) 9 9 (after (mark sign.Question) (λ q. seq g.expr (λ a. after (mark sign.Colon) (λ s. seq g.expr (λ b. pure (chosen c a b) 9) (omega arith)) (omega arith)) (omega arith)) (omega arith)) (omega arith) (omega arith)
      (λ t p h.
      let nil = append-nil (expr_tokens h.4.5.4.0) in
      (h.4.0, h.4.5.4.0, h.4.5.4.5.0, g.left, h.4.4.0, h.4.5.4.4.0, let a = h.4.4.1 in let b = h.4.5.4.4.1 in cc))
      (λ t p l. (tt, _, l.6, tt, (l.0, expr_tokens l.0, Mark sign.Colon ∷ expr_tokens l.1, refl, (l.4, refl), (tt, expr_tokens l.1, refl, tt, (l.1, expr_tokens l.1, [], sym (append-nil (expr_tokens l.1)), (l.5, refl), (l.2, refl)))))))
      (λ e a p l. absurd (omega (arith, lev.none e, l.3)))

  -- an expression is a test alone, or a choice
  abbrev Whole : Expr → List Kind → Type 0
  Whole = Then (ExprL or_line n) (λ c. Or (Choice c) (λ t q. (t ≡ c) × (q ≡ [])))

  whole_to : (t : Expr) (p : List Kind) → Whole t p → ExprL whole_line n t p
  whole_to t p (c, u, v, e, l, inl (a, b, made, left, fa, fb, w)) =
      subst (λ z. ExprL whole_line n z p) (sym made) ((refl, l.0, left, fa, fb), e ∙ (λ i. l.1 i ++ w i))
  whole_to t p (c, u, v, e, l, inr (made, nil)) =
      subst (λ z. ExprL whole_line n z p) (sym made) (looser c or_line n (omega arith) l.0, e ∙ ap (λ z. u ++ z) nil ∙ append-nil u ∙ l.1)

  test_alone : (t : Expr) (p : List Kind) → ExprFits t or_line n → p ≡ expr_tokens t → Whole t p
  test_alone t p fit e = (t, expr_tokens t, [], e ∙ sym (append-nil (expr_tokens t)), (fit, refl), inr (refl, refl))

  links_small : (ls : Links) (j : ℕ) → ls ≢ no_links → LinksFit ls j n → j < or_line
  links_small no_links j some h = absurd (some refl)
  links_small (link p e ls) j some h = omega (arith, h.0, operator_line_small p)

  whole_back : (t : Expr) (p : List Kind) → ExprL whole_line n t p → Whole t p
  whole_back (number v) p l = test_alone (number v) p tt l.1
  whole_back (variable x) p l = test_alone (variable x) p tt l.1
  whole_back (grouped e) p l = test_alone (grouped e) p l.0 l.1
  whole_back (prefixed q e) p l = test_alone (prefixed q e) p l.0 l.1
  whole_back (chain e ls) p l = test_alone (chain e ls) p (l.0.0, links_small ls l.0.0 l.0.2 l.0.4, l.0.2, l.0.3, l.0.4) l.1
  whole_back (chosen c a b) p l = (c, expr_tokens c, _, l.1, (l.0.1, refl), inl (a, b, refl, l.0.2, l.0.3, l.0.4, refl))
  whole_back (called f es) p l = test_alone (called f es) p l.0 l.1

  pub whole_reads : Reads (expr_with o) (ExprL whole_line n) 1 9 true
  unfolding expr_with
  whole_reads = said (ExprL whole_line n) 1 9
      (seq (line_reads or_line (omega arith)) (λ c. alt (is_mark sign.Question) (choice_reads c)
      (said (λ t q. (t ≡ c) × (q ≡ [])) 9 9 (pure c 9) (omega arith) (omega arith) (λ a p h. h) (λ a p h. h))
      (λ t p l. (Mark sign.Question, _, l.6, refl))
      (avoids_nothing (is_mark sign.Question) c 9 (mark_ranked sign.Question 9 (omega arith)))) (omega arith))
      (omega arith) (omega arith) whole_to whole_back

pub level : (n : ℕ) → Level (inner_at n) n
level zero = record { some = λ i e. absurd (let b : ⊥ = cc in b); none = λ e. refl }
level (suc n) = record { some = deeper (level n); none = λ e. absurd (let b : ⊥ = cc in b) }
  where
    deeper : Level (inner_at n) n → (i : Inner) → inner_at (suc n) ≡ Some i → Deeper i (suc n)
    deeper lev i e =
        let same : record { expr = expr_with (inner_at n); operand = operand_with (inner_at n) } ≡ i = cc in
        let pred : n ≡ suc n - 1 = omega arith in
        subst (λ j. Deeper j (suc n)) same (record {
          left = omega arith;
          expr = subst (λ k. Reads (expr_with (inner_at n)) (ExprL whole_line k) 1 9 true) pred (whole_reads (inner_at n) n lev);
          operand = subst (λ k. Reads (operand_with (inner_at n)) (ExprL operand_line k) 1 2 true) pred (operand_reads (inner_at n) n lev);
        })

-- an expression
pub expr_reads : (n : ℕ) → Reads (expr_at n) (ExprL whole_line n) 1 9 true
expr_reads n = whole_reads (inner_at n) n (level n)

-- a line with operators
pub test_reads : (n : ℕ) → Reads (line_at or_line n) (ExprL or_line n) 1 8 true
test_reads n = line_reads (inner_at n) n (level n) or_line (omega arith)

-- how the loops of expressions turn
pub links_loop : (k n : ℕ) → k < or_line → Loop (is_operator (suc k)) (link_at (suc k) (line_with k (inner_at n)))
links_loop k n small =
    let lev = level n in
    let below = line_reads (inner_at n) n lev k (omega arith) in
    loop (is_operator (suc k)) (k + 3) (k + 3) (link_reads (inner_at n) n lev k small below) (link_starts (inner_at n) n lev k) (omega arith) (omega arith) (omega arith) (omega arith) (λ t h. let r = operator_ranked (suc k) t h in omega arith)

pub exprs_loop : (n : ℕ) → Loop (is_mark sign.Comma) (behind_comma (expr_at n))
exprs_loop n = list_loop sign.CloseParen (expr_reads n) (omega arith) (omega arith) (omega arith) (expr_misses sign.CloseParen whole_line n refl)
