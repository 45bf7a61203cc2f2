-- The laws of reading statements.
use Rattle.std.proofs.Common.{◌≡◌, ◌≢◌, ℕ, ◌≤◌, Bool, true, false, ◌||◌, ◌&&◌, ◌⊎◌, inl, inr, ⊎_elim, Some, List, [], ◌∷◌, ◌++◌, codes, flat_map, refl, sym, ap, ◌∙◌, subst, append_assoc, append-nil, arith}
use Rattle.std.proofs.lemmas.Bool.{false≢true}
use Rattle.rx_base.specs.Values.{Name}
use Rattle.rx_lex.specs.declared.token.Keyword.{Keyword}
use Rattle.rx_lex.specs.declared.token.Keyword.TheVariants as word
use Rattle.rx_lex.specs.declared.token.Sign.TheVariants as sign
use Rattle.rx_lex.specs.declared.token.Kind.{Kind}
use Rattle.rx_lex.specs.declared.token.Kind.TheVariants.{Upper, Lower, Text, Word, Mark}
use Rattle.std.specs.List.{list_all}
use Rattle.rx_lex.specs.Tokens.{IsRun, is_word_byte}
use Rattle.rx_ast.specs.Syntax.{Expr, exprs_of, Statement, state, reducer, transition, context, use_resource, constant, effect, throw_if}
use Rattle.rx_print.specs.Printing.{expr_tokens, exprs_tokens, statement_tokens}
use Rattle.rx_print.specs.Levels.{whole_line, ExprFits, ExprsFit, StatementFits, StatementsFit}
use Rattle.rx_grammar.specs.Steps.{is_mark, is_word}
use Rattle.rx_grammar.specs.Reading.{is_resource, where_resource, as_resource, argument_at, hook_at, pair_at, value_statement, const_at, effect_at, throw_at, statement_at, is_statement, statements_at}
use Rattle.rx_grammar.proofs.Readings.{kind_rank, Reads, said}
use Rattle.rx_grammar.proofs.Combine.{pure, seq, after, alt, After, Or, Starts, Misses, avoids, misses_or, Always, IsToken}
use Rattle.rx_grammar.proofs.Many.{Row, row, Loop, loop}
use Rattle.rx_grammar.proofs.Tokens.{mark, reserved, lower, upper, quoted, word_ranked}
use Rattle.rx_grammar.proofs.Lists.{list}
use Rattle.rx_grammar.proofs.Exprs.{expr_begins, expr_misses, expr_reads, commas_to, commas_back}
use Rattle.rx_grammar.proofs.Slots.{word_other}

-- a statement with so many levels left
abbrev pub StatementL : ℕ → Statement → List Kind → Type 0
StatementL n s p = StatementFits s n × (p ≡ statement_tokens s)

-- the names of resources
run_all : (r : List ℕ) → list_all is_word_byte r ≡ true → IsRun is_word_byte r
run_all [] h = tt
run_all (b ∷ bs) h = by_test (run_all bs) (is_word_byte b) refl h
  where
    by_test : (list_all is_word_byte bs ≡ true → IsRun is_word_byte bs) → (c : Bool) → is_word_byte b ≡ c → c && list_all is_word_byte bs ≡ true → IsRun is_word_byte (b ∷ bs)
    by_test others true e g = (e, others g)
    by_test others false e g = absurd (false≢true g)

all_run : (r : List ℕ) → IsRun is_word_byte r → list_all is_word_byte r ≡ true
all_run [] h = refl
all_run (b ∷ bs) h = ap (λ c. c && list_all is_word_byte bs) h.0 ∙ all_run bs h.1

resource_named : (r : List ℕ) → is_resource r ≡ true → (r ≢ []) × IsRun is_word_byte r
resource_named [] h = absurd (false≢true h)
resource_named (b ∷ bs) h = ((λ e. cc), run_all (b ∷ bs) h)

named_resource : (r : List ℕ) → r ≢ [] → IsRun is_word_byte r → is_resource r ≡ true
named_resource [] some h = absurd (some refl)
named_resource (b ∷ bs) some h = all_run (b ∷ bs) h

where_resource_is : (b : Bool) (r x : Name) → where_resource b r ≡ Some x → (b ≡ true) × (r ≡ x)
where_resource_is true r x h = (refl, cc)
where_resource_is false r x h = absurd (let b : ⊥ = cc in b)

as_resource_is : (k : Kind) (x : Name) → as_resource k ≡ Some x → (k ≡ Text x) × (is_resource x ≡ true)
as_resource_is (Text r) x h = let w = where_resource_is (is_resource r) r x h in (ap Text w.1, ap is_resource (sym w.1) ∙ w.0)
as_resource_is _ x h = absurd (let b : ⊥ = cc in b)

resource_name : IsToken as_resource (λ r. Text r) (λ r. is_resource r ≡ true) 11
resource_name = record {
  makes = λ x of. ap (λ b. where_resource b x) of;
  is = as_resource_is;
  ranked = λ x of. omega arith;
  inner = λ x. refl;
  one = (codes "a", refl);
}

-- an expression and `);`
abbrev Argument : ℕ → Expr → List Kind → Type 0
Argument n e p = ExprFits e whole_line n × (p ≡ expr_tokens e ++ Mark sign.CloseParen ∷ Mark sign.Semicolon ∷ [])

argument_reads : (n : ℕ) → Reads (argument_at n) (Argument n) 1 0 true
argument_reads n = said (Argument n) 1 0
    (seq (expr_reads n) (λ e. after (mark sign.CloseParen) (λ c. after (mark sign.Semicolon) (λ s. pure e 0) (omega arith)) (omega arith)) (omega arith)) (omega arith) (omega arith)
    (λ t p h. let made = h.5.4.4.0 in subst (λ z. Argument n z p) (sym made) (h.4.0, let a = h.4.1 in cc))
    (λ t p l. (t, expr_tokens t, _, l.1, (l.0, refl), (tt, _, refl, tt, (tt, [], refl, tt, (refl, refl)))))

-- a hook with a setter, behind `=`
abbrev State : ℕ → Name → Name → Statement → List Kind → Type 0
State n x y s p = (e : Expr) × (s ≡ state x y e) × ExprFits e whole_line n × (p ≡ Word word.UseState ∷ Mark sign.OpenParen ∷ (expr_tokens e ++ Mark sign.CloseParen ∷ Mark sign.Semicolon ∷ []))

abbrev Reducer : ℕ → Name → Name → Statement → List Kind → Type 0
Reducer n x y s p = (f : Name) × (e : Expr) × (s ≡ reducer x y f e) × ExprFits e whole_line n × (p ≡ Word word.UseReducer ∷ Mark sign.OpenParen ∷ Lower f ∷ Mark sign.Comma ∷ (expr_tokens e ++ Mark sign.CloseParen ∷ Mark sign.Semicolon ∷ []))

abbrev Transition : Name → Name → Statement → List Kind → Type 0
Transition x y s p = (s ≡ transition x y) × (p ≡ Word word.UseTransition ∷ Mark sign.OpenParen ∷ Mark sign.CloseParen ∷ Mark sign.Semicolon ∷ [])

abbrev Hook : ℕ → Name → Name → Statement → List Kind → Type 0
Hook n x y = Or (State n x y) (Or (Transition x y) (Reducer n x y))

hook_reads : (n : ℕ) (x y : Name) → Reads (hook_at n x y) (Hook n x y) 1 0 true
unfolding hook_at
hook_reads n x y = alt (is_word word.UseState)
    (said (State n x y) 1 0 (after (reserved word.UseState) (λ w. after (mark sign.OpenParen) (λ p. seq (argument_reads n) (λ e. pure (state x y e) 0) (omega arith)) (omega arith)) (omega arith)) (omega arith) (omega arith)
    (λ s p h. let a = h.4.4 in (a.0, a.5.0, a.4.0, let b = a.4.1 in let nil = append-nil a.1 in cc))
    (λ s p l. (tt, _, l.3, tt, (tt, _, refl, tt, (l.0, _, [], sym (append-nil _), (l.2, refl), (l.1, refl))))))
    (alt (is_word word.UseTransition)
    (said (Transition x y) 1 0 (after (reserved word.UseTransition) (λ w. after (mark sign.OpenParen) (λ p. after (mark sign.CloseParen) (λ c. after (mark sign.Semicolon) (λ s. pure (transition x y) 0) (omega arith)) (omega arith)) (omega arith)) (omega arith)) (omega arith) (omega arith)
    (λ s p h. (h.4.4.4.4.0, cc))
    (λ s p l. (tt, _, l.1, tt, (tt, _, refl, tt, (tt, _, refl, tt, (tt, [], refl, tt, (l.0, refl)))))))
    (said (Reducer n x y) 1 0 (after (reserved word.UseReducer) (λ w. after (mark sign.OpenParen) (λ p. after lower (λ f. after (mark sign.Comma) (λ c. seq (argument_reads n) (λ e. pure (reducer x y f e) 0) (omega arith)) (omega arith)) (omega arith)) (omega arith)) (omega arith)) (omega arith) (omega arith)
    (λ s p h. let a = h.4.4.4.4 in (h.4.4.0, a.0, a.5.0, a.4.0, let b = a.4.1 in let nil = append-nil a.1 in cc))
    (λ s p l. (tt, _, l.4, tt, (tt, _, refl, tt, (l.0, _, refl, tt, (tt, _, refl, tt, (l.1, _, [], sym (append-nil _), (l.3, refl), (l.2, refl))))))))
    (λ s p l. (Word word.UseTransition, _, l.1, refl))
    (avoids (is_word word.UseTransition) (Reducer n x y) 0 (λ s p l. (Word word.UseReducer, _, l.4, refl))))
    (λ s p l. (Word word.UseState, _, l.3, refl))
    (avoids (is_word word.UseState) (Or (Transition x y) (Reducer n x y)) 0
    (misses_or (is_word word.UseState) (Transition x y) (Reducer n x y) (λ s p l. (Word word.UseTransition, _, l.1, refl)) (λ s p l. (Word word.UseReducer, _, l.4, refl))))

-- behind `const`
abbrev Pair : ℕ → Statement → List Kind → Type 0
Pair n s p = (x : Name) × (y : Name) × (v : List Kind) × (p ≡ Mark sign.OpenBracket ∷ Lower x ∷ Mark sign.Comma ∷ Lower y ∷ Mark sign.CloseBracket ∷ Mark sign.Equals ∷ v) × Hook n x y s v

pair_reads : (n : ℕ) → Reads (pair_at n) (Pair n) 1 0 true
unfolding pair_at
pair_reads n = said (Pair n) 1 0
    (after (mark sign.OpenBracket) (λ o. after lower (λ x. after (mark sign.Comma) (λ m. after lower (λ y. after (mark sign.CloseBracket) (λ c. after (mark sign.Equals) (λ q. hook_reads n x y) (omega arith)) (omega arith)) (omega arith)) (omega arith)) (omega arith)) (omega arith)) (omega arith) (omega arith)
    (λ s p h. let e = h.4.4.4.4.4 in (h.4.0, h.4.4.4.0, e.1, cc, e.4))
    (λ s p l. (tt, _, l.3, tt, (l.0, _, refl, tt, (tt, _, refl, tt, (l.1, _, refl, tt, (tt, _, refl, tt, (tt, l.2, refl, tt, l.4)))))))

-- behind `const name =`
abbrev Context : Name → Statement → List Kind → Type 0
Context x s p = (c : Name) × (s ≡ context x c) × (p ≡ Word word.UseContext ∷ Mark sign.OpenParen ∷ Upper c ∷ Mark sign.CloseParen ∷ Mark sign.Semicolon ∷ [])

abbrev Resource : Name → Statement → List Kind → Type 0
Resource x s p = (r : Name) × (s ≡ use_resource x r) × (is_resource r ≡ true) × (p ≡ Word word.Use ∷ Mark sign.OpenParen ∷ Text r ∷ Mark sign.CloseParen ∷ Mark sign.Semicolon ∷ [])

abbrev Constant : ℕ → Name → Statement → List Kind → Type 0
Constant n x s p = (e : Expr) × (s ≡ constant x e) × ExprFits e whole_line n × (p ≡ expr_tokens e ++ Mark sign.Semicolon ∷ [])

abbrev Value : ℕ → Name → Statement → List Kind → Type 0
Value n x = Or (Context x) (Or (Resource x) (Constant n x))

constant_misses : (n : ℕ) (x : Name) (w : Keyword) → Misses (is_word w) (Constant n x)
constant_misses n x w s p l =
    let b = expr_begins l.0 in
    (b.0, b.1 ++ Mark sign.Semicolon ∷ [], l.3 ∙ ap (λ z. z ++ Mark sign.Semicolon ∷ []) b.2, word_other w b.0 b.3)

value_reads : (n : ℕ) (x : Name) → Reads (value_statement n x) (Value n x) 1 0 true
unfolding value_statement
value_reads n x = alt (is_word word.UseContext)
    (said (Context x) 1 0 (after (reserved word.UseContext) (λ w. after (mark sign.OpenParen) (λ p. after upper (λ c. after (mark sign.CloseParen) (λ r. after (mark sign.Semicolon) (λ s. pure (context x c) 0) (omega arith)) (omega arith)) (omega arith)) (omega arith)) (omega arith)) (omega arith) (omega arith)
    (λ s p h. (h.4.4.0, h.4.4.4.4.4.0, cc))
    (λ s p l. (tt, _, l.2, tt, (tt, _, refl, tt, (l.0, _, refl, tt, (tt, _, refl, tt, (tt, [], refl, tt, (l.1, refl))))))))
    (alt (is_word word.Use)
    (said (Resource x) 1 0 (after (reserved word.Use) (λ w. after (mark sign.OpenParen) (λ p. after resource_name (λ t. after (mark sign.CloseParen) (λ r. after (mark sign.Semicolon) (λ s. pure (use_resource x t) 0) (omega arith)) (omega arith)) (omega arith)) (omega arith)) (omega arith)) (omega arith) (omega arith)
    (λ s p h. (h.4.4.0, h.4.4.4.4.4.0, h.4.4.3, cc))
    (λ s p l. (tt, _, l.3, tt, (tt, _, refl, tt, (l.0, _, refl, l.2, (tt, _, refl, tt, (tt, [], refl, tt, (l.1, refl))))))))
    (said (Constant n x) 1 0 (seq (expr_reads n) (λ e. after (mark sign.Semicolon) (λ s. pure (constant x e) 0) (omega arith)) (omega arith)) (omega arith) (omega arith)
    (λ s p h. (h.0, h.5.4.0, h.4.0, let a = h.4.1 in cc))
    (λ s p l. (l.0, expr_tokens l.0, _, l.3, (l.2, refl), (tt, [], refl, tt, (l.1, refl)))))
    (λ s p l. (Word word.Use, _, l.3, refl))
    (avoids (is_word word.Use) (Constant n x) 0 (constant_misses n x word.Use)))
    (λ s p l. (Word word.UseContext, _, l.2, refl))
    (avoids (is_word word.UseContext) (Or (Resource x) (Constant n x)) 0
    (misses_or (is_word word.UseContext) (Resource x) (Constant n x) (λ s p l. (Word word.Use, _, l.3, refl)) (constant_misses n x word.UseContext)))

abbrev Named : ℕ → Statement → List Kind → Type 0
Named n s p = (x : Name) × (v : List Kind) × (p ≡ Lower x ∷ Mark sign.Equals ∷ v) × Value n x s v

-- a statement that begins with `const`
abbrev Const : ℕ → Statement → List Kind → Type 0
Const n = After (λ (u : Unit {0}). Word word.Const) Always (λ u. Or (Pair n) (Named n))

const_reads : (n : ℕ) → Reads (const_at n) (Const n) 1 0 true
unfolding const_at
const_reads n = after (reserved word.Const) (λ w. alt (is_mark sign.OpenBracket) (pair_reads n)
    (said (Named n) 1 0 (after lower (λ x. after (mark sign.Equals) (λ q. value_reads n x) (omega arith)) (omega arith)) (omega arith) (omega arith)
    (λ s p h. (h.0, h.4.1, h.2 ∙ ap (λ z. Lower h.0 ∷ z) h.4.2, h.4.4))
    (λ s p l. (l.0, _, l.2, tt, (tt, l.1, refl, tt, l.3))))
    (λ s p l. (Mark sign.OpenBracket, _, l.3, refl))
    (avoids (is_mark sign.OpenBracket) (Named n) 0 (λ s p l. (Lower l.0, _, l.2, refl)))) (omega arith)

-- an effect behind its word
abbrev Effect : ℕ → Bool → Statement → List Kind → Type 0
Effect n l s p = (t : List ℕ) × (es : List Expr) × (s ≡ effect l t es) × ExprsFit (exprs_of es) n × (p ≡ Mark sign.OpenParen ∷ Text t ∷ Mark sign.Comma ∷ Mark sign.OpenBracket ∷ (exprs_tokens (exprs_of es) ++ Mark sign.CloseBracket ∷ Mark sign.CloseParen ∷ Mark sign.Semicolon ∷ []))

effect_reads : (n : ℕ) (layout : Bool) → Reads (effect_at n layout) (Effect n layout) 1 0 true
unfolding effect_at
effect_reads n layout = said (Effect n layout) 1 0
    (after (mark sign.OpenParen) (λ p. after quoted (λ t. after (mark sign.Comma) (λ c. after (mark sign.OpenBracket) (λ b. seq (list sign.CloseBracket (expr_reads n) (omega arith) (omega arith) (omega arith) (expr_misses sign.CloseBracket whole_line n refl)) (λ es. after (mark sign.CloseParen) (λ r. after (mark sign.Semicolon) (λ s. pure (effect layout t es) 0) (omega arith)) (omega arith)) (omega arith)) (omega arith)) (omega arith)) (omega arith)) (omega arith)) (omega arith) (omega arith)
    (λ s p h.
    let a = h.4.4.4.4 in
    let c = commas_to n a.0 a.4.0 a.4.2 in
    let ks = exprs_tokens (exprs_of a.0) in
    let tail : a.2 ≡ Mark sign.CloseParen ∷ Mark sign.Semicolon ∷ [] = cc in
    let items : a.1 ≡ ks ++ Mark sign.CloseBracket ∷ [] = a.4.1 ∙ ap (λ z. z ++ Mark sign.CloseBracket ∷ []) c.1 in
    let content : h.4.4.4.1 ≡ ks ++ Mark sign.CloseBracket ∷ Mark sign.CloseParen ∷ Mark sign.Semicolon ∷ [] = a.3 ∙ ((λ i. items i ++ tail i) ∙ append_assoc ks (Mark sign.CloseBracket ∷ []) (Mark sign.CloseParen ∷ Mark sign.Semicolon ∷ [])) in
    (h.4.0, a.0, a.5.4.4.0, c.0, cc))
    (λ s p l.
    let ks = exprs_tokens (exprs_of l.1) in
    (tt, _, l.4, tt, (l.0, _, refl, tt, (tt, _, refl, tt, (tt, _, refl, tt, (l.1, ks ++ Mark sign.CloseBracket ∷ [], Mark sign.CloseParen ∷ Mark sign.Semicolon ∷ [], sym (append_assoc ks (Mark sign.CloseBracket ∷ []) (Mark sign.CloseParen ∷ Mark sign.Semicolon ∷ [])), (ks, refl, commas_back n l.1 ks l.3 refl), (tt, _, refl, tt, (tt, [], refl, tt, (l.2, refl)))))))))

abbrev Passive : ℕ → Statement → List Kind → Type 0
Passive n = After (λ (u : Unit {0}). Word word.UseEffect) Always (λ u. Effect n false)

abbrev Layout : ℕ → Statement → List Kind → Type 0
Layout n = After (λ (u : Unit {0}). Word word.UseLayoutEffect) Always (λ u. Effect n true)

-- `throwIf`, `(`, an expression and `);`
abbrev Throw : ℕ → Statement → List Kind → Type 0
Throw n s p = (e : Expr) × (s ≡ throw_if e) × ExprFits e whole_line n × (p ≡ Word word.ThrowIf ∷ Mark sign.OpenParen ∷ (expr_tokens e ++ Mark sign.CloseParen ∷ Mark sign.Semicolon ∷ []))

throw_reads : (n : ℕ) → Reads (throw_at n) (Throw n) 1 0 true
unfolding throw_at
throw_reads n = said (Throw n) 1 0
    (after (reserved word.ThrowIf) (λ w. after (mark sign.OpenParen) (λ p. seq (argument_reads n) (λ e. pure (throw_if e) 0) (omega arith)) (omega arith)) (omega arith)) (omega arith) (omega arith)
    (λ s p h. let a = h.4.4 in (a.0, a.5.0, a.4.0, let b = a.4.1 in let nil = append-nil a.1 in cc))
    (λ s p l. (tt, _, l.3, tt, (tt, _, refl, tt, (l.0, _, [], sym (append-nil _), (l.2, refl), (l.1, refl)))))

abbrev Any : ℕ → Statement → List Kind → Type 0
Any n = Or (Const n) (Or (Throw n) (Or (Passive n) (Layout n)))

-- the two ways to write the end of a statement
ends : (ks : List Kind) → (ks ++ Mark sign.CloseParen ∷ []) ++ Mark sign.Semicolon ∷ [] ≡ ks ++ Mark sign.CloseParen ∷ Mark sign.Semicolon ∷ []
ends ks = append_assoc ks (Mark sign.CloseParen ∷ []) (Mark sign.Semicolon ∷ [])

effect_ends : (ks : List Kind) → ((ks ++ Mark sign.CloseBracket ∷ []) ++ Mark sign.CloseParen ∷ []) ++ Mark sign.Semicolon ∷ [] ≡ ks ++ Mark sign.CloseBracket ∷ Mark sign.CloseParen ∷ Mark sign.Semicolon ∷ []
effect_ends ks = simp append_assoc

statement_to : (n : ℕ) (s : Statement) (p : List Kind) → Any n s p → StatementL n s p
statement_to n s p (inl (u, v, e, t, inl (x, y, w, f, inl (a, made, fit, g)))) = subst (λ z. StatementL n z p) (sym made) (fit, let h = ends (expr_tokens a) in cc)
statement_to n s p (inl (u, v, e, t, inl (x, y, w, f, inr (inl (made, g))))) = subst (λ z. StatementL n z p) (sym made) (tt, cc)
statement_to n s p (inl (u, v, e, t, inl (x, y, w, f, inr (inr (c, a, made, fit, g))))) = subst (λ z. StatementL n z p) (sym made) (fit, let h = ends (expr_tokens a) in cc)
statement_to n s p (inl (u, v, e, t, inr (x, w, f, inl (c, made, g)))) = subst (λ z. StatementL n z p) (sym made) (tt, cc)
statement_to n s p (inl (u, v, e, t, inr (x, w, f, inr (inl (r, made, named, g))))) = subst (λ z. StatementL n z p) (sym made) (resource_named r named, cc)
statement_to n s p (inl (u, v, e, t, inr (x, w, f, inr (inr (a, made, fit, g))))) = subst (λ z. StatementL n z p) (sym made) (fit, cc)
statement_to n s p (inr (inl (a, made, fit, g))) = subst (λ z. StatementL n z p) (sym made) (fit, let h = ends (expr_tokens a) in cc)
statement_to n s p (inr (inr (inl (u, v, e, t, (l, es, made, fit, g))))) = subst (λ z. StatementL n z p) (sym made) (fit, let h = effect_ends (exprs_tokens (exprs_of es)) in cc)
statement_to n s p (inr (inr (inr (u, v, e, t, (l, es, made, fit, g))))) = subst (λ z. StatementL n z p) (sym made) (fit, let h = effect_ends (exprs_tokens (exprs_of es)) in cc)

statement_back : (n : ℕ) (s : Statement) (p : List Kind) → StatementL n s p → Any n s p
statement_back n (state x y e) p l =
    inl (tt, _, l.1, tt, inl (x, y, _, refl, inl (e, refl, l.0, ap (λ z. Word word.UseState ∷ Mark sign.OpenParen ∷ z) (ends (expr_tokens e)))))
statement_back n (reducer x y f e) p l =
    inl (tt, _, l.1, tt, inl (x, y, _, refl, inr (inr (f, e, refl, l.0, ap (λ z. Word word.UseReducer ∷ Mark sign.OpenParen ∷ Lower f ∷ Mark sign.Comma ∷ z) (ends (expr_tokens e))))))
statement_back n (transition x y) p l = inl (tt, _, l.1, tt, inl (x, y, _, refl, inr (inl (refl, refl))))
statement_back n (context x c) p l = inl (tt, _, l.1, tt, inr (x, _, refl, inl (c, refl, refl)))
statement_back n (use_resource x r) p l = inl (tt, _, l.1, tt, inr (x, _, refl, inr (inl (r, refl, named_resource r l.0.0 l.0.1, refl))))
statement_back n (constant x e) p l = inl (tt, _, l.1, tt, inr (x, _, refl, inr (inr (e, refl, l.0, refl))))
statement_back n (effect false t es) p l =
    inr (inr (inl (tt, _, l.1, tt, (t, es, refl, l.0, ap (λ z. Mark sign.OpenParen ∷ Text t ∷ Mark sign.Comma ∷ Mark sign.OpenBracket ∷ z) (effect_ends (exprs_tokens (exprs_of es)))))))
statement_back n (effect true t es) p l =
    inr (inr (inr (tt, _, l.1, tt, (t, es, refl, l.0, ap (λ z. Mark sign.OpenParen ∷ Text t ∷ Mark sign.Comma ∷ Mark sign.OpenBracket ∷ z) (effect_ends (exprs_tokens (exprs_of es)))))))
statement_back n (throw_if e) p l =
    inr (inl (e, refl, l.0, l.1 ∙ ap (λ z. Word word.ThrowIf ∷ Mark sign.OpenParen ∷ z) (ends (expr_tokens e))))

pub statement_reads : (n : ℕ) → Reads (statement_at n) (StatementL n) 1 0 true
unfolding statement_at
statement_reads n = said (StatementL n) 1 0
    (alt (is_word word.Const) (const_reads n)
    (alt (is_word word.ThrowIf) (throw_reads n)
    (alt (is_word word.UseEffect)
    (after (reserved word.UseEffect) (λ w. effect_reads n false) (omega arith))
    (after (reserved word.UseLayoutEffect) (λ w. effect_reads n true) (omega arith))
    (λ s p l. (Word word.UseEffect, _, l.2, refl))
    (avoids (is_word word.UseEffect) (Layout n) 0 (λ s p l. (Word word.UseLayoutEffect, _, l.2, refl))))
    (λ s p l. (Word word.ThrowIf, _, l.3, refl))
    (avoids (is_word word.ThrowIf) (Or (Passive n) (Layout n)) 0 (effects_miss word.ThrowIf refl refl)))
    (λ s p l. (Word word.Const, _, l.2, refl))
    (avoids (is_word word.Const) (Or (Throw n) (Or (Passive n) (Layout n))) 0
    (misses_or (is_word word.Const) (Throw n) (Or (Passive n) (Layout n)) (λ s p l. (Word word.ThrowIf, _, l.3, refl)) (effects_miss word.Const refl refl))))
    (omega arith) (omega arith) (statement_to n) (statement_back n)
  where
    effects_miss : (w : Keyword) → is_word w (Word word.UseEffect) ≡ false → is_word w (Word word.UseLayoutEffect) ≡ false → Misses (is_word w) (Or (Passive n) (Layout n))
    effects_miss w first second = misses_or (is_word w) (Passive n) (Layout n) (λ s p l. (Word word.UseEffect, _, l.2, first)) (λ s p l. (Word word.UseLayoutEffect, _, l.2, second))

statement_starts : (n : ℕ) → Starts is_statement (StatementL n)
statement_starts n s p l = by_back (statement_back n s p l)
  where
    by_back : Any n s p → (k : Kind) × (v : List Kind) × (p ≡ k ∷ v) × (is_statement k ≡ true)
    by_back (inl m) = (Word word.Const, m.1, m.2, refl)
    by_back (inr (inl m)) = (Word word.ThrowIf, _, m.3, refl)
    by_back (inr (inr (inl m))) = (Word word.UseEffect, m.1, m.2, refl)
    by_back (inr (inr (inr m))) = (Word word.UseLayoutEffect, m.1, m.2, refl)

pub or_true : (b c : Bool) → b || c ≡ true → (b ≡ true) ⊎ (c ≡ true)
or_true true c e = inl refl
or_true false c e = inr e

statement_ranked : (k : Kind) → is_statement k ≡ true → kind_rank k ≤ 1
statement_ranked k h = ⊎_elim
    (λ w. word_ranked word.Const 1 (omega arith) k w)
    (λ w. ⊎_elim (λ v. word_ranked word.ThrowIf 1 (omega arith) k v) effects_ranked (or_true (is_word word.ThrowIf k) (is_word word.UseEffect k || is_word word.UseLayoutEffect k) w))
    (or_true (is_word word.Const k) (is_word word.ThrowIf k || (is_word word.UseEffect k || is_word word.UseLayoutEffect k)) h)
  where
    effects_ranked : is_word word.UseEffect k || is_word word.UseLayoutEffect k ≡ true → kind_rank k ≤ 1
    effects_ranked w = ⊎_elim (λ v. word_ranked word.UseEffect 1 (omega arith) k v) (λ v. word_ranked word.UseLayoutEffect 1 (omega arith) k v) (or_true (is_word word.UseEffect k) (is_word word.UseLayoutEffect k) w)

pub statements_read : (n : ℕ) → Reads (statements_at n) (Row (StatementL n)) 1 1 true
statements_read n = row is_statement 1 1 (statement_reads n) (statement_starts n) (omega arith) (omega arith) (omega arith) (omega arith) statement_ranked

pub statements_to : (n : ℕ) (ss : List Statement) (p : List Kind) → Row (StatementL n) ss p → StatementsFit ss n × (p ≡ flat_map statement_tokens ss)
statements_to n [] p h = (tt, h)
statements_to n (s ∷ ss) p (u, v, e, l, h) = let r = statements_to n ss v h in ((l.0, r.0), e ∙ (λ i. l.1 i ++ r.1 i))

pub statements_back : (n : ℕ) (ss : List Statement) → StatementsFit ss n → Row (StatementL n) ss (flat_map statement_tokens ss)
statements_back n [] h = refl
statements_back n (s ∷ ss) h = (statement_tokens s, flat_map statement_tokens ss, refl, (h.0, refl), statements_back n ss h.1)

-- how the loop of statements turns
pub statements_loop : (n : ℕ) → Loop is_statement (statement_at n)
statements_loop n = loop is_statement 1 1 (statement_reads n) (statement_starts n) (omega arith) (omega arith) (omega arith) (omega arith) statement_ranked
