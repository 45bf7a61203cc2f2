-- The laws of reading declarations.
use Rattle.std.proofs.Common.{◌≡◌, ℕ, ◌≤◌, Bool, true, false, inl, inr, ⊎_elim, List, [], ◌∷◌, ◌++◌, flat_map, map, refl, sym, ap, ◌∙◌, subst, append_assoc, append-nil, arith}
use Rattle.rx_base.specs.Values.{Name}
use Rattle.rx_lex.specs.declared.token.Keyword.TheVariants as word
use Rattle.rx_lex.specs.declared.token.Sign.{Sign}
use Rattle.rx_lex.specs.declared.token.Sign.TheVariants as sign
use Rattle.rx_lex.specs.declared.token.Kind.{Kind}
use Rattle.rx_lex.specs.declared.token.Kind.TheVariants.{Upper, Lower, Number, Word, Mark}
use Rattle.rx_ast.specs.Syntax as syntax
use Rattle.rx_ast.specs.Syntax.{Expr, Statement, Body, Line, Parameter, integer, given_children, Declaration, of_context, of_function, of_component}
use Rattle.rx_print.specs.Printing.{expr_tokens, statement_tokens, line_tokens, body_tokens, separated, more_separated, parameter_token, parameters_tokens, default_tokens, component_form, component_tokens, declaration_tokens}
use Rattle.rx_print.specs.Levels.{whole_line, ExprFits, LinesFit, ParametersFit, StatementsFit, BodyFits, DeclarationFits, DeclarationsFit}
use Rattle.rx_grammar.specs.Steps.{is_mark, is_word, is_lower, taken, as_lower}
use Rattle.rx_grammar.specs.Reading.{behind_comma, function_line, lines_at, default_at, context_at, answer_at, function_at, parameter_at, parameters_at, result_at, component_at, memo_at, named_declaration, declaration_at, is_declaration, declarations_at}
use Rattle.rx_grammar.proofs.Readings.{kind_rank, Reads, said}
use Rattle.rx_grammar.proofs.Combine.{pure, seq, after, token, alt, After, Or, Starts, Misses, avoids, Always}
use Rattle.rx_grammar.proofs.Many.{Row, row, Loop, loop}
use Rattle.rx_grammar.proofs.Tokens.{mark, reserved, lower, upper, upper_name, numeral, word_ranked}
use Rattle.rx_grammar.proofs.Lists.{Comma, Commas, list, list_loop}
use Rattle.rx_grammar.proofs.Exprs.{expr_reads}
use Rattle.rx_grammar.proofs.Bodies.{body_reads}
use Rattle.rx_grammar.proofs.Statements.{statements_read, statements_to, statements_back, or_true}

-- a line of a function
abbrev pub LineL : ℕ → Line → List Kind → Type 0
LineL n l p = ExprFits l.value whole_line n × (p ≡ line_tokens l)

pub line_reads : (n : ℕ) → Reads (function_line n) (LineL n) 1 0 true
unfolding function_line
line_reads n = said (LineL n) 1 0
    (after (reserved word.Const) (λ w. after lower (λ x. after (mark sign.Equals) (λ q. seq (expr_reads n) (λ e. after (mark sign.Semicolon) (λ s. pure {A = Line} (record { name = x; value = e }) 0) (omega arith)) (omega arith)) (omega arith)) (omega arith)) (omega arith)) (omega arith) (omega arith)
    (λ l p h.
    let a = h.4.4.4 in
    let made = a.5.4.0 in
    let written : p ≡ line_tokens (record { name = h.4.0; value = a.0 }) = let b = a.4.1 in cc in
    subst (λ z. LineL n z p) (sym made) (a.4.0, written))
    (λ l p t. (tt, _, t.1, tt, (l.name, _, refl, tt, (tt, _, refl, tt, (l.value, expr_tokens l.value, _, refl, (t.0, refl), (tt, [], refl, tt, (refl, refl)))))))

pub lines_read : (n : ℕ) → Reads (lines_at n) (Row (LineL n)) 1 1 true
lines_read n = row (is_word word.Const) 1 1 (line_reads n) (λ l p t. (Word word.Const, _, t.1, refl)) (omega arith) (omega arith) (omega arith) (omega arith) (word_ranked word.Const 1 (omega arith))

lines_to : (n : ℕ) (ls : List Line) (p : List Kind) → Row (LineL n) ls p → LinesFit ls n × (p ≡ flat_map line_tokens ls)
lines_to n [] p h = (tt, h)
lines_to n (l ∷ ls) p (u, v, e, t, h) = let r = lines_to n ls v h in ((t.0, r.0), e ∙ (λ i. t.1 i ++ r.1 i))

lines_back : (n : ℕ) (ls : List Line) → LinesFit ls n → Row (LineL n) ls (flat_map line_tokens ls)
lines_back n [] h = refl
lines_back n (l ∷ ls) h = (line_tokens l, flat_map line_tokens ls, refl, (h.0, refl), lines_back n ls h.1)

-- the number of a default
abbrev Default : Bool × ℕ → List Kind → Type 0
Default d p = p ≡ default_tokens d.0 d.1

abbrev Negative : Bool × ℕ → List Kind → Type 0
Negative d p = (n : ℕ) × ◌≡◌ {A = Bool × ℕ} d (true, n) × (p ≡ Mark sign.Minus ∷ Number n ∷ [])

abbrev Positive : Bool × ℕ → List Kind → Type 0
Positive d p = (n : ℕ) × ◌≡◌ {A = Bool × ℕ} d (false, n) × (p ≡ Number n ∷ [])

default_reads : Reads default_at Default 1 0 true
default_reads = said Default 1 0
    (alt (is_mark sign.Minus)
    (said Negative 1 0 (after (mark sign.Minus) (λ m. after numeral (λ n. pure {A = Bool × ℕ} (true, n) 0) (omega arith)) (omega arith)) (omega arith) (omega arith)
    (λ d p h. (h.4.0, h.4.4.0, cc)) (λ d p l. (tt, _, l.2, tt, (l.0, [], refl, tt, (l.1, refl)))))
    (said Positive 1 0 (after numeral (λ n. pure {A = Bool × ℕ} (false, n) 0) (omega arith)) (omega arith) (omega arith)
    (λ d p h. (h.0, h.4.0, cc)) (λ d p l. (l.0, [], l.2, tt, (l.1, refl))))
    (λ d p l. (Mark sign.Minus, _, l.2, refl))
    (avoids (is_mark sign.Minus) Positive 0 (λ d p l. (Number l.0, [], l.2, refl))))
    (omega arith) (omega arith) to back
  where
    to : (d : Bool × ℕ) (p : List Kind) → Or Negative Positive d p → Default d p
    to d p (inl (n, made, e)) = subst (λ z. Default z p) (sym made) e
    to d p (inr (n, made, e)) = subst (λ z. Default z p) (sym made) e

    back : (d : Bool × ℕ) (p : List Kind) → Default d p → Or Negative Positive d p
    back (true, n) p e = inl (n, refl, e)
    back (false, n) p e = inr (n, refl, e)

-- a context behind its name and `=`
abbrev Context : Name → Declaration → List Kind → Type 0
Context x d p = (b : Bool) × (n : ℕ) × (d ≡ of_context (record { name = x; negative = b; number = n }))
    × (p ≡ Word word.CreateContext ∷ Mark sign.OpenParen ∷ (default_tokens b n ++ Mark sign.CloseParen ∷ Mark sign.Semicolon ∷ []))

-- the two ways to write the end of what stands in parentheses
ends : (ks : List Kind) → (ks ++ Mark sign.CloseParen ∷ []) ++ Mark sign.Semicolon ∷ [] ≡ ks ++ Mark sign.CloseParen ∷ Mark sign.Semicolon ∷ []
ends ks = append_assoc ks (Mark sign.CloseParen ∷ []) (Mark sign.Semicolon ∷ [])

context_reads : (x : Name) → Reads (context_at x) (Context x) 11 0 true
unfolding context_at
context_reads x = said (Context x) 11 0
    (after (reserved word.CreateContext) (λ k. after (mark sign.OpenParen) (λ p. seq default_reads (λ d. after (mark sign.CloseParen) (λ c. after (mark sign.Semicolon) (λ s. pure (of_context (record { name = x; negative = d.0; number = d.1 })) 0) (omega arith)) (omega arith)) (omega arith)) (omega arith)) (omega arith)) (omega arith) (omega arith)
    (λ d p h.
    let a = h.4.4 in
    let b = a.4 in
    (a.0.0, a.0.1, a.5.4.4.0, cc))
    (λ d p l.
    (tt, _, l.3, tt, (tt, _, refl, tt, ((l.0, l.1), default_tokens l.0 l.1, _, refl, refl, (tt, _, refl, tt, (tt, [], refl, tt, (l.2, refl)))))))

-- a token for each item
abbrev pub Single : {A : Type 0} → (A → Kind) → A → List Kind → Type 0
Single tok x p = p ≡ tok x ∷ []

more_to : {A : Type 0} (tok : A → Kind) (xs : List A) (p : List Kind) → Row (Comma (Single tok)) xs p → p ≡ more_separated (map tok xs)
more_to tok [] p h = h
more_to tok (x ∷ xs) p (u, v, e, (w, f, l), h) = let others = more_to tok xs v h in cc

more_back : {A : Type 0} (tok : A → Kind) (xs : List A) → Row (Comma (Single tok)) xs (more_separated (map tok xs))
more_back tok [] = refl
more_back tok (x ∷ xs) = (Mark sign.Comma ∷ tok x ∷ [], more_separated (map tok xs), refl, (tok x ∷ [], refl, refl), more_back tok xs)

pub separated_to : {A : Type 0} (tok : A → Kind) (xs : List A) (p : List Kind) → Commas (Single tok) xs p → p ≡ separated (map tok xs)
separated_to tok [] p h = h
separated_to tok (x ∷ xs) p (u, v, e, l, h) = e ∙ (λ i. l i ++ more_to tok xs v h i)

pub separated_back : {A : Type 0} (tok : A → Kind) (xs : List A) → Commas (Single tok) xs (separated (map tok xs))
separated_back tok [] = refl
separated_back tok (x ∷ xs) = (tok x ∷ [], more_separated (map tok xs), refl, refl, more_back tok xs)

-- `return`, an expression and `;}`
abbrev Answer : ℕ → Expr → List Kind → Type 0
Answer n e p = ExprFits e whole_line n × (p ≡ Word word.Return ∷ (expr_tokens e ++ Mark sign.Semicolon ∷ Mark sign.CloseBrace ∷ []))

answer_reads : (n : ℕ) → Reads (answer_at n) (Answer n) 11 0 true
answer_reads n = said (Answer n) 11 0
    (after (reserved word.Return) (λ w. seq (expr_reads n) (λ e. after (mark sign.Semicolon) (λ s. after (mark sign.CloseBrace) (λ c. pure e 0) (omega arith)) (omega arith)) (omega arith)) (omega arith)) (omega arith) (omega arith)
    (λ e p h. let a = h.4 in let made = a.5.4.4.0 in subst (λ z. Answer n z p) (sym made) (a.4.0, let b = a.4.1 in cc))
    (λ e p l. (tt, _, l.1, tt, (e, expr_tokens e, _, refl, (l.0, refl), (tt, _, refl, tt, (tt, [], refl, tt, (refl, refl))))))

-- a function behind its name
abbrev FunctionBehind : ℕ → Name → Declaration → List Kind → Type 0
FunctionBehind n f d p = (xs : List Name) × (ls : List Line) × (e : Expr) × (d ≡ of_function (record { name = f; parameters = xs; lines = ls; answer = e })) × LinesFit ls n × ExprFits e whole_line n
    × (p ≡ Mark sign.OpenParen ∷ (separated (map (λ x. Lower x) xs) ++ Mark sign.CloseParen ∷ Mark sign.OpenBrace ∷ (flat_map line_tokens ls ++ Word word.Return ∷ (expr_tokens e ++ Mark sign.Semicolon ∷ Mark sign.CloseBrace ∷ []))))

name_reads : Reads (taken as_lower) (Single (λ x. Lower x)) 1 0 true
name_reads = said (Single (λ x. Lower x)) 1 0 (token lower) (omega arith) (omega arith) (λ x p h. h.0) (λ x p h. (h, tt))

closed_list : (ks : List Kind) (s : Sign) (u v w : List Kind) → w ≡ u ++ v → u ≡ ks ++ Mark s ∷ [] → w ≡ ks ++ Mark s ∷ v
closed_list ks s u v w e f = e ∙ (ap (λ z. z ++ v) f ∙ append_assoc ks (Mark s ∷ []) v)

function_reads : (n : ℕ) (f : Name) → Reads (function_at n f) (FunctionBehind n f) 1 0 true
unfolding function_at
function_reads n f = said (FunctionBehind n f) 1 0
    (after (mark sign.OpenParen) (λ p. seq (list sign.CloseParen name_reads (omega arith) (omega arith) (omega arith) (λ x p l. (Lower x, [], l, refl))) (λ xs. after (mark sign.OpenBrace) (λ o. seq (lines_read n) (λ ls. seq (answer_reads n) (λ e. pure (of_function (record { name = f; parameters = xs; lines = ls; answer = e })) 0) (omega arith)) (omega arith)) (omega arith)) (omega arith)) (omega arith)) (omega arith) (omega arith)
    (λ d p h.
    let a = h.4 in
    let b = a.5.4 in
    let c = b.5 in
    let names = separated (map (λ x. Lower x) a.0) in
    let head : h.1 ≡ names ++ Mark sign.CloseParen ∷ a.2 = closed_list names sign.CloseParen a.1 a.2 h.1 a.3 (a.4.1 ∙ ap (λ z. z ++ Mark sign.CloseParen ∷ []) (separated_to (λ x. Lower x) a.0 a.4.0 a.4.2)) in
    let lines = lines_to n b.0 b.1 b.4 in
    let answer = c.4.1 in
    let nil = append-nil c.1 in
    let written = lines.1 in
    (a.0, b.0, c.0, c.5.0, lines.0, c.4.0, cc))
    (λ d p l.
    let names = separated (map (λ x. Lower x) l.0) in
    let body = Word word.Return ∷ (expr_tokens l.2 ++ Mark sign.Semicolon ∷ Mark sign.CloseBrace ∷ []) in
    let rest = Mark sign.OpenBrace ∷ (flat_map line_tokens l.1 ++ body) in (
      tt,
      _,
      l.6,
      tt,
      (
        l.0,
        names ++ Mark sign.CloseParen ∷ [],
        rest,
        sym (append_assoc names (Mark sign.CloseParen ∷ []) rest),
        (names, refl, separated_back (λ x. Lower x) l.0),
        (tt, _, refl, tt, (l.1, flat_map line_tokens l.1, body, refl, lines_back n l.1 l.4, (l.2, body, [], sym (append-nil body), (l.5, refl), (l.3, refl)))),
      ),
    ))

abbrev Given : Parameter → List Kind → Type 0
Given x p = (x ≡ given_children) × (p ≡ Word word.Children ∷ [])

abbrev Integer : Parameter → List Kind → Type 0
Integer x p = (y : Name) × (x ≡ integer y) × (p ≡ Lower y ∷ [])

-- a parameter of a component
parameter_reads : Reads parameter_at (Single parameter_token) 1 0 true
unfolding parameter_at
parameter_reads = said (Single parameter_token) 1 0
    (alt (is_word word.Children)
    (said Given 1 0 (after (reserved word.Children) (λ w. pure given_children 0) (omega arith)) (omega arith) (omega arith)
    (λ x p h. (h.4.0, cc)) (λ x p l. (tt, [], l.1, tt, (l.0, refl))))
    (said Integer 1 0 (after lower (λ x. pure (integer x) 0) (omega arith)) (omega arith) (omega arith)
    (λ x p h. (h.0, h.4.0, cc)) (λ x p l. (l.0, [], l.2, tt, (l.1, refl))))
    (λ x p l. (Word word.Children, [], l.1, refl))
    (avoids (is_word word.Children) Integer 0 (λ x p l. (Lower l.0, [], l.2, refl))))
    (omega arith) (omega arith) to back
  where
    to : (x : Parameter) (p : List Kind) → Or Given Integer x p → Single parameter_token x p
    to x p (inl (made, e)) = subst (λ z. Single parameter_token z p) (sym made) e
    to x p (inr (y, made, e)) = subst (λ z. Single parameter_token z p) (sym made) e

    back : (x : Parameter) (p : List Kind) → Single parameter_token x p → Or Given Integer x p
    back (integer y) p e = inr (y, refl, e)
    back given_children p e = inl (refl, e)

parameter_misses : Misses (is_mark sign.CloseBrace) (Single parameter_token)
parameter_misses (integer y) p e = (Lower y, [], e, refl)
parameter_misses given_children p e = (Word word.Children, [], e, refl)

-- the parameters of a component behind `(`
abbrev Parameters : Bool × List Parameter → List Kind → Type 0
Parameters x p = ParametersFit x.0 x.1 × (p ≡ parameters_tokens x.0 x.1 ++ Mark sign.CloseParen ∷ [])

abbrev NoBraces : Bool × List Parameter → List Kind → Type 0
NoBraces x p = ◌≡◌ {A = Bool × List Parameter} x (false, []) × (p ≡ Mark sign.CloseParen ∷ [])

abbrev Braces : Bool × List Parameter → List Kind → Type 0
Braces x p = (ys : List Parameter) × ◌≡◌ {A = Bool × List Parameter} x (true, ys) × (p ≡ Mark sign.OpenBrace ∷ (separated (map parameter_token ys) ++ Mark sign.CloseBrace ∷ Mark sign.CloseParen ∷ []))

parameters_to : (x : Bool × List Parameter) (p : List Kind) → Or NoBraces Braces x p → Parameters x p
parameters_to x p (inl (made, e)) = subst (λ z. Parameters z p) (sym made) (refl, e)
parameters_to x p (inr (ys, made, e)) =
    subst (λ z. Parameters z p) (sym made) (tt, e ∙ ap (λ z. Mark sign.OpenBrace ∷ z) (sym (append_assoc (separated (map parameter_token ys)) (Mark sign.CloseBrace ∷ []) (Mark sign.CloseParen ∷ []))))

parameters_back : (x : Bool × List Parameter) (p : List Kind) → Parameters x p → Or NoBraces Braces x p
parameters_back (false, xs) p (none, e) = inl ((λ i. (false, none i)), e)
parameters_back (true, xs) p (fit, e) = inr (xs, refl, e ∙ ap (λ z. Mark sign.OpenBrace ∷ z) (append_assoc (separated (map parameter_token xs)) (Mark sign.CloseBrace ∷ []) (Mark sign.CloseParen ∷ [])))

parameters_reads : Reads parameters_at Parameters 1 0 true
unfolding parameters_at
parameters_reads = said Parameters 1 0
    (alt (is_mark sign.CloseParen)
    (said NoBraces 1 0 (after (mark sign.CloseParen) (λ c. pure {A = Bool × List Parameter} (false, []) 0) (omega arith)) (omega arith) (omega arith)
    (λ x p h. (h.4.0, h.2 ∙ ap (λ z. Mark sign.CloseParen ∷ z) h.4.1)) (λ x p l. (tt, [], l.1, tt, (l.0, refl))))
    (said Braces 1 0 (after (mark sign.OpenBrace) (λ o. seq (list sign.CloseBrace parameter_reads (omega arith) (omega arith) (omega arith) parameter_misses) (λ xs. after (mark sign.CloseParen) (λ c. pure {A = Bool × List Parameter} (true, xs) 0) (omega arith)) (omega arith)) (omega arith)) (omega arith) (omega arith)
    (λ x p h.
    let a = h.4 in
    let names = separated (map parameter_token a.0) in
    let tail : a.2 ≡ Mark sign.CloseParen ∷ [] = cc in
    let content = closed_list names sign.CloseBrace a.1 a.2 h.1 a.3 (a.4.1 ∙ ap (λ z. z ++ Mark sign.CloseBrace ∷ []) (separated_to parameter_token a.0 a.4.0 a.4.2)) in
    (a.0, a.5.4.0, h.2 ∙ ap (λ z. Mark sign.OpenBrace ∷ z) (content ∙ ap (λ z. names ++ Mark sign.CloseBrace ∷ z) tail)))
    (λ x p l.
    let names = separated (map parameter_token l.0) in
    (tt, _, l.2, tt, (l.0, names ++ Mark sign.CloseBrace ∷ [], Mark sign.CloseParen ∷ [], sym (append_assoc names (Mark sign.CloseBrace ∷ []) (Mark sign.CloseParen ∷ [])), (names, refl, separated_back parameter_token l.0), (tt, [], refl, tt, (l.1, refl))))))
    (λ x p l. (Mark sign.CloseParen, [], l.1, refl))
    (avoids (is_mark sign.CloseParen) Braces 0 (λ x p l. (Mark sign.OpenBrace, _, l.2, refl))))
    (omega arith) (omega arith) parameters_to parameters_back

-- `return`, a body and `;}`
abbrev Result : ℕ → Body → List Kind → Type 0
Result n b p = BodyFits b n × (p ≡ Word word.Return ∷ (body_tokens b ++ Mark sign.Semicolon ∷ Mark sign.CloseBrace ∷ []))

result_reads : (n : ℕ) → Reads (result_at n) (Result n) 11 0 true
result_reads n = said (Result n) 11 0
    (after (reserved word.Return) (λ w. seq (body_reads n) (λ e. after (mark sign.Semicolon) (λ s. after (mark sign.CloseBrace) (λ c. pure e 0) (omega arith)) (omega arith)) (omega arith)) (omega arith)) (omega arith) (omega arith)
    (λ e p h. let a = h.4 in let made = a.5.4.4.0 in subst (λ z. Result n z p) (sym made) (a.4.0, let b = a.4.1 in cc))
    (λ e p l. (tt, _, l.1, tt, (e, body_tokens e, _, refl, (l.0, refl), (tt, _, refl, tt, (tt, [], refl, tt, (refl, refl))))))

-- what stands behind the name of a component
abbrev behind_name : Bool → List Parameter → List Statement → Body → List Kind
behind_name b xs ss e =
    Mark sign.OpenParen ∷ (parameters_tokens b xs ++ Mark sign.CloseParen ∷ Mark sign.OpenBrace ∷ (flat_map statement_tokens ss ++ Word word.Return ∷ (body_tokens e ++ Mark sign.Semicolon ∷ Mark sign.CloseBrace ∷ [])))

-- a component behind its name
abbrev ComponentBehind : ℕ → (memo : Bool) → Name → Declaration → List Kind → Type 0
ComponentBehind n memo x d p = (b : Bool) × (xs : List Parameter) × (ss : List Statement) × (e : Body) × (d ≡ of_component (record { name = x; memo = memo; braces = b; parameters = xs; statements = ss; body = e })) × ParametersFit b xs × StatementsFit ss n × BodyFits e n
    × (p ≡ behind_name b xs ss e)

component_reads : (n : ℕ) (memo : Bool) (x : Name) → Reads (component_at n memo x) (ComponentBehind n memo x) 1 0 true
unfolding component_at
component_reads n memo x = said (ComponentBehind n memo x) 1 0
    (after (mark sign.OpenParen) (λ p. seq parameters_reads (λ xs. after (mark sign.OpenBrace) (λ o. seq (statements_read n) (λ ls. seq (result_reads n) (λ b. pure (of_component (record { name = x; memo = memo; braces = xs.0; parameters = xs.1; statements = ls; body = b })) 0) (omega arith)) (omega arith)) (omega arith)) (omega arith)) (omega arith)) (omega arith) (omega arith)
    (λ d p h.
    let a = h.4 in
    let b = a.5.4 in
    let c = b.5 in
    let names = parameters_tokens a.0.0 a.0.1 in
    let head : h.1 ≡ names ++ Mark sign.CloseParen ∷ a.2 = closed_list names sign.CloseParen a.1 a.2 h.1 a.3 a.4.1 in
    let statements = statements_to n b.0 b.1 b.4 in
    let answer = c.4.1 in
    let nil = append-nil c.1 in
    let written = statements.1 in
    (a.0.0, a.0.1, b.0, c.0, c.5.0, a.4.0, statements.0, c.4.0, cc))
    (λ d p l.
    let names = parameters_tokens l.0 l.1 in
    let body = Word word.Return ∷ (body_tokens l.3 ++ Mark sign.Semicolon ∷ Mark sign.CloseBrace ∷ []) in
    let rest = Mark sign.OpenBrace ∷ (flat_map statement_tokens l.2 ++ body) in (
      tt,
      _,
      l.8,
      tt,
      (
        (l.0, l.1),
        names ++ Mark sign.CloseParen ∷ [],
        rest,
        sym (append_assoc names (Mark sign.CloseParen ∷ []) rest),
        (l.5, refl),
        (tt, _, refl, tt, (l.2, flat_map statement_tokens l.2, body, refl, statements_back n l.2 l.6, (l.3, body, [], sym (append-nil body), (l.7, refl), (l.4, refl)))),
      ),
    ))

-- a component that is declared by `memo`, behind its name and `=`
abbrev Memo : ℕ → Name → Declaration → List Kind → Type 0
Memo n x d p = (q : List Kind) × ComponentBehind n true x d q × (p ≡ Word word.Memo ∷ Mark sign.OpenParen ∷ Word word.Function ∷ Upper x ∷ (q ++ Mark sign.CloseParen ∷ Mark sign.Semicolon ∷ []))

memo_reads : (n : ℕ) (x : Name) → Reads (memo_at n x) (Memo n x) 11 0 true
unfolding memo_at
memo_reads n x = said (Memo n x) 11 0
    (after (reserved word.Memo) (λ m. after (mark sign.OpenParen) (λ p. after (reserved word.Function) (λ f. after (upper_name x) (λ y. seq (component_reads n true x) (λ d. after (mark sign.CloseParen) (λ c. after (mark sign.Semicolon) (λ s. pure d 0) (omega arith)) (omega arith)) (omega arith)) (omega arith)) (omega arith)) (omega arith)) (omega arith)) (omega arith) (omega arith)
    (λ d p h.
    let a = h.4.4.4.4 in
    let made = a.5.4.4.0 in
    (a.1, subst (λ z. ComponentBehind n true x z a.1) (sym made) a.4, cc))
    (λ d p l.
    (tt, _, l.2, tt, (tt, _, refl, tt, (tt, _, refl, tt, (tt, _, refl, tt, (d, l.0, _, refl, l.1, (tt, _, refl, tt, (tt, [], refl, tt, (refl, refl)))))))))

-- a declaration that begins with `const`
abbrev Named : ℕ → Declaration → List Kind → Type 0
Named n = After (λ (u : Unit {0}). Word word.Const) Always (λ u. After (λ x. Upper x) Always (λ x. After (λ (v : Unit {0}). Mark sign.Equals) Always (λ v. Or (Memo n x) (Context x))))

named_reads : (n : ℕ) → Reads (named_declaration n) (Named n) 1 0 true
unfolding named_declaration
named_reads n = said (Named n) 1 0
    (after (reserved word.Const) (λ w. after upper (λ x. after (mark sign.Equals) (λ q.
    alt (is_word word.Memo) (memo_reads n x) (context_reads x)
    (λ d p l. (Word word.Memo, _, l.2, refl))
    (avoids (is_word word.Memo) (Context x) 0 (λ d p l. (Word word.CreateContext, _, l.3, refl))))
    (omega arith)) (omega arith)) (omega arith)) (omega arith) (omega arith)
    (λ d p h. h) (λ d p l. l)

-- a declaration
abbrev pub DeclarationL : ℕ → Declaration → List Kind → Type 0
DeclarationL n d p = DeclarationFits d n × (p ≡ declaration_tokens d)

abbrev Function : ℕ → Declaration → List Kind → Type 0
Function n = After (λ (u : Unit {0}). Word word.Function) Always (λ u. Or (After (λ f. Lower f) Always (λ f. FunctionBehind n f)) (After (λ x. Upper x) Always (λ x. ComponentBehind n false x)))

-- the two ways to write the end of a declaration
form_ends : (xs ls ks : List Kind) → (xs ++ Mark sign.CloseParen ∷ []) ++ (Mark sign.OpenBrace ∷ ((ls ++ (Word word.Return ∷ (ks ++ Mark sign.Semicolon ∷ []))) ++ Mark sign.CloseBrace ∷ [])) ≡ xs ++ Mark sign.CloseParen ∷ Mark sign.OpenBrace ∷ (ls ++ Word word.Return ∷ (ks ++ Mark sign.Semicolon ∷ Mark sign.CloseBrace ∷ []))
form_ends xs ls ks = simp append_assoc

-- what the function of a component is, by its name and what stands behind it
form_is : (c : syntax.Component) → component_form c ≡ Word word.Function ∷ Upper c.name ∷ behind_name c.braces c.parameters c.statements c.body
form_is c = ap (λ z. Word word.Function ∷ Upper c.name ∷ Mark sign.OpenParen ∷ z) (form_ends (parameters_tokens c.braces c.parameters) (flat_map statement_tokens c.statements) (body_tokens c.body))

-- the same of a component that is declared by `memo`
memo_is : (c : syntax.Component) → component_tokens true c ≡ Word word.Const ∷ Upper c.name ∷ Mark sign.Equals ∷ Word word.Memo ∷ Mark sign.OpenParen ∷ Word word.Function ∷ Upper c.name ∷ (behind_name c.braces c.parameters c.statements c.body ++ Mark sign.CloseParen ∷ Mark sign.Semicolon ∷ [])
memo_is c =
    ap (λ z. Word word.Const ∷ Upper c.name ∷ Mark sign.Equals ∷ Word word.Memo ∷ Mark sign.OpenParen ∷ z) (ends (component_form c))
    ∙ ap (λ z. Word word.Const ∷ Upper c.name ∷ Mark sign.Equals ∷ Word word.Memo ∷ Mark sign.OpenParen ∷ (z ++ Mark sign.CloseParen ∷ Mark sign.Semicolon ∷ [])) (form_is c)

-- the two ways to write the declaration of a context
context_is : (c : syntax.Context) → declaration_tokens (of_context c) ≡ Word word.Const ∷ Upper c.name ∷ Mark sign.Equals ∷ Word word.CreateContext ∷ Mark sign.OpenParen ∷ (default_tokens c.negative c.number ++ Mark sign.CloseParen ∷ Mark sign.Semicolon ∷ [])
context_is c = ap (λ z. Word word.Const ∷ Upper c.name ∷ Mark sign.Equals ∷ Word word.CreateContext ∷ Mark sign.OpenParen ∷ z) (ends (default_tokens c.negative c.number))

named_to : (n : ℕ) (d : Declaration) (p : List Kind) → Named n d p → DeclarationL n d p
named_to n d p (u, v, e, t, (x, w, f, s, (y, q, g, r, inl (m, (b, xs, ss, a, made, fp, fs, fb, h), k)))) =
    let is = memo_is (record { name = x; memo = true; braces = b; parameters = xs; statements = ss; body = a }) in
    subst (λ z. DeclarationL n z p) (sym made) ((fp, fs, fb), cc)
named_to n d p (u, v, e, t, (x, w, f, s, (y, q, g, r, inr (b, m, made, k)))) =
    let is = context_is (record { name = x; negative = b; number = m }) in
    subst (λ z. DeclarationL n z p) (sym made) (tt, cc)

declaration_to : (n : ℕ) (d : Declaration) (p : List Kind) → Or (Named n) (Function n) d p → DeclarationL n d p
declaration_to n d p (inl l) = named_to n d p l
declaration_to n d p (inr (u, v, e, t, inl (f, w, g, s, (xs, ls, a, made, fl, fa, h)))) =
    subst (λ z. DeclarationL n z p) (sym made) ((fl, fa), let k = form_ends (separated (map (λ x. Lower x) xs)) (flat_map line_tokens ls) (expr_tokens a) in cc)
declaration_to n d p (inr (u, v, e, t, inr (x, w, g, s, (b, xs, ss, a, made, fp, fs, fb, h)))) =
    let is = form_is (record { name = x; memo = false; braces = b; parameters = xs; statements = ss; body = a }) in
    subst (λ z. DeclarationL n z p) (sym made) ((fp, fs, fb), cc)

component_back : (n : ℕ) (c : syntax.Component) (p : List Kind) (memo : Bool) → c.memo ≡ memo → DeclarationFits (of_component c) n → p ≡ component_tokens memo c → Or (Named n) (Function n) (of_component c) p
component_back n c p true is fit e =
    let made : ◌≡◌ {A = Declaration} (of_component c) (of_component (record { name = c.name; memo = true; braces = c.braces; parameters = c.parameters; statements = c.statements; body = c.body })) =
    ap (λ m. of_component (record { name = c.name; memo = m; braces = c.braces; parameters = c.parameters; statements = c.statements; body = c.body })) is in
    inl (tt, _, e ∙ memo_is c, tt, (c.name, _, refl, tt, (tt, _, refl, tt, inl (behind_name c.braces c.parameters c.statements c.body, (c.braces, c.parameters, c.statements, c.body, made, fit.0, fit.1, fit.2, refl), refl))))
component_back n c p false is fit e =
    let made : ◌≡◌ {A = Declaration} (of_component c) (of_component (record { name = c.name; memo = false; braces = c.braces; parameters = c.parameters; statements = c.statements; body = c.body })) =
    ap (λ m. of_component (record { name = c.name; memo = m; braces = c.braces; parameters = c.parameters; statements = c.statements; body = c.body })) is in
    inr (tt, _, e ∙ form_is c, tt, inr (c.name, _, refl, tt, (c.braces, c.parameters, c.statements, c.body, made, fit.0, fit.1, fit.2, refl)))

declaration_back : (n : ℕ) (d : Declaration) (p : List Kind) → DeclarationL n d p → Or (Named n) (Function n) d p
declaration_back n (of_context c) p l = inl (tt, _, l.1 ∙ context_is c, tt, (c.name, _, refl, tt, (tt, _, refl, tt, inr (c.negative, c.number, refl, refl))))
declaration_back n (of_function f) p l =
    inr (tt, _, l.1, tt, inl (f.name, _, refl, tt, (f.parameters, f.lines, f.answer, refl, l.0.0, l.0.1, ap (λ z. Mark sign.OpenParen ∷ z) (form_ends (separated (map (λ x. Lower x) f.parameters)) (flat_map line_tokens f.lines) (expr_tokens f.answer)))))
declaration_back n (of_component c) p l = component_back n c p c.memo refl l.0 l.1

pub declaration_reads : (n : ℕ) → Reads (declaration_at n) (DeclarationL n) 1 0 true
unfolding declaration_at
declaration_reads n = said (DeclarationL n) 1 0
    (alt (is_word word.Const) (named_reads n)
    (after (reserved word.Function) (λ w. alt is_lower (after lower (λ f. function_reads n f) (omega arith))
    (said (After (λ x. Upper x) Always (λ x. ComponentBehind n false x)) 1 0 (after upper (λ x. component_reads n false x) (omega arith)) (omega arith) (omega arith) (λ a p h. h) (λ a p h. h))
    (λ d p l. (Lower l.0, l.1, l.2, refl))
    (avoids is_lower (After (λ x. Upper x) Always (λ x. ComponentBehind n false x)) 0 (λ d p l. (Upper l.0, l.1, l.2, refl)))) (omega arith))
    (λ d p l. (Word word.Const, l.1, l.2, refl))
    (avoids (is_word word.Const) (Function n) 0 (λ d p l. (Word word.Function, l.1, l.2, refl))))
    (omega arith) (omega arith) (declaration_to n) (declaration_back n)

component_starts : (c : syntax.Component) (memo : Bool) (p : List Kind) → p ≡ component_tokens memo c → (k : Kind) × (v : List Kind) × (p ≡ k ∷ v) × (is_declaration k ≡ true)
component_starts c true p e = (Word word.Const, _, e, refl)
component_starts c false p e = (Word word.Function, _, e, refl)

declaration_starts : (n : ℕ) → Starts is_declaration (DeclarationL n)
declaration_starts n (of_context c) p l = (Word word.Const, _, l.1, refl)
declaration_starts n (of_function f) p l = (Word word.Function, _, l.1, refl)
declaration_starts n (of_component c) p l = component_starts c c.memo p l.1

declaration_ranked : (k : Kind) → is_declaration k ≡ true → kind_rank k ≤ 1
declaration_ranked k h = ⊎_elim (λ w. word_ranked word.Const 1 (omega arith) k w) (λ w. word_ranked word.Function 1 (omega arith) k w) (or_true (is_word word.Const k) (is_word word.Function k) h)

pub declarations_read : (n : ℕ) → Reads (declarations_at n) (Row (DeclarationL n)) 1 1 true
declarations_read n = row is_declaration 1 1 (declaration_reads n) (declaration_starts n) (omega arith) (omega arith) (omega arith) (omega arith) declaration_ranked

pub declarations_to : (n : ℕ) (ds : List Declaration) (p : List Kind) → Row (DeclarationL n) ds p → DeclarationsFit ds n × (p ≡ flat_map declaration_tokens ds)
declarations_to n [] p h = (tt, h)
declarations_to n (d ∷ ds) p (u, v, e, l, h) = let r = declarations_to n ds v h in ((l.0, r.0), e ∙ (λ i. l.1 i ++ r.1 i))

pub declarations_back : (n : ℕ) (ds : List Declaration) → DeclarationsFit ds n → Row (DeclarationL n) ds (flat_map declaration_tokens ds)
declarations_back n [] h = refl
declarations_back n (d ∷ ds) h = (declaration_tokens d, flat_map declaration_tokens ds, refl, (h.0, refl), declarations_back n ds h.1)

-- how the loops of declarations turn
pub lines_loop : (n : ℕ) → Loop (is_word word.Const) (function_line n)
lines_loop n = loop (is_word word.Const) 1 1 (line_reads n) (λ l p t. (Word word.Const, _, t.1, refl)) (omega arith) (omega arith) (omega arith) (omega arith) (word_ranked word.Const 1 (omega arith))

pub names_loop : Loop (is_mark sign.Comma) (behind_comma (taken as_lower))
names_loop = list_loop sign.CloseParen name_reads (omega arith) (omega arith) (omega arith) (λ x p l. (Lower x, [], l, refl))

pub parameters_loop : Loop (is_mark sign.Comma) (behind_comma parameter_at)
parameters_loop = list_loop sign.CloseBrace parameter_reads (omega arith) (omega arith) (omega arith) parameter_misses

pub declarations_loop : (n : ℕ) → Loop is_declaration (declaration_at n)
declarations_loop n = loop is_declaration 1 1 (declaration_reads n) (declaration_starts n) (omega arith) (omega arith) (omega arith) (omega arith) declaration_ranked
