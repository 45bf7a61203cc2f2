-- The values of arguments, one at a time.
use Rattle.std.specs.Prelude.{◌≡◌, ℕ, zero, suc, ◌+◌, ◌-◌, ◌<◌, ◌≤◌, List, [], ◌∷◌, ◌++◌, ℤ, Some, Contains, length, take, get_or, slice_get, min, refl}
use Rattle.std.specs.Int.{Width}
use Rattle.std.specs.List.{zip}
use Rattle.std.proofs.Common.{sym, ◌∙◌, ap, arith, length-append, mul-suc}
use Rattle.std.proofs.lemmas.List.{append_assoc, append-nil, take_more, length-take}
use Rattle.std.proofs.lemmas.Option.{slice_get_read}
use Rattle.rx_base.specs.Values.{Name}
use Rattle.rx_ast.specs.Syntax.{Expr, exprs_of, Function, Program}
use Rattle.rx_ast.specs.ExprView.{links_of}
use Rattle.rx_ast.specs.declared.expr.Link.{Link}
use Rattle.rx_rules.specs.Names.{function_named}
use Rattle.rx_rules.specs.Versions.{width}
use Rattle.rx_meaning.specs.Expressions.{Calls, Env, value, values, after_lines, answer, nested_calls}
use Rattle.rx_eval.proofs.Sizes.{expr_size, exprs_size, links_size, function_size, widest, room}

-- the values of arguments with one more behind them
pub values-push : (w : Width) (calls : Calls) (env : Env) (es : List Expr) (e : Expr) → values w calls env (exprs_of (es ++ e ∷ [])) ≡ values w calls env (exprs_of es) ++ value w calls env e ∷ []
values-push w calls env [] e = refl
values-push w calls env (d ∷ es) e = ap (λ xs. value w calls env d ∷ xs) (values-push w calls env es e)

pub values-length : (w : Width) (calls : Calls) (env : Env) (es : List Expr) → length (values w calls env (exprs_of es)) ≡ length es
values-length w calls env [] = refl
values-length w calls env (e ∷ es) = ap suc (values-length w calls env es)

-- pairs of lists of one length, with one more pair behind them
pub zip-push : (xs : List Name) (ys : List ℤ) (x : Name) (y : ℤ) → length xs ≡ length ys → zip (xs ++ x ∷ []) (ys ++ y ∷ []) ≡ zip xs ys ++ (x, y) ∷ []
zip-push [] [] x y e = refl
zip-push [] (b ∷ ys) x y e = absurd (cc e)
zip-push (a ∷ xs) [] x y e = absurd (cc e)
zip-push (a ∷ xs) (b ∷ ys) x y e = ap (λ ps. (a, b) ∷ ps) (zip-push xs ys x y (omega arith))

-- one more name is bound to the value of one more argument
pub bound_more : (w : Width) (calls : Calls) (env : Env) (ps : List Name) (es bs : List Expr) (a : Expr) (x : Name) (more : Env) →
    es ≡ bs ++ a ∷ [] → length es ≤ length ps → x ≡ get_or ps (length bs) x →
    zip (take (length es) ps) (values w calls env (exprs_of es)) ++ more ≡ zip (take (length bs) ps) (values w calls env (exprs_of bs)) ++ ((x, value w calls env a) ∷ more)
bound_more w calls env ps es bs a x more e h is =
    let n : length es ≡ length bs + 1 = rw e (length-append bs (a ∷ [])) in
    let lt : length bs < length ps = omega arith in
    let names : take (length es) ps ≡ take (length bs) ps ++ x ∷ [] = rw n (take_more ps (length bs) x lt ∙ ap (λ y. take (length bs) ps ++ y ∷ []) (sym is)) in
    let given : values w calls env (exprs_of es) ≡ values w calls env (exprs_of bs) ++ value w calls env a ∷ [] = rw e (values-push w calls env bs a) in
    let same : length (take (length bs) ps) ≡ length (values w calls env (exprs_of bs)) = omega (arith, length-take (length bs) ps, values-length w calls env bs) in
    rw (names, given) (ap (λ ps. ps ++ more) (zip-push (take (length bs) ps) (values w calls env (exprs_of bs)) x (value w calls env a) same)
    ∙ append_assoc (zip (take (length bs) ps) (values w calls env (exprs_of bs))) ((x, value w calls env a) ∷ []) more)

-- the first pairs are all pairs, if one of the lists ends there
pub zip-take : (w : Width) (calls : Calls) (env : Env) (xs : List Name) (es : List Expr) (n : ℕ) → n ≡ min (length xs) (length es) →
    zip (take n xs) (values w calls env (exprs_of (take n es))) ≡ zip xs (values w calls env (exprs_of es))
zip-take w calls env [] es n e = let none : n ≡ 0 = omega arith in rw none refl
zip-take w calls env (x ∷ xs) [] n e = let none : n ≡ 0 = omega arith in rw none refl
zip-take w calls env (x ∷ xs) (d ∷ es) zero e = absurd (omega arith)
zip-take w calls env (x ∷ xs) (d ∷ es) (suc n) e = ap (λ ps. (x, value w calls env d) ∷ ps) (zip-take w calls env xs es n (omega arith))

-- what a function answers that a name names
pub call-answer : (n : ℕ) (p : Program) (name : Name) (f : Function) (env : Env) (es few : List Expr) (count : ℕ) →
    0 < n → function_named p name ≡ Some f → count ≡ min (length f.parameters) (length es) → few ≡ take count es →
    value (width p) (nested_calls (n - 1) p) (after_lines (width p) (nested_calls (n - 1) p) (zip (take (length few) f.parameters) (values (width p) (nested_calls n p) env (exprs_of few)) ++ []) f.lines) f.answer
    ≡ nested_calls n p name (values (width p) (nested_calls n p) env (exprs_of es))
call-answer zero p name f env es few count h named c t = absurd (omega arith)
call-answer (suc n) p name f env es few count h named c t =
    let xs = values (width p) (nested_calls (suc n) p) env (exprs_of es) in
    let k : length few ≡ count = rw t (omega (arith, length-take count es)) in
    let pairs : zip (take (length few) f.parameters) (values (width p) (nested_calls (suc n) p) env (exprs_of few)) ++ [] ≡ zip f.parameters xs =
    append-nil (zip (take (length few) f.parameters) (values (width p) (nested_calls (suc n) p) env (exprs_of few)))
    ∙ ap (λ m. zip (take m f.parameters) (values (width p) (nested_calls (suc n) p) env (exprs_of few))) k
    ∙ ap (λ ds. zip (take count f.parameters) (values (width p) (nested_calls (suc n) p) env (exprs_of ds))) t
    ∙ zip-take (width p) (nested_calls (suc n) p) env f.parameters es count c in
    let one_less : suc n - 1 ≡ n = omega arith in
    ap (λ m. value (width p) (nested_calls m p) (after_lines (width p) (nested_calls m p) (zip (take (length few) f.parameters) (values (width p) (nested_calls (suc n) p) env (exprs_of few)) ++ []) f.lines) f.answer) one_less
    ∙ ap (λ ps. value (width p) (nested_calls n p) (after_lines (width p) (nested_calls n p) ps f.lines) f.answer) pairs
    ∙ ap (λ found. answer (width p) (nested_calls n p) found xs) (sym named)

-- a function is no larger than the largest
pub size-widest : (fs : List Function) (f : Function) (n : ℕ) → slice_get fs n ≡ Some f → function_size f ≤ widest fs
size-widest [] f n e = absurd (cc e)
size-widest (g ∷ fs) f zero e = let same : g ≡ f = cc in rw (← same) (omega arith)
size-widest (g ∷ fs) f (suc n) e = omega (arith, size-widest fs f n e)

-- so is each function that there is
pub size-contained : (fs : List Function) (f : Function) → Contains fs f → function_size f ≤ widest fs
size-contained fs f (k, lt, is) = size-widest fs f k (slice_get_read fs (length fs) k f refl lt (sym is))

-- each level of calls has room for the largest function
pub room-more : (n : ℕ) (fs : List Function) → 0 < n → room (n - 1) fs + (widest fs + 4) ≡ room n fs
room-more zero fs h = absurd (omega arith)
room-more (suc n) fs h = let e : suc n - 1 ≡ n = omega arith in rw (e, mul-suc (widest fs + 4) n) (omega arith)

-- arguments with one more behind them are larger
pub exprs_size-push : (es : List Expr) (e : Expr) → exprs_size (exprs_of (es ++ e ∷ [])) ≡ exprs_size (exprs_of es) + 1 + expr_size e
exprs_size-push [] e = omega arith
exprs_size-push (d ∷ es) e = omega (arith, exprs_size-push es e)

pub exprs_size-take : (es : List Expr) (n : ℕ) → exprs_size (exprs_of (take n es)) ≤ exprs_size (exprs_of es)
exprs_size-take es zero = omega arith
exprs_size-take [] (suc n) = omega arith
exprs_size-take (e ∷ es) (suc n) = omega (arith, exprs_size-take es n)

-- an operand is no larger than all links
pub operand_size : (ls : List Link) (i : ℕ) (l : Link) → i < length ls → expr_size (get_or ls i l).operand ≤ links_size (links_of ls)
operand_size [] i l h = absurd (omega arith)
operand_size (m ∷ ls) zero l h = omega arith
operand_size (m ∷ ls) (suc i) l h = omega (arith, operand_size ls i l (omega arith))

no_values : (ps : List Name) → zip {X = ℤ} ps [] ≡ []
no_values [] = refl
no_values (p ∷ ps) = refl

-- the first two parameters have the values of two arguments
pub two_bound : (ps : List Name) (a b : Name) (x y : ℤ) → 2 ≤ length ps → a ≡ get_or ps 0 a → b ≡ get_or ps 1 b → zip ps (x ∷ y ∷ []) ≡ (a, x) ∷ (b, y) ∷ []
two_bound [] a b x y h e f = absurd (omega arith)
two_bound (p ∷ []) a b x y h e f = absurd (omega arith)
two_bound (p ∷ q ∷ ps) a b x y h e f = rw (e, f, no_values ps) refl
