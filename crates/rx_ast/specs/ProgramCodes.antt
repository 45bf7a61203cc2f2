-- How the logic stores a program and its parts.
use Rattle.std.specs.Prelude.{◌≡◌, ℕ, Bool, List, refl}
use Rattle.std.specs.Coded.{Coded, code_by, coded×, coded_ℕ, coded_bool, coded_list}
use base.Stored.{Gv, gnil, gnum, gcons}
use mathlib.Core.Path.{ap}
use Rattle.rx_base.specs.Values.{Name}
use Rattle.rx_ast.specs.Codes.{head, tail, text, expr_code}
use Rattle.rx_ast.specs.SlotCodes.{slot_code, slots_code}
use Rattle.rx_ast.specs.Syntax.{Expr, Body, single, fragment, enclosed_fragment, Statement, state, reducer, transition, context, use_resource, constant, effect, throw_if}
use Rattle.rx_ast.specs.Syntax.{Context, Line, Function, Parameter, integer, given_children, Component, Declaration, of_context, of_function, of_component, Program}

abbrev pub stored_body : Body → Gv
stored_body (single s) = gcons (gnum 0) (slot_code.code s)
stored_body (fragment ss) = gcons (gnum 1) (slots_code.code ss)
stored_body (enclosed_fragment ss) = gcons (gnum 2) (slots_code.code ss)

pub stored_body_one : (x y : Body) → stored_body x ≡ stored_body y → x ≡ y
stored_body_one (single s) (single t) p = ap single (slot_code.inj s t (ap tail p))
stored_body_one (fragment ss) (fragment ts) p = ap fragment (slots_code.inj ss ts (ap tail p))
stored_body_one (enclosed_fragment ss) (enclosed_fragment ts) p = ap enclosed_fragment (slots_code.inj ss ts (ap tail p))
stored_body_one _ _ p = cc

abbrev pub body_code : Coded Body
body_code = record { code = stored_body; inj = stored_body_one }

abbrev exprs_code : Coded (List Expr)
exprs_code = coded_list expr_code

-- the parts behind the first number
abbrev first : Gv → Gv
first g = head (tail g)

abbrev second : Gv → Gv
second g = head (tail (tail g))

abbrev third : Gv → Gv
third g = head (tail (tail (tail g)))

abbrev pub stored_statement : Statement → Gv
stored_statement (state x s e) = gcons (gnum 0) (gcons (text.code x) (gcons (text.code s) (expr_code.code e)))
stored_statement (reducer x s f e) =
    gcons (gnum 1) (gcons (text.code x) (gcons (text.code s) (gcons (text.code f) (expr_code.code e))))
stored_statement (transition x s) = gcons (gnum 6) (gcons (text.code x) (text.code s))
stored_statement (context x c) = gcons (gnum 2) (gcons (text.code x) (text.code c))
stored_statement (use_resource x r) = gcons (gnum 3) (gcons (text.code x) (text.code r))
stored_statement (constant x e) = gcons (gnum 4) (gcons (text.code x) (expr_code.code e))
stored_statement (effect l t es) = gcons (gnum 5) (gcons (coded_bool.code l) (gcons (text.code t) (exprs_code.code es)))
stored_statement (throw_if e) = gcons (gnum 7) (expr_code.code e)

pub stored_statement_one : (x y : Statement) → stored_statement x ≡ stored_statement y → x ≡ y
stored_statement_one (state x s d) (state y t e) p =
    λ i. state (text.inj x y (ap first p) i) (text.inj s t (ap second p) i) (expr_code.inj d e (ap (λ g. tail (tail (tail g))) p) i)
stored_statement_one (reducer x s f d) (reducer y t g e) p =
    λ i. reducer (text.inj x y (ap first p) i) (text.inj s t (ap second p) i) (text.inj f g (ap third p) i)
    (expr_code.inj d e (ap (λ g. tail (tail (tail (tail g)))) p) i)
stored_statement_one (transition x s) (transition y t) p =
    λ i. transition (text.inj x y (ap first p) i) (text.inj s t (ap (λ g. tail (tail g)) p) i)
stored_statement_one (context x c) (context y d) p =
    λ i. context (text.inj x y (ap first p) i) (text.inj c d (ap (λ g. tail (tail g)) p) i)
stored_statement_one (use_resource x r) (use_resource y s) p =
    λ i. use_resource (text.inj x y (ap first p) i) (text.inj r s (ap (λ g. tail (tail g)) p) i)
stored_statement_one (constant x d) (constant y e) p =
    λ i. constant (text.inj x y (ap first p) i) (expr_code.inj d e (ap (λ g. tail (tail g)) p) i)
stored_statement_one (effect l t es) (effect m u fs) p =
    λ i. effect (coded_bool.inj l m (ap first p) i) (text.inj t u (ap second p) i)
    (exprs_code.inj es fs (ap (λ g. tail (tail (tail g))) p) i)
stored_statement_one (throw_if d) (throw_if e) p = ap throw_if (expr_code.inj d e (ap tail p))
stored_statement_one _ _ p = cc

abbrev pub statement_code : Coded Statement
statement_code = record { code = stored_statement; inj = stored_statement_one }

abbrev pub context_code : Coded Context
context_code =
    code_by (Name × (Bool × ℕ)) (coded× text (coded× coded_bool coded_ℕ)) (λ c. (c.name, (c.negative, c.number)))
    (λ p. record { name = p.0; negative = p.1.0; number = p.1.1 }) (λ _. refl)

abbrev pub line_code : Coded Line
line_code =
    code_by (Name × Expr) (coded× text expr_code) (λ l. (l.name, l.value)) (λ p. record { name = p.0; value = p.1 }) (λ _. refl)

abbrev pub function_code : Coded Function
function_code =
    code_by (Name × (List Name × (List Line × Expr))) (coded× text (coded× (coded_list text) (coded× (coded_list line_code) expr_code)))
    (λ f. (f.name, (f.parameters, (f.lines, f.answer))))
    (λ p. record { name = p.0; parameters = p.1.0; lines = p.1.1.0; answer = p.1.1.1 }) (λ _. refl)

abbrev pub stored_parameter : Parameter → Gv
stored_parameter (integer x) = gcons (gnum 0) (text.code x)
stored_parameter given_children = gnil

pub stored_parameter_one : (x y : Parameter) → stored_parameter x ≡ stored_parameter y → x ≡ y
stored_parameter_one (integer x) (integer y) p = ap integer (text.inj x y (ap tail p))
stored_parameter_one given_children given_children p = refl
stored_parameter_one _ _ p = cc

abbrev pub parameter_code : Coded Parameter
parameter_code = record { code = stored_parameter; inj = stored_parameter_one }

abbrev pub component_code : Coded Component
component_code =
    code_by (Name × (Bool × (Bool × (List Parameter × (List Statement × Body)))))
    (coded× text (coded× coded_bool (coded× coded_bool (coded× (coded_list parameter_code) (coded× (coded_list statement_code) body_code)))))
    (λ c. (c.name, (c.memo, (c.braces, (c.parameters, (c.statements, c.body))))))
    (λ p. record { name = p.0; memo = p.1.0; braces = p.1.1.0; parameters = p.1.1.1.0; statements = p.1.1.1.1.0; body = p.1.1.1.1.1 }) (λ _. refl)

abbrev pub stored_declaration : Declaration → Gv
stored_declaration (of_context c) = gcons (gnum 0) (context_code.code c)
stored_declaration (of_function f) = gcons (gnum 1) (function_code.code f)
stored_declaration (of_component c) = gcons (gnum 2) (component_code.code c)

pub stored_declaration_one : (x y : Declaration) → stored_declaration x ≡ stored_declaration y → x ≡ y
stored_declaration_one (of_context c) (of_context d) p = ap of_context (context_code.inj c d (ap tail p))
stored_declaration_one (of_function f) (of_function g) p = ap of_function (function_code.inj f g (ap tail p))
stored_declaration_one (of_component c) (of_component d) p = ap of_component (component_code.inj c d (ap tail p))
stored_declaration_one _ _ p = cc

abbrev pub declaration_code : Coded Declaration
declaration_code = record { code = stored_declaration; inj = stored_declaration_one }

abbrev pub program_code : Coded Program
program_code =
    code_by (Bool × List Declaration) (coded× coded_bool (coded_list declaration_code)) (λ p. (p.second, p.declarations))
    (λ q. record { second = q.0; declarations = q.1 }) (λ _. refl)
