-- How a program is written: the tokens of its tree, in order.
use Rattle.std.specs.Prelude.{ℕ, Bool, true, false, List, [], ◌∷◌, ◌++◌, map, codes}
use Rattle.std.specs.List.{flat_map}
use Rattle.rx_base.specs.Values.{Name}
use Rattle.rx_lex.specs.declared.token.Keyword.{Keyword}
use Rattle.rx_lex.specs.declared.token.Keyword.TheVariants as word
use Rattle.rx_lex.specs.declared.token.Sign.{Sign}
use Rattle.rx_lex.specs.declared.token.Sign.TheVariants as sign
use Rattle.rx_lex.specs.declared.token.Kind.{Kind}
use Rattle.rx_lex.specs.declared.token.Kind.TheVariants.{Upper, Lower, Number, Text, Word, Mark}
use Rattle.rx_lex.specs.Tokens.{second_text}
use Rattle.rx_ast.specs.declared.expr.Prefix.{Prefix}
use Rattle.rx_ast.specs.declared.expr.Prefix.TheVariants as prefix
use Rattle.rx_ast.specs.declared.expr.Operator.{Operator}
use Rattle.rx_ast.specs.declared.expr.Operator.TheVariants as operator
use Rattle.rx_ast.specs.Syntax.{Expr, number, variable, grouped, prefixed, chain, chosen, called, Links, no_links, link, Exprs, no_exprs, expr, exprs_of}
use Rattle.rx_ast.specs.Syntax.{Attribute, key, computed, literal, KeyPlace, unkeyed, key_first, key_last, Ending, at_once, by_tag, parentheses, braces}
use Rattle.rx_ast.specs.Syntax.{Slot, null, words, number_of, children, repeated, choice, host, comp, boundary, catcher, provider, enclosed, Slots, no_slots, slot}
use Rattle.rx_ast.specs.Syntax.{Body, single, fragment, enclosed_fragment, Statement, state, reducer, transition, context, use_resource, constant, effect, throw_if}
use Rattle.rx_ast.specs.Syntax.{Line, Parameter, integer, given_children, Component, Declaration, of_context, of_function, of_component, Program}

-- the sign of an operator before an operand
abbrev pub prefix_sign : Prefix → Sign
prefix_sign prefix.Not = sign.Not
prefix_sign prefix.Negative = sign.Minus

-- the sign of an operator between two operands
abbrev pub operator_sign : Operator → Sign
operator_sign operator.Or = sign.Or
operator_sign operator.And = sign.And
operator_sign operator.Equal = sign.Same
operator_sign operator.NotEqual = sign.NotSame
operator_sign operator.Less = sign.Less
operator_sign operator.LessOrEqual = sign.LessEqual
operator_sign operator.Greater = sign.Greater
operator_sign operator.GreaterOrEqual = sign.GreaterEqual
operator_sign operator.Add = sign.Plus
operator_sign operator.Subtract = sign.Minus
operator_sign operator.Multiply = sign.Star
operator_sign operator.Divide = sign.Slash
operator_sign operator.Remainder = sign.Percent

-- tokens in parentheses
abbrev pub in_parentheses : List Kind → List Kind
in_parentheses ks = Mark sign.OpenParen ∷ (ks ++ Mark sign.CloseParen ∷ [])

-- tokens in braces
abbrev pub in_braces : List Kind → List Kind
in_braces ks = Mark sign.OpenBrace ∷ (ks ++ Mark sign.CloseBrace ∷ [])

-- the tokens of an expression
abbrev mutual
  pub expr_tokens : Expr → List Kind
  expr_tokens (number n) = Number n ∷ []
  expr_tokens (variable x) = Lower x ∷ []
  expr_tokens (grouped e) = in_parentheses (expr_tokens e)
  expr_tokens (prefixed o e) = Mark (prefix_sign o) ∷ expr_tokens e
  expr_tokens (chain e ls) = expr_tokens e ++ links_tokens ls
  expr_tokens (chosen c a b) = expr_tokens c ++ (Mark sign.Question ∷ (expr_tokens a ++ (Mark sign.Colon ∷ expr_tokens b)))
  expr_tokens (called f es) = Lower f ∷ in_parentheses (exprs_tokens es)

  -- each operand with the operator before it
  pub links_tokens : Links → List Kind
  links_tokens no_links = []
  links_tokens (link o e ls) = Mark (operator_sign o) ∷ (expr_tokens e ++ links_tokens ls)

  -- expressions with a comma between each two
  pub exprs_tokens : Exprs → List Kind
  exprs_tokens no_exprs = []
  exprs_tokens (expr e es) = expr_tokens e ++ more_exprs_tokens es

  -- expressions with a comma before each
  pub more_exprs_tokens : Exprs → List Kind
  more_exprs_tokens no_exprs = []
  more_exprs_tokens (expr e es) = Mark sign.Comma ∷ (expr_tokens e ++ more_exprs_tokens es)

-- what stands behind `=` in braces, as in `key={1}`
abbrev pub given : Kind → List Kind → List Kind
given name ks = name ∷ Mark sign.Equals ∷ in_braces ks

-- the tokens of a key
abbrev pub key_tokens : Expr → List Kind
key_tokens e = given (Word word.Key) (expr_tokens e)

-- the tokens of an attribute
abbrev pub attribute_tokens : Attribute → List Kind
attribute_tokens (key e) = key_tokens e
attribute_tokens (computed x e) = given (Lower x) (expr_tokens e)
attribute_tokens (literal x t) = Lower x ∷ Mark sign.Equals ∷ Text t ∷ []

-- a key that stands before what else is given
abbrev pub key_before : KeyPlace → List Kind
key_before unkeyed = []
key_before (key_first e) = key_tokens e
key_before (key_last e) = []

-- a key that stands behind what else is given
abbrev pub key_behind : KeyPlace → List Kind
key_behind unkeyed = []
key_behind (key_first e) = []
key_behind (key_last e) = key_tokens e

-- what a boundary, of Suspense or of errors, or a provider is given, with its key in its place
abbrev pub keyed : KeyPlace → List Kind → List Kind
keyed k ks = key_before k ++ (ks ++ key_behind k)

-- the name of a provider, as it stands in its tags
abbrev pub provider_name : Name → List Kind
provider_name x = Upper x ∷ Mark sign.Dot ∷ Word word.Provider ∷ []

-- the end of an element with these children and this name
abbrev pub content_tokens : Ending → (inner name : List Kind) → List Kind
content_tokens at_once ks name = Mark sign.Slash ∷ Mark sign.Greater ∷ []
content_tokens by_tag ks name = Mark sign.Greater ∷ (ks ++ (Mark sign.Less ∷ Mark sign.Slash ∷ (name ++ Mark sign.Greater ∷ [])))

-- an element of this name, with what it is given and with its children
abbrev pub element_tokens : (name attributes : List Kind) → Ending → (inner : List Kind) → List Kind
element_tokens name ks w inner = Mark sign.Less ∷ (name ++ (ks ++ content_tokens w inner name))

-- the tokens of a slot
abbrev mutual
  pub slot_tokens : Slot → List Kind
  slot_tokens null = Word word.Null ∷ []
  slot_tokens (words t) = Text t ∷ []
  slot_tokens (number_of e) = expr_tokens e
  slot_tokens children = Word word.Children ∷ []
  slot_tokens (repeated x e n s) =
      Word word.For ∷ Mark sign.OpenParen ∷ Lower x ∷ Mark sign.Less
      ∷ (expr_tokens e ++ (Mark sign.Comma ∷ Number n ∷ Mark sign.CloseParen ∷ slot_tokens s))
  slot_tokens (choice e s t) = expr_tokens e ++ (Mark sign.Question ∷ (slot_tokens s ++ (Mark sign.Colon ∷ slot_tokens t)))
  slot_tokens (host x attrs w ss) = element_tokens (Lower x ∷ []) (flat_map attribute_tokens attrs) w (slots_tokens ss)
  slot_tokens (comp x attrs w ss) = element_tokens (Upper x ∷ []) (flat_map attribute_tokens attrs) w (slots_tokens ss)
  slot_tokens (boundary k s w ss) =
      element_tokens (Word word.Suspense ∷ []) (keyed k (given (Lower (codes "fallback")) (slot_tokens s))) w (slots_tokens ss)
  slot_tokens (catcher k s w ss) =
      element_tokens (Word word.Catch ∷ []) (keyed k (given (Lower (codes "fallback")) (slot_tokens s))) w (slots_tokens ss)
  slot_tokens (provider x k e w ss) =
      element_tokens (provider_name x) (keyed k (given (Lower (codes "value")) (expr_tokens e))) w (slots_tokens ss)
  slot_tokens (enclosed parentheses s) = in_parentheses (slot_tokens s)
  slot_tokens (enclosed braces s) = in_braces (slot_tokens s)

  -- slots one after another
  pub slots_tokens : Slots → List Kind
  slots_tokens no_slots = []
  slots_tokens (slot s ss) = slot_tokens s ++ slots_tokens ss

-- the tokens of a fragment's children between its tags
abbrev pub fragment_tokens : Slots → List Kind
fragment_tokens ss =
    Mark sign.Less ∷ Mark sign.Greater ∷ (slots_tokens ss ++ Mark sign.Less ∷ Mark sign.Slash ∷ Mark sign.Greater ∷ [])

-- the tokens of what a component returns
abbrev pub body_tokens : Body → List Kind
body_tokens (single s) = slot_tokens s
body_tokens (fragment ss) = fragment_tokens ss
body_tokens (enclosed_fragment ss) = in_parentheses (fragment_tokens ss)

-- `const name =` and what stands behind it, up to the semicolon
abbrev pub binding : Kind → List Kind → List Kind
binding name ks = Word word.Const ∷ name ∷ Mark sign.Equals ∷ (ks ++ Mark sign.Semicolon ∷ [])

-- `const [name, setter] =` and what stands behind it, up to the semicolon
abbrev pub pair_binding : (name setter : Name) → List Kind → List Kind
pair_binding x y ks =
    Word word.Const ∷ Mark sign.OpenBracket ∷ Lower x ∷ Mark sign.Comma ∷ Lower y ∷ Mark sign.CloseBracket ∷ Mark sign.Equals
    ∷ (ks ++ Mark sign.Semicolon ∷ [])

-- the word of an effect
abbrev pub effect_word : Bool → Keyword
effect_word false = word.UseEffect
effect_word true = word.UseLayoutEffect

-- the tokens of a statement
abbrev pub statement_tokens : Statement → List Kind
statement_tokens (state x y e) = pair_binding x y (Word word.UseState ∷ in_parentheses (expr_tokens e))
statement_tokens (reducer x y f e) =
    pair_binding x y (Word word.UseReducer ∷ in_parentheses (Lower f ∷ Mark sign.Comma ∷ expr_tokens e))
statement_tokens (transition x y) = pair_binding x y (Word word.UseTransition ∷ in_parentheses [])
statement_tokens (context x c) = binding (Lower x) (Word word.UseContext ∷ in_parentheses (Upper c ∷ []))
statement_tokens (use_resource x r) = binding (Lower x) (Word word.Use ∷ in_parentheses (Text r ∷ []))
statement_tokens (constant x e) = binding (Lower x) (expr_tokens e)
statement_tokens (effect l t es) =
    Word (effect_word l)
    ∷ (in_parentheses (Text t ∷ Mark sign.Comma ∷ Mark sign.OpenBracket ∷ (exprs_tokens (exprs_of es) ++ Mark sign.CloseBracket ∷ []))
    ++ Mark sign.Semicolon ∷ [])
statement_tokens (throw_if e) = Word word.ThrowIf ∷ (in_parentheses (expr_tokens e) ++ Mark sign.Semicolon ∷ [])

-- the tokens of a line of a function
abbrev pub line_tokens : Line → List Kind
line_tokens l = binding (Lower l.name) (expr_tokens l.value)

-- further tokens, with a comma before each
abbrev pub more_separated : List Kind → List Kind
more_separated [] = []
more_separated (k ∷ ks) = Mark sign.Comma ∷ k ∷ more_separated ks

-- tokens with a comma between each two
abbrev pub separated : List Kind → List Kind
separated [] = []
separated (k ∷ ks) = k ∷ more_separated ks

-- the token of a parameter
abbrev pub parameter_token : Parameter → Kind
parameter_token (integer x) = Lower x
parameter_token given_children = Word word.Children

-- the parameters of a component, in braces if these stand there
abbrev pub parameters_tokens : Bool → List Parameter → List Kind
parameters_tokens false xs = []
parameters_tokens true xs = in_braces (separated (map parameter_token xs))

-- `function name(parameters) { lines return answer; }`
abbrev pub function_form : Kind → (parameters lines answer : List Kind) → List Kind
function_form name xs ls answer =
    Word word.Function ∷ name ∷ (in_parentheses xs ++ in_braces (ls ++ (Word word.Return ∷ (answer ++ Mark sign.Semicolon ∷ []))))

-- the number of a context's default, with `-` before it if that stands there
abbrev pub default_tokens : Bool → ℕ → List Kind
default_tokens false n = Number n ∷ []
default_tokens true n = Mark sign.Minus ∷ Number n ∷ []

-- `function name(parameters) { statements return body; }`
abbrev pub component_form : Component → List Kind
component_form c =
    function_form (Upper c.name) (parameters_tokens c.braces c.parameters) (flat_map statement_tokens c.statements) (body_tokens c.body)

-- the tokens of a component, in `const name = memo(` and `);` if it is declared so
abbrev pub component_tokens : (memo : Bool) → Component → List Kind
component_tokens false c = component_form c
component_tokens true c = binding (Upper c.name) (Word word.Memo ∷ in_parentheses (component_form c))

-- the tokens of a declaration
abbrev pub declaration_tokens : Declaration → List Kind
declaration_tokens (of_context c) =
    binding (Upper c.name) (Word word.CreateContext ∷ in_parentheses (default_tokens c.negative c.number))
declaration_tokens (of_function f) =
    function_form (Lower f.name) (separated (map (λ x. Lower x) f.parameters)) (flat_map line_tokens f.lines) (expr_tokens f.answer)
declaration_tokens (of_component c) = component_tokens c.memo c

-- what stands at the front of a program of version 2
abbrev pub version_tokens : (second : Bool) → List Kind
version_tokens false = []
version_tokens true = Text second_text ∷ Mark sign.Semicolon ∷ []

-- the tokens of a program
abbrev pub program_tokens : Program → List Kind
program_tokens p = version_tokens p.second ++ flat_map declaration_tokens p.declarations
