-- Which trees the grammar has: each part stands on its line of the grammar, and no place lies deeper than the greatest level.
use Rattle.std.specs.Prelude.{◌≡◌, ◌≢◌, ℕ, suc, ◌-◌, ◌<◌, Bool, true, false, List, [], ◌∷◌, ◌++◌}
use Rattle.rx_lex.specs.Tokens.{IsRun, is_word_byte}
use Rattle.rx_lex.specs.declared.token.Kind.{Kind}
use Rattle.rx_lex.specs.declared.token.Kind.TheVariants.{End}
use Rattle.rx_ast.specs.declared.expr.Operator.{Operator}
use Rattle.rx_ast.specs.declared.expr.Operator.TheVariants as operator
use Rattle.rx_ast.specs.Syntax.{Expr, number, variable, grouped, prefixed, chain, chosen, called, Links, no_links, link, Exprs, no_exprs, expr, exprs_of}
use Rattle.rx_ast.specs.Syntax.{Attribute, key, computed, literal, KeyPlace, unkeyed, key_first, key_last, Ending, at_once, by_tag, parentheses, braces}
use Rattle.rx_ast.specs.Syntax.{Slot, null, words, number_of, children, repeated, choice, host, comp, boundary, catcher, provider, enclosed, Slots, no_slots, slot}
use Rattle.rx_ast.specs.Syntax.{Body, single, fragment, enclosed_fragment, Statement, state, reducer, transition, context, use_resource, constant, effect, throw_if}
use Rattle.rx_ast.specs.Syntax.{Line, Parameter, Declaration, of_context, of_function, of_component, Program}
use Rattle.rx_print.specs.Printing.{program_tokens}

-- how many levels may be open at one place
abbrev pub level_limit : ℕ
level_limit = 64

-- the lines of the grammar, from the one that binds tightest: an operand without an operator between
abbrev pub operand_line : ℕ
operand_line = 0

-- `*`, `/` and `%`
abbrev pub product_line : ℕ
product_line = 1

-- `+` and `-`
abbrev pub sum_line : ℕ
sum_line = 2

-- `<`, `<=`, `>` and `>=`
abbrev pub order_line : ℕ
order_line = 3

-- `===` and `!==`
abbrev pub equality_line : ℕ
equality_line = 4

-- `&&`
abbrev pub and_line : ℕ
and_line = 5

-- `||`
abbrev pub or_line : ℕ
or_line = 6

-- a whole expression, with `?`
abbrev pub whole_line : ℕ
whole_line = 7

-- the line that has the operator
abbrev pub operator_line : Operator → ℕ
operator_line operator.Or = or_line
operator_line operator.And = and_line
operator_line operator.Equal = equality_line
operator_line operator.NotEqual = equality_line
operator_line operator.Less = order_line
operator_line operator.LessOrEqual = order_line
operator_line operator.Greater = order_line
operator_line operator.GreaterOrEqual = order_line
operator_line operator.Add = sum_line
operator_line operator.Subtract = sum_line
operator_line operator.Multiply = product_line
operator_line operator.Divide = product_line
operator_line operator.Remainder = product_line

-- The expression stands on this line of the grammar or a tighter one, with so many levels left. A parenthesis, the operators before an operand and `?` open a level each.
abbrev mutual
  pub ExprFits : Expr → (line levels : ℕ) → Type 0
  ExprFits (number v) k n = Unit {0}
  ExprFits (variable x) k n = Unit {0}
  ExprFits (grouped e) k n = (0 < n) × ExprFits e whole_line (n - 1)
  ExprFits (prefixed o e) k n = (0 < n) × ExprFits e operand_line (n - 1)
  ExprFits (chain e ls) k n = (j : ℕ) × (j < k) × (ls ≢ no_links) × ExprFits e j n × LinksFit ls j n
  ExprFits (chosen c a b) k n =
      (k ≡ whole_line) × ExprFits c or_line n × (0 < n) × ExprFits a whole_line (n - 1) × ExprFits b whole_line (n - 1)
  ExprFits (called f es) k n = (0 < n) × ExprsFit es (n - 1)

  -- operators of the line above this one, and operands of this one
  pub LinksFit : Links → (line levels : ℕ) → Type 0
  LinksFit no_links j n = Unit {0}
  LinksFit (link o e ls) j n = (operator_line o ≡ suc j) × ExprFits e j n × LinksFit ls j n

  -- whole expressions
  pub ExprsFit : Exprs → (levels : ℕ) → Type 0
  ExprsFit no_exprs n = Unit {0}
  ExprsFit (expr e es) n = ExprFits e whole_line n × ExprsFit es n

-- an attribute of an element of the host
abbrev pub HostAttributesFit : List Attribute → (levels : ℕ) → Type 0
HostAttributesFit [] n = Unit {0}
HostAttributesFit (key e ∷ attrs) n = ExprFits e whole_line n × HostAttributesFit attrs n
HostAttributesFit (computed x e ∷ attrs) n = ExprFits e whole_line n × HostAttributesFit attrs n
HostAttributesFit (literal x t ∷ attrs) n = HostAttributesFit attrs n

-- an attribute of an element of a component, where no text stands
abbrev pub ComponentAttributesFit : List Attribute → (levels : ℕ) → Type 0
ComponentAttributesFit [] n = Unit {0}
ComponentAttributesFit (key e ∷ attrs) n = ExprFits e whole_line n × ComponentAttributesFit attrs n
ComponentAttributesFit (computed x e ∷ attrs) n = ExprFits e whole_line n × ComponentAttributesFit attrs n
ComponentAttributesFit (literal x t ∷ attrs) n = ⊥

-- the key of a boundary, of Suspense or of errors, or of a provider
abbrev pub KeyFits : KeyPlace → (levels : ℕ) → Type 0
KeyFits unkeyed n = Unit {0}
KeyFits (key_first e) n = ExprFits e whole_line n
KeyFits (key_last e) n = ExprFits e whole_line n

-- an element that ends at once has no children
abbrev pub EndsWith : Ending → Slots → Type 0
EndsWith at_once ss = ss ≡ no_slots
EndsWith by_tag ss = Unit {0}

-- where a slot stands: in a place of its own, in a child list, or in parentheses
pub data Place : Type 0 where
  of_slot : Place
  of_child : Place
  of_element : Place

-- The slot stands in such a place, with so many levels left. A `<`, a `for`, a `?` and a parenthesis open a level each.
abbrev mutual
  pub SlotFits : Slot → Place → (levels : ℕ) → Type 0
  SlotFits null at n = at ≡ of_slot
  SlotFits (words t) at n = at ≡ of_slot
  SlotFits (number_of e) at n = (at ≡ of_slot) × ExprFits e or_line n
  SlotFits children at n = at ≡ of_slot
  SlotFits (repeated x e m s) at n = (at ≡ of_slot) × (0 < n) × ExprFits e whole_line (n - 1) × SlotFits s of_slot (n - 1)
  SlotFits (choice e s t) at n =
      (at ≡ of_slot) × ExprFits e or_line n × (0 < n) × SlotFits s of_slot (n - 1) × SlotFits t of_slot (n - 1)
  SlotFits (host x attrs w ss) at n = (0 < n) × HostAttributesFit attrs (n - 1) × EndsWith w ss × SlotsFit ss (n - 1)
  SlotFits (comp x attrs w ss) at n = (0 < n) × ComponentAttributesFit attrs (n - 1) × EndsWith w ss × SlotsFit ss (n - 1)
  SlotFits (boundary k s w ss) at n =
      (0 < n) × KeyFits k (n - 1) × SlotFits s of_slot (n - 1) × EndsWith w ss × SlotsFit ss (n - 1)
  SlotFits (catcher k s w ss) at n =
      (0 < n) × KeyFits k (n - 1) × SlotFits s of_slot (n - 1) × EndsWith w ss × SlotsFit ss (n - 1)
  SlotFits (provider x k e w ss) at n =
      (0 < n) × KeyFits k (n - 1) × ExprFits e whole_line (n - 1) × EndsWith w ss × SlotsFit ss (n - 1)
  SlotFits (enclosed parentheses s) at n = (at ≡ of_slot) × (0 < n) × SlotFits s of_element (n - 1)
  SlotFits (enclosed braces s) at n = (at ≡ of_child) × SlotFits s of_slot n

  -- a child list
  pub SlotsFit : Slots → (levels : ℕ) → Type 0
  SlotsFit no_slots n = Unit {0}
  SlotsFit (slot s ss) n = SlotFits s of_child n × SlotsFit ss n

-- what a component returns
abbrev pub BodyFits : Body → (levels : ℕ) → Type 0
BodyFits (single s) n = SlotFits s of_slot n
BodyFits (fragment ss) n = (0 < n) × SlotsFit ss (n - 1)
BodyFits (enclosed_fragment ss) n = (1 < n) × SlotsFit ss (n - 2)

-- a statement; the name of a resource is one or more bytes of words
abbrev pub StatementFits : Statement → (levels : ℕ) → Type 0
StatementFits (state x y e) n = ExprFits e whole_line n
StatementFits (reducer x y f e) n = ExprFits e whole_line n
StatementFits (transition x y) n = Unit {0}
StatementFits (context x c) n = Unit {0}
StatementFits (use_resource x r) n = (r ≢ []) × IsRun is_word_byte r
StatementFits (constant x e) n = ExprFits e whole_line n
StatementFits (effect l t es) n = ExprsFit (exprs_of es) n
StatementFits (throw_if e) n = ExprFits e whole_line n

-- each statement
abbrev pub StatementsFit : List Statement → (levels : ℕ) → Type 0
StatementsFit [] n = Unit {0}
StatementsFit (t ∷ ts) n = StatementFits t n × StatementsFit ts n

-- each line of a function
abbrev pub LinesFit : List Line → (levels : ℕ) → Type 0
LinesFit [] n = Unit {0}
LinesFit (l ∷ ls) n = ExprFits l.value whole_line n × LinesFit ls n

-- parameters stand in braces
abbrev pub ParametersFit : Bool → List Parameter → Type 0
ParametersFit false xs = xs ≡ []
ParametersFit true xs = Unit {0}

-- a declaration
abbrev pub DeclarationFits : Declaration → (levels : ℕ) → Type 0
DeclarationFits (of_context c) n = Unit {0}
DeclarationFits (of_function f) n = LinesFit f.lines n × ExprFits f.answer whole_line n
DeclarationFits (of_component c) n = ParametersFit c.braces c.parameters × StatementsFit c.statements n × BodyFits c.body n

-- each declaration
abbrev pub DeclarationsFit : List Declaration → (levels : ℕ) → Type 0
DeclarationsFit [] n = Unit {0}
DeclarationsFit (d ∷ ds) n = DeclarationFits d n × DeclarationsFit ds n

-- the grammar has this tree, and none of its places lies deeper than the greatest level
abbrev pub IsGrammatical : Program → Type 0
IsGrammatical p = DeclarationsFit p.declarations level_limit

-- the program has these tokens, the mark of the end behind them
abbrev pub HasTokens : Program → List Kind → Type 0
HasTokens p ks = IsGrammatical p × (ks ≡ program_tokens p ++ End ∷ [])

-- some program begins with these tokens
abbrev pub BeginsProgram : List Kind → Type 0
BeginsProgram ks = (p : Program) × (more : List Kind) × IsGrammatical p × (program_tokens p ++ End ∷ [] ≡ ks ++ more)
