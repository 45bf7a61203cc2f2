-- What the expressions of a declaration cost at most.
use Rattle.std.specs.Prelude.{◌≡◌, ◌≤◌, true, ℕ, zero, suc, ◌+◌, ◌*◌, List, [], ◌∷◌, Option, Some, None, nat_lt, find, length, map, slice_get, slice_index}
use Rattle.rx_ast.specs.Syntax.{Program, Function, Line, Component, functions, Expr, Links, Exprs, exprs_of, Attribute, key, computed, literal, KeyPlace, unkeyed, key_first, key_last, Slot, Slots, body_slots, Statement, state, reducer, transition, context, use_resource, constant, effect, throw_if, Declaration, of_context, of_function, of_component}
use Rattle.rx_ast.specs.Syntax as syntax
use Rattle.rx_ast.specs.SlotView.{key_place_of}
use Rattle.rx_ast.specs.declared.slot.Tag.{Tag}
use Rattle.rx_ast.specs.declared.slot.Tag.TheVariants as tag
use Rattle.rx_rules.specs.Names.{function_number}
use Rattle.rx_rules.specs.Bounds.{held}
use Rattle.rx_order.specs.Graphs.{is_among}

-- a sum, held
abbrev pub held_sum : ℕ → ℕ → ℕ
held_sum a b = held (a + b)

-- a product, held
abbrev pub held_product : ℕ → ℕ → ℕ
held_product a b = held (a * b)

-- the cost of an expression, from the costs of functions by their numbers
abbrev mutual
  pub expr_cost : (ℕ → ℕ) → Program → Expr → ℕ
  expr_cost costs p (syntax.number n) = 1
  expr_cost costs p (syntax.variable x) = 1
  expr_cost costs p (syntax.grouped e) = expr_cost costs p e
  expr_cost costs p (syntax.prefixed o e) = held_sum 1 (expr_cost costs p e)
  expr_cost costs p (syntax.chain e ls) = held_sum (expr_cost costs p e) (links_cost costs p ls)
  expr_cost costs p (syntax.chosen c a b) =
      held_sum 1 (held_sum (expr_cost costs p c) (held_sum (expr_cost costs p a) (expr_cost costs p b)))
  expr_cost costs p (syntax.called f es) = held_sum 1 (held_sum (exprs_cost costs p es) (costs (function_number p f)))

  -- the cost of operators with the operands behind them
  pub links_cost : (ℕ → ℕ) → Program → Links → ℕ
  links_cost costs p syntax.no_links = 0
  links_cost costs p (syntax.link o e ls) = held_sum (held_sum 1 (expr_cost costs p e)) (links_cost costs p ls)

  -- the cost of each expression
  pub exprs_cost : (ℕ → ℕ) → Program → Exprs → ℕ
  exprs_cost costs p syntax.no_exprs = 0
  exprs_cost costs p (syntax.expr e es) = held_sum (expr_cost costs p e) (exprs_cost costs p es)

-- the cost of lines of a function
abbrev pub lines_cost : (ℕ → ℕ) → Program → List Line → ℕ
lines_cost costs p [] = 0
lines_cost costs p (l ∷ ls) = held_sum (expr_cost costs p l.value) (lines_cost costs p ls)

-- the cost of what a function computes
abbrev pub body_cost : (ℕ → ℕ) → Program → Function → ℕ
body_cost costs p f = held_sum (lines_cost costs p f.lines) (expr_cost costs p f.answer)

-- the cost of a function that may be missing
abbrev pub cost_if : (ℕ → ℕ) → Program → Option Function → ℕ
cost_if costs p None = 0
cost_if costs p (Some f) = body_cost costs p f

-- the cost of a function, by its number, if calls nest at most so deep
unfoldable pub function_cost : ℕ → Program → ℕ → ℕ
function_cost zero p f = 0
function_cost (suc n) p f = cost_if (function_cost n p) p (slice_get (functions p) f)

-- the cost of an attribute
abbrev pub attribute_cost : (ℕ → ℕ) → Program → Attribute → ℕ
attribute_cost costs p (key e) = expr_cost costs p e
attribute_cost costs p (computed x e) = expr_cost costs p e
attribute_cost costs p (literal x t) = 0

-- the cost of attributes
abbrev pub attributes_cost : (ℕ → ℕ) → Program → List Attribute → ℕ
attributes_cost costs p [] = 0
attributes_cost costs p (a ∷ attrs) = held_sum (attribute_cost costs p a) (attributes_cost costs p attrs)

-- the cost of a key
abbrev pub key_cost : (ℕ → ℕ) → Program → KeyPlace → ℕ
key_cost costs p unkeyed = 0
key_cost costs p (key_first e) = expr_cost costs p e
key_cost costs p (key_last e) = expr_cost costs p e

-- The cost of a slot. A list counts its bound once and its item as often as it may stand.
abbrev mutual
  pub slot_cost : (ℕ → ℕ) → Program → Slot → ℕ
  slot_cost costs p syntax.null = 0
  slot_cost costs p (syntax.words t) = 0
  slot_cost costs p (syntax.number_of e) = expr_cost costs p e
  slot_cost costs p syntax.children = 0
  slot_cost costs p (syntax.repeated i e limit s) = held_sum (expr_cost costs p e) (held_product limit (slot_cost costs p s))
  slot_cost costs p (syntax.choice c a b) = held_sum (expr_cost costs p c) (held_sum (slot_cost costs p a) (slot_cost costs p b))
  slot_cost costs p (syntax.host n attrs w ss) = held_sum (attributes_cost costs p attrs) (slots_cost costs p ss)
  slot_cost costs p (syntax.comp n attrs w ss) = held_sum (attributes_cost costs p attrs) (slots_cost costs p ss)
  slot_cost costs p (syntax.boundary k f w ss) = held_sum (held_sum (key_cost costs p k) (slot_cost costs p f)) (slots_cost costs p ss)
  slot_cost costs p (syntax.catcher k f w ss) = held_sum (held_sum (key_cost costs p k) (slot_cost costs p f)) (slots_cost costs p ss)
  slot_cost costs p (syntax.provider n k e w ss) =
      held_sum (held_sum (key_cost costs p k) (expr_cost costs p e)) (slots_cost costs p ss)
  slot_cost costs p (syntax.enclosed b s) = slot_cost costs p s

  -- the cost of each slot
  pub slots_cost : (ℕ → ℕ) → Program → Slots → ℕ
  slots_cost costs p syntax.no_slots = 0
  slots_cost costs p (syntax.slot s ss) = held_sum (slot_cost costs p s) (slots_cost costs p ss)

-- the cost of what the opening tag of an element is given
abbrev pub tag_cost : (ℕ → ℕ) → Program → Tag → ℕ
tag_cost costs p (tag.Host x attrs) = attributes_cost costs p attrs.items
tag_cost costs p (tag.Component x attrs) = attributes_cost costs p attrs.items
tag_cost costs p (tag.Suspense k f) = held_sum (key_cost costs p (key_place_of k)) (slot_cost costs p f.value)
tag_cost costs p (tag.Catch k f) = held_sum (key_cost costs p (key_place_of k)) (slot_cost costs p f.value)
tag_cost costs p (tag.Provider x k e) = held_sum (key_cost costs p (key_place_of k)) (expr_cost costs p e.value)

-- the cost of a statement
abbrev pub statement_cost : (ℕ → ℕ) → Program → Statement → ℕ
statement_cost costs p (state x y e) = expr_cost costs p e
statement_cost costs p (reducer x y f e) = expr_cost costs p e
statement_cost costs p (transition x y) = 0
statement_cost costs p (context x c) = 0
statement_cost costs p (use_resource x r) = 0
statement_cost costs p (constant x e) = expr_cost costs p e
statement_cost costs p (effect layout label es) = exprs_cost costs p (exprs_of es)
statement_cost costs p (throw_if e) = expr_cost costs p e

-- the cost of statements
abbrev pub statements_cost : (ℕ → ℕ) → Program → List Statement → ℕ
statements_cost costs p [] = 0
statements_cost costs p (s ∷ ss) = held_sum (statement_cost costs p s) (statements_cost costs p ss)

-- the cost of a declaration, from the costs of functions
abbrev pub cost_from : (ℕ → ℕ) → Program → Declaration → ℕ
cost_from costs p (of_context c) = 0
cost_from costs p (of_function f) = body_cost costs p f
cost_from costs p (of_component c) = held_sum (statements_cost costs p c.statements) (slots_cost costs p (body_slots c.body))

-- No call nests deeper: no function reaches itself, so none nests more calls than there are functions.
unfoldable pub declaration_cost : Program → Declaration → ℕ
declaration_cost p = cost_from (function_cost (length (functions p)) p) p

-- the greatest cost of a declaration
abbrev pub cost_limit : ℕ
cost_limit = 1000000

-- the first of these numbers that is over a limit
abbrev pub first_over : (limit : ℕ) → List ℕ → Option ℕ
first_over limit ns = find (nat_lt limit) ns

-- the first cost of a declaration that is over its limit
abbrev pub cost_over : Program → Option ℕ
cost_over p = first_over cost_limit (map (declaration_cost p) p.declarations)

-- one round over all functions, from what was known before
abbrev pub cost_round : Program → List ℕ → List ℕ
cost_round p table = map (body_cost (slice_index table) p) (functions p)

-- so many rounds
unfoldable pub cost_rounds : ℕ → Program → List ℕ → List ℕ
cost_rounds zero p table = table
cost_rounds (suc n) p table = cost_rounds n p (cost_round p table)

-- the table has the costs of each of these functions, if calls nest deep enough for them all
abbrev pub AreCosts : Program → List ℕ → (numbers : List ℕ) → Type 0
AreCosts p costs numbers = (f depth : ℕ) → is_among numbers f ≡ true → length numbers ≤ depth → function_cost depth p f ≡ slice_index costs f
