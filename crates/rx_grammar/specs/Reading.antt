-- How each part of a program is read.
use Rattle.std.specs.Prelude.{ℕ, zero, suc, ◌-◌, ◌==◌, ◌&&◌, ◌||◌, Bool, true, false, if◌then◌else◌, List, [], ◌∷◌, drop, codes, Option, Some, None, Ok}
use Rattle.std.specs.List.{list_all}
use Rattle.rx_base.specs.Values.{Name}
use Rattle.rx_lex.specs.declared.token.Keyword.TheVariants as word
use Rattle.rx_lex.specs.declared.token.Sign.{Sign}
use Rattle.rx_lex.specs.declared.token.Sign.TheVariants as sign
use Rattle.rx_lex.specs.declared.token.Kind.{Kind}
use Rattle.rx_lex.specs.declared.token.Kind.TheVariants.{Text, Mark}
use Rattle.rx_lex.specs.Tokens.{is_text_of, is_word_byte, second_text}
use Rattle.rx_ast.specs.declared.expr.Prefix.{Prefix}
use Rattle.rx_ast.specs.declared.expr.Prefix.TheVariants as prefix
use Rattle.rx_ast.specs.declared.expr.Operator.{Operator}
use Rattle.rx_ast.specs.declared.expr.Operator.TheVariants as operator
use Rattle.rx_ast.specs.declared.expr.Link.{Link}
use Rattle.rx_ast.specs.ExprView.{links_of}
use Rattle.rx_ast.specs.Syntax.{Expr, number, variable, grouped, prefixed, chain, chosen, called, exprs_of}
use Rattle.rx_ast.specs.Syntax.{Attribute, key, computed, literal, KeyPlace, unkeyed, key_first, key_last, at_once, by_tag, parentheses, braces}
use Rattle.rx_ast.specs.Syntax.{Slot, null, words, number_of, children, repeated, choice, enclosed, no_slots, slots_of}
use Rattle.rx_ast.specs.Syntax.{Body, single, fragment, enclosed_fragment, Statement, state, reducer, transition, context, use_resource, constant, effect, throw_if}
use Rattle.rx_ast.specs.Syntax.{Line, Parameter, integer, given_children, Declaration, of_context, of_function, of_component, Program}
use Rattle.rx_print.specs.Printing.{prefix_sign}
use Rattle.rx_print.specs.Levels.{operator_line, or_line}
use Rattle.rx_grammar.specs.Steps.{Read, ◌>>=◌, next, taken, is_mark, is_word, is_lower, is_text, as_mark, as_word, as_end, as_lower, as_upper, as_number, as_text, as_lower_name, as_upper_name, all_of, where_true, within, until_end}
use Rattle.rx_grammar.specs.Openings.{Opening, host_tag, component_tag, boundary_tag, catcher_tag, provider_tag, element}

-- this sign
abbrev pub sign_at : Sign → List Kind → Read (Unit {0})
sign_at s = taken (as_mark s)

-- an item behind a comma
abbrev pub behind_comma : {A : Type 0} → (List Kind → Read A) → List Kind → Read A
behind_comma item ts = sign_at sign.Comma ts >>= λ c. item c.1

-- items with a comma between each two, up to and with the sign that closes them
unfoldable pub list_to : {A : Type 0} → Sign → (List Kind → Read A) → List Kind → Read (List A)
list_to close item ts =
    if next (is_mark close) ts then (sign_at close ts >>= λ s. Ok ([], s.1))
    else (item ts >>= λ x. all_of (is_mark sign.Comma) (behind_comma item) x.1 >>= λ xs. sign_at close xs.1 >>= λ s. Ok (x.0 ∷ xs.0, s.1))

-- the operator that a sign is between two operands
abbrev pub sign_operator : Sign → Option Operator
sign_operator sign.Or = Some operator.Or
sign_operator sign.And = Some operator.And
sign_operator sign.Same = Some operator.Equal
sign_operator sign.NotSame = Some operator.NotEqual
sign_operator sign.Less = Some operator.Less
sign_operator sign.LessEqual = Some operator.LessOrEqual
sign_operator sign.Greater = Some operator.Greater
sign_operator sign.GreaterEqual = Some operator.GreaterOrEqual
sign_operator sign.Plus = Some operator.Add
sign_operator sign.Minus = Some operator.Subtract
sign_operator sign.Star = Some operator.Multiply
sign_operator sign.Slash = Some operator.Divide
sign_operator sign.Percent = Some operator.Remainder
sign_operator s = None

-- the operator, if it stands on this line of the grammar
abbrev pub on_line : ℕ → Option Operator → Option Operator
on_line k None = None
on_line k (Some o) = if operator_line o == k then Some o else None

-- an operator of this line of the grammar
abbrev pub as_operator : ℕ → Kind → Option Operator
as_operator k (Mark s) = on_line k (sign_operator s)
as_operator k t = None

-- whether there is one
abbrev pub is_some : {A : Type 0} → Option A → Bool
is_some None = false
is_some (Some x) = true

-- whether a token is an operator of this line of the grammar
abbrev pub is_operator : ℕ → Kind → Bool
is_operator k t = is_some (as_operator k t)

-- what may be read one level further in
pub record Inner : Type 0 where
  pub expr : List Kind → Read Expr
  pub operand : List Kind → Read Expr

-- an operator before its operand
abbrev pub prefixed_at : Option Inner → Prefix → List Kind → Read Expr
prefixed_at o p ts = within o ts (λ i. sign_at (prefix_sign p) ts >>= λ s. i.operand s.1 >>= λ e. Ok (prefixed p e.0, e.1))

-- an expression in parentheses
abbrev pub group_at : Option Inner → List Kind → Read Expr
group_at o ts = within o ts (λ i. sign_at sign.OpenParen ts >>= λ s. i.expr s.1 >>= λ e. sign_at sign.CloseParen e.1 >>= λ c. Ok (grouped e.0, c.1))

-- the arguments of a call
abbrev pub call_at : Option Inner → Name → List Kind → Read Expr
call_at o f ts = within o ts (λ i. sign_at sign.OpenParen ts >>= λ s. list_to sign.CloseParen i.expr s.1 >>= λ es. Ok (called f (exprs_of es.0), es.1))

-- a variable or a call
abbrev pub named_at : Option Inner → List Kind → Read Expr
named_at o ts = taken as_lower ts >>= λ x. if next (is_mark sign.OpenParen) x.1 then call_at o x.0 x.1 else Ok (variable x.0, x.1)

-- an operand
unfoldable pub operand_with : Option Inner → List Kind → Read Expr
operand_with o ts =
    if next (is_mark sign.Not) ts then prefixed_at o prefix.Not ts
    else (if next (is_mark sign.Minus) ts then prefixed_at o prefix.Negative ts
    else (if next (is_mark sign.OpenParen) ts then group_at o ts
    else (if next is_lower ts then named_at o ts
    else (taken as_number ts >>= λ n. Ok (number n.0, n.1)))))

-- an operator of a line with the operand behind it
abbrev pub link_at : ℕ → (List Kind → Read Expr) → List Kind → Read Link
link_at k operand ts = taken (as_operator k) ts >>= λ o. operand o.1 >>= λ e. Ok (record { operator = o.0; operand = e.0 }, e.1)

-- an operand alone, or a chain
abbrev pub chain_of : Expr → List Link → Expr
chain_of e [] = e
chain_of e (l ∷ ls) = chain e (links_of (l ∷ ls))

-- a line of the grammar: operands of the next tighter one with operators between
unfoldable pub line_with : ℕ → Option Inner → List Kind → Read Expr
line_with zero o ts = operand_with o ts
line_with (suc k) o ts = line_with k o ts >>= λ x. all_of (is_operator (suc k)) (link_at (suc k) (line_with k o)) x.1 >>= λ ls. Ok (chain_of x.0 ls.0, ls.1)

-- the two sides behind a test
abbrev pub choice_at : Option Inner → Expr → List Kind → Read Expr
choice_at o c ts = within o ts (λ i. sign_at sign.Question ts >>= λ q. i.expr q.1 >>= λ a. sign_at sign.Colon a.1 >>= λ s. i.expr s.1 >>= λ b. Ok (chosen c a.0 b.0, b.1))

-- an expression
unfoldable pub expr_with : Option Inner → List Kind → Read Expr
expr_with o ts = line_with or_line o ts >>= λ c. if next (is_mark sign.Question) c.1 then choice_at o c.0 c.1 else Ok (c.0, c.1)

-- what may be read if so many levels are left
abbrev pub inner_at : ℕ → Option Inner
inner_at zero = None
inner_at (suc n) = Some (record { expr = expr_with (inner_at n); operand = operand_with (inner_at n) })

-- an expression if so many levels are left
abbrev pub expr_at : ℕ → List Kind → Read Expr
expr_at n = expr_with (inner_at n)

-- an operand if so many levels are left
abbrev pub operand_at : ℕ → List Kind → Read Expr
operand_at n = operand_with (inner_at n)

-- a line of the grammar if so many levels are left
abbrev pub line_at : ℕ → ℕ → List Kind → Read Expr
line_at k n = line_with k (inner_at n)

-- an expression in braces
abbrev pub braced_at : ℕ → List Kind → Read Expr
braced_at n ts = sign_at sign.OpenBrace ts >>= λ s. expr_at n s.1 >>= λ e. sign_at sign.CloseBrace e.1 >>= λ c. Ok (e.0, c.1)

-- a key
abbrev pub key_at : ℕ → List Kind → Read Expr
key_at n ts = taken (as_word word.Key) ts >>= λ k. sign_at sign.Equals k.1 >>= λ q. braced_at n q.1

-- the value of an attribute; a text only at an element of the host
abbrev pub given_at : Bool → ℕ → Name → List Kind → Read Attribute
given_at true n x ts = if next is_text ts then (taken as_text ts >>= λ t. Ok (literal x t.0, t.1)) else (braced_at n ts >>= λ e. Ok (computed x e.0, e.1))
given_at false n x ts = braced_at n ts >>= λ e. Ok (computed x e.0, e.1)

-- whether a token begins an attribute
abbrev pub is_attribute : Kind → Bool
is_attribute k = is_word word.Key k || is_lower k

-- an attribute
unfoldable pub attribute_at : Bool → ℕ → List Kind → Read Attribute
attribute_at host n ts =
    if next (is_word word.Key) ts then (key_at n ts >>= λ e. Ok (key e.0, e.1))
    else (taken as_lower ts >>= λ x. sign_at sign.Equals x.1 >>= λ q. given_at host n x.0 q.1)

-- attributes
abbrev pub attributes_at : Bool → ℕ → List Kind → Read (List Attribute)
attributes_at host n = all_of is_attribute (attribute_at host n)

-- a key behind what else is given, or none
abbrev pub last_key_at : ℕ → List Kind → Read KeyPlace
last_key_at n ts = if next (is_word word.Key) ts then (key_at n ts >>= λ e. Ok (key_last e.0, e.1)) else Ok (unkeyed, ts)

-- what a boundary, of Suspense or of errors, or a provider is given, and its key in its place
abbrev pub keyed_at : {A : Type 0} → ℕ → (List Kind → Read A) → List Kind → Read (KeyPlace × A)
keyed_at n item ts =
    if next (is_word word.Key) ts then (key_at n ts >>= λ e. item e.1 >>= λ x. Ok ((key_first e.0, x.0), x.1))
    else (item ts >>= λ x. last_key_at n x.1 >>= λ k. Ok ((k.0, x.0), k.1))

-- the value of a provider
abbrev pub value_at : ℕ → List Kind → Read Expr
value_at n ts = taken (as_lower_name (codes "value")) ts >>= λ v. sign_at sign.Equals v.1 >>= λ q. braced_at n q.1

-- a slot in braces
abbrev pub braced_slot : (List Kind → Read Slot) → List Kind → Read Slot
braced_slot slot ts = sign_at sign.OpenBrace ts >>= λ s. slot s.1 >>= λ x. sign_at sign.CloseBrace x.1 >>= λ c. Ok (x.0, c.1)

-- the fallback of a boundary, of Suspense or of errors
abbrev pub fallback_at : (List Kind → Read Slot) → List Kind → Read Slot
fallback_at slot ts = taken (as_lower_name (codes "fallback")) ts >>= λ f. sign_at sign.Equals f.1 >>= λ q. braced_slot slot q.1

-- a provider's tag behind its context
abbrev pub provider_at : ℕ → Name → List Kind → Read Opening
provider_at n x ts = sign_at sign.Dot ts >>= λ d. taken (as_word word.Provider) d.1 >>= λ p. keyed_at n (value_at n) p.1 >>= λ k. Ok (provider_tag x k.0.0 k.0.1, k.1)

-- the tag of a component or a provider
abbrev pub upper_tag_at : ℕ → List Kind → Read Opening
upper_tag_at n ts = taken as_upper ts >>= λ x. if next (is_mark sign.Dot) x.1 then provider_at n x.0 x.1 else (attributes_at false n x.1 >>= λ a. Ok (component_tag x.0 a.0, a.1))

-- an opening tag behind its `<`
unfoldable pub tag_at : (List Kind → Read Slot) → ℕ → List Kind → Read Opening
tag_at slot n ts =
    if next (is_word word.Suspense) ts then (taken (as_word word.Suspense) ts >>= λ w. keyed_at n (fallback_at slot) w.1 >>= λ k. Ok (boundary_tag k.0.0 k.0.1, k.1))
    else (if next (is_word word.Catch) ts then (taken (as_word word.Catch) ts >>= λ w. keyed_at n (fallback_at slot) w.1 >>= λ k. Ok (catcher_tag k.0.0 k.0.1, k.1))
    else (if next is_lower ts then (taken as_lower ts >>= λ x. attributes_at true n x.1 >>= λ a. Ok (host_tag x.0 a.0, a.1))
    else upper_tag_at n ts))

-- the name of a closing tag
abbrev pub closing_name_at : Opening → List Kind → Read (Unit {0})
closing_name_at (host_tag x attrs) ts = taken (as_lower_name x) ts
closing_name_at (component_tag x attrs) ts = taken (as_upper_name x) ts
closing_name_at (boundary_tag k s) ts = taken (as_word word.Suspense) ts
closing_name_at (catcher_tag k s) ts = taken (as_word word.Catch) ts
closing_name_at (provider_tag x k e) ts = taken (as_upper_name x) ts >>= λ n. sign_at sign.Dot n.1 >>= λ d. taken (as_word word.Provider) d.1

-- what may be read one level further in, slots too
pub record SlotInner : Type 0 where
  pub expr : List Kind → Read Expr
  pub slot : List Kind → Read Slot
  -- an element behind its `<`
  pub element : List Kind → Read Slot
  -- an element
  pub opened : List Kind → Read Slot
  -- children up to and with `</`
  pub children : List Kind → Read (List Slot)

-- `</`
abbrev pub close_at : List Kind → Read (Unit {0})
close_at ts = sign_at sign.Less ts >>= λ l. sign_at sign.Slash l.1

-- behind the `<` of a child list: the end of the list, or an element
abbrev pub end_or_element : Option SlotInner → List Kind → Read (Option Slot)
end_or_element o ts =
    if next (is_mark sign.Slash) ts then (sign_at sign.Slash ts >>= λ s. Ok (None, s.1))
    else within o ts (λ i. i.element ts >>= λ e. Ok (Some e.0, e.1))

-- a child, or the end of the child list
unfoldable pub child_at : Option SlotInner → (List Kind → Read Slot) → List Kind → Read (Option Slot)
child_at o slot ts =
    if next (is_mark sign.OpenBrace) ts then (braced_slot slot ts >>= λ s. Ok (Some (enclosed braces s.0), s.1))
    else (sign_at sign.Less ts >>= λ l. end_or_element o l.1)

-- children up to and with `</`
abbrev pub children_with : Option SlotInner → (List Kind → Read Slot) → List Kind → Read (List Slot)
children_with o slot ts = until_end (child_at o slot) close_at ts

-- what stands behind an opening tag
unfoldable pub content_at : (List Kind → Read (List Slot)) → Opening → List Kind → Read Slot
content_at kids tag ts =
    if next (is_mark sign.Slash) ts then (sign_at sign.Slash ts >>= λ s. sign_at sign.Greater s.1 >>= λ g. Ok (element tag at_once no_slots, g.1))
    else (sign_at sign.Greater ts >>= λ g. kids g.1 >>= λ cs. closing_name_at tag cs.1 >>= λ n. sign_at sign.Greater n.1 >>= λ e. Ok (element tag by_tag (slots_of cs.0), e.1))

-- an element behind its `<`
unfoldable pub element_with : (List Kind → Read Slot) → (List Kind → Read (List Slot)) → ℕ → List Kind → Read Slot
element_with slot kids n ts = tag_at slot n ts >>= λ t. content_at kids t.0 t.1

-- an element
abbrev pub element_at : Option SlotInner → List Kind → Read Slot
element_at o ts = within o ts (λ i. sign_at sign.Less ts >>= λ l. i.element l.1)

-- an element in parentheses
abbrev pub enclosed_at : Option SlotInner → List Kind → Read Slot
enclosed_at o ts = within o ts (λ i. sign_at sign.OpenParen ts >>= λ p. i.opened p.1 >>= λ e. sign_at sign.CloseParen e.1 >>= λ c. Ok (enclosed parentheses e.0, c.1))

-- `for`
abbrev pub repeated_at : Option SlotInner → List Kind → Read Slot
repeated_at o ts = within o ts (λ i. taken (as_word word.For) ts >>= λ f. sign_at sign.OpenParen f.1 >>= λ p. taken as_lower p.1 >>= λ x. sign_at sign.Less x.1 >>= λ l. i.expr l.1 >>= λ e. sign_at sign.Comma e.1 >>= λ c. taken as_number c.1 >>= λ m. sign_at sign.CloseParen m.1 >>= λ r. i.slot r.1 >>= λ s. Ok (repeated x.0 e.0 m.0 s.0, s.1))

-- the two slots behind a test
abbrev pub slot_choice_at : Option SlotInner → Expr → List Kind → Read Slot
slot_choice_at o c ts = within o ts (λ i. sign_at sign.Question ts >>= λ q. i.slot q.1 >>= λ a. sign_at sign.Colon a.1 >>= λ s. i.slot s.1 >>= λ b. Ok (choice c a.0 b.0, b.1))

-- an integer, or a choice
abbrev pub shown_at : Option SlotInner → ℕ → List Kind → Read Slot
shown_at o n ts = line_at or_line n ts >>= λ c. if next (is_mark sign.Question) c.1 then slot_choice_at o c.0 c.1 else Ok (number_of c.0, c.1)

-- a slot that is no element
unfoldable pub plain_with : Option SlotInner → ℕ → List Kind → Read Slot
plain_with o n ts =
    if next (is_word word.Null) ts then (taken (as_word word.Null) ts >>= λ w. Ok (null, w.1))
    else (if next is_text ts then (taken as_text ts >>= λ t. Ok (words t.0, t.1))
    else (if next (is_word word.Children) ts then (taken (as_word word.Children) ts >>= λ w. Ok (children, w.1))
    else (if next (is_word word.For) ts then repeated_at o ts else shown_at o n ts)))

-- whether these two signs stand next
abbrev pub next_two : Sign → Sign → List Kind → Bool
next_two s t ts = next (is_mark s) ts && next (is_mark t) (drop 1 ts)

-- a slot
unfoldable pub slot_with : Option SlotInner → ℕ → List Kind → Read Slot
slot_with o n ts =
    if next (is_mark sign.Less) ts then element_at o ts
    else (if next_two sign.OpenParen sign.Less ts then enclosed_at o ts else plain_with o n ts)

-- what may be read if so many levels are left
abbrev pub slot_inner : ℕ → Option SlotInner
slot_inner zero = None
slot_inner (suc n) = Some (record {
  expr = expr_at n;
  slot = slot_with (slot_inner n) n;
  element = element_with (slot_with (slot_inner n) n) (children_with (slot_inner n) (slot_with (slot_inner n) n)) n;
  opened = element_at (slot_inner n);
  children = children_with (slot_inner n) (slot_with (slot_inner n) n);
})

-- a slot if so many levels are left
abbrev pub slot_at : ℕ → List Kind → Read Slot
slot_at n = slot_with (slot_inner n) n

-- children up to and with `</` if so many levels are left
abbrev pub children_at : ℕ → List Kind → Read (List Slot)
children_at n = children_with (slot_inner n) (slot_at n)

-- an element behind its `<` with so many levels left in it
abbrev pub element_behind : ℕ → List Kind → Read Slot
element_behind n = element_with (slot_at n) (children_at n) n

-- the children of a fragment behind its `<`
abbrev pub fragment_at : (List Kind → Read (List Slot)) → List Kind → Read (List Slot)
fragment_at kids ts = sign_at sign.Greater ts >>= λ g. kids g.1 >>= λ cs. sign_at sign.Greater cs.1 >>= λ e. Ok (cs.0, e.1)

-- a body that begins with `<`
abbrev pub opened_body : Option SlotInner → List Kind → Read Body
opened_body o ts = within o ts (λ i. sign_at sign.Less ts >>= λ l.
    if next (is_mark sign.Greater) l.1 then (fragment_at i.children l.1 >>= λ cs. Ok (fragment (slots_of cs.0), cs.1))
    else (i.element l.1 >>= λ e. Ok (single e.0, e.1)))

-- the same in parentheses
abbrev pub enclosed_body_of : Body → Body
enclosed_body_of (single s) = single (enclosed parentheses s)
enclosed_body_of (fragment ss) = enclosed_fragment ss
enclosed_body_of (enclosed_fragment ss) = enclosed_fragment ss

-- a body in parentheses
abbrev pub enclosed_body : ℕ → List Kind → Read Body
enclosed_body n ts = within (slot_inner n) ts (λ i. sign_at sign.OpenParen ts >>= λ p. opened_body (slot_inner (n - 1)) p.1 >>= λ b. sign_at sign.CloseParen b.1 >>= λ c. Ok (enclosed_body_of b.0, c.1))

-- a body
unfoldable pub body_at : ℕ → List Kind → Read Body
body_at n ts =
    if next (is_mark sign.Less) ts then opened_body (slot_inner n) ts
    else (if next_two sign.OpenParen sign.Less ts then enclosed_body n ts else (plain_with (slot_inner n) n ts >>= λ s. Ok (single s.0, s.1)))

-- whether a text names a resource: one or more bytes of words
abbrev pub is_resource : List ℕ → Bool
is_resource [] = false
is_resource (b ∷ bs) = list_all is_word_byte (b ∷ bs)

-- a text that passes the test
abbrev pub where_resource : Bool → Name → Option Name
where_resource true r = Some r
where_resource false r = None

-- the name of a resource
abbrev pub as_resource : Kind → Option Name
as_resource (Text r) = where_resource (is_resource r) r
as_resource k = None

-- `(`, an expression and `);`
abbrev pub argument_at : ℕ → List Kind → Read Expr
argument_at n ts = expr_at n ts >>= λ e. sign_at sign.CloseParen e.1 >>= λ c. sign_at sign.Semicolon c.1 >>= λ s. Ok (e.0, s.1)

-- a hook with a setter
unfoldable pub hook_at : ℕ → Name → Name → List Kind → Read Statement
hook_at n x y ts =
    if next (is_word word.UseState) ts then (taken (as_word word.UseState) ts >>= λ w. sign_at sign.OpenParen w.1 >>= λ p. argument_at n p.1 >>= λ e. Ok (state x y e.0, e.1))
    else (if next (is_word word.UseTransition) ts then (taken (as_word word.UseTransition) ts >>= λ w. sign_at sign.OpenParen w.1 >>= λ p. sign_at sign.CloseParen p.1 >>= λ c. sign_at sign.Semicolon c.1 >>= λ s. Ok (transition x y, s.1))
    else (taken (as_word word.UseReducer) ts >>= λ w. sign_at sign.OpenParen w.1 >>= λ p. taken as_lower p.1 >>= λ f. sign_at sign.Comma f.1 >>= λ c. argument_at n c.1 >>= λ e. Ok (reducer x y f.0 e.0, e.1)))

-- `[name, setter] =` and a hook
unfoldable pub pair_at : ℕ → List Kind → Read Statement
pair_at n ts = sign_at sign.OpenBracket ts >>= λ o. taken as_lower o.1 >>= λ x. sign_at sign.Comma x.1 >>= λ m. taken as_lower m.1 >>= λ y. sign_at sign.CloseBracket y.1 >>= λ c. sign_at sign.Equals c.1 >>= λ q. hook_at n x.0 y.0 q.1

-- what a single name stands for
unfoldable pub value_statement : ℕ → Name → List Kind → Read Statement
value_statement n x ts =
    if next (is_word word.UseContext) ts then (taken (as_word word.UseContext) ts >>= λ w. sign_at sign.OpenParen w.1 >>= λ p. taken as_upper p.1 >>= λ c. sign_at sign.CloseParen c.1 >>= λ r. sign_at sign.Semicolon r.1 >>= λ s. Ok (context x c.0, s.1))
    else (if next (is_word word.Use) ts then (taken (as_word word.Use) ts >>= λ w. sign_at sign.OpenParen w.1 >>= λ p. taken as_resource p.1 >>= λ t. sign_at sign.CloseParen t.1 >>= λ r. sign_at sign.Semicolon r.1 >>= λ s. Ok (use_resource x t.0, s.1))
    else (expr_at n ts >>= λ e. sign_at sign.Semicolon e.1 >>= λ s. Ok (constant x e.0, s.1)))

-- a statement that begins with `const`
unfoldable pub const_at : ℕ → List Kind → Read Statement
const_at n ts = taken (as_word word.Const) ts >>= λ w.
    if next (is_mark sign.OpenBracket) w.1 then pair_at n w.1
    else (taken as_lower w.1 >>= λ x. sign_at sign.Equals x.1 >>= λ q. value_statement n x.0 q.1)

-- an effect behind its word
unfoldable pub effect_at : ℕ → Bool → List Kind → Read Statement
effect_at n layout ts = sign_at sign.OpenParen ts >>= λ p. taken as_text p.1 >>= λ t. sign_at sign.Comma t.1 >>= λ c. sign_at sign.OpenBracket c.1 >>= λ b. list_to sign.CloseBracket (expr_at n) b.1 >>= λ es. sign_at sign.CloseParen es.1 >>= λ r. sign_at sign.Semicolon r.1 >>= λ s. Ok (effect layout t.0 es.0, s.1)

-- `throwIf`, `(`, an expression and `);`
unfoldable pub throw_at : ℕ → List Kind → Read Statement
throw_at n ts = taken (as_word word.ThrowIf) ts >>= λ w. sign_at sign.OpenParen w.1 >>= λ p. argument_at n p.1 >>= λ e. Ok (throw_if e.0, e.1)

-- a statement
unfoldable pub statement_at : ℕ → List Kind → Read Statement
statement_at n ts =
    if next (is_word word.Const) ts then const_at n ts
    else (if next (is_word word.ThrowIf) ts then throw_at n ts
    else (if next (is_word word.UseEffect) ts then (taken (as_word word.UseEffect) ts >>= λ w. effect_at n false w.1)
    else (taken (as_word word.UseLayoutEffect) ts >>= λ w. effect_at n true w.1)))

-- whether a token begins a statement
abbrev pub is_statement : Kind → Bool
is_statement k = is_word word.Const k || (is_word word.ThrowIf k || (is_word word.UseEffect k || is_word word.UseLayoutEffect k))

-- statements
abbrev pub statements_at : ℕ → List Kind → Read (List Statement)
statements_at n = all_of is_statement (statement_at n)

-- a line of a function
unfoldable pub function_line : ℕ → List Kind → Read Line
function_line n ts = taken (as_word word.Const) ts >>= λ w. taken as_lower w.1 >>= λ x. sign_at sign.Equals x.1 >>= λ q. expr_at n q.1 >>= λ e. sign_at sign.Semicolon e.1 >>= λ s. Ok (record { name = x.0; value = e.0 }, s.1)

-- lines of a function
abbrev pub lines_at : ℕ → List Kind → Read (List Line)
lines_at n = all_of (is_word word.Const) (function_line n)

-- the number of a context's default, with whether `-` stands before it
abbrev pub default_at : List Kind → Read (Bool × ℕ)
default_at ts = if next (is_mark sign.Minus) ts then (sign_at sign.Minus ts >>= λ m. taken as_number m.1 >>= λ n. Ok ((true, n.0), n.1)) else (taken as_number ts >>= λ n. Ok ((false, n.0), n.1))

-- a context behind its name and `=`
unfoldable pub context_at : Name → List Kind → Read Declaration
context_at x ts = taken (as_word word.CreateContext) ts >>= λ k. sign_at sign.OpenParen k.1 >>= λ p. default_at p.1 >>= λ d. sign_at sign.CloseParen d.1 >>= λ c. sign_at sign.Semicolon c.1 >>= λ s. Ok (of_context (record { name = x; negative = d.0.0; number = d.0.1 }), s.1)

-- `return`, an expression and `;}`
abbrev pub answer_at : ℕ → List Kind → Read Expr
answer_at n ts = taken (as_word word.Return) ts >>= λ w. expr_at n w.1 >>= λ e. sign_at sign.Semicolon e.1 >>= λ s. sign_at sign.CloseBrace s.1 >>= λ c. Ok (e.0, c.1)

-- a function behind its name
unfoldable pub function_at : ℕ → Name → List Kind → Read Declaration
function_at n f ts = sign_at sign.OpenParen ts >>= λ p. list_to sign.CloseParen (taken as_lower) p.1 >>= λ xs. sign_at sign.OpenBrace xs.1 >>= λ o. lines_at n o.1 >>= λ ls. answer_at n ls.1 >>= λ e. Ok (of_function (record { name = f; parameters = xs.0; lines = ls.0; answer = e.0 }), e.1)

-- a parameter of a component
unfoldable pub parameter_at : List Kind → Read Parameter
parameter_at ts = if next (is_word word.Children) ts then (taken (as_word word.Children) ts >>= λ w. Ok (given_children, w.1)) else (taken as_lower ts >>= λ x. Ok (integer x.0, x.1))

-- the parameters of a component behind `(`, up to and with `)`
unfoldable pub parameters_at : List Kind → Read (Bool × List Parameter)
parameters_at ts =
    if next (is_mark sign.CloseParen) ts then (sign_at sign.CloseParen ts >>= λ c. Ok ((false, []), c.1))
    else (sign_at sign.OpenBrace ts >>= λ o. list_to sign.CloseBrace parameter_at o.1 >>= λ xs. sign_at sign.CloseParen xs.1 >>= λ c. Ok ((true, xs.0), c.1))

-- `return`, a body and `;}`
abbrev pub result_at : ℕ → List Kind → Read Body
result_at n ts = taken (as_word word.Return) ts >>= λ w. body_at n w.1 >>= λ b. sign_at sign.Semicolon b.1 >>= λ s. sign_at sign.CloseBrace s.1 >>= λ c. Ok (b.0, c.1)

-- a component behind its name
unfoldable pub component_at : ℕ → (memo : Bool) → Name → List Kind → Read Declaration
component_at n memo x ts = sign_at sign.OpenParen ts >>= λ p. parameters_at p.1 >>= λ xs. sign_at sign.OpenBrace xs.1 >>= λ o. statements_at n o.1 >>= λ ls. result_at n ls.1 >>= λ b. Ok (of_component (record { name = x; memo = memo; braces = xs.0.0; parameters = xs.0.1; statements = ls.0; body = b.0 }), b.1)

-- a component that is declared by `memo`, behind its name and `=`: the function's name repeats it
unfoldable pub memo_at : ℕ → Name → List Kind → Read Declaration
memo_at n x ts = taken (as_word word.Memo) ts >>= λ m. sign_at sign.OpenParen m.1 >>= λ p. taken (as_word word.Function) p.1 >>= λ f. taken (as_upper_name x) f.1 >>= λ y. component_at n true x y.1 >>= λ d. sign_at sign.CloseParen d.1 >>= λ c. sign_at sign.Semicolon c.1 >>= λ s. Ok (d.0, s.1)

-- a declaration that begins with `const`
unfoldable pub named_declaration : ℕ → List Kind → Read Declaration
named_declaration n ts = taken (as_word word.Const) ts >>= λ w. taken as_upper w.1 >>= λ x. sign_at sign.Equals x.1 >>= λ q.
    if next (is_word word.Memo) q.1 then memo_at n x.0 q.1 else context_at x.0 q.1

-- a declaration
unfoldable pub declaration_at : ℕ → List Kind → Read Declaration
declaration_at n ts =
    if next (is_word word.Const) ts then named_declaration n ts
    else (taken (as_word word.Function) ts >>= λ w. if next is_lower w.1 then (taken as_lower w.1 >>= λ f. function_at n f.0 f.1) else (taken as_upper w.1 >>= λ x. component_at n false x.0 x.1))

-- whether a token begins a declaration
abbrev pub is_declaration : Kind → Bool
is_declaration k = is_word word.Const k || is_word word.Function k

-- declarations
abbrev pub declarations_at : ℕ → List Kind → Read (List Declaration)
declarations_at n = all_of is_declaration (declaration_at n)

-- this text
abbrev pub as_this_text : List ℕ → Kind → Option (Unit {0})
as_this_text s k = where_true (is_text_of s k)

-- what stands at the front of a program of version 2, if it does
abbrev pub version_at : List Kind → Read Bool
version_at ts = if next (is_text_of second_text) ts then (taken (as_this_text second_text) ts >>= λ t. sign_at sign.Semicolon t.1 >>= λ s. Ok (true, s.1)) else Ok (false, ts)

-- a program, and then the end mark
unfoldable pub program_at : ℕ → List Kind → Read Program
program_at n ts = version_at ts >>= λ v. declarations_at n v.1 >>= λ ds. taken as_end ds.1 >>= λ e. Ok (record { second = v.0; declarations = ds.0 }, e.1)
