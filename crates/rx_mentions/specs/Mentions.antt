-- What a program mentions, in the order of its text. Each check of names and counts is a filter of this list, so "the first place in the text" is the first of what the filter leaves.
use Rattle.std.specs.Prelude.{Bool, true, false, ◌||◌, List, [], ◌∷◌, ◌++◌, length, fold, cond, filter_map, flat_map, Option, Some, None, codes}
use Rattle.rx_base.specs.Values.{Name}
use Rattle.rx_ast.specs.Syntax.{Expr, Links, Exprs, exprs, Attribute, key, computed, literal, KeyPlace, unkeyed, key_first, key_last, Slot, Slots, body_slots, Statement, state, reducer, transition, context, use_resource, constant, effect, throw_if, Parameter, integer, given_children, Line, Function, Component, Declaration, of_context, of_function, of_component, declared_name, Program}
use Rattle.rx_ast.specs.Syntax as syntax
use Rattle.rx_rules.specs.Names.{has_name}
use Rattle.rx_rules.specs.Keys.{carries_key}
use Rattle.rx_mentions.specs.declared.count.Count.TheVariants as count
use Rattle.rx_mentions.specs.Mention.{Mention}
use Rattle.rx_mentions.specs.Mention as mention

-- the name of a key among attributes
abbrev pub key_name : Name
key_name = codes "key"

-- the name of the children that a component is given
abbrev pub children_name : Name
children_name = codes "children"

-- the name of a parameter
abbrev pub parameter_name : Parameter → Name
parameter_name (integer x) = x
parameter_name given_children = children_name

-- what is bound at a place of a body: the names that stand for values, and the others
pub record Scope : Type 0 where
  pub values : List Name
  pub others : List Name

-- nothing is bound yet
abbrev pub no_scope : Scope
no_scope = record { values = []; others = [] }

-- a name with a value
abbrev pub bound : Scope → Name → Scope
bound s x = record { values = s.values ++ x ∷ []; others = s.others }

-- a name without one
abbrev pub kept : Scope → Name → Scope
kept s x = record { values = s.values; others = s.others ++ x ∷ [] }

-- a name is bound
abbrev pub is_bound : Scope → Name → Bool
is_bound s x = has_name s.values x || has_name s.others x

-- a name is introduced when these names stand already
abbrev pub introduced : List Name → Name → Mention
introduced taken x = mention.Introduced x (has_name taken x)

-- a name is introduced in a body
abbrev pub opened : Scope → Name → Mention
opened s x = mention.Introduced x (is_bound s x)

-- a variable's mention, if these names stand for values: there is one only if it is none of them
abbrev pub variable_mentions : (scope : List Name) → Name → List Mention
variable_mentions scope x = cond (has_name scope x) [] (mention.Unknown x ∷ [])

-- an expression's mentions, if these names stand for values
abbrev mutual
  pub expr_mentions : List Name → Expr → List Mention
  expr_mentions scope (syntax.number n) = []
  expr_mentions scope (syntax.variable x) = variable_mentions scope x
  expr_mentions scope (syntax.grouped e) = expr_mentions scope e
  expr_mentions scope (syntax.prefixed o e) = expr_mentions scope e
  expr_mentions scope (syntax.chain e ls) = expr_mentions scope e ++ links_mentions scope ls
  expr_mentions scope (syntax.chosen c a b) = expr_mentions scope c ++ (expr_mentions scope a ++ expr_mentions scope b)
  expr_mentions scope (syntax.called f es) = mention.Call f (length (exprs es)) ∷ exprs_mentions scope es

  -- the operands' mentions
  pub links_mentions : List Name → Links → List Mention
  links_mentions scope syntax.no_links = []
  links_mentions scope (syntax.link o e ls) = expr_mentions scope e ++ links_mentions scope ls

  -- the mentions of each expression
  pub exprs_mentions : List Name → Exprs → List Mention
  exprs_mentions scope syntax.no_exprs = []
  exprs_mentions scope (syntax.expr e es) = expr_mentions scope e ++ exprs_mentions scope es

-- what is bound behind a parameter
abbrev pub after_parameter : Scope → Parameter → Scope
after_parameter s (integer x) = bound s x
after_parameter s given_children = kept s children_name

-- the mentions of parameters
abbrev pub parameters_mentions : Scope → List Parameter → List Mention
parameters_mentions s [] = []
parameters_mentions s (x ∷ xs) = opened s (parameter_name x) ∷ parameters_mentions (after_parameter s x) xs

-- what is bound behind a line of a function
abbrev pub after_line : Scope → Line → Scope
after_line s l = bound s l.name

-- the mentions of a function's lines
abbrev pub lines_mentions : Scope → List Line → List Mention
lines_mentions s [] = []
lines_mentions s (l ∷ ls) = opened s l.name ∷ (expr_mentions s.values l.value ++ lines_mentions (after_line s l) ls)

-- what is bound behind the parameters of a function
abbrev pub function_scope : Function → Scope
function_scope f = fold bound no_scope f.parameters

-- the mentions of a function's parameters
abbrev pub names_mentions : Scope → List Name → List Mention
names_mentions s [] = []
names_mentions s (x ∷ xs) = opened s x ∷ names_mentions (bound s x) xs

-- a function's mentions, behind its name
abbrev pub function_mentions : Function → List Mention
function_mentions f =
    mention.Counted count.Parameters (length f.parameters)
    ∷ mention.Counted count.Statements (length f.lines)
    ∷ (names_mentions no_scope f.parameters
    ++ (lines_mentions (function_scope f) f.lines ++ expr_mentions (fold after_line (function_scope f) f.lines).values f.answer))

-- the mentions of a hook's two names
abbrev pub pair_mentions : Scope → (first second : Name) → List Mention
pair_mentions s x y = opened s x ∷ opened (bound s x) y ∷ []

-- the mentions of a statement
abbrev pub statement_mentions : Scope → Statement → List Mention
statement_mentions s (state x y e) = pair_mentions s x y ++ expr_mentions s.values e
statement_mentions s (reducer x y f e) = pair_mentions s x y ++ (mention.Reduction f ∷ expr_mentions s.values e)
statement_mentions s (transition x y) = pair_mentions s x y
statement_mentions s (context x c) = opened s x ∷ mention.Context c ∷ []
statement_mentions s (use_resource x r) = opened s x ∷ mention.Resource r ∷ []
statement_mentions s (constant x e) = opened s x ∷ expr_mentions s.values e
statement_mentions s (effect layout label es) =
    mention.Quoted (length label) ∷ mention.Counted count.Dependencies (length es) ∷ flat_map (expr_mentions s.values) es
statement_mentions s (throw_if e) = expr_mentions s.values e

-- what is bound behind a statement; the second name of a hook has no value
abbrev pub after_statement : Scope → Statement → Scope
after_statement s (state x y e) = kept (bound s x) y
after_statement s (reducer x y f e) = kept (bound s x) y
after_statement s (transition x y) = kept (bound s x) y
after_statement s (context x c) = bound s x
after_statement s (use_resource x r) = bound s x
after_statement s (constant x e) = bound s x
after_statement s (effect layout label es) = s
after_statement s (throw_if e) = s

-- the mentions of statements
abbrev pub statements_mentions : Scope → List Statement → List Mention
statements_mentions s [] = []
statements_mentions s (t ∷ ts) = statement_mentions s t ++ statements_mentions (after_statement s t) ts

-- The mentions of attributes, if these names may not be attributes again.
abbrev pub attributes_mentions : (scope taken : List Name) → List Attribute → List Mention
attributes_mentions scope taken [] = []
attributes_mentions scope taken (key e ∷ attrs) =
    introduced taken key_name ∷ (expr_mentions scope e ++ attributes_mentions scope (taken ++ key_name ∷ []) attrs)
attributes_mentions scope taken (computed x e ∷ attrs) =
    introduced taken x ∷ (expr_mentions scope e ++ attributes_mentions scope (taken ++ x ∷ []) attrs)
attributes_mentions scope taken (literal x t ∷ attrs) =
    introduced taken x ∷ mention.Quoted (length t) ∷ attributes_mentions scope (taken ++ x ∷ []) attrs

-- the name of an attribute that is no key
abbrev pub given_name : Attribute → Option Name
given_name (key e) = None
given_name (computed x e) = Some x
given_name (literal x t) = Some x

-- the names of an element's attributes, `key` aside
abbrev pub given_names : List Attribute → List Name
given_names attrs = filter_map given_name attrs

-- The mentions of a key. If an earlier place of the child list carries one, it is a second one.
abbrev pub key_mentions : (scope : List Name) → (second : Bool) → Expr → List Mention
key_mentions scope second e = mention.Introduced key_name second ∷ expr_mentions scope e

-- the mentions of a key before what else is given
abbrev pub first_key_mentions : (scope : List Name) → (second : Bool) → KeyPlace → List Mention
first_key_mentions scope second unkeyed = []
first_key_mentions scope second (key_first e) = key_mentions scope second e
first_key_mentions scope second (key_last e) = []

-- the mentions of a key behind what else is given
abbrev pub last_key_mentions : (scope : List Name) → (second : Bool) → KeyPlace → List Mention
last_key_mentions scope second unkeyed = []
last_key_mentions scope second (key_first e) = []
last_key_mentions scope second (key_last e) = key_mentions scope second e

-- what may not be an attribute of an element
abbrev pub taken_first : (second : Bool) → List Name
taken_first second = cond second (key_name ∷ []) []

-- an element holds a child
abbrev pub is_filled : Slots → Bool
is_filled syntax.no_slots = false
is_filled (syntax.slot s ss) = true

-- A slot's mentions. If an earlier place of its child list carries a key, one that it carries is a second one.
abbrev mutual
  pub slot_mentions : Scope → (second : Bool) → Slot → List Mention
  slot_mentions s second syntax.null = []
  slot_mentions s second (syntax.words t) = mention.Quoted (length t) ∷ []
  slot_mentions s second (syntax.number_of e) = expr_mentions s.values e
  slot_mentions s second syntax.children = mention.Children (is_bound s children_name) ∷ []
  slot_mentions s second (syntax.repeated i e limit item) =
      opened s i
      ∷ (expr_mentions s.values e ++ (mention.Counted count.List limit ∷ slot_mentions (bound s i) false item))
  slot_mentions s second (syntax.choice c a b) =
      expr_mentions s.values c ++ (slot_mentions s second a ++ slot_mentions s second b)
  slot_mentions s second (syntax.host n attrs w ss) =
      mention.Host n
      ∷ mention.Counted count.Attributes (length attrs)
      ∷ (attributes_mentions s.values (taken_first second) attrs ++ slots_mentions s false ss)
  slot_mentions s second (syntax.comp n attrs w ss) =
      mention.Element n (given_names attrs) (is_filled ss)
      ∷ mention.Counted count.Attributes (length attrs)
      ∷ (attributes_mentions s.values (taken_first second) attrs ++ slots_mentions s false ss)
  slot_mentions s second (syntax.boundary k f w ss) =
      (first_key_mentions s.values second k ++ (slot_mentions s false f ++ last_key_mentions s.values second k))
      ++ slots_mentions s false ss
  slot_mentions s second (syntax.catcher k f w ss) =
      (first_key_mentions s.values second k ++ (slot_mentions s false f ++ last_key_mentions s.values second k))
      ++ slots_mentions s false ss
  slot_mentions s second (syntax.provider n k e w ss) =
      mention.Context n
      ∷ ((first_key_mentions s.values second k ++ (expr_mentions s.values e ++ last_key_mentions s.values second k))
      ++ slots_mentions s false ss)
  slot_mentions s second (syntax.enclosed b t) = slot_mentions s second t

  -- the mentions of a child list, or of what is left of it
  pub slots_mentions : Scope → (second : Bool) → Slots → List Mention
  slots_mentions s second syntax.no_slots = []
  slots_mentions s second (syntax.slot t ts) = slot_mentions s second t ++ slots_mentions s (second || carries_key t) ts

-- what is bound behind the parameters of a component
abbrev pub component_scope : Component → Scope
component_scope c = fold after_parameter no_scope c.parameters

-- a component's mentions, behind its name
abbrev pub component_mentions : Component → List Mention
component_mentions c =
    mention.Counted count.Parameters (length c.parameters)
    ∷ mention.Counted count.Statements (length c.statements)
    ∷ (parameters_mentions no_scope c.parameters
    ++ (statements_mentions (component_scope c) c.statements
    ++ slots_mentions (fold after_statement (component_scope c) c.statements) false (body_slots c.body)))

-- a declaration's mentions, behind its name
abbrev pub declaration_mentions : Declaration → List Mention
declaration_mentions (of_context c) = []
declaration_mentions (of_function f) = function_mentions f
declaration_mentions (of_component c) = component_mentions c

-- the mentions of declarations, if these names are declared before
abbrev pub declarations_mentions : (taken : List Name) → List Declaration → List Mention
declarations_mentions taken [] = []
declarations_mentions taken (d ∷ ds) =
    introduced taken (declared_name d) ∷ (declaration_mentions d ++ declarations_mentions (taken ++ declared_name d ∷ []) ds)

-- the mentions of a program
unfoldable pub mentions : Program → List Mention
mentions p = declarations_mentions [] p.declarations
