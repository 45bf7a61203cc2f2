-- A program as the tree of its text: plain data without pointers, of which the parser, the checks and the evaluation speak. It keeps all that a program's tokens show.
use Rattle.std.specs.Prelude.{ℕ, Bool, List, [], ◌∷◌, Option, Some, None, filter_map}
use Rattle.rx_base.specs.Values.{Text, Name}
use Rattle.rx_ast.specs.declared.expr.Prefix.{Prefix}
use Rattle.rx_ast.specs.declared.expr.Operator.{Operator}

-- An expression. Parentheses are kept, and operators of one line of the grammar make one chain.
mutual
  pub data Expr : Type 0 where
    -- a number as it is written
    number : ℕ → Expr
    -- a variable
    variable : Name → Expr
    -- an expression in parentheses
    grouped : Expr → Expr
    -- an operator before its operand
    prefixed : Prefix → Expr → Expr
    -- operands of one line with an operator before each but the first; the value is taken from the left
    chain : (first : Expr) → Links → Expr
    -- `test ? first : second`
    chosen : (test first second : Expr) → Expr
    -- a call of a function
    called : (function : Name) → (arguments : Exprs) → Expr

  -- the operands of a chain behind its first, each with the operator before it
  pub data Links : Type 0 where
    no_links : Links
    link : Operator → (operand : Expr) → Links → Links

  -- expressions in order
  pub data Exprs : Type 0 where
    no_exprs : Exprs
    expr : Expr → Exprs → Exprs

-- expressions as a list
abbrev pub exprs : Exprs → List Expr
exprs no_exprs = []
exprs (expr e es) = e ∷ exprs es

-- a list of expressions as plain data
abbrev pub exprs_of : List Expr → Exprs
exprs_of [] = no_exprs
exprs_of (e ∷ es) = expr e (exprs_of es)

-- An attribute of an element. `key` stands among the others, in its place.
pub data Attribute : Type 0 where
  -- `key={value}`
  key : Expr → Attribute
  -- `name={value}`
  computed : Name → Expr → Attribute
  -- `name="text"`
  literal : Name → Text → Attribute

-- the key of a boundary, of Suspense or of errors, or of a provider: none, or before or behind what else is given there
pub data KeyPlace : Type 0 where
  unkeyed : KeyPlace
  key_first : Expr → KeyPlace
  key_last : Expr → KeyPlace

-- the key that a place holds
abbrev pub key_in : KeyPlace → Option Expr
key_in unkeyed = None
key_in (key_first e) = Some e
key_in (key_last e) = Some e

-- the key among attributes, the first if there are more
abbrev pub key_of : List Attribute → Option Expr
key_of [] = None
key_of (key e ∷ attrs) = Some e
key_of (computed x e ∷ attrs) = key_of attrs
key_of (literal x t ∷ attrs) = key_of attrs

-- how an element ends: at once, by `/>`, or by a tag of its own behind its children
pub data Ending : Type 0 where
  at_once : Ending
  by_tag : Ending

-- the brackets round a slot: parentheses round an element, or braces round a child
pub data Brackets : Type 0 where
  parentheses : Brackets
  braces : Brackets

-- What a body returns, and what stands in a place of a child list.
mutual
  pub data Slot : Type 0 where
    -- nothing
    null : Slot
    -- a text
    words : Text → Slot
    -- an integer, shown as a text
    number_of : Expr → Slot
    -- the children that the component is given
    children : Slot
    -- `for (index < bound, limit) item`
    repeated : (index : Name) → (bound : Expr) → (limit : ℕ) → (item : Slot) → Slot
    -- `test ? first : second`
    choice : (test : Expr) → (first second : Slot) → Slot
    -- an element of the host
    host : Name → List Attribute → Ending → Slots → Slot
    -- an element of a component
    comp : Name → List Attribute → Ending → Slots → Slot
    -- a Suspense boundary with its fallback
    boundary : KeyPlace → (fallback : Slot) → Ending → Slots → Slot
    -- an error boundary with its fallback
    catcher : KeyPlace → (fallback : Slot) → Ending → Slots → Slot
    -- a provider of a context
    provider : (context : Name) → KeyPlace → (value : Expr) → Ending → Slots → Slot
    -- a slot in brackets, which means what it means without them
    enclosed : Brackets → Slot → Slot

  -- slots in order
  pub data Slots : Type 0 where
    no_slots : Slots
    slot : Slot → Slots → Slots

-- slots as a list
abbrev pub slots : Slots → List Slot
slots no_slots = []
slots (slot s ss) = s ∷ slots ss

-- a list of slots as plain data
abbrev pub slots_of : List Slot → Slots
slots_of [] = no_slots
slots_of (s ∷ ss) = slot s (slots_of ss)

-- the children of an element, and of no other slot
abbrev pub inner_slots : Slot → Slots
inner_slots (host x attrs w ss) = ss
inner_slots (comp x attrs w ss) = ss
inner_slots (boundary k s w ss) = ss
inner_slots (catcher k s w ss) = ss
inner_slots (provider x k e w ss) = ss
inner_slots s = no_slots

-- the attributes of an element of the host or of a component, and of no other slot
abbrev pub attributes : Slot → List Attribute
attributes (host x attrs w ss) = attrs
attributes (comp x attrs w ss) = attrs
attributes s = []

-- the key of an element, and of no other slot
abbrev pub slot_key : Slot → Option Expr
slot_key (host x attrs w ss) = key_of attrs
slot_key (comp x attrs w ss) = key_of attrs
slot_key (boundary k s w ss) = key_in k
slot_key (catcher k s w ss) = key_in k
slot_key (provider x k e w ss) = key_in k
slot_key s = None

-- What a component returns: a slot, or a fragment's children, the fragment alone or in parentheses.
pub data Body : Type 0 where
  single : Slot → Body
  fragment : Slots → Body
  enclosed_fragment : Slots → Body

-- the child list of a body: a slot is a list of one
abbrev pub body_slots : Body → Slots
body_slots (single s) = slot s no_slots
body_slots (fragment ss) = ss
body_slots (enclosed_fragment ss) = ss

-- a statement of a component's body
pub data Statement : Type 0 where
  -- `const [name, setter] = useState(initial);`
  state : (name setter : Name) → (initial : Expr) → Statement
  -- `const [name, setter] = useReducer(function, initial);`
  reducer : (name setter function : Name) → (initial : Expr) → Statement
  -- `const [name, starter] = useTransition();`
  transition : (name starter : Name) → Statement
  -- `const name = useContext(source);`
  context : (name source : Name) → Statement
  -- `const name = use("resource");`
  use_resource : (name resource : Name) → Statement
  -- `const name = value;`
  constant : (name : Name) → (value : Expr) → Statement
  -- `useEffect("label", [depends]);`, or with `layout` `useLayoutEffect`
  effect : (layout : Bool) → (label : Text) → (depends : List Expr) → Statement
  -- `throwIf(value);`
  throw_if : (value : Expr) → Statement

-- a context with its default: whether `-` stands before the number, and the number
pub record Context : Type 0 where
  pub name : Name
  pub negative : Bool
  pub number : ℕ

-- a line of a function, which names a value
pub record Line : Type 0 where
  pub name : Name
  pub value : Expr

-- a function of integers
pub record Function : Type 0 where
  pub name : Name
  pub parameters : List Name
  pub lines : List Line
  pub answer : Expr

-- a parameter of a component: an integer, or `children`
pub data Parameter : Type 0 where
  integer : Name → Parameter
  given_children : Parameter

-- A component. `memo` tells whether it is declared by `memo`, and `braces` tells `({})` from `()` if there is no parameter.
pub record Component : Type 0 where
  pub name : Name
  pub memo : Bool
  pub braces : Bool
  pub parameters : List Parameter
  pub statements : List Statement
  pub body : Body

-- what a program declares
pub data Declaration : Type 0 where
  of_context : Context → Declaration
  of_function : Function → Declaration
  of_component : Component → Declaration

-- a program, as its declarations in order, and whether it is of version 2 of the language, which it says at its front
pub record Program : Type 0 where
  pub second : Bool
  pub declarations : List Declaration

-- the name that a declaration declares
abbrev pub declared_name : Declaration → Name
declared_name (of_context c) = c.name
declared_name (of_function f) = f.name
declared_name (of_component c) = c.name

-- the context that a declaration is
abbrev pub as_context : Declaration → Option Context
as_context (of_context c) = Some c
as_context (of_function f) = None
as_context (of_component c) = None

-- the function that a declaration is
abbrev pub as_function : Declaration → Option Function
as_function (of_context c) = None
as_function (of_function f) = Some f
as_function (of_component c) = None

-- the component that a declaration is
abbrev pub as_component : Declaration → Option Component
as_component (of_context c) = None
as_component (of_function f) = None
as_component (of_component c) = Some c

-- the contexts, in the order of the text
abbrev pub contexts : Program → List Context
contexts p = filter_map as_context p.declarations

-- the functions, in the order of the text
abbrev pub functions : Program → List Function
functions p = filter_map as_function p.declarations

-- the components, in the order of the text
abbrev pub components : Program → List Component
components p = filter_map as_component p.declarations
