-- Which hidden boundaries are untouched.
use Rattle.std.specs.Prelude.{ℕ, ℤ, Bool, false, not, ◌&&◌, List, Option, Some, None}
use Rattle.rx_ctx.specs.Contexts.{moved_by, same_given}
use Rattle.rx_elem.specs.Elements.{Element, kind_of, same_element, same_kind}
use Rattle.rx_elem.specs.Elements as elements
use Rattle.rx_elem.specs.Trees.{Node, element_of, was_hidden}
use Rattle.rx_meaning.specs.Fresh.{Sight}
use Rattle.cost_laws.specs.Causes.{waits_still}

-- Elements

-- the context that a provider's element gives a value, with that value
abbrev pub value_given : Element → Option (ℕ × ℤ)
value_given elements.null = None
value_given (elements.text t) = None
value_given (elements.host n k attrs es) = None
value_given (elements.comp c k ps es) = None
value_given (elements.list marked es) = None
value_given (elements.boundary k f es) = None
value_given (elements.catcher k f es) = None
value_given (elements.provider c k x es) = Some (c, x)

-- what an old node gives, if there is one
abbrev pub given_before : Option Node → Option (ℕ × ℤ)
given_before None = None
given_before (Some n) = value_given (element_of n)

-- there is an old node, and its element is equal to this one
abbrev pub is_element_of : Element → Option Node → Bool
is_element_of e None = false
is_element_of e (Some n) = same_element e (element_of n)

-- Places

-- there is an old node, and it is of an element's kind
abbrev pub is_kind_of : Element → Option Node → Bool
is_kind_of e None = false
is_kind_of e (Some n) = same_kind (kind_of e) (kind_of (element_of n))

-- the children of an old node are visible: there is one of the element's kind, it is visible, and it hides nothing
abbrev pub visible_below : (visible : Bool) → Element → Option Node → Bool
visible_below visible e old = visible && (is_kind_of e old && not (was_hidden old))

-- the contexts with other values below a node that gives this, and whose old node gave that, by those at it
abbrev pub moved_more : (gives gave : Option (ℕ × ℤ)) → (moved : List ℕ) → List ℕ
moved_more None w moved = moved
moved_more (Some v) w moved = moved_by v.0 (not (same_given (Some v) w)) moved

-- the contexts with other values below a node than the committed tree has there, by those at the node
abbrev pub moved_below : (moved : List ℕ) → Element → Option Node → List ℕ
moved_below moved e old = moved_more (value_given e) (given_before old) moved

-- Boundaries

-- a hidden boundary's place is untouched: its old node is visible and no context has another value there (it stood so), its element is equal to the committed one, and nothing new has come for it
abbrev pub is_untouched : Sight → (stood : Bool) → Element → Option Node → Bool
is_untouched s stood e old = stood && (is_element_of e old && waits_still s old)

-- a boundary's place has a cause: it was hidden, and it is not untouched
abbrev pub is_retried : Sight → (stood : Bool) → Element → Option Node → Bool
is_retried s stood e old = was_hidden old && not (is_untouched s stood e old)
