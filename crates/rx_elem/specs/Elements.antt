-- What a body evaluates to: elements, which say what stands in each place of a tree.
use mathlib.Core.Bool.{beq}
use Rattle.std.specs.Prelude.{ℕ, suc, max, Bool, true, false, ◌&&◌, List, [], ◌∷◌, ℤ, Option, None, nat_eq, bytes_eq}
use Rattle.std.specs.Option.{option_eq}
use Rattle.std.specs.Ordering.{int_eq}
use Rattle.std.specs.Cmp.Lexicographic.{pointwise}
use Rattle.rx_base.specs.Values.{Text, Name}
use Rattle.rx_elem.specs.declared.attr.Attr.{Attr}
use Rattle.rx_elem.specs.declared.attr.AttrValue.{AttrValue}
use Rattle.rx_elem.specs.declared.attr.AttrValue.TheVariants as attr_value

-- the key of an element, if it has one
abbrev pub Key : Type 0
Key = Option ℤ

-- What stands in a place. Components and contexts are named by their numbers.
mutual
  pub data Element : Type 0 where
    -- nothing
    null : Element
    text : Text → Element
    -- an element of the host with its children
    host : Name → Key → List Attr → Elements → Element
    -- an element of a component, with its props and the children that it is given
    comp : (number : ℕ) → Key → (props : List ℤ) → (children : Elements) → Element
    -- the children of a `for`; or, if it is marked, those that stand for `children`
    list : (mark : Bool) → Elements → Element
    -- a Suspense boundary
    boundary : Key → (fallback : Element) → (primary : Elements) → Element
    -- an error boundary
    catcher : Key → (fallback : Element) → (primary : Elements) → Element
    -- a provider of a context
    provider : (context : ℕ) → Key → (given : ℤ) → Elements → Element

  -- elements in order
  pub data Elements : Type 0 where
    none : Elements
    more : Element → Elements → Elements

-- elements as a list
abbrev pub listed : Elements → List Element
listed none = []
listed (more e es) = e ∷ listed es

-- a list as elements
abbrev pub gathered : List Element → Elements
gathered [] = none
gathered (e ∷ es) = more e (gathered es)

-- how deep elements nest below one
abbrev mutual
  pub depth : Element → ℕ
  depth null = 0
  depth (text t) = 0
  depth (host n k attrs es) = suc (depth_in es)
  depth (comp c k ps es) = suc (depth_in es)
  depth (list mark es) = suc (depth_in es)
  depth (boundary k f es) = suc (max (depth f) (depth_in es))
  depth (catcher k f es) = suc (max (depth f) (depth_in es))
  depth (provider c k x es) = suc (depth_in es)

  -- the greatest of the elements
  pub depth_in : Elements → ℕ
  depth_in none = 0
  depth_in (more e es) = max (depth e) (depth_in es)

-- the key of an element
abbrev pub key_of : Element → Key
key_of null = None
key_of (text t) = None
key_of (host n k attrs es) = k
key_of (comp c k ps es) = k
key_of (list mark es) = None
key_of (boundary k f es) = k
key_of (catcher k f es) = k
key_of (provider c k x es) = k

-- what has to agree, beside the identity, for an old and a new element to be one node (react.dev, Preserving and Resetting State)
pub data Kind : Type 0 where
  -- of null, which has no node
  absent : Kind
  of_text : Kind
  of_host : Name → Kind
  of_comp : ℕ → Kind
  of_list : Kind
  of_boundary : Kind
  of_catcher : Kind
  of_provider : ℕ → Kind

-- the kind of node that an element stands for
abbrev pub kind_of : Element → Kind
kind_of null = absent
kind_of (text t) = of_text
kind_of (host n k attrs es) = of_host n
kind_of (comp c k ps es) = of_comp c
kind_of (list mark es) = of_list
kind_of (boundary k f es) = of_boundary
kind_of (catcher k f es) = of_catcher
kind_of (provider c k x es) = of_provider c

-- an element stands for a node
abbrev pub is_present : Element → Bool
is_present null = false
is_present (text t) = true
is_present (host n k attrs es) = true
is_present (comp c k ps es) = true
is_present (list mark es) = true
is_present (boundary k f es) = true
is_present (catcher k f es) = true
is_present (provider c k x es) = true

-- an element is a list that stands for `children`
abbrev pub stands_for_children : Element → Bool
stands_for_children null = false
stands_for_children (text t) = false
stands_for_children (host n k attrs es) = false
stands_for_children (comp c k ps es) = false
stands_for_children (list mark es) = mark
stands_for_children (boundary k f es) = false
stands_for_children (catcher k f es) = false
stands_for_children (provider c k x es) = false

-- two kinds of node agree; what is absent agrees with nothing
abbrev pub same_kind : Kind → Kind → Bool
same_kind of_text of_text = true
same_kind (of_host m) (of_host n) = bytes_eq m n
same_kind (of_comp c) (of_comp d) = nat_eq c d
same_kind of_list of_list = true
same_kind of_boundary of_boundary = true
same_kind of_catcher of_catcher = true
same_kind (of_provider c) (of_provider d) = nat_eq c d
same_kind _ _ = false

-- two values of an attribute are equal
abbrev pub same_value : AttrValue → AttrValue → Bool
same_value (attr_value.Number x) (attr_value.Number y) = int_eq x y
same_value (attr_value.Text s) (attr_value.Text t) = bytes_eq s t
same_value (attr_value.Number x) (attr_value.Text t) = false
same_value (attr_value.Text s) (attr_value.Number y) = false

-- two attributes are equal
abbrev pub same_attr : Attr → Attr → Bool
same_attr a b = bytes_eq a.name b.name && same_value a.value b.value

-- two keys are equal, or both are missing
abbrev pub same_key : Key → Key → Bool
same_key = option_eq int_eq

-- two elements are equal, with all that is in them; elements of two kinds never are
abbrev mutual
  pub same_element : Element → Element → Bool
  same_element null null = true
  same_element (text s) (text t) = bytes_eq s t
  same_element (host m k attrs es) (host n l others fs) =
      bytes_eq m n && (same_key k l && (pointwise same_attr attrs others && same_elements es fs))
  same_element (comp c k ps es) (comp d l qs fs) = nat_eq c d && (same_key k l && (pointwise int_eq ps qs && same_elements es fs))
  same_element (list mark es) (list other fs) = beq mark other && same_elements es fs
  same_element (boundary k e es) (boundary l f fs) = same_key k l && (same_element e f && same_elements es fs)
  same_element (catcher k e es) (catcher l f fs) = same_key k l && (same_element e f && same_elements es fs)
  same_element (provider c k x es) (provider d l y fs) = nat_eq c d && (same_key k l && (int_eq x y && same_elements es fs))
  same_element _ _ = false

  -- the elements of two lists are equal, one by one
  pub same_elements : Elements → Elements → Bool
  same_elements none none = true
  same_elements (more e es) (more f fs) = same_element e f && same_elements es fs
  same_elements none (more f fs) = false
  same_elements (more e es) none = false
