-- What the trees tell of one fiber.
use Rattle.std.specs.Prelude.{◌≡◌, ℕ, eqb, ◌⊎◌, Option, Some, None, if◌then◌else◌}
use Rattle.rx_lists.specs.Shapes.{Shape, none, fiber, first, Holds, IsTree}
use Rattle.rx_links.specs.Drafts.{Draft, taken, made, Trees, or_else, Makes, list_at, kids_of, shape_or_none, old_kids}

module _ {F : Type 0} where
  -- the value of the first fiber of a list
  abbrev pub value_in : Option (Shape F) → Option F
  value_in None = None
  value_in (Some none) = None
  value_in (Some (fiber id v ks rs)) = Some v

  -- the later siblings of the first fiber of a list
  abbrev pub rest_in : Option (Shape F) → Shape F
  rest_in None = none
  rest_in (Some none) = none
  rest_in (Some (fiber id v ks rs)) = rs

  -- the value of a fiber of the tree
  abbrev pub value_of : Shape F → ℕ → Option F
  value_of c i = value_in (list_at c i)

  -- the later siblings of a fiber of the tree
  abbrev pub rest_of : Shape F → ℕ → Shape F
  rest_of c i = rest_in (list_at c i)

  -- the list of the tree to which a link leads
  abbrev pub list_from : Shape F → Option ℕ → Shape F
  list_from c None = none
  list_from c (Some id) = shape_or_none (list_at c id)

  -- how the links of the tree go: the first child of a fiber leads to its children, the next sibling to its later siblings, and
  -- each list is its first fiber with these. Both are in the tree, and no fiber is there twice.
  pub record IsLinked (c : Shape F) : Type 0 where
    pub root : c ≡ list_from c (first c)
    pub kids : (i : ℕ) → Holds c i → kids_of c i ≡ list_from c (first (kids_of c i))
    pub rest : (i : ℕ) → Holds c i → rest_of c i ≡ list_from c (first (rest_of c i))
    pub list : (i : ℕ) → Holds c i → (v : F) × (value_of c i ≡ Some v) × (list_from c (Some i) ≡ fiber i v (kids_of c i) (rest_of c i))
    pub once : (i : ℕ) → Holds c i → IsTree (list_from c (Some i))
    pub below : (i j : ℕ) → Holds c i → Holds (kids_of c i) j → Holds c j
    pub behind : (i j : ℕ) → Holds c i → Holds (rest_of c i) j → Holds c j

  -- the parent of a fiber, if p is the parent of the list
  abbrev pub parent_in : Option ℕ → Shape F → ℕ → Option ℕ
  parent_in p none i = None
  parent_in p (fiber id v ks rs) i = if eqb id i then p else or_else (parent_in (Some id) ks i) (parent_in p rs i)

  -- the parent of a fiber of the tree
  abbrev pub parent_of : Shape F → ℕ → Option ℕ
  parent_of c i = parent_in None c i

  -- the list in progress that begins with a made fiber
  abbrev pub made_list_at : Draft F → ℕ → Option (Draft F)
  made_list_at (taken s) i = None
  made_list_at (made id v o ks rs) i = if eqb id i then Some (made id v o ks rs) else or_else (made_list_at ks i) (made_list_at rs i)

  -- the value of the first fiber of a list in progress, if it is a made one
  abbrev pub made_value_in : Option (Draft F) → Option F
  made_value_in None = None
  made_value_in (Some (taken s)) = None
  made_value_in (Some (made id v o ks rs)) = Some v

  -- the children of that fiber
  abbrev pub made_kids_in : Option (Draft F) → Draft F
  made_kids_in None = taken none
  made_kids_in (Some (taken s)) = taken none
  made_kids_in (Some (made id v o ks rs)) = ks

  -- the later siblings of that fiber
  abbrev pub made_rest_in : Option (Draft F) → Draft F
  made_rest_in None = taken none
  made_rest_in (Some (taken s)) = taken none
  made_rest_in (Some (made id v o ks rs)) = rs

  -- the value of a made fiber
  abbrev pub made_value_of : Draft F → ℕ → Option F
  made_value_of w i = made_value_in (made_list_at w i)

  -- the children of a made fiber
  abbrev pub made_kids_of : Draft F → ℕ → Draft F
  made_kids_of w i = made_kids_in (made_list_at w i)

  -- the later siblings of a made fiber
  abbrev pub made_rest_of : Draft F → ℕ → Draft F
  made_rest_of w i = made_rest_in (made_list_at w i)

  -- the parent of a made fiber, if p is the parent of the list
  abbrev pub made_parent_in : Option ℕ → Draft F → ℕ → Option ℕ
  made_parent_in p (taken s) i = None
  made_parent_in p (made id v o ks rs) i = if eqb id i then p else or_else (made_parent_in (Some id) ks i) (made_parent_in p rs i)

  -- the parent of a made fiber
  abbrev pub made_parent_of : Draft F → ℕ → Option ℕ
  made_parent_of w i = made_parent_in None w i

  -- the fiber is current, or made for the tree in progress
  abbrev pub IsIn : Trees F → ℕ → Type 0
  IsIn t i = Holds t.current i ⊎ Makes t.draft i

  -- the current list beside which the children of a made fiber are made, and if there is none, the root
  abbrev pub list_under : Trees F → Option ℕ → Shape F
  list_under t None = t.current
  list_under t (Some p) = old_kids t p

  -- the current list beside which the list of a made fiber was made
  abbrev pub old_list : Trees F → ℕ → Shape F
  old_list t i = list_under t (made_parent_of t.draft i)
