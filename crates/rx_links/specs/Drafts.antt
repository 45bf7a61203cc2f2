-- Two trees of fibers as plain data: the current one, and the one in progress.
use Rattle.std.specs.Prelude.{◌≡◌, ◌≢◌, ℕ, suc, ◌+◌, eqb, ◌⊎◌, Option, Some, None, if◌then◌else◌}
use Rattle.rx_lists.specs.Shapes.{Shape, none, fiber, first, Holds, IsTree}

-- a list in progress: made fibers, each with the current fiber that it was made for, or a current list that was taken over
pub data Draft (F : Type 0) : Type 0 where
  taken : Shape F → Draft F
  made : (id : ℕ) → (value : F) → (old : Option ℕ) → (kids rest : Draft F) → Draft F

-- the current tree and the tree in progress
pub record Trees (F : Type 0) : Type 0 where
  pub current : Shape F
  pub draft : Draft F

-- the first of two that is there
abbrev pub or_else : {A : Type 0} → Option A → Option A → Option A
or_else None b = b
or_else (Some x) b = Some x

module _ {F : Type 0} where
  -- the link that leads to a list in progress
  abbrev pub entry : Draft F → Option ℕ
  entry (taken s) = first s
  entry (made id v o ks rs) = Some id

  -- the fiber is made for the draft
  abbrev pub Makes : Draft F → ℕ → Type 0
  Makes (taken s) i = ⊥
  Makes (made id v o ks rs) i = (i ≡ id) ⊎ (Makes ks i ⊎ Makes rs i)

  -- each made fiber stands there once
  abbrev pub IsMadeOnce : Draft F → Type 0
  IsMadeOnce (taken s) = Unit {0}
  IsMadeOnce (made id v o ks rs) =
      (Makes ks id → ⊥) × (Makes rs id → ⊥) × ((i : ℕ) → Makes ks i → Makes rs i → ⊥) × IsMadeOnce ks × IsMadeOnce rs

  -- how many fibers are made for the draft
  abbrev pub made_size : Draft F → ℕ
  made_size (taken s) = 0
  made_size (made id v o ks rs) = suc (made_size ks + made_size rs)

  -- the made fiber i was made for this
  abbrev pub IsFor : Draft F → ℕ → Option ℕ → Type 0
  IsFor (taken s) i o = ⊥
  IsFor (made id v old ks rs) i o = ((i ≡ id) × (old ≡ o)) ⊎ (IsFor ks i o ⊎ IsFor rs i o)

  -- no fiber is made for the current fiber j
  abbrev pub IsUnused : Draft F → ℕ → Type 0
  IsUnused (taken s) j = Unit {0}
  IsUnused (made id v old ks rs) j = (old ≢ Some j) × IsUnused ks j × IsUnused rs j

  -- the current fiber that i was made for
  abbrev pub old_of : Draft F → ℕ → Option ℕ
  old_of (taken s) i = None
  old_of (made id v old ks rs) i = if eqb id i then old else or_else (old_of ks i) (old_of rs i)

  -- the made fiber that is for the current fiber j
  abbrev pub clone_of : Draft F → ℕ → Option ℕ
  clone_of (taken s) j = None
  clone_of (made id v None ks rs) j = or_else (clone_of ks j) (clone_of rs j)
  clone_of (made id v (Some o) ks rs) j = if eqb o j then Some id else or_else (clone_of ks j) (clone_of rs j)

  -- of the list itself no fiber is made for the current fiber j
  abbrev pub IsTopUnused : Draft F → ℕ → Type 0
  IsTopUnused (taken s) j = Unit {0}
  IsTopUnused (made id v old ks rs) j = (old ≢ Some j) × IsTopUnused rs j

  -- the list has only made fibers, or none
  abbrev pub IsMadeList : Draft F → Type 0
  IsMadeList (taken s) = s ≡ none
  IsMadeList (made id v o ks rs) = IsMadeList rs

  -- the fiber is made, and Q holds of its children
  abbrev pub HasMadeKids : (Draft F → Type 0) → Draft F → ℕ → Type 0
  HasMadeKids Q (taken s) i = ⊥
  HasMadeKids Q (made id v o ks rs) i = ((i ≡ id) × Q ks) ⊎ (HasMadeKids Q ks i ⊎ HasMadeKids Q rs i)

  -- the fiber is made, and has taken over no children
  abbrev pub IsOpen : Draft F → ℕ → Type 0
  IsOpen w i = HasMadeKids IsMadeList w i

  -- the list has no fibers
  abbrev pub IsEmpty : Draft F → Type 0
  IsEmpty w = w ≡ taken none

  -- the fiber is made, and has no children yet
  abbrev pub IsBare : Draft F → ℕ → Type 0
  IsBare w i = HasMadeKids IsEmpty w i

  -- the draft as a plain list: what it will be once it is current
  abbrev pub grafted : Draft F → Shape F
  grafted (taken s) = s
  grafted (made id v o ks rs) = fiber id v (grafted ks) (grafted rs)

  -- the draft with the value of a made fiber changed by m
  abbrev pub valued : ℕ → (F → F) → Draft F → Draft F
  valued i m (taken s) = taken s
  valued i m (made id v o ks rs) = made id (if eqb id i then m v else v) o (valued i m ks) (valued i m rs)

  -- the draft with the children of a made fiber changed by f
  abbrev pub rekidded : ℕ → (Draft F → Draft F) → Draft F → Draft F
  rekidded i f (taken s) = taken s
  rekidded i f (made id v o ks rs) =
      made id v o (if eqb id i then f ks else rekidded i f ks) (rekidded i f rs)

  -- the draft with what is behind a made fiber in its list changed by f
  abbrev pub rerested : ℕ → (Draft F → Draft F) → Draft F → Draft F
  rerested i f (taken s) = taken s
  rerested i f (made id v o ks rs) =
      made id v o (rerested i f ks) (if eqb id i then f rs else rerested i f rs)

  -- the draft with a new first child of a made fiber
  abbrev pub grown : ℕ → (id : ℕ) → F → Option ℕ → Draft F → Draft F
  grown i id v o w = rekidded i (λ ks. made id v o (taken none) ks) w

  -- the draft with a new fiber right behind a made one
  abbrev pub inserted : ℕ → (id : ℕ) → F → Option ℕ → Draft F → Draft F
  inserted i id v o w = rerested i (λ rs. made id v o (taken none) rs) w

  -- the draft with a current list as the children of a made fiber
  abbrev pub taking : ℕ → Shape F → Draft F → Draft F
  taking i s w = rekidded i (λ ks. taken s) w

  -- the list itself has this fiber with these children
  abbrev pub HasTop : Shape F → ℕ → Shape F → Type 0
  HasTop none j k = ⊥
  HasTop (fiber id v ks rs) j k = ((id ≡ j) × (ks ≡ k)) ⊎ HasTop rs j k

  -- the list of the tree that begins with the fiber: it and its later siblings
  abbrev pub list_at : Shape F → ℕ → Option (Shape F)
  list_at none i = None
  list_at (fiber id v ks rs) i = if eqb id i then Some (fiber id v ks rs) else or_else (list_at ks i) (list_at rs i)

  -- the children of a fiber of the tree
  abbrev pub kids_at : Shape F → ℕ → Option (Shape F)
  kids_at none i = None
  kids_at (fiber id v ks rs) i = if eqb id i then Some ks else or_else (kids_at ks i) (kids_at rs i)

  -- the list, or none
  abbrev pub shape_or_none : Option (Shape F) → Shape F
  shape_or_none None = none
  shape_or_none (Some s) = s

  -- the same: none if the tree has no such fiber
  abbrev pub kids_of : Shape F → ℕ → Shape F
  kids_of c i = shape_or_none (kids_at c i)

  -- the children that an old fiber has in the current tree
  abbrev pub kids_under : Shape F → Option ℕ → Shape F
  kids_under c None = none
  kids_under c (Some j) = kids_of c j

  -- the children of the current fiber that i was made for
  abbrev pub old_kids : Trees F → ℕ → Shape F
  old_kids t i = kids_under t.current (old_of t.draft i)

  -- what an old fiber of the list has as children: nothing if there is no old fiber
  abbrev pub IsOldKids : Shape F → Option ℕ → Shape F → Type 0
  IsOldKids c None k = k ≡ none
  IsOldKids c (Some j) k = HasTop c j k

  -- the draft was made for the current list: each fiber is new, or was made for one of this list; its children are those of the
  -- current fiber, taken over, or were made for them
  abbrev pub Follows : Shape F → Draft F → Type 0
  Follows c (taken s) = s ≡ none
  Follows c (made id v o ks rs) =
      ((k : Shape F) × IsOldKids c o k × ((ks ≡ taken k) ⊎ Follows k ks)) × Follows c rs

  -- no current fiber has two made for it
  abbrev pub IsForOne : Draft F → Type 0
  IsForOne w = (a b j : ℕ) → IsFor w a (Some j) → IsFor w b (Some j) → a ≡ b

  -- what always holds of the two trees: the links of each form a tree, no made fiber is current, a made fiber stands beside the
  -- old list that has its alternate, a current fiber has one alternate at most, and what both trees have are whole subtrees of
  -- the current one
  pub record Fits (t : Trees F) : Type 0 where
    pub once : IsTree t.current
    pub made_once : IsMadeOnce t.draft
    pub apart : (i : ℕ) → Holds t.current i → Makes t.draft i → ⊥
    pub follows : Follows t.current t.draft
    pub for_one : IsForOne t.draft
    pub whole : IsTree (grafted t.draft)
