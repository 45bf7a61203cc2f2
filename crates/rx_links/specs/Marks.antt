-- Values that change in both trees at once.
use Rattle.std.specs.Prelude.{ℕ, Bool, eqb, List, [], ◌∷◌, Option, Some, None, if◌then◌else◌}
use Rattle.rx_lists.specs.Shapes.{Shape, none, fiber, is_among, holds}
use Rattle.rx_links.specs.Drafts.{Draft, taken, made, Trees, kids_of}

-- the first of two lists that is not empty
abbrev pub first_way : List ℕ → List ℕ → List ℕ
first_way [] ys = ys
first_way (x ∷ xs) ys = x ∷ xs

module _ {F : Type 0} where
  -- the list with each value changed by g, which sees the id
  abbrev pub mapped : (ℕ → F → F) → Shape F → Shape F
  mapped g none = none
  mapped g (fiber id v ks rs) = fiber id (g id v) (mapped g ks) (mapped g rs)

  -- the draft with each value changed by h, which sees the id and what the fiber is for, and in what it took over by g
  abbrev pub mapped_draft : (g : ℕ → F → F) → (h : ℕ → Option ℕ → F → F) → Draft F → Draft F
  mapped_draft g h (taken s) = taken (mapped g s)
  mapped_draft g h (made id v o ks rs) = made id (h id o v) o (mapped_draft g h ks) (mapped_draft g h rs)

  -- a fiber of a list with those above it, the nearest first, if these are above the list
  abbrev pub way_in : List ℕ → Shape F → ℕ → List ℕ
  way_in above none i = []
  way_in above (fiber id v ks rs) i = if eqb id i then id ∷ above else first_way (way_in (id ∷ above) ks i) (way_in above rs i)

  -- a fiber of the tree with those above it, up to the root
  abbrev pub way_up : Shape F → ℕ → List ℕ
  way_up c i = way_in [] c i

  -- the value changed by m, if the test passes for the id
  abbrev pub changed_where : (ℕ → Bool) → (F → F) → ℕ → F → F
  changed_where p m i v = if p i then m v else v

  -- the same of a made fiber, if the test passes for the current one that it is for
  abbrev pub changed_for : (ℕ → Bool) → (F → F) → ℕ → Option ℕ → F → F
  changed_for p m i None v = v
  changed_for p m i (Some j) v = changed_where p m j v

  -- m changed each current fiber for which the test passes, in each tree that has it, and each fiber that is made for such a one
  abbrev pub marked_where : (ℕ → Bool) → (F → F) → Trees F → Trees F
  marked_where p m t =
      record { current = mapped (changed_where p m) t.current; draft = mapped_draft (changed_where p m) (changed_for p m) t.draft }

  -- m changed a current fiber and those above it up to the root, each with its alternate
  abbrev pub marked_above : (F → F) → ℕ → Trees F → Trees F
  marked_above m i t = marked_where (is_among (way_up t.current i)) m t

  -- m changed all fibers below a current one, each with its alternate
  abbrev pub marked_below : (F → F) → ℕ → Trees F → Trees F
  marked_below m i t = marked_where (holds (kids_of t.current i)) m t

  -- m changed a current fiber alone, in each tree that has it
  abbrev pub changed_current : (F → F) → ℕ → Trees F → Trees F
  changed_current m i t =
      let here : ℕ → Bool = λ j. eqb j i in
      record { current = mapped (changed_where here m) t.current; draft = mapped_draft (changed_where here m) (λ j o v. v) t.draft }
