-- Parts of the trees that proofs speak of.
use Rattle.std.proofs.Common.{◌≡◌, ℕ, ◌⊎◌}
use Rattle.rx_lists.specs.Shapes.{Shape, none, fiber, Holds}
use Rattle.rx_links.specs.Drafts.{Draft, taken, made}

module _ {F : Type 0} where
  -- what the draft made, without what it took over
  abbrev pub made_part : Draft F → Shape F
  made_part (taken s) = none
  made_part (made id v o ks rs) = fiber id v (made_part ks) (made_part rs)

  -- a fiber of the tree has these children
  abbrev pub HasKids : Shape F → ℕ → Shape F → Type 0
  HasKids none j k = ⊥
  HasKids (fiber id v ks rs) j k = ((id ≡ j) × (ks ≡ k)) ⊎ (HasKids ks j k ⊎ HasKids rs j k)

  -- the id is in a list that was taken over
  abbrev pub Takes : Draft F → ℕ → Type 0
  Takes (taken s) i = Holds s i
  Takes (made id v o ks rs) i = Takes ks i ⊎ Takes rs i

  -- the list itself has this made fiber
  abbrev pub MakesTop : Draft F → ℕ → Type 0
  MakesTop (taken s) i = ⊥
  MakesTop (made id v o ks rs) i = (i ≡ id) ⊎ MakesTop rs i
