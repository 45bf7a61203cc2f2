-- A made fiber at its place in the tree in progress, with what surrounds it.
use Rattle.std.specs.Prelude.{◌≡◌, ℕ, Option, Some, None, IfSome}
use Rattle.rx_lists.specs.Shapes.{none, Holds, IsTop}
use Rattle.rx_links.specs.Drafts.{Draft, taken, made, Trees, Makes, IsMadeList, IsOpen, IsBare, IsTopUnused, IsUnused, old_of, kids_under, rekidded, rerested, valued}
use Rattle.rx_links.specs.Readers.{made_list_at, made_parent_of}

-- what surrounds a place: the fibers whose children it is among, and the earlier siblings, the nearest first
pub data Around (F : Type 0) : Type 0 where
  top : Around F
  below : (id : ℕ) → (value : F) → (old : Option ℕ) → (rest : Draft F) → Around F → Around F
  after : (id : ℕ) → (value : F) → (old : Option ℕ) → (kids : Draft F) → Around F → Around F

module _ {F : Type 0} where
  -- a list in progress with what surrounds it
  abbrev pub placed : Around F → Draft F → Draft F
  placed top d = d
  placed (below id v o rs k) d = placed k (made id v o d rs)
  placed (after id v o ks k) d = placed k (made id v o ks d)

  -- the fiber among whose children the place is
  abbrev pub up_of : Around F → Option ℕ
  up_of top = None
  up_of (below id v o rs k) = Some id
  up_of (after id v o ks k) = up_of k

  -- what a made fiber at a place is to the two trees, and what each write there does: it changes what stands there, and nothing
  -- around it
  pub record IsAt (t : Trees F) (k : Around F) (p : ℕ) (v : F) (o : Option ℕ) (ks rs : Draft F) : Type 0 where
    pub makes : Makes t.draft p
    pub opens : IsMadeList ks → IsOpen t.draft p
    pub bare : ks ≡ taken none → IsBare t.draft p
    pub list : made_list_at t.draft p ≡ Some (made p v o ks rs)
    pub parent : made_parent_of t.draft p ≡ up_of k
    pub old : old_of t.draft p ≡ o
    pub old_held : IfSome o (Holds t.current)
    pub unused : (j : ℕ) → IsTop (kids_under t.current o) j → IsTopUnused ks j → IsUnused t.draft j
    pub kids : (f : Draft F → Draft F) → rekidded p f t.draft ≡ placed k (made p v o (f ks) rs)
    pub rest : (f : Draft F → Draft F) → rerested p f t.draft ≡ placed k (made p v o ks (f rs))
    pub value : (m : F → F) → valued p m t.draft ≡ placed k (made p (m v) o ks rs)
