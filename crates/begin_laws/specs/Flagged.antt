-- What is told of lists of fibers in progress: whether their old nodes are visible, and which contexts have other values there; and what that tells of the fibers that wait there.
use Rattle.std.specs.Prelude.{◌≡◌, ℕ, true, [], ◌∷◌, List, Option, Some, None}
use Rattle.rx_lists.specs.Shapes.{Shape}
use Rattle.rx_lists.specs.Shapes as shapes
use Rattle.rx_links.specs.Drafts.{Draft, taken, made, Trees}
use Rattle.rx_links.specs.Places.{Around, top, below, placed}
use Rattle.rx_meaning.specs.Cursor.{Frame}
use Rattle.rx_fiber.specs.Fibers.{Fiber, is_visible, origin_of}
use Rattle.rx_fiber.specs.Surround.{above_list, moved_along}
use Rattle.rx_fiber.specs.Unwound.{is_trying}
use Rattle.rx_complete.specs.declared.completing.Next.{Next}
use Rattle.rx_complete.specs.declared.completing.Next.TheVariants.{Sibling, Parent, Done}
use Rattle.cost_laws.specs.Evaluated.{Flag, above_root, once_caught}
use Rattle.cost_laws.specs.Left.{Flags, flag, outer, thrown_past, unwound}

-- a fiber that waits is as a flag tells: its current fiber is visible exactly if the old node is
abbrev pub IsTold : Flag → Fiber → Type 0
IsTold u v = is_visible v.stage ≡ u.visible

-- so is each fiber of a list in progress
abbrev pub AreTold : Flag → Draft Fiber → Type 0
AreTold u (taken s) = Unit {0}
AreTold u (made id v o ks rs) = IsTold u v × AreTold u rs

-- a fiber that tries its children keeps what a flag tells of its place: whether the old node is visible
abbrev pub KeepsTold : Flag → Fiber → Type 0
KeepsTold u v = is_trying v.stage ≡ true → (origin_of v.stage).visible ≡ u.visible

-- the fibers of a list in progress have no children
abbrev pub AllBare : Draft Fiber → Type 0
AllBare (taken s) = s ≡ shapes.none
AllBare (made id v o ks rs) = (ks ≡ taken shapes.none) × AllBare rs

-- These flags are those of the lists that are open around a place, innermost first, with what follows the place in its list: the fibers that follow are as their flag tells, which knows the contexts that have moved, and a boundary above keeps what its own flag tells. Nothing is above the root.
pub data IsFlagged (current : Shape Fiber) : Around Fiber → (rest : Draft Fiber) → Flags → Type 0 where
  at_root : {k : Around Fiber} {d : Draft Fiber} → above_list k ≡ top → AllBare d → AreTold above_root d → IsFlagged current k d []
  inside : {k k₁ : Around Fiber} {d rest : Draft Fiber} {q : ℕ} {v : Fiber} {o : Option ℕ} {u : Flag} {us : Flags}
      → above_list k ≡ below q v o rest k₁ → KeepsTold (flag us) v → u.moved ≡ moved_along current k → AllBare d → AreTold u d → IsFlagged current k₁ rest us → IsFlagged current k d (u ∷ us)

-- the flags of the lists around a made fiber that has these children
pub record FlagsHere (t : Trees Fiber) (p : ℕ) (kids : Draft Fiber) (us : Flags) : Type 0 where
  pub around : Around Fiber
  pub value : Fiber
  pub old : Option ℕ
  pub rest : Draft Fiber
  pub here : t.draft ≡ placed around (made p value old kids rest)
  pub flagged : IsFlagged t.current around rest us

-- the flags when the next unit begins the place of a fiber: it is as its flag tells too
pub record FlagsAtPlace (t : Trees Fiber) (p : ℕ) (us : Flags) : Type 0 where
  pub flags : FlagsHere t p (taken shapes.none) us
  pub told : IsTold (flag us) flags.value

-- the flags when the next unit completes the node of a fiber, whose list is done
pub record FlagsAtEnd (t : Trees Fiber) (q : ℕ) (us : Flags) : Type 0 where
  pub inner : Around Fiber
  pub here : t.draft ≡ placed inner (taken shapes.none)
  pub around : Around Fiber
  pub value : Fiber
  pub old : Option ℕ
  pub rest : Draft Fiber
  pub up : above_list inner ≡ below q value old rest around
  pub flagged : IsFlagged t.current inner (taken shapes.none) us

-- the flags where a render comes from a node that is done
abbrev pub FlagsAfter : Trees Fiber → Flags → Next → Type 0
FlagsAfter t us (Sibling id) = FlagsAtPlace t id us
FlagsAfter t us (Parent id) = FlagsAtEnd t id us
FlagsAfter t us Done = Unit {0}

-- the flags where it comes from a fiber that was opened: to the first of its children, or to its end if it has none
abbrev pub FlagsOpened : Trees Fiber → (q : ℕ) → Flags → (first : Option ℕ) → Type 0
FlagsOpened t q us None = FlagsAtEnd t q us
FlagsOpened t q us (Some id) = FlagsAtPlace t id us

-- A wait has stopped at the boundary of a fiber: its fallback has the boundary's own flag, which the fiber has kept.
pub record HasUnwound (new : Trees Fiber) (q : ℕ) (v : Fiber) (fs : List Frame) (us : Flags) : Type 0 where
  pub flags : FlagsHere new q (taken shapes.none) (outer (unwound fs us))
  pub some : unwound fs us ≡ flag (outer (unwound fs us)) ∷ outer (unwound fs us)
  pub kept : (origin_of v.stage).visible ≡ (flag (outer (unwound fs us))).visible

-- A throw has stopped at the error boundary of a fiber: its fallback has the flag of one that is made anew, as the boundary's own flag tells.
pub record HasThrown (new : Trees Fiber) (q : ℕ) (fs : List Frame) (us : Flags) : Type 0 where
  pub flags : FlagsHere new q (taken shapes.none) (outer (thrown_past fs us))
  pub some : thrown_past fs us ≡ once_caught (flag (outer (thrown_past fs us))) ∷ outer (thrown_past fs us)
