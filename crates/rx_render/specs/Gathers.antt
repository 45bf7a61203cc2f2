-- When a render in progress has gathered what is at or below its fibers, and what took children over is like what it was made for.
use Rattle.std.specs.Prelude.{◌≡◌, ℕ, Option}
use Rattle.rx_lists.specs.Shapes.{none}
use Rattle.rx_links.specs.Drafts.{Draft, taken, made, Trees, grafted}
use Rattle.rx_links.specs.Places.{Around, top, below, after, placed}
use Rattle.rx_fiber.specs.Fibers.{Fiber}
use Rattle.rx_fiber.specs.Subtrees.{IsGathered, IsGatheredOver}
use Rattle.rx_fiber.specs.Surround.{above_list}
use Rattle.begin_laws.specs.Flagged.{AllBare}
use Rattle.rx_beside.specs.Alike.{AllTakeAlike}
use Rattle.rx_render.specs.declared.at.At.{At}
use Rattle.rx_render.specs.declared.at.At.TheVariants.{Begins, Completes, Over}

-- The earlier siblings of a place are gathered, and so are those of each fiber around it. What follows these fibers has no children yet.
abbrev pub AroundGathered : Around Fiber → Type 0
AroundGathered top = Unit {0}
AroundGathered (below id v o rs k) = AllBare rs × AroundGathered k
AroundGathered (after id v o ks k) = IsGatheredOver v (grafted ks) × AroundGathered k

-- what is done around a made fiber that has no children yet is gathered
pub record GatheredHere (t : Trees Fiber) (p : ℕ) : Type 0 where
  pub around : Around Fiber
  pub value : Fiber
  pub old : Option ℕ
  pub rest : Draft Fiber
  pub here : t.draft ≡ placed around (made p value old (taken none) rest)
  pub gathered : AroundGathered around
  pub follow : AllBare rest

-- what is done around the end of a list is gathered, if the node of this fiber is completed next
pub record GatheredAtEnd (t : Trees Fiber) (q : ℕ) : Type 0 where
  pub inner : Around Fiber
  pub here : t.draft ≡ placed inner (taken none)
  pub around : Around Fiber
  pub value : Fiber
  pub old : Option ℕ
  pub rest : Draft Fiber
  pub up : above_list inner ≡ below q value old rest around
  pub gathered : AroundGathered inner

-- what is done is gathered, if the next unit does this; if no unit is left, all that is there is
abbrev pub HasGathered : Trees Fiber → At → Type 0
HasGathered t (Begins id) = GatheredHere t id
HasGathered t (Completes id) = GatheredAtEnd t id
HasGathered t Over = IsGathered (grafted t.draft)

-- the same, and each fiber that took children over is like the current one that it was made for
abbrev pub IsGathering : Trees Fiber → At → Type 0
IsGathering t at = HasGathered t at × AllTakeAlike t.current t.draft
