-- New instances and hosts of a tree in progress get their numbers, fiber by fiber.
use Rattle.std.specs.Prelude.{ℕ, ◌^◌, ◌<◌, eqb, Option, None, Some, if◌then◌else◌}
use Rattle.rx_elem.specs.Numbers.{Numbers, numbered_mark}
use Rattle.rx_elem.specs.Trees.{Node}
use Rattle.commit_laws.specs.HiddenWaits.{IfNumbered}
use Rattle.rx_lists.specs.Shapes.{none}
use Rattle.rx_links.specs.Drafts.{Draft, taken, made, Trees}
use Rattle.rx_links.specs.Readers.{made_list_at}
use Rattle.rx_fiber.specs.Fibers.{Stage, Fiber, waiting, begun, trying, guarding, fallback}
use Rattle.rx_fiber.specs.Reading.{IsTreeOf}

-- a fiber of this stage with its number: its own, or else the next one
abbrev pub numbered_at : Numbers → Fiber → Stage → Numbers × Fiber
numbered_at next v (waiting c) = (next, v)
numbered_at next v (begun m) = let own = numbered_mark next m in (own.0, record v { stage = begun own.1 })
numbered_at next v (trying c) = (next, v)
numbered_at next v guarding = (next, v)
numbered_at next v (fallback a) = (next, v)

-- a fiber with its number
abbrev pub numbered_fiber : Numbers → Fiber → Numbers × Fiber
numbered_fiber next v = numbered_at next v v.stage

-- a list in progress: each made fiber before its children, and these before its later siblings; what was taken over stays
abbrev pub numbered_draft : Numbers → Draft Fiber → Numbers × Draft Fiber
numbered_draft next (taken s) = (next, taken s)
numbered_draft next (made id v o ks rs) =
    let own = numbered_fiber next v in
    let below = numbered_draft own.0 ks in
    let behind = numbered_draft below.0 rs in
    (behind.0, made id own.1 o below.1 behind.1)

-- the first fiber of a list in progress with what is below it
abbrev pub numbered_first : Numbers → Draft Fiber → Numbers × Draft Fiber
numbered_first next (taken s) = (next, taken s)
numbered_first next (made id v o ks rs) =
    let own = numbered_fiber next v in
    let below = numbered_draft own.0 ks in
    (below.0, made id own.1 o below.1 rs)

-- a list in progress, or none
abbrev pub draft_or_none : Option (Draft Fiber) → Draft Fiber
draft_or_none None = taken none
draft_or_none (Some d) = d

-- the list that begins with a made fiber
abbrev pub made_from : Draft Fiber → Option ℕ → Draft Fiber
made_from w None = taken none
made_from w (Some i) = draft_or_none (made_list_at w i)

-- the draft with the list that begins with a made fiber changed by f
abbrev pub relisted : ℕ → (Draft Fiber → Draft Fiber) → Draft Fiber → Draft Fiber
relisted i f (taken s) = taken s
relisted i f (made id v o ks rs) = if eqb id i then f (made id v o ks rs) else made id v o (relisted i f ks) (relisted i f rs)

-- the same for a link
abbrev pub relisted_from : Option ℕ → (Draft Fiber → Draft Fiber) → Draft Fiber → Draft Fiber
relisted_from None f w = w
relisted_from (Some i) f w = relisted i f w

-- the first fiber of a list in progress, if it is a made one
abbrev pub made_entry : Draft Fiber → Option ℕ
made_entry (taken s) = None
made_entry (made id v o ks rs) = Some id

-- numbers that a `u64` holds
pub record AreHeld (n : Numbers) : Type 0 where
  pub instance : n.instance < 2 ^ 64
  pub host : n.host < 2 ^ 64

-- the current tree stands for one in which each instance and each host has its number
abbrev pub IsAllNumbered : Trees Fiber → Type 0
IsAllNumbered t = (y : Option Node) × IsTreeOf y t.current × IfNumbered y
