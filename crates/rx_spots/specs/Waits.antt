-- What the visible boundaries of a tree wait for, from one node down.
use Rattle.std.specs.Prelude.{◌≡◌, ℕ, ◌≤◌, Bool, false, not, ◌&&◌, ◌||◌, Option, None}
use Rattle.rx_base.specs.Awaits.{Awaits, awaits_where, has, resource_limit}
use Rattle.rx_queue.specs.Journal.{Journal, resolved_now}
use Rattle.rx_elem.specs.Trees.{Node, node, Forest, none, vacant, child, awaits_in, is_hidden}
use Rattle.rx_meaning.specs.Outcome.{is_awaited}

-- a visible node or one below it that is visible waits for a resource
abbrev mutual
  pub waits_from : Node → ℕ → Bool
  waits_from (node e m ns fs) r = (has (awaits_in m) r || (not (is_hidden m) && waits_in ns r)) || waits_in fs r

  -- one of a visible list or below waits for a resource
  pub waits_in : Forest → ℕ → Bool
  waits_in none r = false
  waits_in (vacant ns) r = waits_in ns r
  waits_in (child n ns) r = waits_from n r || waits_in ns r

-- the resources that visible hidden boundaries of a tree wait for
abbrev pub all_awaited : Option Node → Awaits
all_awaited tree = awaits_where (is_awaited tree)

-- the resources of a journal that have a value in some version are some that a program reaches
abbrev pub AreWithinReach : Journal → Type 0
AreWithinReach j = (r v : ℕ) → resource_limit ≤ r → resolved_now j r v ≡ None
