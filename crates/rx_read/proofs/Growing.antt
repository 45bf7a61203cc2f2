-- How far numbers grow when fibers get theirs.
use Rattle.std.proofs.Common.{ℕ, suc, ◌+◌, ◌^◌, ◌<◌, ◌≤◌, arith, Option, None, Some}
use Rattle.rx_elem.specs.Trees.{Mark, Instance, of_instance, of_host, of_boundary, of_catcher, plain}
use Rattle.rx_elem.specs.Numbers.{Numbers, numbered_instance, numbered_host, numbered_mark}
use Rattle.rx_links.specs.Drafts.{Draft, taken, made, made_size}
use Rattle.rx_fiber.specs.Fibers.{Stage, Fiber, waiting, begun, trying, guarding, fallback}
use Rattle.rx_read.specs.Numbering.{numbered_at, numbered_fiber, numbered_draft, numbered_first, AreHeld}

-- from these numbers to those there are at most so many
pub record Grows (n : ℕ) (from to : Numbers) : Type 0 where
  pub instance : from.instance ≤ to.instance
  pub host : from.host ≤ to.host
  pub instances : to.instance ≤ from.instance + n
  pub hosts : to.host ≤ from.host + n

same : (n : ℕ) (next : Numbers) → Grows n next next
same n next = record { instance = omega arith; host = omega arith; instances = omega arith; hosts = omega arith }

both : (m n k : ℕ) (a b c : Numbers) → Grows m a b → Grows n b c → m + n ≤ k → Grows k a c
both m n k a b c p q l = record { instance = omega arith; host = omega arith; instances = omega arith; hosts = omega arith }

instance_grows : (next : Numbers) (i : Instance) (o : Option ℕ) → Grows 1 next (numbered_instance next i o).0
instance_grows next i None = record { instance = omega arith; host = omega arith; instances = omega arith; hosts = omega arith }
instance_grows next i (Some n) = same 1 next

host_grows : (next : Numbers) (o : Option ℕ) → Grows 1 next (numbered_host next o).0
host_grows next None = record { instance = omega arith; host = omega arith; instances = omega arith; hosts = omega arith }
host_grows next (Some n) = same 1 next

mark_grows : (next : Numbers) (m : Mark) → Grows 1 next (numbered_mark next m).0
mark_grows next (of_instance i) = instance_grows next i i.number
mark_grows next (of_host n) = host_grows next n
mark_grows next (of_boundary b) = same 1 next
mark_grows next (of_catcher c) = same 1 next
mark_grows next plain = same 1 next

stage_grows : (next : Numbers) (v : Fiber) (s : Stage) → Grows 1 next (numbered_at next v s).0
stage_grows next v (waiting c) = same 1 next
stage_grows next v (begun m) = mark_grows next m
stage_grows next v (trying c) = same 1 next
stage_grows next v guarding = same 1 next
stage_grows next v (fallback a) = same 1 next

pub fiber_grows : (next : Numbers) (v : Fiber) → Grows 1 next (numbered_fiber next v).0
fiber_grows next v = stage_grows next v v.stage

pub draft_grows : (next : Numbers) (w : Draft Fiber) → Grows (made_size w) next (numbered_draft next w).0
draft_grows next (taken s) = same 0 next
draft_grows next (made id v o ks rs) =
    let own = (numbered_fiber next v).0 in
    let below = (numbered_draft own ks).0 in
    both (suc (made_size ks)) (made_size rs) (suc (made_size ks + made_size rs)) next below (numbered_draft below rs).0
    (both 1 (made_size ks) (suc (made_size ks)) next own below (fiber_grows next v) (draft_grows own ks) (omega arith))
    (draft_grows below rs) (omega arith)

held : (n : ℕ) (from to : Numbers) → Grows n from to → AreHeld to → AreHeld from
held n from to g h = let a = h.instance in let b = h.host in record { instance = omega arith; host = omega arith }

-- what its first fiber needs fits, if what the whole list needs does
pub first_held : (next : Numbers) (w : Draft Fiber) → AreHeld (numbered_draft next w).0 → AreHeld (numbered_first next w).0
first_held next (taken s) h = h
first_held next (made id v o ks rs) h =
    let below = (numbered_draft (numbered_fiber next v).0 ks).0 in
    held (made_size rs) below (numbered_draft below rs).0 (draft_grows below rs) h

-- so does what the fiber itself needs
pub own_held : (next : Numbers) (v : Fiber) (ks : Draft Fiber) → AreHeld (numbered_draft (numbered_fiber next v).0 ks).0 → AreHeld (numbered_fiber next v).0
own_held next v ks h = let own = (numbered_fiber next v).0 in held (made_size ks) own (numbered_draft own ks).0 (draft_grows own ks) h

pub all_held : (next : Numbers) (w : Draft Fiber) → next.instance + made_size w < 2 ^ 64 → next.host + made_size w < 2 ^ 64 → AreHeld (numbered_draft next w).0
all_held next w a b = let g = draft_grows next w in let p = g.instances in let q = g.hosts in record { instance = omega arith; host = omega arith }
