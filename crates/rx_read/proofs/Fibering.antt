-- One fiber gets its number.
use Rattle.std.proofs.Common.{◌≡◌, ℕ, ◌+◌, ◌∙◌, refl, ap, Option, None, Some}
use Rattle.rx_elem.specs.Trees.{Mark, Instance, of_instance, of_host, of_boundary, of_catcher, plain}
use Rattle.rx_elem.specs.Numbers.{Numbers, numbered_instance, numbered_host, numbered_mark}
use Rattle.rx_fiber.specs.Fibers.{Stage, Fiber, waiting, begun, trying, guarding, fallback, with_number, numbered_stage}
use Rattle.rx_read.specs.Lacking.{without, mark_lacks, stage_lacks}
use Rattle.rx_read.specs.declared.numbering.Lack.TheVariants as lack
use Rattle.rx_read.specs.Numbering.{numbered_at, numbered_fiber}

instance_kept : (next : Numbers) (i : Instance) (o : Option ℕ) → without lack.Instance o ≡ lack.Nothing → numbered_instance next i o ≡ (next, of_instance i)
instance_kept next i None e = cc
instance_kept next i (Some n) e = refl

host_kept : (next : Numbers) (o : Option ℕ) → without lack.Host o ≡ lack.Nothing → numbered_host next o ≡ (next, of_host o)
host_kept next None e = cc
host_kept next (Some n) e = refl

mark_kept : (next : Numbers) (m : Mark) → mark_lacks m ≡ lack.Nothing → numbered_mark next m ≡ (next, m)
mark_kept next (of_instance i) e = instance_kept next i i.number e
mark_kept next (of_host n) e = host_kept next n e
mark_kept next (of_boundary b) e = refl
mark_kept next (of_catcher c) e = refl
mark_kept next plain e = refl

stage_kept : (next : Numbers) (v : Fiber) (s : Stage) → s ≡ v.stage → stage_lacks s ≡ lack.Nothing → numbered_at next v s ≡ (next, v)
stage_kept next v (waiting c) q e = refl
stage_kept next v (begun m) q e = ap (λ own. (own.0, record v { stage = begun own.1 })) (mark_kept next m e) ∙ ap (λ s. (next, record v { stage = s })) q
stage_kept next v (trying c) q e = refl
stage_kept next v guarding q e = refl
stage_kept next v (fallback a) q e = refl

-- a fiber that lacks nothing stays as it is
pub fiber_kept : (next : Numbers) (v : Fiber) → stage_lacks v.stage ≡ lack.Nothing → numbered_fiber next v ≡ (next, v)
fiber_kept next v e = stage_kept next v v.stage refl e

-- the numbers after an instance, and after a host
abbrev pub past_instance : Numbers → Numbers
past_instance next = record next { instance = next.instance + 1 }

abbrev pub past_host : Numbers → Numbers
past_host next = record next { host = next.host + 1 }

instance_new : (next : Numbers) (i : Instance) (o : Option ℕ) → without lack.Instance o ≡ lack.Instance
    → numbered_instance next i o ≡ (past_instance next, of_instance (record i { number = Some next.instance }))
instance_new next i None e = refl
instance_new next i (Some n) e = cc

mark_instance : (next : Numbers) (m : Mark) → mark_lacks m ≡ lack.Instance → numbered_mark next m ≡ (past_instance next, with_number next.instance m)
mark_instance next (of_instance i) e = instance_new next i i.number e
mark_instance next (of_host None) e = cc
mark_instance next (of_host (Some n)) e = cc
mark_instance next (of_boundary b) e = cc
mark_instance next (of_catcher c) e = cc
mark_instance next plain e = cc

stage_instance : (next : Numbers) (v : Fiber) (s : Stage) → stage_lacks s ≡ lack.Instance
    → numbered_at next v s ≡ (past_instance next, record v { stage = numbered_stage next.instance s })
stage_instance next v (waiting c) e = cc
stage_instance next v (begun m) e = ap (λ own. (own.0, record v { stage = begun own.1 })) (mark_instance next m e)
stage_instance next v (trying c) e = cc
stage_instance next v guarding e = cc
stage_instance next v (fallback a) e = cc

-- a new instance gets the next number of an instance
pub fiber_instance : (next : Numbers) (v : Fiber) → stage_lacks v.stage ≡ lack.Instance
    → numbered_fiber next v ≡ (past_instance next, record v { stage = numbered_stage next.instance v.stage })
fiber_instance next v e = stage_instance next v v.stage e

mark_host : (next : Numbers) (m : Mark) → mark_lacks m ≡ lack.Host → numbered_mark next m ≡ (past_host next, with_number next.host m)
mark_host next (of_instance i) e = not_host next i i.number e
  where
    not_host : (next : Numbers) (i : Instance) (o : Option ℕ) → without lack.Instance o ≡ lack.Host
        → numbered_instance next i o ≡ (past_host next, of_instance (record i { number = Some next.host }))
    not_host next i None e = cc
    not_host next i (Some n) e = cc
mark_host next (of_host None) e = refl
mark_host next (of_host (Some n)) e = cc
mark_host next (of_boundary b) e = cc
mark_host next (of_catcher c) e = cc
mark_host next plain e = cc

stage_host : (next : Numbers) (v : Fiber) (s : Stage) → stage_lacks s ≡ lack.Host
    → numbered_at next v s ≡ (past_host next, record v { stage = numbered_stage next.host s })
stage_host next v (waiting c) e = cc
stage_host next v (begun m) e = ap (λ own. (own.0, record v { stage = begun own.1 })) (mark_host next m e)
stage_host next v (trying c) e = cc
stage_host next v guarding e = cc
stage_host next v (fallback a) e = cc

-- a new host gets the next number of a host
pub fiber_host : (next : Numbers) (v : Fiber) → stage_lacks v.stage ≡ lack.Host
    → numbered_fiber next v ≡ (past_host next, record v { stage = numbered_stage next.host v.stage })
fiber_host next v e = stage_host next v v.stage e
