use Rattle.std.proofs.Common.{◌∙◌, ap, sym, arith, refl, slice_index_or}
use Rattle.rx_base.specs.Awaits.{has}
use Rattle.rx_base.specs.Awaits as awaits
use Rattle.rx_queue.specs.Pairs.{in_versions}
use Rattle.rx_sched.specs.Waiting.{kept_version, waiting_where}
use Rattle.rx_sched.specs.Waiting as waiting
use Rattle.rx_sched.proofs.Waits.{version_given, lesser_written, new_written, entry_stays, waits_added}
use Rattle.rx_sched.proofs.waiting.Waiting.add.Goals as goal
use Rattle.rx_sched.proofs.waiting.Waiting.add.Goals.{then-has, then-waited, else-waited, else-has}

pub loop-resource-init : goal.loop-resource-init
loop-resource-init c = record { same = refl; adds = record { long = c.self.invariant; done = λ k lt. absurd (omega arith); left = λ k le. refl } }

pub loop-resource-preserved : goal.loop-resource-preserved
loop-resource-preserved c =
    elim c.if-has.branch [
      | then-has w ↦
          let version = version_given c.args.versions.now c.loop-resource.resource w.get.result w.copied.result w.get.ensures.lookup w.copied.ensures in
          elim w.if-waited.branch [
            | then-waited v ↦
                record {
                  same = ap (λ s. s.resources) w.self-inside-is ∙ c.loop-resource.invariant.same;
                  adds = lesser_written _ _ _ _ _ _ c.loop-resource.resource _ _ c.loop-resource.invariant.adds (omega arith)
                      (sym c.has.ensures ∙ w.if-has.true)
                      (ap (λ s. has s c.loop-resource.resource) (sym c.loop-resource.invariant.same) ∙ sym w.has-waited.ensures ∙ v.if-waited.true)
                      (w.unwrap_or-version.ensures ∙ version) (v.self-is ∙ v.min.ensures) (ap (λ s. s.versions) w.self-inside-is);
                }
            | else-waited v ↦
                record {
                  same = ap (λ s. s.resources) w.self-inside-is ∙ c.loop-resource.invariant.same;
                  adds = new_written _ _ _ _ _ _ c.loop-resource.resource _ _ c.loop-resource.invariant.adds (omega arith)
                      (sym c.has.ensures ∙ w.if-has.true)
                      (ap (λ s. has s c.loop-resource.resource) (sym c.loop-resource.invariant.same) ∙ sym w.has-waited.ensures ∙ v.if-waited.false)
                      (w.unwrap_or-version.ensures ∙ version) v.self-is (ap (λ s. s.versions) w.self-inside-is);
                }
          ]
      | else-has w ↦
          record {
            same = ap (λ s. s.resources) w.self-inside-is ∙ c.loop-resource.invariant.same;
            adds = entry_stays _ _ _ _ _ _ c.loop-resource.resource c.loop-resource.invariant.adds (sym c.has.ensures ∙ w.if-has.false) (ap (λ s. s.versions) w.self-inside-is);
          }
    ]

pub returns : goal.returns
returns c =
    ap (λ s. waiting_where (kept_version s c.loop-resource.self-inside.versions)) (c.union-self-inside.ensures ∙ ap (λ s. awaits.union s c.args.waits.now) c.loop-resource.invariant.same)
    ∙ waits_added _ _ _ _ _ c.loop-resource.resource (omega arith) c.loop-resource.invariant.adds
    ∙ ap (λ s. waiting.union s (in_versions (λ r. slice_index_or c.args.versions.now r 0) c.args.waits.now)) c.self.view_is
