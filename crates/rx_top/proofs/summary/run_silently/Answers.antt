use Rattle.std.proofs.Common.{Err, ap, arith}
use Rattle.rx_top.proofs.summary.run_silently.Goals as goal

pub returns-in-Err-OutOfMemory-clause-short : goal.returns-in-Err-OutOfMemory-clause-short
returns-in-Err-OutOfMemory-clause-short g c = c.in-Err-OutOfMemory.ensures.short (ap (λ e. Err e) c.in-Err-OutOfMemory.field-0-is)

pub returns-in-Err-Failed-clause-short : goal.returns-in-Err-Failed-clause-short
returns-in-Err-Failed-clause-short g c = absurd (omega (arith, c.in-Err-Failed.ensures.failed (ap (λ e. Err e) c.in-Err-Failed.field-0-is)))
