use Rattle.std.proofs.Common.{◌≡◌, ◌+◌, ◌%◌, ◌<◌, ◌^◌, drop}
use Rattle.std.specs.Prelude.{sum}
use Rattle.rx_gen.proofs.summing.checksum.Given as goal

abbrev pub invariant-bytes : goal.invariant-bytes
invariant-bytes l = record {
  small : l.sum < 2 ^ 32;
  so_far : (l.sum + sum (drop l.byte-index l.bytes)) % 2 ^ 32 ≡ sum l.bytes % 2 ^ 32;
}
