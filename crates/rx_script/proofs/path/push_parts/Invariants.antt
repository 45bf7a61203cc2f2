use Rattle.std.proofs.Common.{◌≡◌, length}
use Rattle.std.specs.List.{slice_split}
use Rattle.rx_script.specs.Lines.{is_slash, parts_of}
use Rattle.rx_script.proofs.Paths.{in_front}
use Rattle.rx_script.proofs.path.push_parts.Given as goal

abbrev pub invariant-parts : goal.invariant-parts
invariant-parts l =
    in_front l.fn.parts.items (parts_of (slice_split is_slash l.word)) ≡ in_front l.parts.items (parts_of (slice_split is_slash l.rest))

abbrev pub decreases-parts : goal.decreases-parts
decreases-parts l = length l.rest
